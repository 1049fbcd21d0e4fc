use Rattle.std.proofs.Common.{◌≡◌, ℕ, List, length, take, drop, Ok, Err, Result, IsUtf8, sym, ap, ◌∙◌, subst, rules}
use Rattle.std.specs.Result.{IsOk, MatchResult}
use Rattle.std.proofs.lemmas.List.{take_at}
use Rattle.std.proofs.lemmas.Str.{IsUtf8-from_ascii}
use Rattle.shares.specs.Text.{in_front}
use Rattle.shares.proofs.text.text_in.Goals as goal

-- the front of a space that holds a text
front : (text before after : List ℕ) (n : ℕ) → n ≡ length text → after ≡ in_front text before → take n after ≡ text
front text before after n l e = ap (take n) e ∙ take_at text (drop (length text) before) n (sym l)

-- what can't be refused is read
read : {A E U : Type 0} (P : A → Type 0) (Q : E → Type 0) (r : Result A E) → MatchResult r P (λ e. (U → ⊥) × Q e) → U → IsOk r
read P Q (Ok x) m u = search rules
read P Q (Err e) m u = absurd (m.0 u)

pub unwrap-requires : goal.unwrap-requires
unwrap-requires g c =
    let share = c.args.share in
    let text = g.S.Printed.text share in
    let n = c.write-length.result in
    let e : take n c.write-length.new.space ≡ text = front text _ c.write-length.new.space n c.write-length.ensures.length c.write-length.ensures.bytes in
    read _ _ c.from_utf8.result c.from_utf8.ensures.cases (subst IsUtf8 (sym e) (IsUtf8-from_ascii text (g.met.S.PlainText.ascii share)))
