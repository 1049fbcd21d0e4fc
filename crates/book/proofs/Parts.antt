-- Where the parts of a book stand in its bytes.
use Rattle.std.proofs.Common.{◌≡◌, ℕ, ◌+◌, ◌*◌, ◌/◌, ◌%◌, ◌<◌, List, ◌∷◌, ◌++◌, length, take, drop, get_or, Some, None, Option, nat_lt, refl, ap, sym, ◌∙◌, arith}
use Rattle.std.specs.Prelude.{if◌then◌else◌}
use Rattle.std.proofs.lemmas.Bool.{lt-ltb}
use Rattle.std.proofs.lemmas.List.{get_or-drop, get_or_append_left, drop-drop, drop_at}
use Rattle.book.specs.Limits.{header_size, record_size}
use Rattle.book.specs.Books.{event_count, event_in}

within : {A : Type 0} (i n : ℕ) (x y : Option A) → i < n → (if nat_lt i n then x else y) ≡ x
within i n x y h = let t = lt-ltb i n h in rw t

code_at : (b codes records : List ℕ) (i : ℕ) → drop header_size b ≡ codes ++ records → i < length codes → get_or b (header_size + i) 0 ≡ get_or codes i 0
code_at b codes records i e h = sym (get_or-drop header_size b i 0) ∙ ap (λ x. get_or x i 0) e ∙ get_or_append_left codes records 0 i h

record_at : (b codes records : List ℕ) (n i : ℕ) → drop header_size b ≡ codes ++ records → length codes ≡ n → drop (header_size + n + record_size * i) b ≡ drop (record_size * i) records
record_at b codes records n i e l =
    sym (drop-drop (record_size * i) (header_size + n) b) ∙ ap (drop (record_size * i)) (sym (drop-drop n header_size b) ∙ ap (drop n) e ∙ drop_at codes records n l)

part : (b codes records : List ℕ) (n i : ℕ) → event_count b ≡ n → drop header_size b ≡ codes ++ records → length codes ≡ n → i < length codes →
    event_in b i ≡ Some (get_or codes i 0, take record_size (drop (record_size * i) records))
part b codes records n i c e l h =
    let code = code_at b codes records i e h in
    let bytes = record_at b codes records (event_count b) i e (l ∙ sym c) in
    within i (event_count b) _ None (omega arith) ∙ (cc (code, bytes))

-- an event, by the two arrays
pub event_at : (n kind chain term : ℕ) (codes records : List ℕ) (i : ℕ) → length codes ≡ n → i < length codes →
    event_in (n % 256 ∷ n / 256 ∷ kind ∷ chain ∷ term % 256 ∷ term / 256 ∷ 0 ∷ 0 ∷ (codes ++ records)) i ≡ Some (get_or codes i 0, take record_size (drop (record_size * i) records))
event_at n kind chain term codes records i l h =
    let count : n % 256 + 256 * (n / 256) ≡ n = omega arith in
    part (n % 256 ∷ n / 256 ∷ kind ∷ chain ∷ term % 256 ∷ term / 256 ∷ 0 ∷ 0 ∷ (codes ++ records)) codes records n i count refl l h
