-- Texts added to some bytes one after another.
use Rattle.std.proofs.Common.{◌≡◌, ℕ, Bool, true, false, ◌+◌, ◌<◌, ◌≤◌, List, [], ◌++◌, length, length-append, Ok, Err, Result, IsErr, IsOk, is_ok, OnErr, if◌then◌else◌, append-nil, refl, sym, ap, ◌∙◌, subst, arith}
use Rattle.std.proofs.lemmas.List.{append_assoc}
use Rattle.printout.specs.Adds.{Begins, Adds}

-- what begins with what begins with the bytes begins with them
begins_on : (before mid after : List ℕ) → Begins before mid → Begins mid after → Begins before after
begins_on before mid after p q = (p.0 ++ q.0, q.1 ∙ ap (λ (xs : List ℕ). xs ++ q.0) p.1 ∙ append_assoc before p.0 q.0)

module _ {A E : Type 0} where
  -- one slice
  pub adds_slice : (before after slice text : List ℕ) (len room room_after : ℕ) (r : Result A E) → len ≡ length before → after ≡ (if is_ok r then before ++ slice else before) → OnErr r (room < len + length slice) → room ≤ room_after → slice ≡ text → Adds before room text r after room_after
  adds_slice before after slice text len room room_after (Ok x) l e f g s = record {
    ok = e ∙ ap (λ (xs : List ℕ). before ++ xs) s;
    begins = (slice, e);
    full = tt;
    grows = g;
  }
  adds_slice before after slice text len room room_after (Err x) l e f g s = record {
    ok = tt;
    begins = ([], e ∙ sym (append-nil before));
    full = (let k = ap length s in omega (arith, f, l, k));
    grows = g;
  }

  -- nothing
  pub adds_none : (before : List ℕ) (room : ℕ) (x : A) → Adds before room [] {A = A} {E = E} (Ok x) before room
  adds_none before room x = record { ok = sym (append-nil before); begins = ([], sym (append-nil before)); full = tt; grows = omega arith }

  -- a text, and then another
  pub adds_then : {A' E' : Type 0} (before mid after text more : List ℕ) (room room_mid room_after : ℕ) (x : A') (r : Result A E) → Adds before room text {A = A'} {E = E'} (Ok x) mid room_mid → Adds mid room_mid more r after room_after → Adds before room (text ++ more) r after room_after
  adds_then before mid after text more room room_mid room_after x (Ok y) p q = record {
    ok = q.ok ∙ ap (λ (xs : List ℕ). xs ++ more) p.ok ∙ append_assoc before text more;
    begins = begins_on before mid after p.begins q.begins;
    full = tt;
    grows = (let a = p.grows in let b = q.grows in omega (arith, a, b));
  }
  adds_then before mid after text more room room_mid room_after x (Err y) p q = record {
    ok = tt;
    begins = begins_on before mid after p.begins q.begins;
    full = (let a = p.grows in let b = q.full in let c = ap length p.ok in let d = length-append before text in let k = length-append text more in omega (arith, a, b, c, d, k));
    grows = (let a = p.grows in let b = q.grows in omega (arith, a, b));
  }

  -- where memory ran out within a text, it ran out within a longer one
  pub adds_err : {A' E' : Type 0} (before after text more whole : List ℕ) (room room_after : ℕ) (x : E') (r : Result A E) → IsErr r → text ++ more ≡ whole → Adds before room text {A = A'} {E = E'} (Err x) after room_after → Adds before room whole r after room_after
  adds_err before after text more whole room room_after x (Ok y) err is p = absurd (let z : ◌≡◌ {A = Bool} false true = err in cc)
  adds_err before after text more whole room room_after x (Err y) err is p = record {
    ok = tt;
    begins = p.begins;
    full = (let a = p.full in let k = length-append text more in let e = ap length is in omega (arith, a, k, e));
    grows = p.grows;
  }

  -- a text is added behind the first part of another, whose rest begins with it
  pub more_after : {A' E' : Type 0} (before mid after so_far text rest left whole : List ℕ) (room room_mid room_after : ℕ) (x y : A) (z : A') → Adds before room so_far {A = A} {E = E} (Ok x) mid room_mid → Adds mid room_mid text {A = A'} {E = E'} (Ok z) after room_after → so_far ++ rest ≡ whole → text ++ left ≡ rest → (s : List ℕ) × Adds before room s {A = A} {E = E} (Ok y) after room_after × (s ++ left ≡ whole)
  more_after before mid after so_far text rest left whole room room_mid room_after x y z p q parts first =
      let r = adds_then before mid after so_far text room room_mid room_after x (Ok y) p (record { ok = q.ok; begins = q.begins; full = tt; grows = q.grows }) in
      (so_far ++ text, r, append_assoc so_far text left ∙ ap (λ (xs : List ℕ). so_far ++ xs) first ∙ parts)

-- or memory runs out there
pub stopped : {A E A' E' A'' E'' : Type 0} (before mid after so_far text rest left whole : List ℕ) (room room_mid room_after : ℕ) (x : A) (z : E') (r : Result A'' E'') → IsErr r → Adds before room so_far {A = A} {E = E} (Ok x) mid room_mid → Adds mid room_mid text {A = A'} {E = E'} (Err z) after room_after → so_far ++ rest ≡ whole → text ++ left ≡ rest → Adds before room whole r after room_after
stopped before mid after so_far text rest left whole room room_mid room_after x z r err p q parts first =
    let e = adds_err mid after text left rest room_mid room_after z r err first q in
    subst (λ (w : List ℕ). Adds before room w r after room_after) parts (adds_then before mid after so_far rest room room_mid room_after x r p e)

-- where there was room, no memory was wanted
pub adds_room : {A E : Type 0} (before after text : List ℕ) (len room room_after : ℕ) (r : Result A E) → Adds before room text r after room_after → len ≡ length before → len + length text ≤ room → IsOk r
adds_room before after text len room room_after (Ok x) p l fits = refl
adds_room before after text len room room_after (Err x) p l fits = absurd (let f = p.full in omega (arith, f, l, fits))

-- before the first text all of them are to come
pub adds_first : (before : List ℕ) (room : ℕ) (whole : List ℕ) → (so_far : List ℕ) × Adds before room so_far {A = Unit {0}} {E = Unit {0}} (Ok tt) before room × (so_far ++ whole ≡ whole)
adds_first before room whole = ([], adds_none before room tt, refl)
