-- What an office's answer at a position says of the leases from there on.
use Rattle.std.proofs.Common.{◌≡◌, ℕ, zero, suc, ◌+◌, ◌<◌, true, false, List, [], ◌∷◌, length, drop, Ok, Err, Some, None, Option, Result, MatchOption, IsSome, refl, sym, ap, ◌∙◌, add-one, length-drop, arith}
use Rattle.std.specs.Result.{result_ok}
use mathlib.Core.Option as maybe
use lib.ListN.{get_elem?}
use Rattle.lending.specs.declared.lease.Lease.{Lease}
use Rattle.lending.specs.declared.refusal.Refusal.{Refusal}
use Rattle.shares.specs.Kind.{Kind}
use Rattle.lending.specs.Office.{State}
use Rattle.lending.specs.Outcome.{tell_at}
use Rattle.lending.specs.Outcome.Call.{ask_lease_at}
use Rattle.lending.specs.Perform.{Does, Ends}
use Rattle.lending.specs.Answers.{lease_or_refused}

module _ {A : Type 0} where
  none_left : (xs : List A) (i : ℕ) → get_elem? xs i ≡ maybe.none → drop i xs ≡ []
  none_left [] zero e = refl
  none_left [] (suc i) e = refl
  none_left (x ∷ xs) zero e = cc
  none_left (x ∷ xs) (suc i) e = none_left xs i e

  drop_suc : (xs : List A) (i : ℕ) (x : A) → get_elem? xs i ≡ maybe.some x → drop i xs ≡ x ∷ drop (suc i) xs
  drop_suc [] i x e = cc
  drop_suc (y ∷ ys) zero x e = cc
  drop_suc (y ∷ ys) (suc i) x e = drop_suc ys i x e

  -- o is the first item from a position on, or there is none there
  abbrev pub First : ℕ → List A → Option A → Type 0
  First i xs o = MatchOption o (drop i xs ≡ []) (λ x. drop i xs ≡ x ∷ drop (i + 1) xs)

  pub first_within : (i : ℕ) (xs : List A) (o : Option A) → First i xs o → IsSome o → i < length xs
  first_within i xs None e h = let z : false ≡ true = h in cc
  first_within i xs (Some x) e h = let n = ap length e in omega (arith, length-drop i xs)

module _ {S : Type 0} (K : Kind S) (s t : State S) where
  pub first_lease : (i : ℕ) (r : Result (Lease S) Refusal) → Does K s (ask_lease_at i) (lease_or_refused r) t → First i s.core.roll (result_ok r)
  first_lease i r d = go (get_elem? s.core.roll i) refl r d
    where
      go : (o : maybe.Option (Lease S)) → get_elem? s.core.roll i ≡ o → (r : Result (Lease S) Refusal) → Ends (tell_at s.core.depth o) s (lease_or_refused r) t → First i s.core.roll (result_ok r)
      go maybe.none f (Ok y) d = let g = d.0 in cc
      go maybe.none f (Err h) d = none_left s.core.roll i f
      go (maybe.some z) f (Ok y) d = let g = d.0 in let k : get_elem? s.core.roll i ≡ maybe.some y = cc in drop_suc s.core.roll i y k ∙ ap (λ j. y ∷ drop j s.core.roll) (sym (add-one i))
      go (maybe.some z) f (Err h) d = let g = d.0 in cc
