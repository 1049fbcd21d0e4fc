-- What an office's answer at a position says of the roll.
use Rattle.std.proofs.Common.{◌≡◌, ℕ, zero, suc, List, [], ◌∷◌, slice_get, Ok, Err, Some, None, Result, refl, sym}
use mathlib.Core.Option as maybe
use lib.ListN.{get_elem?}
use Rattle.std.specs.Result.{result_ok}
use Rattle.lending.specs.declared.lease.Lease.{Lease}
use Rattle.lending.specs.declared.refusal.Refusal.{Refusal}
use Rattle.shares.specs.Kind.{Kind}
use Rattle.lending.specs.Office.{State}
use Rattle.lending.specs.Outcome.{tell_at}
use Rattle.lending.specs.Outcome.Call.{ask_lease_at}
use Rattle.lending.specs.Perform.{Does, Ends}
use Rattle.lending.specs.Answers.{lease_or_refused}

module _ {A : Type 0} where
  item_at : (xs : List A) (i : ℕ) (x : A) → get_elem? xs i ≡ maybe.some x → slice_get xs i ≡ Some x
  item_at [] i x e = cc
  item_at (y ∷ ys) zero x e = cc
  item_at (y ∷ ys) (suc i) x e = item_at ys i x e

  none_at : (xs : List A) (i : ℕ) → get_elem? xs i ≡ maybe.none → slice_get xs i ≡ None
  none_at [] i e = refl
  none_at (y ∷ ys) zero e = cc
  none_at (y ∷ ys) (suc i) e = none_at ys i e

module _ {S : Type 0} (K : Kind S) (s t : State S) where
  pub lease_there : (i : ℕ) (r : Result (Lease S) Refusal) → Does K s (ask_lease_at i) (lease_or_refused r) t → result_ok r ≡ slice_get s.core.roll i
  lease_there i r d = go (get_elem? s.core.roll i) refl r d
    where
      go : (o : maybe.Option (Lease S)) → get_elem? s.core.roll i ≡ o → (r : Result (Lease S) Refusal) → Ends (tell_at s.core.depth o) s (lease_or_refused r) t → result_ok r ≡ slice_get s.core.roll i
      go maybe.none f (Ok y) d = let g = d.0 in cc
      go maybe.none f (Err h) d = sym (none_at s.core.roll i f)
      go (maybe.some z) f (Ok y) d = let g = d.0 in let k : get_elem? s.core.roll i ≡ maybe.some y = cc in sym (item_at s.core.roll i y k)
      go (maybe.some z) f (Err h) d = let g = d.0 in cc
