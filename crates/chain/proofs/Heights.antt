-- Walking up a chain of lenders.
use Rattle.std.proofs.Common.{◌≡◌, ℕ, suc, ◌+◌, ◌-◌, ◌<◌, Bool, true, false, cond, eqb, List, [], ◌∷◌, length, Some, None, Option, refl, ap, ◌∙◌, arith}
use mathlib.Core.Logic.{∥∥₁_elim}
use native.Mathlib.Bridge.{le_prop}
use Rattle.lending.specs.declared.lease.Lease.{Lease}
use Rattle.lending.specs.Orderly.{Orderly}
use Rattle.lending.specs.Roll.{find, lenders, lender_then}
use Rattle.lending.proofs.Rolls.{find_in}
use Rattle.chain.specs.Means.{lender_of_lease}

module _ {S : Type 0} where
  -- a lease that has a lender has it for its lender
  lends_it : (o : Option (Lease S)) (p : ℕ) → Some p ≡ lender_of_lease o → (l : Lease S) × (o ≡ Some l) × (l.lender ≡ p)
  lends_it None p e = cc
  lends_it (Some l) p e = (l, refl, go (eqb l.lender 0) e)
    where
      go : (b : Bool) → Some p ≡ cond b None (Some l.lender) → l.lender ≡ p
      go true e = cc
      go false e = cc

  some_then : (rest : ℕ → List ℕ) (o : Option (Lease S)) (p : ℕ) → Some p ≡ lender_of_lease o → lender_then o rest ≡ p ∷ rest p
  some_then rest None p e = cc
  some_then rest (Some l) p e = go (eqb l.lender 0) e
    where
      go : (b : Bool) → Some p ≡ cond b None (Some l.lender) → cond b [] (l.lender ∷ rest l.lender) ≡ p ∷ rest p
      go true e = cc
      go false e = let z : l.lender ≡ p = cc in ap (λ q. q ∷ rest q) z

module _ {S : Type 0} (roll : List (Lease S)) (n : ℕ) where
  -- above a lease that has a lender there is that one, with what is above it
  pub goes_on : (a i p : ℕ) → i < a → Some p ≡ lender_of_lease (find roll n) → length (lenders (a - i) roll n) ≡ length (lenders (a - (i + 1)) roll p) + 1
  goes_on a i p h e =
      let q : a - i ≡ suc (a - (i + 1)) = omega arith in
      let s : length (lenders (suc (a - (i + 1))) roll n) ≡ suc (length (lenders (a - (i + 1)) roll p)) = ap length (some_then (λ m. lenders (a - (i + 1)) roll m) (find roll n) p e) in
      ap (λ j. length (lenders j roll n)) q ∙ s ∙ omega arith

  -- a lender's number is lower
  pub lower : (issued : ℕ) → ∥ Orderly roll issued ∥₁ → (p : ℕ) → Some p ≡ lender_of_lease (find roll n) → p < n
  lower issued o p e =
      let f = lends_it (find roll n) p e in
      let m = find_in roll n f.0 f.1 in
      let less : f.0.lender < f.0.number = ∥∥₁_elim o (λ x y. le_prop x y) (λ q. q.lower f.0 m.0) in
      let number = m.1 in let lender = f.2 in omega arith
