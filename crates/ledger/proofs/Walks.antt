-- Whether a lease of a roll passes a test, by the leases from a place on.
use Rattle.std.proofs.Common.{◌≡◌, ℕ, zero, suc, ◌<◌, ◌≤◌, Bool, false, true, ◌||◌, leb, eqb, Bor, List, [], ◌∷◌, length, get_or, drop, sym, refl, ap, ◌∙◌, le_of_suc-le-suc, arith}
use mathlib.Core.List.{Memᴰ}
use mathlib.Core.Logic.{∥∥₁_elim}
use native.Mathlib.Bridge.{le_prop}
use denote.Param.Members.{Mut}
use Rattle.std.specs.Fn.{Called, ComputesKey}
use Rattle.std.specs.List.{list_any}
use Rattle.std.specs.List.Sorted.{IsPartitionedBy, IsPartitionPoint}
use Rattle.std.proofs.lemmas.Bool.{ne_eqb, leb-true}
use Rattle.std.proofs.lemmas.List.Sorted.{IsPartitionPoint-from_clause, IsPartitionedBy-leb}
use Rattle.lending.specs.declared.lease.Lease.{Lease}
use Rattle.lending.specs.Orderly.{Orderly}
use Rattle.lending.specs.Roll.{lends}
use Rattle.lending.proofs.Order.{orderly_rises}
use Rattle.ledger.proofs.Places.{numbers_rise}

module _ {A : Type 0} (p : A → Bool) where
  -- where the first k fail, the others decide
  pub some_after : (xs : List A) (k : ℕ) → ((j : ℕ) (d : A) → j < k → j < length xs → p (get_or xs j d) ≡ false) → list_any p (drop k xs) ≡ list_any p xs
  some_after [] zero h = refl
  some_after [] (suc k) h = refl
  some_after (x ∷ xs) zero h = refl
  some_after (x ∷ xs) (suc k) h = some_after xs k (λ j d l m. h (suc j) d (omega arith) (omega arith)) ∙ ap (λ b. b || list_any p xs) (sym (h 0 x (omega arith) (omega arith)))

module _ {S : Type 0} where
  mem_at : (xs : List (Lease S)) (j : ℕ) (d : Lease S) → j < length xs → Memᴰ (get_or xs j d) xs
  mem_at [] j d m = absurd (omega arith)
  mem_at (x ∷ xs) zero d m = Memᴰ.head refl
  mem_at (x ∷ xs) (suc j) d m = Memᴰ.tail (mem_at xs j d (le_of_suc-le-suc m))

  -- a lease that another lends stands behind those whose numbers a closure told to be no higher
  pub lends_behind : {F : Type 0} {g : Mut F (Bor (Lease S) × Unit {0}) Bool} {f : F} (n k : ℕ) (roll : List (Lease S)) (issued : ℕ) → ∥ Orderly roll issued ∥₁ → ((q : Lease S → Bool) → ComputesKey g q f → IsPartitionedBy q roll → IsPartitionPoint (λ y. q y ≡ true) (λ y. q y ≡ false) roll k) → ((a : Bor (Lease S) × Unit {0}) (r : Bool) (h : F) → Called g f a r h → (r ≡ leb a.0.now.number n) × (h ≡ f)) → lends (drop k roll) n ≡ lends roll n
  lends_behind n k roll issued o clause told =
      let parted = IsPartitionedBy-leb (λ (l : Lease S). l.number) roll n (numbers_rise roll (orderly_rises roll issued o)) in
      let point = IsPartitionPoint-from_clause (λ (l : Lease S). leb l.number n) roll k clause parted told in
      some_after (λ l. eqb l.lender n) roll k (λ j d h m. ne_eqb (get_or roll j d).lender n (λ e. let a : (get_or roll j d).number ≤ n = leb-true _ _ (point.0 j d (omega arith) h) in let b = lower_at j d m in omega arith))
    where
      lower_at : (j : ℕ) (d : Lease S) → j < length roll → (get_or roll j d).lender < (get_or roll j d).number
      lower_at j d m = ∥∥₁_elim o (λ x y. le_prop x y) (λ q. q.lower (get_or roll j d) (mem_at roll j d m))
