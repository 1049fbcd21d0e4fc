-- The first leases of a roll are in order.
use Rattle.std.proofs.Common.{◌≡◌, ℕ, zero, suc, List, [], ◌∷◌, take, ⊎_elim}
use mathlib.Core.List.Memᴰ
use mathlib.Core.List.{Memᴰ}
use Rattle.lending.specs.declared.lease.Lease.{Lease}
use Rattle.lending.specs.Orderly.{Orderly}
use Rattle.lending.specs.Roll.{Rising}

module _ {S : Type 0} where
  mem_take : (n : ℕ) (xs : List (Lease S)) (x : Lease S) → Memᴰ x (take n xs) → Memᴰ x xs
  mem_take zero xs x m = elim m [ ]
  mem_take (suc n) [] x m = elim m [ ]
  mem_take (suc n) (y ∷ ys) x m = ⊎_elim (λ (e : x ≡ y). Memᴰ.head e) (λ (k : Memᴰ x (take n ys)). Memᴰ.tail (mem_take n ys x k)) (Memᴰ.cases_cons m)

  rising_take : (lo n : ℕ) (xs : List (Lease S)) → Rising lo xs → Rising lo (take n xs)
  rising_take lo zero xs r = tt
  rising_take lo (suc n) [] r = tt
  rising_take lo (suc n) (x ∷ xs) r = (r.0, rising_take x.number n xs r.1)

  pub orderly_take : (n : ℕ) (roll : List (Lease S)) (issued : ℕ) → Orderly roll issued → Orderly (take n roll) issued
  orderly_take n roll issued o = record {
    rising = rising_take 0 n roll o.rising;
    within = λ l m. o.within l (mem_take n roll l m);
    lower = λ l m. o.lower l (mem_take n roll l m);
    dues = λ l p m k. o.dues l p (mem_take n roll l m) (mem_take n roll p k);
    ranged = λ l m. o.ranged l (mem_take n roll l m);
  }
