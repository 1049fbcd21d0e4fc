-- Where a lease stands in a roll.
use Rattle.std.specs.Prelude.{◌≡◌, ℕ, ◌<◌, List, length, Some, None, Option, slice_index_or, slice_set}
use Rattle.std.proofs.Math.Option as maybe
use Rattle.std.proofs.Math.ListN.{get_elem?}
use Rattle.std.specs.List.{remove}
use Rattle.lending.specs.declared.lease.Lease.{Lease}
use Rattle.lending.specs.Roll.{find, change, close}

module _ {S : Type 0} where
  -- the lease at a position
  abbrev pub At : List (Lease S) → ℕ → Option (Lease S) → Type 0
  At xs i None = get_elem? xs i ≡ maybe.none
  At xs i (Some x) = get_elem? xs i ≡ maybe.some x

  -- place k has the lease of number n: so it is found, changed and closed there
  pub record Found (n : ℕ) (xs : List (Lease S)) (k : ℕ) : Type 0 where
    pub within : k < length xs
    pub named : (d : Lease S) → (slice_index_or xs k d).number ≡ n
    pub is : (d : Lease S) → find xs n ≡ Some (slice_index_or xs k d)
    pub changes : (f : Lease S → Lease S) (d : Lease S) → change n f xs ≡ slice_set xs k (f (slice_index_or xs k d))
    pub closes : close n xs ≡ remove xs k

  -- the place of number n, if it is live
  abbrev pub Looked : ℕ → List (Lease S) → Option ℕ → Type 0
  Looked n xs None = find xs n ≡ None
  Looked n xs (Some k) = Found n xs k
