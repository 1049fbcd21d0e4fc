-- What holds of every state that an office can have, and of the rows that were lent to it.
use Rattle.std.specs.Prelude.{◌≡◌, ◌<◌, ◌≤◌, min, List, length, take, drop, Some}
use Rattle.lending.specs.declared.lease.Lease.{Lease}
use Rattle.lending.specs.Limits.{last_day, last_number, most_rows, most_layers}
use Rattle.lending.specs.Office.{Refusal, Request, State}
use Rattle.lending.specs.Orderly.{Orderly}

module _ {S : Type 0} where
  -- the rows that an office never uses
  abbrev pub unused : List (Lease S) → List (Lease S)
  unused rows = drop most_rows rows

  -- What holds of an office that stands for s, with these rows:
  pub record Lawful (s : State S) (rows : List (Lease S)) : Type 0 where
    -- its capacity is the first 1,024 rows, or all if fewer,
    pub capacity : s.core.capacity ≡ min most_rows (length rows)
    -- and the roll stands in the first of them
    pub fits : length s.core.roll ≤ s.core.capacity
    pub stands : take (length s.core.roll) rows ≡ s.core.roll
    pub numbers : s.core.issued ≤ last_number
    pub days : s.core.today ≤ last_day
    pub orderly : ∥ Orderly s.core.roll s.core.issued ∥₁
    -- an objection's level is below the depth, in every pile of up to 255 layers
    pub levels : s.core.depth ≤ most_layers → (q : Request) (r : Refusal) → s.objections q ≡ Some r
        → r.level < s.core.depth
