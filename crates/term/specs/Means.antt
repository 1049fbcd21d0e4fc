-- What the rule Term objects to.
use Rattle.std.specs.Prelude.{ℕ, ◌+◌, None, nat_lt, List, Option}
use Rattle.lending.specs.declared.lease.Lease.{Lease}
use Rattle.lending.specs.Office.{Request}
use Rattle.lending.specs.Office.Request.{opening, delegating, assigning}
use Rattle.lending.specs.Layers.{Own, number_if}

-- 22: a lease is delegated until more than so many days after today
abbrev pub term_objects : {S : Type 0} → ℕ → List (Lease S) → ℕ → Request → Option ℕ
term_objects days roll today (opening resource holder) = None
term_objects days roll today (delegating lender holder due) = number_if (nat_lt (today + days) due) 22
term_objects days roll today (assigning lease holder) = None

-- the layer with this rule
abbrev pub term_rule : {S : Type 0} → ℕ → Own S
term_rule days = record { objects = term_objects days }
