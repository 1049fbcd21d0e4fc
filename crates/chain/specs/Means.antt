-- What the rule Chain objects to.
use Rattle.std.specs.Prelude.{ℕ, if◌then◌else◌, ◌&&◌, Some, None, Option, ◌==◌, nat_le, List}
use Rattle.lending.specs.declared.lease.Lease.{Lease}
use Rattle.lending.specs.Office.{Request}
use Rattle.lending.specs.Office.Request.{opening, delegating, assigning}
use Rattle.lending.specs.Roll.{live, height}
use Rattle.lending.specs.Layers.{Own, number_if}

-- the lender of a lease, if there is the lease and its lender is not the house
abbrev pub lender_of_lease : {S : Type 0} → Option (Lease S) → Option ℕ
lender_of_lease None = None
lender_of_lease (Some l) = if l.lender == 0 then None else Some l.lender

-- 23: the lender is live and has so many leases above it or more
abbrev pub chain_objects : {S : Type 0} → ℕ → List (Lease S) → ℕ → Request → Option ℕ
chain_objects limit roll today (opening resource holder) = None
chain_objects limit roll today (delegating lender holder due) =
    number_if (live roll lender && nat_le limit (height roll lender)) 23
chain_objects limit roll today (assigning lease holder) = None

-- the layer with this rule
abbrev pub chain_rule : {S : Type 0} → ℕ → Own S
chain_rule limit = record { objects = chain_objects limit }
