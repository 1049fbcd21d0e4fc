-- What the rule Quota objects to.
use Rattle.std.specs.Prelude.{ℕ, nat_le, List, Option}
use Rattle.lending.specs.declared.lease.Lease.{Lease}
use Rattle.lending.specs.Office.{Request}
use Rattle.lending.specs.Office.Request.{opening, delegating, assigning}
use Rattle.lending.specs.Roll.{count_held}
use Rattle.lending.specs.Layers.{Own, number_if}

-- 21: the new holder has so many live leases or more
abbrev pub quota_objects : {S : Type 0} → ℕ → List (Lease S) → ℕ → Request → Option ℕ
quota_objects limit roll today (opening resource holder) = number_if (nat_le limit (count_held roll holder)) 21
quota_objects limit roll today (delegating lender holder due) = number_if (nat_le limit (count_held roll holder)) 21
quota_objects limit roll today (assigning lease holder) = number_if (nat_le limit (count_held roll holder)) 21

-- the layer with this rule
abbrev pub quota_rule : {S : Type 0} → ℕ → Own S
quota_rule limit = record { objects = quota_objects limit }
