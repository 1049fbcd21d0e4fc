-- What a fickle office objects to, and when that flips.
use Rattle.std.specs.Prelude.{ℕ, Bool, if◌then◌else◌, not, List, None, Option}
use Rattle.lending.specs.declared.lease.Lease.{Lease}
use Rattle.lending.specs.Office.{Request, State}
use Rattle.lending.specs.Office.Request.{opening, delegating, assigning}
use Rattle.lending.specs.Layers.{number_if, layered, Own}

-- while it is closed, to every open, with the number of a quota that is met
abbrev pub fickle_objects : {S : Type 0} → Bool → List (Lease S) → ℕ → Request → Option ℕ
fickle_objects closed roll today (opening resource holder) = number_if closed 21
fickle_objects closed roll today (delegating lender holder due) = None
fickle_objects closed roll today (assigning lease holder) = None

-- what it does of its own
abbrev pub fickle_rule : {S : Type 0} → Bool → Own S
fickle_rule closed = record { objects = fickle_objects closed }

-- whether it is closed after a call: each granted one flips it
abbrev pub flip : Bool → Bool → Bool
flip granted closed = if granted then not closed else closed

-- what it stands for over an office that stands for s: it is one deeper
abbrev pub fickle_state : {S : Type 0} → Bool → State S → State S
fickle_state closed s = layered (fickle_rule closed) s
