-- The leases that are still to come.
use Rattle.std.specs.Prelude.{List, drop}
use Rattle.lending.specs.declared.lease.Lease.{Lease}
use Rattle.lending.specs.Office.{State}
use Rattle.office.specs.declared.live.LiveLeases.{LiveLeases}

-- the roll of the office from the position on
abbrev pub leases_to_come : {O S : Type 0} → (O → State S) → LiveLeases O → List (Lease S)
leases_to_come means leases = drop leases.position (means leases.office.now).core.roll
