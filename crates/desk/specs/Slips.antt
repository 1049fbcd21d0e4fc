-- What a slip tells.
use Rattle.std.specs.Prelude.{ℕ, Bool}
use Rattle.desk.specs.declared.slips.Slip.{Slip}

-- the lease for which it was drawn
abbrev pub lease_of : Slip → ℕ
lease_of slip = slip.lease

-- whether it was handed in
abbrev pub was_handed_in : Slip → Bool
was_handed_in slip = slip.handed_in
