use Rattle.std.proofs.Common.{◌≡◌}
use Rattle.lending.specs.Above.{standing_of}
use Rattle.office.specs.ToCome.{leases_to_come}
use Rattle.shares.proofs.Sums.{plus?}
use Rattle.desk.proofs.standings.joined.Given as goal
use Rattle.std.proofs.Common.{Some}

-- what was joined and what is left to join come to the standing
abbrev pub invariant-loop-lease : goal.invariant-loop-lease
invariant-loop-lease g l = let K = g.O.Kind.Share.kind in
    plus? K (Some l.all) (standing_of K (leases_to_come g.O.Office.meaning l.lease-iterator) l.resource l.holder) ≡ standing_of K (g.O.Office.meaning l.office).core.roll l.resource l.holder
