use Rattle.std.proofs.Common.{◌≡◌, reverse}
use Rattle.lending.specs.Above.{yields}
use Rattle.lending.specs.Office.{State}
use Rattle.lending.specs.Outcome.Answer.{done}
use Rattle.lending.specs.Outcome.Outcome.{grants}
use Rattle.office.specs.Calls.{Keeps}
use Rattle.desk.proofs.sweep.yield_down.Given as goal

-- if all are granted, those left are, and lead to the same
abbrev pub invariant-loop-number : goal.invariant-loop-number
invariant-loop-number g l = let K = g.O.Kind.Share.kind in
    ((u : State g.row.O-Kind.Denot) → yields K (g.O.Office.meaning l.initial.office) (reverse l.numbers) ≡ grants done u → (v : State g.row.O-Kind.Denot) × (yields K (g.O.Office.meaning l.office) (reverse l.number-iterator.iter.rest.now) ≡ grants done v) × (v.core ≡ u.core))
    × Keeps g.O.Office l.initial.office l.office
