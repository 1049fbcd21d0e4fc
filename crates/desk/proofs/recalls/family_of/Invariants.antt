use Rattle.office.specs.ToCome.{leases_to_come}
use Rattle.desk.proofs.Marking.{Noted, in_it}
use Rattle.desk.proofs.recalls.family_of.Given as goal

-- those of the family are noted as far as the roll was seen
abbrev pub invariant-loop-lease : goal.invariant-loop-lease
invariant-loop-lease g l = let roll = (g.O.Office.meaning l.office).core.roll in Noted (in_it roll l.top) roll l.yielded (leases_to_come g.O.Office.meaning l.lease-iterator) l.numbers.items
