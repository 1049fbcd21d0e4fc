use Rattle.lending.specs.Calls.{due_by}
use Rattle.office.specs.ToCome.{leases_to_come}
use Rattle.desk.proofs.Marking.{Noted}
use Rattle.desk.proofs.days.due_of.Given as goal

-- those that fall due are noted as far as the roll was seen
abbrev pub invariant-loop-lease : goal.invariant-loop-lease
invariant-loop-lease g l = Noted (due_by l.day) (g.O.Office.meaning l.office).core.roll l.yielded (leases_to_come g.O.Office.meaning l.lease-iterator) l.numbers.items
