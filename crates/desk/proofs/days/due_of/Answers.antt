use Rattle.std.proofs.Common.{ap, sym, ◌∙◌, arith}
use Rattle.lending.specs.Calls.{due_by}
use Rattle.office.specs.ToCome.{leases_to_come}
use Rattle.desk.proofs.Marking.{begins, noted, passed, ended, room}
use Rattle.desk.proofs.days.due_of.Goals as goal

pub loop-lease-init : goal.loop-lease-init
loop-lease-init g c =
    begins (due_by c.args.day) (g.O.Office.meaning c.args.office.now).core.roll (leases_to_come g.O.Office.meaning c.into_iter-lease-iterator.result) c.new-numbers.result.items
    (ap (leases_to_come g.O.Office.meaning) c.into_iter-lease-iterator.ensures.into_iter_gives ∙ c.leases-lease-items.ensures) c.new-numbers.ensures

pub push-requires : goal.push-requires
push-requires g c =
    let law = g.O.Office.lawful c.args.office.now in
    let less = room (due_by c.args.day) (g.O.Office.meaning c.args.office.now).core.roll c.loop-lease.yielded c.in-Some.lease (leases_to_come g.O.Office.meaning c.next.new.self) (leases_to_come g.O.Office.meaning c.loop-lease.lease-iterator) c.loop-lease.numbers.items c.in-Some.ensures.steps c.loop-lease.invariant in
    (omega arith, omega (arith, law.fits, law.capacity))

pub loop-lease-preserved-then-falls_due_by : goal.loop-lease-preserved-then-falls_due_by
loop-lease-preserved-then-falls_due_by g c =
    noted (due_by c.args.day) (g.O.Office.meaning c.args.office.now).core.roll c.loop-lease.yielded c.in-Some.lease (leases_to_come g.O.Office.meaning c.next.new.self) (leases_to_come g.O.Office.meaning c.loop-lease.lease-iterator) c.loop-lease.numbers.items c.push.new.self.items c.in-Some.ensures.steps c.loop-lease.invariant
    (sym c.falls_due_by.ensures ∙ c.if-falls_due_by.true) c.push.ensures.items

pub loop-lease-preserved : goal.loop-lease-preserved
loop-lease-preserved g c =
    passed (due_by c.args.day) (g.O.Office.meaning c.args.office.now).core.roll c.loop-lease.yielded c.in-Some.lease (leases_to_come g.O.Office.meaning c.next.new.self) (leases_to_come g.O.Office.meaning c.loop-lease.lease-iterator) c.loop-lease.numbers.items c.in-Some.ensures.steps c.loop-lease.invariant
    (sym c.falls_due_by.ensures ∙ c.if-falls_due_by.false)

pub returns : goal.returns
returns g c =
    ended (due_by c.args.day) (g.O.Office.meaning c.args.office.now).core.roll c.loop-lease.yielded (leases_to_come g.O.Office.meaning c.loop-lease.lease-iterator) c.loop-lease.numbers.items c.in-None.ensures.steps.0 c.loop-lease.invariant
