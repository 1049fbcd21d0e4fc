use Rattle.std.proofs.Common.{ap, ◌∙◌}
use Rattle.lending.specs.Above.{standing_of}
use Rattle.office.specs.ToCome.{leases_to_come}
use Rattle.desk.proofs.Joining.{joins_from, joins_all, joins_more, joins_never}
use Rattle.desk.proofs.standings.joined.Goals as goal

pub loop-lease-init : goal.loop-lease-init
loop-lease-init g c =
    let meaning = g.O.Office.meaning in
    joins_from g.O.Kind.Share.kind g.met.O.Kind.Share.laws c.args.resource c.args.holder c.empty-all.result (leases_to_come meaning c.into_iter-lease-iterator.result) (meaning c.args.office.now).core.roll c.empty-all.ensures
    (ap (leases_to_come meaning) c.into_iter-lease-iterator.ensures.into_iter_gives ∙ c.leases-lease-items.ensures)

pub returns-in_err-all : goal.returns-in_err-all
returns-in_err-all g c =
    let K = g.O.Kind.Share.kind in
    let meaning = g.O.Office.meaning in
    c.from_residual.ensures ∙ joins_never K g.met.O.Kind.Share.laws c.args.resource c.args.holder c.loop-lease.all c.in-Some.lease (leases_to_come meaning c.next.new.self) (leases_to_come meaning c.loop-lease.lease-iterator) (standing_of K (meaning c.args.office.now).core.roll c.args.resource c.args.holder) c.in-Some.ensures.steps c.if-lease-resource.true c.if-lease-holder.true c.loop-lease.invariant
    c.join.result c.join.ensures c.in_err-all.was

pub loop-lease-preserved-then-lease-holder : goal.loop-lease-preserved-then-lease-holder
loop-lease-preserved-then-lease-holder g c =
    let K = g.O.Kind.Share.kind in
    let meaning = g.O.Office.meaning in
    joins_more K g.met.O.Kind.Share.laws c.args.resource c.args.holder c.loop-lease.all c.in-Some.lease (leases_to_come meaning c.next.new.self) (leases_to_come meaning c.loop-lease.lease-iterator) (standing_of K (meaning c.args.office.now).core.roll c.args.resource c.args.holder) c.in-Some.ensures.steps c.if-lease-resource.true c.if-lease-holder.true c.loop-lease.invariant
    c.in_ok-all.all c.join.result c.join.ensures c.in_ok-all.was

pub returns : goal.returns
returns g c =
    let K = g.O.Kind.Share.kind in
    let meaning = g.O.Office.meaning in
    joins_all K g.met.O.Kind.Share.laws c.args.resource c.args.holder c.loop-lease.all (leases_to_come meaning c.loop-lease.lease-iterator) (standing_of K (meaning c.args.office.now).core.roll c.args.resource c.args.holder) c.in-None.ensures.steps.0 c.loop-lease.invariant
