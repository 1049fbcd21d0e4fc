use Rattle.std.proofs.Common.{List, ap, ◌∙◌, arith}
use Rattle.lending.specs.declared.lease.Lease.{Lease}
use Rattle.lending.specs.Roll.{count_held}
use Rattle.office.specs.ToCome.{leases_to_come}
use Rattle.quota.proofs.Counting.{held_few, held_here, held_other}
use Rattle.quota.proofs.quota.held_by.Goals as goal

pub loop-lease-init : goal.loop-lease-init
loop-lease-init g c =
    let e = ap (λ (xs : List (Lease g.row.O-Kind.Denot)). count_held xs c.args.holder)
    (ap (leases_to_come g.O.Office.meaning) c.into_iter-lease-iterator.ensures.into_iter_gives ∙ c.leases-lease-items.ensures) in
    omega (arith, e)

pub overflow_add-held : goal.overflow_add-held
overflow_add-held g c =
    let s = g.O.Office.meaning c.args.office.now in
    let l = g.O.Office.lawful c.args.office.now in
    let few = held_few c.args.holder s.core.roll in
    let m = held_here c.args.holder c.in-Some.ensures.steps c.if-lease-holder.true in
    omega (arith, l.fits, l.capacity, few, m, c.loop-lease.invariant)

pub loop-lease-preserved-then-lease-holder : goal.loop-lease-preserved-then-lease-holder
loop-lease-preserved-then-lease-holder g c =
    let m = held_here c.args.holder c.in-Some.ensures.steps c.if-lease-holder.true in
    omega (arith, m, c.loop-lease.invariant)

pub loop-lease-preserved : goal.loop-lease-preserved
loop-lease-preserved g c =
    let m = held_other c.args.holder c.in-Some.ensures.steps c.if-lease-holder.false in
    omega (arith, m, c.loop-lease.invariant)

pub returns : goal.returns
returns g c =
    let e = ap (λ (xs : List (Lease g.row.O-Kind.Denot)). count_held xs c.args.holder) c.in-None.ensures.steps.0 in
    omega (arith, e, c.loop-lease.invariant)
