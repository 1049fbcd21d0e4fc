use Rattle.std.proofs.Common.{arith}
use Rattle.chain.proofs.Heights.{goes_on, lower}
use Rattle.chain.proofs.chain.height_of.Goals as goal

pub overflow_add-height : goal.overflow_add-height
overflow_add-height g c =
    let s = g.O.Office.meaning c.args.office.now in
    let less = lower s.core.roll c.loop-lender.reached s.core.issued (g.O.Office.lawful c.args.office.now).orderly c.in-Some.lender c.in-Some.ensures in
    omega (arith, c.loop-lender.invariant.1)

pub loop-lender-smaller : goal.loop-lender-smaller
loop-lender-smaller g c =
    let s = g.O.Office.meaning c.args.office.now in
    lower s.core.roll c.loop-lender.reached s.core.issued (g.O.Office.lawful c.args.office.now).orderly c.in-Some.lender c.in-Some.ensures

pub loop-lender-preserved : goal.loop-lender-preserved
loop-lender-preserved g c =
    let s = g.O.Office.meaning c.args.office.now in
    let n = c.loop-lender.reached in
    let p = c.in-Some.lender in
    let less = lower s.core.roll n s.core.issued (g.O.Office.lawful c.args.office.now).orderly p c.in-Some.ensures in
    let e = goes_on s.core.roll n c.args.lease c.loop-lender.height p (omega (arith, c.loop-lender.invariant.1)) c.in-Some.ensures in
    (omega (arith, e, c.loop-lender.invariant.0), omega (arith, c.loop-lender.invariant.1))
