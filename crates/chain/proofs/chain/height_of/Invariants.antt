use Rattle.std.proofs.Common.{◌≡◌, ◌+◌, ◌-◌, ◌≤◌, length}
use Rattle.lending.specs.Roll.{lenders, height}
use Rattle.chain.proofs.chain.height_of.Given as goal

abbrev pub invariant-loop-lender : goal.invariant-loop-lender
invariant-loop-lender g l = let roll = (g.O.Office.meaning l.office).core.roll in
    (l.height + length (lenders (l.lease - l.height) roll l.reached) ≡ height roll l.lease) × (l.height + l.reached ≤ l.lease)

abbrev pub decreases-loop-lender : goal.decreases-loop-lender
decreases-loop-lender g l = l.reached
