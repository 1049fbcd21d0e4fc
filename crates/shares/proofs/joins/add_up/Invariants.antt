use Rattle.std.proofs.Common.{◌≡◌, drop, Some}
use Rattle.shares.specs.Joins.{together}
use Rattle.shares.proofs.Sums.{plus?}
use Rattle.shares.proofs.joins.add_up.Given as goal

-- the sum so far and the shares to come give what all of them give
abbrev pub invariant-loop-share : goal.invariant-loop-share
invariant-loop-share g l = let K = g.S.Share.kind in plus? K (Some l.sum) (together K (drop l.share-index l.shares)) ≡ together K l.shares
