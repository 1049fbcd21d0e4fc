use Rattle.std.proofs.Common.{refl, arith}
use Rattle.trees.specs.Block.{level}
use Rattle.trees.proofs.block.Block.of_64.Goals as goal

pub invariant_of-result : goal.invariant_of-result
unfolding level
invariant_of-result c = record { sized = refl; fits = omega arith }
