use Rattle.std.proofs.Common.{◌+◌, ◌*◌}
use Rattle.trees.proofs.block.Block.+halving.Given as goal

abbrev pub decreases-kept : goal.decreases-kept
decreases-kept l = 2 * l.self.size + 1

abbrev pub decreases-kept_of_halves : goal.decreases-kept_of_halves
decreases-kept_of_halves l = 2 * l.self.size
