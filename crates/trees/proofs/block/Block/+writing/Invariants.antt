use Rattle.std.proofs.Common.{◌+◌, ◌*◌}
use Rattle.trees.proofs.block.Block.+writing.Given as goal

abbrev pub decreases-write : goal.decreases-write
decreases-write l = 2 * l.self.size + 1

abbrev pub decreases-write_pair : goal.decreases-write_pair
decreases-write_pair l = 2 * l.self.size
