use Rattle.trees.proofs.Sizes.{size_range}
use Rattle.trees.proofs.block.Block.is_full.Goals as goal

pub full-requires : goal.full-requires
full-requires c = let range = size_range c.args.self.size c.args.self.sized in record { some = range.0; most = range.1 }
