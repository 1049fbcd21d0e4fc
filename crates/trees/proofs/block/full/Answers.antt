use Rattle.trees.proofs.Sizes.{full_is}
use Rattle.trees.proofs.block.full.Goals as goal

pub returns : goal.returns
returns c = full_is c.args.size c.requires.most
