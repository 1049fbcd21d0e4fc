use Rattle.trees.specs.Faithful.{canonical_trees}
use Rattle.trees.proofs.canonical.are_canonical_trees.Goals as goal

pub returns : goal.returns
returns c = canonical_trees
