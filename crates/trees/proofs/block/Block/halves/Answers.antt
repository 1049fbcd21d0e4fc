use Rattle.std.proofs.Common.{◌/◌, ◌^◌, ◌<◌, sym, subst}
use Rattle.trees.proofs.Sizes.{half_range, half_lt}
use Rattle.trees.proofs.Blocks.{not_one, low_is, low_block, high_block}
use Rattle.trees.proofs.block.Block.halves.Goals as goal

pub full-requires : goal.full-requires
full-requires c =
    let range = half_range c.args.self.size c.args.self.sized (not_one c.args.self.size c.args.self.cells c.requires) in
    record { some = range.0; most = range.1 }

pub overflow_shr-high : goal.overflow_shr-high
overflow_shr-high c = half_lt c.args.self.size c.args.self.sized (not_one c.args.self.size c.args.self.cells c.requires)

pub invariant_of-low : goal.invariant_of-low
invariant_of-low c =
    let low = low_is c.args.self.cells (c.args.self.size / 2) c.full.result c.full.ensures in
    let block = low_block c.args.self.size c.args.self.cells c.requires in
    record { sized = block.sized; fits = subst (λ n. n < 2 ^ (c.args.self.size / 2)) (sym low) block.fits }

pub invariant_of-high : goal.invariant_of-high
invariant_of-high c =
    let block = high_block c.args.self.size c.args.self.cells c.requires in
    record { sized = block.sized; fits = block.fits }

pub returns-clause-low : goal.returns-clause-low
returns-clause-low c = low_is c.args.self.cells (c.args.self.size / 2) c.full.result c.full.ensures
