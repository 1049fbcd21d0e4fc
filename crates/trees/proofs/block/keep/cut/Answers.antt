use Rattle.std.proofs.Common.{◌≡◌, ℕ, sym, refl, ◌∙◌, ap₂, arith}
use Rattle.trees.specs.Cells.{tree_of}
use Rattle.trees.specs.Block.{level, kept_cells, kept_of}
use Rattle.trees.specs.TreesOfCells.{cells_tree}
use Rattle.trees.specs.Halving.{halves_add}
use Rattle.trees.proofs.Blocks.{kept_is, refused_is}
use Rattle.trees.specs.KindLaws.{cut_made, cut_empty, cut_cell}
use Rattle.trees.proofs.block.keep.cut.Goals as goal

-- the block of all 64 cells
all : (n : ℕ) → kept_of 64 n ≡ kept_cells 6 (tree_of 6 n)
unfolding kept_of level
all n = refl

of_64 : (size cells n : ℕ) → size ≡ 64 → cells ≡ n → kept_of size cells ≡ kept_cells 6 (tree_of 6 n)
of_64 size cells n s e = ap₂ kept_of s e ∙ all n

pub returns-then-cells-eq0 : goal.returns-then-cells-eq0
returns-then-cells-eq0 c = cut_empty c.args.cells c.if-cells-eq0.true

pub returns-in_err-kept : goal.returns-in_err-kept
returns-in_err-kept c =
    c.from_residual.ensures ∙ cut_cell c.args.cells (refused_is 6 (tree_of 6 c.args.cells) (sym (c.in_err-kept.ensures ∙ of_64 _ _ c.args.cells c.of_64.ensures.size c.of_64.ensures.cells)))

pub overflow_sub-result : goal.overflow_sub-result
overflow_sub-result c =
    let n = c.args.cells in
    let k = kept_is 6 (tree_of 6 n) c.in_ok-kept.kept (sym (c.in_ok-kept.ensures ∙ of_64 _ _ n c.of_64.ensures.size c.of_64.ensures.cells)) in
    omega (arith, k.1, halves_add 6 (tree_of 6 n) k.0, cells_tree 6 n (omega arith))

pub returns : goal.returns
returns c =
    let n = c.args.cells in
    let k = kept_is 6 (tree_of 6 n) c.in_ok-kept.kept (sym (c.in_ok-kept.ensures ∙ of_64 _ _ n c.of_64.ensures.size c.of_64.ensures.cells)) in
    cut_made n _ _ (record {
      some = c.if-cells-eq0.false;
      no_cell = k.0;
      kept_is = k.1;
      lent_is = omega (arith, k.1, halves_add 6 (tree_of 6 n) k.0, cells_tree 6 n (omega arith));
    })
