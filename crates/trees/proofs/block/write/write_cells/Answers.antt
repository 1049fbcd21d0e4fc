use Rattle.std.proofs.Common.{◌≡◌, ℕ, List, length, refl, ap, ◌∙◌, ap₂, zero-add, arith}
use Rattle.shares.specs.Text.{in_front}
use Rattle.trees.specs.Tree.{text}
use Rattle.trees.specs.Cells.{tree_of}
use Rattle.trees.specs.Block.{level, text_of, placed}
use Rattle.trees.specs.Texts.{text_short}
use Rattle.trees.proofs.block.write.write_cells.Goals as goal

-- the block of all 64 cells
all : (n : ℕ) → text_of 64 n ≡ text (tree_of 6 n)
unfolding text_of level
all n = refl

of_64 : (size cells n : ℕ) → size ≡ 64 → cells ≡ n → text_of size cells ≡ text (tree_of 6 n)
of_64 size cells n s e = ap₂ text_of s e ∙ all n

-- a text from the place 0 on is one in front
from_start : (xs bs : List ℕ) → placed xs 0 bs ≡ in_front bs xs
unfolding placed
from_start xs bs = simp zero-add

pub write-requires : goal.write-requires
write-requires c =
    let w = of_64 _ _ c.args.cells c.of_64.ensures.size c.of_64.ensures.cells in
    omega (arith, ap length w, text_short 6 c.args.cells)

pub returns : goal.returns
returns c =
    let w = of_64 _ _ c.args.cells c.of_64.ensures.size c.of_64.ensures.cells in
    record {
      length = omega (arith, c.write.ensures.end, ap length w);
      bytes = c.write.ensures.bytes ∙ ap (placed c.args.space.now 0) w ∙ from_start c.args.space.now (text (tree_of 6 c.args.cells));
    }
