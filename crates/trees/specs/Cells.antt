-- Tree shares as sets of the cells 0 to 63, and the tree of each.
use Rattle.std.specs.Prelude.{ℕ, zero, suc, ◌+◌, ◌-◌, ◌*◌, ◌/◌, ◌%◌, ◌^◌, ◌==◌, bit_and, bit_or}
use Rattle.std.specs.Prelude.{Bool, true, false, if◌then◌else◌, ◌||◌, List, Some, None, Option}
use Rattle.std.proofs.Common.{mod-lt, pow_pos}
use Rattle.shares.specs.Kind.{Kind, bind}
use Rattle.trees.specs.declared.trees.Trees.{Trees}
use Rattle.trees.specs.Tree.{Tree, leaf, node, fold, kept, lent, has_filled_cell, text}

-- the share whose cells are the bits of n, of which the first 64 count
abbrev pub trees_of_cells : ℕ → Trees
trees_of_cells n = record { cells = n % 2 ^ 64; fits = mod-lt n (pow_pos 64) }

-- how many cells a block of height h has
abbrev pub span : ℕ → ℕ
span zero = 1
span (suc h) = span h + span h

-- a cell that is not empty
abbrev pub filled : ℕ → Bool
filled zero = false
filled (suc n) = true

-- the canonical tree of a block of height h whose cells are the bits of n, the lowest first
abbrev pub tree_of : ℕ → ℕ → Tree
tree_of zero n = leaf (filled n)
tree_of (suc h) n = fold (tree_of h (n % 2 ^ span h)) (tree_of h (n / 2 ^ span h))

-- the cells of a tree, as a block of height h
abbrev pub cells_of : ℕ → Tree → ℕ
cells_of h (leaf false) = 0
cells_of h (leaf true) = 2 ^ span h - 1
cells_of zero (node l r) = 0
cells_of (suc h) (node l r) = cells_of h r * 2 ^ span h + cells_of h l

-- the tree of a share
abbrev pub tree : Trees → Tree
tree s = tree_of 6 s.cells

-- the text of a share
abbrev pub text_of_share : Trees → List ℕ
text_of_share s = text (tree s)

-- the share of a tree
abbrev pub share : Tree → Trees
share t = trees_of_cells (cells_of 6 t)

-- the union, where no cell is in both
abbrev pub union : Trees → Trees → Option Trees
union a b = if bit_and a.cells b.cells == 0 then Some (trees_of_cells (bit_or a.cells b.cells)) else None

-- the cells kept and the cells lent where each filled leaf is cut in two; None if the set is empty or a filled leaf is
-- one cell
unfoldable pub cut : ℕ → Option (ℕ × ℕ)
cut n =
    let t = tree_of 6 n in
    if n == 0 || has_filled_cell 6 t then None else Some (cells_of 6 (kept t), cells_of 6 (lent t))

-- the half kept and the half lent
abbrev pub halves : Trees → Option (Trees × Trees)
halves s = bind (cut s.cells) (λ p. Some (trees_of_cells p.0, trees_of_cells p.1))

-- tree shares as a kind of share
abbrev pub trees_kind : Kind Trees
trees_kind = record {
  empty = trees_of_cells 0;
  whole = trees_of_cells (2 ^ 64 - 1);
  join = union;
  halve = halves;
  same = λ a b. (a.cells == b.cells);
}
