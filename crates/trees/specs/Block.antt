-- A block as the code has it: its size in cells, and its cells as the bits of a number.
use Rattle.std.specs.Prelude.{◌≡◌, ℕ, ◌+◌, ◌-◌, ◌^◌, ◌<◌, if◌then◌else◌, nat_le}
use Rattle.std.specs.Prelude.{List, ◌++◌, length, take, drop, Some, None, Option}
use Rattle.trees.specs.Tree.{Tree, kept, has_filled_cell, text}
use Rattle.trees.specs.Cells.{span, tree_of, cells_of}

-- the height of a block of so many cells
unfoldable pub level : ℕ → ℕ
level size =
    if nat_le size 1 then 0 else
    (if nat_le size 2 then 1 else
    (if nat_le size 4 then 2 else
    (if nat_le size 8 then 3 else
    (if nat_le size 16 then 4 else
    (if nat_le size 32 then 5 else 6)))))

-- A block has 1, 2, 4, 8, 16, 32 or 64 cells.
pub record Block (size cells : ℕ) : Type 0 where
  pub sized : size ≡ span (level size)
  pub fits : cells < 2 ^ size

-- A mixed block is neither empty nor full.
pub record Mixed (size cells : ℕ) : Type 0 where
  pub block : Block size cells
  pub some : cells ≡ 0 → ⊥
  pub not_all : cells ≡ 2 ^ size - 1 → ⊥

-- the cells kept of a tree of height h where each filled leaf is cut in two; None where one of them is one cell
abbrev pub kept_cells : ℕ → Tree → Option ℕ
kept_cells h t = if has_filled_cell h t then None else Some (cells_of h (kept t))

-- the cells kept of a block
unfoldable pub kept_of : ℕ → ℕ → Option ℕ
kept_of size cells = kept_cells (level size) (tree_of (level size) cells)

-- the text of a block
unfoldable pub text_of : ℕ → ℕ → List ℕ
text_of size cells = text (tree_of (level size) cells)

-- xs with bs in it from the place n on
unfoldable pub placed : List ℕ → ℕ → List ℕ → List ℕ
placed xs n bs = take n xs ++ (bs ++ drop (n + length bs) xs)
