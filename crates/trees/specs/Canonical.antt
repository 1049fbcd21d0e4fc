-- Tree shares are the canonical trees of height at most 6, and join, halve and print as they do.
use Rattle.std.specs.Prelude.{◌≡◌, ℕ, suc, ◌-◌, ◌/◌, ◌%◌, ◌^◌, ◌<◌, ◌≤◌, true, ◌⊎◌, ◌↔◌, ◌++◌, Some, None, codes, ◌≢◌}
use Rattle.trees.specs.declared.trees.Trees.{Trees}
use Rattle.trees.specs.Tree.{Tree, node, ●, ○, Canonical, ◌⊔◌, ◌⊓◌, ◌⋈◌, height, has_filled_cell, text}
use Rattle.trees.specs.Cells.{span, tree_of, tree, union, halves}

-- Tree shares are the canonical trees of height at most 6.
pub record SharesAreCanonicalTrees : Type 0 where
  -- each share has a canonical tree of height at most 6, and each such tree is that of just one share
  pub canonical : (s : Trees) → Canonical (tree s) × (height (tree s) ≤ 6)
  pub every : (t : Tree) → Canonical t → height t ≤ 6 → (s : Trees) × (tree s ≡ t)
  pub exact : (a b : Trees) → tree a ≡ tree b → a ≡ b
  -- the join is defined exactly where the intersection is empty, and is the union
  pub joins : (a b : Trees) → ((c : Trees) × (union a b ≡ Some c)) ↔ (◌⊓◌ (tree a) (tree b) ≡ ○)
  pub joined : (a b c : Trees) → union a b ≡ Some c → tree c ≡ ◌⊔◌ (tree a) (tree b)
  -- halving relativises by ●○ and ○●, and is refused exactly for the empty tree and where a filled leaf is one cell
  pub halved : (a k l : Trees) → halves a ≡ Some (k, l)
      → (tree k ≡ ◌⋈◌ (tree a) (node ● ○)) × (tree l ≡ ◌⋈◌ (tree a) (node ○ ●))
  pub refused : (a : Trees) → (halves a ≡ None) ↔ ((tree a ≡ ○) ⊎ (has_filled_cell 6 (tree a) ≡ true))
  -- the text of a block of height h is `1` if it is full, `0` if it is empty, and else those of its halves in brackets
  pub full_block : (h : ℕ) → text (tree_of h (2 ^ span h - 1)) ≡ codes "1"
  pub empty_block : (h : ℕ) → text (tree_of h 0) ≡ codes "0"
  pub mixed_block : (h n : ℕ) → n < 2 ^ span (suc h) → (n ≢ 0) → (n ≢ 2 ^ span (suc h) - 1)
      → text (tree_of (suc h) n)
      ≡ codes "(" ++ (text (tree_of h (n % 2 ^ span h)) ++ (text (tree_of h (n / 2 ^ span h)) ++ codes ")"))
