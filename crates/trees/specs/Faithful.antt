-- Shares of 64 cells are the canonical trees of height at most 6, in their joins, halves and texts.
-- A proof, which nobody need read: it stands in specs/ because the implementation names it, and no contract cites it.
use Rattle.std.specs.Prelude.{◌≡◌, ℕ, zero, suc, ◌/◌, ◌%◌, ◌^◌, ◌<◌, ◌≤◌, max, true, false, ◌⊎◌, ◌↔◌, [], ◌++◌, length, Some, None, bit_and, refl}
use Rattle.std.proofs.Common.{sym, ap, ap₂, ◌∙◌, inl, inr, ⊎_elim, arith, mod-eq_of_lt}
use Rattle.std.specs.Int.Bits.{and_lt}
use Rattle.std.proofs.lemmas.Nat.{or_disjoint}
use Rattle.std.proofs.Math.Arith.{digits_div, digits_mod}
use Rattle.shares.specs.Kind.{bind}
use Rattle.shares.specs.Text.{longest_text}
use Rattle.trees.specs.declared.trees.Trees.{Trees}
use Rattle.trees.specs.Tree.{Tree, leaf, node, ●, ○, Alike, Canonical, fold, ◌⊓◌, ◌⋈◌, kept, lent, height, has_filled_cell, text}
use Rattle.trees.specs.Cells.{span, tree_of, cells_of, tree, text_of_share, share, union, halves}
use Rattle.trees.specs.Canonical.{SharesAreCanonicalTrees}
use Rattle.trees.specs.TreesOfCells.{tree_or, tree_and, tree_exact, cells_tree, tree_empty, tree_full, tree_mixed}
use Rattle.trees.specs.Halving.{cells_lt, half_height}
use Rattle.trees.specs.Texts.{text_exact, text_short}
use Rattle.trees.specs.KindLaws.{same_trees, sum, union_some, union_is, both, halves_is, halves_refused, cut_refused, cut_empty, cut_cell}

fold_canonical : (l r : Tree) → Canonical l → Canonical r → Canonical (fold l r)
fold_canonical (leaf true) (leaf true) p q = tt
fold_canonical (leaf true) (leaf false) p q = (λ x. x, tt, tt)
fold_canonical (leaf true) (node a b) p q = (λ x. x, tt, q)
fold_canonical (leaf false) (leaf true) p q = (λ x. x, tt, tt)
fold_canonical (leaf false) (leaf false) p q = tt
fold_canonical (leaf false) (node a b) p q = (λ x. x, tt, q)
fold_canonical (node a b) r p q = (λ x. x, p, q)

pub tree_canonical : (h n : ℕ) → Canonical (tree_of h n)
tree_canonical zero n = tt
tree_canonical (suc h) n = fold_canonical (tree_of h (n % 2 ^ span h)) (tree_of h (n / 2 ^ span h)) (tree_canonical h (n % 2 ^ span h)) (tree_canonical h (n / 2 ^ span h))

fold_height : (l r : Tree) → height (fold l r) ≤ suc (max (height l) (height r))
fold_height (leaf true) (leaf true) = omega arith
fold_height (leaf true) (leaf false) = omega arith
fold_height (leaf true) (node a b) = omega arith
fold_height (leaf false) (leaf true) = omega arith
fold_height (leaf false) (leaf false) = omega arith
fold_height (leaf false) (node a b) = omega arith
fold_height (node a b) r = omega arith

pub tree_height : (h n : ℕ) → height (tree_of h n) ≤ h
tree_height zero n = omega arith
tree_height (suc h) n = omega (arith, fold_height (tree_of h (n % 2 ^ span h)) (tree_of h (n / 2 ^ span h)), tree_height h (n % 2 ^ span h), tree_height h (n / 2 ^ span h))

fold_unlike : (l r : Tree) → (Alike l r → ⊥) → fold l r ≡ node l r
fold_unlike (leaf true) (leaf true) p = absurd (p tt)
fold_unlike (leaf true) (leaf false) p = refl
fold_unlike (leaf true) (node a b) p = refl
fold_unlike (leaf false) (leaf true) p = refl
fold_unlike (leaf false) (leaf false) p = absurd (p tt)
fold_unlike (leaf false) (node a b) p = refl
fold_unlike (node a b) r p = refl

-- the tree of the cells of a tree
pub tree_cells : (h : ℕ) (t : Tree) → Canonical t → height t ≤ h → tree_of h (cells_of h t) ≡ t
tree_cells h (leaf false) c p = tree_empty h
tree_cells h (leaf true) c p = tree_full h
tree_cells zero (node l r) c p = absurd (omega arith)
tree_cells (suc h) (node l r) c p =
    ap₂ (λ x y. fold (tree_of h x) (tree_of h y)) (digits_mod (cells_of h r) (cells_lt h l)) (digits_div (cells_of h r) (cells_lt h l))
    ∙ ap₂ fold (tree_cells h l c.1 (omega arith)) (tree_cells h r c.2 (omega arith))
    ∙ fold_unlike l r c.0

-- halves are canonical
cut_unlike : (l r x y : Tree) → (Alike l r → ⊥) → Alike (◌⋈◌ l (node x y)) (◌⋈◌ r (node x y)) → ⊥
cut_unlike (leaf true) r x y p q = q
cut_unlike (leaf false) (leaf true) x y p q = q
cut_unlike (leaf false) (leaf false) x y p q = p tt
cut_unlike (leaf false) (node c d) x y p q = q
cut_unlike (node a b) r x y p q = q

cut_canonical : (t x y : Tree) → Canonical t → Canonical (node x y) → Canonical (◌⋈◌ t (node x y))
cut_canonical (leaf true) x y c d = d
cut_canonical (leaf false) x y c d = tt
cut_canonical (node l r) x y c d = (cut_unlike l r x y c.0, cut_canonical l x y c.1 d, cut_canonical r x y c.2 d)

-- a share is empty exactly when its tree is
empty_tree : (a : Trees) → tree a ≡ leaf false → a.cells ≡ 0
empty_tree a e = sym (cells_tree 6 a.cells a.fits) ∙ ap (cells_of 6) e

-- the trees of two shares are apart exactly when the shares are
overlap_tree : (a b : Trees) → tree_of 6 (bit_and a.cells b.cells) ≡ ◌⊓◌ (tree a) (tree b)
overlap_tree a b = tree_and 6 a.cells b.cells a.fits b.fits

apart : (a b : Trees) → ◌⊓◌ (tree a) (tree b) ≡ leaf false → bit_and a.cells b.cells ≡ 0
apart a b e =
    let small : bit_and a.cells b.cells < 2 ^ 64 = and_lt 64 a.cells b.cells a.fits b.fits in
    sym (cells_tree 6 (bit_and a.cells b.cells) small) ∙ ap (cells_of 6) (overlap_tree a b ∙ e)

joined : (a b : Trees) (d : bit_and a.cells b.cells ≡ 0) → union a b ≡ Some (sum a b d)
unfolding sum
joined a b d = union_some a b (sum a b d) d refl

half_tree : (a : Trees) (n : ℕ) (x y : Tree) → Canonical (node x y) → height (node x y) ≤ 1 → has_filled_cell 6 (tree a) ≡ false → n ≡ cells_of 6 (◌⋈◌ (tree a) (node x y)) → tree_of 6 n ≡ ◌⋈◌ (tree a) (node x y)
half_tree a n x y c h p e =
    ap (tree_of 6) e
    ∙ tree_cells 6 (◌⋈◌ (tree a) (node x y)) (cut_canonical (tree a) x y (tree_canonical 6 a.cells) c) (half_height (node x y) h 6 (tree a) (tree_height 6 a.cells) p)

halved : (a k l : Trees) → halves a ≡ Some (k, l) → (tree k ≡ kept (tree a)) × (tree l ≡ lent (tree a))
halved a k l e =
    let c = halves_is a k l e in (
      half_tree a k.cells ● ○ (λ x. x, tt, tt) (omega arith) c.no_cell c.kept_is,
      half_tree a l.cells ○ ● (λ x. x, tt, tt) (omega arith) c.no_cell c.lent_is,
    )

refused_only : (a : Trees) → halves a ≡ None → (tree a ≡ ○) ⊎ (has_filled_cell 6 (tree a) ≡ true)
refused_only a e = ⊎_elim (λ z. inl (ap (tree_of 6) z ∙ tree_empty 6)) inr (cut_refused a.cells (halves_refused a e))

refused_then : (a : Trees) → (tree a ≡ ○) ⊎ (has_filled_cell 6 (tree a) ≡ true) → halves a ≡ None
refused_then a (inl e) = ap (λ o. bind o (λ p. Some (both p))) (sym (cut_empty a.cells (empty_tree a e)))
refused_then a (inr e) = ap (λ o. bind o (λ p. Some (both p))) (sym (cut_cell a.cells e))

pub canonical_trees : SharesAreCanonicalTrees
canonical_trees = record {
  canonical = λ s. (tree_canonical 6 s.cells, tree_height 6 s.cells);
  every = λ t c h. (share t, ap (tree_of 6) (mod-eq_of_lt (cells_lt 6 t)) ∙ tree_cells 6 t c h);
  exact = λ a b e. same_trees a b (tree_exact 6 a.cells b.cells a.fits b.fits e);
  joins = λ a b. (
    (λ c. sym (overlap_tree a b) ∙ ap (tree_of 6) (union_is a b c.0 c.1).0 ∙ tree_empty 6),
    (λ e. (sum a b (apart a b e), joined a b (apart a b e))),
  );
  joined = λ a b c e. let u = union_is a b c e in
      ap (tree_of 6) (u.1 ∙ sym (or_disjoint a.cells b.cells u.0)) ∙ tree_or 6 a.cells b.cells a.fits b.fits;
  halved = halved;
  refused = λ a. (refused_only a, refused_then a);
  full_block = λ h. ap text (tree_full h);
  empty_block = λ h. ap text (tree_empty h);
  mixed_block = λ h n p z f. ap text (tree_mixed h n p z f);
}

pub short : (a : Trees) → length (text_of_share a) ≤ longest_text
short a = text_short 6 a.cells

-- equal texts, equal trees, equal shares
pub tells : (a b : Trees) → (text_of_share a ≡ text_of_share b) ↔ (a ≡ b)
tells a b = (
  (λ e. same_trees a b (tree_exact 6 a.cells b.cells a.fits b.fits (text_exact (tree a) (tree b) [] [] (ap (λ x. x ++ []) e)).0)),
  (λ e. ap text_of_share e),
)
