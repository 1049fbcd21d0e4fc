-- What a block keeps where its filled leaves are cut in two, and its text: those of its two halves.
use Rattle.std.proofs.Common.{◌≡◌, ℕ, zero, suc, ◌+◌, ◌-◌, ◌*◌, ◌/◌, ◌%◌, ◌^◌, ◌<◌, Bool, true, false, cond, eqb, ◌⊎◌, [], ◌∷◌, ◌++◌, Some, None, sym, refl, ap, ◌∙◌, subst, ap₂, inl, inr, mod-lt, zero-mul, arith, pow_pos, shl_exact, shr_lt}
use lib.Bits.{bit_and, bit_or, or_shifted_r, and_mask}
use Rattle.std.proofs.lemmas.Bool.{cases_eq, cond-true, cond-false, eq-eqb, ne_eqb, or_from, or_left, or_right}
use Rattle.trees.specs.Tree.{Tree, leaf, node, kept, has_filled_cell, text}
use Rattle.trees.specs.Cells.{span, tree_of, cells_of}
use Rattle.trees.specs.Block.{Block, Mixed, level, kept_cells, kept_of, text_of}
use Rattle.trees.specs.TreesOfCells.{tree_empty, tree_full, tree_mixed}
use Rattle.trees.specs.Halving.{cells_lt}
use Rattle.trees.proofs.Sizes.{halving, size_range, two_halves}

-- one cell is not mixed
pub not_one : (size cells : ℕ) → Mixed size cells → size ≡ 1 → ⊥
not_one size cells m e =
    let k : cells < 2 ^ 1 = subst (λ s. cells < 2 ^ s) e m.block.fits in
    let g : cells ≡ 2 ^ 1 - 1 → ⊥ = λ q. m.not_all (q ∙ ap (λ s. 2 ^ s - 1) (sym e)) in
    m.some (omega (arith, g))

-- the low cells, as the code masks them
pub low_is : (cells half ones : ℕ) → ones ≡ 2 ^ half - 1 → bit_and cells ones ≡ cells % 2 ^ half
low_is cells half ones e = ap (bit_and cells) e ∙ and_mask cells half

tree_all : (size cells : ℕ) → Block size cells → cells ≡ 2 ^ size - 1 → tree_of (level size) cells ≡ leaf true
tree_all size cells b e = ap (tree_of (level size)) (e ∙ ap (λ s. 2 ^ s - 1) b.sized) ∙ tree_full (level size)

tree_none : (size cells : ℕ) → cells ≡ 0 → tree_of (level size) cells ≡ leaf false
tree_none size cells e = ap (tree_of (level size)) e ∙ tree_empty (level size)

pub text_empty : (size cells : ℕ) → cells ≡ 0 → text_of size cells ≡ 48 ∷ []
unfolding text_of
text_empty size cells e = ap text (tree_none size cells e)

pub text_full : (size cells : ℕ) → Block size cells → cells ≡ 2 ^ size - 1 → text_of size cells ≡ 49 ∷ []
unfolding text_of
text_full size cells b e = ap text (tree_all size cells b e)

kept_all : (h : ℕ) (t : Tree) → has_filled_cell h t ≡ false → kept_cells h t ≡ Some (cells_of h (kept t))
kept_all h t p = cond-false (has_filled_cell h t) None (Some (cells_of h (kept t))) p

kept_none : (h : ℕ) (t : Tree) → has_filled_cell h t ≡ true → kept_cells h t ≡ None
kept_none h t p = cond-true (has_filled_cell h t) None (Some (cells_of h (kept t))) p

-- what is kept tells that no filled leaf is one cell
pub kept_is : (h : ℕ) (t : Tree) (a : ℕ) → kept_cells h t ≡ Some a → (has_filled_cell h t ≡ false) × (a ≡ cells_of h (kept t))
kept_is h t a = go (has_filled_cell h t) refl
  where
    go : (b : Bool) → has_filled_cell h t ≡ b → cond b None (Some (cells_of h (kept t))) ≡ Some a → (has_filled_cell h t ≡ false) × (a ≡ cells_of h (kept t))
    go true p e = let z : ◌≡◌ {A = ℕ} 0 1 = cc in absurd (omega arith)
    go false p e = (p, (cc))

pub refused_is : (h : ℕ) (t : Tree) → kept_cells h t ≡ None → has_filled_cell h t ≡ true
refused_is h t = go (has_filled_cell h t) refl
  where
    go : (b : Bool) → has_filled_cell h t ≡ b → cond b None (Some (cells_of h (kept t))) ≡ None → has_filled_cell h t ≡ true
    go true p e = p
    go false p e = let z : ◌≡◌ {A = ℕ} 0 1 = cc in absurd (omega arith)

empty_leaf : (h : ℕ) → has_filled_cell h (leaf false) ≡ false
empty_leaf zero = refl
empty_leaf (suc h) = refl

pub kept_empty : (size cells : ℕ) → cells ≡ 0 → Some 0 ≡ kept_of size cells
unfolding kept_of
kept_empty size cells e = sym (ap (kept_cells (level size)) (tree_none size cells e) ∙ kept_all (level size) (leaf false) (empty_leaf (level size)))

-- a filled leaf keeps its lower half, unless it is one cell
pub kept_full : (size cells : ℕ) → Block size cells → cells ≡ 2 ^ size - 1 → cond (eqb size 1) None (Some (2 ^ (size / 2) - 1)) ≡ kept_of size cells
unfolding kept_of level
kept_full size cells b e = go (cases_eq size 1)
  where
    leaf_is : kept_cells (level size) (tree_of (level size) cells) ≡ kept_cells (level size) (leaf true)
    leaf_is = ap (kept_cells (level size)) (tree_all size cells b e)

    go : (size ≡ 1) ⊎ (size ≡ 1 → ⊥) → cond (eqb size 1) None (Some (2 ^ (size / 2) - 1)) ≡ kept_cells (level size) (tree_of (level size) cells)
    go (inl p) = cond-true (eqb size 1) None (Some (2 ^ (size / 2) - 1)) (eq-eqb size 1 p) ∙ sym (leaf_is ∙ ap (λ s. kept_cells (level s) (leaf true)) p)
    go (inr n) =
        let H = halving size b.sized n in
        cond-false (eqb size 1) None (Some (2 ^ (size / 2) - 1)) (ne_eqb size 1 n)
        ∙ ap (λ s. Some (2 ^ s - 1)) H.half_is
        ∙ sym (leaf_is ∙ ap (λ k. kept_cells k (leaf true)) H.level_is ∙ ap Some (omega (arith, zero-mul (2 ^ span H.h))))

-- a mixed block: its halves are blocks, and its tree, what it keeps and its text are put together from theirs
module _ (size cells : ℕ) (m : Mixed size cells) where
  several : size ≡ 1 → ⊥
  several = not_one size cells m

  pub low_block : Block (size / 2) (cells % 2 ^ (size / 2))
  low_block =
      let H = halving size m.block.sized several in
      record { sized = H.half_is ∙ ap span (sym H.half_level); fits = mod-lt cells (pow_pos (size / 2)) }

  pub high_block : Block (size / 2) (cells / 2 ^ (size / 2))
  high_block =
      let H = halving size m.block.sized several in
      let e : size ≡ size / 2 + size / 2 = two_halves size m.block.sized several in
      record { sized = H.half_is ∙ ap span (sym H.half_level); fits = shr_lt (size / 2) (size / 2) (subst (λ s. cells < 2 ^ s) e m.block.fits) }

  abbrev low_tree : Tree
  low_tree = tree_of (level (size / 2)) (cells % 2 ^ (size / 2))

  abbrev high_tree : Tree
  high_tree = tree_of (level (size / 2)) (cells / 2 ^ (size / 2))

  tree_pair : tree_of (level size) cells ≡ node low_tree high_tree
  tree_pair =
      let H = halving size m.block.sized several in
      let sized : size ≡ span (suc H.h) = H.size_is in
      ap (λ k. tree_of k cells) H.level_is
      ∙ tree_mixed H.h cells (subst (λ s. cells < 2 ^ s) sized m.block.fits) m.some (λ q. m.not_all (q ∙ ap (λ s. 2 ^ s - 1) (sym sized)))
      ∙ sym (ap₂ (λ k w. node (tree_of k (cells % 2 ^ w)) (tree_of k (cells / 2 ^ w))) H.half_level H.half_is)

  pub text_pair : text_of size cells ≡ 40 ∷ (text_of (size / 2) (cells % 2 ^ (size / 2)) ++ (text_of (size / 2) (cells / 2 ^ (size / 2)) ++ (41 ∷ [])))
  unfolding text_of
  text_pair = ap text tree_pair

  kept_pair : kept_of size cells ≡ kept_cells (suc (level (size / 2))) (node low_tree high_tree)
  unfolding kept_of
  kept_pair =
      let H = halving size m.block.sized several in
      ap (kept_cells (level size)) tree_pair ∙ ap (λ k. kept_cells k (node low_tree high_tree)) (H.level_is ∙ ap suc (sym H.half_level))

  pub kept_low : kept_of (size / 2) (cells % 2 ^ (size / 2)) ≡ None → kept_of size cells ≡ None
  unfolding kept_of
  kept_low e = kept_pair ∙ kept_none (suc (level (size / 2))) (node low_tree high_tree) (or_left _ (has_filled_cell (level (size / 2)) high_tree) (refused_is (level (size / 2)) low_tree e))

  pub kept_high : kept_of (size / 2) (cells / 2 ^ (size / 2)) ≡ None → kept_of size cells ≡ None
  unfolding kept_of
  kept_high e = kept_pair ∙ kept_none (suc (level (size / 2))) (node low_tree high_tree) (or_right (has_filled_cell (level (size / 2)) low_tree) _ (refused_is (level (size / 2)) high_tree e))

  -- as the code puts the halves together
  pub kept_both : (x y : ℕ) → kept_of (size / 2) (cells % 2 ^ (size / 2)) ≡ Some x → kept_of (size / 2) (cells / 2 ^ (size / 2)) ≡ Some y
      → Some (bit_or x ((y * 2 ^ (size / 2)) % 2 ^ 64)) ≡ kept_of size cells
  unfolding kept_of
  kept_both x y p q =
      let sized = low_block.sized in
      let k = level (size / 2) in
      let low = kept_is k low_tree x p in
      let high = kept_is k high_tree y q in
      let lt : (t : Tree) (a : ℕ) → a ≡ cells_of k (kept t) → a < 2 ^ (size / 2) = λ t a e. subst (λ w. w < 2 ^ (size / 2)) (sym e) (subst (λ s. cells_of k (kept t) < 2 ^ s) (sym sized) (cells_lt k (kept t))) in
      let fit : (y * 2 ^ (size / 2)) % 2 ^ 64 ≡ y * 2 ^ (size / 2) =
      shl_exact (size / 2) (size / 2) 64 (lt high_tree y high.1) (omega (arith, two_halves size m.block.sized several, size_range size m.block.sized)) in
      ap (λ w. Some (bit_or x w)) fit
      ∙ ap Some (or_shifted_r y (size / 2) x (lt low_tree x low.1))
      ∙ ap (λ s. Some (y * 2 ^ s + x)) sized
      ∙ ap₂ (λ u v. Some (v * 2 ^ span k + u)) low.1 high.1
      ∙ sym (kept_pair ∙ kept_all (suc k) (node low_tree high_tree) (or_from _ _ low.0 high.0))
