-- The tree of a block's cells: it goes through union and intersection, and tells the cells.
-- A proof, which nobody need read: it stands in specs/ because the implementation names it, and no contract cites it.
use Rattle.std.specs.Prelude.{◌≡◌, ℕ, zero, suc, ◌+◌, ◌-◌, ◌*◌, ◌/◌, ◌%◌, ◌^◌, ◌<◌, true, false, ◌≢◌, bit_and, bit_or, refl}
use Rattle.std.proofs.Common.{sym, ap, ap₂, ◌∙◌, arith, div-add-mod', mod-lt, zero-mul, pow_pos, pow-add, shr_lt}
use Rattle.std.proofs.Math.Nat.{zero-mod, zero-div}
use Rattle.std.proofs.lemmas.Nat.{or_mod, or_shr, and_mod, and_shr}
use Rattle.std.proofs.Math.Pow.{ones_lt}
use Rattle.std.proofs.Math.Arith.{mul_pred, digits_div, digits_mod}
use Rattle.trees.specs.Tree.{Tree, leaf, node, fold, lower, upper, ◌⊔◌, ◌⊓◌}
use Rattle.trees.specs.Cells.{span, filled, tree_of, cells_of}

-- the halves of a folded pair are the pair
pub fold_halves : (l r : Tree) → (lower (fold l r) ≡ l) × (upper (fold l r) ≡ r)
fold_halves (leaf true) (leaf true) = (refl, refl)
fold_halves (leaf true) (leaf false) = (refl, refl)
fold_halves (leaf true) (node a b) = (refl, refl)
fold_halves (leaf false) (leaf true) = (refl, refl)
fold_halves (leaf false) (leaf false) = (refl, refl)
fold_halves (leaf false) (node a b) = (refl, refl)
fold_halves (node a b) r = (refl, refl)

-- both operations go through the fold
pub union_fold : (l r a b : Tree) → ◌⊔◌ (fold l r) (fold a b) ≡ fold (◌⊔◌ l a) (◌⊔◌ r b)
union_fold l r a b = go l r ∙ ap₂ (λ x y. fold (◌⊔◌ l x) (◌⊔◌ r y)) (fold_halves a b).0 (fold_halves a b).1
  where
    go : (l r : Tree) → ◌⊔◌ (fold l r) (fold a b) ≡ fold (◌⊔◌ l (lower (fold a b))) (◌⊔◌ r (upper (fold a b)))
    go (leaf true) (leaf true) = refl
    go (leaf true) (leaf false) = refl
    go (leaf true) (node c d) = refl
    go (leaf false) (leaf true) = refl
    go (leaf false) (leaf false) = sym (ap₂ fold (fold_halves a b).0 (fold_halves a b).1)
    go (leaf false) (node c d) = refl
    go (node c d) t = refl

pub overlap_fold : (l r a b : Tree) → ◌⊓◌ (fold l r) (fold a b) ≡ fold (◌⊓◌ l a) (◌⊓◌ r b)
overlap_fold l r a b = go l r ∙ ap₂ (λ x y. fold (◌⊓◌ l x) (◌⊓◌ r y)) (fold_halves a b).0 (fold_halves a b).1
  where
    go : (l r : Tree) → ◌⊓◌ (fold l r) (fold a b) ≡ fold (◌⊓◌ l (lower (fold a b))) (◌⊓◌ r (upper (fold a b)))
    go (leaf true) (leaf true) = sym (ap₂ fold (fold_halves a b).0 (fold_halves a b).1)
    go (leaf true) (leaf false) = refl
    go (leaf true) (node c d) = refl
    go (leaf false) (leaf true) = refl
    go (leaf false) (leaf false) = refl
    go (leaf false) (node c d) = refl
    go (node c d) t = refl

pub whole_pow : (h : ℕ) → 2 ^ span (suc h) ≡ 2 ^ span h * 2 ^ span h
whole_pow h = pow-add 2 (span h) (span h)

-- all ones in a block are all ones in both halves
pub ones_split : (h : ℕ) → 2 ^ span (suc h) - 1 ≡ (2 ^ span h - 1) * 2 ^ span h + (2 ^ span h - 1)
ones_split h = ap (λ x. x - 1) (whole_pow h) ∙ mul_pred (pow_pos (span h)) (pow_pos (span h))

pub low_lt : (h n : ℕ) → n % 2 ^ span h < 2 ^ span h
low_lt h n = mod-lt n (pow_pos (span h))

pub high_lt : (h n : ℕ) → n < 2 ^ span (suc h) → n / 2 ^ span h < 2 ^ span h
high_lt h n p = shr_lt (span h) (span h) p

-- the tree of a union is the union of the trees
or_filled : (a b : ℕ) → a < 2 → b < 2 → leaf (filled (bit_or a b)) ≡ ◌⊔◌ (leaf (filled a)) (leaf (filled b))
or_filled zero b p q = refl
or_filled (suc zero) zero p q = refl
or_filled (suc zero) (suc zero) p q = refl
or_filled (suc zero) (suc (suc b)) p q = absurd (omega arith)
or_filled (suc (suc a)) b p q = absurd (omega arith)

and_filled : (a b : ℕ) → a < 2 → b < 2 → leaf (filled (bit_and a b)) ≡ ◌⊓◌ (leaf (filled a)) (leaf (filled b))
and_filled zero b p q = refl
and_filled (suc zero) zero p q = refl
and_filled (suc zero) (suc zero) p q = refl
and_filled (suc zero) (suc (suc b)) p q = absurd (omega arith)
and_filled (suc (suc a)) b p q = absurd (omega arith)

pub tree_or : (h a b : ℕ) → a < 2 ^ span h → b < 2 ^ span h → tree_of h (bit_or a b) ≡ ◌⊔◌ (tree_of h a) (tree_of h b)
tree_or zero a b p q = or_filled a b p q
tree_or (suc h) a b p q =
    ap₂ (λ x y. fold (tree_of h x) (tree_of h y)) (or_mod a b (span h)) (or_shr a b (span h))
    ∙ ap₂ fold (tree_or h (a % 2 ^ span h) (b % 2 ^ span h) (low_lt h a) (low_lt h b)) (tree_or h (a / 2 ^ span h) (b / 2 ^ span h) (high_lt h a p) (high_lt h b q))
    ∙ sym (union_fold (tree_of h (a % 2 ^ span h)) (tree_of h (a / 2 ^ span h)) (tree_of h (b % 2 ^ span h)) (tree_of h (b / 2 ^ span h)))

pub tree_and : (h a b : ℕ) → a < 2 ^ span h → b < 2 ^ span h → tree_of h (bit_and a b) ≡ ◌⊓◌ (tree_of h a) (tree_of h b)
tree_and zero a b p q = and_filled a b p q
tree_and (suc h) a b p q =
    ap₂ (λ x y. fold (tree_of h x) (tree_of h y)) (and_mod a b (span h)) (and_shr a b (span h))
    ∙ ap₂ fold (tree_and h (a % 2 ^ span h) (b % 2 ^ span h) (low_lt h a) (low_lt h b)) (tree_and h (a / 2 ^ span h) (b / 2 ^ span h) (high_lt h a p) (high_lt h b q))
    ∙ sym (overlap_fold (tree_of h (a % 2 ^ span h)) (tree_of h (a / 2 ^ span h)) (tree_of h (b % 2 ^ span h)) (tree_of h (b / 2 ^ span h)))

-- the cells of a folded pair
pub cells_fold : (h : ℕ) (l r : Tree) → cells_of (suc h) (fold l r) ≡ cells_of h r * 2 ^ span h + cells_of h l
cells_fold h (leaf true) (leaf true) = ones_split h
cells_fold h (leaf true) (leaf false) = refl
cells_fold h (leaf true) (node a b) = refl
cells_fold h (leaf false) (leaf true) = refl
cells_fold h (leaf false) (leaf false) = omega (arith, zero-mul (2 ^ span h))
cells_fold h (leaf false) (node a b) = refl
cells_fold h (node a b) r = refl

cells_filled : (n : ℕ) → n < 2 → cells_of zero (leaf (filled n)) ≡ n
cells_filled zero p = refl
cells_filled (suc zero) p = refl
cells_filled (suc (suc n)) p = absurd (omega arith)

pub cells_tree : (h n : ℕ) → n < 2 ^ span h → cells_of h (tree_of h n) ≡ n
cells_tree zero n p = cells_filled n p
cells_tree (suc h) n p =
    cells_fold h (tree_of h (n % 2 ^ span h)) (tree_of h (n / 2 ^ span h))
    ∙ ap₂ (λ x y. x * 2 ^ span h + y) (cells_tree h (n / 2 ^ span h) (high_lt h n p)) (cells_tree h (n % 2 ^ span h) (low_lt h n))
    ∙ div-add-mod' n (2 ^ span h)

-- equal trees, equal cells
pub tree_exact : (h a b : ℕ) → a < 2 ^ span h → b < 2 ^ span h → tree_of h a ≡ tree_of h b → a ≡ b
tree_exact h a b p q e = sym (cells_tree h a p) ∙ ap (cells_of h) e ∙ cells_tree h b q

pub tree_empty : (h : ℕ) → tree_of h 0 ≡ leaf false
tree_empty zero = refl
tree_empty (suc h) = ap₂ (λ x y. fold (tree_of h x) (tree_of h y)) (zero-mod (2 ^ span h)) (zero-div (2 ^ span h)) ∙ ap₂ fold (tree_empty h) (tree_empty h)

pub tree_full : (h : ℕ) → tree_of h (2 ^ span h - 1) ≡ leaf true
tree_full zero = refl
tree_full (suc h) =
    ap₂ (λ x y. fold (tree_of h x) (tree_of h y))
    (ap (λ x. x % 2 ^ span h) (ones_split h) ∙ digits_mod (2 ^ span h - 1) (ones_lt (span h)))
    (ap (λ x. x / 2 ^ span h) (ones_split h) ∙ digits_div (2 ^ span h - 1) (ones_lt (span h)))
    ∙ ap₂ fold (tree_full h) (tree_full h)

fold_node : (l r : Tree) → (fold l r ≢ leaf true) → (fold l r ≢ leaf false) → fold l r ≡ node l r
fold_node (leaf true) (leaf true) p q = absurd (p refl)
fold_node (leaf true) (leaf false) p q = refl
fold_node (leaf true) (node a b) p q = refl
fold_node (leaf false) (leaf true) p q = refl
fold_node (leaf false) (leaf false) p q = absurd (q refl)
fold_node (leaf false) (node a b) p q = refl
fold_node (node a b) r p q = refl

-- the tree of a block that is neither empty nor full is a node
pub tree_mixed : (h n : ℕ) → n < 2 ^ span (suc h) → (n ≢ 0) → (n ≢ 2 ^ span (suc h) - 1)
    → tree_of (suc h) n ≡ node (tree_of h (n % 2 ^ span h)) (tree_of h (n / 2 ^ span h))
tree_mixed h n p z f =
    let back : (t : Tree) → tree_of (suc h) n ≡ t → n ≡ cells_of (suc h) t = λ t q. sym (cells_tree (suc h) n p) ∙ ap (cells_of (suc h)) q in
    fold_node (tree_of h (n % 2 ^ span h)) (tree_of h (n / 2 ^ span h)) (λ q. f (back (leaf true) q)) (λ q. z (back (leaf false) q))
