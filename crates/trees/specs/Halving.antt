-- The two halves of a tree: they are apart, add up to it, and neither is empty.
-- A proof, which nobody need read: it stands in specs/ because the implementation names it, and no contract cites it.
use Rattle.std.specs.Prelude.{◌≡◌, ℕ, zero, suc, ◌+◌, ◌-◌, ◌*◌, ◌^◌, ◌<◌, ◌≤◌, true, false, bit_and, refl}
use Rattle.std.proofs.Common.{sym, ap, ap₂, subst, ◌∙◌, arith, zero-mul, add-mul, mul-le-mul_right, pow_mono, pow_pos}
use Rattle.std.specs.Int.Bits.{and_zero_r}
use Rattle.std.proofs.Math.Pow.{ones_lt}
use Rattle.std.proofs.Math.Arith.{digits_lt}
use Rattle.std.proofs.lemmas.Nat.{mul-le, and_block}
use Rattle.std.proofs.lemmas.Bool.{or_parts, true≢false}
use Rattle.trees.specs.Tree.{Tree, leaf, node, ◌⋈◌, height, kept, lent, has_filled_cell}
use Rattle.trees.specs.Cells.{span, cells_of}
use Rattle.trees.specs.TreesOfCells.{whole_pow, ones_split}

pub cells_lt : (h : ℕ) (t : Tree) → cells_of h t < 2 ^ span h
cells_lt h (leaf false) = pow_pos (span h)
cells_lt h (leaf true) = ones_lt (span h)
cells_lt zero (node l r) = pow_pos (span zero)
cells_lt (suc h) (node l r) = subst (λ x. cells_of h r * 2 ^ span h + cells_of h l < x) (sym (whole_pow h)) (digits_lt (cells_lt h r) (cells_lt h l))

-- the halves have no cell in common
pub halves_apart : (h : ℕ) (t : Tree) → bit_and (cells_of h (kept t)) (cells_of h (lent t)) ≡ 0
halves_apart h (leaf false) = refl
halves_apart zero (leaf true) = refl
halves_apart (suc h) (leaf true) =
    and_block (span h) 0 (2 ^ span h - 1) (2 ^ span h - 1) 0 (ones_lt (span h)) (pow_pos (span h))
    ∙ ap (λ x. 0 * 2 ^ span h + x) (and_zero_r (2 ^ span h - 1)) ∙ omega (arith, zero-mul (2 ^ span h))
halves_apart zero (node l r) = refl
halves_apart (suc h) (node l r) =
    and_block (span h) (cells_of h (kept r)) (cells_of h (lent r)) (cells_of h (kept l)) (cells_of h (lent l)) (cells_lt h (kept l)) (cells_lt h (lent l))
    ∙ ap₂ (λ x y. x * 2 ^ span h + y) (halves_apart h r) (halves_apart h l)
    ∙ omega (arith, zero-mul (2 ^ span h))

-- and add up to the tree
pub halves_add : (h : ℕ) (t : Tree) → has_filled_cell h t ≡ false → cells_of h (kept t) + cells_of h (lent t) ≡ cells_of h t
halves_add h (leaf false) p = refl
halves_add zero (leaf true) p = absurd (true≢false p)
halves_add (suc h) (leaf true) p = omega (arith, zero-mul (2 ^ span h), ones_split h)
halves_add zero (node l r) p = refl
halves_add (suc h) (node l r) p =
    let q = or_parts (has_filled_cell h l) (has_filled_cell h r) p in
    let d = add-mul (cells_of h (kept r)) (cells_of h (lent r)) (2 ^ span h) in
    let e = ap (λ x. x * 2 ^ span h) (halves_add h r q.1) in
    omega (arith, halves_add h l q.0, d, e)

digits_some : (r l r' l' m : ℕ) → 0 < m → (0 < r → 0 < r') → (0 < l → 0 < l') → 0 < r * m + l → 0 < r' * m + l'
digits_some zero l r' l' m z f g q = let k : 0 < l' = g (omega (arith, zero-mul m)) in omega arith
digits_some (suc r) l r' l' m z f g q = let k : 1 * m ≤ r' * m = mul-le-mul_right m (f (omega arith)) in omega (arith, k)

-- a tree that is not empty has no empty half
half_some : (s : Tree) → ((h : ℕ) → 0 < cells_of (suc h) s) → (h : ℕ) (t : Tree) → has_filled_cell h t ≡ false → 0 < cells_of h t → 0 < cells_of h (◌⋈◌ t s)
half_some s f h (leaf false) p q = q
half_some s f zero (leaf true) p q = absurd (true≢false p)
half_some s f (suc h) (leaf true) p q = f h
half_some s f zero (node l r) p q = q
half_some s f (suc h) (node l r) p q =
    let b = or_parts (has_filled_cell h l) (has_filled_cell h r) p in
    digits_some (cells_of h r) (cells_of h l) (cells_of h (◌⋈◌ r s)) (cells_of h (◌⋈◌ l s)) (2 ^ span h) (pow_pos (span h))
    (half_some s f h r b.1) (half_some s f h l b.0) q

span_pos : (h : ℕ) → 1 ≤ span h
span_pos zero = omega arith
span_pos (suc h) = omega (arith, span_pos h)

ones_some : (h : ℕ) → 1 ≤ 2 ^ span h - 1
ones_some h = let k : 2 ^ 1 ≤ 2 ^ span h = pow_mono (span_pos h) in omega (arith, k)

pub kept_some : (h : ℕ) (t : Tree) → has_filled_cell h t ≡ false → 0 < cells_of h t → 0 < cells_of h (kept t)
kept_some = half_some (node (leaf true) (leaf false)) (λ h. omega (arith, zero-mul (2 ^ span h), ones_some h))

pub lent_some : (h : ℕ) (t : Tree) → has_filled_cell h t ≡ false → 0 < cells_of h t → 0 < cells_of h (lent t)
lent_some = half_some (node (leaf false) (leaf true)) (λ h. omega (arith, mul-le 1 1 (2 ^ span h - 1) (2 ^ span h) (ones_some h) (pow_pos (span h))))

-- where no filled leaf is one cell, the halves are no higher than the block
pub half_height : (s : Tree) → height s ≤ 1 → (h : ℕ) (t : Tree) → height t ≤ h → has_filled_cell h t ≡ false → height (◌⋈◌ t s) ≤ h
half_height s e h (leaf false) p q = p
half_height s e zero (leaf true) p q = absurd (true≢false q)
half_height s e (suc h) (leaf true) p q = omega arith
half_height s e zero (node l r) p q = absurd (omega arith)
half_height s e (suc h) (node l r) p q =
    let b = or_parts (has_filled_cell h l) (has_filled_cell h r) q in
    omega (arith, half_height s e h l (omega arith) b.0, half_height s e h r (omega arith) b.1)
