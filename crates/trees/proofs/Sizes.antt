-- The sizes of blocks: 1, 2, 4, .. or 64 cells, each the half of the next.
use Rattle.std.proofs.Common.{◌≡◌, ℕ, zero, suc, ◌+◌, ◌-◌, ◌*◌, ◌/◌, ◌^◌, ◌<◌, ◌≤◌, Bool, true, false, cond, leb, refl, ap, ◌∙◌, arith, pow_pos, pow-add}
use lib.Pow.{ones_lt}
use lib.Arith.{mul_pred, digits_div}
use Rattle.trees.specs.Cells.{span}
use Rattle.trees.specs.Block.{level}

-- all ones of 64 bits, moved down to so many
pub full_is : (s : ℕ) → s ≤ 64 → (2 ^ 64 - 1) / 2 ^ (64 - s) ≡ 2 ^ s - 1
full_is s h =
    let k : 64 ≡ s + (64 - s) = omega arith in
    let e : 2 ^ 64 ≡ 2 ^ s * 2 ^ (64 - s) = ap (λ x. 2 ^ x) k ∙ pow-add 2 s (64 - s) in
    ap (λ x. (x - 1) / 2 ^ (64 - s)) e ∙ ap (λ x. x / 2 ^ (64 - s)) (mul_pred (pow_pos s) (pow_pos (64 - s))) ∙ digits_div (2 ^ s - 1) (ones_lt (64 - s))

level_le : (s : ℕ) → level s ≤ 6
unfolding level
level_le s = go (leb s 1) (leb s 2) (leb s 4) (leb s 8) (leb s 16) (leb s 32)
  where
    go : (a b c d e f : Bool) → cond a 0 (cond b 1 (cond c 2 (cond d 3 (cond e 4 (cond f 5 6))))) ≤ 6
    go true b c d e f = omega arith
    go false true c d e f = omega arith
    go false false true d e f = omega arith
    go false false false true e f = omega arith
    go false false false false true f = omega arith
    go false false false false false true = omega arith
    go false false false false false false = omega arith

pub size_range : (size : ℕ) → size ≡ span (level size) → (1 ≤ size) × (size ≤ 64)
size_range size e = go (level size) e (level_le size)
  where
    go : (k : ℕ) → size ≡ span k → k ≤ 6 → (1 ≤ size) × (size ≤ 64)
    go zero a l = omega arith
    go (suc zero) a l = omega arith
    go (suc (suc zero)) a l = omega arith
    go (suc (suc (suc zero))) a l = omega arith
    go (suc (suc (suc (suc zero)))) a l = omega arith
    go (suc (suc (suc (suc (suc zero))))) a l = omega arith
    go (suc (suc (suc (suc (suc (suc zero)))))) a l = omega arith
    go (suc (suc (suc (suc (suc (suc (suc k))))))) a l = absurd (omega arith)

-- a block of more than one cell has two halves
pub record Halving (size : ℕ) : Type 0 where
  pub h : ℕ
  pub level_is : level size ≡ suc h
  pub half_is : size / 2 ≡ span h
  pub half_level : level (size / 2) ≡ h
  pub size_is : size ≡ span h + span h
  pub small : size ≤ 64
  pub half_small : 1 ≤ size / 2

pub halving : (size : ℕ) → size ≡ span (level size) → (size ≡ 1 → ⊥) → Halving size
unfolding level
halving size e n = go (level size) refl (level_le size)
  where
    make : (h : ℕ) → level size ≡ suc h → size ≡ span (suc h) → span (suc h) / 2 ≡ span h → level (span (suc h) / 2) ≡ h → span (suc h) ≤ 64 → 1 ≤ span (suc h) / 2 → Halving size
    make h a s p q r t = record {
      h = h;
      level_is = a;
      half_is = ap (λ x. x / 2) s ∙ p;
      half_level = ap (λ x. level (x / 2)) s ∙ q;
      size_is = s;
      small = omega arith;
      half_small = omega (arith, ap (λ x. x / 2) s);
    }

    go : (k : ℕ) → level size ≡ k → k ≤ 6 → Halving size
    go zero a l = absurd (n (e ∙ ap span a))
    go (suc zero) a l = make 0 a (e ∙ ap span a) refl refl (omega arith) (omega arith)
    go (suc (suc zero)) a l = make 1 a (e ∙ ap span a) refl refl (omega arith) (omega arith)
    go (suc (suc (suc zero))) a l = make 2 a (e ∙ ap span a) refl refl (omega arith) (omega arith)
    go (suc (suc (suc (suc zero)))) a l = make 3 a (e ∙ ap span a) refl refl (omega arith) (omega arith)
    go (suc (suc (suc (suc (suc zero))))) a l = make 4 a (e ∙ ap span a) refl refl (omega arith) (omega arith)
    go (suc (suc (suc (suc (suc (suc zero)))))) a l = make 5 a (e ∙ ap span a) refl refl (omega arith) (omega arith)
    go (suc (suc (suc (suc (suc (suc (suc k))))))) a l = absurd (omega arith)

pub half_range : (size : ℕ) → size ≡ span (level size) → (size ≡ 1 → ⊥) → (1 ≤ size / 2) × (size / 2 ≤ 64)
half_range size e n = let H = halving size e n in (H.half_small, omega (arith, H.small))

pub half_lt : (size : ℕ) → size ≡ span (level size) → (size ≡ 1 → ⊥) → size / 2 < 64
half_lt size e n = let H = halving size e n in omega (arith, H.small, H.half_small)

pub two_halves : (size : ℕ) → size ≡ span (level size) → (size ≡ 1 → ⊥) → size ≡ size / 2 + size / 2
two_halves size e n = let H = halving size e n in omega (arith, H.half_is, H.size_is)
