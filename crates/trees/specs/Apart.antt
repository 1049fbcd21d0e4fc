-- Sets of cells with nothing in common, as numbers.
-- A proof, which nobody need read: it stands in specs/ because the implementation names it, and no contract cites it.
use Rattle.std.specs.Prelude.{◌≡◌, ℕ, zero, suc, ◌+◌, ◌*◌, ◌/◌, ◌%◌, ◌<◌, bit_and, bit_or, refl}
use Rattle.std.proofs.Common.{sym, ap, ap₂, ◌∙◌, arith, div-add-mod', mod-lt}
use Rattle.std.proofs.Math.Arith.{bin_ind}
use Rattle.std.proofs.lemmas.Nat.{and_shr, or_shr, and_mod, or_mod, and_le_l, and_le_r, or_disjoint}
use Rattle.std.specs.Int.Bits.{or_add_and}

digit_distr : (x y z : ℕ) → x < 2 → y < 2 → z < 2 → bit_and (bit_or x y) z ≡ bit_or (bit_and x z) (bit_and y z)
digit_distr zero y z hx hy hz = refl
digit_distr (suc zero) zero zero hx hy hz = refl
digit_distr (suc zero) zero (suc zero) hx hy hz = refl
digit_distr (suc zero) zero (suc (suc z)) hx hy hz = absurd (omega arith)
digit_distr (suc zero) (suc zero) zero hx hy hz = refl
digit_distr (suc zero) (suc zero) (suc zero) hx hy hz = refl
digit_distr (suc zero) (suc zero) (suc (suc z)) hx hy hz = absurd (omega arith)
digit_distr (suc zero) (suc (suc y)) z hx hy hz = absurd (omega arith)
digit_distr (suc (suc x)) y z hx hy hz = absurd (omega arith)

by_digits : {a b : ℕ} → a / 2 ≡ b / 2 → a % 2 ≡ b % 2 → a ≡ b
by_digits {a} {b} hi lo = sym (div-add-mod' a 2) ∙ ap₂ (λ x y. x * 2 + y) hi lo ∙ div-add-mod' b 2

and_or : (a b c : ℕ) → bit_and (bit_or a b) c ≡ bit_or (bit_and a c) (bit_and b c)
and_or =
    bin_ind (λ (n : ℕ). (b c : ℕ) → bit_and (bit_or n b) c ≡ bit_or (bit_and n c) (bit_and b c)) (λ b c. refl)
    (λ n ih b c. by_digits
    (and_shr (bit_or n b) c 1 ∙ ap (λ (x : ℕ). bit_and x (c / 2)) (or_shr n b 1) ∙ ih (b / 2) (c / 2)
    ∙ sym (or_shr (bit_and n c) (bit_and b c) 1 ∙ ap₂ bit_or (and_shr n c 1) (and_shr b c 1)))
    (and_mod (bit_or n b) c 1 ∙ ap (λ (x : ℕ). bit_and x (c % 2)) (or_mod n b 1)
    ∙ digit_distr (n % 2) (b % 2) (c % 2) (mod-lt n (omega arith)) (mod-lt b (omega arith)) (mod-lt c (omega arith))
    ∙ sym (or_mod (bit_and n c) (bit_and b c) 1 ∙ ap₂ bit_or (and_mod n c 1) (and_mod b c 1))))

-- a union is apart from c exactly when both parts are
pub apart_parts : (a b c : ℕ) → bit_and a b ≡ 0 → bit_and (a + b) c ≡ 0 → (bit_and a c ≡ 0) × (bit_and b c ≡ 0)
apart_parts a b c d e =
    let x = bit_and a c in
    let y = bit_and b c in
    let z : bit_or x y ≡ 0 = sym (and_or a b c) ∙ ap (λ n. bit_and n c) (or_disjoint a b d) ∙ e in
    (omega (arith, or_add_and x y, and_le_r x y, z), omega (arith, or_add_and x y, and_le_l x y, z))

pub apart_union : (a b c : ℕ) → bit_and a b ≡ 0 → bit_and a c ≡ 0 → bit_and b c ≡ 0 → bit_and (a + b) c ≡ 0
apart_union a b c d p q =
    ap (λ n. bit_and n c) (sym (or_disjoint a b d)) ∙ and_or a b c ∙ ap₂ bit_or p q
