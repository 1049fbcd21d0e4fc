-- Lists cut at a byte, and digits.
use Rattle.std.proofs.Common.{◌≡◌, ℕ, ◌+◌, ◌<◌, ◌≤◌, ◌%◌, List, [], ◌∷◌, ◌++◌, refl, ap₂, sym, arith}
use Rattle.std.specs.Fmt.{decimal}
use Rattle.std.proofs.lemmas.Fmt.{decimal_by_steps, decimal_injective}
use Rattle.shares.specs.Text.{Lacks}
use Rattle.printout.specs.Readable.{Small}

-- what stands before the first such byte, and what after it
pub cut : (c : ℕ) (xs ys u v : List ℕ) → Lacks c xs → Lacks c ys → xs ++ c ∷ u ≡ ys ++ c ∷ v → (xs ≡ ys) × (u ≡ v)
cut c [] [] u v p q e = (refl, cc)
cut c [] (y ∷ ys) u v p q e = let z : c ≡ y = cc in absurd (q.0 (sym z))
cut c (x ∷ xs) [] u v p q e = let z : x ≡ c = cc in absurd (p.0 z)
cut c (x ∷ xs) (y ∷ ys) u v p q e =
    let z : x ≡ y = cc in
    let f : xs ++ c ∷ u ≡ ys ++ c ∷ v = cc in
    let r = cut c xs ys u v p.1 q.1 f in
    (ap₂ (λ a b. a ∷ b) z r.0, r.1)

-- each byte is a digit
abbrev pub Digits : List ℕ → Type 0
Digits [] = Unit {0}
Digits (x ∷ xs) = (48 ≤ x) × (x ≤ 57) × Digits xs

-- and there is one
abbrev pub Numeral : List ℕ → Type 0
Numeral [] = ⊥
Numeral (x ∷ xs) = (48 ≤ x) × (x ≤ 57) × Digits xs

digits-append : (xs ys : List ℕ) → Digits xs → Digits ys → Digits (xs ++ ys)
digits-append [] ys p q = q
digits-append (x ∷ xs) ys p q = (p.0, p.1, digits-append xs ys p.2 q)

numeral-append : (xs ys : List ℕ) → Numeral xs → Digits ys → Numeral (xs ++ ys)
numeral-append [] ys p q = absurd p
numeral-append (x ∷ xs) ys p q = (p.0, p.1, digits-append xs ys p.2 q)

digits_lack : (c : ℕ) (xs : List ℕ) → c < 48 → Digits xs → Lacks c xs
digits_lack c [] h p = tt
digits_lack c (x ∷ xs) h p = ((λ e. let a = p.0 in omega (arith, e, a)), digits_lack c xs h p.2)

pub numeral_lacks : (c : ℕ) (xs : List ℕ) → c < 48 → Numeral xs → Lacks c xs
numeral_lacks c [] h p = absurd p
numeral_lacks c (x ∷ xs) h p = ((λ e. let a = p.0 in omega (arith, e, a)), digits_lack c xs h p.2)

pub decimal_numeral : (n : ℕ) → Small n → Numeral (decimal n)
decimal_numeral = decimal_by_steps (λ n ds. Numeral ds)
    (λ n h. (omega arith, omega arith, tt))
    (λ n ds h p. numeral-append ds ((48 + n % 10) ∷ []) p (omega arith, omega arith, tt))

pub decimal_lacks : (c n : ℕ) → c < 48 → Small n → Lacks c (decimal n)
decimal_lacks c n h s = numeral_lacks c (decimal n) h (decimal_numeral n s)

-- a number tells itself, and what follows its blank or its newline
pub one_number : (c m n : ℕ) (u v : List ℕ) → c < 48 → Small m → Small n → decimal m ++ c ∷ u ≡ decimal n ++ c ∷ v → (m ≡ n) × (u ≡ v)
one_number c m n u v h p q e =
    let r = cut c (decimal m) (decimal n) u v (decimal_lacks c m h p) (decimal_lacks c n h q) e in
    (decimal_injective m n p q r.0, r.1)

-- the first byte is not this one
abbrev pub Begins : ℕ → List ℕ → Type 0
Begins c [] = ⊥
Begins c (x ∷ xs) = x ≡ c

-- a numeral begins with no other byte
pub numeral_begins : (c : ℕ) (ds u v : List ℕ) → c < 48 → Numeral ds → c ∷ u ≡ ds ++ v → ⊥
numeral_begins c [] u v h p e = p
numeral_begins c (d ∷ ds) u v h p e = let z : c ≡ d = cc in let a = p.0 in omega (arith, z, a)

pub numeral_begins_above : (c : ℕ) (ds u v : List ℕ) → 57 < c → Numeral ds → c ∷ u ≡ ds ++ v → ⊥
numeral_begins_above c [] u v h p e = p
numeral_begins_above c (d ∷ ds) u v h p e = let z : c ≡ d = cc in let a = p.1 in omega (arith, z, a)
