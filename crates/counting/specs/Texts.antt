-- The text of a counting share is short, and tells it.
-- A proof, which nobody need read: it stands in specs/ because the implementation names it, and no contract cites it.
use Rattle.std.specs.Prelude.{◌≡◌, ℕ, ◌≤◌, true, ◌↔◌, [], length, decimal, IsAscii, refl}
use Rattle.std.proofs.Common.{ap, arith}
use Rattle.std.proofs.lemmas.Fmt.{IsAscii-decimal, length-decimal-le, decimal_injective}
use Rattle.std.proofs.lemmas.Str.Ascii.{IsAscii-nil, IsAscii-cons}
use Rattle.shares.specs.Text.{Lacks}
use Rattle.shares.proofs.Lines.{decimal_lacks}
use Rattle.shares.specs.Text.{longest_text}
use Rattle.counting.specs.declared.permission.Permission.{Permission}
use Rattle.counting.specs.declared.permission.Permission.TheVariants.{Empty, Source, Readers}
use Rattle.counting.specs.declared.counting.Counting.{Counting}
use Rattle.counting.specs.Limits.{within}
use Rattle.counting.specs.Counts.{permission_text, text_of_share}
use Rattle.counting.specs.KindLaws.{same_held, source_few, readers_few}

digits_short : (n : ℕ) → n ≤ 4095 → length (decimal n) ≤ 4
digits_short n h = length-decimal-le 4 n (omega arith) (omega arith) (omega arith)

pub short : (p : Permission) → within p ≡ true → length (permission_text p) ≤ longest_text
short Empty e = omega arith
short (Source n) e = omega (arith, digits_short n (source_few n e))
short (Readers k) e = omega (arith, digits_short k (readers_few k e).1)

pub ascii : (p : Permission) → within p ≡ true → IsAscii (permission_text p)
ascii Empty e = IsAscii-cons 101 [] (omega arith) IsAscii-nil
ascii (Source n) e = IsAscii-cons 115 _ (omega arith) (IsAscii-decimal n (let h = source_few n e in omega arith))
ascii (Readers k) e = IsAscii-cons 114 _ (omega arith) (IsAscii-decimal k (let h = (readers_few k e).1 in omega arith))

pub on_a_line : (p : Permission) → within p ≡ true → Lacks 10 (permission_text p)
on_a_line Empty h = ((λ e. omega (arith, e)), tt)
on_a_line (Source n) h =
    ((λ e. omega (arith, e)), decimal_lacks 10 n (omega arith) (let few = source_few n h in omega arith))
on_a_line (Readers k) h =
    ((λ e. omega (arith, e)), decimal_lacks 10 k (omega arith) (let few = (readers_few k h).1 in omega arith))

same_number : (m n : ℕ) → m ≤ 4095 → n ≤ 4095 → decimal m ≡ decimal n → m ≡ n
same_number m n p q d = decimal_injective m n (omega arith) (omega arith) d

same_text : (p q : Permission) → within p ≡ true → within q ≡ true → permission_text p ≡ permission_text q → p ≡ q
same_text Empty Empty x y e = refl
same_text Empty (Source m) x y e = let z : ◌≡◌ {A = ℕ} 101 115 = cc in absurd (omega arith)
same_text Empty (Readers k) x y e = let z : ◌≡◌ {A = ℕ} 101 114 = cc in absurd (omega arith)
same_text (Source n) Empty x y e = let z : ◌≡◌ {A = ℕ} 115 101 = cc in absurd (omega arith)
same_text (Source n) (Source m) x y e = let d : decimal n ≡ decimal m = cc in ap Source (same_number n m (source_few n x) (source_few m y) d)
same_text (Source n) (Readers k) x y e = let z : ◌≡◌ {A = ℕ} 115 114 = cc in absurd (omega arith)
same_text (Readers j) Empty x y e = let z : ◌≡◌ {A = ℕ} 114 101 = cc in absurd (omega arith)
same_text (Readers j) (Source m) x y e = let z : ◌≡◌ {A = ℕ} 114 115 = cc in absurd (omega arith)
same_text (Readers j) (Readers k) x y e = let d : decimal j ≡ decimal k = cc in ap Readers (same_number j k (readers_few j x).1 (readers_few k y).1 d)

pub tells : (a b : Counting) → (text_of_share a ≡ text_of_share b) ↔ (a ≡ b)
tells a b = ((λ e. same_held a b (same_text a.held b.held a.limited b.limited e)), (λ e. ap text_of_share e))
