-- Texts that lack a byte.
use Rattle.std.proofs.Common.{ℕ, ◌+◌, ◌<◌, ◌%◌, ◌^◌, List, [], ◌∷◌, ◌++◌, decimal, arith}
use Rattle.std.proofs.lemmas.Fmt.{decimal_by_steps}
use Rattle.shares.specs.Text.{Lacks}

pub lacks-append : (c : ℕ) (xs ys : List ℕ) → Lacks c xs → Lacks c ys → Lacks c (xs ++ ys)
lacks-append c [] ys p q = q
lacks-append c (x ∷ xs) ys p q = (p.0, lacks-append c xs ys p.1 q)

-- a number has no byte below the digits
pub decimal_lacks : (c n : ℕ) → c < 48 → n < 2 ^ 64 → Lacks c (decimal n)
decimal_lacks c n h = decimal_by_steps (λ n ds. Lacks c ds)
    (λ n l. ((λ e. omega (arith, e)), tt))
    (λ n ds l p. lacks-append c ds ((48 + n % 10) ∷ []) p ((λ e. omega (arith, e)), tt)) n
