-- A text tells its tree, and is short.
-- A proof, which nobody need read: it stands in specs/ because the implementation names it, and no contract cites it.
use Rattle.std.specs.Prelude.{IsAscii, ◌≡◌, ℕ, zero, suc, ◌+◌, ◌/◌, ◌%◌, ◌^◌, ◌≤◌, true, false, List, [], ◌∷◌, ◌++◌, length, refl}
use Rattle.std.proofs.Common.{ap₂, append_assoc, arith, length-append}
use Rattle.std.proofs.lemmas.Str.{IsAscii-append}
use Rattle.std.proofs.lemmas.Str.Ascii.{IsAscii-nil, IsAscii-cons}
use Rattle.shares.specs.Text.{Lacks}
use Rattle.shares.proofs.Lines.{lacks-append}
use Rattle.trees.specs.Tree.{Tree, leaf, node, fold, text}
use Rattle.trees.specs.Cells.{span, tree_of}

-- a text tells its tree, and where it ends
pub text_exact : (s t : Tree) (xs ys : List ℕ) → text s ++ xs ≡ text t ++ ys → (s ≡ t) × (xs ≡ ys)
text_exact (leaf true) (leaf true) xs ys e = (refl, (cc))
text_exact (leaf true) (leaf false) xs ys e = let z : ◌≡◌ {A = ℕ} 49 48 = cc in absurd (omega arith)
text_exact (leaf true) (node l r) xs ys e = let z : ◌≡◌ {A = ℕ} 49 40 = cc in absurd (omega arith)
text_exact (leaf false) (leaf true) xs ys e = let z : ◌≡◌ {A = ℕ} 48 49 = cc in absurd (omega arith)
text_exact (leaf false) (leaf false) xs ys e = (refl, (cc))
text_exact (leaf false) (node l r) xs ys e = let z : ◌≡◌ {A = ℕ} 48 40 = cc in absurd (omega arith)
text_exact (node l r) (leaf true) xs ys e = let z : ◌≡◌ {A = ℕ} 40 49 = cc in absurd (omega arith)
text_exact (node l r) (leaf false) xs ys e = let z : ◌≡◌ {A = ℕ} 40 48 = cc in absurd (omega arith)
text_exact (node l r) (node a b) xs ys e =
    let f : (text l ++ (text r ++ (41 ∷ []))) ++ xs ≡ (text a ++ (text b ++ (41 ∷ []))) ++ ys = cc in
    let p = text_exact l a (text r ++ (41 ∷ xs)) (text b ++ (41 ∷ ys)) (simp append_assoc at f) in
    let q = text_exact r b (41 ∷ xs) (41 ∷ ys) p.1 in
    (ap₂ node p.0 q.0, let g = q.1 in (cc))

text_node : (l r : Tree) → length (text (node l r)) ≤ length (text l) + length (text r) + 2
text_node l r = omega (arith, length-append (text l) (text r ++ (41 ∷ [])), length-append (text r) (41 ∷ []))

text_fold : (l r : Tree) → length (text (fold l r)) ≤ length (text l) + length (text r) + 2
text_fold (leaf true) (leaf true) = omega arith
text_fold (leaf true) (leaf false) = omega arith
text_fold (leaf true) (node a b) = text_node (leaf true) (node a b)
text_fold (leaf false) (leaf true) = omega arith
text_fold (leaf false) (leaf false) = omega arith
text_fold (leaf false) (node a b) = text_node (leaf false) (node a b)
text_fold (node a b) r = text_node (node a b) r

-- the longest text of a block of height h
abbrev pub most : ℕ → ℕ
most zero = 1
most (suc h) = most h + most h + 2

pub text_short : (h n : ℕ) → length (text (tree_of h n)) ≤ most h
text_short zero zero = omega arith
text_short zero (suc n) = omega arith
text_short (suc h) n =
    let a = text_short h (n % 2 ^ span h) in
    let b = text_short h (n / 2 ^ span h) in
    omega (arith, text_fold (tree_of h (n % 2 ^ span h)) (tree_of h (n / 2 ^ span h)))

-- a text is ASCII
pub text_ascii : (t : Tree) → IsAscii (text t)
text_ascii (leaf true) = IsAscii-cons 49 [] (omega arith) IsAscii-nil
text_ascii (leaf false) = IsAscii-cons 48 [] (omega arith) IsAscii-nil
text_ascii (node l r) =
    IsAscii-cons 40 _ (omega arith) (IsAscii-append (text l) _ (text_ascii l) (IsAscii-append (text r) _ (text_ascii r) (IsAscii-cons 41 [] (omega arith) IsAscii-nil)))

-- and has no line break
pub text_on_a_line : (t : Tree) → Lacks 10 (text t)
text_on_a_line (leaf true) = ((λ e. omega (arith, e)), tt)
text_on_a_line (leaf false) = ((λ e. omega (arith, e)), tt)
text_on_a_line (node l r) =
    let end : Lacks 10 (41 ∷ []) = ((λ e. omega (arith, e)), tt) in
    ((λ e. omega (arith, e)), lacks-append 10 (text l) _ (text_on_a_line l) (lacks-append 10 (text r) _ (text_on_a_line r) end))
