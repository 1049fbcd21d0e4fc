-- The numbers that words say, word by word.
use Rattle.std.proofs.Common.{arith, ◌≡◌, ℕ, suc, ◌↔◌, List, [], ◌∷◌, length, drop, sym, ap, ◌∙◌, subst, Some, None, Option, Ok, Err, Result, IsErr, is_err}
use Rattle.std.proofs.lemmas.Bool.{false≢true}
use Rattle.std.specs.Str.Parse.{ParsesUnsigned}
use Rattle.calls.specs.Reading.{SaysNumber, SayNumbers, first}

-- the number that was read, as a number that tells it from none
abbrev told : {E : Type 0} → Result (Option ℕ) E → ℕ
told (Ok (Some n)) = suc n
told (Ok None) = 0
told (Err e) = 0

pub not_ok : {T E : Type 0} (x : T) (r : Result T E) → IsErr r → r ≡ Ok x → ⊥
not_ok x r failed e = false≢true (sym (ap is_err e) ∙ failed)

-- What the first of some words says was read, and the others are left.
abbrev pub IsRead : {E : Type 0} → List (List ℕ) → Result (Option ℕ) E → List (List ℕ) → Type 0
IsRead words answer left = (numbers : List ℕ) → SayNumbers words numbers ↔ ((answer ≡ Ok (first numbers)) × SayNumbers left (drop 1 numbers))

pub none_read : {E : Type 0} (r : Result (Option ℕ) E) (words left : List (List ℕ)) → r ≡ Ok None → words ≡ [] → left ≡ [] → IsRead words r left
none_read r [] [] e p q [] = (λ h. (e, tt), λ h. tt)
none_read r [] [] e p q (n ∷ numbers) = (λ h. absurd h, λ h. absurd (omega (arith, ap told (sym e ∙ h.0))))
none_read r [] (word ∷ left) e p q numbers = absurd (omega (arith, ap length q))
none_read r (word ∷ words) left e p q numbers = absurd (omega (arith, ap length p))

one_read : {E : Type 0} (r : Result (Option ℕ) E) (word : List ℕ) (left : List (List ℕ)) (m : ℕ) → r ≡ Ok (Some m) → SaysNumber word m → IsRead (word ∷ left) r left
one_read r word left m e s [] = (λ h. absurd h, λ h. absurd (omega (arith, ap told (sym e ∙ h.0))))
one_read r word left m e s (n ∷ numbers) = (
  λ h. (e ∙ ap (λ k. Ok (Some k)) (sym s.1 ∙ h.0.1), h.1),
  λ h. let same : m ≡ n = omega (arith, ap told (sym e ∙ h.0)) in (subst (SaysNumber word) same s, h.1),
)

not_read : {E : Type 0} (r : Result (Option ℕ) E) (word : List ℕ) (left : List (List ℕ)) → IsErr r → ((n : ℕ) → SaysNumber word n → ⊥) → IsRead (word ∷ left) r left
not_read r word left failed bad [] = (λ h. absurd h, λ h. absurd (not_ok (first []) r failed h.0))
not_read r word left failed bad (n ∷ numbers) = (λ h. absurd (bad n h.0), λ h. absurd (not_ok (first (n ∷ numbers)) r failed h.0))

-- a word that is parsed as a number says it
pub says : {F : Type 0} (p : Result ℕ F) (word : List ℕ) (m : ℕ) → p ≡ Ok m → ParsesUnsigned 16 10 word p → SaysNumber word m
says p word m is h = let k = subst (ParsesUnsigned 16 10 word) is h in (k.0.0, sym k.1, omega (arith, k.0.1, k.1))

-- and one that isn't parsed says none
pub says_none : {F : Type 0} (p : Result ℕ F) (word : List ℕ) (f : F) (n : ℕ) → p ≡ Err f → ParsesUnsigned 16 10 word p → SaysNumber word n → ⊥
says_none p word f n is h s = (subst (ParsesUnsigned 16 10 word) is h) (s.0, omega (arith, s.1, s.2))

pub number_read : {E : Type 0} (r : Result (Option ℕ) E) (word : List ℕ) (words left : List (List ℕ)) (m : ℕ) → SaysNumber word m → r ≡ Ok (Some m) → words ≡ word ∷ left → IsRead words r left
number_read r word words left m s e w = subst (λ l. IsRead l r left) (sym w) (one_read r word left m e s)

pub number_refused : {E : Type 0} (r : Result (Option ℕ) E) (word : List ℕ) (words left : List (List ℕ)) → ((n : ℕ) → SaysNumber word n → ⊥) → IsErr r → words ≡ word ∷ left → IsRead words r left
number_refused r word words left bad failed w = subst (λ l. IsRead l r left) (sym w) (not_read r word left failed bad)
