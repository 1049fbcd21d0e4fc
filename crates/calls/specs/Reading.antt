-- What is read of a text: the call that its words say.
use Rattle.std.specs.Prelude.{◌≡◌, ℕ, ◌<◌, ◌^◌, ◌↔◌, ⊤, if◌then◌else◌, List, [], ◌∷◌, ◌++◌, drop, All, Ok, Result}
use Rattle.std.specs.Prelude.{Option, Some, None, chars, encode_utf8}
use Rattle.std.specs.Char.{is_whitespace}
use Rattle.std.specs.Str.Parse.{IsNumeral, digits_value, without_leading_plus}
use Rattle.calls.specs.declared.call.Call.{Call}
use Rattle.calls.specs.Written.{call_name, call_numbers, call_text}

-- a word and the words after it, or these alone where the word has no character
abbrev pub with_word : List ℕ → List (List ℕ) → List (List ℕ)
with_word [] others = others
with_word (b ∷ bs) others = (b ∷ bs) ∷ others

-- the words, where a word has begun and these characters follow
abbrev pub words_from : List ℕ → List ℕ → List (List ℕ)
words_from word [] = with_word word []
words_from word (c ∷ cs) =
    if is_whitespace c then with_word word (words_from [] cs) else words_from (word ++ encode_utf8 c) cs

-- the words of a text, with white space of any kind between, before and after them
abbrev pub words_of : List ℕ → List (List ℕ)
words_of text = words_from [] (chars text)

-- The word says the number: in digits, of which the first may be zeros, after one plus sign or none.
abbrev pub SaysNumber : List ℕ → ℕ → Type 0
SaysNumber word n =
    IsNumeral 10 (without_leading_plus word) × (digits_value 10 (without_leading_plus word) ≡ n) × (n < 2 ^ 16)

-- Each word says the number in its place, and none is left over.
abbrev pub SayNumbers : List (List ℕ) → List ℕ → Type 0
SayNumbers [] [] = ⊤
SayNumbers [] (n ∷ numbers) = ⊥
SayNumbers (word ∷ words) [] = ⊥
SayNumbers (word ∷ words) (n ∷ numbers) = SaysNumber word n × SayNumbers words numbers

-- The words say the call: its name, and after it each of its numbers.
abbrev pub SayCall : List (List ℕ) → Call → Type 0
SayCall [] call = ⊥
SayCall (word ∷ words) call = (word ≡ call_name call) × SayNumbers words (call_numbers call)

-- A call is read just where the words of the text say that call, so that any other text is refused.
abbrev pub Reads : {E : Type 0} → List ℕ → Result Call E → Type 0
Reads text answer = (call : Call) → (answer ≡ Ok call) ↔ SayCall (words_of text) call

-- numbers of 16 bits, as the code has them
abbrev pub Fit : List ℕ → Type 0
Fit numbers = All (λ n. n < 2 ^ 16) numbers

-- What is read of a call as it is written is that call.
abbrev pub ReadsBack : {E : Type 0} → List ℕ → Result Call E → Type 0
ReadsBack text answer = (call : Call) → Fit (call_numbers call) → text ≡ call_text call → answer ≡ Ok call

-- the first number, if there is one
abbrev pub first : List ℕ → Option ℕ
first [] = None
first (n ∷ numbers) = Some n

-- the first three, as far as there are so many
abbrev pub first_three : List ℕ → List (Option ℕ)
first_three numbers = first numbers ∷ first (drop 1 numbers) ∷ first (drop 1 (drop 1 numbers)) ∷ []
