-- The words of a call as it is written say that call.
use Rattle.std.proofs.Common.{arith, ◌≡◌, ℕ, suc, ◌<◌, ◌^◌, Bool, true, false, not, ◌&&◌, nat_lt, List, [], ◌∷◌, ◌++◌, map, length, refl, sym, ap, ◌∙◌, subst, Result, codes, IsUtf8}
use Rattle.std.specs.Prelude.{⊤}
use Rattle.std.proofs.lemmas.Bool.{false≢true}
use Rattle.std.proofs.lemmas.Bool.Decides.{nat_tests}
use Rattle.std.proofs.lemmas.Fmt.{decimal_is_IsNumeral}
use Rattle.std.proofs.lemmas.Str.{encode_ascii, encodes-append, chars_from_encodes}
use Rattle.std.proofs.lemmas.Str.Parse.{digit_from_value, without_leading_plus_none}
use lib.Utf8.{encodes}
use Rattle.std.specs.Char.{is_whitespace}
use Rattle.std.specs.Fmt.{decimal}
use Rattle.std.specs.Int.{IsInRange}
use Rattle.std.specs.Str.{NonePass}
use Rattle.std.specs.Str.Parse.{AllDigits, IsNumeral, without_leading_plus, digits_value}
use Rattle.calls.specs.declared.call.Call.{Call}
use Rattle.calls.specs.declared.call.Call.TheVariants.{Open, Delegate, Yield, Merge, Assign, SetDay, Count, Issued, Today, LeaseAt, LeaseOf, Recall, Day, Standing, HandIn}
use Rattle.calls.specs.Written.{call_name, call_numbers, numbers_text, call_text}
use Rattle.calls.specs.Reading.{with_word, words_from, words_of, SaysNumber, SayNumbers, SayCall, Reads, Fit, ReadsBack}
use Rattle.calls.proofs.Words.{gathered, ended, some_word}

-- characters of ASCII that are not white space
abbrev Plain : List ℕ → Type 0
Plain [] = ⊤
Plain (b ∷ bs) = (b < 128) × (is_whitespace b ≡ false) × Plain bs

plain_same : (w : List ℕ) → Plain w → encodes w ≡ w
plain_same [] p = refl
plain_same (b ∷ bs) p = ap (λ l. l ++ encodes bs) (encode_ascii b p.0) ∙ ap (λ l. b ∷ l) (plain_same bs p.2)

plain_solid : (w : List ℕ) → Plain w → NonePass is_whitespace w
plain_solid [] p = tt
plain_solid (b ∷ bs) p = (p.1, plain_solid bs p.2)

abbrev all_plain : List ℕ → Bool
all_plain [] = true
all_plain (b ∷ bs) = nat_lt b 128 && (not (is_whitespace b) && all_plain bs)

tested : (w : List ℕ) → all_plain w ≡ true → Plain w
tested [] e = tt
tested (b ∷ bs) e =
    let h = both (nat_lt b 128) _ e in let k = both (not (is_whitespace b)) _ h.1 in
    (grind (arith, nat_tests, h.0), not_true (is_whitespace b) k.0, tested bs k.1)
  where
    both : (p q : Bool) → (p && q) ≡ true → (p ≡ true) × (q ≡ true)
    both true q e = (refl, e)
    both false q e = absurd (false≢true e)

    not_true : (b : Bool) → not b ≡ true → b ≡ false
    not_true true e = sym e
    not_true false e = refl

name_plain : (call : Call) → Plain (call_name call)
name_plain (Open r h) = tested (codes "open") refl
name_plain (Delegate l h d) = tested (codes "delegate") refl
name_plain (Yield l) = tested (codes "yield") refl
name_plain (Merge a b) = tested (codes "merge") refl
name_plain (Assign l h) = tested (codes "assign") refl
name_plain (SetDay d) = tested (codes "set_day") refl
name_plain Count = tested (codes "count") refl
name_plain Issued = tested (codes "issued") refl
name_plain Today = tested (codes "today") refl
name_plain (LeaseAt p) = tested (codes "lease_at") refl
name_plain (LeaseOf n) = tested (codes "lease") refl
name_plain (Recall l) = tested (codes "recall") refl
name_plain (Day d) = tested (codes "day") refl
name_plain (Standing r h) = tested (codes "standing") refl
name_plain (HandIn l) = tested (codes "hand_in") refl

name_some : (call : Call) → 0 < length (call_name call)
name_some (Open r h) = omega arith
name_some (Delegate l h d) = omega arith
name_some (Yield l) = omega arith
name_some (Merge a b) = omega arith
name_some (Assign l h) = omega arith
name_some (SetDay d) = omega arith
name_some Count = omega arith
name_some Issued = omega arith
name_some Today = omega arith
name_some (LeaseAt p) = omega arith
name_some (LeaseOf n) = omega arith
name_some (Recall l) = omega arith
name_some (Day d) = omega arith
name_some (Standing r h) = omega arith
name_some (HandIn l) = omega arith

digit_solid : (c : ℕ) → IsInRange 48 57 c → is_whitespace c ≡ false
digit_solid c r = grind (arith, nat_tests, r)

digits_plain : (ds : List ℕ) → AllDigits 10 ds → Plain ds
digits_plain [] d = tt
digits_plain (c ∷ cs) d = let r = digit_from_value c d.0 in (omega (arith, r.1), digit_solid c r, digits_plain cs d.1)

no_plus : (ds : List ℕ) → IsNumeral 10 ds → without_leading_plus ds ≡ ds
no_plus [] d = refl
no_plus (c ∷ cs) d = without_leading_plus_none (c ∷ cs) (λ e. let r = digit_from_value c d.1.0 in omega (arith, r.0, e))

decimal_numeral : (n : ℕ) → n < 2 ^ 16 → IsNumeral 10 (decimal n) × (digits_value 10 (decimal n) ≡ n)
decimal_numeral n l = decimal_is_IsNumeral n (omega (arith, l))

decimal_says : (n : ℕ) → n < 2 ^ 16 → SaysNumber (decimal n) n
decimal_says n l =
    let h = decimal_numeral n l in
    let e = sym (no_plus (decimal n) h.0) in
    (subst (IsNumeral 10) e h.0, subst (λ ds. digits_value 10 ds ≡ n) e h.1, l)

decimals_say : (ns : List ℕ) → Fit ns → SayNumbers (map decimal ns) ns
decimals_say [] f = tt
decimals_say (n ∷ ns) f = (decimal_says n (f 0 0 (omega arith)), decimals_say ns (λ k d l. f (suc k) d (omega (arith, l))))

-- a plain word comes off before numbers
word_before : (w ns : List ℕ) → Plain w → 0 < length w → words_from [] (w ++ numbers_text ns) ≡ w ∷ words_from [] (numbers_text ns)
word_before w ns p some =
    gathered [] w (numbers_text ns) (plain_solid w p) ∙ ap (λ v. words_from v (numbers_text ns)) (plain_same w p)
    ∙ stops ns ∙ some_word w (words_from [] (numbers_text ns)) some
  where
    stops : (ns : List ℕ) → words_from w (numbers_text ns) ≡ with_word w (words_from [] (numbers_text ns))
    stops [] = refl
    stops (n ∷ ns) = ended w 32 (decimal n ++ numbers_text ns) refl

number_words : (ns : List ℕ) → Fit ns → words_from [] (numbers_text ns) ≡ map decimal ns
number_words [] f = refl
number_words (n ∷ ns) f =
    let h = (decimal_numeral n (f 0 0 (omega arith))).0 in
    word_before (decimal n) ns (digits_plain (decimal n) h.1) h.0
    ∙ ap (λ ws. decimal n ∷ ws) (number_words ns (λ k d l. f (suc k) d (omega (arith, l))))

numbered_same : (ns : List ℕ) → Fit ns → encodes (numbers_text ns) ≡ numbers_text ns
numbered_same [] f = refl
numbered_same (n ∷ ns) f =
    let h = (decimal_numeral n (f 0 0 (omega arith))).0 in
    ap (λ l. l ++ encodes (decimal n ++ numbers_text ns)) (encode_ascii 32 (omega arith))
    ∙ ap (λ l. 32 ∷ l) (encodes-append (decimal n) (numbers_text ns)
    ∙ (λ i. plain_same (decimal n) (digits_plain (decimal n) h.1) i ++ numbered_same ns (λ k d l. f (suc k) d (omega (arith, l))) i))

written_same : (call : Call) → Fit (call_numbers call) → encodes (call_text call) ≡ call_text call
written_same call f =
    encodes-append (call_name call) (numbers_text (call_numbers call))
    ∙ (λ i. plain_same (call_name call) (name_plain call) i ++ numbered_same (call_numbers call) f i)

written_says : (text : List ℕ) (call : Call) → IsUtf8 text → Fit (call_numbers call) → text ≡ call_text call → SayCall (words_of text) call
written_says text call u f e =
    subst (λ ws. SayCall ws call)
    (sym (ap (words_from []) (sym (chars_from_encodes (call_text call) text u (written_same call f ∙ sym e)))
    ∙ word_before (call_name call) (call_numbers call) (name_plain call) (name_some call)
    ∙ ap (λ ws. call_name call ∷ ws) (number_words (call_numbers call) f)))
    (refl, decimals_say (call_numbers call) f)

-- so a reader that reads as it should reads them back
pub reads_back : {E : Type 0} (text : List ℕ) (answer : Result Call E) → IsUtf8 text → Reads text answer → Reads text answer × ReadsBack text answer
reads_back text answer u reads = (reads, λ call f e. (reads call).1 (written_says text call u f e))
