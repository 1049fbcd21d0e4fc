-- The words of a text, as `split_whitespace` takes them off.
use Rattle.std.proofs.Common.{arith, ◌≡◌, ℕ, ◌<◌, true, false, ◌&&◌, cond, List, [], ◌∷◌, ◌++◌, length, refl, sym, ap, ◌∙◌, subst, Some, None, Option, Bor, IsUtf8}
use Rattle.std.proofs.lemmas.List.{length-append, append-nil, append_assoc}
use Rattle.std.proofs.lemmas.Bool.{false≢true}
use Rattle.std.proofs.lemmas.Str.{chars_from_encodes, cons_from_encodes, encode_same, length-encode, len_utf8_bounds}
use lib.Utf8.{scalar, scalars, encode, encodes}
use Rattle.std.specs.Char.{is_whitespace, is_not_whitespace}
use Rattle.std.specs.Str.{NonePass, EmptyOrStartsWithPassing}
use Rattle.std.specs.Str.Iter.{split_whitespace_rest, split_whitespace_steps}
use Rattle.std.specs.declared.str.SplitWhitespace.{SplitWhitespace}
use Rattle.calls.specs.Reading.{with_word, words_from, words_of}

-- a front of a text, in characters
front_off : (xs cs r : List ℕ) → encodes cs ≡ encodes xs ++ r → (es : List ℕ) × (cs ≡ xs ++ es) × (encodes es ≡ r)
front_off [] cs r e = (cs, refl, e)
front_off (x ∷ xs) cs r e =
    let h = cons_from_encodes cs (encodes xs ++ r) x (e ∙ append_assoc (encode x) (encodes xs) r) in
    let k = front_off xs h.0 r h.2 in
    (k.0, h.1 ∙ ap (λ l. x ∷ l) k.1, k.2)

scalars_after : (xs ys : List ℕ) → scalars (xs ++ ys) ≡ true → scalars ys ≡ true
scalars_after [] ys s = s
scalars_after (x ∷ xs) ys s = scalars_after xs ys (second (scalar x) s)
  where
    second : {p : _} (q : _) → (q && p) ≡ true → p ≡ true
    second true e = e
    second false e = absurd (false≢true e)

white : (c : ℕ) → is_not_whitespace c ≡ false → is_whitespace c ≡ true
white c e = grind (arith, e)

-- white space is passed over
pub white_off : (gs cs : List ℕ) → NonePass is_not_whitespace gs → words_from [] (gs ++ cs) ≡ words_from [] cs
white_off [] cs n = refl
white_off (g ∷ gs) cs n = ap (λ b. cond b (words_from [] (gs ++ cs)) (words_from (encode g) (gs ++ cs))) (white g n.0) ∙ white_off gs cs n.1

-- the characters of a word are gathered
pub gathered : (w xs cs : List ℕ) → NonePass is_whitespace xs → words_from w (xs ++ cs) ≡ words_from (w ++ encodes xs) cs
gathered w [] cs n = ap (λ v. words_from v cs) (sym (append-nil w))
gathered w (x ∷ xs) cs n =
    ap (λ b. cond b (with_word w (words_from [] (xs ++ cs))) (words_from (w ++ encode x) (xs ++ cs))) n.0
    ∙ gathered (w ++ encode x) xs cs n.1 ∙ ap (λ v. words_from v cs) (append_assoc w (encode x) (encodes xs))

-- and it ends before white space
pub ended : (w : List ℕ) (c : ℕ) (cs : List ℕ) → is_whitespace c ≡ true → words_from w (c ∷ cs) ≡ with_word w (words_from [] (c ∷ cs))
ended w c cs e =
    ap (λ b. cond b (with_word w (words_from [] cs)) (words_from (w ++ encode c) cs)) e
    ∙ sym (ap (λ b. with_word w (cond b (words_from [] cs) (words_from (encode c) cs))) e)

ended_by : (w es more : List ℕ) → EmptyOrStartsWithPassing is_whitespace (encodes es) more → words_from w es ≡ with_word w (words_from [] es)
ended_by w [] more s = refl
ended_by w (e ∷ es) more s =
    let h = s (omega (arith, length-append (encode e) (encodes es), length-encode e, len_utf8_bounds e)) in
    ended w e es (ap is_whitespace (encode_same e h.0 (encodes es) more h.2).0 ∙ h.1)

pub some_word : (w : List ℕ) (ws : List (List ℕ)) → 0 < length w → with_word w ws ≡ w ∷ ws
some_word [] ws l = absurd (omega (arith, l))
some_word (b ∷ bs) ws l = refl

-- a word comes off
pub word_off : (s t : SplitWhitespace) (x : Bor (List ℕ)) → IsUtf8 (split_whitespace_rest s) → split_whitespace_steps s (Some x) t → IsUtf8 (split_whitespace_rest t) × (words_of (split_whitespace_rest s) ≡ x.now ∷ words_of (split_whitespace_rest t))
word_off s t x u h =
    let gap = h.3 in let word = h.4 in
    let a = front_off gap.0 u.0 (x.now ++ split_whitespace_rest t) (u.1.1 ∙ h.1 ∙ ap (λ l. l ++ (x.now ++ split_whitespace_rest t)) (sym gap.1)) in
    let b = front_off word.0 a.0 (split_whitespace_rest t) (a.2 ∙ ap (λ l. l ++ split_whitespace_rest t) (sym word.1)) in
    let left : IsUtf8 (split_whitespace_rest t) = (b.0, (scalars_after word.0 b.0 (subst (λ l. scalars l ≡ true) b.1 (scalars_after gap.0 a.0 (subst (λ l. scalars l ≡ true) a.1 u.1.0))), b.2)) in (
      left,
      ap (words_from []) (sym (chars_from_encodes u.0 (split_whitespace_rest s) u u.1.1) ∙ a.1 ∙ ap (λ l. gap.0 ++ l) b.1)
          ∙ white_off gap.0 (word.0 ++ b.0) gap.2
          ∙ gathered [] word.0 b.0 word.2
          ∙ ap (λ v. words_from v b.0) word.1
          ∙ ended_by x.now b.0 h.5.0 (subst (λ r. EmptyOrStartsWithPassing is_whitespace r h.5.0) (sym b.2) h.5.1)
          ∙ some_word x.now (words_from [] b.0) h.2
          ∙ ap (λ l. x.now ∷ words_from [] l) (chars_from_encodes b.0 (split_whitespace_rest t) left b.2),
    )

-- and none
pub none_off : (s t : SplitWhitespace) → IsUtf8 (split_whitespace_rest s) → split_whitespace_steps s None t → (t ≡ s) × (words_of (split_whitespace_rest s) ≡ [])
none_off s t u h =
    (h.0, ap (words_from []) (sym (chars_from_encodes h.1.0 (split_whitespace_rest s) u h.1.1) ∙ sym (append-nil h.1.0)) ∙ white_off h.1.0 [] h.1.2)

-- where a word comes off there are words
pub some_left : (s t : SplitWhitespace) (r : Option (Bor (List ℕ))) (x : Bor (List ℕ)) → r ≡ Some x → split_whitespace_steps s r t → IsUtf8 (split_whitespace_rest s) → words_of (split_whitespace_rest s) ≡ [] → ⊥
some_left s t r x is h u e = omega (arith, ap length (sym e ∙ (word_off s t x u (subst (λ o. split_whitespace_steps s o t) is h)).1))
