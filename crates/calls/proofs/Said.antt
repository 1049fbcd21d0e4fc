-- The call that the words of a text say, from its name and its numbers.
use Rattle.std.proofs.Common.{◌≡◌, ℕ, ◌↔◌, List, [], ◌∷◌, drop, get_or, refl, sym, ap, ◌∙◌, subst, None, Option, Ok, Err, Result, IsErr, IfOk}
use Rattle.calls.specs.declared.call.Call.{Call}
use Rattle.calls.specs.declared.call.Call.TheVariants.{Open, Delegate, Yield, Merge, Assign, SetDay, Count, Issued, Today, LeaseAt, LeaseOf, Recall, Day, Standing, HandIn}
use Rattle.calls.specs.Written.{call_name, call_numbers}
use Rattle.calls.specs.Reading.{words_of, SayNumbers, SayCall, Reads, first, first_three}
use Rattle.calls.proofs.Numbers.{IsRead, not_ok}

-- no numbers are what the words say
abbrev pub SayNone : List (List ℕ) → Type 0
SayNone words = (numbers : List ℕ) → SayNumbers words numbers → ⊥

pub stuck : {E : Type 0} (r : Result (Option ℕ) E) (words left : List (List ℕ)) → IsRead words r left → IsErr r → SayNone words
stuck r words left read failed numbers h = not_ok (first numbers) r failed ((read numbers).0 h).0

pub passed : {E : Type 0} (r : Result (Option ℕ) E) (words left : List (List ℕ)) → IsRead words r left → SayNone left → SayNone words
passed r words left read none numbers h = none (drop 1 numbers) ((read numbers).0 h).1

named : (words left : List (List ℕ)) (word : List ℕ) → words ≡ word ∷ left → (call : Call) → SayCall words call ↔ ((word ≡ call_name call) × SayNumbers left (call_numbers call))
named words left word e call = subst (λ l. SayCall l call ↔ ((word ≡ call_name call) × SayNumbers left (call_numbers call))) (sym e) (λ h. h, λ h. h)

-- a text that says no call is refused
refused : {E : Type 0} (text : List ℕ) (answer : Result Call E) → IsErr answer → ((call : Call) → SayCall (words_of text) call → ⊥) → Reads text answer
refused text answer failed none call = (λ e. absurd (not_ok call answer failed e), λ h. absurd (none call h))

pub no_name : {E : Type 0} (text : List ℕ) (answer : Result Call E) → IsErr answer → words_of text ≡ [] → Reads text answer
no_name text answer failed e = refused text answer failed (λ call h. subst (λ l. SayCall l call) e h)

pub no_numbers : {E : Type 0} (text word : List ℕ) (left : List (List ℕ)) (answer : Result Call E) → IsErr answer → words_of text ≡ word ∷ left → SayNone left → Reads text answer
no_numbers text word left answer failed e none = refused text answer failed (λ call h. none (call_numbers call) ((named (words_of text) left word e call).0 h).1)

-- no call has four numbers
no_fourth : (call : Call) → drop 1 (drop 1 (drop 1 (call_numbers call))) ≡ []
no_fourth (Open r h) = refl
no_fourth (Delegate l h d) = refl
no_fourth (Yield l) = refl
no_fourth (Merge a b) = refl
no_fourth (Assign l h) = refl
no_fourth (SetDay d) = refl
no_fourth Count = refl
no_fourth Issued = refl
no_fourth Today = refl
no_fourth (LeaseAt p) = refl
no_fourth (LeaseOf n) = refl
no_fourth (Recall l) = refl
no_fourth (Day d) = refl
no_fourth (Standing r h) = refl
no_fourth (HandIn l) = refl

module _ {F : Type 0} (text word : List ℕ) (one two three four : List (List ℕ)) (r s t : Result (Option ℕ) F) (name : words_of text ≡ word ∷ one) (a : IsRead one r two) (b : IsRead two s three) (c : IsRead three t four) where
  -- four words are a name and three numbers
  said : (call : Call) → let numbers = call_numbers call in
      SayCall (words_of text) call ↔ ((word ≡ call_name call) × (r ≡ Ok (first numbers)) × (s ≡ Ok (first (drop 1 numbers))) × (t ≡ Ok (first (drop 1 (drop 1 numbers)))) × SayNumbers four [])
  said call =
      let n = named (words_of text) one word name call in
      let numbers = call_numbers call in (
        λ h. let i = n.0 h in let j = (a numbers).0 i.1 in let k = (b (drop 1 numbers)).0 j.1 in let l = (c (drop 1 (drop 1 numbers))).0 k.1 in
            (i.0, j.0, k.0, l.0, subst (SayNumbers four) (no_fourth call) l.1),
        λ h. n.1 (h.0, (a numbers).1 (h.1, (b (drop 1 numbers)).1 (h.2, (c (drop 1 (drop 1 numbers))).1 (h.3, subst (SayNumbers four) (sym (no_fourth call)) h.4)))),
      )

  -- a word too many
  pub too_many : {E : Type 0} (answer : Result Call E) → IsErr answer → (four ≡ [] → ⊥) → Reads text answer
  too_many answer failed more = refused text answer failed (λ call h. more (none_said four ((said call).0 h).4))
    where
      none_said : (words : List (List ℕ)) → SayNumbers words [] → words ≡ []
      none_said [] h = refl
      none_said (word ∷ words) h = absurd h

  -- no word too many
  pub just : {E : Type 0} (x y z : Option ℕ) (answer : Result Call E) → r ≡ Ok x → s ≡ Ok y → t ≡ Ok z → four ≡ [] → ((call : Call) → word ≡ call_name call → x ∷ y ∷ z ∷ [] ≡ first_three (call_numbers call) → answer ≡ Ok call) → IfOk answer (λ call. (word ≡ call_name call) × (x ∷ y ∷ z ∷ [] ≡ first_three (call_numbers call))) → Reads text answer
  just x y z answer p q o e named_so only call = (
    λ is.
        let h = subst (λ k. IfOk k (λ call. (word ≡ call_name call) × (x ∷ y ∷ z ∷ [] ≡ first_three (call_numbers call)))) is only in
        (said call).1 (h.0, p ∙ ap (λ l. Ok (get_or l 0 None)) h.1, q ∙ ap (λ l. Ok (get_or l 1 None)) h.1, o ∙ ap (λ l. Ok (get_or l 2 None)) h.1, subst (λ l. SayNumbers l []) (sym e) tt),
    λ h.
        let k = (said call).0 h in
        named_so call k.0 (λ i. value x (sym p ∙ k.1) i ∷ value y (sym q ∙ k.2) i ∷ value z (sym o ∙ k.3) i ∷ []),
  )
    where
      value_or : Option ℕ → Result (Option ℕ) F → Option ℕ
      value_or d (Ok v) = v
      value_or d (Err e) = d

      value : (v : Option ℕ) {w : Option ℕ} → ◌≡◌ {A = Result (Option ℕ) F} (Ok v) (Ok w) → v ≡ w
      value v e = ap (value_or v) e
