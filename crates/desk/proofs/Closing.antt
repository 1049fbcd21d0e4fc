-- What yields from the last of some numbers to the first come to, where they are those of a family or those that fall due.
use Rattle.std.proofs.Common.{◌≡◌, ℕ, Bool, true, false, cond, not, List, map, length, reverse, Ok, Err, Result, sym, refl, ap, ◌∙◌, subst, arith}
use Rattle.std.specs.List.{filter}
use Rattle.std.specs.Result.{result_unwrap_or}
use Rattle.std.proofs.lemmas.List.{length-reverse}
use Rattle.std.proofs.lemmas.Bool.{cond-true, cond-false}
use Rattle.lending.specs.declared.lease.Lease.{Lease}
use Rattle.lending.specs.declared.refusal.Refusal.{Refusal}
use Rattle.shares.specs.Kind.{Kind}
use Rattle.lending.specs.Office.{State}
use Rattle.lending.specs.Outcome.{Answer, Outcome, is_refused}
use Rattle.lending.specs.Outcome.Answer.{done, number}
use Rattle.lending.specs.Outcome.Call.{recall, day, new_day, hand_in}
use Rattle.lending.specs.Outcome.Outcome.{refuses, tells, grants}
use Rattle.lending.specs.Roll.{live, family}
use Rattle.lending.specs.Calls.{bad_day, due_by}
use Rattle.lending.specs.Above.{yields, downward, recall_all}
use Rattle.lending.specs.Perform.{perform, Ends, Does}
use Rattle.lending.specs.Idle.{idle}
use Rattle.lending.specs.Answers.{number_or_refused}
use Rattle.lending.proofs.Going.{recall_granted, recall_ends, day_ends}
use Rattle.office.specs.Lawful.{Lawful}

module _ {S : Type 0} (K : Kind S) (s : State S) (rows : List (Lease S)) (law : Lawful s rows) where
  pub recalled : (n : ℕ) → live s.core.roll n ≡ true → (items ns : List ℕ) → items ≡ map (λ l. l.number) (family s.core.roll n) → ns ≡ items → (t : State S) → ((u : State S) → yields K s (reverse ns) ≡ grants done u → t.core ≡ u.core) → (k : ℕ) → k ≡ length items → Does K s (recall n) (number k) t
  recalled n alive items ns e f t h k len =
      let down : reverse ns ≡ downward (family s.core.roll n) = ap reverse (f ∙ e) in
      subst (λ (o : Outcome S). Ends o s (number k) t) (sym (cond-false (not (live s.core.roll n)) (refuses (record { number = 6; level = 0 })) (recall_all K s n) (ap not alive)))
      (recall_ends K s law.orderly n alive t k (len ∙ ap length e ∙ sym (length-reverse (map (λ l. l.number) (family s.core.roll n)))) (λ u y. h u (ap (yields K s) down ∙ y)))

  pub day_came : (d : ℕ) → bad_day s d ≡ false → (items ns : List ℕ) → items ≡ map (λ l. l.number) (filter (due_by d) s.core.roll) → ns ≡ items → (t : State S) → ((u : State S) → yields K s (reverse ns) ≡ grants done u → t.core ≡ u.core) → (a : Answer S) (v : State S) → Does K t (new_day d) a v → (k : ℕ) → k ≡ length items → Does K s (day d) (number k) v
  day_came d good items ns e f t h a v does k len =
      let down : reverse ns ≡ downward (filter (due_by d) s.core.roll) = ap reverse (f ∙ e) in
      day_ends K s law.orderly d good t v a k (len ∙ ap length e ∙ sym (length-reverse (map (λ l. l.number) (filter (due_by d) s.core.roll)))) (λ u y. h u (ap (yields K s) down ∙ y)) does

  -- a hand-in is a recall, but that a lease which is not live is no refusal
  pub handed_in : (n : ℕ) (t : State S) (r : Result ℕ Refusal) → Does K s (recall n) (number_or_refused r) t → Does K s (hand_in n) (number (result_unwrap_or r 0)) t
  handed_in n t r d = go (live s.core.roll n) refl r d
    where
      go : (b : Bool) → live s.core.roll n ≡ b → (r : Result ℕ Refusal) → Ends (cond (not b) (refuses (record { number = 6; level = 0 })) (recall_all K s n)) s (number_or_refused r) t → Does K s (hand_in n) (number (result_unwrap_or r 0)) t
      go true e (Ok k) d = subst (λ (o : Outcome S). Ends o s (number k) t) (sym (cond-true (live s.core.roll n) (recall_all K s n) (tells (number 0)) e)) d
      go true e (Err f) d =
          let g = recall_granted K s law.orderly n e in
          let y : Ends (grants (number (length (downward (family s.core.roll n)))) g.0) s (number_or_refused {S = S} (Err f)) t = subst (λ (o : Outcome S). Ends o s (number_or_refused (Err f)) t) g.1 d in
          absurd (let z : ◌≡◌ {A = ℕ} 0 1 = (let w = y.0 in cc) in omega arith)
      go false e (Ok k) d = absurd (let z : ◌≡◌ {A = ℕ} 0 1 = (let w = d.0 in cc) in omega arith)
      go false e (Err f) d = subst (λ (o : Outcome S). Ends o s (number 0) t) (sym (cond-false (live s.core.roll n) (recall_all K s n) (tells (number 0)) e)) (refl, d.1)

  -- a hand-in that changes nothing recalls nothing
  pub idle_hand_in : (n : ℕ) (t : State S) (r : Result ℕ Refusal) → Does K s (recall n) (number_or_refused r) t → idle (perform K s (hand_in n)) ≡ true → is_refused (number_or_refused {S = S} r) ≡ true
  idle_hand_in n t r d i = go (live s.core.roll n) refl r d i
    where
      go : (b : Bool) → live s.core.roll n ≡ b → (r : Result ℕ Refusal) → Ends (cond (not b) (refuses (record { number = 6; level = 0 })) (recall_all K s n)) s (number_or_refused r) t → idle (cond b (recall_all K s n) (tells (number 0))) ≡ true → is_refused (number_or_refused {S = S} r) ≡ true
      go true e r d i = let g = recall_granted K s law.orderly n e in let w : idle {S = S} (grants (number (length (downward (family s.core.roll n)))) g.0) ≡ true = ap idle (sym g.1) ∙ i in absurd (let z : ◌≡◌ {A = ℕ} 0 1 = cc in omega arith)
      go false e (Ok k) d i = absurd (let z : ◌≡◌ {A = ℕ} 0 1 = (let w = d.0 in cc) in omega arith)
      go false e (Err f) d i = refl
