-- Jobs: calls, and a hand-in after them, are one list.
use Rattle.std.proofs.Common.{◌≡◌, ℕ, ◌+◌, ◌<◌, ◌≤◌, true, false, Some, None, Ok, List, [], ◌∷◌, ◌++◌, Option, length, take, refl, sym, ap, ap₂, ◌∙◌, subst, arith}
use Rattle.std.proofs.lemmas.List.{take_all}
use native.Mathlib.Numerals.{unary_clauses}
use Rattle.shares.specs.Kind.{Kind}
use Rattle.lending.specs.declared.refusal.Refusal as code
use Rattle.lending.specs.Office.{Refusal, State}
use Rattle.lending.specs.Layers.{Layers, Follow}
use Rattle.lending.specs.Outcome as office
use Rattle.lending.specs.Outcome.Answer.{done, number, lease, share, refused}
use Rattle.lending.specs.Outcome.Call.{hand_in}
use Rattle.lending.specs.Perform.{perform, Does}
use Rattle.lending.specs.History.{Closing, closing, tally, none, one_if_done, its_number}
use Rattle.lending.specs.History.Closing.{by_yield, by_merge, by_recall, by_day, by_none}
use Rattle.lending.specs.Promise.{LendingConserved}
use Rattle.lending.specs.Idle.{idle}
use Rattle.lending.specs.Answers.{refusal_meant}
use Rattle.lending.proofs.Plays.{worked_call}
use Rattle.office.specs.declared.office.Office.{Ghosts}
use Rattle.office.specs.Calls.{EachFollows}
use Rattle.calls.specs.declared.call.Call.{Call}
use Rattle.calls.specs.declared.call.Call.TheVariants.{HandIn}
use Rattle.calls.specs.declared.list.Tallies.{Tallies}
use Rattle.calls.specs.declared.call.Answer.{Answer}
use Rattle.calls.specs.declared.call.Answer.TheVariants as answers
use Rattle.calls.specs.Values.{call_meant, answer_meant}
use Rattle.calls.specs.Lists.{SomeOffice, ListMade, all_closed, tallies_with}
use Rattle.calls.specs.Jobs.{refusal_if_any, if_refused, NoneRefused, EndedBy, one_or_go_on, until_refused, Until, JobDone}
use Rattle.calls.specs.Quiet.{AllIdle}
use Rattle.calls.proofs.Following.{list_played}
use Rattle.calls.proofs.Making.{none_made, one_more}

-- a refused call closes nothing
nothing_more : (S : Type 0) (tallies : Tallies) (c : office.Call) (r : Refusal) → tallies_with {S = S} tallies c (refused r) ≡ tallies
nothing_more S tallies c r = go (closing c)
  where
    go : (k : Closing) → record { yielded = tallies.yielded + tally {S = S} one_if_done none none none k (refused r); merged = tallies.merged + tally {S = S} none one_if_done none none k (refused r); recalled = tallies.recalled + tally {S = S} none none its_number none k (refused r); lapsed = tallies.lapsed + tally {S = S} none none none its_number k (refused r) } ≡ tallies
    go by_yield = simp unary_clauses
    go by_merge = simp unary_clauses
    go by_recall = simp unary_clauses
    go by_day = simp unary_clauses
    go by_none = simp unary_clauses

module _ {S : Type 0} where
  unrefused : {X : Type 0} (a : office.Answer S) (f : Refusal → X) (x : X) → office.is_refused a ≡ false → if_refused a f x ≡ x
  unrefused done f x e = refl
  unrefused (number n) f x e = refl
  unrefused (lease l) f x e = refl
  unrefused (share s) f x e = refl
  unrefused (refused r) f x e = cc

  -- what was granted or told
  pub ok_unrefused : (a : Answer S) → office.is_refused (answer_meant (Ok a)) ≡ false
  ok_unrefused answers.Done = refl
  ok_unrefused (answers.Number n) = refl
  ok_unrefused (answers.Lease l) = refl
  ok_unrefused (answers.Share s) = refl

-- so many calls more
abbrev pub after_many : ℕ → ℕ × Option Refusal → ℕ × Option Refusal
after_many n p = (p.0 + n, p.1)

module _ {O S : Type 0} (K : Kind S) (it : Ghosts O S) where
  pub job_done : (before between after : O) (slip drawn : ℕ) (calls : List Call) (many : ℕ) (refusal : Option code.Refusal) (tallies : Tallies) (closed : ℕ) → Until K it before calls many refusal tallies between → Does K (it.meaning between) (hand_in slip) (number closed) (it.meaning after) → slip ≡ drawn → it.layers between ≡ it.layers before → it.layers after ≡ it.layers between → LendingConserved K
      → JobDone K it before drawn calls (record { made = many; refusal = refusal; tallies = tallies; closed = closed }) after
  job_done before between after slip drawn calls many refusal tallies closed until does is same same' always =
      let handed = subst (λ (n : ℕ). Does K (it.meaning between) (hand_in n) (number closed) (it.meaning after)) is does in
      let made = one_more K (SomeOffice it (it.layers before)) always (it.meaning before) (it.meaning between) (it.meaning after) (take many calls) (HandIn drawn) (number closed) tallies until.made handed (between, refl, same) in
      record {
        between = between;
        calls_made = until;
        handed_in = handed;
        made = made;
        one_history = refl;
        played = list_played K it before after _ _ made (same' ∙ same);
      }

module _ {O S : Type 0} (K : Kind S) (it : Ghosts O S) where
  -- where nothing is granted, neither of the calls nor of the hand-in, a job leaves the office as it was
  pub idle_job : (before between after : O) (slip drawn : ℕ) (calls : List Call) → (AllIdle K (it.meaning before) calls → between ≡ before) → (idle (perform K (it.meaning between) (hand_in slip)) ≡ true → after ≡ between) → slip ≡ drawn → AllIdle K (it.meaning before) calls → idle (perform K (it.meaning before) (hand_in drawn)) ≡ true → after ≡ before
  idle_job before between after slip drawn calls stays closes is all none =
      let same = stays all in
      closes (subst (λ (o : O). idle (perform K (it.meaning o) (hand_in slip)) ≡ true) (sym same) (subst (λ (n : ℕ). idle (perform K (it.meaning before) (hand_in n)) ≡ true) (sym is) none)) ∙ same

module _ {O S : Type 0} (K : Kind S) (it : Ghosts O S) (before : O) where
  -- Of some calls the first so many, xs, are made and none was refused; rest are the others.
  pub record SoFar (calls : List Call) (many : ℕ) (xs rest : List Call) (tallies : Tallies) (between : O) : Type 0 where
    pub made : ListMade K it before xs tallies between
    pub unrefused : NoneRefused made.history
    pub known : EachFollows it → until_refused K (it.layers before) (it.meaning before) calls ≡ after_many many (until_refused K (it.layers before) (it.meaning between) rest)

  pub none_so_far : LendingConserved K → (calls : List Call) (tallies : Tallies) → all_closed tallies ≡ 0 → SoFar calls 0 [] calls tallies before
  none_so_far always calls tallies zero = record {
    made = none_made K (SomeOffice it (it.layers before)) always (it.meaning before) tallies zero;
    unrefused = tt;
    known = λ follow. let r = until_refused K (it.layers before) (it.meaning before) calls in ap (λ (n : ℕ). (n, r.1)) (omega arith);
  }

  -- so many calls and no more
  until : (calls : List Call) (many : ℕ) (refusal : Option code.Refusal) (tallies : Tallies) (after : O) → many ≤ length calls → (xs : List Call) → xs ≡ take many calls → (made : ListMade K it before xs tallies after) → EndedBy refusal made.history → (refusal ≡ None → many ≡ length calls) → (EachFollows it → (many, refusal_if_any refusal) ≡ until_refused K (it.layers before) (it.meaning before) calls) → Until K it before calls many refusal tallies after
  until calls many refusal tallies after some xs e made ended all known =
      let p = subst (λ (ys : List Call). (m : ListMade K it before ys tallies after) × EndedBy refusal m.history) e (made, ended) in
      record { some = some; made = p.0; ended = p.1; all = all; known = known }

  -- all of them
  pub all_made : (calls : List Call) (many : ℕ) (tallies : Tallies) (after : O) → many ≡ length calls → SoFar calls many calls [] tallies after → Until K it before calls (length calls) None tallies after
  all_made calls many tallies after e so =
      until calls (length calls) None tallies after (omega arith) calls (sym (take_all (length calls) calls (omega arith))) so.made so.unrefused (λ n. refl)
      (λ follow. ap (λ (n : ℕ). (n, None)) (omega arith) ∙ sym (so.known follow))

  module _ (always : LendingConserved K) (calls : List Call) (many : ℕ) (xs : List Call) (c : Call) (rest : List Call) (tallies : Tallies) (between after : O) (so : SoFar calls many xs (c ∷ rest) tallies between) (same : it.layers between ≡ it.layers before) (same' : it.layers after ≡ it.layers before) where
    abbrev more : (a : office.Answer S) → Does K (it.meaning between) (call_meant c) a (it.meaning after) → ListMade K it before (xs ++ (c ∷ [])) (tallies_with tallies (call_meant c) a) after
    more a does = one_more K (SomeOffice it (it.layers before)) always (it.meaning before) (it.meaning between) (it.meaning after) xs c a tallies so.made does (between, refl, same)

    worked : (a : office.Answer S) → Does K (it.meaning between) (call_meant c) a (it.meaning after) → EachFollows it → until_refused K (it.layers before) (it.meaning before) calls ≡ after_many many (one_or_go_on a (until_refused K (it.layers before) (it.meaning after) rest))
    worked a does follow =
        let w = worked_call (it.layers before) (perform K (it.meaning between) (call_meant c)) (it.meaning between) (it.meaning after) a (subst (λ (l : Layers S). Follow l (it.meaning after)) same' (follow after)) does in
        so.known follow ∙ ap₂ (λ (b : office.Answer S) (t : State S). after_many many (one_or_go_on b (until_refused K (it.layers before) t rest))) (sym w.0) (sym w.1)

    -- one call more, which was not refused
    pub one_so_far : (a : office.Answer S) → Does K (it.meaning between) (call_meant c) a (it.meaning after) → office.is_refused a ≡ false → SoFar calls (many + 1) (xs ++ (c ∷ [])) rest (tallies_with tallies (call_meant c) a) after
    one_so_far a does e = record {
      made = more a does;
      unrefused = (e, so.unrefused);
      known = λ follow.
          let r = until_refused K (it.layers before) (it.meaning after) rest in
          worked a does follow ∙ ap (after_many many) (unrefused a (λ x. (1, Some x)) (r.0 + 1, r.1) e) ∙ ap (λ (n : ℕ). (n, r.1)) (omega arith);
    }

    -- one call more, which was refused
    pub stopped : (r : code.Refusal) → Does K (it.meaning between) (call_meant c) (refused (refusal_meant r)) (it.meaning after) → many < length calls → xs ++ (c ∷ []) ≡ take (many + 1) calls → Until K it before calls (many + 1) (Some r) tallies after
    stopped r does here e = subst (λ (t : Tallies). Until K it before calls (many + 1) (Some r) t after) (nothing_more S tallies (call_meant c) (refusal_meant r))
        (until calls (many + 1) (Some r) (tallies_with tallies (call_meant c) (refused (refusal_meant r))) after (omega arith) (xs ++ (c ∷ [])) e (more (refused (refusal_meant r)) does) (refl, so.unrefused) (λ n. cc)
        (λ follow. ap (λ (n : ℕ). (n, Some (refusal_meant r))) (omega arith) ∙ sym (worked (refused (refusal_meant r)) does follow)))
