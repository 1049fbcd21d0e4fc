-- A call that is not a question is refused where it changes nothing.
use Rattle.std.proofs.Common.{◌≡◌, ℕ, true, false, List, [], ◌∷◌, Ok, Err, Result, refl, arith}
use Rattle.std.specs.Prelude.{is_ok}
use Rattle.lending.specs.declared.refusal.Refusal as code
use Rattle.shares.specs.Kind.{Kind}
use Rattle.lending.specs.Office.{State, Refusal}
use Rattle.lending.specs.Outcome.{Answer, Outcome, and_then}
use Rattle.lending.specs.Outcome.Call.{open_resource, delegate, yield, merge, assign, new_day, recall, day}
use Rattle.lending.specs.Outcome.Outcome.{refuses, tells, grants}
use Rattle.lending.specs.Calls.{do_open, do_delegate, do_yield, do_merge, do_assign, do_set_day}
use Rattle.lending.specs.Above.{yields, do_recall, do_day}
use Rattle.lending.specs.Perform.{perform, Ends, Does}
use Rattle.lending.specs.Answers.{done_or_refused, number_or_refused}
use Rattle.lending.specs.Idle.{idle}
use Rattle.lending.proofs.Cases.{open_case, delegate_case, yield_case, merge_case, assign_case, set_day_case, recall_case, day_case}

module _ {S : Type 0} where
  -- the call is no question
  pub data Acts : Outcome S → Type 0 where
    acts_refused : {r : Refusal} → Acts (refuses r)
    acts_granted : {a : Answer S} {t : State S} → Acts (grants a t)

  pub acts_then : (o : Outcome S) (f : State S → Outcome S) → Acts o → ((t : State S) → Acts (f t)) → Acts (and_then o f)
  acts_then (refuses r) f a h = acts_refused
  acts_then (grants a t) f b h = h t
  acts_then (tells a) f b h = elim b [ ]

  refused_acts : (r : Refusal) → Acts (refuses r)
  refused_acts r = acts_refused

  module _ (K : Kind S) where
    acts_yield : (s : State S) (n : ℕ) → Acts (do_yield K s n)
    acts_yield s n = yield_case Acts refused_acts K s n (λ l found e. acts_granted)

    pub acts_yields : (s : State S) (ns : List ℕ) → Acts (yields K s ns)
    acts_yields s [] = acts_granted
    acts_yields s (n ∷ ns) = acts_then (do_yield K s n) (λ t. yields K t ns) (acts_yield s n) (λ t. acts_yields t ns)

    pub acts_day : (s : State S) (d : ℕ) → Acts (do_set_day s d)
    acts_day s d = set_day_case Acts refused_acts s d acts_granted

    acts_recall : (s : State S) (n : ℕ) → Acts (do_recall K s n)
    acts_recall s n = recall_case K (λ k t. Unit {0}) (λ k t q m l found e. tt) Acts refused_acts s tt n (λ u q. acts_granted)

    acts_next : (s : State S) (d : ℕ) → Acts (do_day K s d)
    acts_next s d = day_case K (λ k t. Unit {0}) (λ k t q m l found e. tt) Acts refused_acts s tt d (λ u q. acts_granted)

  idle_number : (o : Outcome S) (s t : State S) (r : Result ℕ code.Refusal) → Acts o → Ends o s (number_or_refused r) t → idle o ≡ true → is_ok r ≡ false
  idle_number (refuses f) s t (Ok k) a d i = absurd (let z : ◌≡◌ {A = ℕ} 0 1 = (let w = d.0 in cc) in omega arith)
  idle_number (refuses f) s t (Err g) a d i = refl
  idle_number (tells x) s t r a d i = elim a [ ]
  idle_number (grants x u) s t r a d i = absurd (let z : ◌≡◌ {A = ℕ} 0 1 = cc in omega arith)

  idle_done : (o : Outcome S) (s t : State S) (r : Result (Unit {0}) code.Refusal) → Acts o → Ends o s (done_or_refused r) t → idle o ≡ true → is_ok r ≡ false
  idle_done (refuses f) s t (Ok k) a d i = absurd (let z : ◌≡◌ {A = ℕ} 0 1 = (let w = d.0 in cc) in omega arith)
  idle_done (refuses f) s t (Err g) a d i = refl
  idle_done (tells x) s t r a d i = elim a [ ]
  idle_done (grants x u) s t r a d i = absurd (let z : ◌≡◌ {A = ℕ} 0 1 = cc in omega arith)

  module _ (K : Kind S) (s t : State S) where
    pub idle_open : (r h : ℕ) (x : Result ℕ code.Refusal) → Does K s (open_resource r h) (number_or_refused x) t → idle (perform K s (open_resource r h)) ≡ true → is_ok x ≡ false
    idle_open r h x d i = idle_number (do_open K s r h) s t x (open_case Acts refused_acts K s r h (λ e. acts_granted)) d i

    pub idle_delegate : (p h d : ℕ) (x : Result ℕ code.Refusal) → Does K s (delegate p h d) (number_or_refused x) t → idle (perform K s (delegate p h d)) ≡ true → is_ok x ≡ false
    idle_delegate p h d x e i = idle_number (do_delegate K s p h d) s t x (delegate_case Acts refused_acts K s p h d (λ l found e kept lent cut. acts_granted)) e i

    pub idle_yield : (n : ℕ) (x : Result (Unit {0}) code.Refusal) → Does K s (yield n) (done_or_refused x) t → idle (perform K s (yield n)) ≡ true → is_ok x ≡ false
    idle_yield n x d i = idle_done (do_yield K s n) s t x (acts_yield K s n) d i

    pub idle_merge : (a b : ℕ) (x : Result (Unit {0}) code.Refusal) → Does K s (merge a b) (done_or_refused x) t → idle (perform K s (merge a b)) ≡ true → is_ok x ≡ false
    idle_merge a b x d i = idle_done (do_merge K s a b) s t x (merge_case Acts refused_acts K s a b (λ x y fx fy e₁ e₂. acts_granted)) d i

    pub idle_assign : (n h : ℕ) (x : Result (Unit {0}) code.Refusal) → Does K s (assign n h) (done_or_refused x) t → idle (perform K s (assign n h)) ≡ true → is_ok x ≡ false
    idle_assign n h x d i = idle_done (do_assign s n h) s t x (assign_case Acts refused_acts s n h acts_granted) d i

    pub idle_day : (d : ℕ) (x : Result (Unit {0}) code.Refusal) → Does K s (new_day d) (done_or_refused x) t → idle (perform K s (new_day d)) ≡ true → is_ok x ≡ false
    idle_day d x e i = idle_done (do_set_day s d) s t x (acts_day K s d) e i

    pub idle_recall : (n : ℕ) (x : Result ℕ code.Refusal) → Does K s (recall n) (number_or_refused x) t → idle (perform K s (recall n)) ≡ true → is_ok x ≡ false
    idle_recall n x d i = idle_number (do_recall K s n) s t x (acts_recall K s n) d i

    pub idle_next : (d : ℕ) (x : Result ℕ code.Refusal) → Does K s (day d) (number_or_refused x) t → idle (perform K s (day d)) ≡ true → is_ok x ≡ false
    idle_next d x e i = idle_number (do_day K s d) s t x (acts_next K s d) e i
