-- Calls and lists of calls have one result.
use Rattle.std.proofs.Common.{◌≡◌, ℕ, true, List, sym, ap, ◌∙◌, arith}
use Rattle.shares.specs.Kind.{Kind}
use Rattle.lending.specs.Office.{State}
use Rattle.lending.specs.Outcome.{Answer, Outcome}
use Rattle.lending.specs.Outcome.Outcome.{refuses, tells, grants}
use Rattle.lending.specs.Perform.{perform, Ends}
use Rattle.lending.specs.Idle.{idle}
use Rattle.lending.specs.Play.{play}
use Rattle.lending.specs.History.{Moment}
use Rattle.lending.specs.Choice.{CallsLeaveNoChoice, ListsLeaveNoChoice}
use Rattle.lending.proofs.Plays.{worked_call, worked_list}

module _ {S : Type 0} where
  one_answer : (o : Outcome S) (s t u : State S) (a b : Answer S) → Ends o s a t → Ends o s b u → a ≡ b
  one_answer (refuses r) s t u a b d e = d.0 ∙ sym e.0
  one_answer (tells x) s t u a b d e = d.0 ∙ sym e.0
  one_answer (grants x v) s t u a b d e = d.0 ∙ sym e.0

  one_core : (o : Outcome S) (s t u : State S) (a b : Answer S) → Ends o s a t → Ends o s b u → t.core ≡ u.core
  one_core (refuses r) s t u a b d e = ap (λ (x : State S). x.core) (d.1 ∙ sym e.1)
  one_core (tells x) s t u a b d e = ap (λ (x : State S). x.core) (d.1 ∙ sym e.1)
  one_core (grants x v) s t u a b d e = d.1 ∙ sym e.1

  one_state : (o : Outcome S) (s t u : State S) (a b : Answer S) → Ends o s a t → Ends o s b u → idle o ≡ true → t ≡ u
  one_state (refuses r) s t u a b d e i = d.1 ∙ sym e.1
  one_state (tells x) s t u a b d e i = d.1 ∙ sym e.1
  one_state (grants x v) s t u a b d e i = absurd (let z : ◌≡◌ {A = ℕ} 0 1 = cc in omega arith)

  pub calls_leave_no_choice_lem : (K : Kind S) → CallsLeaveNoChoice K
  calls_leave_no_choice_lem K s t u c a b d e = record {
    answers = one_answer (perform K s c) s t u a b d e;
    cores = one_core (perform K s c) s t u a b d e;
    idles = one_state (perform K s c) s t u a b d e;
    follows = λ layers p q. (worked_call layers (perform K s c) s t a p d).1 ∙ sym (worked_call layers (perform K s c) s u b q e).1;
  }

  pub lists_leave_no_choice_lem : (K : Kind S) → ListsLeaveNoChoice K
  lists_leave_no_choice_lem K layers s t u ms ns same d e p q f g =
      let one : (ms, t) ≡ (ns, u) = worked_list layers K s ms t d p f ∙ ap (play K layers s) same ∙ sym (worked_list layers K s ns u e q g) in
      (ap (λ (x : List (Moment S) × State S). x.0) one, ap (λ (x : List (Moment S) × State S). x.1) one)
