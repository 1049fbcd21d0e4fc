-- What is played through the definitions is a list of calls; and where objections follow from layers, a list of calls is what
-- is played.
use Rattle.std.proofs.Common.{◌≡◌, List, [], ◌∷◌, map, refl, ap, ap₂, ◌∙◌, subst}
use Rattle.shares.specs.Kind.{Kind}
use Rattle.lending.specs.Office.{Core, State}
use Rattle.lending.specs.Layers.{Layers, Follow, objections}
use Rattle.lending.specs.Outcome.{Answer, Outcome}
use Rattle.lending.specs.Outcome.Outcome.{refuses, tells, grants}
use Rattle.lending.specs.Perform.{perform, Ends, Does}
use Rattle.lending.specs.History.{Moment, Leads, EachCameTo}
use Rattle.lending.specs.Play.{play, outcome_answer, state_after, PlaysAreHistories}

pub plays_are_histories_lem : {S : Type 0} (K : Kind S) → PlaysAreHistories K
plays_are_histories_lem K layers s [] = refl
plays_are_histories_lem {S} K layers s (c ∷ cs) = (plays_are_histories_lem K layers s cs, ends (perform K (play K layers s cs).1 c))
  where
    ends : (o : Outcome S) → Ends o (play K layers s cs).1 (outcome_answer o) (state_after layers o (play K layers s cs).1)
    ends (refuses r) = (refl, refl)
    ends (tells a) = (refl, refl)
    ends (grants a u) = (refl, refl)

module _ {S : Type 0} (layers : Layers S) where
  -- a call that was made, and as it is worked out
  pub worked_call : (o : Outcome S) (s u : State S) (a : Answer S) → Follow layers u → Ends o s a u → (a ≡ outcome_answer o) × (u ≡ state_after layers o s)
  worked_call (refuses r) s u a q e = e
  worked_call (tells x) s u a q e = e
  worked_call (grants x v) s u a q e = (e.0, ap₂ (λ (c : Core S) (o : _). record v { core = c; objections = o }) e.1 (q ∙ ap (λ (c : Core S). objections layers c.roll c.today) e.1))

  -- a list of calls that were made, and as it is played
  pub worked_list : (K : Kind S) (s : State S) (ms : List (Moment S)) (t : State S) → Leads K s ms t → EachCameTo (Follow layers) ms → Follow layers t → (ms, t) ≡ play K layers s (map (λ m. m.call) ms)
  worked_list K s [] t leads each f = ap (λ (x : State S). ([], x)) leads
  worked_list K s (m ∷ ms) t leads each f =
      let cs = map (λ (m : Moment S). m.call) ms in
      let p = play K layers s cs in
      let before = worked_list K s ms m.before leads.0 each.1 each.0 in
      let at : m.before ≡ p.1 = ap (λ (x : List (Moment S) × State S). x.1) before in
      let known = worked_call (perform K p.1 m.call) p.1 t m.answer f (subst (λ (x : State S). Does K x m.call m.answer t) at leads.1) in
      let moment : m ≡ record { before = p.1; call = m.call; answer = outcome_answer (perform K p.1 m.call) } = ap₂ (λ (x : State S) (a : Answer S). record { before = x; call = m.call; answer = a }) at known.0 in
      ap₂ (λ (xs : List (Moment S)) (x : State S). (xs, x)) (ap₂ (λ (y : Moment S) (ys : List (Moment S)). y ∷ ys) moment (ap (λ (x : List (Moment S) × State S). x.0) before)) known.1
