-- Lists of calls played through the definitions, at an office whose objections follow from its layers.
use Rattle.std.specs.Prelude.{List, [], ◌∷◌}
use Rattle.shares.specs.Kind.{Kind}
use Rattle.lending.specs.Office.{State}
use Rattle.lending.specs.Outcome.{Call, Answer, Outcome}
use Rattle.lending.specs.Outcome.Answer.{refused}
use Rattle.lending.specs.Outcome.Outcome.{refuses, tells, grants}
use Rattle.lending.specs.Perform.{perform}
use Rattle.lending.specs.History.{Moment, Leads}
use Rattle.lending.specs.Layers.{Layers, objections}

module _ {S : Type 0} where
  -- what a call answers that ends so
  abbrev pub outcome_answer : Outcome S → Answer S
  outcome_answer (refuses r) = refused r
  outcome_answer (tells a) = a
  outcome_answer (grants a t) = a

  -- what an office with these layers stands for after a call that ends so
  abbrev pub state_after : Layers S → Outcome S → State S → State S
  state_after layers (grants a t) s = record t { objections = objections layers t.core.roll t.core.today }
  state_after layers o s = s

  -- what it answers to some calls, the last first, and the state that they lead to
  abbrev pub play : Kind S → Layers S → State S → List Call → List (Moment S) × State S
  play K layers s [] = ([], s)
  play K layers s (c ∷ cs) = on (play K layers s cs)
    where
      on : List (Moment S) × State S → List (Moment S) × State S
      on p =
          let o = perform K p.1 c in
          ((record { before = p.1; call = c; answer = outcome_answer o } ∷ p.0), state_after layers o p.1)

  -- What is played is a list of calls, each made to the state that the one before it left.
  abbrev pub PlaysAreHistories : Kind S → Type 0
  PlaysAreHistories K = (layers : Layers S) (s : State S) (cs : List Call)
      → Leads K s (play K layers s cs).0 (play K layers s cs).1
