-- Calls leave no choice: any two results of a call from one state are the same, and so it is with lists of calls.
use Rattle.std.specs.Prelude.{◌≡◌, true, List, map}
use Rattle.shares.specs.Kind.{Kind}
use Rattle.lending.specs.Office.{State}
use Rattle.lending.specs.Outcome.{Call, Answer}
use Rattle.lending.specs.Perform.{perform, Does}
use Rattle.lending.specs.Idle.{idle}
use Rattle.lending.specs.Layers.{Layers, Follow}
use Rattle.lending.specs.History.{Moment, Leads, EachCameTo}

module _ {S : Type 0} where
  -- Two results of a call to an office that stood for s: it answered a and stands for t, or b and stands for u.
  pub record OneResult (K : Kind S) (s : State S) (c : Call) (a b : Answer S) (t u : State S) : Type 0 where
    pub answers : a ≡ b
    -- All but the objections is the same;
    pub cores : t.core ≡ u.core
    -- the objections too where nothing was granted,
    pub idles : idle (perform K s c) ≡ true → t ≡ u
    -- and where they follow from layers.
    pub follows : (layers : Layers S) → Follow layers t → Follow layers u → t ≡ u

  -- A call has one result.
  abbrev pub CallsLeaveNoChoice : Kind S → Type 0
  CallsLeaveNoChoice K = (s t u : State S) (c : Call) (a b : Answer S)
      → Does K s c a t → Does K s c b u → OneResult K s c a b t u

  -- A list of calls has one result, where objections follow from layers: one history, and one state that it leads to.
  abbrev pub ListsLeaveNoChoice : Kind S → Type 0
  ListsLeaveNoChoice K = (layers : Layers S) (s t u : State S) (ms ns : List (Moment S))
      → map (λ m. m.call) ms ≡ map (λ m. m.call) ns → Leads K s ms t → Leads K s ns u
      → EachCameTo (Follow layers) ms → EachCameTo (Follow layers) ns → Follow layers t → Follow layers u
      → (ms ≡ ns) × (t ≡ u)
