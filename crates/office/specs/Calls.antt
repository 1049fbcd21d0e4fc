-- Calls to an office, in its own words.
use Rattle.shares.specs.Kind.{Kind}
use Rattle.lending.specs.Layers.{Follow}
use Rattle.lending.specs.Outcome.{Call, Answer}
use Rattle.lending.specs.Perform.{Does}
use Rattle.lending.specs.Promise.{CallConserves}
use Rattle.office.specs.declared.office.Office.{Ghosts}
use Rattle.office.specs.Performs.{KeepsBy, PerformsBy}

module _ {O S : Type 0} where
  -- What no call changes: the office `was` has become `now`.
  abbrev pub Keeps : Ghosts O S → O → O → Type 0
  Keeps office was now = KeepsBy office.rows office.loan office.layers was now

  -- The office `was` answered a to the call c, and has become `now`.
  abbrev pub Performs : Kind S → Ghosts O S → Call → Answer S → O → O → Type 0
  Performs K office c a was now = PerformsBy office.rows office.loan office.layers K office.meaning c a was now

  -- The lending promise at that call: whatever list of calls led to `was` from an office that was set up empty.
  abbrev pub Conserves : Kind S → Ghosts O S → Call → Answer S → O → O → Type 0
  Conserves K office c a was now = CallConserves K (office.meaning was) c a (office.meaning now)

  -- The office o answers a to the question c.
  abbrev pub Tells : Kind S → Ghosts O S → Call → Answer S → O → Type 0
  Tells K office c a o = Does K (office.meaning o) c a (office.meaning o)

-- The objections of every such office follow from its layers.
abbrev pub EachFollows : {O S : Type 0} → Ghosts O S → Type 0
EachFollows {O} office = (o : O) → Follow (office.layers o) (office.meaning o)
