-- What an event comes to.
use Rattle.std.specs.Prelude.{◌≡◌, ℕ, List, Some, Result, Ok, Err}
use Rattle.shares.specs.Kind.{Kind}
use Rattle.lending.specs.Office.{State}
use Rattle.lending.specs.Outcome.{Call, Answer}
use Rattle.lending.specs.Perform.{Does}
use Rattle.lending.specs.Promise.{CallConserves}
use Rattle.book.specs.declared.event.Event.{Event}
use Rattle.calls.specs.declared.list.Tallies.{Tallies}
use Rattle.calls.specs.Lists.{tallies_with}
use Rattle.replay.specs.declared.fault.Fault.{Fault}
use Rattle.replay.specs.Events.{Next}
use Rattle.replay.specs.Events.Next.{nothing, no_call, a_call}
use Rattle.replay.specs.Faults.{RefusedEvent, refused_event, refused_event_in, refused_event_at, without_level}

-- an event of the code, or what its fault tells
abbrev pub event_or_refused : Result Event Fault → Result (ℕ × List ℕ) RefusedEvent
event_or_refused (Ok event) = Ok (event.code, event.bytes.now)
event_or_refused (Err fault) = Err (refused_event fault)

-- a refusal that leaves a session as it was names event 0
abbrev pub refused_in_place : Result (ℕ × List ℕ) ℕ → Result (ℕ × List ℕ) RefusedEvent
refused_in_place (Ok event) = Ok event
refused_in_place (Err n) = Err (without_level 0 n)

-- the tallies that a call answered, or those before a refused one
abbrev pub tallies_kept : Tallies → Result Tallies Fault → Tallies
tallies_kept before (Ok after) = after
tallies_kept before (Err fault) = before

module _ {S : Type 0} where
  -- An event asked for a call of an office that stood for s, which then stood for t.
  pub record CallOfEvent (K : Kind S) (c : Call) (event : ℕ) (s : State S) (before : Tallies) {A : Type 0}
      (r : Result A Fault) (after : Tallies) (t : State S) : Type 0 where
    pub answer : Answer S
    pub does : Does K s c answer t
    -- a refusal names the event, and has the office's number and level
    pub tells : refused_event_in r ≡ refused_event_at event answer
    pub counts : after ≡ tallies_with before c answer
    -- The lending promise: whatever list of calls led to s from an office that was set up empty, it holds of that list
    -- with this call.
    pub conserved : CallConserves K s c answer t

  -- What comes next, at an office that stands for s, leaves t, the tallies and the answer r, which names the event.
  abbrev pub Comes : Kind S → Next → ℕ → State S → Tallies → {A : Type 0} → Result A Fault → Tallies → State S → Type 0
  Comes K (nothing n) event s before r after t =
      (refused_event_in r ≡ Some (without_level event n)) × (after ≡ before) × (t ≡ s)
  Comes K (no_call n) event s before r after t =
      (refused_event_in r ≡ Some (without_level event n)) × (after ≡ before) × (t ≡ s)
  Comes K (a_call c) event s before r after t = CallOfEvent K c event s before r after t
