-- Stepping and finishing a session.
use Rattle.std.specs.Prelude.{◌≡◌, ℕ, ◌+◌, true, Some, None, Result, Ok, Err}
use Rattle.shares.specs.Kind.{Kind}
use Rattle.lending.specs.Office.{State}
use Rattle.book.specs.declared.header.Header.{Header}
use Rattle.replay.specs.declared.fault.Fault.{Fault}
use Rattle.replay.specs.declared.session.Reading.{Reading}
use Rattle.replay.specs.declared.session.Finished.{Finished}
use Rattle.replay.specs.Faults.{refused_event, refused_event_in, without_level}
use Rattle.replay.specs.Events.{Next, finishing}
use Rattle.replay.specs.Events.Next.{nothing, no_call, a_call}
use Rattle.replay.specs.Turns.{Comes}

module _ {S : Type 0} where
  -- A step of session x, by what comes next, at an office that stands for s: it answers r, and leaves y and t.
  abbrev pub Steps : Kind S → Next → State S → Reading → Result (Unit {0}) Fault → Reading → State S → Type 0
  Steps K (nothing n) s x r y t = (refused_event_in r ≡ Some (without_level 0 n)) × (y ≡ x) × (t ≡ s)
  Steps K (no_call n) s x r y t = (y.done ≡ x.done + 1) × Comes K (no_call n) (x.done + 1) s x.tallies r y.tallies t
  Steps K (a_call c) s x r y t = (y.done ≡ x.done + 1) × Comes K (a_call c) (x.done + 1) s x.tallies r y.tallies t

-- Finishing session x, by what opening the book says: it is handed out ended with the same counts, or handed back as it
-- was.
abbrev pub Finishes : Result Header ℕ → Reading → Result Finished (Reading × Fault) → Type 0
Finishes opened x (Ok finished) =
    (finishing opened x.done ≡ None) × (finished.closed ≡ x.tallies) × (finished.ended ≡ true)
Finishes opened x (Err back) = (finishing opened x.done ≡ Some (refused_event back.1)) × (back.0 ≡ x)
