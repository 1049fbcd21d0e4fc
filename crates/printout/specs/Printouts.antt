-- The printout of a whole book, worked out from its bytes.
use Rattle.std.specs.Prelude.{ℕ, List, [], Ok, Err, Result}
use Rattle.shares.specs.Kind.{Kind}
use Rattle.lending.specs.Office.{State}
use Rattle.lending.specs.Layers.{Layers}
use Rattle.book.specs.declared.header.Header.{Header}
use Rattle.book.specs.Books.{opening, event_count}
use Rattle.replay.specs.Faults.{RefusedEvent}
use Rattle.replay.specs.Whole.{refusals, tallies_of, run}
use Rattle.printout.specs.Contents.{Contents, contents_unopened, contents_opened}

module _ {S : Type 0} (K : Kind S) (layers : Layers S) where
  -- by what opening the book says
  abbrev pub contents_by : Result Header ℕ → (S → List ℕ) → List ℕ → State S → Contents
  contents_by (Err n) text b s = contents_unopened n
  contents_by (Ok header) text b s =
      let p = run K layers b s (event_count b) in contents_opened K text (refusals p.0) (tallies_of p.0) p.1

  -- What the printout shows of a book with these bytes at an office with these layers that stands for s.
  abbrev pub contents : (S → List ℕ) → List ℕ → State S → Contents
  contents text b s = contents_by (opening b) text b s

  -- by what opening the book says
  abbrev pub refused_events_by : Result Header ℕ → List ℕ → State S → List RefusedEvent
  refused_events_by (Err n) b s = []
  refused_events_by (Ok header) b s = refusals (run K layers b s (event_count b)).0

  -- what the faults of its refused events tell, where an event is reached
  abbrev pub refused_events : List ℕ → State S → List RefusedEvent
  refused_events b s = refused_events_by (opening b) b s

  -- by what opening the book says
  abbrev pub state_left_by : Result Header ℕ → List ℕ → State S → State S
  state_left_by (Err n) b s = s
  state_left_by (Ok header) b s = (run K layers b s (event_count b)).1

  -- what the office stands for after it
  abbrev pub state_left : List ℕ → State S → State S
  state_left b s = state_left_by (opening b) b s
