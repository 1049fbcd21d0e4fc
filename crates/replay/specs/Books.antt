-- A whole book replayed over an office.
use Rattle.std.specs.Prelude.{◌≡◌, ℕ, ◌+◌, ◌≤◌, List, None, IsOk, IfOk, OnErr, Result, drop, take, vec_items, vec_len}
use Rattle.std.specs.Prelude.{vec_capacity}
use Rattle.std.specs.declared.vec.Vec.{Vec}
use Rattle.shares.specs.Kind.{Kind}
use Rattle.office.specs.declared.office.Office.{Ghosts}
use Rattle.office.specs.Calls.{Keeps}
use Rattle.book.specs.Books.{opening, event_count}
use Rattle.calls.specs.declared.list.Tallies.{Tallies}
use Rattle.calls.specs.Lists.{SomeOffice}
use Rattle.replay.specs.declared.fault.Fault.{Fault}
use Rattle.replay.specs.declared.session.Finished.{Finished}
use Rattle.replay.specs.Faults.{refused_event_in}
use Rattle.replay.specs.Sessions.{closed_in_all}
use Rattle.replay.specs.Whole.{Replay, RunConserved, opening_refused}
use Rattle.replay.specs.Replayed.{Replayed, OneReplay}
use Rattle.replay.specs.Quiet.{AllQuiet}

-- what was added to a list
abbrev pub added : {X Z : Type 0} → Vec X Z → Vec X Z → List X
added before after = drop (vec_len before) (vec_items after)

module _ {O S : Type 0} (K : Kind S) (it : Ghosts O S) (book : List ℕ) (was : O) where
  -- Event by event the book led the office to `now`, with these faults and tallies.
  abbrev pub BookReplayed : List Fault → Tallies → O → Type 0
  BookReplayed faults tallies now =
      Replayed K (SomeOffice it (it.layers was)) book (it.meaning was) (event_count book) faults tallies
      (it.meaning now)

  -- It did what is worked out from the book's bytes.
  abbrev pub BookRun : List Fault → Tallies → O → Type 0
  BookRun faults tallies now =
      Replay K (it.layers was) book (it.meaning was) (event_count book) faults tallies (it.meaning now)

  -- Any two replays of it have one result.
  abbrev pub OneBookReplay : Type 0
  OneBookReplay = OneReplay K (SomeOffice it (it.layers was)) book (it.meaning was) (event_count book)

  -- The lending promise, whole, of its events as they are worked out.
  abbrev pub BookConserves : Type 0
  BookConserves = RunConserved K (it.layers was) book (it.meaning was) (event_count book)

  -- None of its events is granted.
  abbrev pub BookQuiet : Type 0
  BookQuiet = AllQuiet K (it.meaning was) book (event_count book)

  -- The answer of a replay that left the office `now`; the list of faults was `before`, and is `after`.
  pub record BookRead {Z E : Type 0} (now : O) (before after : Vec Fault Z) (result : Result (Result Finished Fault) E)
      : Type 0 where
    -- A book that doesn't open refuses the whole replay,
    pub opens : IfOk result (λ outcome. refused_event_in outcome ≡ opening_refused (opening book))
    -- and office and list stay as they were.
    pub same : IfOk result (λ outcome. OnErr outcome ((now ≡ was) × (after ≡ before)))
    -- Any other is replayed.
    pub replays : IfOk result (λ outcome. IfOk outcome (λ finished. BookReplayed (added before after)
        (closed_in_all finished) now))
    -- The faults that were there before stay.
    pub kept : take (vec_len before) (vec_items after) ≡ vec_items before
    -- Memory runs out only for a book that opens, where the list lacks room for its events,
    pub needed : OnErr result (opening_refused (opening book) ≡ None)
    pub room : vec_len before + event_count book ≤ vec_capacity before → IsOk result
    -- and then office and list stay as they were.
    pub no_memory : OnErr result ((now ≡ was) × (vec_items after ≡ vec_items before) ×
        (vec_capacity after ≡ vec_capacity before))
    -- A book of which no event is granted leaves the office as it was.
    pub idle : BookQuiet → now ≡ was
    pub keeps : Keeps it was now
