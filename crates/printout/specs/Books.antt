-- A book replayed over an office, and its printout.
use Rattle.std.specs.Prelude.{◌≡◌, ℕ, ◌+◌, ◌≤◌, ◌⊎◌, List, ◌++◌, length, map, take, IsErr, IsOk, OnOk, OnErr, Result}
use Rattle.std.specs.Prelude.{vec_items, vec_len, vec_capacity}
use Rattle.std.specs.declared.vec.Vec.{Vec}
use Rattle.shares.specs.Kind.{Kind}
use Rattle.lending.specs.Office.{State}
use Rattle.office.specs.declared.office.Office.{Ghosts}
use Rattle.office.specs.Calls.{Keeps}
use Rattle.book.specs.Books.{opening, event_count}
use Rattle.replay.specs.declared.fault.Fault.{Fault}
use Rattle.replay.specs.Faults.{refused_event}
use Rattle.replay.specs.Books.{added, BookQuiet}
use Rattle.printout.specs.Adds.{Begins}
use Rattle.printout.specs.Contents.{Contents, printout_bytes}
use Rattle.printout.specs.Printouts.{contents, refused_events, state_left}
use Rattle.printout.specs.Readable.{IsReadable}

module _ {O S : Type 0} (K : Kind S) (it : Ghosts O S) (text : S → List ℕ) (book : List ℕ) (was : O) where
  -- what its printout shows
  abbrev pub book_contents : Contents
  book_contents = contents K (it.layers was) text book (it.meaning was)

  -- what the office stands for after the whole book
  abbrev pub state_after_book : State S
  state_after_book = state_left K (it.layers was) book (it.meaning was)

  -- The office has become `now`, the list of faults `faults` has become `more_faults`, and the bytes `out` have become
  -- `more_out`.
  pub record BookPrinted {Y Z E : Type 0} (now : O) (faults more_faults : Vec Fault Y) (out more_out : Vec ℕ Z)
      (result : Result (Unit {0}) E) : Type 0 where
    -- The printout was added to the bytes,
    pub prints : OnOk result (vec_items more_out ≡ vec_items out ++ printout_bytes book_contents)
    -- which can be read back,
    pub readable : OnOk result (IsReadable book_contents)
    -- the faults of the refused events to the list,
    pub refused : OnOk result (map refused_event (added faults more_faults) ≡ refused_events K (it.layers was) book
        (it.meaning was))
    -- and the office is as after the whole book.
    pub leaves : OnOk result (it.meaning now ≡ state_after_book)
    -- Whatever happens, bytes and faults that were there before stay.
    pub begins : Begins (vec_items out) (vec_items more_out)
    pub kept : take (vec_len faults) (vec_items more_faults) ≡ vec_items faults
    -- A book that doesn't open leaves office and list as they were,
    pub unopened : IsErr (opening book) → (now ≡ was) × (more_faults ≡ faults)
    -- and one of which no event is granted leaves the office as it was.
    pub idle : BookQuiet K it book was → now ≡ was
    -- Where memory runs out, the office is as it was, or as after the whole book.
    pub no_memory : OnErr result ((now ≡ was) ⊎ (it.meaning now ≡ state_after_book))
    -- With room for the faults the replay is done in any case; with room for the lines too, nothing fails.
    pub replayed : vec_len faults + event_count book ≤ vec_capacity faults → it.meaning now ≡ state_after_book
    pub room : vec_len faults + event_count book ≤ vec_capacity faults
        → vec_len out + length (printout_bytes book_contents) ≤ vec_capacity out → IsOk result
    pub keeps : Keeps it was now
