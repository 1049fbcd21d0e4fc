-- The events of a book that is replayed, and the calls that they ask for.
use Rattle.std.specs.Prelude.{ℕ, List, slice_index, Option, Some, None, Result, Ok, Err, nat_lt, if◌then◌else◌}
use Rattle.lending.specs.Outcome.{Call}
use Rattle.lending.specs.Outcome.Call.{open_resource, delegate, yield, merge, assign, recall, day}
use Rattle.book.specs.declared.code.Code.{Code}
use Rattle.book.specs.declared.code.Code.TheVariants.{Open, Delegate, Yield, Merge, Assign, Recall, Day}
use Rattle.book.specs.declared.header.Header.{Header}
use Rattle.book.specs.Books.{opening, event_in}
use Rattle.book.specs.Events.{code_and_operands}
use Rattle.replay.specs.Faults.{RefusedEvent, without_level}

-- the call that a code asks for with these operands
abbrev pub call_of : Code → List ℕ → Call
call_of Open operands = open_resource (slice_index operands 0) (slice_index operands 1)
call_of Delegate operands = delegate (slice_index operands 0) (slice_index operands 1) (slice_index operands 2)
call_of Yield operands = yield (slice_index operands 0)
call_of Merge operands = merge (slice_index operands 0) (slice_index operands 1)
call_of Assign operands = assign (slice_index operands 0) (slice_index operands 1)
call_of Recall operands = recall (slice_index operands 0)
call_of Day operands = day (slice_index operands 0)

-- What comes next in a session.
pub data Next : Type 0 where
  -- no event: the book doesn't open (41 to 45), or no event is left (46)
  nothing : (number : ℕ) → Next
  -- an event that asks for no call (47, 48)
  no_call : (number : ℕ) → Next
  -- an event that asks for this call
  a_call : (call : Call) → Next

-- 46: no event is left
abbrev pub if_left : Option (ℕ × List ℕ) → Result (ℕ × List ℕ) ℕ
if_left None = Err 46
if_left (Some event) = Ok event

-- what was found in a book, if the book opens
abbrev pub if_opened : Result Header ℕ → Result (ℕ × List ℕ) ℕ → Result (ℕ × List ℕ) ℕ
if_opened (Err n) found = Err n
if_opened (Ok header) found = found

-- event i of a book with these bytes, from 0, or the number of a refusal
unfoldable pub event_at : List ℕ → ℕ → Result (ℕ × List ℕ) ℕ
event_at b i = if_opened (opening b) (if_left (event_in b i))

-- what an event asks for, by its code and operands
abbrev pub asks : Result (Code × List ℕ) ℕ → Next
asks (Err n) = no_call n
asks (Ok x) = a_call (call_of x.0 x.1)

-- what comes next, by the event that was found
abbrev pub next_by : Result (ℕ × List ℕ) ℕ → Next
next_by (Err n) = nothing n
next_by (Ok event) = asks (code_and_operands event.0 event.1)

-- what comes next in a session with a book of these bytes that has done i events
abbrev pub next : List ℕ → ℕ → Next
next b i = next_by (event_at b i)

-- What refuses the end of a session that has done some events, by what opening the book says. 49: an event is left
abbrev pub finishing : Result Header ℕ → ℕ → Option RefusedEvent
finishing (Err n) done = Some (without_level 0 n)
finishing (Ok header) done = if nat_lt done header.events then Some (without_level 0 49) else None
