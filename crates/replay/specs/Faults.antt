-- What a fault tells: an event, the number of a refusal, and the refusal's level if it has one.
use Rattle.std.specs.Prelude.{ℕ, Option, Some, None, Result, Ok, Err}
use Rattle.lending.specs.declared.refusal.Refusal.{Refusal}
use Rattle.lending.specs.Office as office
use Rattle.lending.specs.Outcome.{Answer}
use Rattle.lending.specs.Outcome.Answer.{refused}
use Rattle.lending.specs.Answers as lending
use Rattle.book.specs.declared.reason.BookReason.{BookReason}
use Rattle.book.specs.Numbers as book
use Rattle.replay.specs.declared.fault.Cause.{Cause}
use Rattle.replay.specs.declared.fault.Cause.TheVariants.{Book, Office}
use Rattle.replay.specs.declared.fault.Fault.{Fault}

-- a fault of the code that names no event
abbrev pub fault_of_book : BookReason → Fault
fault_of_book reason = record { event = 0; cause = Book reason }

-- the same of an office's refusal
abbrev pub fault_of_office : Refusal → Fault
fault_of_office refusal = record { event = 0; cause = Office refusal }

-- the number of the refusal
abbrev pub cause_number : Cause → ℕ
cause_number (Book reason) = book.book_reason_number reason
cause_number (Office refusal) = lending.reason_number refusal.reason

-- its level, if an office refused
abbrev pub cause_level : Cause → Option ℕ
cause_level (Book reason) = None
cause_level (Office refusal) = Some refusal.level

-- What is told of a refusal in a replay.
pub record RefusedEvent : Type 0 where
  -- the book's first event is 1
  pub event : ℕ
  pub number : ℕ
  pub level : Option ℕ

-- what a fault tells
abbrev pub refused_event : Fault → RefusedEvent
refused_event fault = record { event = fault.event; number = cause_number fault.cause; level = cause_level fault.cause }

-- what an answer of the code tells, if it is a refusal
abbrev pub refused_event_in : {A : Type 0} → Result A Fault → Option RefusedEvent
refused_event_in (Ok x) = None
refused_event_in (Err fault) = Some (refused_event fault)

-- a refusal that is no office's
abbrev pub without_level : ℕ → ℕ → RefusedEvent
without_level event n = record { event = event; number = n; level = None }

-- an office's refusal, whole
abbrev pub with_level : ℕ → office.Refusal → RefusedEvent
with_level event r = record { event = event; number = r.number; level = Some r.level }

module _ {S : Type 0} where
  -- what a call's answer tells at an event, if the office refused
  abbrev pub refused_event_at : ℕ → Answer S → Option RefusedEvent
  refused_event_at event (refused r) = Some (with_level event r)
  refused_event_at event a = None
