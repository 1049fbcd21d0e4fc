-- A whole replay: what is read off what the events of a book came to; and what they come to, worked out one by one, at
-- an office whose objections follow from its layers.
use Rattle.std.specs.Prelude.{◌≡◌, ℕ, zero, suc, ◌+◌, List, [], ◌∷◌, ◌++◌, length, map, Option, Some, None, Result, Ok}
use Rattle.std.specs.Prelude.{Err}
use Rattle.shares.specs.Kind.{Kind}
use Rattle.lending.specs.Office.{State, SetUp}
use Rattle.lending.specs.Layers.{Layers}
use Rattle.lending.specs.Play.{play}
use Rattle.lending.specs.History.{Moment, Leads, yielded, merged, recalled, lapsed}
use Rattle.lending.specs.Promise.{Conserved}
use Rattle.book.specs.declared.header.Header.{Header}
use Rattle.calls.specs.declared.list.Tallies.{Tallies}
use Rattle.replay.specs.declared.fault.Fault.{Fault}
use Rattle.replay.specs.Faults.{RefusedEvent, refused_event, refused_event_at, without_level}
use Rattle.replay.specs.Events.{Next, next}
use Rattle.replay.specs.Events.Next.{nothing, no_call, a_call}

-- a book that doesn't open refuses the whole replay
abbrev pub opening_refused : Result Header ℕ → Option RefusedEvent
opening_refused (Err n) = Some (without_level 0 n)
opening_refused (Ok header) = None

-- the book opens, and has n events
abbrev pub Opens : Result Header ℕ → ℕ → Type 0
Opens (Err k) n = ⊥
Opens (Ok header) n = header.events ≡ n

-- a list of what there is
abbrev pub one_or_none : Option RefusedEvent → List RefusedEvent
one_or_none None = []
one_or_none (Some x) = x ∷ []

-- What an event came to: it was refused by itself with this number, or its call was made.
pub data Turn (S : Type 0) : Type 0 where
  stepped_over : (number : ℕ) → Turn S
  call_made : (moment : Moment S) → Turn S

module _ {S : Type 0} where
  -- what the fault of a turn tells at its place in the book, if it was refused
  abbrev pub refused_event_by : ℕ → Turn S → Option RefusedEvent
  refused_event_by event (stepped_over n) = Some (without_level event n)
  refused_event_by event (call_made m) = refused_event_at event m.answer

  -- the calls that were made, each with the state that it came to and its answer, the last one first
  abbrev pub history : List (Turn S) → List (Moment S)
  history [] = []
  history (stepped_over n ∷ es) = history es
  history (call_made m ∷ es) = m ∷ history es

  -- what the faults of these turns tell, in the order of the book, where the first event is 1
  abbrev pub refusals : List (Turn S) → List RefusedEvent
  refusals [] = []
  refusals (e ∷ es) = refusals es ++ one_or_none (refused_event_by (length es + 1) e)

  -- what granted yields and merges, recalls, and days closed
  abbrev pub tallies_of : List (Turn S) → Tallies
  tallies_of es = record {
    yielded = yielded (history es);
    merged = merged (history es);
    recalled = recalled (history es);
    lapsed = lapsed (history es);
  }

module _ {S : Type 0} (K : Kind S) (layers : Layers S) where
  -- one event more
  abbrev pub turn_on : Next → List (Turn S) × State S → List (Turn S) × State S
  turn_on (nothing n) p = p
  turn_on (no_call n) p = (stepped_over n ∷ p.0, p.1)
  turn_on (a_call c) p = let played = play K layers p.1 (c ∷ []) in (map call_made played.0 ++ p.0, played.1)

  -- What the first n events of a book with these bytes come to at an office with these layers that stands for s, the
  -- last one first, and the state that they lead to.
  abbrev pub run : List ℕ → State S → ℕ → List (Turn S) × State S
  run b s zero = ([], s)
  run b s (suc n) = turn_on (next b n) (run b s n)

  -- The lending promise, whole, of those events.
  pub record RunConserved (b : List ℕ) (s : State S) (n : ℕ) : Type 0 where
    -- The calls that they ask for are made in a row:
    pub leads : Leads K s (history (run b s n).0) (run b s n).1
    -- the promise holds of them, where the office was set up empty,
    pub from_empty : SetUp s → Conserved K (history (run b s n).0) (run b s n).1
    -- and of every list of calls to such an office that these calls follow.
    pub conserved : (start : State S) → SetUp start → (earlier : List (Moment S)) → Leads K start earlier s
        → Conserved K (history (run b s n).0 ++ earlier) (run b s n).1

  -- The first n events of a book of these bytes were replayed over an office that stood for s, which then stands for t,
  -- with these faults and these tallies.
  pub record Replay (b : List ℕ) (s : State S) (n : ℕ) (faults : List Fault) (tallies : Tallies) (t : State S)
      : Type 0 where
    -- every event came to something
    pub every : length (run b s n).0 ≡ n
    pub leaves : t ≡ (run b s n).1
    -- the faults are those of the refused events
    pub refused : map refused_event faults ≡ refusals (run b s n).0
    pub tallied : tallies ≡ tallies_of (run b s n).0
