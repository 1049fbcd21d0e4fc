-- A whole replay in the words of its events: each came to one thing, and they followed one another.
use Rattle.std.specs.Prelude.{◌≡◌, ℕ, List, [], ◌∷◌, ◌++◌, length, map}
use Rattle.shares.specs.Kind.{Kind}
use Rattle.lending.specs.Office.{State, SetUp}
use Rattle.lending.specs.Perform.{Does}
use Rattle.lending.specs.History.{Moment, Leads, EachCameTo}
use Rattle.lending.specs.Promise.{Conserved}
use Rattle.calls.specs.declared.list.Tallies.{Tallies}
use Rattle.replay.specs.declared.fault.Fault.{Fault}
use Rattle.replay.specs.Faults.{refused_event}
use Rattle.replay.specs.Events.{Next, next}
use Rattle.replay.specs.Events.Next.{nothing, no_call, a_call}
use Rattle.replay.specs.Whole.{Turn, history, refusals, tallies_of}
use Rattle.replay.specs.Whole.Turn.{stepped_over, call_made}

module _ {S : Type 0} (K : Kind S) where
  -- What an event came to at an office that stood for u, and then stands for t: it was refused by itself, with its
  -- number and nothing moved; or its very call was made to u, with the answer that the call gives.
  abbrev pub ComesTo : Next → Turn S → State S → State S → Type 0
  ComesTo (nothing n) e u t = ⊥
  ComesTo (no_call n) (stepped_over k) u t = (k ≡ n) × (t ≡ u)
  ComesTo (no_call n) (call_made m) u t = ⊥
  ComesTo (a_call c) (stepped_over k) u t = ⊥
  ComesTo (a_call c) (call_made m) u t = (m.before ≡ u) × (m.call ≡ c) × Does K u c m.answer t

  -- The first events of a book with these bytes, the last one first, each at what the one before it left, led from s to
  -- t.
  abbrev pub Events : List ℕ → List (Turn S) → State S → State S → Type 0
  Events b [] s t = t ≡ s
  Events b (e ∷ es) s t = (u : State S) × Events b es s u × ComesTo (next b (length es)) e u t

  -- The first n events of a book of these bytes led from s to t, with these faults and these tallies, each in a state
  -- of which Of holds.
  pub record Replayed (Of : State S → Type 0) (b : List ℕ) (s : State S) (n : ℕ) (faults : List Fault)
      (tallies : Tallies) (t : State S) : Type 0 where
    -- what each event came to, the last one first
    pub turns : List (Turn S)
    pub every : length turns ≡ n
    pub events : Events b turns s t
    -- no call came to a state that the office can't have
    pub stood : EachCameTo Of (history turns)
    -- the faults are those of the refused events
    pub refused : map refused_event faults ≡ refusals turns
    pub tallied : tallies ≡ tallies_of turns
    -- The lending promise, whole: of the calls that were made, where the office was set up empty,
    pub from_empty : SetUp s → Conserved K (history turns) t
    -- and of every list of calls to such an office that these calls follow.
    pub conserved : (start : State S) → SetUp start → (earlier : List (Moment S)) → Leads K start earlier s
        → Conserved K (history turns ++ earlier) t

  -- Any two replays of the first n events have one result: the state that is left, what the faults tell, and the
  -- tallies.
  abbrev pub OneReplay : (State S → Type 0) → List ℕ → State S → ℕ → Type 0
  OneReplay Of b s n = (t u : State S) (faults others : List Fault) (x y : Tallies)
      → Replayed Of b s n faults x t → Of t → Replayed Of b s n others y u → Of u
      → (t ≡ u) × (map refused_event faults ≡ map refused_event others) × (x ≡ y)
