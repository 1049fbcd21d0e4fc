-- A layer over an office: its own objections come first, and everything else is passed down and up.
use Rattle.std.specs.Prelude.{◌≡◌, ℕ, ◌+◌, min, Bool, if◌then◌else◌, List, [], ◌∷◌, Some, None, Option}
use Rattle.shares.specs.Kind.{Kind}
use Rattle.lending.specs.declared.lease.Lease.{Lease}
use Rattle.lending.specs.Limits.{most_layers}
use Rattle.lending.specs.Office.{Refusal, Request, Core, State}
use Rattle.lending.specs.Office.Request.{opening, delegating, assigning}
use Rattle.lending.specs.Outcome.{Call, Answer}
use Rattle.lending.specs.Outcome.Call.{open_resource, delegate, assign, recall, day, standing, hand_in}
use Rattle.lending.specs.Outcome.Answer.{refused}
use Rattle.lending.specs.Perform.{Does}

-- a refusal's number where a test says so
abbrev pub number_if : Bool → ℕ → Option ℕ
number_if b n = if b then Some n else None

-- the next level up; nobody piles more than 255 layers, and there the levels end
abbrev pub up : ℕ → ℕ
up n = min (n + 1) most_layers

-- a refusal as an office passes it up
abbrev pub raise : Refusal → Refusal
raise r = record { number = r.number; level = up r.level }

-- a layer's own objection has level 0, and one from below comes up a level
abbrev pub own_or_raised : Option ℕ → Option Refusal → Option Refusal
own_or_raised (Some n) below = Some (record { number = n; level = 0 })
own_or_raised None None = None
own_or_raised None (Some r) = Some (raise r)

-- The layer has no objection of its own to the call. The calls that stand over an office are none of a layer's.
abbrev pub Passes : (Request → Option ℕ) → Call → Type 0
Passes mine (open_resource r h) = mine (opening r h) ≡ None
Passes mine (delegate p h d) = mine (delegating p h d) ≡ None
Passes mine (assign n h) = mine (assigning n h) ≡ None
Passes mine (recall n) = ⊥
Passes mine (day d) = ⊥
Passes mine (standing r h) = ⊥
Passes mine (hand_in n) = ⊥
Passes mine c = Unit {0}

-- What a layer does of its own.
pub record Own (S : Type 0) : Type 0 where
  -- what it objects to by itself, by the roll and today: the number of a refusal, or none
  pub objects : List (Lease S) → ℕ → Request → Option ℕ

-- the same of each layer of an office, the outermost first
abbrev pub Layers : Type 0 → Type 0
Layers S = List (Own S)

module _ {S : Type 0} where
  -- what layers object to together over a ledger, which has no objections
  abbrev pub objections : Layers S → List (Lease S) → ℕ → Request → Option Refusal
  objections [] roll today q = None
  objections (mine ∷ below) roll today q = own_or_raised (mine.objects roll today q) (objections below roll today q)

  -- The objections of an office with these layers follow from the roll and today.
  abbrev pub Follow : Layers S → State S → Type 0
  Follow layers s = s.objections ≡ objections layers s.core.roll s.core.today

  -- all but the objections, of a layer: it is one deeper
  abbrev pub deeper : Core S → Core S
  deeper c = record c { depth = c.depth + 1 }

  -- What a layer stands for over an office that stands for s. Its own objections follow from the roll and today.
  abbrev pub layered : Own S → State S → State S
  layered mine s =
      record {
        core = deeper s.core;
        objections = λ q. own_or_raised (mine.objects s.core.roll s.core.today q) (s.objections q);
      }

  -- some layers, the outermost first, over an office
  abbrev pub pile : Layers S → State S → State S
  pile [] s = s
  pile (mine ∷ below) s = layered mine (pile below s)

  -- an answer as a layer passes it up
  abbrev pub passed_up : Answer S → Answer S
  passed_up (refused r) = refused (raise r)
  passed_up a = a

  -- A layer is an office: where it has no objection of its own, what the office below does, passed up, is what an
  -- office does that stands for the layered state.
  abbrev pub LayerIsOffice : Kind S → Type 0
  LayerIsOffice K = (mine : Own S) (s t : State S) (c : Call) (a : Answer S)
      → Passes (mine.objects s.core.roll s.core.today) c → Does K s c a t
      → Does K (layered mine s) c (passed_up a) (layered mine t)
