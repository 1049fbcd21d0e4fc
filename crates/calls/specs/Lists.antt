-- What a list of calls that are made in turn comes to, and what it closes.
use Rattle.std.specs.Prelude.{◌≡◌, ℕ, ◌+◌, ◌<◌, ◌^◌, List, ◌++◌, map, reverse}
use Rattle.shares.specs.Kind.{Kind}
use Rattle.lending.specs.Office.{State, SetUp}
use Rattle.lending.specs.Layers.{Layers}
use Rattle.lending.specs.Outcome as office
use Rattle.lending.specs.History.{Moment, Leads, EachCameTo, tally, none, one_if_done, its_number, closing, yielded}
use Rattle.lending.specs.History.{merged, recalled, lapsed}
use Rattle.lending.specs.Promise.{Conserved}
use Rattle.office.specs.declared.office.Office.{Ghosts}
use Rattle.calls.specs.declared.call.Call.{Call}
use Rattle.calls.specs.declared.list.Tallies.{Tallies}
use Rattle.calls.specs.Values.{call_meant}

-- how many leases were closed in all
abbrev pub all_closed : Tallies → ℕ
all_closed tallies = tallies.yielded + tallies.merged + tallies.recalled + tallies.lapsed

-- one of them is more than a count can be
abbrev pub TooLarge : Tallies → Type 0
TooLarge tallies =
    ((tallies.yielded < 2 ^ 64) × (tallies.merged < 2 ^ 64) × (tallies.recalled < 2 ^ 64) × (tallies.lapsed < 2 ^ 64))
    → ⊥

module _ {S : Type 0} where
  -- the tallies with what one call more closed by its answer
  abbrev pub tallies_with : Tallies → office.Call → office.Answer S → Tallies
  tallies_with tallies c a =
      record {
        yielded = tallies.yielded + tally one_if_done none none none (closing c) a;
        merged = tallies.merged + tally none one_if_done none none (closing c) a;
        recalled = tallies.recalled + tally none none its_number none (closing c) a;
        lapsed = tallies.lapsed + tally none none none its_number (closing c) a;
      }

  -- The calls, made in their order, led from s to t and closed what the tallies say, each in a state of which Of holds.
  pub record CallsMade (K : Kind S) (Of : State S → Type 0) (s : State S) (calls : List Call) (tallies : Tallies)
      (t : State S) : Type 0 where
    -- each call with the state that it came to and its answer, the last one first
    pub history : List (Moment S)
    pub in_order : map (λ m. m.call) history ≡ reverse (map call_meant calls)
    pub leads : Leads K s history t
    -- no call came to a state that the office can't have
    pub stood : EachCameTo Of history
    -- granted yields and granted merges, without the yields inside recall, day and hand-in
    pub yields : tallies.yielded ≡ yielded history
    pub merges : tallies.merged ≡ merged history
    -- what recalls and hand-ins closed
    pub recalls : tallies.recalled ≡ recalled history
    -- what days closed
    pub lapses : tallies.lapsed ≡ lapsed history
    -- The lending promise, whole: of these calls to an office that was set up empty,
    pub from_empty : SetUp s → Conserved K history t
    -- and of every list of calls to such an office that these calls follow.
    pub conserved : (start : State S) → SetUp start → (earlier : List (Moment S)) → Leads K start earlier s
        → Conserved K (history ++ earlier) t

-- some office with these layers stands for the state
abbrev pub SomeOffice : {O S : Type 0} → Ghosts O S → Layers S → State S → Type 0
SomeOffice {O} it ls s = (o : O) × (it.meaning o ≡ s) × (it.layers o ≡ ls)

-- The calls, made in their order, led one office to the other and closed what the tallies say, each in a state that an
-- office with these layers can have.
abbrev pub ListMade : {O S : Type 0} → Kind S → Ghosts O S → O → List Call → Tallies → O → Type 0
ListMade K it before calls tallies after =
    CallsMade K (SomeOffice it (it.layers before)) (it.meaning before) calls tallies (it.meaning after)
