-- What a list of calls comes to at an office whose objections follow from its layers: it is worked out from the list.
use Rattle.std.specs.Prelude.{◌≡◌, List, map, reverse}
use Rattle.shares.specs.Kind.{Kind}
use Rattle.lending.specs.Office.{State}
use Rattle.lending.specs.Layers.{Layers}
use Rattle.lending.specs.Play.{play}
use Rattle.lending.specs.History.{Moment, yielded, merged, recalled, lapsed}
use Rattle.office.specs.declared.office.Office.{Ghosts}
use Rattle.office.specs.Calls.{EachFollows}
use Rattle.calls.specs.declared.call.Call.{Call}
use Rattle.calls.specs.declared.list.Tallies.{Tallies}
use Rattle.calls.specs.Values.{call_meant}

module _ {S : Type 0} (K : Kind S) (layers : Layers S) (s : State S) (calls : List Call) where
  -- what the calls come to, made in their order: each with its answer, the last one first, and the state that they lead
  -- to
  abbrev pub play_in_turn : List (Moment S) × State S
  play_in_turn = play K layers s (reverse (map call_meant calls))

  -- The calls were made in their order, each once, to an office with these layers that stood for s: it answered what
  -- the definitions answer, stands for the state that they lead to, and closed what those answers say.
  pub record CallsPlayed (tallies : Tallies) (t : State S) : Type 0 where
    pub leaves : t ≡ play_in_turn.1
    pub yields : tallies.yielded ≡ yielded play_in_turn.0
    pub merges : tallies.merged ≡ merged play_in_turn.0
    pub recalls : tallies.recalled ≡ recalled play_in_turn.0
    pub lapses : tallies.lapsed ≡ lapsed play_in_turn.0

-- Where the objections of every such office follow from its layers, the calls led one to the other as they are played.
abbrev pub ListPlayed : {O S : Type 0} → Kind S → Ghosts O S → O → List Call → Tallies → O → Type 0
ListPlayed {O} K it before calls tallies after =
    EachFollows it → CallsPlayed K (it.layers before) (it.meaning before) calls tallies (it.meaning after)
