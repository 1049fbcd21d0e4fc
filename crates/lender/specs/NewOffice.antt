-- What calls to a new office over lent rows come to.
use Rattle.std.specs.Prelude.{ℕ, min, List}
use Rattle.shares.specs.Kind.{Kind}
use Rattle.lending.specs.Limits.{most_rows}
use Rattle.lending.specs.Office.{State}
use Rattle.lending.specs.History.{Moment}
use Rattle.pile.specs.House.{house_layers, new_pile}
use Rattle.calls.specs.declared.call.Call.{Call}
use Rattle.calls.specs.Plays.{play_in_turn}

module _ {S : Type 0} where
  -- what the house's new office over so many rows stands for
  abbrev pub new_office : (quota term chain rows : ℕ) → State S
  new_office quota term chain rows = new_pile (house_layers quota term chain) (min most_rows rows)

  -- what a list of calls, made in its order, comes to at that new office
  abbrev pub play_at_new : Kind S → (quota term chain rows : ℕ) → List Call → List (Moment S) × State S
  play_at_new K quota term chain rows calls =
      play_in_turn K (house_layers quota term chain) (new_office quota term chain rows) calls
