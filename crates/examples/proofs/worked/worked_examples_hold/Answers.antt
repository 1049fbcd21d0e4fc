use Rattle.std.proofs.Common.{refl}
use Rattle.trees.specs.Cells.{cut}
use Rattle.counting.specs.Counts.{counting_of}
use Rattle.std.specs.Fmt.{digits}
use Rattle.replay.specs.Events.{event_at}
use Rattle.examples.proofs.worked.worked_examples_hold.Goals as goal

-- each by evaluation
pub returns : goal.returns
unfolding cut counting_of event_at digits
returns c = record {
  whole = refl;
  whole_halves = refl;
  upper_half = refl;
  upper_half_halves = refl;
  lower_half = refl;
  quarter = refl;
  half_and_quarter = refl;
  half_twice = refl;
  cell = refl;
  cell_halves = refl;
  three_back = refl;
  whole_source = refl;
  four_back = refl;
  last_reader = refl;
  no_more_readers = refl;
  book = record { answers = refl; roll = refl; totals = refl; printout = refl };
}
