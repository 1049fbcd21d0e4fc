-- What a session tells.
use Rattle.std.specs.Prelude.{ℕ, Bool}
use Rattle.calls.specs.declared.list.Tallies.{Tallies}
use Rattle.replay.specs.declared.session.Reading.{Reading}
use Rattle.replay.specs.declared.session.Finished.{Finished}

-- how many events it has done
abbrev pub events_done : Reading → ℕ
events_done reading = reading.done

-- what their calls closed
abbrev pub closed_so_far : Reading → Tallies
closed_so_far reading = reading.tallies

-- what the calls of a finished session closed
abbrev pub closed_in_all : Finished → Tallies
closed_in_all finished = finished.closed

-- it has ended, whenever one is handed out
abbrev pub has_ended : Finished → Bool
has_ended finished = finished.ended
