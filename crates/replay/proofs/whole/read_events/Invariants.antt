use Rattle.std.proofs.Common.{◌≡◌, ◌+◌, ◌≤◌, take, drop, vec_len, vec_capacity}
use Rattle.office.specs.Calls.{Keeps}
use Rattle.calls.specs.Lists.{SomeOffice}
use Rattle.replay.specs.Replayed.{Replayed}
use Rattle.replay.specs.Books.{BookQuiet}
use Rattle.replay.proofs.whole.read_events.Given as goal

-- the events so far are stepped
abbrev pub invariant-loop-event : goal.invariant-loop-event
invariant-loop-event g l = record {
  so_far : Replayed g.O.Kind.Share.kind (SomeOffice g.O.Office (g.O.Office.layers l.fn.office)) l.book (g.O.Office.meaning l.fn.office) l._event (drop (vec_len l.fn.faults) l.faults.items) l.session.tallies (g.O.Office.meaning l.office);
  kept : take (vec_len l.fn.faults) l.faults.items ≡ l.fn.faults.items;
  done : l.session.done ≡ l._event;
  grows : vec_len l.fn.faults ≤ vec_len l.faults;
  few : vec_len l.faults ≤ vec_len l.fn.faults + l._event;
  room : vec_len l.fn.faults + l.events ≤ vec_capacity l.faults;
  idle : BookQuiet g.O.Kind.Share.kind g.O.Office l.book l.fn.office → l.office ≡ l.fn.office;
  keeps : Keeps g.O.Office l.fn.office l.office;
}
