use Rattle.std.proofs.Common.{◌≡◌, take, drop}
use Rattle.office.specs.Calls.{Keeps}
use Rattle.calls.specs.Quiet.{AllIdle}
use Rattle.calls.proofs.Jobs.{SoFar}
use Rattle.calls.proofs.job.make_until_refused.Given as goal

-- the calls so far are made, and none was refused
abbrev pub invariant-loop-call : goal.invariant-loop-call
invariant-loop-call g l = record {
  many : l.made ≡ l.call-index;
  so_far : SoFar g.O.Kind.Share.kind g.O.Office l.fn.office l.calls l.call-index (take l.call-index l.calls) (drop l.call-index l.calls) l.tallies l.office;
  idle : AllIdle g.O.Kind.Share.kind (g.O.Office.meaning l.fn.office) l.calls → l.office ≡ l.fn.office;
  keeps : Keeps g.O.Office l.fn.office l.office;
}
