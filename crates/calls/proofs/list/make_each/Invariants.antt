use Rattle.std.proofs.Common.{◌≡◌, take}
use Rattle.office.specs.Calls.{Keeps}
use Rattle.calls.specs.Lists.{ListMade}
use Rattle.calls.specs.Quiet.{AllIdle}
use Rattle.calls.proofs.list.make_each.Given as goal

-- the calls so far are made
abbrev pub invariant-loop-call : goal.invariant-loop-call
invariant-loop-call g l = record {
  made : ListMade g.O.Kind.Share.kind g.O.Office l.fn.office (take l.call-index l.calls) l.tallies l.office;
  idle : AllIdle g.O.Kind.Share.kind (g.O.Office.meaning l.fn.office) l.calls → l.office ≡ l.fn.office;
  keeps : Keeps g.O.Office l.fn.office l.office;
}
