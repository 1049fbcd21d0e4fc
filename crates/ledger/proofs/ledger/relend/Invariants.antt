use Rattle.std.proofs.Common.{◌≡◌, ◌++◌, take, drop}
use Rattle.lending.specs.Roll.{relend}
use Rattle.ledger.proofs.ledger.relend.Given as goal

abbrev pub invariant-loop-lease : goal.invariant-loop-lease
invariant-loop-lease g l = l.roll ≡ relend l.a l.b (take l.lease-index l.initial.roll) ++ drop l.lease-index l.initial.roll
