use Rattle.std.proofs.Common.{◌≡◌, ◌++◌, ℕ, List, Ok, drop, take, map, vec_capacity}
use Rattle.std.specs.List.{AllByRecursion}
use Rattle.replay.specs.Faults.{refused_event}
use Rattle.printout.specs.Adds.{Adds}
use Rattle.printout.specs.Readable.{ReadableRefusal}
use Rattle.printout.proofs.Bytes.{refusal_bytes}
use Rattle.printout.proofs.append.add_refusals.Given as goal

-- some lines are added, and they and those to come are all of them
abbrev pub invariant-loop-fault : goal.invariant-loop-fault
invariant-loop-fault l = record {
  adds : (so_far : List ℕ) × Adds l.initial.out.items (vec_capacity l.initial.out) so_far {A = Unit {0}} {E = Unit {0}} (Ok tt) l.out.items (vec_capacity l.out) × (so_far ++ refusal_bytes (map refused_event (drop l.fault-index l.faults)) ≡ refusal_bytes (map refused_event l.faults));
  readable : AllByRecursion ReadableRefusal (map refused_event (take l.fault-index l.faults));
}
