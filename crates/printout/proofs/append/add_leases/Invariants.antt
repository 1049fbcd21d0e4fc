use Rattle.std.proofs.Common.{◌≡◌, ◌++◌, ℕ, List, Ok, vec_capacity}
use Rattle.printout.specs.Adds.{Adds}
use Rattle.printout.specs.Contents.{lease_entries}
use Rattle.printout.proofs.Bytes.{lease_bytes}
use Rattle.printout.proofs.Adding.{lines_from}
use Rattle.printout.proofs.append.add_leases.Given as goal

-- some lines are added, and they and those to come are all of them
abbrev pub invariant-loop-position : goal.invariant-loop-position
invariant-loop-position g l =
    let K = g.O.Kind.Share.kind in
    let text = g.O.Kind.Printed.text in
    let roll = (g.O.Office.meaning l.office).core.roll in
    (so_far : List ℕ) × Adds l.initial.out.items (vec_capacity l.initial.out) so_far {A = Unit {0}} {E = Unit {0}} (Ok tt) l.out.items (vec_capacity l.out) × (so_far ++ lines_from K text roll l.position ≡ lease_bytes (lease_entries K text roll))
