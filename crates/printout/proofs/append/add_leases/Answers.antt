use Rattle.std.proofs.Common.{◌≡◌, ◌+◌, ◌<◌, length, vec_capacity, arith}
use Rattle.printout.specs.Contents.{lease_entries}
use Rattle.printout.proofs.Bytes.{lease_bytes}
use Rattle.printout.proofs.Adding.{one_answer, line_there, lines_from, first_line}
use Rattle.printout.proofs.Added.{more_after, stopped}
use Rattle.printout.proofs.append.add_leases.Goals as goal

pub returns-in_err-add_lease : goal.returns-in_err-add_lease
returns-in_err-add_lease g c =
    let K = g.O.Kind.Share.kind in
    let text = g.O.Kind.Printed.text in
    let roll = (g.O.Office.meaning c.args.office.now).core.roll in
    let i = c.loop-position.position in
    let live : c.count-position-end.result ≡ length roll = one_answer c.count-position-end.result (length roll) c.count-position-end.ensures.tells.0 in
    let within : i < length roll = omega (arith, c.loop-position-test.true) in
    let inv = c.loop-position.invariant in
    stopped c.args.out.now.items c.loop-position.out.items c.add_lease.new.out.items inv.0 (line_there K text roll i) (lines_from K text roll i) (lines_from K text roll (i + 1)) (lease_bytes (lease_entries K text roll))
    (vec_capacity c.args.out.now) (vec_capacity c.loop-position.out) (vec_capacity c.add_lease.new.out) tt _ c.from_residual.result c.from_residual.ensures.0 inv.1 c.in_err-add_lease.ensures inv.2 (first_line K text roll i within)

pub loop-position-preserved : goal.loop-position-preserved
loop-position-preserved g c =
    let K = g.O.Kind.Share.kind in
    let text = g.O.Kind.Printed.text in
    let roll = (g.O.Office.meaning c.args.office.now).core.roll in
    let i = c.loop-position.position in
    let live : c.count-position-end.result ≡ length roll = one_answer c.count-position-end.result (length roll) c.count-position-end.ensures.tells.0 in
    let within : i < length roll = omega (arith, c.loop-position-test.true) in
    let inv = c.loop-position.invariant in
    more_after c.args.out.now.items c.loop-position.out.items c.add_lease.new.out.items inv.0 (line_there K text roll i) (lines_from K text roll i) (lines_from K text roll (i + 1)) (lease_bytes (lease_entries K text roll))
    (vec_capacity c.args.out.now) (vec_capacity c.loop-position.out) (vec_capacity c.add_lease.new.out) tt tt _ inv.1 c.in_ok-add_lease.ensures inv.2 (first_line K text roll i within)
