use Rattle.std.proofs.Common.{replicate, take, arith}
use Rattle.lines.specs.Lines.{longest_line}
use Rattle.printout.proofs.Adding.{line_there, placed_there}
use Rattle.printout.proofs.Added.{adds_slice}
use Rattle.printout.proofs.append.add_lease.Goals as goal

pub returns : goal.returns
returns g c =
    let K = g.O.Kind.Share.kind in
    let text = g.O.Kind.Printed.text in
    let roll = (g.O.Office.meaning c.args.office.now).core.roll in
    let e = c.extend_from_slice.ensures in
    let n = c.unwrap-length.result in
    adds_slice c.args.out.now.items c.extend_from_slice.new.self.items (take n c.lease_line.new.space) (line_there K text roll c.args.position) c.args.out.now.len c.args.out.now.cap c.extend_from_slice.new.self.cap c.extend_from_slice.result c.args.out.now.ok.0 e.items e.full e.capacity
    (placed_there K text roll c.args.position c.requires c.lease_line.ensures.short (replicate longest_line 0) c.lease_line.new.space c.lease_line.result n (omega arith) c.lease_line.ensures.writes.answers c.lease_line.ensures.writes.leaves c.unwrap-length.ensures)
