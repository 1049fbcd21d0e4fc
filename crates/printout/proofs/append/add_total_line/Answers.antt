use Rattle.std.proofs.Common.{replicate, take, arith}
use Rattle.lines.specs.Lines.{longest_line}
use Rattle.lines.specs.Lines.{total_line}
use Rattle.printout.proofs.Adding.{placed}
use Rattle.printout.proofs.Added.{adds_slice}
use Rattle.printout.proofs.append.add_total_line.Goals as goal

pub returns-clause-adds : goal.returns-clause-adds
returns-clause-adds c =
    let e = c.extend_from_slice.ensures in
    let n = c.unwrap-length.result in
    let line = total_line c.args.totals in
    adds_slice c.args.out.now.items c.extend_from_slice.new.self.items (take n c.total_line.new.space) line c.args.out.now.len c.args.out.now.cap c.extend_from_slice.new.self.cap c.extend_from_slice.result c.args.out.now.ok.0 e.items e.full e.capacity
    (placed line (replicate longest_line 0) c.total_line.new.space c.total_line.result n c.total_line.ensures.short (omega arith) c.total_line.ensures.writes.answers c.total_line.ensures.writes.leaves c.unwrap-length.ensures)
