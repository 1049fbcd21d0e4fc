use Rattle.std.proofs.Common.{replicate, take, arith}
use Rattle.lines.specs.Lines.{longest_line}
use Rattle.lines.specs.Lines.{refusal_line}
use Rattle.printout.proofs.Adding.{placed}
use Rattle.printout.proofs.Added.{adds_slice}
use Rattle.printout.proofs.append.add_refusal_line.Goals as goal

pub returns : goal.returns
returns c =
    let e = c.extend_from_slice.ensures in
    let n = c.unwrap-length.result in
    let line = refusal_line c.args.event c.args.number c.args.level in
    adds_slice c.args.out.now.items c.extend_from_slice.new.self.items (take n c.refusal_line.new.space) line c.args.out.now.len c.args.out.now.cap c.extend_from_slice.new.self.cap c.extend_from_slice.result c.args.out.now.ok.0 e.items e.full e.capacity
    (placed line (replicate longest_line 0) c.refusal_line.new.space c.refusal_line.result n c.refusal_line.ensures.short (omega arith) c.refusal_line.ensures.writes.answers c.refusal_line.ensures.writes.leaves c.unwrap-length.ensures)
