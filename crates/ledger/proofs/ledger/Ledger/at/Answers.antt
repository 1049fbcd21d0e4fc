use Rattle.std.proofs.Common.{take}
use Rattle.ledger.proofs.Places.{at_read}
use Rattle.ledger.proofs.ledger.Ledger.at.Goals as goal

pub returns : goal.returns
returns g c =
    let l = c.args.self.now in
    let read = c.get.ensures.lookup in
    rw c.copied.ensures (at_read (take l.count l.rows.now) c.args.position c.get.result (rw (← c.roll.ensures) read.0) (rw (← c.roll.ensures) read.1))
