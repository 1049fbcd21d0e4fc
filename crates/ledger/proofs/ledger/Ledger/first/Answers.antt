use Rattle.std.proofs.Common.{◌+◌, take, refl, arith}
use Rattle.lending.proofs.Order.{orderly_so, orderly_first}
use Rattle.ledger.proofs.ledger.Ledger.first.Goals as goal

pub issue-requires-clause-orderly : goal.issue-requires-clause-orderly
issue-requires-clause-orderly g c =
    let l = c.args.self.now in
    let roll = take l.count l.rows.now in
    orderly_so roll _ _ l.issued (l.issued + 1) l.orderly refl (orderly_first _ roll l.issued refl refl (c.requires.resource, c.requires.holder, omega arith))
