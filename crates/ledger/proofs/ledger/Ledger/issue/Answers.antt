use Rattle.std.proofs.Common.{◌≡◌, refl, ◌++◌, [], ◌∷◌, take, arith, length-set, drop-set-lt}
use Rattle.std.proofs.lemmas.List.{take_more_set}
use Rattle.ledger.proofs.Ledgers.{stands, not_full}
use Rattle.ledger.proofs.ledger.Ledger.issue.Goals as goal

pub returns-clause-stands : goal.returns-clause-stands
returns-clause-stands g c =
    let l = c.args.self.now in
    let lt = not_full l c.requires.row in
    stands _ l (take l.count l.rows.now ++ (c.args.lease ∷ []))
    (take_more_set l.rows.now l.count c.args.lease (omega arith))
    (simp length-set)
    (drop-set-lt 1024 l.rows.now l.count c.args.lease (omega arith))
    (let same : l.rows.ghost_name ≡ l.rows.ghost_name = refl in same)
