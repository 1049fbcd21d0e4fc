use Rattle.std.proofs.Common.{refl}
use Rattle.lending.specs.Roll.{with_holder}
use Rattle.ledger.proofs.Steps.{rewritten, rewrote}
use Rattle.ledger.proofs.ledger.Ledger.hand_over.Goals as goal

pub rewrite-requires : goal.rewrite-requires
rewrite-requires g c = rewritten c.args.self.now c.args.lease.number c.args.lease (with_holder c.args.holder) (record { number = λ x. refl; lender = λ x. refl; due = λ x. refl; ranged = λ x r. (r.0, c.requires.holder, r.2) }) c.requires.live

pub returns : goal.returns
returns g c =
    let x = c.args.lease in
    let h = c.args.holder in
    rewrote c.args.self.now c.rewrite.new.self x.number x (with_holder h) c.requires.live (with_holder h x) refl refl c.rewrite.ensures
