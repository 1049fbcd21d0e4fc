use Rattle.std.proofs.Common.{◌≡◌, refl, arith}
use Rattle.lending.specs.Roll.{relend, with_share, plus}
use Rattle.lending.proofs.Order.{share_stays}
use Rattle.ledger.proofs.Ledgers.{stands}
use Rattle.ledger.proofs.Steps.{over, after, rewritten, still_found, both, united_fits, united_orderly, united_roll, united_length, united_unused}
use Rattle.ledger.proofs.ledger.Ledger.unite.Goals as goal

pub rewrite-requires : goal.rewrite-requires
rewrite-requires g c = rewritten c.close.new.self c.args.a.number c.args.a (with_share c.join_or_keep-share.result) (share_stays c.join_or_keep-share.result) (still_found c.args.self.now c.close.new.self c.args.a c.args.b.number c.requires.a (omega (arith, c.requires.order)) c.close.ensures)

pub invariant_of-self : goal.invariant_of-self
invariant_of-self g c = record {
  fits = united_fits c.rewrite.new.self c.args.a c.args.b c.relend.new.roll c.relend.ensures;
  numbers = c.rewrite.new.self.numbers;
  days = c.rewrite.new.self.days;
  orderly = united_orderly c.args.self.now c.close.new.self c.rewrite.new.self c.args.a c.args.b c.join_or_keep-share.result (plus g.S.Share.kind c.args.a.share c.args.b.share) c.requires.a c.requires.b c.requires.order c.requires.alike c.join_or_keep-share.ensures c.close.ensures c.rewrite.ensures c.relend.new.roll c.relend.ensures;
}

pub returns : goal.returns
returns g c =
    after (over (relend c.args.a.number c.args.b.number))
    (stands _ c.rewrite.new.self _ (united_roll c.rewrite.new.self c.args.a c.args.b c.relend.new.roll c.relend.ensures) (united_length c.rewrite.new.self c.args.a c.args.b c.relend.new.roll c.relend.ensures) (united_unused c.rewrite.new.self c.args.a c.args.b c.relend.new.roll c.relend.ensures) (let same : c.rewrite.new.self.rows.ghost_name ≡ c.rewrite.new.self.rows.ghost_name = refl in same))
    (both c.args.self.now c.close.new.self c.rewrite.new.self c.args.a c.args.b c.join_or_keep-share.result (plus g.S.Share.kind c.args.a.share c.args.b.share) c.requires.a c.requires.b c.requires.order c.requires.alike c.join_or_keep-share.ensures c.close.ensures c.rewrite.ensures)
