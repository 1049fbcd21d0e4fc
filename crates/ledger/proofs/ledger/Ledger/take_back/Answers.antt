use Rattle.std.proofs.Common.{take, sym, ap, ◌∙◌}
use Rattle.lending.specs.Roll.{find, with_share}
use Rattle.lending.proofs.Order.{share_stays}
use Rattle.ledger.proofs.Steps.{rewritten, given_to, given_to_none}
use Rattle.ledger.proofs.ledger.Ledger.take_back.Goals as goal

pub rewrite-requires : goal.rewrite-requires
rewrite-requires g c = rewritten c.close.new.self c.in-Some.lender.number c.in-Some.lender (with_share c.join_or_keep-share.result) (share_stays c.join_or_keep-share.result) (ap (find (take c.close.new.self.count c.close.new.self.rows.now)) c.in-Some.ensures.named ∙ sym c.in-Some.ensures.is)

pub returns-in-Some : goal.returns-in-Some
returns-in-Some g c = given_to g.S.Share.kind c.args.self.now c.close.new.self c.args.closed c.close.ensures c.rewrite.new.self c.in-Some.lender c.join_or_keep-share.result c.in-Some.ensures.is c.in-Some.ensures.named c.join_or_keep-share.ensures c.rewrite.ensures

pub returns-in_default : goal.returns-in_default
returns-in_default g c = given_to_none g.S.Share.kind c.args.self.now c.close.new.self c.args.closed c.close.ensures c.in_default.ensures.is
