use Rattle.std.proofs.Common.{eqb, drop, ap, ◌∙◌, rules}
use borrow.Author.Tests.{tests}
use Rattle.std.proofs.lemmas.Iterator.{YieldsList-from_slice}
use Rattle.std.proofs.lemmas.Iterator.Search.{any_from_yields_List}
use Rattle.std.proofs.lemmas.List.{take_rest}
use Rattle.lending.specs.Roll.{lends}
use Rattle.ledger.proofs.Walks.{lends_behind}
use Rattle.ledger.proofs.ledger.Ledger.lends.Goals as goal

pub returns : goal.returns
returns g c =
    any_from_yields_List (λ l. eqb l.lender c.args.number) _ _ _ c.any.ensures.ran (YieldsList-from_slice (drop c.partition_point-next.result c.roll-roll.result.now) (c.iter.ensures.rest ∙ take_rest c.roll-roll.result.now c.partition_point-next.result)) (λ x b q k. search (rules, tests))
    ∙ lends_behind c.args.number c.partition_point-next.result c.roll-roll.result.now c.args.self.now.issued (rw c.roll-roll.ensures c.args.self.now.orderly) c.partition_point-next.ensures.partitioned (λ a r q k. search rules)
    ∙ ap (λ roll. lends roll c.args.number) c.roll-roll.ensures
