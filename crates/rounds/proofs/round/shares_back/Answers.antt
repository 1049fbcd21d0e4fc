use Rattle.std.proofs.Common.{Some, rules}
use Rattle.std.proofs.lemmas.Iterator.{items_from_collect, YieldsList-from_slice, YieldsList-from_map}
use Rattle.std.proofs.lemmas.Iterator.Adapters.{YieldsList-from_once}
use Rattle.std.proofs.lemmas.Iterator.Consumers.{YieldsList-from_chain}
use Rattle.rounds.specs.declared.loan.Loan.{Loan}
use Rattle.rounds.proofs.round.shares_back.Goals as goal

pub returns : goal.returns
returns g c =
    items_from_collect c.collect.result c.collect.ensures.ran (YieldsList-from_chain
    (YieldsList-from_once (Some c.args.out.now.left) (search rules))
    (YieldsList-from_map _ (λ (loan : Loan _). loan.lent) (YieldsList-from_slice _ (search rules)) (search rules) (λ x r q k. search rules))
    (search rules) (search rules))
