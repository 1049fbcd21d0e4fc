use Rattle.std.proofs.Common.{rules}
use Rattle.ledger.proofs.Ledgers.{rises}
use Rattle.ledger.proofs.Places.{searched_by}
use Rattle.ledger.proofs.ledger.Ledger.place.Goals as goal

pub returns : goal.returns
returns g c = rw (c.ok.ensures.value, ← c.roll.ensures) (searched_by c.args.number c.roll.result.now (rw c.roll.ensures (rises c.args.self.now)) c.binary_search_by_key.result c.binary_search_by_key.ensures.bound c.binary_search_by_key.ensures.position (λ f a k q called. search rules))
