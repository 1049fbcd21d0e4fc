use Rattle.std.proofs.Common.{arith}
use Rattle.lending.proofs.Order.{orderly_none}
use Rattle.ledger.proofs.ledger.Ledger.new.Goals as goal

pub invariant_of-result : goal.invariant_of-result
invariant_of-result g c = record { fits = omega arith; numbers = omega arith; days = omega arith; orderly = ∣ orderly_none ∣₁ }
