use Rattle.counting.proofs.Balances.{given_out_is_held_lem}
use Rattle.counting.proofs.balance.given_out_is_held.Goals as goal

pub returns : goal.returns
returns c = given_out_is_held_lem
