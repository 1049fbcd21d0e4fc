use Rattle.std.specs.Prelude.{length}
use Rattle.lender.proofs.Piling.{made_conserved}
use Rattle.lender.proofs.lender.lend_rows.Goals as goal

pub returns-clause-conserved : goal.returns-clause-conserved
returns-clause-conserved g c = made_conserved g.S.Share.kind c.lending_is_conserved.ensures.always c.args.quota c.args.term c.args.chain (length c.args.rows.now) c.args.calls.now
