use Rattle.std.proofs.Common.{rules}
use Rattle.calls.proofs.Jobs.{idle_job}
use Rattle.calls.proofs.job.do_job.Goals as goal

pub returns-in-Ok-clause-idle : goal.returns-in-Ok-clause-idle
returns-in-Ok-clause-idle g c =
    idle_job g.O.Kind.Share.kind g.O.Office c.args.office.now c.make_until_refused.new.office c.hand_in-closed.new.office _ c.args.lease c.args.calls.now
    c.make_until_refused.ensures.idle c.hand_in-closed.ensures.idle (search rules)

pub returns-in-Err-clause-idle : goal.returns-in-Err-clause-idle
returns-in-Err-clause-idle g c =
    idle_job g.O.Kind.Share.kind g.O.Office c.args.office.now c.make_until_refused.new.office c.hand_in-closed-in-Err.new.office _ c.args.lease c.args.calls.now
    c.make_until_refused.ensures.idle c.hand_in-closed-in-Err.ensures.idle (search rules)
