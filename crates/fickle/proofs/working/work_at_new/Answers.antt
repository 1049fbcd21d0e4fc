use Rattle.fickle.proofs.Threefold.{worked_at_new}
use Rattle.fickle.proofs.working.work_at_new.Goals as goal

pub returns-clause-worked : goal.returns-clause-worked
returns-clause-worked g c = worked_at_new g.S.Share.kind _ _ _ _ _ c.args.resource c.args.holder c.args.lease c.args.calls.now c.work.result c.over-office.ensures.stands c.new.ensures.stands c.work.ensures.worked
