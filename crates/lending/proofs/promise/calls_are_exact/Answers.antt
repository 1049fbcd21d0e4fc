use Rattle.lending.proofs.Exactness.{calls_exact}
use Rattle.lending.proofs.promise.calls_are_exact.Goals as goal

pub returns : goal.returns
returns g c = calls_exact g.S.Share.kind g.met.S.Share.laws
