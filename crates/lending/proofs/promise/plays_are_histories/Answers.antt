use Rattle.lending.proofs.Plays.{plays_are_histories_lem}
use Rattle.lending.proofs.promise.plays_are_histories.Goals as goal

pub returns : goal.returns
returns g c = plays_are_histories_lem g.S.Share.kind
