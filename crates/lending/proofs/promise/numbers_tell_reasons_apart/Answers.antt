use Rattle.lending.proofs.Reasons.{numbers_tell_reasons_apart_lem}
use Rattle.lending.proofs.promise.numbers_tell_reasons_apart.Goals as goal

pub returns : goal.returns
returns c = numbers_tell_reasons_apart_lem
