use Rattle.lending.proofs.Layering.{layer_is_office}
use Rattle.lending.proofs.promise.layer_is_an_office.Goals as goal

pub returns : goal.returns
returns g c = layer_is_office g.S.Share.kind
