use Rattle.std.proofs.Common.{◌∙◌}
use Rattle.desk.proofs.Marking.{found_there}
use Rattle.desk.proofs.recalls.has.Goals as goal

pub returns : goal.returns
returns c = c.is_ok.ensures.value ∙ found_there c.args.number c.args.numbers.now c.binary_search.result c.binary_search.ensures.position c.requires
