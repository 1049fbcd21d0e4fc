use Rattle.std.proofs.Common.{sym, refl}
use Rattle.counting.specs.KindLaws.{of_held}
use Rattle.counting.proofs.counting.kind.of_permission.Goals as goal

pub returns : goal.returns
returns c = sym (of_held c.args.held _ refl)
