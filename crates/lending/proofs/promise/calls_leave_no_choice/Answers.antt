use Rattle.lending.proofs.Choosing.{calls_leave_no_choice_lem, lists_leave_no_choice_lem}
use Rattle.lending.proofs.promise.calls_leave_no_choice.Goals as goal

pub returns : goal.returns
returns g c = record { calls = calls_leave_no_choice_lem g.S.Share.kind; lists = lists_leave_no_choice_lem g.S.Share.kind }
