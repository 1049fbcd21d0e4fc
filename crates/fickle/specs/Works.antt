-- What an open, a recall and a list of calls come to.
use Rattle.std.specs.Prelude.{ℕ, List}
use Rattle.shares.specs.Kind.{Kind}
use Rattle.lending.specs.Office.{State}
use Rattle.lending.specs.Outcome.Call.{open_resource, recall}
use Rattle.lending.specs.Perform.{Does}
use Rattle.lending.specs.Answers.{number_or_refused}
use Rattle.calls.specs.declared.call.Call.{Call}
use Rattle.calls.specs.Lists.{CallsMade}
use Rattle.fickle.specs.declared.working.Answers.{Answers}

-- An open, a recall and a list of calls were made, each to what the one before it left, and led from s to t.
pub record Worked {S : Type 0} (K : Kind S) (Of : State S → Type 0) (s : State S) (resource holder lease : ℕ)
    (calls : List Call) (answers : Answers) (t : State S) : Type 0 where
  pub after_open : State S
  pub after_recall : State S
  pub opens : Does K s (open_resource resource holder) (number_or_refused answers.opened) after_open
  pub recalls : Does K after_open (recall lease) (number_or_refused answers.recalled) after_recall
  pub makes : CallsMade K Of after_recall calls answers.closed t
