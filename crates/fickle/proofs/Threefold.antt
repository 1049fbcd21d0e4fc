-- An open, a recall and a list of calls, one after another.
use Rattle.std.proofs.Common.{◌≡◌, ℕ, false, List, Result, subst, ap, ◌∙◌}
use Rattle.shares.specs.Kind.{Kind}
use Rattle.lending.specs.declared.refusal.Refusal.{Refusal}
use Rattle.lending.specs.Office.{State}
use Rattle.lending.specs.Outcome.Call.{open_resource, recall}
use Rattle.lending.specs.Perform.{Does}
use Rattle.lending.specs.Answers.{number_or_refused}
use Rattle.calls.specs.declared.call.Call.{Call}
use Rattle.calls.specs.declared.list.Tallies.{Tallies}
use Rattle.calls.specs.Lists.{CallsMade}
use Rattle.fickle.specs.declared.working.Answers.{Answers}
use Rattle.fickle.specs.Objects.{fickle_state}
use Rattle.fickle.specs.Works.{Worked}

pub worked : {S : Type 0} (K : Kind S) (Of : State S → Type 0) (s u v t : State S) (resource holder lease : ℕ) (calls : List Call) (opened recalled : Result ℕ Refusal) (closed : Tallies) → Does K s (open_resource resource holder) (number_or_refused opened) u → Does K u (recall lease) (number_or_refused recalled) v → CallsMade K Of v calls closed t → Worked K Of s resource holder lease calls (record { opened = opened; recalled = recalled; closed = closed }) t
worked K Of s u v t resource holder lease calls opened recalled closed opens recalls makes = record {
  after_open = u;
  after_recall = v;
  opens = opens;
  recalls = recalls;
  makes = makes;
}

pub worked_at_new : {S : Type 0} (K : Kind S) (Of : State S → Type 0) (s below new t : State S) (resource holder lease : ℕ) (calls : List Call) (answers : Answers) → s ≡ fickle_state false below → below ≡ new → Worked K Of s resource holder lease calls answers t → (u : State S) × Worked K Of (fickle_state false new) resource holder lease calls answers u
worked_at_new {S} K Of s below new t resource holder lease calls answers is is_new so = (t, subst (λ (x : State S). Worked K Of x resource holder lease calls answers t) (is ∙ ap (fickle_state false) is_new) so)
