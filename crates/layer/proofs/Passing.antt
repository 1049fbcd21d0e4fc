-- What a layer passes on and up.
use Rattle.std.proofs.Common.{◌≡◌, ℕ, Ok, Err, None, Result, sym, subst, ap}
use Rattle.std.specs.Result.{MatchResult, IsErrAnd}
use Rattle.shares.specs.Kind.{Kind}
use Rattle.lending.specs.declared.refusal.Refusal.{Refusal}
use Rattle.lending.specs.Office.{State}
use Rattle.lending.specs.Office.Request.{opening, delegating}
use Rattle.lending.specs.Outcome.{Call, Answer}
use Rattle.lending.specs.Outcome.Call.{open_resource, delegate, merge}
use Rattle.lending.specs.Perform.{Does}
use Rattle.lending.specs.Layers.{Own, Passes, layered, passed_up}
use Rattle.lending.specs.Answers.{raised_refusal, done_or_refused, number_or_refused}
use Rattle.lending.proofs.Layering.{layer_is_office}

-- q is r, its refusal raised
abbrev pub Raised : {T : Type 0} → Result T Refusal → Result T Refusal → Type 0
Raised r q = MatchResult r (λ x. q ≡ Ok x) (λ f. IsErrAnd q (λ g. g ≡ raised_refusal f))

module _ {S : Type 0} where
  pub number_up : (r q : Result ℕ Refusal) → Raised r q → number_or_refused {S = S} q ≡ passed_up (number_or_refused r)
  number_up (Ok n) q e = ap number_or_refused e
  number_up (Err f) (Ok n) e = absurd e
  number_up (Err f) (Err g) e = ap (λ h. number_or_refused (Err h)) e

  pub done_up : (r q : Result (Unit {0}) Refusal) → Raised r q → done_or_refused {S = S} q ≡ passed_up (done_or_refused r)
  done_up (Ok x) q e = ap done_or_refused e
  done_up (Err f) (Ok x) e = absurd e
  done_up (Err f) (Err g) e = ap (λ h. done_or_refused (Err h)) e

module _ {S : Type 0} (K : Kind S) (mine : Own S) (s t : State S) where
  up : (c : Call) (a b : Answer S) → b ≡ passed_up a → Passes (mine.objects s.core.roll s.core.today) c → Does K s c a t → Does K (layered mine s) c b (layered mine t)
  up c a b e pass d = subst (λ (x : Answer S). Does K (layered mine s) c x (layered mine t)) (sym e) (layer_is_office K mine s t c a pass d)

  pub opened : (resource holder : ℕ) (r q : Result ℕ Refusal) → Raised r q → None ≡ mine.objects s.core.roll s.core.today (opening resource holder) → Does K s (open_resource resource holder) (number_or_refused r) t → Does K (layered mine s) (open_resource resource holder) (number_or_refused q) (layered mine t)
  opened resource holder r q e none = up (open_resource resource holder) (number_or_refused r) (number_or_refused q) (number_up r q e) (sym none)

  pub delegated : (lender holder due : ℕ) (r q : Result ℕ Refusal) → Raised r q → None ≡ mine.objects s.core.roll s.core.today (delegating lender holder due) → Does K s (delegate lender holder due) (number_or_refused r) t → Does K (layered mine s) (delegate lender holder due) (number_or_refused q) (layered mine t)
  delegated lender holder due r q e none = up (delegate lender holder due) (number_or_refused r) (number_or_refused q) (number_up r q e) (sym none)

  pub merged : (a b : ℕ) (r q : Result (Unit {0}) Refusal) → Raised r q → Does K s (merge a b) (done_or_refused r) t → Does K (layered mine s) (merge a b) (done_or_refused q) (layered mine t)
  merged a b r q e = up (merge a b) (done_or_refused r) (done_or_refused q) (done_up r q e) tt
