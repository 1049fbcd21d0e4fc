-- A call that is passed on, after which the office flips if it was granted.
use Rattle.std.proofs.Common.{◌≡◌, ℕ, Bool, true, false, None, Ok, Err, Result, refl, sym, subst, ◌∙◌, arith}
use Rattle.std.specs.Prelude.{is_ok}
use Rattle.shares.specs.Kind.{Kind}
use Rattle.lending.specs.declared.refusal.Refusal.{Refusal}
use Rattle.lending.specs.Office.{State}
use Rattle.lending.specs.Office.Request.{opening}
use Rattle.lending.specs.Outcome.{Call, Answer, Outcome}
use Rattle.lending.specs.Outcome.Outcome.{refuses, tells, grants}
use Rattle.lending.specs.Outcome.Answer.{done, number}
use Rattle.lending.specs.Outcome.Call.{open_resource, delegate, yield, merge, assign, new_day}
use Rattle.lending.specs.Perform.{perform, Ends, Does}
use Rattle.lending.specs.Idle.{idle}
use Rattle.lending.specs.Layers.{Passes, layered}
use Rattle.lending.specs.Answers.{done_or_refused, number_or_refused}
use Rattle.lending.proofs.Idling.{idle_open, idle_delegate, idle_yield, idle_merge, idle_assign, idle_day}
use Rattle.lending.proofs.Layering.{layer_is_office}
use Rattle.layer.proofs.Passing.{Raised, number_up, done_up}
use Rattle.fickle.specs.Objects.{fickle_objects, fickle_rule, flip}

module _ {S : Type 0} where
  -- a granted call leaves any state with the same core
  granted : (o : Outcome S) (s t v : State S) (a : Answer S) → (idle o ≡ true → ⊥) → v.core ≡ t.core → Ends o s a t → Ends o s a v
  granted (refuses r) s t v a not_idle e d = absurd (not_idle refl)
  granted (tells x) s t v a not_idle e d = absurd (not_idle refl)
  granted (grants x u) s t v a not_idle e d = (d.0, e ∙ d.1)

  module _ (K : Kind S) (s t : State S) (closed : Bool) where
    abbrev over : State S
    over = layered (fickle_rule closed) s

    number_turned : (c : Call) → Passes (fickle_objects closed s.core.roll s.core.today) c → ((q : Result ℕ Refusal) → Does K over c (number_or_refused q) (layered (fickle_rule closed) t) → idle (perform K over c) ≡ true → is_ok q ≡ false) → (r q : Result ℕ Refusal) (after : Bool) → Raised r q → after ≡ flip (is_ok q) closed → Does K s c (number_or_refused r) t → Does K over c (number_or_refused q) (layered (fickle_rule after) t)
    number_turned c pass acts r q after e f d = go q f (acts q does) does
      where
        does : Does K over c (number_or_refused q) (layered (fickle_rule closed) t)
        does = subst (λ (x : Answer S). Does K over c x (layered (fickle_rule closed) t)) (sym (number_up r q e)) (layer_is_office K (fickle_rule closed) s t c (number_or_refused r) pass d)

        go : (q : Result ℕ Refusal) → after ≡ flip (is_ok q) closed → (idle (perform K over c) ≡ true → is_ok q ≡ false) → Does K over c (number_or_refused q) (layered (fickle_rule closed) t) → Does K over c (number_or_refused q) (layered (fickle_rule after) t)
        go (Err g) f h d = subst (λ (b : Bool). Does K over c (number_or_refused (Err g)) (layered (fickle_rule b) t)) (sym f) d
        go (Ok n) f h d = granted (perform K over c) over (layered (fickle_rule closed) t) (layered (fickle_rule after) t) (number n) (λ i. let z : true ≡ false = h i in absurd (let w : ◌≡◌ {A = ℕ} 0 1 = cc in omega arith)) refl d

    done_turned : (c : Call) → Passes (fickle_objects closed s.core.roll s.core.today) c → ((q : Result (Unit {0}) Refusal) → Does K over c (done_or_refused q) (layered (fickle_rule closed) t) → idle (perform K over c) ≡ true → is_ok q ≡ false) → (r q : Result (Unit {0}) Refusal) (after : Bool) → Raised r q → after ≡ flip (is_ok q) closed → Does K s c (done_or_refused r) t → Does K over c (done_or_refused q) (layered (fickle_rule after) t)
    done_turned c pass acts r q after e f d = go q f (acts q does) does
      where
        does : Does K over c (done_or_refused q) (layered (fickle_rule closed) t)
        does = subst (λ (x : Answer S). Does K over c x (layered (fickle_rule closed) t)) (sym (done_up r q e)) (layer_is_office K (fickle_rule closed) s t c (done_or_refused r) pass d)

        go : (q : Result (Unit {0}) Refusal) → after ≡ flip (is_ok q) closed → (idle (perform K over c) ≡ true → is_ok q ≡ false) → Does K over c (done_or_refused q) (layered (fickle_rule closed) t) → Does K over c (done_or_refused q) (layered (fickle_rule after) t)
        go (Err g) f h d = subst (λ (b : Bool). Does K over c (done_or_refused (Err g)) (layered (fickle_rule b) t)) (sym f) d
        go (Ok n) f h d = granted (perform K over c) over (layered (fickle_rule closed) t) (layered (fickle_rule after) t) done (λ i. let z : true ≡ false = h i in absurd (let w : ◌≡◌ {A = ℕ} 0 1 = cc in omega arith)) refl d

    pub opened : (resource holder : ℕ) (r q : Result ℕ Refusal) (after : Bool) → Raised r q → None ≡ fickle_objects closed s.core.roll s.core.today (opening resource holder) → after ≡ flip (is_ok q) closed → Does K s (open_resource resource holder) (number_or_refused r) t → Does K (layered (fickle_rule closed) s) (open_resource resource holder) (number_or_refused q) (layered (fickle_rule after) t)
    opened x h r q after e none = number_turned (open_resource x h) (sym none) (idle_open K over (layered (fickle_rule closed) t) x h) r q after e

    pub delegated : (p h d : ℕ) (r q : Result ℕ Refusal) (after : Bool) → Raised r q → after ≡ flip (is_ok q) closed → Does K s (delegate p h d) (number_or_refused r) t → Does K (layered (fickle_rule closed) s) (delegate p h d) (number_or_refused q) (layered (fickle_rule after) t)
    delegated p h d = number_turned (delegate p h d) refl (idle_delegate K over (layered (fickle_rule closed) t) p h d)

    pub yielded : (n : ℕ) (r q : Result (Unit {0}) Refusal) (after : Bool) → Raised r q → after ≡ flip (is_ok q) closed → Does K s (yield n) (done_or_refused r) t → Does K (layered (fickle_rule closed) s) (yield n) (done_or_refused q) (layered (fickle_rule after) t)
    yielded n = done_turned (yield n) tt (idle_yield K over (layered (fickle_rule closed) t) n)

    pub merged : (a b : ℕ) (r q : Result (Unit {0}) Refusal) (after : Bool) → Raised r q → after ≡ flip (is_ok q) closed → Does K s (merge a b) (done_or_refused r) t → Does K (layered (fickle_rule closed) s) (merge a b) (done_or_refused q) (layered (fickle_rule after) t)
    merged a b = done_turned (merge a b) tt (idle_merge K over (layered (fickle_rule closed) t) a b)

    pub assigned : (n h : ℕ) (r q : Result (Unit {0}) Refusal) (after : Bool) → Raised r q → after ≡ flip (is_ok q) closed → Does K s (assign n h) (done_or_refused r) t → Does K (layered (fickle_rule closed) s) (assign n h) (done_or_refused q) (layered (fickle_rule after) t)
    assigned n h = done_turned (assign n h) refl (idle_assign K over (layered (fickle_rule closed) t) n h)

    pub day_set : (d : ℕ) (r q : Result (Unit {0}) Refusal) (after : Bool) → Raised r q → after ≡ flip (is_ok q) closed → Does K s (new_day d) (done_or_refused r) t → Does K (layered (fickle_rule closed) s) (new_day d) (done_or_refused q) (layered (fickle_rule after) t)
    day_set d = done_turned (new_day d) tt (idle_day K over (layered (fickle_rule closed) t) d)
