-- What a call does to a fickle office.
use Rattle.std.specs.Prelude.{◌≡◌, not}
use Rattle.shares.specs.Kind.{Kind}
use Rattle.lending.specs.Office.{State}
use Rattle.lending.specs.Outcome.{Call, Answer, is_refused}
use Rattle.office.specs.declared.office.Office.{Ghosts}
use Rattle.office.specs.Performs.{PerformsBy}
use Rattle.fickle.specs.declared.fickle.Fickle.{Fickle}
use Rattle.fickle.specs.Objects.{fickle_state, flip}

module _ {O S : Type 0} (it : Ghosts O S) where
  -- what it stands for
  abbrev pub fickle_meaning : Fickle O → State S
  fickle_meaning fickle = fickle_state fickle.closed (it.meaning fickle.below)

  -- It performs the call, and flips if that was granted.
  pub record FicklePerforms (K : Kind S) (c : Call) (a : Answer S) (was now : Fickle O) : Type 0 where
    pub performs : PerformsBy (λ f. it.rows f.below) (λ f. it.loan f.below) (λ f. it.layers f.below) K fickle_meaning c
        a was now
    pub turns : now.closed ≡ flip (not (is_refused a)) was.closed
