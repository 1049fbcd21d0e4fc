-- What a call does to an office, by what the office stands for, its rows, the loan of them, and its layers.
use Rattle.std.specs.Prelude.{◌≡◌, ℕ, true, List}
use Rattle.shares.specs.Kind.{Kind}
use Rattle.lending.specs.declared.lease.Lease.{Lease}
use Rattle.lending.specs.Layers.{Layers}
use Rattle.lending.specs.Office.{State}
use Rattle.lending.specs.Outcome.{Call, Answer, is_refused}
use Rattle.lending.specs.Perform.{Does}
use Rattle.office.specs.Lawful.{unused}

module _ {O S : Type 0} (rows : O → List (Lease S)) (loan : O → ℕ) (layers : O → Layers S) where
  -- What no call changes: the office `was` has become `now`.
  pub record KeepsBy (was now : O) : Type 0 where
    -- the rows that it never uses stay as they are,
    pub same_unused : unused (rows now) ≡ unused (rows was)
    -- its rows stay the very ones that were lent to it,
    pub same_loan : loan now ≡ loan was
    -- and what its layers object to stays.
    pub same_layers : layers now ≡ layers was

  -- The office `was` gave the answer a to the call c, and has become `now`.
  pub record PerformsBy (K : Kind S) (meaning : O → State S) (c : Call) (a : Answer S) (was now : O) : Type 0 where
    -- what it stands for has become what the definition says,
    pub does : Does K (meaning was) c a (meaning now)
    -- and a refusal leaves the whole office as it was.
    pub same : is_refused a ≡ true → now ≡ was
    pub keeps : KeepsBy was now
