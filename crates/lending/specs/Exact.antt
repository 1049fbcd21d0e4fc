-- What the definitions of the calls rest on, in every state that calls reach.
use Rattle.std.specs.Prelude.{◌≡◌, ℕ, ◌<◌, ◌≤◌, true, false, ◌↔◌, List, Some, ◌≢◌}
use Rattle.std.specs.List.{list_any}
use mathlib.Core.List.{Memᴰ}
use Rattle.shares.specs.Kind.{Kind}
use Rattle.lending.specs.declared.lease.Lease.{Lease}
use Rattle.lending.specs.Office.{State, SetUp}
use Rattle.lending.specs.Roll.{Rising, lends, under}
use Rattle.lending.specs.Outcome.Call.{day}
use Rattle.lending.specs.Outcome.Answer.{number}
use Rattle.lending.specs.Outcome.Outcome.{grants}
use Rattle.lending.specs.Calls.{unlike, bad_day}
use Rattle.lending.specs.Above.{standing_of}
use Rattle.lending.specs.Perform.{perform}
use Rattle.lending.specs.History.{Moment, Leads}
use Rattle.lending.specs.Promise.{Live}

module _ {S : Type 0} where
  -- A chain of lenders leads from lease l up to q.
  pub data Under (roll : List (Lease S)) (q : Lease S) : Lease S → Type 0 where
    direct : {l : Lease S} → l.lender ≡ q.number → Under roll q l
    through : {l : Lease S} (p : Lease S) → Memᴰ p roll → p.number ≡ l.lender → Under roll q p → Under roll q l

  -- What holds of such a state.
  pub record Exact (K : Kind S) (t : State S) : Type 0 where
    -- The numbers rise, and each was issued.
    pub rising : Rising 0 t.core.roll
    pub numbered : (l : Lease S) → Live t l → (1 ≤ l.number) × (l.number ≤ t.core.issued)
    -- Unless the house lent it, a lease's lender is a live lease of the same resource, with a lower number and no
    -- earlier due day.
    pub has_lender : (l : Lease S) → Live t l → (l.lender ≢ 0)
        → (p : Lease S) × Live t p
        × (p.number ≡ l.lender) × (p.number < l.number) × (p.resource ≡ l.resource) × (l.due ≤ p.due)
    -- A resource has one first lease at most.
    pub one_first : (l m : Lease S) → Live t l → Live t m
        → l.lender ≡ 0 → m.lender ≡ 0 → l.resource ≡ m.resource → l ≡ m
    -- The test for a lease under another is right,
    pub under_is_chain : (l q : Lease S) → Live t l → Live t q
        → (under t.core.roll l.number q.number ≡ true) ↔ Under t.core.roll q l
    -- and a yield is refused for leases under it exactly when there are some.
    pub under_is_lent : (l : Lease S) → Live t l
        → lends t.core.roll l.number ≡ list_any (λ x. under t.core.roll x.number l.number) t.core.roll
    -- Each join that a call makes is defined.
    pub standing_joins : (resource holder : ℕ) → (s : S) × (standing_of K t.core.roll resource holder ≡ Some s)
    pub yield_joins : (l p : Lease S) → Live t l → Live t p → p.number ≡ l.lender → lends t.core.roll l.number ≡ false
        → (s : S) × (K.join p.share l.share ≡ Some s)
    pub merge_joins : (a b : Lease S) → Live t a → Live t b → a.number < b.number → unlike a b ≡ false
        → (s : S) × (K.join a.share b.share ≡ Some s)
    -- A day is refused for its number alone.
    pub day_granted : (d : ℕ) → bad_day t d ≡ false
        → (k : ℕ) × (u : State S) × (perform K t (day d) ≡ grants (number k) u)

  -- So it is of every state that calls reach.
  abbrev pub CallsExact : Kind S → Type 0
  CallsExact K = (start t : State S) → SetUp start → (ms : List (Moment S)) → Leads K start ms t → Exact K t
