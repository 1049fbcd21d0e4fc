-- The lending promise: nobody who lends through an office gets back more or less than went out.
use Rattle.std.specs.Prelude.{◌≡◌, ℕ, ◌+◌, ◌≤◌, true, false, ◌⊎◌, ◌↔◌, List, ◌∷◌, map, length, Some, ◌≢◌}
use mathlib.Core.List.{Memᴰ}
use Rattle.shares.specs.Kind.{Kind}
use Rattle.shares.specs.Joins.{JoinTo}
use Rattle.lending.specs.declared.lease.Lease.{Lease}
use Rattle.lending.specs.Office.{State, SetUp}
use Rattle.lending.specs.Roll.{find, live, family}
use Rattle.lending.specs.Outcome.{Call, Answer}
use Rattle.lending.specs.Outcome.Call.{recall, standing}
use Rattle.lending.specs.Outcome.Answer.{number, share}
use Rattle.lending.specs.Perform.{Does}
use Rattle.lending.specs.History.{Moment, Leads, lent, yielded, merged, recalled, lapsed, closings}

module _ {S : Type 0} where
  -- the lease is on the roll
  abbrev pub Live : State S → Lease S → Type 0
  Live t l = Memᴰ l t.core.roll

  -- the resource has a live lease
  abbrev pub Open : State S → ℕ → Type 0
  Open t resource = (l : Lease S) × Live t l × (l.resource ≡ resource)

  -- every lease of the resource is this holder's
  abbrev pub NobodyElse : State S → ℕ → ℕ → Type 0
  NobodyElse t resource holder = (l : Lease S) → Live t l → l.resource ≡ resource → l.holder ≡ holder

  -- The lender's share in u is its share in t joined with s.
  pub record Gains (K : Kind S) (t u : State S) (lender : ℕ) (s : S) : Type 0 where
    pub then_lease : Lease S
    pub now_lease : Lease S
    pub was_live : find t.core.roll lender ≡ Some then_lease
    pub is_live : find u.core.roll lender ≡ Some now_lease
    pub gained : K.join then_lease.share s ≡ Some now_lease.share

  -- Lease l of t was lent s; its recall was granted, left u, and gave its lender exactly s.
  pub record Returned (K : Kind S) (t u : State S) (l : Lease S) (s : S) (a : Answer S) : Type 0 where
    pub granted : (k : ℕ) × (a ≡ number k)
    pub closed : live u.core.roll l.number ≡ false
    pub lender_gains : (l.lender ≢ 0) → Gains K t u l.lender s
    -- the house gains the whole
    pub house_gains : l.lender ≡ 0 → s ≡ K.whole

  -- What holds of the state t to which a list of calls led.
  pub record Conserved (K : Kind S) (ms : List (Moment S)) (t : State S) : Type 0 where
    -- (a) A live lease and all live leases under it join, in every order and grouping, to exactly what that lease was
    -- lent.
    pub joins : (l : Lease S) → Live t l
        → (s : S) × (lent K ms l.number ≡ Some s) × JoinTo K (map (λ x. x.share) (family t.core.roll l.number)) s
    -- A first lease was lent the whole.
    pub first : (l : Lease S) → Live t l → l.lender ≡ 0 → lent K ms l.number ≡ Some K.whole
    -- (b) A holder's standing in an open resource is the whole exactly when nobody else has a lease of it.
    pub writes : (resource holder : ℕ) → Open t resource → (a : Answer S) (u : State S)
        → Does K t (standing resource holder) a u → (a ≡ share K.whole) ↔ NobodyElse t resource holder
    -- (c) Every issued number is either live or was closed just once,
    pub once : (n : ℕ) → 1 ≤ n → n ≤ t.core.issued
        → ((live t.core.roll n ≡ true) × (closings ms t n ≡ 0))
        ⊎ ((live t.core.roll n ≡ false) × (closings ms t n ≡ 1))
    -- and so the counts add up.
    pub counts : t.core.issued ≡ length t.core.roll + yielded ms + merged ms + recalled ms + lapsed ms
    -- A live lease's recall is granted, and its lender gains exactly what that lease was lent.
    pub recalls : (l : Lease S) → Live t l → (a : Answer S) (u : State S) → Does K t (recall l.number) a u
        → (s : S) × (lent K ms l.number ≡ Some s) × Returned K t u l s a

  -- The promise for this kind of share: after every list of calls to an office that was set up empty.
  abbrev pub LendingConserved : Kind S → Type 0
  LendingConserved K = (start t : State S) → SetUp start
      → (ms : List (Moment S)) → Leads K start ms t → Conserved K ms t

  -- The promise at one call: however s was reached, it holds of the calls that led there with this one.
  pub record CallConserves (K : Kind S) (s : State S) (c : Call) (a : Answer S) (t : State S) : Type 0 where
    pub after : (start : State S) → SetUp start → (ms : List (Moment S)) → Leads K start ms s
        → Conserved K (record { before = s; call = c; answer = a } ∷ ms) t

  -- The promise holds at every call that an office makes as it should.
  abbrev pub EveryCallConserves : Kind S → Type 0
  EveryCallConserves K = (s : State S) (c : Call) (a : Answer S) (t : State S)
      → Does K s c a t → CallConserves K s c a t
