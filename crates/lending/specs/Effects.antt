-- What the calls above an office come to. The definitions yield one lease after another; this says what those yields
-- leave, and what lenders get back by them.
use Rattle.std.specs.Prelude.{◌≡◌, ℕ, ◌<◌, Bool, T, not, ◌&&◌, ◌||◌, ◌↔◌, List, [], ◌∷◌, map, Some, Option, ◌==◌, ◌≢◌}
use Rattle.std.specs.List.{filter}
use Rattle.shares.specs.Kind.{Kind}
use Rattle.lending.specs.declared.lease.Lease.{Lease}
use Rattle.lending.specs.Office.{State, with_roll, with_today}
use Rattle.lending.specs.Roll.{find, under, change, with_share, gaining}
use Rattle.lending.specs.Outcome.{Answer}
use Rattle.lending.specs.Outcome.Call.{recall, day, standing, hand_in}
use Rattle.lending.specs.Outcome.Answer.{number, share}
use Rattle.lending.specs.Calls.{due_by}
use Rattle.lending.specs.Above.{standing_of}
use Rattle.lending.specs.Perform.{Does}
use Rattle.lending.specs.History.{Moment, HoweverReached, both_joined, lent}
use Rattle.lending.specs.Promise.{Live, Open, NobodyElse, Gains, CallConserves}

module _ {S : Type 0} where
  -- the roll without lease n and those under it
  abbrev pub without_family : List (Lease S) → ℕ → List (Lease S)
  without_family roll n = filter (λ l. not ((l.number == n) || under roll l.number n)) roll

  -- Lease l of s, which was lent x, has been recalled.
  pub record TakenBack (K : Kind S) (s t : State S) (l : Lease S) (x : S) : Type 0 where
    -- The roll is the old one without that lease and those under it; the lender alone has gained x, and nothing else
    -- is touched,
    pub left : t.core ≡ (with_roll (change l.lender (gaining K x) (without_family s.core.roll l.number)) s).core
    -- and just that, which its share joins with.
    pub gained : (l.lender ≢ 0) → Gains K s t l.lender x

  -- However s was reached: where lease n is live in s, it was recalled, which left t, and its lender has gained
  -- exactly what it was lent.
  pub record TakesBack (K : Kind S) (s : State S) (n : ℕ) (t : State S) : Type 0 where
    pub after : HoweverReached K s (λ ms. (l : Lease S) → find s.core.roll n ≡ Some l
        → (x : S) × (lent K ms n ≡ Some x) × TakenBack K s t l x)

  -- what some leases were lent, all together
  abbrev pub lent_together : Kind S → List (Moment S) → List (Lease S) → Option S
  lent_together K ms [] = Some K.empty
  lent_together K ms (l ∷ ls) = both_joined K (lent K ms l.number) (lent_together K ms ls)

  -- the leases that n lent and that fall due by day d
  abbrev pub due_from : List (Lease S) → ℕ → ℕ → List (Lease S)
  due_from roll d n = filter (λ l. due_by d l && l.lender == n) roll

  -- The day d has come between s and t.
  pub record DayCame (K : Kind S) (ms : List (Moment S)) (s t : State S) (d : ℕ) : Type 0 where
    -- No live lease is due by it.
    pub none_due : (l : Lease S) → Live t l → d < l.due
    -- Nothing but the roll and today has changed,
    pub left : t.core ≡ (with_roll t.core.roll (with_today d s)).core
    -- and every lease that was not due by it is as it was, but for its share,
    pub others : map (with_share K.empty) t.core.roll
        ≡ map (with_share K.empty) (filter (λ l. not (due_by d l)) s.core.roll)
    -- which has been joined with what its leases that fell due were lent.
    pub got_back : (l m : Lease S) → Live s l → Live t m → m.number ≡ l.number
        → (x : S) × (lent_together K ms (due_from s.core.roll d l.number) ≡ Some x) × (K.join l.share x ≡ Some m.share)

  -- However s was reached, the day came as it should.
  pub record DayComes (K : Kind S) (s : State S) (d : ℕ) (t : State S) : Type 0 where
    pub after : HoweverReached K s (λ ms. DayCame K ms s t d)

  -- However s was reached, the holder's shares do join, to x. So the empty share, which the definition has for shares
  -- that don't join, is never answered in their place.
  pub record StandingJoins (K : Kind S) (s : State S) (resource holder : ℕ) (x : S) : Type 0 where
    pub after : HoweverReached K s (λ ms. standing_of K s.core.roll resource holder ≡ Some x)

  -- Whether a holder may write: exactly if its standing is the whole. In an open resource, however s was reached,
  -- that is so exactly if nobody else has a lease of it.
  pub record MayWrite (K : Kind S) (s : State S) (resource holder : ℕ) (may : Bool) : Type 0 where
    -- the standing that is answered
    pub joined : S
    pub stands : Does K s (standing resource holder) (share joined) s
    pub conserved : CallConserves K s (standing resource holder) (share joined) s
    pub exactly : T may ↔ (joined ≡ K.whole)
    pub alone : HoweverReached K s (λ ms. Open s resource → T may ↔ NobodyElse s resource holder)

  -- So it is with every recall,
  abbrev pub EveryRecallTakesBack : Kind S → Type 0
  EveryRecallTakesBack K = (s t : State S) (n : ℕ) (a : Answer S) → Does K s (recall n) a t → TakesBack K s n t

  -- every hand-in,
  abbrev pub EveryHandInTakesBack : Kind S → Type 0
  EveryHandInTakesBack K = (s t : State S) (n : ℕ) (a : Answer S) → Does K s (hand_in n) a t → TakesBack K s n t

  -- every day that is granted,
  abbrev pub EveryDayComes : Kind S → Type 0
  EveryDayComes K = (s t : State S) (d k : ℕ) → Does K s (day d) (number k) t → DayComes K s d t

  -- and every standing,
  abbrev pub EveryStandingJoins : Kind S → Type 0
  EveryStandingJoins K = (s : State S) (resource holder : ℕ) (x : S)
      → Does K s (standing resource holder) (share x) s → StandingJoins K s resource holder x

  -- which tells who may write.
  abbrev pub EveryStandingTells : Kind S → Type 0
  EveryStandingTells K = (s : State S) (resource holder : ℕ) (x : S) (may : Bool)
      → Does K s (standing resource holder) (share x) s → T may ↔ (x ≡ K.whole) → MayWrite K s resource holder may
