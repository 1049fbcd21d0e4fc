-- Lists of calls to an office: what each lease was lent, and what was closed by which calls.
use Rattle.std.specs.Prelude.{◌≡◌, ℕ, ◌+◌, if◌then◌else◌, not, ◌&&◌, List, [], ◌∷◌, Some, None, Option, ◌==◌}
use Rattle.shares.specs.Kind.{Kind, bind}
use Rattle.lending.specs.Office.{State, SetUp}
use Rattle.lending.specs.Roll.{find, live}
use Rattle.lending.specs.Outcome.{Call, Answer}
use Rattle.lending.specs.Outcome.Call.{open_resource, delegate, yield, merge, recall, day, hand_in}
use Rattle.lending.specs.Outcome.Answer.{done, number}
use Rattle.lending.specs.Perform.{Does}

-- One call of a list of calls, with the state that it came to and its answer.
pub record Moment (S : Type 0) : Type 0 where
  pub before : State S
  pub call : Call
  pub answer : Answer S

-- What a call closes leases by.
pub data Closing : Type 0 where
  by_yield by_merge by_recall by_day by_none : Closing

-- recalls and hand-ins close by recalls, and a call that is not named here closes nothing
abbrev pub closing : Call → Closing
closing (yield n) = by_yield
closing (merge a b) = by_merge
closing (recall n) = by_recall
closing (hand_in n) = by_recall
closing (day d) = by_day
closing c = by_none

module _ {S : Type 0} where
  -- A list of calls, the last one first, each made to the state that the one before it left, leads from start to t.
  abbrev pub Leads : Kind S → State S → List (Moment S) → State S → Type 0
  Leads K start [] t = t ≡ start
  Leads K start (m ∷ ms) t = Leads K start ms m.before × Does K m.before m.call m.answer t

  -- However s was reached: so it is of every list of calls that led to s from an office that was set up empty.
  abbrev pub HoweverReached : Kind S → State S → (List (Moment S) → Type 0) → Type 0
  HoweverReached K s Of = (start : State S) → SetUp start → (ms : List (Moment S)) → Leads K start ms s → Of ms

  -- of each state to which a call of the list came
  abbrev pub EachCameTo : (State S → Type 0) → List (Moment S) → Type 0
  EachCameTo Of [] = Unit {0}
  EachCameTo Of (m ∷ ms) = Of m.before × EachCameTo Of ms

  -- by the number that was answered; otherwise x
  abbrev pub if_number : {X : Type 0} → Answer S → (ℕ → X) → X → X
  if_number (number n) f x = f n
  if_number a f x = x

  -- y if the call was granted without an answer; otherwise x
  abbrev pub if_done : {X : Type 0} → Answer S → X → X → X
  if_done done y x = y
  if_done a y x = x

  -- the half that the lender of this number lends in this state
  abbrev pub half_lent : Kind S → State S → ℕ → Option S
  half_lent K s p = bind (find s.core.roll p) (λ l. bind (K.halve l.share) (λ h. Some h.1))

  -- both shares joined; None where there are not two, or where they don't join
  abbrev pub both_joined : Kind S → Option S → Option S → Option S
  both_joined K x y = bind x (λ a. bind y (λ b. K.join a b))

  -- What lease n was lent after the call, by what each lease was lent before it. A new lease was lent the whole or a
  -- half, and a lease into which another was merged was lent what both were. No other call changes what a lease was
  -- lent.
  abbrev pub lent_by : Kind S → State S → Call → Answer S → (ℕ → Option S) → ℕ → Option S
  lent_by K s (open_resource r h) answer earlier n =
      if_number answer (λ k. if k == n then Some K.whole else earlier n) (earlier n)
  lent_by K s (delegate p h d) answer earlier n =
      if_number answer (λ k. if k == n then half_lent K s p else earlier n) (earlier n)
  lent_by K s (merge a b) answer earlier n =
      if_done answer (if a == n then both_joined K (earlier a) (earlier b) else earlier n) (earlier n)
  lent_by K s c answer earlier n = earlier n

  -- What lease n was lent: the whole, or the half that delegate lent, joined with what each lease merged into it was
  -- lent.
  abbrev pub lent : Kind S → List (Moment S) → ℕ → Option S
  lent K [] n = None
  lent K (m ∷ ms) n = lent_by K m.before m.call m.answer (lent K ms) n

  -- what a call adds to a tally, by what it closes leases by
  abbrev pub tally : (yields merges recalls days : Answer S → ℕ) → Closing → Answer S → ℕ
  tally yields merges recalls days by_yield a = yields a
  tally yields merges recalls days by_merge a = merges a
  tally yields merges recalls days by_recall a = recalls a
  tally yields merges recalls days by_day a = days a
  tally yields merges recalls days by_none a = 0

  -- nothing
  abbrev pub none : Answer S → ℕ
  none a = 0

  -- a granted yield or merge closes one lease
  abbrev pub one_if_done : Answer S → ℕ
  one_if_done a = if_done a 1 0

  -- recall, day and hand-in answer how many they closed
  abbrev pub its_number : Answer S → ℕ
  its_number a = if_number a (λ n. n) 0

  -- a tally over a list of calls
  abbrev pub summed : (Closing → Answer S → ℕ) → List (Moment S) → ℕ
  summed f [] = 0
  summed f (m ∷ ms) = f (closing m.call) m.answer + summed f ms

  -- The four tallies: granted yields and merges, without the yields inside recall, day and hand-in; what recalls and
  -- hand-ins closed; and what days closed.
  abbrev pub yielded : List (Moment S) → ℕ
  yielded = summed (tally one_if_done none none none)

  abbrev pub merged : List (Moment S) → ℕ
  merged = summed (tally none one_if_done none none)

  abbrev pub recalled : List (Moment S) → ℕ
  recalled = summed (tally none none its_number none)

  abbrev pub lapsed : List (Moment S) → ℕ
  lapsed = summed (tally none none none its_number)

  -- 1 if lease n leaves the roll between s and t
  abbrev pub closed_between : State S → State S → ℕ → ℕ
  closed_between s t n = if live s.core.roll n && not (live t.core.roll n) then 1 else 0

  -- how often number n was closed in a list of calls that led to t
  abbrev pub closings : List (Moment S) → State S → ℕ → ℕ
  closings [] t n = 0
  closings (m ∷ ms) t n = closed_between m.before t n + closings ms m.before n
