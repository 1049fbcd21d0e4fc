-- What one call closes by its answer is bounded: its leases were live before it, and an office has few rows.
use Rattle.std.proofs.Common.{ℕ, ◌+◌, ◌≤◌, Bool, true, false, cond, not, eqb, ◌||◌, List, [], ◌∷◌, length, arith}
use Rattle.std.specs.List.{filter}
use Rattle.std.proofs.lemmas.List.{length-reverse, length-map}
use Rattle.std.proofs.lemmas.List.Sums.{length-filter, count_by-le-length}
use Rattle.shares.specs.Kind.{Kind}
use Rattle.lending.specs.declared.lease.Lease.{Lease}
use Rattle.lending.specs.Office.{State}
use Rattle.lending.specs.Roll.{live, family, under}
use Rattle.lending.specs.Outcome.{Call, Answer, Outcome, and_then, answering}
use Rattle.lending.specs.Outcome.Call.{open_resource, delegate, yield, merge, assign, new_day, ask_count, ask_issued, ask_today, ask_lease_at, ask_lease, recall, day, standing, hand_in}
use Rattle.lending.specs.Outcome.Answer.{done, number, lease, share, refused}
use Rattle.lending.specs.Outcome.Outcome.{refuses, tells, grants}
use Rattle.lending.specs.Calls.{do_set_day, bad_day, due_by}
use Rattle.lending.specs.Above.{yields, downward, recall_all}
use Rattle.lending.specs.Perform.{perform, Ends, Does}
use Rattle.lending.specs.History.{one_if_done, its_number}
use Rattle.lending.proofs.Idling.{Acts, acts_then, acts_yields, acts_day}
use Rattle.lending.proofs.Cases.{by_checks}
use Rattle.office.specs.Lawful.{Lawful}
use Rattle.calls.specs.declared.list.Tallies.{Tallies}
use Rattle.calls.specs.Lists.{all_closed, tallies_with}
use Rattle.replay.specs.Limits.{most_closed}

module _ {S : Type 0} (K : Kind S) where
  -- it answers a number of at most k, if it answers a number
  abbrev Most : ℕ → Outcome S → Type 0
  Most k (refuses r) = Unit {0}
  Most k (tells a) = its_number a ≤ k
  Most k (grants a u) = its_number a ≤ k

  most_answering : (j k : ℕ) (o : Outcome S) → Acts o → j ≤ k → Most k (answering (number j) o)
  most_answering j k (refuses r) a le = tt
  most_answering j k (tells b) a le = elim a [ ]
  most_answering j k (grants b u) a le = le

  -- the numbers of some leases of the roll are as few as the roll
  few_numbers : (p : Lease S → Bool) (roll : List (Lease S)) → length (downward (filter p roll)) ≤ length roll
  few_numbers p roll = simp (length-reverse, length-map, length-filter p) (count_by-le-length p roll)

  module _ (s : State S) where
    most_recalled : (n : ℕ) → Most (length s.core.roll) (recall_all K s n)
    most_recalled n = most_answering (length (downward (family s.core.roll n))) (length s.core.roll) (yields K s (downward (family s.core.roll n))) (acts_yields K s (downward (family s.core.roll n))) (few_numbers (λ l. eqb l.number n || under s.core.roll l.number n) s.core.roll)

    most_recall : (n : ℕ) → Most (length s.core.roll) (perform K s (recall n))
    most_recall n = by_checks (Most (length s.core.roll)) (λ q. tt) 0 ((not (live s.core.roll n), 6) ∷ []) (recall_all K s n) (λ f. most_recalled n)

    most_hand_in : (n : ℕ) → Most (length s.core.roll) (perform K s (hand_in n))
    most_hand_in n = go (live s.core.roll n)
      where
        go : (b : Bool) → Most (length s.core.roll) (cond b (recall_all K s n) (tells (number 0)))
        go true = most_recalled n
        go false = omega arith

    most_day : (d : ℕ) → Most (length s.core.roll) (perform K s (day d))
    most_day d = by_checks (Most (length s.core.roll)) (λ q. tt) 0 ((bad_day s d, 13) ∷ []) (answering (number (length ns)) (and_then (yields K s ns) (λ t. do_set_day t d))) (λ f. most_answering (length ns) (length s.core.roll) (and_then (yields K s ns) (λ t. do_set_day t d)) (acts_then (yields K s ns) (λ t. do_set_day t d) (acts_yields K s ns) (λ t. acts_day K t d)) (few_numbers (due_by d) s.core.roll))
      where
        ns : List ℕ
        ns = downward (filter (due_by d) s.core.roll)

  ends_with : (k : ℕ) (s t : State S) (a : Answer S) (o : Outcome S) → Most k o → Ends o s a t → its_number a ≤ k
  ends_with k s t a (refuses r) m e = rw e.0 (omega arith)
  ends_with k s t a (tells b) m e = rw e.0 m
  ends_with k s t a (grants b u) m e = rw e.0 m

  one_at_most : (a : Answer S) → one_if_done a ≤ 1
  one_at_most done = omega arith
  one_at_most (number n) = omega arith
  one_at_most (lease l) = omega arith
  one_at_most (share s) = omega arith
  one_at_most (refused r) = omega arith

  few_closed : (s t : State S) (c : Call) (a : Answer S) (tallies : Tallies) → Does K s c a t → length s.core.roll ≤ most_closed → all_closed (tallies_with tallies c a) ≤ all_closed tallies + most_closed
  few_closed s t (open_resource r h) a tallies does rows = omega arith
  few_closed s t (delegate p h d) a tallies does rows = omega arith
  few_closed s t (yield n) a tallies does rows = let one = one_at_most a in omega arith
  few_closed s t (merge x y) a tallies does rows = let one = one_at_most a in omega arith
  few_closed s t (assign n h) a tallies does rows = omega arith
  few_closed s t (new_day d) a tallies does rows = omega arith
  few_closed s t ask_count a tallies does rows = omega arith
  few_closed s t ask_issued a tallies does rows = omega arith
  few_closed s t ask_today a tallies does rows = omega arith
  few_closed s t (ask_lease_at i) a tallies does rows = omega arith
  few_closed s t (ask_lease n) a tallies does rows = omega arith
  few_closed s t (recall n) a tallies does rows = let k = ends_with (length s.core.roll) s t a (perform K s (recall n)) (most_recall s n) does in omega arith
  few_closed s t (day d) a tallies does rows = let k = ends_with (length s.core.roll) s t a (perform K s (day d)) (most_day s d) does in omega arith
  few_closed s t (standing r h) a tallies does rows = omega arith
  few_closed s t (hand_in n) a tallies does rows = let k = ends_with (length s.core.roll) s t a (perform K s (hand_in n)) (most_hand_in s n) does in omega arith

  pub few_more : (s t : State S) (rows : List (Lease S)) → Lawful s rows → (c : Call) (a : Answer S) (tallies : Tallies) → Does K s c a t → all_closed (tallies_with tallies c a) ≤ all_closed tallies + most_closed
  few_more s t rows law c a tallies does = few_closed s t c a tallies does (let fits = law.fits in let capacity = law.capacity in omega arith)
