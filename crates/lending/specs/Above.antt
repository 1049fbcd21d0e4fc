-- What the calls do that stand over any office. They refuse at level 0.
use Rattle.std.specs.Prelude.{ℕ, if◌then◌else◌, not, List, [], ◌∷◌, map, reverse, length, Option}
use Rattle.std.specs.List.{filter}
use Rattle.shares.specs.Kind.{Kind}
use Rattle.shares.specs.Joins.{together}
use Rattle.lending.specs.declared.lease.Lease.{Lease}
use Rattle.lending.specs.Office.{State}
use Rattle.lending.specs.Roll.{live, family, shares_of}
use Rattle.lending.specs.Outcome.{Outcome, unless, and_then, answering}
use Rattle.lending.specs.Outcome.Answer.{done, number}
use Rattle.lending.specs.Outcome.Outcome.{tells, grants}
use Rattle.lending.specs.Calls.{do_yield, do_set_day, bad_day, due_by}

module _ {S : Type 0} where
  -- one yield after another
  abbrev pub yields : Kind S → State S → List ℕ → Outcome S
  yields K s [] = grants done s
  yields K s (n ∷ ns) = and_then (do_yield K s n) (λ t. yields K t ns)

  -- the numbers of some leases of the roll from the highest down
  abbrev pub downward : List (Lease S) → List ℕ
  downward ls = reverse (map (λ l. l.number) ls)

  -- yields the lease and all under it from the highest number down, and answers how many
  abbrev pub recall_all : Kind S → State S → ℕ → Outcome S
  recall_all K s n = let ns = downward (family s.core.roll n) in answering (number (length ns)) (yields K s ns)

  -- the same, or the refusal of a lease that is not live
  abbrev pub do_recall : Kind S → State S → ℕ → Outcome S
  do_recall K s n = unless 0 ((not (live s.core.roll n), 6) ∷ []) (recall_all K s n)

  -- yields every lease due by the day from the highest number down, then sets the day, and answers how many it closed;
  -- a bad day is refused before any yield
  abbrev pub do_day : Kind S → State S → ℕ → Outcome S
  do_day K s d =
      let ns = downward (filter (due_by d) s.core.roll) in
      unless 0 ((bad_day s d, 13) ∷ [])
      (answering (number (length ns)) (and_then (yields K s ns) (λ t. do_set_day t d)))

  -- the join of a holder's shares of a resource
  abbrev pub standing_of : Kind S → List (Lease S) → ℕ → ℕ → Option S
  standing_of K roll resource holder = together K (shares_of roll resource holder)

  -- a slip for a live lease recalls it, any other does nothing
  abbrev pub do_hand_in : Kind S → State S → ℕ → Outcome S
  do_hand_in K s n = if live s.core.roll n then recall_all K s n else tells (number 0)
