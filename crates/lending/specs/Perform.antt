-- What each call does to an office.
use Rattle.std.specs.Prelude.{◌≡◌, length}
use Rattle.std.proofs.Math.ListN.{get_elem?}
use Rattle.std.specs.Option.{unwrap_or}
use Rattle.shares.specs.Kind.{Kind}
use Rattle.lending.specs.Office.{State}
use Rattle.lending.specs.Roll.{find}
use Rattle.lending.specs.Outcome.{Call, Answer, Outcome, need_live, tell_at}
use Rattle.lending.specs.Outcome.Call.{open_resource, delegate, yield, merge, assign, new_day}
use Rattle.lending.specs.Outcome.Call.{ask_count, ask_issued, ask_today, ask_lease_at, ask_lease}
use Rattle.lending.specs.Outcome.Call.{recall, day, standing, hand_in}
use Rattle.lending.specs.Outcome.Answer.{number, lease, share, refused}
use Rattle.lending.specs.Outcome.Outcome.{refuses, tells, grants}
use Rattle.lending.specs.Calls.{do_open, do_delegate, do_yield, do_merge, do_assign, do_set_day}
use Rattle.lending.specs.Above.{do_recall, do_day, standing_of, do_hand_in}

module _ {S : Type 0} where
  -- How a call to an office that stands for s ends, but that a granted call may change the objections too.
  abbrev pub perform : Kind S → State S → Call → Outcome S
  perform K s (open_resource resource holder) = do_open K s resource holder
  perform K s (delegate lender holder due) = do_delegate K s lender holder due
  perform K s (yield n) = do_yield K s n
  perform K s (merge a b) = do_merge K s a b
  perform K s (assign n holder) = do_assign s n holder
  perform K s (new_day d) = do_set_day s d
  perform K s ask_count = tells (number (length s.core.roll))
  perform K s ask_issued = tells (number s.core.issued)
  perform K s ask_today = tells (number s.core.today)
  perform K s (ask_lease_at i) = tell_at s.core.depth (get_elem? s.core.roll i)
  perform K s (ask_lease n) = need_live s.core.depth (find s.core.roll n) (λ l. tells (lease l))
  perform K s (recall n) = do_recall K s n
  perform K s (day d) = do_day K s d
  perform K s (standing resource holder) =
      tells (share (unwrap_or (standing_of K s.core.roll resource holder) K.empty))
  perform K s (hand_in n) = do_hand_in K s n

  -- A call that ends so gives the answer a and leaves t of s: after a granted call the objections may be any.
  abbrev pub Ends : Outcome S → State S → Answer S → State S → Type 0
  Ends (refuses r) s a t = (a ≡ refused r) × (t ≡ s)
  Ends (tells x) s a t = (a ≡ x) × (t ≡ s)
  Ends (grants x u) s a t = (a ≡ x) × (t.core ≡ u.core)

  -- An office that stands for s answers a to the call, and then stands for t.
  abbrev pub Does : Kind S → State S → Call → Answer S → State S → Type 0
  Does K s c a t = Ends (perform K s c) s a t
