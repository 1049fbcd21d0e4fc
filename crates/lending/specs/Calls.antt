-- What the calls of every office do.
use Rattle.std.specs.Prelude.{ℕ, ◌+◌, Bool, not, ◌||◌, [], ◌∷◌, length, ◌==◌, nat_le, nat_lt}
use Rattle.std.specs.List.{list_any}
use Rattle.shares.specs.Kind.{Kind}
use Rattle.lending.specs.declared.lease.Lease.{Lease}
use Rattle.lending.specs.Limits.{within_range, last_day, never, last_number}
use Rattle.lending.specs.Office.{State, with_roll, with_today, issue}
use Rattle.lending.specs.Office.Request.{opening, delegating, assigning}
use Rattle.lending.specs.Roll.{find, is_open, lends, with_share, with_holder, change, close, relend, plus, gaining}
use Rattle.lending.specs.Outcome.{Outcome, unless, unless_objected, need_live, need_halves}
use Rattle.lending.specs.Outcome.Answer.{done, number}
use Rattle.lending.specs.Outcome.Outcome.{grants}

module _ {S : Type 0} where
  -- every number is issued
  abbrev pub numbers_out : State S → Bool
  numbers_out s = s.core.issued == last_number

  -- the live leases fill the rows
  abbrev pub rows_full : State S → Bool
  rows_full s = length s.core.roll == s.core.capacity

  -- the house lends the whole
  abbrev pub first_lease : Kind S → ℕ → ℕ → ℕ → Lease S
  first_lease K n resource holder =
      record { number = n; resource = resource; holder = holder; lender = 0; due = never; share = K.whole }

  -- the lender p lends one half of its share
  abbrev pub lent_lease : ℕ → Lease S → ℕ → ℕ → S → Lease S
  lent_lease n p holder due lent =
      record { number = n; resource = p.resource; holder = holder; lender = p.number; due = due; share = lent }

  -- opens a resource: a new lease with the whole
  abbrev pub do_open : Kind S → State S → ℕ → ℕ → Outcome S
  do_open K s resource holder =
      unless_objected (s.objections (opening resource holder))
      (unless s.core.depth
      ((not (within_range resource), 1)
      ∷ (not (within_range holder), 2)
      ∷ (is_open s.core.roll resource, 3)
      ∷ (numbers_out s, 4)
      ∷ (rows_full s, 5) ∷ [])
      (grants (number (s.core.issued + 1)) (issue (first_lease K (s.core.issued + 1) resource holder) s)))

  -- the due day is not after today, or is after the lender's or the last day
  abbrev pub bad_due_day : State S → Lease S → ℕ → Bool
  bad_due_day s p due = nat_le due s.core.today || (nat_lt p.due due || nat_lt last_day due)

  -- the lender p keeps the one half, and the next number gets the other
  abbrev pub after_delegate : State S → Lease S → ℕ → ℕ → S → S → State S
  after_delegate s p holder due kept lent =
      issue (lent_lease (s.core.issued + 1) p holder due lent)
      (with_roll (change p.number (with_share kept) s.core.roll) s)

  -- lends a half: the lender's share is halved
  abbrev pub do_delegate : Kind S → State S → ℕ → ℕ → ℕ → Outcome S
  do_delegate K s lender holder due =
      unless_objected (s.objections (delegating lender holder due))
      (need_live s.core.depth (find s.core.roll lender) (λ p.
      unless s.core.depth ((not (within_range holder), 2) ∷ (bad_due_day s p due, 7) ∷ [])
      (need_halves s.core.depth (K.halve p.share) (λ kept lent.
      unless s.core.depth ((numbers_out s, 4) ∷ (rows_full s, 5) ∷ [])
      (grants (number (s.core.issued + 1)) (after_delegate s p holder due kept lent))))))

  -- the lease is closed, and its share joins its lender's; a first lease goes back to the house
  abbrev pub after_yield : Kind S → State S → Lease S → State S
  after_yield K s l = with_roll (change l.lender (gaining K l.share) (close l.number s.core.roll)) s

  -- gives a lease back
  abbrev pub do_yield : Kind S → State S → ℕ → Outcome S
  do_yield K s n =
      need_live s.core.depth (find s.core.roll n) (λ l.
      unless s.core.depth ((lends s.core.roll n, 9) ∷ [])
      (grants done (after_yield K s l)))

  -- b is closed, a gets both shares and lends what b lent
  abbrev pub after_merge : Kind S → State S → Lease S → Lease S → State S
  after_merge K s a b =
      let joined = change a.number (with_share (plus K a.share b.share)) (close b.number s.core.roll) in
      with_roll (relend a.number b.number joined) s

  -- the lenders differ or are the house, or the holders or the due days differ
  abbrev pub unlike : Lease S → Lease S → Bool
  unlike a b = not (a.lender == b.lender) || (a.lender == 0 || (not (a.holder == b.holder) || not (a.due == b.due)))

  -- makes two leases of one lender one
  abbrev pub do_merge : Kind S → State S → ℕ → ℕ → Outcome S
  do_merge K s a b =
      need_live s.core.depth (find s.core.roll a) (λ x.
      need_live s.core.depth (find s.core.roll b) (λ y.
      unless s.core.depth ((nat_le b a, 10) ∷ (unlike x y, 11) ∷ [])
      (grants done (after_merge K s x y))))

  -- gives a lease another holder
  abbrev pub do_assign : State S → ℕ → ℕ → Outcome S
  do_assign s n holder =
      unless_objected (s.objections (assigning n holder))
      (need_live s.core.depth (find s.core.roll n) (λ l.
      unless s.core.depth ((not (within_range holder), 2) ∷ ((l.holder == holder), 12) ∷ [])
      (grants done (with_roll (change n (with_holder holder) s.core.roll) s))))

  -- the day is before today or after the last day
  abbrev pub bad_day : State S → ℕ → Bool
  bad_day s d = nat_lt d s.core.today || nat_lt last_day d

  -- the lease falls due on the day or before it
  abbrev pub due_by : ℕ → Lease S → Bool
  due_by d l = nat_le l.due d

  -- sets today
  abbrev pub do_set_day : State S → ℕ → Outcome S
  do_set_day s d =
      unless s.core.depth ((bad_day s d, 13) ∷ (list_any (due_by d) s.core.roll, 14) ∷ [])
      (grants done (with_today d s))
