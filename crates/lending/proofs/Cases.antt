-- Calls by cases: what every refusal has, and each outcome that checks let through, a call has.
use Rattle.std.proofs.Common.{◌≡◌, ℕ, ◌+◌, Bool, true, false, cond, not, ◌||◌, eqb, leb, List, [], ◌∷◌, length, Some, None, Option, sym, refl, subst, subst₂, arith}
use Rattle.std.specs.List.{filter, list_any}
use Rattle.std.proofs.lemmas.Bool.{eqb-true, eqb-false, or_parts, not-false}
use mathlib.Core.Option as maybe
use lib.ListN.{get_elem?}
use Rattle.lending.specs.declared.lease.Lease.{Lease}
use Rattle.shares.specs.Kind.{Kind}
use Rattle.lending.specs.Office.{Core, Refusal, State, issue, with_roll, with_today}
use Rattle.lending.specs.Office.Request.{opening, delegating, assigning}
use Rattle.lending.specs.Limits.{within_range}
use Rattle.lending.specs.Roll.{find, live, family, change, lends, is_open, with_holder}
use Rattle.lending.specs.Outcome.{Answer, Outcome, refused_at, unless, unless_objected, need_live, need_halves, tell_at, and_then, answering}
use Rattle.lending.specs.Outcome.Answer.{done, number, lease, refused}
use Rattle.lending.specs.Outcome.Outcome.{refuses, tells, grants}
use Rattle.lending.specs.Calls.{do_open, do_delegate, do_yield, do_merge, do_assign, do_set_day, first_lease, after_delegate, after_yield, after_merge, bad_due_day, unlike, numbers_out, rows_full, bad_day, due_by}
use Rattle.lending.specs.Perform.{Ends}
use Rattle.lending.specs.Above.{yields, downward, recall_all, do_recall, do_hand_in, do_day}

-- what a call answers and leaves
module _ {S : Type 0} (R : Answer S → Core S → Type 0) (s : State S) where
  abbrev pub IsLeft : Outcome S → Type 0
  IsLeft (refuses r) = R (refused r) s.core
  IsLeft (tells a) = R a s.core
  IsLeft (grants a u) = R a u.core

  pub record Leaves (o : Outcome S) : Type 0 where
    pub is : IsLeft o

  pub left : (o : Outcome S) → Leaves o → (a : Answer S) (t : State S) → Ends o s a t → R a t.core
  left (refuses r) h a t e = subst₂ (λ (x : Answer S) (u : State S). R x u.core) (sym e.0) (sym e.1) h.is
  left (tells x) h a t e = subst₂ (λ (y : Answer S) (u : State S). R y u.core) (sym e.0) (sym e.1) h.is
  left (grants x u) h a t e = subst₂ R (sym e.0) (sym e.1) h.is

-- two leases that merge
pub alike : {S : Type 0} (x y : Lease S) → unlike x y ≡ false → (x.lender ≡ y.lender) × (x.lender ≡ 0 → ⊥) × (x.due ≡ y.due)
alike x y e =
    let p₁ = or_parts (not (eqb x.lender y.lender)) (eqb x.lender 0 || (not (eqb x.holder y.holder) || not (eqb x.due y.due))) e in
    let p₂ = or_parts (eqb x.lender 0) (not (eqb x.holder y.holder) || not (eqb x.due y.due)) p₁.1 in
    let p₃ = or_parts (not (eqb x.holder y.holder)) (not (eqb x.due y.due)) p₂.1 in (
      eqb-true x.lender y.lender (not-false (eqb x.lender y.lender) p₁.0),
      eqb-false x.lender 0 p₂.0,
      eqb-true x.due y.due (not-false (eqb x.due y.due) p₃.1),
    )

-- no check fails
abbrev pub Passed : List (Bool × ℕ) → Type 0
Passed [] = Unit {0}
Passed (c ∷ cs) = (c.0 ≡ false) × Passed cs

-- A property of outcomes that every refusal has.
module _ {S : Type 0} (P : Outcome S → Type 0) (base : (r : Refusal) → P (refuses r)) where
  by_objection : (o : Option Refusal) (k : Outcome S) → P k → P (unless_objected o k)
  by_objection None k p = p
  by_objection (Some r) k p = base r

  by_live : (level : ℕ) (o : Option (Lease S)) (f : Lease S → Outcome S) → ((l : Lease S) → o ≡ Some l → P (f l)) → P (need_live level o f)
  by_live level None f h = base (refused_at level 6)
  by_live level (Some l) f h = h l refl

  by_halves : (level : ℕ) (o : Option (S × S)) (f : S → S → Outcome S) → ((a b : S) → o ≡ Some (a, b) → P (f a b)) → P (need_halves level o f)
  by_halves level None f h = base (refused_at level 8)
  by_halves level (Some p) f h = h p.0 p.1 refl

  pub by_checks : (level : ℕ) (cs : List (Bool × ℕ)) (k : Outcome S) → (Passed cs → P k) → P (unless level cs k)
  by_checks level [] k h = h tt
  by_checks level (c ∷ cs) k h = go c.0 refl (λ f. by_checks level cs k f)
    where
      go : (b : Bool) → c.0 ≡ b → ((Passed cs → P k) → P (unless level cs k)) → P (cond b (refuses (refused_at level c.1)) (unless level cs k))
      go true e below = base (refused_at level c.1)
      go false e below = below (λ f. h (e, f))

  module _ (K : Kind S) (s : State S) where
    pub open_case : (r h : ℕ) → (is_open s.core.roll r ≡ false → P (grants (number (s.core.issued + 1)) (issue (first_lease K (s.core.issued + 1) r h) s))) → P (do_open K s r h)
    open_case r h granted = by_objection (s.objections (opening r h)) (unless s.core.depth checks out) (by_checks s.core.depth checks out (λ f. granted f.1.1.0))
      where
        out : Outcome S
        out = grants (number (s.core.issued + 1)) (issue (first_lease K (s.core.issued + 1) r h) s)

        checks : List (Bool × ℕ)
        checks = (not (within_range r), 1) ∷ (not (within_range h), 2) ∷ (is_open s.core.roll r, 3) ∷ (numbers_out s, 4) ∷ (rows_full s, 5) ∷ []

    pub delegate_case : (p h d : ℕ) → ((l : Lease S) → find s.core.roll p ≡ Some l → bad_due_day s l d ≡ false → (kept lent : S) → K.halve l.share ≡ Some (kept, lent) → P (grants (number (s.core.issued + 1)) (after_delegate s l h d kept lent))) → P (do_delegate K s p h d)
    delegate_case p h d granted = by_objection (s.objections (delegating p h d)) (need_live s.core.depth (find s.core.roll p) lender) (by_live s.core.depth (find s.core.roll p) lender
        (λ l found. by_checks s.core.depth (checks l) (need_halves s.core.depth (K.halve l.share) (halves l))
        (λ f. by_halves s.core.depth (K.halve l.share) (halves l)
        (λ kept lent cut. by_checks s.core.depth room (out l kept lent) (λ g. granted l found f.1.0 kept lent cut)))))
      where
        out : Lease S → S → S → Outcome S
        out l kept lent = grants (number (s.core.issued + 1)) (after_delegate s l h d kept lent)

        room : List (Bool × ℕ)
        room = (numbers_out s, 4) ∷ (rows_full s, 5) ∷ []

        halves : Lease S → S → S → Outcome S
        halves l kept lent = unless s.core.depth room (out l kept lent)

        checks : Lease S → List (Bool × ℕ)
        checks l = (not (within_range h), 2) ∷ (bad_due_day s l d, 7) ∷ []

        lender : Lease S → Outcome S
        lender l = unless s.core.depth (checks l) (need_halves s.core.depth (K.halve l.share) (halves l))

    pub yield_case : (n : ℕ) → ((l : Lease S) → find s.core.roll n ≡ Some l → lends s.core.roll n ≡ false → P (grants done (after_yield K s l))) → P (do_yield K s n)
    yield_case n granted = by_live s.core.depth (find s.core.roll n) (λ l. unless s.core.depth checks (grants done (after_yield K s l))) (λ l found. by_checks s.core.depth checks (grants done (after_yield K s l)) (λ f. granted l found f.0))
      where
        checks : List (Bool × ℕ)
        checks = (lends s.core.roll n, 9) ∷ []

    pub merge_case : (a b : ℕ) → ((x y : Lease S) → find s.core.roll a ≡ Some x → find s.core.roll b ≡ Some y → leb b a ≡ false → unlike x y ≡ false → P (grants done (after_merge K s x y))) → P (do_merge K s a b)
    merge_case a b granted = by_live s.core.depth (find s.core.roll a) first (λ x fx. by_live s.core.depth (find s.core.roll b) (second x) (λ y fy. by_checks s.core.depth (checks x y) (grants done (after_merge K s x y)) (λ f. granted x y fx fy f.0 f.1.0)))
      where
        checks : Lease S → Lease S → List (Bool × ℕ)
        checks x y = (leb b a, 10) ∷ (unlike x y, 11) ∷ []

        second : Lease S → Lease S → Outcome S
        second x y = unless s.core.depth (checks x y) (grants done (after_merge K s x y))

        first : Lease S → Outcome S
        first x = need_live s.core.depth (find s.core.roll b) (second x)

  module _ (s : State S) where
    pub assign_case : (n h : ℕ) → P (grants done (with_roll (change n (with_holder h) s.core.roll) s)) → P (do_assign s n h)
    assign_case n h granted = by_objection (s.objections (assigning n h)) (need_live s.core.depth (find s.core.roll n) found) (by_live s.core.depth (find s.core.roll n) found (λ l f. by_checks s.core.depth (checks l) out (λ g. granted)))
      where
        out : Outcome S
        out = grants done (with_roll (change n (with_holder h) s.core.roll) s)

        checks : Lease S → List (Bool × ℕ)
        checks l = (not (within_range h), 2) ∷ (eqb l.holder h, 12) ∷ []

        found : Lease S → Outcome S
        found l = unless s.core.depth (checks l) out

    pub set_day_case : (d : ℕ) → P (grants done (with_today d s)) → P (do_set_day s d)
    set_day_case d granted = by_checks s.core.depth ((bad_day s d, 13) ∷ (list_any (due_by d) s.core.roll, 14) ∷ []) (grants done (with_today d s)) (λ f. granted)

    pub lease_at_case : (i : ℕ) → ((l : Lease S) → P (tells (lease l))) → P (tell_at s.core.depth (get_elem? s.core.roll i))
    lease_at_case i told = go (get_elem? s.core.roll i)
      where
        go : (o : maybe.Option (Lease S)) → P (tell_at s.core.depth o)
        go maybe.none = base (refused_at s.core.depth 15)
        go (maybe.some l) = told l

    pub lease_case : (n : ℕ) → ((l : Lease S) → P (tells (lease l))) → P (need_live s.core.depth (find s.core.roll n) (λ l. tells (lease l)))
    lease_case n told = by_live s.core.depth (find s.core.roll n) (λ l. tells (lease l)) (λ l e. told l)

-- Yields, one after another, each of which brings a property along: Q k says it after k yields.
module _ {S : Type 0} (K : Kind S) (Q : ℕ → State S → Type 0) (more : (k : ℕ) (t : State S) → Q k t → (n : ℕ) (l : Lease S) → find t.core.roll n ≡ Some l → lends t.core.roll n ≡ false → Q (k + 1) (after_yield K t l)) where
  abbrev IsYielded : ℕ → Outcome S → Type 0
  IsYielded k (refuses r) = Unit {0}
  IsYielded k (tells a) = ⊥
  IsYielded k (grants a u) = Q k u

  record Yielded (k : ℕ) (o : Outcome S) : Type 0 where
    is : IsYielded k o

  yielded : (ns : List ℕ) (k j : ℕ) → k + length ns ≡ j → (t : State S) → Q k t → Yielded j (yields K t ns)
  yielded [] k j e t q = let same : k ≡ j = omega arith in record { is = subst (λ (i : ℕ). Q i t) same q }
  yielded (n ∷ ns) k j e t q = go (do_yield K t n) (yield_case (Yielded (k + 1)) (λ r. record { is = tt }) K t n (λ l found none. record { is = more k t q n l found none })) (λ u p. yielded ns (k + 1) j (omega arith) u p)
    where
      go : (o : Outcome S) → Yielded (k + 1) o → ((u : State S) → Q (k + 1) u → Yielded j (yields K u ns)) → Yielded j (and_then o (λ u. yields K u ns))
      go (refuses r) y rest = record { is = tt }
      go (tells a) y rest = absurd y.is
      go (grants a u) y rest = rest u y.is

  swept : (P : Outcome S → Type 0) → ((r : Refusal) → P (refuses r)) → (s : State S) → Q 0 s → (ns : List ℕ) (f : State S → Outcome S) → ((u : State S) → Q (length ns) u → P (f u)) → P (and_then (yields K s ns) f)
  swept P base s start ns f h = go (yields K s ns) (yielded ns 0 (length ns) (omega arith) s start)
    where
      go : (o : Outcome S) → Yielded (length ns) o → P (and_then o f)
      go (refuses r) y = base r
      go (tells a) y = absurd y.is
      go (grants a u) y = h u y.is

  module _ (P : Outcome S → Type 0) (base : (r : Refusal) → P (refuses r)) (s : State S) (start : Q 0 s) where
    module _ (n : ℕ) where
      abbrev ns : List ℕ
      ns = downward (family s.core.roll n)

      recall_all_case : ((u : State S) → Q (length ns) u → P (grants (number (length ns)) u)) → P (recall_all K s n)
      recall_all_case granted = swept P base s start ns (grants (number (length ns))) granted

      pub recall_case : ((u : State S) → Q (length ns) u → P (grants (number (length ns)) u)) → P (do_recall K s n)
      recall_case granted = by_checks P base 0 ((not (live s.core.roll n), 6) ∷ []) (recall_all K s n) (λ f. recall_all_case granted)

      pub hand_in_case : ((u : State S) → Q (length ns) u → P (grants (number (length ns)) u)) → P (tells (number 0)) → P (do_hand_in K s n)
      hand_in_case granted told = go (live s.core.roll n)
        where
          go : (b : Bool) → P (cond b (recall_all K s n) (tells (number 0)))
          go true = recall_all_case granted
          go false = told

    pub day_case : (d : ℕ) → ((u : State S) → Q (length (downward (filter (due_by d) s.core.roll))) u → P (grants (number (length (downward (filter (due_by d) s.core.roll)))) (with_today d u))) → P (do_day K s d)
    day_case d granted = by_checks P base 0 ((bad_day s d, 13) ∷ []) (answering (number (length ns)) (and_then (yields K s ns) (λ u. do_set_day u d)))
        (λ f. swept Answered base s start ns (λ u. do_set_day u d) (λ u q. set_day_case Answered base u d (granted u q)))
      where
        ns : List ℕ
        ns = downward (filter (due_by d) s.core.roll)

        Answered : Outcome S → Type 0
        Answered o = P (answering (number (length ns)) o)
