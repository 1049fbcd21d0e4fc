-- A layer over an office is an office.
use Rattle.std.proofs.Common.{◌≡◌, ℕ, ◌+◌, Bool, true, false, cond, not, eqb, leb, List, [], ◌∷◌, Some, None, Option, sym, refl, ap, ◌∙◌, arith}
use Rattle.std.specs.List.{list_any}
use mathlib.Core.Option as maybe
use lib.ListN.{get_elem?}
use Rattle.lending.specs.declared.lease.Lease.{Lease}
use Rattle.shares.specs.Kind.{Kind}
use Rattle.lending.specs.Office.{Refusal, State, issue, with_roll, with_today}
use Rattle.lending.specs.Outcome.{Call, Answer, Outcome, refused_at, unless, unless_objected, need_live, need_halves, tell_at}
use Rattle.lending.specs.Roll.{find, is_open, lends, change, with_holder}
use Rattle.lending.specs.Perform.{perform, Ends}
use Rattle.lending.specs.Limits.{within_range}
use Rattle.lending.specs.Calls.{numbers_out, rows_full, first_lease, bad_due_day, after_delegate, after_yield, unlike, after_merge, bad_day, due_by}
use Rattle.lending.specs.Office.Request.{opening, delegating, assigning}
use Rattle.lending.specs.Outcome.Call.{open_resource, delegate, yield, merge, assign, new_day, ask_lease_at, ask_lease, recall, day, standing, hand_in}
use Rattle.lending.specs.Outcome.Answer.{done, number, lease, refused}
use Rattle.lending.specs.Outcome.Outcome.{refuses, tells, grants}
use Rattle.lending.specs.Layers.{Own, deeper, layered, own_or_raised, raise, passed_up, Passes, LayerIsOffice}

-- an office one deeper refuses one level further up
one_up : (depth n : ℕ) → refused_at (depth + 1) n ≡ raise (refused_at depth n)
one_up depth n = ap (λ (l : ℕ). let r : Refusal = record { number = n; level = l } in r) (omega arith)

module _ {S : Type 0} where
  -- the five things, one level further up
  abbrev pub Lifted : State S → State S → Type 0
  Lifted u v = v.core ≡ deeper u.core

  -- the second outcome is the first, passed up
  pub data Up : Outcome S → Outcome S → Type 0 where
    up_refuses : {r r' : Refusal} → r' ≡ raise r → Up (refuses r) (refuses r')
    up_tells : {a b : Answer S} → b ≡ passed_up a → Up (tells a) (tells b)
    up_grants : {a b : Answer S} {u v : State S} → b ≡ passed_up a → Lifted u v → Up (grants a u) (grants b v)

  up_unless : (level : ℕ) (cs : List (Bool × ℕ)) (o p : Outcome S) → Up o p → Up (unless level cs o) (unless (level + 1) cs p)
  up_unless level [] o p h = h
  up_unless level (c ∷ cs) o p h = go c.0 (up_unless level cs o p h)
    where
      go : (b : Bool) → Up (unless level cs o) (unless (level + 1) cs p) → Up (cond b (refuses (refused_at level c.1)) (unless level cs o)) (cond b (refuses (refused_at (level + 1) c.1)) (unless (level + 1) cs p))
      go true k = up_refuses (one_up level c.1)
      go false k = k

  up_live : (level : ℕ) (o : Option (Lease S)) (f g : Lease S → Outcome S) → ((l : Lease S) → Up (f l) (g l)) → Up (need_live level o f) (need_live (level + 1) o g)
  up_live level None f g h = up_refuses (one_up level 6)
  up_live level (Some l) f g h = h l

  up_halves : (level : ℕ) (o : Option (S × S)) (f g : S → S → Outcome S) → ((a b : S) → Up (f a b) (g a b)) → Up (need_halves level o f) (need_halves (level + 1) o g)
  up_halves level None f g h = up_refuses (one_up level 8)
  up_halves level (Some p) f g h = h p.0 p.1

  up_objected : (mine : Option ℕ) (below : Option Refusal) (o p : Outcome S) → mine ≡ None → Up o p → Up (unless_objected below o) (unless_objected (own_or_raised mine below) p)
  up_objected None None o p e h = h
  up_objected None (Some r) o p e h = up_refuses refl
  up_objected (Some n) below o p e h = absurd (let z : ◌≡◌ {A = ℕ} 0 1 = cc in omega arith)

  up_at : (level : ℕ) (o : maybe.Option (Lease S)) → Up (tell_at level o) (tell_at (level + 1) o)
  up_at level maybe.none = up_refuses (one_up level 15)
  up_at level (maybe.some l) = up_tells refl

  ends_up : (mine : Own S) (s t : State S) (a : Answer S) {o p : Outcome S} → Up o p → Ends o s a t → Ends p (layered mine s) (passed_up a) (layered mine t)
  ends_up mine s t a (up_refuses {r = r} {r' = r'} e) x = (ap passed_up x.0 ∙ ap (λ (q : Refusal). refused q) (sym e), ap (layered mine) x.1)
  ends_up mine s t a (up_tells e) x = (ap passed_up x.0 ∙ sym e, ap (layered mine) x.1)
  ends_up mine s t a (up_grants {u = u} {v = v} e l) x = (
    ap passed_up x.0 ∙ sym e,
    ap deeper x.1 ∙ sym l,
  )

  module _ (K : Kind S) (mine : Own S) (s : State S) where
    abbrev over : State S
    over = layered mine s

    grown : (a : Answer S) (u v : State S) → a ≡ passed_up a → Lifted u v → Up (grants a u) (grants a v)
    grown a u v e l = up_grants e l

    up_open : (r h : ℕ) → mine.objects s.core.roll s.core.today (opening r h) ≡ None → Up (perform K s (open_resource r h)) (perform K over (open_resource r h))
    up_open r h e = up_objected (mine.objects s.core.roll s.core.today (opening r h)) (s.objections (opening r h)) (unless s.core.depth checks (grants (number (s.core.issued + 1)) u)) (unless (s.core.depth + 1) checks (grants (number (s.core.issued + 1)) v)) e
        (up_unless s.core.depth checks (grants (number (s.core.issued + 1)) u) (grants (number (s.core.issued + 1)) v) (grown (number (s.core.issued + 1)) u v refl refl))
      where
        checks : List (Bool × ℕ)
        checks = (not (within_range r), 1) ∷ (not (within_range h), 2) ∷ (is_open s.core.roll r, 3) ∷ (numbers_out s, 4) ∷ (rows_full s, 5) ∷ []

        u : State S
        u = issue (first_lease K (s.core.issued + 1) r h) s

        v : State S
        v = issue (first_lease K (s.core.issued + 1) r h) over

    up_delegate : (p h d : ℕ) → mine.objects s.core.roll s.core.today (delegating p h d) ≡ None → Up (perform K s (delegate p h d)) (perform K over (delegate p h d))
    up_delegate p h d e = up_objected (mine.objects s.core.roll s.core.today (delegating p h d)) (s.objections (delegating p h d)) (need_live s.core.depth (find s.core.roll p) (whole s)) (need_live (s.core.depth + 1) (find s.core.roll p) (whole over)) e
        (up_live s.core.depth (find s.core.roll p) (whole s) (whole over) (λ l.
        up_unless s.core.depth (checks₁ l) (need_halves s.core.depth (K.halve l.share) (halved s l)) (need_halves (s.core.depth + 1) (K.halve l.share) (halved over l))
        (up_halves s.core.depth (K.halve l.share) (halved s l) (halved over l) (λ kept lent.
        up_unless s.core.depth checks₂ (out s l kept lent) (out over l kept lent) (grown (number (s.core.issued + 1)) (after_delegate s l h d kept lent) (after_delegate over l h d kept lent) refl refl)))))
      where
        checks₁ : Lease S → List (Bool × ℕ)
        checks₁ l = (not (within_range h), 2) ∷ (bad_due_day s l d, 7) ∷ []

        checks₂ : List (Bool × ℕ)
        checks₂ = (numbers_out s, 4) ∷ (rows_full s, 5) ∷ []

        out : State S → Lease S → S → S → Outcome S
        out x l kept lent = grants (number (x.core.issued + 1)) (after_delegate x l h d kept lent)

        halved : State S → Lease S → S → S → Outcome S
        halved x l kept lent = unless x.core.depth checks₂ (out x l kept lent)

        whole : State S → Lease S → Outcome S
        whole x l = unless x.core.depth (checks₁ l) (need_halves x.core.depth (K.halve l.share) (halved x l))

    up_yield : (n : ℕ) → Up (perform K s (yield n)) (perform K over (yield n))
    up_yield n = up_live s.core.depth (find s.core.roll n) (out s) (out over) (λ l. up_unless s.core.depth checks (grants done (after_yield K s l)) (grants done (after_yield K over l)) (grown done (after_yield K s l) (after_yield K over l) refl refl))
      where
        checks : List (Bool × ℕ)
        checks = (lends s.core.roll n, 9) ∷ []

        out : State S → Lease S → Outcome S
        out x l = unless x.core.depth checks (grants done (after_yield K x l))

    up_merge : (a b : ℕ) → Up (perform K s (merge a b)) (perform K over (merge a b))
    up_merge a b = up_live s.core.depth (find s.core.roll a) (first s) (first over) (λ x. up_live s.core.depth (find s.core.roll b) (second s x) (second over x) (λ y.
        up_unless s.core.depth (checks x y) (grants done (after_merge K s x y)) (grants done (after_merge K over x y)) (grown done (after_merge K s x y) (after_merge K over x y) refl refl)))
      where
        checks : Lease S → Lease S → List (Bool × ℕ)
        checks x y = (leb b a, 10) ∷ (unlike x y, 11) ∷ []

        second : State S → Lease S → Lease S → Outcome S
        second z x y = unless z.core.depth (checks x y) (grants done (after_merge K z x y))

        first : State S → Lease S → Outcome S
        first z x = need_live z.core.depth (find s.core.roll b) (second z x)

    up_assign : (n h : ℕ) → mine.objects s.core.roll s.core.today (assigning n h) ≡ None → Up (perform K s (assign n h)) (perform K over (assign n h))
    up_assign n h e = up_objected (mine.objects s.core.roll s.core.today (assigning n h)) (s.objections (assigning n h)) (need_live s.core.depth (find s.core.roll n) (out s)) (need_live (s.core.depth + 1) (find s.core.roll n) (out over)) e
        (up_live s.core.depth (find s.core.roll n) (out s) (out over) (λ l. up_unless s.core.depth (checks l) (grants done (held s)) (grants done (held over)) (grown done (held s) (held over) refl refl)))
      where
        checks : Lease S → List (Bool × ℕ)
        checks l = (not (within_range h), 2) ∷ (eqb l.holder h, 12) ∷ []

        held : State S → State S
        held x = with_roll (change n (with_holder h) s.core.roll) x

        out : State S → Lease S → Outcome S
        out x l = unless x.core.depth (checks l) (grants done (held x))

    ups : (c : Call) → Passes (mine.objects s.core.roll s.core.today) c → Up (perform K s c) (perform K over c)
    ups (open_resource r h) e = up_open r h e
    ups (delegate p h d) e = up_delegate p h d e
    ups (yield n) e = up_yield n
    ups (merge a b) e = up_merge a b
    ups (assign n h) e = up_assign n h e
    ups (new_day d) e = up_unless s.core.depth ((bad_day s d, 13) ∷ (list_any (due_by d) s.core.roll, 14) ∷ []) (grants done (with_today d s)) (grants done (with_today d over)) (grown done (with_today d s) (with_today d over) refl refl)
    ups (ask_lease_at i) e = up_at s.core.depth (get_elem? s.core.roll i)
    ups (ask_lease n) e = up_live s.core.depth (find s.core.roll n) (λ l. tells (lease l)) (λ l. tells (lease l)) (λ l. up_tells refl)
    ups (recall n) e = elim e [ ]
    ups (day d) e = elim e [ ]
    ups (standing r h) e = elim e [ ]
    ups (hand_in n) e = elim e [ ]
    -- the other questions
    ups c e = up_tells refl

  pub layer_is_office : (K : Kind S) → LayerIsOffice K
  layer_is_office K mine s t c a e does = ends_up mine s t a (ups K mine s c e) does
