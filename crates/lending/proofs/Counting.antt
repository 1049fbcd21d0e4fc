-- The leases that calls close by their answers were live when the calls began, or were issued by them, and are live no more.
-- It is so of every state, also of one that no calls reach.
use Rattle.std.proofs.Common.{◌≡◌, ℕ, ◌+◌, ◌≤◌, Bool, true, false, cond, not, eqb, List, [], ◌∷◌, length, Some, sym, refl, ap, subst, arith, length-append}
use lib.ListN.{length-map}
use Rattle.lending.specs.declared.lease.Lease.{Lease}
use Rattle.shares.specs.Kind.{Kind}
use Rattle.lending.specs.Office.{State}
use Rattle.lending.specs.Outcome.{Call, Answer, Outcome}
use Rattle.lending.specs.Roll.{find, change, close, lends, with_share, with_holder, plus, gaining}
use Rattle.lending.specs.Calls.{first_lease, lent_lease, after_yield}
use Rattle.lending.specs.Perform.{perform, Does}
use Rattle.lending.specs.History.{Moment, Leads, yielded, merged, recalled, lapsed}
use Rattle.lending.specs.Outcome.Call.{open_resource, delegate, yield, merge, assign, new_day, ask_lease_at, ask_lease, recall, day, hand_in}
use Rattle.lending.proofs.Rolls.{find_in}
use Rattle.lending.proofs.Merging.{relent}
use Rattle.lending.proofs.Cases.{Leaves, left, open_case, delegate_case, yield_case, merge_case, assign_case, set_day_case, lease_at_case, lease_case, recall_case, hand_in_case, day_case}
use Rattle.lending.proofs.Steps.{closes}

module _ {S : Type 0} where
  no_longer : (ls : List (Lease S)) (n : ℕ) → length (close n ls) ≤ length ls
  no_longer [] n = omega arith
  no_longer (x ∷ xs) n = go (not (eqb x.number n)) (no_longer xs n)
    where
      go : (b : Bool) → length (close n xs) ≤ length xs → length (cond b (x ∷ close n xs) (close n xs)) ≤ length (x ∷ xs)
      go true h = omega arith
      go false h = omega arith

  -- a live lease that is closed is one less at least
  one_less : (ls : List (Lease S)) (n : ℕ) (l : Lease S) → find ls n ≡ Some l → length (close n ls) + 1 ≤ length ls
  one_less [] n l e = cc
  one_less (x ∷ xs) n l e = go (eqb x.number n) e (one_less xs n l)
    where
      go : (b : Bool) → cond b (Some x) (find xs n) ≡ Some l → (find xs n ≡ Some l → length (close n xs) + 1 ≤ length xs) → length (cond (not b) (x ∷ close n xs) (close n xs)) + 1 ≤ length (x ∷ xs)
      go true f below = let h = no_longer xs n in omega arith
      go false f below = let h = below f in omega arith

  closed : (ls : List (Lease S)) (n : ℕ) (l : Lease S) → find ls n ≡ Some l → length (close l.number ls) + 1 ≤ length ls
  closed ls n l e = subst (λ (k : ℕ). length (close k ls) + 1 ≤ length ls) (sym (find_in ls n l e).1) (one_less ls n l e)

module _ {S : Type 0} (K : Kind S) where
  -- the k leases that were closed from s on, with those live now, are no more than those live then and those issued since
  abbrev pub Counts : State S → ℕ → List (Lease S) → ℕ → Type 0
  Counts s k roll issued = k + length roll + s.core.issued ≤ length s.core.roll + issued

  abbrev Counted : State S → Call → Outcome S → Type 0
  Counted s c o = Leaves (λ a k. Counts s (closes c a) k.roll k.issued) s o

  module _ (s : State S) where
    -- what k yields from s on leave: k leases fewer
    abbrev Fewer : ℕ → State S → Type 0
    Fewer k u = (u.core.issued ≡ s.core.issued) × (length u.core.roll + k ≤ length s.core.roll)

    one_more : (k : ℕ) (t : State S) → Fewer k t → (n : ℕ) (l : Lease S) → find t.core.roll n ≡ Some l → lends t.core.roll n ≡ false → Fewer (k + 1) (after_yield K t l)
    one_more k t y n l found e =
        let len = length-map (close l.number t.core.roll) (λ x. cond (eqb x.number l.lender) (gaining K l.share x) x) in
        let c = closed t.core.roll n l found in
        let f = y.1 in
        (y.0, omega arith)

    none_yet : Fewer 0 s
    none_yet = (refl, omega arith)

    counted_open : (r h : ℕ) → Counted s (open_resource r h) (perform K s (open_resource r h))
    counted_open r h = open_case (Counted s (open_resource r h)) (λ q. record { is = omega arith }) K s r h
        (λ e. let len = length-append s.core.roll (first_lease K (s.core.issued + 1) r h ∷ []) in record { is = omega arith })

    counted_delegate : (p h d : ℕ) → Counted s (delegate p h d) (perform K s (delegate p h d))
    counted_delegate p h d = delegate_case (Counted s (delegate p h d)) (λ q. record { is = omega arith }) K s p h d (λ l found e kept lent cut.
        let same = length-map s.core.roll (λ x. cond (eqb x.number l.number) (with_share kept x) x) in
        let len = length-append (change l.number (with_share kept) s.core.roll) (lent_lease (s.core.issued + 1) l h d lent ∷ []) in
        record { is = omega arith })

    counted_yield : (n : ℕ) → Counted s (yield n) (perform K s (yield n))
    counted_yield n = yield_case (Counted s (yield n)) (λ q. record { is = omega arith }) K s n
        (λ l found e. let y = (one_more 0 s none_yet n l found e).1 in record { is = omega arith })

    counted_merge : (a b : ℕ) → Counted s (merge a b) (perform K s (merge a b))
    counted_merge a b = merge_case (Counted s (merge a b)) (λ q. record { is = omega arith }) K s a b (λ x y fx fy e₁ e₂.
        let len₁ = length-map (change x.number (with_share (plus K x.share y.share)) (close y.number s.core.roll)) (relent x.number y.number) in
        let len₂ = length-map (close y.number s.core.roll) (λ z. cond (eqb z.number x.number) (with_share (plus K x.share y.share) z) z) in
        let c = closed s.core.roll b y fy in
        record { is = omega arith })

    counted_assign : (n h : ℕ) → Counted s (assign n h) (perform K s (assign n h))
    counted_assign n h = assign_case (Counted s (assign n h)) (λ q. record { is = omega arith }) s n h
        (let len = length-map s.core.roll (λ x. cond (eqb x.number n) (with_holder h x) x) in record { is = omega arith })

    counted : (c : Call) → Counted s c (perform K s c)
    counted (open_resource r h) = counted_open r h
    counted (delegate p h d) = counted_delegate p h d
    counted (yield n) = counted_yield n
    counted (merge a b) = counted_merge a b
    counted (assign n h) = counted_assign n h
    counted (new_day d) = set_day_case (Counted s (new_day d)) (λ q. record { is = omega arith }) s d (record { is = omega arith })
    counted (ask_lease_at i) = lease_at_case (Counted s (ask_lease_at i)) (λ q. record { is = omega arith }) s i (λ l. record { is = omega arith })
    counted (ask_lease n) = lease_case (Counted s (ask_lease n)) (λ q. record { is = omega arith }) s n (λ l. record { is = omega arith })
    counted (recall n) = recall_case K Fewer one_more (Counted s (recall n)) (λ q. record { is = omega arith }) s none_yet n
        (λ u y. let i = y.0 in let c = y.1 in record { is = omega arith })
    counted (hand_in n) = hand_in_case K Fewer one_more (Counted s (hand_in n)) (λ q. record { is = omega arith }) s none_yet n
        (λ u y. let i = y.0 in let c = y.1 in record { is = omega arith })
        (record { is = omega arith })
    counted (day d) = day_case K Fewer one_more (Counted s (day d)) (λ q. record { is = omega arith }) s none_yet d
        (λ u y. let i = y.0 in let c = y.1 in record { is = omega arith })
    -- the other questions
    counted c = record { is = omega arith }

  -- every call
  pub call_counts : (s : State S) (c : Call) (a : Answer S) (t : State S) → Does K s c a t → Counts s (closes c a) t.core.roll t.core.issued
  call_counts s c a t does = left (λ x k. Counts s (closes c x) k.roll k.issued) s (perform K s c) (counted s c) a t does

  -- every list of calls
  pub list_counts : (s t : State S) (ms : List (Moment S)) → Leads K s ms t → Counts s (yielded ms + merged ms + recalled ms + lapsed ms) t.core.roll t.core.issued
  list_counts s t [] e = let same = ap (λ (u : State S). length u.core.roll) e in let i = ap (λ (u : State S). u.core.issued) e in omega arith
  list_counts s t (m ∷ ms) e = let h = list_counts s m.before ms e.0 in let c = call_counts m.before m.call m.answer t e.1 in omega arith
