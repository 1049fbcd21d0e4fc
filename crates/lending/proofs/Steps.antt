-- Every call keeps the invariant, and closes as many leases as it answers.
use Rattle.std.proofs.Common.{◌≡◌, ℕ, ◌+◌, ◌<◌, ◌≤◌, false, cond, ◌||◌, eqb, ltb, leb, List, [], ◌∷◌, ◌++◌, length, Some, Option, sym, refl, ap, ◌∙◌, ap₂, inl, inr, ⊎_elim, arith, length-append}
use Rattle.std.specs.List.{filter}
use mathlib.Core.List.{Memᴰ}
use lib.ListN.{length-map}
use Rattle.std.proofs.lemmas.Bool.{eqb-false, eq-eqb, ne_eqb, cond-true, cond-false, or_parts, leb-false, ltb-false}
use Rattle.lending.specs.declared.lease.Lease.{Lease}
use Rattle.shares.specs.Kind.{Kind, Laws, bind}
use Rattle.lending.specs.Office.{State, with_today}
use Rattle.lending.specs.Outcome.{Call, Answer, Outcome}
use Rattle.lending.specs.Roll.{find, change, close, lends, with_share, with_holder, plus, family, gaining}
use Rattle.lending.specs.Above.{downward}
use Rattle.lending.specs.Calls.{due_by, first_lease, lent_lease, after_yield}
use Rattle.lending.specs.Perform.{perform}
use Rattle.lending.specs.Outcome.Call.{open_resource, delegate, yield, merge, assign, new_day, ask_lease_at, ask_lease, recall, day, hand_in}
use Rattle.lending.specs.Outcome.Answer.{done, number}
use Rattle.lending.specs.History.{tally, none, one_if_done, its_number, closing, lent_by, both_joined, half_lent}
use Rattle.shares.proofs.Sums.{plus?}
use Rattle.lending.proofs.Joins.{plus_then}
use Rattle.lending.proofs.Rolls.{find_in, some_is_false, mem_close, mem_map}
use Rattle.lending.proofs.Invariant.{Inv}
use Rattle.lending.proofs.Changes.{source, mem_last, last_mem}
use Rattle.lending.proofs.Opening.{inv_open, inv_lend}
use Rattle.lending.proofs.Yielding.{gaining_keeps, inv_yield, inv_assign}
use Rattle.lending.proofs.Merging.{relent, relent_is, inv_merge}
use Rattle.lending.proofs.Cases.{Leaves, alike, open_case, delegate_case, yield_case, merge_case, assign_case, set_day_case, lease_at_case, lease_case, recall_case, hand_in_case, day_case}
use Rattle.lending.proofs.Numbers.{Has, Moves, stays, length_close}

-- how many leases a call with this answer has closed
abbrev pub closes : {S : Type 0} → Call → Answer S → ℕ
closes c a = tally one_if_done none none none (closing c) a + (tally none one_if_done none none (closing c) a + (tally none none its_number none (closing c) a + tally none none none its_number (closing c) a))

module _ {S : Type 0} (K : Kind S) (L : Laws K) where
  -- s with lt goes on, by the call with this answer, to this roll and count
  abbrev pub Step : State S → (ℕ → Option S) → Call → Answer S → List (Lease S) → ℕ → Type 0
  Step s lt c a roll issued = Inv K roll issued (lent_by K s c a lt) × Moves s.core.roll s.core.issued roll issued (closes c a)

  abbrev pub Good : State S → (ℕ → Option S) → Call → Outcome S → Type 0
  Good s lt c o = Leaves (λ a k. Step s lt c a k.roll k.issued) s o

  -- k leases were closed between s and u, and nothing was issued
  pub record Closed (s u : State S) (k : ℕ) : Type 0 where
    pub issued : u.core.issued ≡ s.core.issued
    pub old : (n : ℕ) → Has u.core.roll n → Has s.core.roll n
    pub count : length s.core.roll ≡ length u.core.roll + k

  pub closed_moves : (s u : State S) (k j : ℕ) → j ≡ k → Closed s u k → Moves s.core.roll s.core.issued u.core.roll u.core.issued j
  closed_moves s u k j e c = let i = c.issued in let q = c.count in record { old = λ n h. inl (c.old n h); new = inl i; count = omega arith }

  module _ (s : State S) (lt : ℕ → Option S) (I : Inv K s.core.roll s.core.issued lt) where
    stay : Moves s.core.roll s.core.issued s.core.roll s.core.issued 0
    stay = stays s.core.roll s.core.issued 0 refl

    next_not : (n : ℕ) → n ≤ s.core.issued → (x : Option S) → cond (eqb (s.core.issued + 1) n) x (lt n) ≡ lt n
    next_not n h x = cond-false (eqb (s.core.issued + 1) n) x (lt n) (ne_eqb (s.core.issued + 1) n (λ e. omega arith))

    next_is : (x : Option S) → cond (eqb (s.core.issued + 1) (s.core.issued + 1)) x (lt (s.core.issued + 1)) ≡ x
    next_is x = cond-true (eqb (s.core.issued + 1) (s.core.issued + 1)) x (lt (s.core.issued + 1)) (eq-eqb (s.core.issued + 1) (s.core.issued + 1) refl)

    -- a roll of the same numbers with one more
    moves_last : (roll : List (Lease S)) (l : Lease S) → l.number ≡ s.core.issued + 1 → length roll ≡ length s.core.roll → ((n : ℕ) → Has roll n → Has s.core.roll n) → Moves s.core.roll s.core.issued (roll ++ (l ∷ [])) (s.core.issued + 1) 0
    moves_last roll l e q h = record {
      old = λ n x. ⊎_elim (λ (k : Memᴰ x.0 roll). inl (h n (x.0, k, x.2))) (λ (z : x.0 ≡ l). inr (sym x.2 ∙ ap (λ (y : Lease S). y.number) z ∙ e, refl)) (mem_last roll l x.0 x.1);
      new = inr (refl, (l, last_mem roll l, e));
      count = omega (arith, length-append roll (l ∷ []));
    }

    -- what k yields from s on leave
    abbrev Yielded : ℕ → State S → Type 0
    Yielded k u = Inv K u.core.roll u.core.issued lt × Closed s u k

    one_more : (k : ℕ) (t : State S) → Yielded k t → (n : ℕ) (l : Lease S) → find t.core.roll n ≡ Some l → lends t.core.roll n ≡ false → Yielded (k + 1) (after_yield K t l)
    one_more k t y n l found e =
        let f = find_in t.core.roll n l found in
        let none : (x : Lease S) → Memᴰ x t.core.roll → x.lender ≡ l.number → ⊥ = λ x m z. eqb-false x.lender n (some_is_false (λ (y : Lease S). eqb y.lender n) t.core.roll e x m) (z ∙ f.1) in
        let len = length-map (close l.number t.core.roll) (λ x. cond (eqb x.number l.lender) (gaining K l.share x) x) in
        let cl = length_close 0 t.core.roll y.0.rising l f.0 in
        let c = y.1.count in (
          inv_yield K L y.0 l f.0 none,
          record {
            issued = y.1.issued;
            old = λ j x. let w = source (close l.number t.core.roll) l.lender (gaining K l.share) (gaining_keeps K l.share) x.0 x.1 in y.1.old j (w.0, (mem_close t.core.roll l.number w.0 w.1).0, sym w.2.number ∙ x.2);
            count = omega arith;
          },
        )

    none_yet : Yielded 0 s
    none_yet = (I, record { issued = refl; old = λ n x. x; count = omega arith })

    good_open : (r h : ℕ) → Good s lt (open_resource r h) (perform K s (open_resource r h))
    good_open r h = open_case (Good s lt (open_resource r h)) (λ q. record { is = (I, stay) }) K s r h (λ e. record {
      is = (
        inv_open K L I (lent_by K s (open_resource r h) (number (s.core.issued + 1)) lt) (λ n q. next_not n q (Some K.whole)) r h (λ x m z. eqb-false x.resource r (some_is_false (λ (l : Lease S). eqb l.resource r) s.core.roll e x m) z) (next_is (Some K.whole)),
        moves_last s.core.roll (first_lease K (s.core.issued + 1) r h) refl refl (λ n x. x),
      );
    })

    good_delegate : (p h d : ℕ) → Good s lt (delegate p h d) (perform K s (delegate p h d))
    good_delegate p h d = delegate_case (Good s lt (delegate p h d)) (λ q. record { is = (I, stay) }) K s p h d (λ l found e kept lent cut.
        let f = find_in s.core.roll p l found in
        let half : half_lent K s p ≡ Some lent = ap (λ (o : Option (Lease S)). bind o (λ y. bind (K.halve y.share) (λ z. Some z.1))) found ∙ ap (λ (o : Option (S × S)). bind o (λ z. Some z.1)) cut in
        let by : d ≤ l.due = ltb-false l.due d (or_parts (ltb l.due d) (ltb 9999 d) (or_parts (leb d s.core.today) (ltb l.due d || ltb 9999 d) e).1).0 in
        record {
          is = (
            inv_lend K L I (lent_by K s (delegate p h d) (number (s.core.issued + 1)) lt) (λ n q. next_not n q (half_lent K s p)) l f.0 kept lent cut h d by (next_is (half_lent K s p) ∙ half),
            moves_last (change l.number (with_share kept) s.core.roll) (lent_lease (s.core.issued + 1) l h d lent) refl (length-map s.core.roll (λ x. cond (eqb x.number l.number) (with_share kept x) x)) (λ n x. let y = source s.core.roll l.number (with_share kept) (λ z. record { number = refl; resource = refl; lender = refl; due = refl }) x.0 x.1 in (y.0, y.1, sym y.2.number ∙ x.2)),
          );
        })

    good_yield : (n : ℕ) → Good s lt (yield n) (perform K s (yield n))
    good_yield n = yield_case (Good s lt (yield n)) (λ q. record { is = (I, stay) }) K s n (λ l found e.
        let y = one_more 0 s none_yet n l found e in
        record { is = (y.0, closed_moves s (after_yield K s l) 1 1 refl y.1) })

    good_merge : (a b : ℕ) → Good s lt (merge a b) (perform K s (merge a b))
    good_merge a b = merge_case (Good s lt (merge a b)) (λ q. record { is = (I, stay) }) K s a b (λ x y fx fy e₁ e₂.
        let f = find_in s.core.roll a x fx in
        let g = find_in s.core.roll b y fy in
        let xn = f.1 in let yn = g.1 in
        let less : x.number < y.number = let q = leb-false b a e₁ in omega arith in
        let like = alike x y e₂ in
        let lt' : ℕ → Option S = lent_by K s (merge a b) done lt in
        let got : lt' x.number ≡ plus? K (lt x.number) (lt y.number) = cond-true (eqb a x.number) (both_joined K (lt a) (lt b)) (lt x.number) (eq-eqb a x.number (sym xn)) ∙ plus_then K (lt a) (lt b) ∙ ap₂ (λ (m n : ℕ). plus? K (lt m) (lt n)) (sym xn) (sym yn) in
        let len₁ = length-map (change x.number (with_share (plus K x.share y.share)) (close y.number s.core.roll)) (relent x.number y.number) in
        let len₂ = length-map (close y.number s.core.roll) (λ z. cond (eqb z.number x.number) (with_share (plus K x.share y.share) z) z) in
        let len₃ = length_close 0 s.core.roll I.rising y g.0 in
        record {
          is = (
            inv_merge K L I x y f.0 g.0 less like.0 like.1 like.2 lt' got
                (λ n h. cond-false (eqb a n) (both_joined K (lt a) (lt b)) (lt n) (ne_eqb a n (λ z. h (sym z ∙ sym xn)))),
            record {
              old = λ n z. let m = mem_map (relent x.number y.number) (change x.number (with_share (plus K x.share y.share)) (close y.number s.core.roll)) z.0 z.1 in
                  let w = source (close y.number s.core.roll) x.number (with_share (plus K x.share y.share)) (λ l. record { number = refl; resource = refl; lender = refl; due = refl }) m.0 m.1 in
                  inl (w.0, (mem_close s.core.roll y.number w.0 w.1).0, sym (ap (λ (l : Lease S). l.number) m.2 ∙ (relent_is x.number y.number m.0).number ∙ w.2.number) ∙ z.2);
              new = inl refl;
              count = omega arith;
            },
          );
        })

    good_assign : (n h : ℕ) → Good s lt (assign n h) (perform K s (assign n h))
    good_assign n h = assign_case (Good s lt (assign n h)) (λ q. record { is = (I, stay) }) s n h (let len = length-map s.core.roll (λ x. cond (eqb x.number n) (with_holder h x) x) in record {
      is = (
        inv_assign K L I n h,
        record {
          old = λ k x. let y = source s.core.roll n (with_holder h) (λ z. record { number = refl; resource = refl; lender = refl; due = refl }) x.0 x.1 in inl (y.0, y.1, sym y.2.number ∙ x.2);
          new = inl refl;
          count = omega arith;
        },
      );
    })

    -- every call
    pub good : (c : Call) → Good s lt c (perform K s c)
    good (open_resource r h) = good_open r h
    good (delegate p h d) = good_delegate p h d
    good (yield n) = good_yield n
    good (merge a b) = good_merge a b
    good (assign n h) = good_assign n h
    good (new_day d) = set_day_case (Good s lt (new_day d)) (λ q. record { is = (I, stay) }) s d (record { is = (I, stay) })
    good (ask_lease_at i) = lease_at_case (Good s lt (ask_lease_at i)) (λ q. record { is = (I, stay) }) s i (λ l. record { is = (I, stay) })
    good (ask_lease n) = lease_case (Good s lt (ask_lease n)) (λ q. record { is = (I, stay) }) s n (λ l. record { is = (I, stay) })
    good (recall n) = recall_case K Yielded one_more (Good s lt (recall n)) (λ q. record { is = (I, stay) }) s none_yet n
        (λ u y. record { is = (y.0, closed_moves s u (length (downward (family s.core.roll n))) (closes {S = S} (recall n) (number (length (downward (family s.core.roll n))))) (omega arith) y.1) })
    good (hand_in n) = hand_in_case K Yielded one_more (Good s lt (hand_in n)) (λ q. record { is = (I, stay) }) s none_yet n
        (λ u y. record { is = (y.0, closed_moves s u (length (downward (family s.core.roll n))) (closes {S = S} (hand_in n) (number (length (downward (family s.core.roll n))))) (omega arith) y.1) })
        (record { is = (I, stay) })
    good (day d) = day_case K Yielded one_more (Good s lt (day d)) (λ q. record { is = (I, stay) }) s none_yet d
        (λ u y. record { is = (y.0, closed_moves s (with_today d u) (length (downward (filter (due_by d) s.core.roll))) (closes {S = S} (day d) (number (length (downward (filter (due_by d) s.core.roll))))) (omega arith) (record { issued = y.1.issued; old = y.1.old; count = y.1.count })) })
    -- the other questions
    good c = record { is = (I, stay) }
