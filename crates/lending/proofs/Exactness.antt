-- What the calls' definitions rest on holds in every state that calls reach; and a pile's own states are so reached.
use Rattle.std.proofs.Common.{◌≡◌, ℕ, zero, suc, ◌<◌, ◌≤◌, Bool, true, false, cond, not, ◌&&◌, ◌||◌, eqb, ◌⊎◌, List, [], ◌∷◌, length, Some, None, Option, sym, refl, ap, ◌∙◌, ap₂, inl, inr, ⊎_elim, arith}
use Rattle.std.specs.List.{filter, list_any}
use mathlib.Core.List.{Memᴰ}
use Rattle.std.proofs.lemmas.Bool.{eqb-true, eqb-false, eq-eqb, ne_eqb, cases_Bool, cond-true, cond-false, or_cases, or_left, or_right, cases_lt, and_from}
use Rattle.lending.specs.declared.lease.Lease.{Lease}
use Rattle.shares.specs.Kind.{Kind, Laws}
use Rattle.lending.specs.Office.{State, with_today}
use Rattle.lending.specs.Roll.{find, lends, lenders, lender_then, under, plus}
use Rattle.lending.specs.Calls.{unlike, bad_day, due_by}
use Rattle.lending.specs.Above.{downward}
use Rattle.lending.specs.Perform.{perform}
use Rattle.lending.specs.Outcome.Call.{day}
use Rattle.lending.specs.Outcome.Answer.{number}
use Rattle.lending.specs.Outcome.Outcome.{grants}
use Rattle.lending.specs.History.{lent}
use Rattle.lending.specs.Exact.{Exact, CallsExact, Under}
use Rattle.lending.specs.Exact.Under.{direct, through}
use Rattle.shares.proofs.Sums.{plus?, nothing, plus_join, plus_nothing, nothing_plus}
use Rattle.lending.proofs.Joins.{whole_rest}
use Rattle.lending.proofs.Totals.{total, where_is, total_ext, total_plus, together_keep}
use Rattle.lending.proofs.Rolls.{rising_above, one_number, find_in, in_find, some_is_false, some_is_true, some_is_found, some_is_none}
use Rattle.lending.proofs.Invariant.{Inv, standing_part, share_in, total_parts}
use Rattle.lending.proofs.Families.{inv_low, fam, step, lower_out, family_total}
use Rattle.lending.proofs.Yielding.{lender_joins}
use Rattle.lending.proofs.Merging.{shares_join}
use Rattle.lending.proofs.Sweeping.{Sweeps, due_granted, day_performs}
use Rattle.lending.proofs.Returning.{inv_sweeps}
use Rattle.lending.proofs.Cases.{alike}
use Rattle.lending.proofs.Theorem.{kept}

module _ {S : Type 0} (roll : List (Lease S)) (n : ℕ) where
  -- a chain of lenders that reaches n has a lease that n lent
  pub chain_lent : (k m : ℕ) → list_any (λ x. eqb x n) (lenders k roll m) ≡ true → (y : Lease S) × Memᴰ y roll × (y.lender ≡ n)
  chain_lent zero m e = absurd (let z : ◌≡◌ {A = ℕ} 0 1 = cc in omega arith)
  chain_lent (suc k) m e = go (find roll m) refl e (λ x q. chain_lent k x q)
    where
      go : (o : Option (Lease S)) → find roll m ≡ o → list_any (λ x. eqb x n) (lender_then o (λ x. lenders k roll x)) ≡ true → ((x : ℕ) → list_any (λ y. eqb y n) (lenders k roll x) ≡ true → (y : Lease S) × Memᴰ y roll × (y.lender ≡ n)) → (y : Lease S) × Memᴰ y roll × (y.lender ≡ n)
      go None f q below = absurd (let z : ◌≡◌ {A = ℕ} 0 1 = cc in omega arith)
      go (Some l) f q below = fin (eqb l.lender 0) q
        where
          fin : (b : Bool) → list_any (λ x. eqb x n) (cond b [] (l.lender ∷ lenders k roll l.lender)) ≡ true → (y : Lease S) × Memᴰ y roll × (y.lender ≡ n)
          fin true r = absurd (let z : ◌≡◌ {A = ℕ} 0 1 = cc in omega arith)
          fin false r = ⊎_elim (λ (w : eqb l.lender n ≡ true). (l, (find_in roll m l f).0, eqb-true l.lender n w)) (λ (w : list_any (λ x. eqb x n) (lenders k roll l.lender) ≡ true). below l.lender w) (or_cases (eqb l.lender n) (list_any (λ x. eqb x n) (lenders k roll l.lender)) r)

module _ {S : Type 0} (K : Kind S) (L : Laws K) (lt : ℕ → Option S) (t : State S) (I : Inv K t.core.roll t.core.issued lt) where
  under_lent : (l : Lease S) → Memᴰ l t.core.roll → lends t.core.roll l.number ≡ list_any (λ x. under t.core.roll x.number l.number) t.core.roll
  unfolding fam
  under_lent l ml = go (lends t.core.roll l.number) refl
    where
      by_it : (x : Lease S) → Memᴰ x t.core.roll → x.lender ≡ l.number → under t.core.roll x.number l.number ≡ true
      by_it x m e =
          let a = step K L I l ml x m in
          let b : eqb x.number l.number ≡ false = ne_eqb x.number l.number (λ q. let w = inv_low K L I x m in omega arith) in
          let c : fam K L I l ml x.lender ≡ true = or_left (eqb x.lender l.number) (under t.core.roll x.lender l.number) (eq-eqb x.lender l.number e) in
          sym (ap (λ (w : Bool). w || under t.core.roll x.number l.number) b) ∙ a ∙ ap₂ (λ (u v : Bool). u || v) b c

      go : (b : Bool) → lends t.core.roll l.number ≡ b → b ≡ list_any (λ x. under t.core.roll x.number l.number) t.core.roll
      go true e = let r = some_is_found (λ (x : Lease S). eqb x.lender l.number) t.core.roll e in sym (some_is_true (λ (x : Lease S). under t.core.roll x.number l.number) t.core.roll r.0 r.1 (by_it r.0 r.1 (eqb-true r.0.lender l.number r.2)))
      go false e = sym (some_is_none (λ (x : Lease S). under t.core.roll x.number l.number) t.core.roll (λ x m q. let y = chain_lent t.core.roll l.number x.number x.number q in eqb-false y.0.lender l.number (some_is_false (λ (z : Lease S). eqb z.lender l.number) t.core.roll e y.0 y.1) y.2))

  -- the chain of lenders, followed
  follow : (q : Lease S) (k : ℕ) (l : Lease S) → Memᴰ l t.core.roll → list_any (λ x. eqb x q.number) (lenders k t.core.roll l.number) ≡ true → Under t.core.roll q l
  follow q zero l m e = absurd (let z : ◌≡◌ {A = ℕ} 0 1 = cc in omega arith)
  follow q (suc k) l m e = go (eqb l.lender 0) refl (ap (λ (o : Option (Lease S)). list_any (λ x. eqb x q.number) (lender_then o (λ x. lenders k t.core.roll x))) (sym (in_find 0 t.core.roll I.rising l m)) ∙ e) (λ p mp w. follow q k p mp w)
    where
      go : (b : Bool) → eqb l.lender 0 ≡ b → list_any (λ x. eqb x q.number) (cond (eqb l.lender 0) [] (l.lender ∷ lenders k t.core.roll l.lender)) ≡ true → ((p : Lease S) → Memᴰ p t.core.roll → list_any (λ x. eqb x q.number) (lenders k t.core.roll p.number) ≡ true → Under t.core.roll q p) → Under t.core.roll q l
      go true z r below = absurd (let y : list_any (λ x. eqb x q.number) [] ≡ true = ap (λ (b : Bool). list_any (λ x. eqb x q.number) (cond b [] (l.lender ∷ lenders k t.core.roll l.lender))) (sym z) ∙ r in let w : ◌≡◌ {A = ℕ} 0 1 = cc in omega arith)
      go false z r below =
          let y : (eqb l.lender q.number || list_any (λ x. eqb x q.number) (lenders k t.core.roll l.lender)) ≡ true = ap (λ (b : Bool). list_any (λ x. eqb x q.number) (cond b [] (l.lender ∷ lenders k t.core.roll l.lender))) (sym z) ∙ r in
          let p = I.lender l m (eqb-false l.lender 0 z) in
          ⊎_elim (λ (w : eqb l.lender q.number ≡ true). direct (eqb-true l.lender q.number w))
          (λ (w : list_any (λ x. eqb x q.number) (lenders k t.core.roll l.lender) ≡ true). through p.its p.among p.is (below p.its p.among (ap (λ (n : ℕ). list_any (λ x. eqb x q.number) (lenders k t.core.roll n)) p.is ∙ w)))
          (or_cases (eqb l.lender q.number) (list_any (λ x. eqb x q.number) (lenders k t.core.roll l.lender)) y)

  -- one step more from the family of q
  more : (q : Lease S) (mq : Memᴰ q t.core.roll) (l : Lease S) → Memᴰ l t.core.roll → fam K L I q mq l.lender ≡ true → under t.core.roll l.number q.number ≡ true
  unfolding fam
  more q mq l m e =
      let lo : q.number ≤ l.lender = ⊎_elim (λ (h : l.lender < q.number). absurd (let z : true ≡ false = sym e ∙ lower_out K L I q mq l.lender h in let w : ◌≡◌ {A = ℕ} 0 1 = cc in omega arith)) (λ (h : q.number ≤ l.lender). h) (cases_lt l.lender q.number) in
      let b : eqb l.number q.number ≡ false = ne_eqb l.number q.number (λ z. let w = inv_low K L I l m in omega arith) in
      sym (ap (λ (w : Bool). w || under t.core.roll l.number q.number) b) ∙ step K L I q mq l m ∙ ap₂ (λ (u v : Bool). u || v) b e

  chained : (q : Lease S) (mq : Memᴰ q t.core.roll) {l : Lease S} → Under t.core.roll q l → Memᴰ l t.core.roll → under t.core.roll l.number q.number ≡ true
  unfolding fam
  chained q mq (direct {l = l} e) m = more q mq l m (or_left (eqb l.lender q.number) (under t.core.roll l.lender q.number) (eq-eqb l.lender q.number e))
  chained q mq (through {l = l} p mp e u) m = more q mq l m (ap (fam K L I q mq) (sym e) ∙ or_right (eqb p.number q.number) (under t.core.roll p.number q.number) (chained q mq u mp))

  yield_joined : (l p : Lease S) → Memᴰ l t.core.roll → Memᴰ p t.core.roll → p.number ≡ l.lender → lends t.core.roll l.number ≡ false → (s : S) × (K.join p.share l.share ≡ Some s)
  yield_joined l p ml mp e q = let j = lender_joins K L I l ml (λ x m z. eqb-false x.lender l.number (some_is_false (λ (y : Lease S). eqb y.lender l.number) t.core.roll q x m) z) p mp e in (j.0, j.1)

  merge_joined : (a b : Lease S) → Memᴰ a t.core.roll → Memᴰ b t.core.roll → a.number < b.number → unlike a b ≡ false → (s : S) × (K.join a.share b.share ≡ Some s)
  merge_joined a b ma mb less q =
      let like = alike a b q in (
        plus K a.share b.share,
        sym (plus_join K a.share b.share) ∙ shares_join K L I a b ma mb less like.0 like.1 like.2
            (λ n. cond (eqb a.number n) (plus? K (lt a.number) (lt b.number)) (lt n))
            (cond-true (eqb a.number a.number) (plus? K (lt a.number) (lt b.number)) (lt a.number) (eq-eqb a.number a.number refl))
            (λ n h. cond-false (eqb a.number n) (plus? K (lt a.number) (lt b.number)) (lt n) (ne_eqb a.number n (λ z. h (sym z)))),
      )

  -- the day after its yields
  day_done : (d : ℕ) → bad_day t d ≡ false → (k : ℕ) × (u : State S) × (perform K t (day d) ≡ grants (number k) u)
  day_done d ok = (
    length (downward (filter (due_by d) t.core.roll)),
    with_today d (due_granted K P W t I d).after,
    day_performs K P W t I d ok,
  )
    where
      P : List (Lease S) → ℕ → Type 0
      P roll issued = Inv K roll issued lt

      W : Sweeps K P
      W = inv_sweeps K L lt

  -- all under a lease is of its resource
  one_resource : (l : Lease S) (ml : Memᴰ l t.core.roll) (n : ℕ) (x : Lease S) → x.number ≤ n → Memᴰ x t.core.roll → fam K L I l ml x.number ≡ true → x.resource ≡ l.resource
  one_resource l ml zero x h m e = absurd (let a = rising_above 0 t.core.roll I.rising x m in omega arith)
  one_resource l ml (suc n) x h m e = go (or_cases (eqb x.number l.number) (fam K L I l ml x.lender) (sym (step K L I l ml x m) ∙ e)) (λ y a b c. one_resource l ml n y a b c)
    where
      go : (eqb x.number l.number ≡ true) ⊎ (fam K L I l ml x.lender ≡ true) → ((y : Lease S) → y.number ≤ n → Memᴰ y t.core.roll → fam K L I l ml y.number ≡ true → y.resource ≡ l.resource) → x.resource ≡ l.resource
      go (inl q) below = ap (λ (y : Lease S). y.resource) (one_number 0 t.core.roll I.rising x l m ml (eqb-true x.number l.number q))
      go (inr q) below =
          let nz : x.lender ≡ 0 → ⊥ = λ z. let w : true ≡ false = sym q ∙ ap (fam K L I l ml) z ∙ lower_out K L I l ml 0 (rising_above 0 t.core.roll I.rising l ml) in let v : ◌≡◌ {A = ℕ} 0 1 = cc in omega arith in
          let p = I.lender x m nz in let a = p.is in let b = p.lower in
          sym p.resource ∙ below p.its (omega arith) p.among (ap (fam K L I l ml) p.is ∙ q)

  -- a first lease and all under it have the whole, so nothing else of the resource is left
  all_under : (l : Lease S) (ml : Memᴰ l t.core.roll) → l.lender ≡ 0 → (m : Lease S) → Memᴰ m t.core.roll → m.resource ≡ l.resource → fam K L I l ml m.number ≡ true
  unfolding fam
  all_under l ml z m mm e = ⊎_elim (λ (q : fam K L I l ml m.number ≡ true). q) (λ (q : fam K L I l ml m.number ≡ false). absurd (I.solid m mm (none q))) (cases_Bool (fam K L I l ml m.number))
    where
      inside : Lease S → Option S
      inside = where_is K (λ x. fam K L I l ml x.number) (λ x. Some x.share)

      outside : Lease S → Option S
      outside = where_is K (λ x. eqb x.resource l.resource && not (fam K L I l ml x.number)) (λ x. Some x.share)

      split : total K (share_in K l.resource) t.core.roll ≡ plus? K (total K inside t.core.roll) (total K outside t.core.roll)
      split = total_ext K (share_in K l.resource) (λ x. plus? K (inside x) (outside x)) t.core.roll (λ x k. go x k (fam K L I l ml x.number) refl (eqb x.resource l.resource) refl) ∙ total_plus K L inside outside t.core.roll
        where
          go : (x : Lease S) → Memᴰ x t.core.roll → (f : Bool) → fam K L I l ml x.number ≡ f → (r : Bool) → eqb x.resource l.resource ≡ r → cond r (Some x.share) (nothing K) ≡ plus? K (cond f (Some x.share) (nothing K)) (cond (r && not f) (Some x.share) (nothing K))
          go x k true ef true er = sym (plus_nothing K L (Some x.share))
          go x k true ef false er = absurd (eqb-false x.resource l.resource er (one_resource l ml x.number x (omega arith) k ef))
          go x k false ef true er = sym (nothing_plus K L (Some x.share))
          go x k false ef false er = sym (plus_nothing K L (nothing K))

      in_all : total K inside t.core.roll ≡ Some K.whole
      in_all = sym (together_keep K L (λ x. fam K L I l ml x.number) (λ x. x.share) t.core.roll) ∙ family_total K L I l ml ∙ I.first l ml z

      rest : total K outside t.core.roll ≡ nothing K
      rest = whole_rest K L (total K outside t.core.roll) K.whole (ap (λ (w : Option S). plus? K w (total K outside t.core.roll)) (sym in_all) ∙ sym split ∙ I.whole l.resource l ml refl)

      none : fam K L I l ml m.number ≡ false → m.share ≡ K.empty
      none q =
          let a = total_parts K L outside t.core.roll rest m mm in
          let b : cond (eqb m.resource l.resource && not (fam K L I l ml m.number)) (Some m.share) (nothing K) ≡ Some m.share = cond-true (eqb m.resource l.resource && not (fam K L I l ml m.number)) (Some m.share) (nothing K) (and_from (eqb m.resource l.resource) (not (fam K L I l ml m.number)) (eq-eqb m.resource l.resource e) (ap not q)) in
          cc

  firsts : (l m : Lease S) → Memᴰ l t.core.roll → Memᴰ m t.core.roll → l.lender ≡ 0 → m.lender ≡ 0 → l.resource ≡ m.resource → l ≡ m
  firsts l m ml mm zl zm e = ⊎_elim
      (λ (q : eqb m.number l.number ≡ true). one_number 0 t.core.roll I.rising l m ml mm (sym (eqb-true m.number l.number q)))
      (λ (q : fam K L I l ml m.lender ≡ true). absurd (let w : true ≡ false = sym q ∙ ap (fam K L I l ml) zm ∙ lower_out K L I l ml 0 (rising_above 0 t.core.roll I.rising l ml) in let v : ◌≡◌ {A = ℕ} 0 1 = cc in omega arith))
      (or_cases (eqb m.number l.number) (fam K L I l ml m.lender) (sym (step K L I l ml m mm) ∙ all_under l ml zl m mm (sym e)))

  exact : Exact K t
  exact = record {
    rising = I.rising;
    numbered = λ l m. (rising_above 0 t.core.roll I.rising l m, I.within l m);
    has_lender = λ l m nz. let p = I.lender l m nz in let a = p.is in let b = p.lower in (p.its, p.among, p.is, omega arith, p.resource, p.due);
    one_first = firsts;
    under_is_chain = λ l q ml mq. (λ e. follow q l.number l ml e, λ u. chained q mq u ml);
    standing_joins = λ r h. standing_part K L I r h;
    yield_joins = yield_joined;
    merge_joins = merge_joined;
    under_is_lent = under_lent;
    day_granted = day_done;
  }

pub calls_exact : {S : Type 0} (K : Kind S) → Laws K → CallsExact K
calls_exact K L start t up ms leads = exact K L (lent K ms) t (kept K L start up ms t leads).inv
