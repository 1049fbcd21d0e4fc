-- After every list of calls, lending is conserved.
use Rattle.std.proofs.Common.{◌≡◌, ℕ, ◌+◌, ◌<◌, ◌≤◌, Bool, true, false, cond, not, ◌&&◌, ◌⊎◌, List, [], ◌∷◌, length, Some, None, Option, unwrap_or, sym, refl, ap, ◌∙◌, subst, ap₂, subst₂, inl, inr, ⊎_elim, arith}
use Rattle.std.specs.List.{filter}
use mathlib.Core.List.{Memᴰ}
use Rattle.std.proofs.lemmas.Bool.{cases_lt, cond-true, cond-false}
use Rattle.lending.specs.declared.lease.Lease.{Lease}
use Rattle.shares.specs.Kind.{Kind, Laws}
use Rattle.lending.specs.Office.{Core, State, SetUp, with_today}
use Rattle.lending.specs.Outcome.{Call, Answer, Outcome, answering, and_then}
use Rattle.lending.specs.Roll.{live, family}
use Rattle.lending.specs.Perform.{perform, Ends, Does}
use Rattle.lending.specs.Above.{yields, recall_all, downward, standing_of}
use Rattle.lending.specs.Calls.{bad_day, due_by, do_set_day}
use Rattle.lending.specs.Outcome.Call.{recall, standing, hand_in}
use Rattle.lending.specs.Outcome.Answer.{number, share, refused}
use Rattle.lending.specs.Outcome.Outcome.{refuses, tells, grants}
use Rattle.lending.specs.History.{Moment, Leads, lent, yielded, merged, recalled as recalled_in, lapsed, closings, closed_between}
use Rattle.lending.specs.Effects.{TakenBack, TakesBack, EveryRecallTakesBack, EveryHandInTakesBack, EveryDayComes, EveryStandingJoins, EveryStandingTells}
use Rattle.lending.specs.Promise.{Returned, Conserved, LendingConserved, EveryCallConserves}
use Rattle.lending.proofs.Rolls.{find_in}
use Rattle.lending.proofs.Invariant.{Inv, standing_part, writes_when_alone, alone_when_writes}
use Rattle.lending.proofs.Families.{family_joins}
use Rattle.lending.proofs.Numbers.{Has, has_live, hasnt_live, has_or_not}
use Rattle.lending.proofs.Cases.{left}
use Rattle.lending.proofs.Steps.{Step, good}
use Rattle.lending.proofs.Sweeping.{Granted, gone, day_performs}
use Rattle.lending.proofs.Lapsing.{lapsed as lapsed_all, day_came}
use Rattle.lending.proofs.Returning.{inv_sweeps, recalled as recalled_all, root_in, taken_back}

module _ {S : Type 0} (K : Kind S) (L : Laws K) where
  -- what a list of calls that led to t has kept
  pub record Kept (ms : List (Moment S)) (t : State S) : Type 0 where
    pub inv : Inv K t.core.roll t.core.issued (lent K ms)
    pub once : (n : ℕ) → 1 ≤ n → n ≤ t.core.issued → (Has t.core.roll n × (closings ms t n ≡ 0)) ⊎ ((Has t.core.roll n → ⊥) × (closings ms t n ≡ 1))
    pub beyond : (n : ℕ) → t.core.issued < n → closings ms t n ≡ 0
    pub counts : t.core.issued ≡ length t.core.roll + yielded ms + merged ms + recalled_in ms + lapsed ms

  pub inv_empty : Inv K [] 0 (λ n. None)
  inv_empty = record {
    rising = tt;
    within = λ l m. elim m [ ];
    solid = λ l m. elim m [ ];
    first = λ l m. elim m [ ];
    lender = λ l m. elim m [ ];
    balance = λ l m. elim m [ ];
    defined = λ l m. elim m [ ];
    whole = λ r l m. elim m [ ];
  }

  kept_start : (start t : State S) → SetUp start → t ≡ start → Kept [] t
  kept_start start t up e =
      let r : t.core.roll ≡ [] = ap (λ (s : State S). s.core.roll) e ∙ up.no_leases in
      let i : t.core.issued ≡ 0 = ap (λ (s : State S). s.core.issued) e ∙ up.none_issued in
      let len : length t.core.roll ≡ 0 = ap length r in
      record {
        inv = subst₂ (λ (ls : List (Lease S)) (k : ℕ). Inv K ls k (λ n. None)) (sym r) (sym i) inv_empty;
        once = λ n a b. absurd (omega arith);
        beyond = λ n h. refl;
        counts = omega arith;
      }

  -- one call more
  module _ (m : Moment S) (ms : List (Moment S)) (t : State S) (k : Kept ms m.before) (st : Step K L m.before (lent K ms) m.call m.answer t.core.roll t.core.issued) where
    between_stays : (n : ℕ) → (Has m.before.core.roll n → ⊥) → closed_between m.before t n ≡ 0
    between_stays n h = ap (λ (b : Bool). cond (b && not (live t.core.roll n)) 1 0) (hasnt_live m.before.core.roll n h)

    between_live : (n : ℕ) → Has t.core.roll n → closed_between m.before t n ≡ 0
    between_live n h = go (live m.before.core.roll n) (has_live t.core.roll n st.0.rising h)
      where
        go : (b : Bool) → live t.core.roll n ≡ true → ◌≡◌ {A = ℕ} (cond (b && not (live t.core.roll n)) 1 0) 0
        go true e = ap (λ (c : Bool). cond (not c) 1 0) e
        go false e = refl

    between_closed : (n : ℕ) → Has m.before.core.roll n → (Has t.core.roll n → ⊥) → closed_between m.before t n ≡ 1
    between_closed n h g = ap₂ (λ (b c : Bool). cond (b && not c) 1 0) (has_live m.before.core.roll n k.inv.rising h) (hasnt_live t.core.roll n g)

    within_s : (n : ℕ) → Has m.before.core.roll n → n ≤ m.before.core.issued
    within_s n h = let q = k.inv.within h.0 h.1 in let e = h.2 in omega arith

    kept_more : Kept (m ∷ ms) t
    kept_more = record {
      inv = st.0;
      once = λ n a b. ⊎_elim (λ (lo : n ≤ m.before.core.issued). older n a lo (k.once n a lo)) (λ (hi : m.before.core.issued < n). newer n a b hi st.1.new) (le_or n m.before.core.issued);
      beyond = λ n h. let i = issued_grows st.1.new in let z = between_stays n (λ x. let q = within_s n x in omega arith) in let y = k.beyond n (omega arith) in omega arith;
      counts = let c = st.1.count in let q = k.counts in omega arith;
    }
      where
        le_or : (a b : ℕ) → (a ≤ b) ⊎ (b < a)
        le_or a b = ⊎_elim (λ (h : b < a). inr h) (λ (h : a ≤ b). inl h) (cases_lt b a)

        issued_grows : (t.core.issued ≡ m.before.core.issued) ⊎ ((t.core.issued ≡ m.before.core.issued + 1) × Has t.core.roll (m.before.core.issued + 1)) → m.before.core.issued ≤ t.core.issued
        issued_grows (inl e) = omega arith
        issued_grows (inr p) = let e = p.0 in omega arith

        older : (n : ℕ) → 1 ≤ n → n ≤ m.before.core.issued → (Has m.before.core.roll n × (closings ms m.before n ≡ 0)) ⊎ ((Has m.before.core.roll n → ⊥) × (closings ms m.before n ≡ 1)) → (Has t.core.roll n × (closings (m ∷ ms) t n ≡ 0)) ⊎ ((Has t.core.roll n → ⊥) × (closings (m ∷ ms) t n ≡ 1))
        older n a lo (inl p) = ⊎_elim (λ (h : Has t.core.roll n). inl (h, let z = between_live n h in let y = p.1 in omega arith)) (λ (g : Has t.core.roll n → ⊥). inr (g, let z = between_closed n p.0 g in let y = p.1 in omega arith)) (has_or_not t.core.roll n)
        older n a lo (inr p) = inr (λ h. ⊎_elim (λ (x : Has m.before.core.roll n). p.0 x) (λ (x : (n ≡ m.before.core.issued + 1) × (t.core.issued ≡ m.before.core.issued + 1)). let e = x.0 in omega arith) (st.1.old n h), let z = between_stays n p.0 in let y = p.1 in omega arith)

        newer : (n : ℕ) → 1 ≤ n → n ≤ t.core.issued → m.before.core.issued < n → (t.core.issued ≡ m.before.core.issued) ⊎ ((t.core.issued ≡ m.before.core.issued + 1) × Has t.core.roll (m.before.core.issued + 1)) → (Has t.core.roll n × (closings (m ∷ ms) t n ≡ 0)) ⊎ ((Has t.core.roll n → ⊥) × (closings (m ∷ ms) t n ≡ 1))
        newer n a b hi (inl e) = absurd (omega arith)
        newer n a b hi (inr p) =
            let e : m.before.core.issued + 1 ≡ n = let q = p.0 in omega arith in
            inl (subst (λ (j : ℕ). Has t.core.roll j) e p.1, let z = between_stays n (λ x. let q = within_s n x in omega arith) in let y = k.beyond n hi in omega arith)

  pub kept : (start : State S) → SetUp start → (ms : List (Moment S)) (t : State S) → Leads K start ms t → Kept ms t
  kept start up [] t e = kept_start start t up e
  kept start up (m ∷ ms) t e = let k = kept start up ms m.before e.0 in kept_more m ms t k (left (λ a c. Step K L m.before (lent K ms) m.call a c.roll c.issued) m.before (perform K m.before m.call) (good K L m.before (lent K ms) k.inv m.call) m.answer t e.1)

  -- a recall of a live lease
  module _ (ms : List (Moment S)) (t : State S) (k : Kept ms t) (l : Lease S) (ml : Memᴰ l t.core.roll) where
    g : Granted K (λ roll issued. Inv K roll issued (lent K ms)) (inv_sweeps K L (lent K ms)) t (downward (family t.core.roll l.number))
    g = recalled_all K L (lent K ms) t k.inv l ml

    count : ℕ
    count = length (downward (family t.core.roll l.number))

    is_live : live t.core.roll l.number ≡ true
    is_live = has_live t.core.roll l.number k.inv.rising (l, ml, refl)

    all_back : recall_all K t l.number ≡ grants (number count) g.after
    unfolding count
    all_back = ap (answering (number (length (downward (family t.core.roll l.number))))) g.is

    performs : perform K t (recall l.number) ≡ grants (number count) g.after
    performs = cond-false (not (live t.core.roll l.number)) (refuses (record { number = 6; level = 0 })) (recall_all K t l.number) (ap not is_live) ∙ all_back

    hands_in : perform K t (hand_in l.number) ≡ grants (number count) g.after
    hands_in = cond-true (live t.core.roll l.number) (recall_all K t l.number) (tells (number 0)) is_live ∙ all_back

    -- what it gives its lender back, by whichever call
    taken : (a : Answer S) (u : State S) → Ends (grants (number count) g.after) t a u → (s : S) × (lent K ms l.number ≡ Some s) × TakenBack K t u l s
    unfolding g
    taken a u ends = let d = k.inv.defined l ml in (d.0, d.1, taken_back K L (lent K ms) t k.inv l ml d.0 d.1 u ends.1)

    recalled : (a : Answer S) (u : State S) → Does K t (recall l.number) a u → Ends (grants (number count) g.after) t a u
    recalled a u does = subst (λ (o : Outcome S). Ends o t a u) performs does

    handed_in : (a : Answer S) (u : State S) → Does K t (hand_in l.number) a u → Ends (grants (number count) g.after) t a u
    handed_in a u does = subst (λ (o : Outcome S). Ends o t a u) hands_in does

    returned : (a : Answer S) (u : State S) → Does K t (recall l.number) a u → (s : S) × (lent K ms l.number ≡ Some s) × Returned K t u l s a
    unfolding g
    returned a u does =
        let ends = recalled a u does in
        let b = taken a u ends in (
          b.0,
          b.1,
          record {
            granted = (count, ends.0);
            closed = ap (λ (k : Core S). live k.roll l.number) ends.1 ∙ hasnt_live g.after.core.roll l.number (gone K (λ roll issued. Inv K roll issued (lent K ms)) (inv_sweeps K L (lent K ms)) t (downward (family t.core.roll l.number)) g l.number (root_in K L (lent K ms) t k.inv l ml));
            lender_gains = b.2.gained;
            house_gains = λ z. let w = k.inv.first l ml z in let v = b.1 in cc;
          },
        )

  conserved : (ms : List (Moment S)) (t : State S) → Kept ms t → Conserved K ms t
  conserved ms t k = record {
    joins = λ l m. let d = k.inv.defined l m in (d.0, d.1, family_joins K L k.inv l m d.0 d.1);
    first = k.inv.first;
    writes = λ r h o a u does. (
      λ e. alone_when_writes K L k.inv r h (whole_only (standing_of K t.core.roll r h) (sym does.0 ∙ e)),
      λ alone. does.0 ∙ ap (λ (x : Option S). share (unwrap_or x K.empty)) (writes_when_alone K L k.inv r h o.0 o.1 o.2 alone),
    );
    once = λ n a b. ⊎_elim
        (λ (p : Has t.core.roll n × (closings ms t n ≡ 0)). inl (has_live t.core.roll n k.inv.rising p.0, p.1))
        (λ (p : (Has t.core.roll n → ⊥) × (closings ms t n ≡ 1)). inr (hasnt_live t.core.roll n p.0, p.1))
        (k.once n a b);
    counts = k.counts;
    recalls = λ l m. returned ms t k l m;
  }
    where
      whole_only : (x : Option S) → ◌≡◌ {A = Answer S} (share (unwrap_or x K.empty)) (share K.whole) → x ≡ Some K.whole
      whole_only None e = absurd (L.whole_not_empty (sym (let z : K.empty ≡ K.whole = cc in z)))
      whole_only (Some s) e = ap {B = Option S} Some (let z : s ≡ K.whole = cc in z)

pub lending_conserved : {S : Type 0} (K : Kind S) → Laws K → LendingConserved K
lending_conserved K L start t up ms leads = conserved K L ms t (kept K L start up ms t leads)

module _ {S : Type 0} (K : Kind S) (L : Laws K) where
  -- a call that closes a lease and all under it takes back what that lease was lent
  takes_back : (call : ℕ → Call)
      → ((ms : List (Moment S)) (s : State S) (k : Kept K L ms s) (l : Lease S) (ml : Memᴰ l s.core.roll) (a : Answer S) (t : State S) → Does K s (call l.number) a t → Ends (grants (number (count K L ms s k l ml)) (g K L ms s k l ml).after) s a t)
      → (s t : State S) (n : ℕ) (a : Answer S) → Does K s (call n) a t → TakesBack K s n t
  takes_back call closes s t n a does = record {
    after = λ start up ms leads l found.
        let k = kept K L start up ms s leads in let f = find_in s.core.roll n l found in
        subst (λ (m : ℕ). Does K s (call m) a t → (x : S) × (lent K ms m ≡ Some x) × TakenBack K s t l x) f.1
        (λ d. taken K L ms s k l f.0 a t (closes ms s k l f.0 a t d)) does;
  }

  pub every_recall_takes_back : EveryRecallTakesBack K
  every_recall_takes_back = takes_back recall (recalled K L)

  pub every_hand_in_takes_back : EveryHandInTakesBack K
  every_hand_in_takes_back = takes_back hand_in (handed_in K L)

  pub every_day_comes : EveryDayComes K
  unfolding lapsed_all
  every_day_comes s t d k does = record {
    after = λ start up ms leads.
        let I = (kept K L start up ms s leads).inv in
        day_came K L ms s I d t (go ms I (bad_day s d) refl);
  }
    where
      go : (ms : List (Moment S)) (I : Inv K s.core.roll s.core.issued (lent K ms)) → (b : Bool) → bad_day s d ≡ b → t.core ≡ (with_today d (lapsed_all K L ms s I d).after).core
      go ms I true e = absurd (let w : ◌≡◌ {A = Answer S} (number k) (refused (record { number = 13; level = 0 })) = (subst (λ (o : Outcome S). Ends o s (number k) t) (cond-true (bad_day s d) (refuses (record { number = 13; level = 0 })) (answering (number (length (downward (filter (due_by d) s.core.roll)))) (and_then (yields K s (downward (filter (due_by d) s.core.roll))) (λ u. do_set_day u d))) e) does).0 in cc)
      go ms I false e = (subst (λ (o : Outcome S). Ends o s (number k) t) (day_performs K (λ roll issued. Inv K roll issued (lent K ms)) (inv_sweeps K L (lent K ms)) s I d e) does).1

pub every_call_conserves : {S : Type 0} (K : Kind S) → Laws K → EveryCallConserves K
every_call_conserves K L s c a t does = record { after = λ start up ms leads. lending_conserved K L start t up (record { before = s; call = c; answer = a } ∷ ms) (leads, does) }

pub every_standing_joins : {S : Type 0} (K : Kind S) → Laws K → EveryStandingJoins K
every_standing_joins {S} K L s resource holder x does = record {
  after = λ start up ms leads.
      let part = standing_part K L (kept K L start up ms s leads).inv resource holder in
      let is : x ≡ unwrap_or (standing_of K s.core.roll resource holder) K.empty = (let e = does.0 in cc) in
      part.1 ∙ ap Some (sym (is ∙ ap (λ (o : Option S). unwrap_or o K.empty) part.1));
}

pub every_standing_tells : {S : Type 0} (K : Kind S) → Laws K → EveryStandingTells K
every_standing_tells K L s resource holder x may does is = record {
  joined = x;
  stands = does;
  conserved = every_call_conserves K L s (standing resource holder) (share x) s does;
  exactly = is;
  alone = λ start up ms leads some.
      let w = (lending_conserved K L start s up ms leads).writes resource holder some (share x) s does in (
        λ t. w.0 (ap share (is.0 t)),
        λ nobody. is.1 (let e = w.1 nobody in cc),
      );
}
