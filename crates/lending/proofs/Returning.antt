-- What lenders get back by a recall and by a day.
use Rattle.std.proofs.Common.{◌≡◌, ℕ, ◌<◌, Bool, true, false, cond, not, ◌&&◌, ◌||◌, eqb, ◌⊎◌, List, [], ◌∷◌, map, Some, None, Option, sym, refl, ap, ◌∙◌, subst, ap₂, inl, inr, ⊎_elim, arith}
use Rattle.std.specs.List.{filter}
use mathlib.Core.List.{Memᴰ}
use Rattle.std.proofs.lemmas.Bool.{eqb-true, eq-eqb, ne_eqb, cases_eq, cond-true, cond-false, or_cases, false≢true}
use Rattle.lending.specs.declared.lease.Lease.{Lease}
use Rattle.shares.specs.Kind.{Kind, Laws}
use Rattle.lending.specs.Office.{Core, State, with_roll}
use Rattle.lending.specs.Roll.{find, under, change, close, family, with_share, gaining}
use Rattle.lending.specs.Above.{downward}
use Rattle.lending.specs.Effects.{TakenBack, without_family}
use Rattle.shares.proofs.Sums.{plus?, nothing, plus_join, plus_assoc, plus_nothing, nothing_plus}
use Rattle.lending.proofs.Totals.{total, where_is, total_ext, total_plus, total_map, total_nothing, total_filter}
use Rattle.lending.proofs.Rolls.{rising_above, one_number, mem_close, split_close, in_find, Changed, mem_change, change_mem_same}
use Rattle.lending.proofs.Rolls.Changed.{changed, unchanged}
use Rattle.lending.proofs.Invariant.{Inv, lent_from}
use Rattle.lending.proofs.Families.{inv_low}
use Rattle.lending.proofs.Yielding.{inv_yield, plus_is}
use Rattle.lending.proofs.Sweeping.{Sweeps, Granted, among, is_among, not_among, without, without_is, filter_ext, mem_without, without_mem, bare, bare_change, family_granted, inside, step, below_out, of_family, in_family_numbers}

module _ {S : Type 0} (K : Kind S) (L : Laws K) (lt : ℕ → Option S) where
  -- the invariant has what yields need
  pub inv_sweeps : Sweeps K (λ roll issued. Inv K roll issued lt)
  inv_sweeps = record {
    rising = λ roll issued I. I.rising;
    low = λ roll issued I. inv_low K L I;
    dues = λ roll issued I l p ml mp e.
        let a = rising_above 0 roll I.rising p mp in
        let q = I.lender l ml (λ z. omega arith) in
        let same : q.its ≡ p = one_number 0 roll I.rising q.its p q.among mp (q.is ∙ sym e) in
        let w : q.its.due ≡ p.due = ap (λ (u : Lease S). u.due) same in let v = q.due in omega arith;
    kept = λ roll issued I l ml none. inv_yield K L I l ml none;
  }

  abbrev P : List (Lease S) → ℕ → Type 0
  P roll issued = Inv K roll issued lt

  abbrev W : Sweeps K P
  W = inv_sweeps

  -- a part of what a roll comes to can be taken off
  cancel : (x y z : Option S) (t : S) → plus? K x z ≡ Some t → plus? K y z ≡ Some t → x ≡ y
  unfolding plus?
  cancel None y z t e f = absurd (let w : ◌≡◌ {A = ℕ} 0 1 = cc in omega arith)
  cancel (Some a) None z t e f = absurd (let w : ◌≡◌ {A = ℕ} 0 1 = cc in omega arith)
  cancel (Some a) (Some b) None t e f = absurd (let w : ◌≡◌ {A = ℕ} 0 1 = cc in omega arith)
  cancel (Some a) (Some b) (Some c) t e f = ap {B = Option S} Some (L.cancels a b c t e f)

  -- After some yields: what is left has its share joined with what its leases that were closed were lent.
  module _ (s : State S) (I : Inv K s.core.roll s.core.issued lt) (ns : List ℕ) (g : Granted K P W s ns) where
    -- what lease n lent to those closed
    abbrev pub closed_from : ℕ → Option S
    closed_from n = total K (where_is K (λ z. among ns z.number && eqb z.lender n) (λ z. lt z.number)) s.core.roll

    left_from : ℕ → Option S
    left_from n = total K (where_is K (λ z. not (among ns z.number)) (lent_from K lt n)) s.core.roll

    split : (n : ℕ) → total K (lent_from K lt n) s.core.roll ≡ plus? K (closed_from n) (left_from n)
    unfolding left_from
    split n = total_ext K (lent_from K lt n) (λ z. plus? K (where_is K (λ y. among ns y.number && eqb y.lender n) (λ y. lt y.number) z) (where_is K (λ y. not (among ns y.number)) (lent_from K lt n) z)) s.core.roll (λ z m. go (lt z.number) (among ns z.number) (eqb z.lender n))
        ∙ total_plus K L (where_is K (λ y. among ns y.number && eqb y.lender n) (λ y. lt y.number)) (where_is K (λ y. not (among ns y.number)) (lent_from K lt n)) s.core.roll
      where
        go : (v : Option S) (a b : Bool) → cond b v (nothing K) ≡ plus? K (cond (a && b) v (nothing K)) (cond (not a) (cond b v (nothing K)) (nothing K))
        go v true true = sym (plus_nothing K L v)
        go v true false = sym (plus_nothing K L (nothing K))
        go v false b = sym (nothing_plus K L (cond b v (nothing K)))

    -- shares don't count in what was lent
    after_from : (n : ℕ) → total K (lent_from K lt n) g.after.core.roll ≡ left_from n
    unfolding left_from
    after_from n =
        sym (total_map K (lent_from K lt n) (bare K) g.after.core.roll)
        ∙ ap (total K (lent_from K lt n)) (g.shape ∙ ap (map (bare K)) (without_is ns s.core.roll))
        ∙ total_map K (lent_from K lt n) (bare K) (filter (λ l. not (among ns l.number)) s.core.roll)
        ∙ total_filter K L (lent_from K lt n) (λ z. not (among ns z.number)) s.core.roll

    pub joined : (l m : Lease S) → Memᴰ l s.core.roll → Memᴰ m g.after.core.roll → m.number ≡ l.number → plus? K (Some l.share) (closed_from l.number) ≡ Some m.share
    joined l m ml mm e =
        let d = I.defined l ml in
        let before : plus? K (plus? K (Some l.share) (closed_from l.number)) (left_from l.number) ≡ Some d.0 =
        plus_assoc K L (Some l.share) (closed_from l.number) (left_from l.number) ∙ ap (plus? K (Some l.share)) (sym (split l.number)) ∙ I.balance l ml ∙ d.1 in
        let later : plus? K (Some m.share) (left_from l.number) ≡ Some d.0 =
        ap (plus? K (Some m.share)) (sym (after_from l.number)) ∙ ap (λ (n : ℕ). plus? K (Some m.share) (total K (lent_from K lt n) g.after.core.roll)) (sym e) ∙ g.has.balance m mm ∙ ap lt e ∙ d.1 in
        cancel (plus? K (Some l.share) (closed_from l.number)) (Some m.share) (left_from l.number) d.0 before later

  -- two rolls that differ in no share are one
  pub same_roll : (xs ys : List (Lease S)) → map (bare K) xs ≡ map (bare K) ys → ((a b : Lease S) → Memᴰ a xs → Memᴰ b ys → a.number ≡ b.number → a.share ≡ b.share) → xs ≡ ys
  same_roll [] [] e h = refl
  same_roll [] (b ∷ ys) e h = absurd (let w : ◌≡◌ {A = ℕ} 0 1 = cc in omega arith)
  same_roll (a ∷ xs) [] e h = absurd (let w : ◌≡◌ {A = ℕ} 0 1 = cc in omega arith)
  same_roll (a ∷ xs) (b ∷ ys) e h =
      let p : bare K a ≡ bare K b = cc in
      let q : map (bare K) xs ≡ map (bare K) ys = cc in
      let v : a.share ≡ b.share = h a b (Memᴰ.head refl) (Memᴰ.head refl) (ap (λ (l : Lease S). l.number) p) in
      ap₂ (λ (l : Lease S) (r : List (Lease S)). l ∷ r)
      (ap₂ (λ (x : S) (l : Lease S). with_share x l) v p)
      (same_roll xs ys q (λ x y mx my. h x y (Memᴰ.tail mx) (Memᴰ.tail my)))

  -- a recall of lease l, which was lent x
  module _ (s : State S) (I : Inv K s.core.roll s.core.issued lt) (l : Lease S) (ml : Memᴰ l s.core.roll) where
    pos : 0 < l.number
    pos = rising_above 0 s.core.roll I.rising l ml

    pub recalled : Granted K P W s (downward (family s.core.roll l.number))
    recalled = family_granted K P W s I l.number pos

    abbrev ns : List ℕ
    ns = downward (family s.core.roll l.number)

    abbrev within : ℕ → Bool
    within m = inside K P W s I l.number pos m

    up : (z : Lease S) → Memᴰ z s.core.roll → within z.number ≡ (eqb z.number l.number || within z.lender)
    up z m = step K P W s I l.number pos z m

    lender_out : within l.lender ≡ false
    lender_out = below_out K P W s I l.number pos l.lender (inv_low K L I l ml)

    in_ns : (z : Lease S) → Memᴰ z s.core.roll → within z.number ≡ true → Memᴰ z.number ns
    in_ns z m e = in_family_numbers K P W s I l.number pos z m e

    of_ns : (m : ℕ) → Memᴰ m ns → within m ≡ true
    of_ns m k = (of_family K P W s I l.number pos m k).3

    among_within : (z : Lease S) → Memᴰ z s.core.roll → among ns z.number ≡ within z.number
    among_within z m = go (within z.number) refl
      where
        go : (b : Bool) → within z.number ≡ b → among ns z.number ≡ b
        go true e = is_among ns z.number (in_ns z m e)
        go false e = not_among ns z.number (λ k. false≢true (sym e ∙ of_ns z.number k))

    pub root_in : Memᴰ l.number ns
    root_in = in_ns l ml (up l ml ∙ ap (λ (b : Bool). b || within l.lender) (eq-eqb l.number l.number refl))

    -- among those closed, the lender lent to l alone
    from_lender : closed_from s I ns recalled l.lender ≡ lt l.number
    from_lender =
        total_ext K (where_is K (λ z. among ns z.number && eqb z.lender l.lender) (λ z. lt z.number)) (where_is K (λ z. eqb z.number l.number) (λ z. lt z.number)) s.core.roll
        (λ z m. ap (λ (b : Bool). cond b (lt z.number) (nothing K)) (go z m (cases_eq z.number l.number)))
        ∙ split_close K L (where_is K (λ z. eqb z.number l.number) (λ z. lt z.number)) 0 s.core.roll I.rising l ml
        ∙ ap₂ (plus? K) (cond-true (eqb l.number l.number) (lt l.number) (nothing K) (eq-eqb l.number l.number refl))
        (total_nothing K L (where_is K (λ z. eqb z.number l.number) (λ z. lt z.number)) (close l.number s.core.roll) (λ z k. cond-false (eqb z.number l.number) (lt z.number) (nothing K) (ne_eqb z.number l.number (mem_close s.core.roll l.number z k).1)))
        ∙ plus_nothing K L (lt l.number)
      where
        go : (z : Lease S) → Memᴰ z s.core.roll → (z.number ≡ l.number) ⊎ (z.number ≡ l.number → ⊥) → (among ns z.number && eqb z.lender l.lender) ≡ eqb z.number l.number
        go z m (inl e) =
            let same : z ≡ l = one_number 0 s.core.roll I.rising z l m ml e in
            let a : within z.number ≡ true = up z m ∙ ap (λ (b : Bool). b || within z.lender) (eq-eqb z.number l.number e) in
            ap₂ (λ (b c : Bool). b && c) (among_within z m ∙ a) (eq-eqb z.lender l.lender (ap (λ (y : Lease S). y.lender) same)) ∙ sym (eq-eqb z.number l.number e)
        go z m (inr h) = neither (among ns z.number) refl (eqb z.lender l.lender) refl ∙ sym (ne_eqb z.number l.number h)
          where
            neither : (a : Bool) → among ns z.number ≡ a → (b : Bool) → eqb z.lender l.lender ≡ b → (a && b) ≡ false
            neither true p true q = absurd (false≢true (sym lender_out ∙ ap within (sym (eqb-true z.lender l.lender q)) ∙ sym (up z m ∙ ap (λ (b : Bool). b || within z.lender) (ne_eqb z.number l.number h)) ∙ sym (among_within z m) ∙ p))
            neither true p false q = refl
            neither false p b q = refl

    -- and nobody else lent to any of them
    from_others : (y : Lease S) → Memᴰ y s.core.roll → (Memᴰ y.number ns → ⊥) → (y.number ≡ l.lender → ⊥) → closed_from s I ns recalled y.number ≡ nothing K
    from_others y my out h = total_nothing K L (where_is K (λ z. among ns z.number && eqb z.lender y.number) (λ z. lt z.number)) s.core.roll (λ z m. ap (λ (b : Bool). cond b (lt z.number) (nothing K)) (go z m (among ns z.number) refl (eqb z.lender y.number) refl))
      where
        go : (z : Lease S) → Memᴰ z s.core.roll → (a : Bool) → among ns z.number ≡ a → (b : Bool) → eqb z.lender y.number ≡ b → (a && b) ≡ false
        go z m true p true q = absurd (⊎_elim
            (λ (e : eqb z.number l.number ≡ true). h (sym (eqb-true z.lender y.number q) ∙ ap (λ (u : Lease S). u.lender) (one_number 0 s.core.roll I.rising z l m ml (eqb-true z.number l.number e))))
            (λ (e : within z.lender ≡ true). out (in_ns y my (ap within (sym (eqb-true z.lender y.number q)) ∙ e)))
            (or_cases (eqb z.number l.number) (within z.lender) (sym (up z m) ∙ sym (among_within z m) ∙ p)))
        go z m true p false q = refl
        go z m false p b q = refl

    module _ (x : S) (e : lt l.number ≡ Some x) where
      abbrev rest : List (Lease S)
      rest = without_family s.core.roll l.number

      rest_is : without ns s.core.roll ≡ rest
      unfolding inside
      rest_is = without_is ns s.core.roll ∙ filter_ext (λ z. not (among ns z.number)) (λ z. not (eqb z.number l.number || under s.core.roll z.number l.number)) s.core.roll (λ z m. ap not (among_within z m))

      pub roll_is : recalled.after.core.roll ≡ change l.lender (gaining K x) rest
      roll_is = same_roll recalled.after.core.roll (change l.lender (gaining K x) rest)
          (recalled.shape ∙ ap (map (bare K)) rest_is ∙ sym (bare_change K l.lender x rest))
          (λ a b ma mb q. go a ma b q (mem_change rest l.lender (gaining K x) b mb))
        where
          back : (y : Lease S) → Memᴰ y rest → Memᴰ y s.core.roll × (Memᴰ y.number ns → ⊥)
          back y m = mem_without ns s.core.roll y (subst (λ (r : List (Lease S)). Memᴰ y r) (sym rest_is) m)

          go : (a : Lease S) → Memᴰ a recalled.after.core.roll → (b : Lease S) → a.number ≡ b.number → Changed rest l.lender (gaining K x) b → a.share ≡ b.share
          go a ma b q (changed y k is z) =
              let o = back y k in
              let j : plus? K (Some y.share) (Some x) ≡ Some a.share = ap (plus? K (Some y.share)) (sym (ap (closed_from s I ns recalled) is ∙ from_lender ∙ e)) ∙ joined s I ns recalled y a o.0 ma (q ∙ ap (λ (u : Lease S). u.number) z) in
              sym (plus_is K y.share x a.share (sym (plus_join K y.share x) ∙ j)) ∙ ap (λ (u : Lease S). u.share) (sym z)
          go a ma b q (unchanged k is) =
              let o = back b k in
              let j : plus? K (Some b.share) (nothing K) ≡ Some a.share = ap (plus? K (Some b.share)) (sym (from_others b o.0 o.1 is)) ∙ joined s I ns recalled b a o.0 ma q in
              let w : Some b.share ≡ Some a.share = sym (plus_nothing K L (Some b.share)) ∙ j in
              cc

      pub taken_back : (t : State S) → t.core ≡ recalled.after.core → TakenBack K s t l x
      taken_back t c = record {
        left = c ∙ recalled.core ∙ ap (λ (r : List (Lease S)). (with_roll r s).core) roll_is;
        gained = λ nz.
            let p = I.lender l ml nz in
            let out : Memᴰ p.its.number ns → ⊥ = λ k. false≢true (sym lender_out ∙ ap within (sym p.is) ∙ of_ns p.its.number k) in
            let mr : Memᴰ p.its rest = subst (λ (r : List (Lease S)). Memᴰ p.its r) rest_is (without_mem ns s.core.roll p.its p.among out) in
            let ma : Memᴰ (gaining K x p.its) recalled.after.core.roll = subst (λ (r : List (Lease S)). Memᴰ (gaining K x p.its) r) (sym roll_is) (change_mem_same rest l.lender (gaining K x) p.its mr p.is) in
            record {
              then_lease = p.its;
              now_lease = gaining K x p.its;
              was_live = ap (find s.core.roll) (sym p.is) ∙ in_find 0 s.core.roll I.rising p.its p.among;
              is_live = ap (λ (k : Core S). find k.roll l.lender) c ∙ ap (find recalled.after.core.roll) (sym p.is) ∙ in_find 0 recalled.after.core.roll recalled.has.rising (gaining K x p.its) ma;
              gained = sym (plus_join K p.its.share x) ∙ ap (plus? K (Some p.its.share)) (sym (ap (closed_from s I ns recalled) p.is ∙ from_lender ∙ e)) ∙ joined s I ns recalled p.its (gaining K x p.its) p.among ma refl;
            };
      }
