-- A merge keeps the invariant.
use Rattle.std.proofs.Common.{◌≡◌, ℕ, ◌<◌, Bool, true, false, cond, not, eqb, List, map, Some, Option, sym, refl, ap, ◌∙◌, subst, ap₂, ⊎_elim, arith}
use mathlib.Core.List.{Memᴰ}
use Rattle.std.proofs.lemmas.Bool.{eq-eqb, ne_eqb, cases_eq, cond-true, cond-false}
use Rattle.lending.specs.declared.lease.Lease.{Lease}
use Rattle.shares.specs.Kind.{Kind, Laws}
use Rattle.lending.specs.Roll.{change, close, relend, with_share, with_lender, plus}
use Rattle.shares.proofs.Sums.{plus?, nothing, plus_join, plus_comm, plus_assoc, plus_nothing, nothing_plus, plus_swap}
use Rattle.lending.proofs.Joins.{part_defined}
use Rattle.lending.proofs.Totals.{total, total_ext, total_plus, total_map}
use Rattle.lending.proofs.Rolls.{Rising, rising_above, rising_keep, rising_map, rising_change, mem_map, map_mem, Changed, mem_change, mem_close, close_mem, one_number, split_change, split_close, total_change}
use Rattle.lending.proofs.Rolls.Changed.{changed, unchanged}
use Rattle.lending.proofs.Invariant.{Inv, Lender, lent_from, share_in}
use Rattle.lending.proofs.Families.{inv_low}
use Rattle.lending.proofs.Changes.{target}
use Rattle.lending.proofs.Yielding.{plus_is}

-- a lease that b lent is now lent by a
abbrev pub relent : {S : Type 0} → ℕ → ℕ → Lease S → Lease S
relent a b l = cond (eqb l.lender b) (with_lender a l) l

pub record Relent {S : Type 0} (a b : ℕ) (l m : Lease S) : Type 0 where
  pub number : m.number ≡ l.number
  pub resource : m.resource ≡ l.resource
  pub due : m.due ≡ l.due
  pub share : m.share ≡ l.share
  pub lender : m.lender ≡ cond (eqb l.lender b) a l.lender

pub relent_is : {S : Type 0} (a b : ℕ) (l : Lease S) → Relent a b l (relent a b l)
relent_is a b l = go (eqb l.lender b) refl
  where
    go : (t : Bool) → eqb l.lender b ≡ t → Relent a b l (cond t (with_lender a l) l)
    go true e = record { number = refl; resource = refl; due = refl; share = refl; lender = sym (cond-true (eqb l.lender b) a l.lender e) }
    go false e = record { number = refl; resource = refl; due = refl; share = refl; lender = sym (cond-false (eqb l.lender b) a l.lender e) }

module _ {S : Type 0} (K : Kind S) (L : Laws K) {roll : List (Lease S)} {issued : ℕ} {lt : ℕ → Option S} (I : Inv K roll issued lt)
    (x y : Lease S) (mx : Memᴰ x roll) (my : Memᴰ y roll) (less : x.number < y.number)
    (one_lender : x.lender ≡ y.lender) (lent : x.lender ≡ 0 → ⊥) (one_due : x.due ≡ y.due)
    (lt' : ℕ → Option S) (got : lt' x.number ≡ plus? K (lt x.number) (lt y.number)) (others : (n : ℕ) → (n ≡ x.number → ⊥) → lt' n ≡ lt n) where
  a : ℕ
  a = x.number

  b : ℕ
  b = y.number

  abbrev pub j : S
  j = plus K x.share y.share

  abbrev ls : List (Lease S)
  ls = close y.number roll

  abbrev cr : List (Lease S)
  cr = change x.number (with_share j) ls

  abbrev after : List (Lease S)
  after = map (relent x.number y.number) cr

  rise : Rising 0 ls
  rise = rising_keep (λ z. not (eqb z.number y.number)) 0 roll I.rising

  mxl : Memᴰ x ls
  mxl = close_mem roll y.number x mx (λ e. omega arith)

  px : Lender K roll x
  px = I.lender x mx lent

  py : Lender K roll y
  py = I.lender y my (λ e. lent (one_lender ∙ e))

  one_resource : x.resource ≡ y.resource
  one_resource = sym px.resource ∙ ap (λ (z : Lease S). z.resource) (one_number 0 roll I.rising px.its py.its px.among py.among (px.is ∙ one_lender ∙ sym py.is)) ∙ py.resource

  -- where a lease of the roll comes from
  record Was (z : Lease S) : Type 0 where
    of : Lease S
    among : Memᴰ of roll
    not_b : of.number ≡ y.number → ⊥
    number : z.number ≡ of.number
    resource : z.resource ≡ of.resource
    due : z.due ≡ of.due
    lender : z.lender ≡ cond (eqb of.lender y.number) x.number of.lender
    share_a : of.number ≡ x.number → z.share ≡ j
    share_other : (of.number ≡ x.number → ⊥) → z.share ≡ of.share

  was : (z : Lease S) → Memᴰ z after → Was z
  was z m = let r = mem_map (relent x.number y.number) cr z m in go r.0 r.2 (mem_change ls x.number (with_share j) r.0 r.1)
    where
      go : (w : Lease S) → z ≡ relent x.number y.number w → Changed ls x.number (with_share j) w → Was z
      go w e (changed v k q s) =
          let t : Relent x.number y.number w z = subst (λ (u : Lease S). Relent x.number y.number w u) (sym e) (relent_is x.number y.number w) in
          let c = mem_close roll y.number v k in
          record {
            of = v;
            among = c.0;
            not_b = c.1;
            number = t.number ∙ ap (λ (u : Lease S). u.number) s;
            resource = t.resource ∙ ap (λ (u : Lease S). u.resource) s;
            due = t.due ∙ ap (λ (u : Lease S). u.due) s;
            lender = t.lender ∙ ap (λ (u : Lease S). cond (eqb u.lender y.number) x.number u.lender) s;
            share_a = λ f. t.share ∙ ap (λ (u : Lease S). u.share) s;
            share_other = λ f. absurd (f q);
          }
      go w e (unchanged k q) =
          let t : Relent x.number y.number w z = subst (λ (u : Lease S). Relent x.number y.number w u) (sym e) (relent_is x.number y.number w) in
          let c = mem_close roll y.number w k in
          record {
            of = w;
            among = c.0;
            not_b = c.1;
            number = t.number;
            resource = t.resource;
            due = t.due;
            lender = t.lender;
            share_a = λ f. absurd (q f);
            share_other = λ f. t.share;
          }

  -- what becomes of a lease
  becomes : (v : Lease S) → Memᴰ v roll → (v.number ≡ y.number → ⊥) → (z : Lease S) × Memᴰ z after × (z.number ≡ v.number) × (z.resource ≡ v.resource) × (z.due ≡ v.due)
  becomes v m n =
      let t = target ls x.number (with_share j) (λ l. record { number = refl; resource = refl; lender = refl; due = refl }) v (close_mem roll y.number v m n) in
      let q = relent_is x.number y.number t.0 in
      (relent x.number y.number t.0, map_mem (relent x.number y.number) t.1, q.number ∙ t.2.number, q.resource ∙ t.2.resource, q.due ∙ t.2.due)

  -- what a lease of lender n was lent, when b's leases are a's
  now_from : ℕ → Lease S → Option S
  now_from n w = cond (eqb (cond (eqb w.lender y.number) x.number w.lender) n) (lt' w.number) (nothing K)

  after_lent : (n : ℕ) → total K (lent_from K lt' n) after ≡ total K (now_from n) ls
  unfolding now_from
  after_lent n = total_map K (lent_from K lt' n) (relent x.number y.number) cr
      ∙ total_ext K (λ w. lent_from K lt' n (relent x.number y.number w)) (now_from n) cr (λ w m. let q = relent_is x.number y.number w in ap₂ (λ (u v : ℕ). cond (eqb u n) (lt' v) (nothing K)) q.lender q.number)
      ∙ total_change K (now_from n) (with_share j) x.number ls (λ w m e. refl)

  -- the lease b apart
  lent_b : (n : ℕ) → total K (lent_from K lt n) roll ≡ plus? K (cond (eqb x.lender n) (lt y.number) (nothing K)) (total K (lent_from K lt n) ls)
  lent_b n = split_close K L (lent_from K lt n) 0 roll I.rising y my ∙ ap (λ (k : ℕ). plus? K (cond (eqb k n) (lt y.number) (nothing K)) (total K (lent_from K lt n) ls)) (sym one_lender)

  lent_b_none : (n : ℕ) → (x.lender ≡ n → ⊥) → total K (lent_from K lt n) roll ≡ total K (lent_from K lt n) ls
  lent_b_none n h = lent_b n ∙ ap (λ (w : Option S). plus? K w (total K (lent_from K lt n) ls)) (cond-false (eqb x.lender n) (lt y.number) (nothing K) (ne_eqb x.lender n h)) ∙ nothing_plus K L (total K (lent_from K lt n) ls)

  under_a : total K (now_from x.number) ls ≡ plus? K (total K (lent_from K lt x.number) roll) (total K (lent_from K lt y.number) roll)
  unfolding now_from
  under_a = total_ext K (now_from x.number) (λ w. plus? K (lent_from K lt x.number w) (lent_from K lt y.number w)) ls point
      ∙ total_plus K L (lent_from K lt x.number) (lent_from K lt y.number) ls
      ∙ sym (ap₂ (plus? K) (lent_b_none x.number (λ e. let q = px.lower in omega arith)) (lent_b_none y.number (λ e. let q = px.lower in omega arith)))
    where
      point : (w : Lease S) → Memᴰ w ls → now_from x.number w ≡ plus? K (lent_from K lt x.number w) (lent_from K lt y.number w)
      point w m = ⊎_elim
          (λ (e : w.lender ≡ y.number).
          let t₁ : eqb w.lender y.number ≡ true = eq-eqb w.lender y.number e in
          let t₂ : eqb x.number x.number ≡ true = eq-eqb x.number x.number refl in
          let t₃ : eqb w.lender x.number ≡ false = ne_eqb w.lender x.number (λ q. omega arith) in
          let t₄ : lt' w.number ≡ lt w.number = others w.number (λ q. omega (arith, lowers)) in
          simp (t₁, t₂, t₃, t₄) (sym (nothing_plus K L (lt w.number))))
          (λ (n : w.lender ≡ y.number → ⊥). let t₁ : eqb w.lender y.number ≡ false = ne_eqb w.lender y.number n in ⊎_elim
          (λ (e : w.lender ≡ x.number).
          let t₃ : eqb w.lender x.number ≡ true = eq-eqb w.lender x.number e in
          let t₄ : lt' w.number ≡ lt w.number = others w.number (λ q. omega (arith, lowers)) in
          simp (t₁, t₃, t₄) (sym (plus_nothing K L (lt w.number))))
          (λ (f : w.lender ≡ x.number → ⊥). let t₃ : eqb w.lender x.number ≡ false = ne_eqb w.lender x.number f in simp (t₁, t₃) (sym (plus_nothing K L (nothing K))))
          (cases_eq w.lender x.number))
          (cases_eq w.lender y.number)
        where
          lowers : w.lender < w.number
          lowers = inv_low K L I w (mem_close roll y.number w m).0

  under_other : (n : ℕ) → (n ≡ x.number → ⊥) → (n ≡ y.number → ⊥) → total K (now_from n) ls ≡ total K (lent_from K lt n) roll
  unfolding now_from
  under_other n na nb = total_ext K (now_from n) (lent_from K lt' n) ls point
      ∙ split_close K L (lent_from K lt' n) 0 ls rise x mxl
      ∙ ap₂ (plus? K) (ap (λ (w : Option S). cond (eqb x.lender n) w (nothing K)) got) (total_ext K (lent_from K lt' n) (lent_from K lt n) (close x.number ls) (λ w m. ap (λ (v : Option S). cond (eqb w.lender n) v (nothing K)) (others w.number (mem_close ls x.number w m).1)))
      ∙ go (eqb x.lender n) (total K (lent_from K lt n) (close x.number ls))
      ∙ sym (lent_b n ∙ ap (plus? K (cond (eqb x.lender n) (lt y.number) (nothing K))) (split_close K L (lent_from K lt n) 0 ls rise x mxl))
    where
      point : (w : Lease S) → Memᴰ w ls → now_from n w ≡ lent_from K lt' n w
      point w m = ⊎_elim
          (λ (e : w.lender ≡ y.number).
          let t₁ : eqb w.lender y.number ≡ true = eq-eqb w.lender y.number e in
          let t₂ : eqb x.number n ≡ false = ne_eqb x.number n (λ q. na (sym q)) in
          let t₃ : eqb w.lender n ≡ false = ne_eqb w.lender n (λ q. nb (sym q ∙ e)) in
          simp (t₁, t₂, t₃))
          (λ (f : w.lender ≡ y.number → ⊥). let t₁ : eqb w.lender y.number ≡ false = ne_eqb w.lender y.number f in simp t₁)
          (cases_eq w.lender y.number)

      go : (t : Bool) (r : Option S) → plus? K (cond t (plus? K (lt x.number) (lt y.number)) (nothing K)) r ≡ plus? K (cond t (lt y.number) (nothing K)) (plus? K (cond t (lt x.number) (nothing K)) r)
      go true r = ap (λ (w : Option S). plus? K w r) (plus_comm K L (lt x.number) (lt y.number)) ∙ plus_assoc K L (lt y.number) (lt x.number) r
      go false r = sym (nothing_plus K L (plus? K (nothing K) r))

  -- what a and b were lent, together
  both_lent : (u : S) × (lt' x.number ≡ Some u)
  both_lent =
      let p = px.its in
      let d = I.defined p px.among in
      let q : plus? K (lt' x.number) (plus? K (Some p.share) (total K (lent_from K lt x.lender) (close x.number ls))) ≡ Some d.0 =
      ap (λ (w : Option S). plus? K w (plus? K (Some p.share) (total K (lent_from K lt x.lender) (close x.number ls)))) got
      ∙ regroup (lt x.number) (lt y.number) (Some p.share) (total K (lent_from K lt x.lender) (close x.number ls))
      ∙ ap (plus? K (Some p.share)) (sym (lent_b x.lender ∙ ap₂ (plus? K) (cond-true (eqb x.lender x.lender) (lt y.number) (nothing K) (eq-eqb x.lender x.lender refl)) (split_close K L (lent_from K lt x.lender) 0 ls rise x mxl ∙ ap (λ (w : Option S). plus? K w (total K (lent_from K lt x.lender) (close x.number ls))) (cond-true (eqb x.lender x.lender) (lt x.number) (nothing K) (eq-eqb x.lender x.lender refl)))))
      ∙ ap (λ (n : ℕ). plus? K (Some p.share) (total K (lent_from K lt n) roll)) (sym px.is)
      ∙ I.balance p px.among ∙ d.1 in
      part_defined K L (lt' x.number) (plus? K (Some p.share) (total K (lent_from K lt x.lender) (close x.number ls))) d.0 q
    where
      regroup : (f g h r : Option S) → plus? K (plus? K f g) (plus? K h r) ≡ plus? K h (plus? K g (plus? K f r))
      regroup f g h r = plus_swap K L (plus? K f g) h r ∙ ap (plus? K h) (ap (λ (w : Option S). plus? K w r) (plus_comm K L f g) ∙ plus_assoc K L g f r)

  -- all that a and b have and lent
  regrouped : plus? K (plus? K (Some x.share) (Some y.share)) (plus? K (total K (lent_from K lt x.number) roll) (total K (lent_from K lt y.number) roll)) ≡ lt' x.number
  regrouped = mix (Some x.share) (Some y.share) (total K (lent_from K lt x.number) roll) (total K (lent_from K lt y.number) roll) ∙ ap₂ (plus? K) (I.balance x mx) (I.balance y my) ∙ sym got
    where
      mix : (f g h r : Option S) → plus? K (plus? K f g) (plus? K h r) ≡ plus? K (plus? K f h) (plus? K g r)
      mix f g h r = plus_assoc K L f g (plus? K h r) ∙ ap (plus? K f) (plus_swap K L g h r) ∙ sym (plus_assoc K L f h (plus? K g r))

  pub shares_join : plus? K (Some x.share) (Some y.share) ≡ Some j
  shares_join =
      let d = part_defined K L (plus? K (Some x.share) (Some y.share)) (plus? K (total K (lent_from K lt x.number) roll) (total K (lent_from K lt y.number) roll)) both_lent.0 (regrouped ∙ both_lent.1) in
      d.1 ∙ ap {B = Option S} Some (sym (plus_is K x.share y.share d.0 (sym (plus_join K x.share y.share) ∙ d.1)))

  j_not_empty : j ≡ K.empty → ⊥
  j_not_empty e = I.solid x mx (L.empty_has_no_parts x.share y.share (sym (plus_join K x.share y.share) ∙ shares_join ∙ ap {B = Option S} Some e)).0

  is_x : (w : Lease S) → Memᴰ w roll → w.number ≡ x.number → w ≡ x
  is_x w m e = one_number 0 roll I.rising w x m mx e

  lender_after : (z : Lease S) → Memᴰ z after → (z.lender ≡ 0 → ⊥) → Lender K after z
  lender_after z m nz = let w = was z m in ⊎_elim
      (λ (e : w.of.lender ≡ y.number).
      let p = I.lender w.of w.among (λ q. let r = less in omega arith) in
      let its_y : p.its ≡ y = one_number 0 roll I.rising p.its y p.among my (p.is ∙ e) in
      let t = becomes x mx (λ q. omega arith) in
      let zl : z.lender ≡ x.number = w.lender ∙ cond-true (eqb w.of.lender y.number) x.number w.of.lender (eq-eqb w.of.lender y.number e) in
      let f₁ = w.number in let f₂ = w.resource in let f₃ = w.due in
      let g₁ = p.lower in let g₂ = p.resource in let g₃ = p.due in
      let h₂ : p.its.resource ≡ y.resource = ap (λ (u : Lease S). u.resource) its_y in
      let h₃ : p.its.due ≡ y.due = ap (λ (u : Lease S). u.due) its_y in
      let r = one_resource in
      let k₁ = t.2 in let k₂ = t.3 in let k₃ = t.4 in
      record { its = t.0; among = t.1; is = omega arith; lower = omega arith; resource = omega arith; due = omega arith })
      (λ (n : w.of.lender ≡ y.number → ⊥).
      let zl : z.lender ≡ w.of.lender = w.lender ∙ cond-false (eqb w.of.lender y.number) x.number w.of.lender (ne_eqb w.of.lender y.number n) in
      let p = I.lender w.of w.among (λ q. nz (zl ∙ q)) in
      let t = becomes p.its p.among (λ q. n (sym p.is ∙ q)) in
      let f₁ = w.number in let f₂ = w.resource in let f₃ = w.due in
      let g₀ = p.is in let g₁ = p.lower in let g₂ = p.resource in let g₃ = p.due in
      let k₁ = t.2 in let k₂ = t.3 in let k₃ = t.4 in
      record { its = t.0; among = t.1; is = omega arith; lower = omega arith; resource = omega arith; due = omega arith })
      (cases_eq w.of.lender y.number)

  balance_after : (z : Lease S) → Memᴰ z after → plus? K (Some z.share) (total K (lent_from K lt' z.number) after) ≡ lt' z.number
  balance_after z m = let w = was z m in ⊎_elim
      (λ (e : w.of.number ≡ x.number).
      let zx : z.number ≡ x.number = w.number ∙ e in
      ap₂ (λ (s : S) (n : ℕ). plus? K (Some s) (total K (lent_from K lt' n) after)) (w.share_a e) zx
      ∙ ap₂ (plus? K) (sym shares_join) (after_lent x.number ∙ under_a)
      ∙ regrouped ∙ ap lt' (sym zx))
      (λ (n : w.of.number ≡ x.number → ⊥).
      ap₂ (λ (s : S) (k : ℕ). plus? K (Some s) (total K (lent_from K lt' k) after)) (w.share_other n) w.number
      ∙ ap (plus? K (Some w.of.share)) (after_lent w.of.number ∙ under_other w.of.number n w.not_b)
      ∙ I.balance w.of w.among ∙ sym (others w.of.number n) ∙ ap lt' (sym w.number))
      (cases_eq w.of.number x.number)

  all : (r : ℕ) → total K (share_in K r) after ≡ total K (share_in K r) roll
  all r = total_map K (share_in K r) (relent x.number y.number) cr
      ∙ total_ext K (λ w. share_in K r (relent x.number y.number w)) (share_in K r) cr (λ w m. let q = relent_is x.number y.number w in ap₂ (λ (u : ℕ) (s : S). cond (eqb u r) (Some s) (nothing K)) q.resource q.share)
      ∙ split_change K L (share_in K r) (with_share j) 0 ls rise x mxl
      ∙ go (eqb x.resource r) (total K (share_in K r) (close x.number ls))
      ∙ sym (split_close K L (share_in K r) 0 roll I.rising y my ∙ ap₂ (plus? K) (ap (λ (u : ℕ). cond (eqb u r) (Some y.share) (nothing K)) (sym one_resource)) (split_close K L (share_in K r) 0 ls rise x mxl))
    where
      go : (t : Bool) (r : Option S) → plus? K (cond t (Some j) (nothing K)) r ≡ plus? K (cond t (Some y.share) (nothing K)) (plus? K (cond t (Some x.share) (nothing K)) r)
      go true r = ap (λ (w : Option S). plus? K w r) (sym shares_join ∙ plus_comm K L (Some x.share) (Some y.share)) ∙ plus_assoc K L (Some y.share) (Some x.share) r
      go false r = sym (nothing_plus K L (plus? K (nothing K) r))

  pub inv_merge : Inv K (relend x.number y.number (change x.number (with_share (plus K x.share y.share)) (close y.number roll))) issued lt'
  inv_merge = record {
    rising = rising_map (relent x.number y.number) (λ l. (relent_is x.number y.number l).number) 0 cr (rising_change x.number (with_share j) (λ l. refl) 0 ls rise);
    within = λ z m. let w = was z m in let q = I.within w.of w.among in let e = w.number in omega arith;
    solid = λ z m e. let w = was z m in ⊎_elim (λ (q : w.of.number ≡ x.number). j_not_empty (sym (w.share_a q) ∙ e)) (λ (n : w.of.number ≡ x.number → ⊥). I.solid w.of w.among (sym (w.share_other n) ∙ e)) (cases_eq w.of.number x.number);
    first = λ z m e. let w = was z m in ⊎_elim
        (λ (q : w.of.lender ≡ y.number). absurd (let t : z.lender ≡ x.number = w.lender ∙ cond-true (eqb w.of.lender y.number) x.number w.of.lender (eq-eqb w.of.lender y.number q) in let r = rising_above 0 roll I.rising x mx in omega arith))
        (λ (n : w.of.lender ≡ y.number → ⊥).
        let zl : w.of.lender ≡ 0 = sym (w.lender ∙ cond-false (eqb w.of.lender y.number) x.number w.of.lender (ne_eqb w.of.lender y.number n)) ∙ e in
        ap lt' w.number ∙ others w.of.number (λ q. lent (ap (λ (u : Lease S). u.lender) (sym (is_x w.of w.among q)) ∙ zl)) ∙ I.first w.of w.among zl)
        (cases_eq w.of.lender y.number);
    lender = lender_after;
    balance = balance_after;
    defined = λ z m. let w = was z m in ⊎_elim (λ (q : w.of.number ≡ x.number). (both_lent.0, ap lt' (w.number ∙ q) ∙ both_lent.1)) (λ (n : w.of.number ≡ x.number → ⊥). let d = I.defined w.of w.among in (d.0, ap lt' w.number ∙ others w.of.number n ∙ d.1)) (cases_eq w.of.number x.number);
    whole = λ r z m e. let w = was z m in all r ∙ I.whole r w.of w.among (sym w.resource ∙ e);
  }
