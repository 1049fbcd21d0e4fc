-- A yield and an assignment filter the invariant.
use Rattle.std.proofs.Common.{◌≡◌, ℕ, Bool, true, false, cond, not, eqb, List, Some, Option, unwrap_or, sym, refl, ap, ◌∙◌, subst, ap₂, ⊎_elim, arith}
use mathlib.Core.List.{Memᴰ}
use Rattle.std.proofs.lemmas.Bool.{eq-eqb, ne_eqb, cases_eq, cond-true, cond-false}
use Rattle.lending.specs.declared.lease.Lease.{Lease}
use Rattle.shares.specs.Kind.{Kind, Laws}
use Rattle.lending.specs.Roll.{change, close, with_holder, plus, gaining}
use Rattle.shares.proofs.Sums.{plus?, nothing, plus_join, plus_comm, plus_assoc, plus_nothing, nothing_plus}
use Rattle.lending.proofs.Joins.{whole_rest, part_defined}
use Rattle.lending.proofs.Totals.{total, total_nothing}
use Rattle.lending.proofs.Rolls.{rising_above, rising_keep, rising_change, Changed, mem_change, change_absent, mem_close, close_mem, split_change, split_close, total_change}
use Rattle.lending.proofs.Rolls.Changed.{changed, unchanged}
use Rattle.lending.proofs.Invariant.{Inv, lent_from, share_in, total_parts}
use Rattle.lending.proofs.Changes.{Like, like_same, source, lenders_change, lenders_close, lent_from_change}

pub gaining_keeps : {S : Type 0} (K : Kind S) (s : S) (p : Lease S) → Like (gaining K s p) p
gaining_keeps K s p = record { number = refl; resource = refl; lender = refl; due = refl }

pub plus_is : {S : Type 0} (K : Kind S) (a b s : S) → K.join a b ≡ Some s → plus K a b ≡ s
plus_is K a b s e = ap (λ (o : Option _). unwrap_or o a) e

module _ {S : Type 0} (K : Kind S) (L : Laws K) {roll : List (Lease S)} {issued : ℕ} {lt : ℕ → Option S} (I : Inv K roll issued lt)
    (l : Lease S) (ml : Memᴰ l roll) (none : (x : Lease S) → Memᴰ x roll → x.lender ≡ l.number → ⊥) where
  abbrev pub rest : List (Lease S)
  rest = close l.number roll

  -- what it has is what it was lent
  pub has_all : Some l.share ≡ lt l.number
  has_all = sym (ap (plus? K (Some l.share)) (total_nothing K L (lent_from K lt l.number) roll (λ x m. cond-false (eqb x.lender l.number) (lt x.number) (nothing K) (ne_eqb x.lender l.number (none x m)))) ∙ plus_nothing K L (Some l.share)) ∙ I.balance l ml

  lent_split : (n : ℕ) → total K (lent_from K lt n) roll ≡ plus? K (cond (eqb l.lender n) (Some l.share) (nothing K)) (total K (lent_from K lt n) rest)
  lent_split n = split_close K L (lent_from K lt n) 0 roll I.rising l ml ∙ ap (λ (w : Option S). plus? K (cond (eqb l.lender n) w (nothing K)) (total K (lent_from K lt n) (close l.number roll))) (sym has_all)

  -- the lender's share and this one join
  pub lender_joins : (p : Lease S) → Memᴰ p roll → p.number ≡ l.lender → (j : S) × (K.join p.share l.share ≡ Some j) × (plus? K (Some j) (total K (lent_from K lt p.number) rest) ≡ lt p.number)
  lender_joins p mp e =
      let d = I.defined p mp in
      let b : plus? K (plus? K (Some p.share) (Some l.share)) (total K (lent_from K lt p.number) rest) ≡ lt p.number =
      plus_assoc K L (Some p.share) (Some l.share) (total K (lent_from K lt p.number) rest)
      ∙ ap (plus? K (Some p.share)) (sym (lent_split p.number ∙ ap (λ (w : Option S). plus? K w (total K (lent_from K lt p.number) rest)) (cond-true (eqb l.lender p.number) (Some l.share) (nothing K) (eq-eqb l.lender p.number (sym e)))))
      ∙ I.balance p mp in
      let j = part_defined K L (plus? K (Some p.share) (Some l.share)) (total K (lent_from K lt p.number) rest) d.0 (b ∙ d.1) in
      (j.0, sym (plus_join K p.share l.share) ∙ j.1, ap (λ (w : Option S). plus? K w (total K (lent_from K lt p.number) rest)) (sym j.1) ∙ b)

  abbrev pub after : List (Lease S)
  after = change l.lender (gaining K l.share) rest

  src : (x : Lease S) → Memᴰ x after → (y : Lease S) × Memᴰ y roll × Like x y
  src x m = let s = source rest l.lender (gaining K l.share) (gaining_keeps K l.share) x m in (s.0, (mem_close roll l.number s.0 s.1).0, s.2)

  solid_after : (x : Lease S) → Changed rest l.lender (gaining K l.share) x → x.share ≡ K.empty → ⊥
  solid_after x (changed y k e q) z =
      let my = (mem_close roll l.number y k).0 in
      let j = lender_joins y my e in
      let w : j.0 ≡ K.empty = sym (plus_is K y.share l.share j.0 j.1) ∙ ap (λ (v : Lease S). v.share) (sym q) ∙ z in
      I.solid y my (L.empty_has_no_parts y.share l.share (j.1 ∙ ap {B = Option S} Some w)).0
  solid_after x (unchanged k e) z = I.solid x (mem_close roll l.number x k).0 z

  balance_after : (x : Lease S) → Changed rest l.lender (gaining K l.share) x → plus? K (Some x.share) (total K (lent_from K lt x.number) after) ≡ lt x.number
  balance_after x (changed y k e q) =
      let my = (mem_close roll l.number y k).0 in
      let j = lender_joins y my e in
      subst (λ (z : Lease S). plus? K (Some z.share) (total K (lent_from K lt z.number) after) ≡ lt z.number) (sym q)
      (ap₂ (λ (s : S) (t : Option S). plus? K (Some s) t) (plus_is K y.share l.share j.0 j.1) (lent_from_change K lt y.number l.lender (gaining K l.share) (gaining_keeps K l.share) rest) ∙ j.2)
  balance_after x (unchanged k e) =
      ap (plus? K (Some x.share)) (lent_from_change K lt x.number l.lender (gaining K l.share) (gaining_keeps K l.share) rest
      ∙ sym (lent_split x.number ∙ ap (λ (w : Option S). plus? K w (total K (lent_from K lt x.number) rest)) (cond-false (eqb l.lender x.number) (Some l.share) (nothing K) (ne_eqb l.lender x.number (λ z. e (sym z)))) ∙ nothing_plus K L (total K (lent_from K lt x.number) rest)))
      ∙ I.balance x (mem_close roll l.number x k).0

  -- a first lease had all: nothing of the resource is left
  house_rest : l.lender ≡ 0 → (x : Lease S) → Memᴰ x rest → x.resource ≡ l.resource → ⊥
  house_rest z x m e =
      let mx = (mem_close roll l.number x m).0 in
      let lw : Some l.share ≡ Some K.whole = has_all ∙ I.first l ml z in
      let t : plus? K (Some K.whole) (total K (share_in K l.resource) rest) ≡ Some K.whole =
      ap (λ (w : Option S). plus? K w (total K (share_in K l.resource) rest)) (sym (cond-true (eqb l.resource l.resource) (Some l.share) (nothing K) (eq-eqb l.resource l.resource refl) ∙ lw))
      ∙ sym (split_close K L (share_in K l.resource) 0 roll I.rising l ml) ∙ I.whole l.resource l ml refl in
      let n = whole_rest K L (total K (share_in K l.resource) rest) K.whole t in
      let p = total_parts K L (share_in K l.resource) rest n x m in
      let c : cond (eqb x.resource l.resource) (Some x.share) (nothing K) ≡ Some x.share = cond-true (eqb x.resource l.resource) (Some x.share) (nothing K) (eq-eqb x.resource l.resource e) in
      I.solid x mx (cc)

  whole_after : (r : ℕ) (x : Lease S) → Memᴰ x after → x.resource ≡ r → total K (share_in K r) after ≡ Some K.whole
  whole_after r x m e = let s = src x m in ⊎_elim
      (λ (z : l.lender ≡ 0).
      let same : after ≡ rest = change_absent rest l.lender (gaining K l.share) (λ y k q. let a = rising_above 0 roll I.rising y (mem_close roll l.number y k).0 in omega arith) in
      let mx : Memᴰ (source rest l.lender (gaining K l.share) (gaining_keeps K l.share) x m).0 rest = (source rest l.lender (gaining K l.share) (gaining_keeps K l.share) x m).1 in
      let ex : (source rest l.lender (gaining K l.share) (gaining_keeps K l.share) x m).0.resource ≡ r = sym (source rest l.lender (gaining K l.share) (gaining_keeps K l.share) x m).2.resource ∙ e in
      ap (total K (share_in K r)) same ∙ sym (nothing_plus K L (total K (share_in K r) rest))
      ∙ ap (λ (w : Option S). plus? K w (total K (share_in K r) rest)) (sym (cond-false (eqb l.resource r) (Some l.share) (nothing K) (ne_eqb l.resource r (λ q. house_rest z (source rest l.lender (gaining K l.share) (gaining_keeps K l.share) x m).0 mx (ex ∙ sym q)))))
      ∙ sym (split_close K L (share_in K r) 0 roll I.rising l ml)
      ∙ I.whole r s.0 s.1 (sym s.2.resource ∙ e))
      (λ (nz : l.lender ≡ 0 → ⊥).
      let p = I.lender l ml nz in
      let mr : Memᴰ p.its rest = close_mem roll l.number p.its p.among (λ q. let a = p.is in let b = p.lower in omega arith) in
      let j = lender_joins p.its p.among p.is in
      let lr : plus? K (Some p.its.share) (Some l.share) ≡ Some (plus K p.its.share l.share) = plus_join K p.its.share l.share ∙ j.1 ∙ ap {B = Option S} Some (sym (plus_is K p.its.share l.share j.0 j.1)) in
      ap (λ (n : ℕ). total K (share_in K r) (change n (gaining K l.share) rest)) (sym p.is)
      ∙ split_change K L (share_in K r) (gaining K l.share) 0 rest (rising_keep (λ x. not (eqb x.number l.number)) 0 roll I.rising) p.its mr
      ∙ go p.its.share (total K (share_in K r) (close p.its.number rest)) lr (eqb p.its.resource r)
      ∙ sym (split_close K L (share_in K r) 0 roll I.rising l ml
      ∙ ap₂ (plus? K) (ap (λ (w : ℕ). cond (eqb w r) (Some l.share) (nothing K)) (sym p.resource)) (split_close K L (share_in K r) 0 rest (rising_keep (λ x. not (eqb x.number l.number)) 0 roll I.rising) p.its mr))
      ∙ I.whole r s.0 s.1 (sym s.2.resource ∙ e))
      (cases_eq l.lender 0)
    where
      go : (s : S) (t : Option S) → plus? K (Some s) (Some l.share) ≡ Some (plus K s l.share) → (b : Bool) → plus? K (cond b (Some (plus K s l.share)) (nothing K)) t ≡ plus? K (cond b (Some l.share) (nothing K)) (plus? K (cond b (Some s) (nothing K)) t)
      go s t h true = ap (λ (w : Option S). plus? K w t) (sym h ∙ plus_comm K L (Some s) (Some l.share)) ∙ plus_assoc K L (Some l.share) (Some s) t
      go s t h false = sym (nothing_plus K L (plus? K (nothing K) t))

  pub inv_yield : Inv K (change l.lender (gaining K l.share) (close l.number roll)) issued lt
  inv_yield = record {
    rising = rising_change l.lender (gaining K l.share) (λ x. refl) 0 rest (rising_keep (λ x. not (eqb x.number l.number)) 0 roll I.rising);
    within = λ x m. let s = src x m in let q = I.within s.0 s.1 in let e = s.2.number in omega arith;
    solid = λ x m z. solid_after x (mem_change rest l.lender (gaining K l.share) x m) z;
    first = λ x m z. let s = src x m in ap lt s.2.number ∙ I.first s.0 s.1 (sym s.2.lender ∙ z);
    lender = lenders_change K l.lender (gaining K l.share) (gaining_keeps K l.share) rest (lenders_close K l.number roll I.lender none);
    balance = λ x m. balance_after x (mem_change rest l.lender (gaining K l.share) x m);
    defined = λ x m. let s = src x m in let d = I.defined s.0 s.1 in (d.0, ap lt s.2.number ∙ d.1);
    whole = whole_after;
  }

module _ {S : Type 0} (K : Kind S) (L : Laws K) {roll : List (Lease S)} {issued : ℕ} {lt : ℕ → Option S} (I : Inv K roll issued lt) (n h : ℕ) where
  holder_keeps : (l : Lease S) → Like (with_holder h l) l
  holder_keeps l = record { number = refl; resource = refl; lender = refl; due = refl }

  same_share : (x : Lease S) → Changed roll n (with_holder h) x → (y : Lease S) × Memᴰ y roll × Like x y × (x.share ≡ y.share)
  same_share x (changed y k e q) = (y, k, subst (λ (z : Lease S). Like z y) (sym q) (holder_keeps y), ap (λ (z : Lease S). z.share) q)
  same_share x (unchanged k e) = (x, k, like_same x x refl, refl)

  pub inv_assign : Inv K (change n (with_holder h) roll) issued lt
  inv_assign = record {
    rising = rising_change n (with_holder h) (λ x. refl) 0 roll I.rising;
    within = λ x m. let s = src x m in let q = I.within s.0 s.1 in let e = s.2.number in omega arith;
    solid = λ x m z. let s = src x m in I.solid s.0 s.1 (sym s.3 ∙ z);
    first = λ x m z. let s = src x m in ap lt s.2.number ∙ I.first s.0 s.1 (sym s.2.lender ∙ z);
    lender = lenders_change K n (with_holder h) holder_keeps roll I.lender;
    balance = λ x m. let s = src x m in
        ap₂ (λ (a : S) (k : ℕ). plus? K (Some a) (total K (lent_from K lt k) (change n (with_holder h) roll))) s.3 s.2.number
        ∙ ap (plus? K (Some s.0.share)) (lent_from_change K lt s.0.number n (with_holder h) holder_keeps roll)
        ∙ I.balance s.0 s.1 ∙ ap lt (sym s.2.number);
    defined = λ x m. let s = src x m in let d = I.defined s.0 s.1 in (d.0, ap lt s.2.number ∙ d.1);
    whole = λ r x m e. let s = src x m in total_change K (share_in K r) (with_holder h) n roll (λ y k q. refl) ∙ I.whole r s.0 s.1 (sym s.2.resource ∙ e);
  }
    where
      src : (x : Lease S) → Memᴰ x (change n (with_holder h) roll) → (y : Lease S) × Memᴰ y roll × Like x y × (x.share ≡ y.share)
      src x m = same_share x (mem_change roll n (with_holder h) x m)
