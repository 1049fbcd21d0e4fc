-- Opening a resource and lending a half filter the invariant.
use Rattle.std.proofs.Common.{◌≡◌, ℕ, ◌+◌, ◌<◌, ◌≤◌, Bool, true, false, cond, eqb, List, [], ◌∷◌, ◌++◌, Some, Option, sym, refl, ap, ◌∙◌, subst, ap₂, ⊎_elim, arith}
use mathlib.Core.List.{Memᴰ}
use Rattle.std.proofs.lemmas.Bool.{eq-eqb, ne_eqb, cases_eq, cond-true, cond-false}
use Rattle.lending.specs.declared.lease.Lease.{Lease}
use Rattle.shares.specs.Kind.{Kind, Laws}
use Rattle.lending.specs.Roll.{change, close, with_share}
use Rattle.lending.specs.Calls.{first_lease, lent_lease}
use Rattle.shares.proofs.Sums.{plus?, plus_join, nothing, plus_comm, plus_assoc, plus_nothing, nothing_plus}
use Rattle.lending.proofs.Totals.{total, total_nothing}
use Rattle.lending.proofs.Rolls.{rising_above, rising_last, rising_change, Changed, mem_change, change_mem_same, one_number, split_change, split_close}
use Rattle.lending.proofs.Rolls.Changed.{changed, unchanged}
use Rattle.lending.proofs.Invariant.{Inv, lent_from, share_in}
use Rattle.lending.proofs.Families.{inv_low}
use Rattle.lending.proofs.Changes.{Like, source, mem_last, lenders_change, lenders_last, lent_from_change, lent_from_ext, total_last}

module _ {S : Type 0} (K : Kind S) (L : Laws K) {roll : List (Lease S)} {issued : ℕ} {lt : ℕ → Option S} (I : Inv K roll issued lt) where
  -- nobody was lent anything by a number that is yet to be issued
  pub lent_by_none : (lt' : ℕ → Option S) → total K (lent_from K lt' (issued + 1)) roll ≡ nothing K
  lent_by_none lt' = total_nothing K L (lent_from K lt' (issued + 1)) roll (λ x m. cond-false (eqb x.lender (issued + 1)) (lt' x.number) (nothing K) (ne_eqb x.lender (issued + 1) (λ e. let a = inv_low K L I x m in let b = I.within x m in omega arith)))

  module _ (lt' : ℕ → Option S) (same : (n : ℕ) → n ≤ issued → lt' n ≡ lt n) where
    same_lent : (m : ℕ) → total K (lent_from K lt' m) roll ≡ total K (lent_from K lt m) roll
    same_lent m = lent_from_ext K lt' lt m roll (λ x k. same x.number (I.within x k))

    pub inv_open : (r h : ℕ) → ((x : Lease S) → Memᴰ x roll → x.resource ≡ r → ⊥) → lt' (issued + 1) ≡ Some K.whole → Inv K (roll ++ (first_lease K (issued + 1) r h ∷ [])) (issued + 1) lt'
    inv_open r h closed got = record {
      rising = rising_last 0 roll new (omega arith) (λ x m. let q = I.within x m in omega arith) I.rising;
      within = λ x m. ⊎_elim (λ (k : Memᴰ x roll). let q = I.within x k in omega arith) (λ (e : x ≡ new). let q : x.number ≡ issued + 1 = ap (λ (y : Lease S). y.number) e in omega arith) (mem_last roll new x m);
      solid = λ x m z. ⊎_elim (λ (k : Memᴰ x roll). I.solid x k z) (λ (e : x ≡ new). L.whole_not_empty (ap (λ (y : Lease S). y.share) (sym e) ∙ z)) (mem_last roll new x m);
      first = λ x m z. ⊎_elim (λ (k : Memᴰ x roll). same x.number (I.within x k) ∙ I.first x k z) (λ (e : x ≡ new). ap (λ (y : Lease S). lt' y.number) e ∙ got) (mem_last roll new x m);
      lender = lenders_last K roll new I.lender (λ n. absurd (n refl));
      balance = λ x m. ⊎_elim (λ (k : Memᴰ x roll). old x k) (λ (e : x ≡ new). subst (λ (y : Lease S). plus? K (Some y.share) (total K (lent_from K lt' y.number) (roll ++ (new ∷ []))) ≡ lt' y.number) (sym e) fresh) (mem_last roll new x m);
      defined = λ x m. ⊎_elim (λ (k : Memᴰ x roll). let d = I.defined x k in (d.0, same x.number (I.within x k) ∙ d.1)) (λ (e : x ≡ new). (K.whole, ap (λ (y : Lease S). lt' y.number) e ∙ got)) (mem_last roll new x m);
      whole = λ q x m e. ⊎_elim (λ (w : r ≡ q). total_last K L (share_in K q) roll new
          ∙ ap₂ (plus? K) (total_nothing K L (share_in K q) roll (λ y k. cond-false (eqb y.resource q) (Some y.share) (nothing K) (ne_eqb y.resource q (λ z. closed y k (z ∙ sym w)))))
          (cond-true (eqb r q) (Some K.whole) (nothing K) (eq-eqb r q w))
          ∙ nothing_plus K L (Some K.whole))
          (λ (w : r ≡ q → ⊥). total_last K L (share_in K q) roll new
          ∙ ap (plus? K (total K (share_in K q) roll)) (cond-false (eqb r q) (Some K.whole) (nothing K) (ne_eqb r q w))
          ∙ plus_nothing K L (total K (share_in K q) roll)
          ∙ ⊎_elim (λ (k : Memᴰ x roll). I.whole q x k e) (λ (z : x ≡ new). absurd (w (ap (λ (y : Lease S). y.resource) (sym z) ∙ e))) (mem_last roll new x m))
          (cases_eq r q);
    }
      where
        new : Lease S
        new = first_lease K (issued + 1) r h

        none_new : (n : ℕ) → 0 < n → lent_from K lt' n new ≡ nothing K
        none_new n p = cond-false (eqb 0 n) (lt' (issued + 1)) (nothing K) (ne_eqb 0 n (λ e. omega arith))

        old : (x : Lease S) → Memᴰ x roll → plus? K (Some x.share) (total K (lent_from K lt' x.number) (roll ++ (new ∷ []))) ≡ lt' x.number
        old x k = ap (plus? K (Some x.share)) (total_last K L (lent_from K lt' x.number) roll new ∙ ap₂ (plus? K) (same_lent x.number) (none_new x.number (rising_above 0 roll I.rising x k)) ∙ plus_nothing K L (total K (lent_from K lt x.number) roll))
            ∙ I.balance x k ∙ sym (same x.number (I.within x k))

        fresh : plus? K (Some K.whole) (total K (lent_from K lt' (issued + 1)) (roll ++ (new ∷ []))) ≡ lt' (issued + 1)
        fresh = ap (plus? K (Some K.whole)) (total_last K L (lent_from K lt' (issued + 1)) roll new ∙ ap₂ (plus? K) (lent_by_none lt') (none_new (issued + 1) (omega arith)) ∙ plus_nothing K L (nothing K))
            ∙ plus_nothing K L (Some K.whole) ∙ sym got

    pub inv_lend : (p : Lease S) → Memᴰ p roll → (kept lent : S) → K.halve p.share ≡ Some (kept, lent) → (h due : ℕ) → due ≤ p.due → lt' (issued + 1) ≡ Some lent
        → Inv K (change p.number (with_share kept) roll ++ (lent_lease (issued + 1) p h due lent ∷ [])) (issued + 1) lt'
    inv_lend p mp kept lent cut h due by got = record {
      rising = rising_last 0 cr new (omega arith) (λ x m. let s = src x m in let q = I.within s.0 s.1 in let e = s.2.number in omega arith) (rising_change p.number (with_share kept) (λ l. refl) 0 roll I.rising);
      within = λ x m. ⊎_elim (λ (k : Memᴰ x cr). let s = src x k in let q = I.within s.0 s.1 in let e = s.2.number in omega arith) (λ (e : x ≡ new). let q : x.number ≡ issued + 1 = ap (λ (y : Lease S). y.number) e in omega arith) (mem_last cr new x m);
      solid = λ x m z. ⊎_elim (λ (k : Memᴰ x cr). solid_cr x (mem_change roll p.number (with_share kept) x k) z) (λ (e : x ≡ new). (L.halves_not_empty p.share kept lent cut).1 (ap (λ (y : Lease S). y.share) (sym e) ∙ z)) (mem_last cr new x m);
      first = λ x m z. ⊎_elim (λ (k : Memᴰ x cr). let s = src x k in ap lt' s.2.number ∙ same s.0.number (I.within s.0 s.1) ∙ I.first s.0 s.1 (sym s.2.lender ∙ z)) (λ (e : x ≡ new). absurd (let q : x.lender ≡ p.number = ap (λ (y : Lease S). y.lender) e in let w = rising_above 0 roll I.rising p mp in omega arith)) (mem_last cr new x m);
      lender = lenders_last K cr new (lenders_change K p.number (with_share kept) keeps roll I.lender) (λ n. record { its = with_share kept p; among = change_mem_same roll p.number (with_share kept) p mp refl; is = refl; lower = let q = I.within p mp in omega arith; resource = refl; due = by });
      balance = λ x m. ⊎_elim (λ (k : Memᴰ x cr). old x (mem_change roll p.number (with_share kept) x k)) (λ (e : x ≡ new). subst (λ (y : Lease S). plus? K (Some y.share) (total K (lent_from K lt' y.number) (cr ++ (new ∷ []))) ≡ lt' y.number) (sym e) fresh) (mem_last cr new x m);
      defined = λ x m. ⊎_elim (λ (k : Memᴰ x cr). let s = src x k in let d = I.defined s.0 s.1 in (d.0, ap lt' s.2.number ∙ same s.0.number (I.within s.0 s.1) ∙ d.1)) (λ (e : x ≡ new). (lent, ap (λ (y : Lease S). lt' y.number) e ∙ got)) (mem_last cr new x m);
      whole = λ q x m e. all q ∙ ⊎_elim (λ (k : Memᴰ x cr). let s = src x k in I.whole q s.0 s.1 (sym s.2.resource ∙ e)) (λ (z : x ≡ new). I.whole q p mp (ap (λ (y : Lease S). y.resource) (sym z) ∙ e)) (mem_last cr new x m);
    }
      where
        new : Lease S
        new = lent_lease (issued + 1) p h due lent

        cr : List (Lease S)
        cr = change p.number (with_share kept) roll

        keeps : (l : Lease S) → Like (with_share kept l) l
        keeps l = record { number = refl; resource = refl; lender = refl; due = refl }

        src : (x : Lease S) → Memᴰ x cr → (y : Lease S) × Memᴰ y roll × Like x y
        src x m = source roll p.number (with_share kept) keeps x m

        solid_cr : (x : Lease S) → Changed roll p.number (with_share kept) x → x.share ≡ K.empty → ⊥
        solid_cr x (changed y k e q) z = (L.halves_not_empty p.share kept lent cut).0 (ap (λ (w : Lease S). w.share) (sym q) ∙ z)
        solid_cr x (unchanged k e) z = I.solid x k z

        halved : plus? K (Some kept) (Some lent) ≡ Some p.share
        halved = plus_join K kept lent ∙ L.halves_join p.share kept lent cut

        lent_all : (n : ℕ) → total K (lent_from K lt' n) (cr ++ (new ∷ [])) ≡ plus? K (total K (lent_from K lt n) roll) (cond (eqb p.number n) (Some lent) (nothing K))
        lent_all n = total_last K L (lent_from K lt' n) cr new ∙ ap₂ (plus? K) (lent_from_change K lt' n p.number (with_share kept) keeps roll ∙ same_lent n) (ap (λ (w : Option S). cond (eqb p.number n) w (nothing K)) got)

        old : (x : Lease S) → Changed roll p.number (with_share kept) x → plus? K (Some x.share) (total K (lent_from K lt' x.number) (cr ++ (new ∷ []))) ≡ lt' x.number
        old x (changed y k e q) =
            let yp : y ≡ p = one_number 0 roll I.rising y p k mp e in
            let xk : x ≡ with_share kept p = q ∙ ap (with_share kept) yp in
            subst (λ (z : Lease S). plus? K (Some z.share) (total K (lent_from K lt' z.number) (cr ++ (new ∷ []))) ≡ lt' z.number) (sym xk)
            (ap (plus? K (Some kept)) (lent_all p.number ∙ ap (plus? K (total K (lent_from K lt p.number) roll)) (cond-true (eqb p.number p.number) (Some lent) (nothing K) (eq-eqb p.number p.number refl)) ∙ plus_comm K L (total K (lent_from K lt p.number) roll) (Some lent))
            ∙ sym (plus_assoc K L (Some kept) (Some lent) (total K (lent_from K lt p.number) roll))
            ∙ ap (λ (w : Option S). plus? K w (total K (lent_from K lt p.number) roll)) halved
            ∙ I.balance p mp ∙ sym (same p.number (I.within p mp)))
        old x (unchanged k e) = ap (plus? K (Some x.share)) (lent_all x.number ∙ ap (plus? K (total K (lent_from K lt x.number) roll)) (cond-false (eqb p.number x.number) (Some lent) (nothing K) (ne_eqb p.number x.number (λ z. e (sym z)))) ∙ plus_nothing K L (total K (lent_from K lt x.number) roll))
            ∙ I.balance x k ∙ sym (same x.number (I.within x k))

        fresh : plus? K (Some lent) (total K (lent_from K lt' (issued + 1)) (cr ++ (new ∷ []))) ≡ lt' (issued + 1)
        fresh = ap (plus? K (Some lent)) (total_last K L (lent_from K lt' (issued + 1)) cr new ∙ ap₂ (plus? K) (lent_from_change K lt' (issued + 1) p.number (with_share kept) keeps roll ∙ lent_by_none lt') (cond-false (eqb p.number (issued + 1)) (lt' (issued + 1)) (nothing K) (ne_eqb p.number (issued + 1) (λ e. let q = I.within p mp in omega arith))) ∙ plus_nothing K L (nothing K))
            ∙ plus_nothing K L (Some lent) ∙ sym got

        rest : ℕ → Option S
        rest q = total K (share_in K q) (close p.number roll)

        all : (q : ℕ) → total K (share_in K q) (cr ++ (new ∷ [])) ≡ total K (share_in K q) roll
        all q = total_last K L (share_in K q) cr new ∙ ap (λ (w : Option S). plus? K w (share_in K q new)) (split_change K L (share_in K q) (with_share kept) 0 roll I.rising p mp) ∙ go (eqb p.resource q) ∙ sym (split_close K L (share_in K q) 0 roll I.rising p mp)
          where
            go : (b : Bool) → plus? K (plus? K (cond b (Some kept) (nothing K)) (rest q)) (cond b (Some lent) (nothing K)) ≡ plus? K (cond b (Some p.share) (nothing K)) (rest q)
            go true = plus_assoc K L (Some kept) (rest q) (Some lent) ∙ ap (plus? K (Some kept)) (plus_comm K L (rest q) (Some lent)) ∙ sym (plus_assoc K L (Some kept) (Some lent) (rest q)) ∙ ap (λ (w : Option S). plus? K w (rest q)) halved
            go false = plus_nothing K L (plus? K (nothing K) (rest q))
