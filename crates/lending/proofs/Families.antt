-- A lease and all under it come to what it was lent.
use Rattle.std.proofs.Common.{◌≡◌, ℕ, zero, suc, ◌<◌, ◌≤◌, Bool, true, false, cond, not, ◌&&◌, ◌||◌, eqb, ltb, ◌⊎◌, List, [], ◌∷◌, map, Some, None, Option, sym, refl, ap, ◌∙◌, ap₂, inl, inr, ⊎_elim, arith}
use Rattle.std.specs.List.{list_any}
use mathlib.Core.List.{Memᴰ}
use Rattle.std.proofs.lemmas.Bool.{eqb-true, eq-eqb, ne_eqb, lt-ltb, le-ltb, cases_eq, cases_lt, cond-true, cond-false}
use Rattle.lending.specs.declared.lease.Lease.{Lease}
use Rattle.shares.specs.Kind.{Kind, Laws}
use Rattle.shares.specs.Joins.{JoinTo, together}
use Rattle.lending.specs.Roll.{find, close, lenders, lender_then, under, family}
use Rattle.shares.proofs.Sums.{plus?, nothing, plus_assoc, plus_nothing, nothing_plus}
use Rattle.lending.proofs.Joins.{joins_every_way}
use Rattle.lending.proofs.Totals.{total, where_is, total_ext, total_nothing, total_plus, together_keep}
use Rattle.lending.proofs.Rolls.{Rising, rising_above, in_find, find_in, absent_found, mem_close, split_close}
use Rattle.lending.proofs.Invariant.{Inv, lent_from}

module _ {S : Type 0} where
  -- each lender has a lower number
  abbrev pub Low : List (Lease S) → Type 0
  Low ls = (l : Lease S) → Memᴰ l ls → l.lender < l.number

  -- number 0 is nobody's
  abbrev pub NoZero : List (Lease S) → Type 0
  NoZero ls = find ls 0 ≡ None

  module _ (roll : List (Lease S)) (low : Low roll) (nz : NoZero roll) where
    then_none : (n : ℕ) → n ≡ 0 → (f : ℕ → List ℕ) → lender_then (find roll n) f ≡ []
    then_none n e f = ap (λ (k : ℕ). lender_then (find roll k) f) e ∙ ap (λ (o : Option (Lease S)). lender_then o f) nz

    low_found : (n : ℕ) (l : Lease S) → find roll n ≡ Some l → l.lender < n
    low_found n l e = let r = find_in roll n l e in let q = low l r.0 in let w = r.1 in omega arith

    -- more steps than a number says change nothing
    pub enough : (k j n : ℕ) → n ≤ k → n ≤ j → lenders k roll n ≡ lenders j roll n
    enough zero zero n a b = refl
    enough zero (suc j) n a b = sym (then_none n (omega arith) (λ m. lenders j roll m))
    enough (suc k) zero n a b = then_none n (omega arith) (λ m. lenders k roll m)
    enough (suc k) (suc j) n a b = go (find roll n) refl (λ m x y. enough k j m x y)
      where
        go : (o : Option (Lease S)) → find roll n ≡ o → ((m : ℕ) → m ≤ k → m ≤ j → lenders k roll m ≡ lenders j roll m) → lender_then o (λ m. lenders k roll m) ≡ lender_then o (λ m. lenders j roll m)
        go None e ih = refl
        go (Some l) e ih = let q = low_found n l e in ap (λ (w : List ℕ). cond (eqb l.lender 0) [] (l.lender ∷ w)) (ih l.lender (omega arith) (omega arith))

    -- what stands above a lease has a lower number
    pub above_lower : (k n m : ℕ) → m ≤ n → list_any (λ x. eqb x n) (lenders k roll m) ≡ false
    above_lower zero n m h = refl
    above_lower (suc k) n m h = go (find roll m) refl (λ x y. above_lower k n x y)
      where
        go : (o : Option (Lease S)) → find roll m ≡ o → ((x : ℕ) → x ≤ n → list_any (λ y. eqb y n) (lenders k roll x) ≡ false) → list_any (λ y. eqb y n) (lender_then o (λ x. lenders k roll x)) ≡ false
        go None e ih = refl
        go (Some l) e ih = let q = low_found m l e in fin (eqb l.lender 0) (ne_eqb l.lender n (λ w. omega arith)) (ih l.lender (omega arith))
          where
            fin : (b : Bool) → eqb l.lender n ≡ false → list_any (λ y. eqb y n) (lenders k roll l.lender) ≡ false → list_any (λ y. eqb y n) (cond b [] (l.lender ∷ lenders k roll l.lender)) ≡ false
            fin true p r = refl
            fin false p r = ap (λ (c : Bool). c || list_any (λ y. eqb y n) (lenders k roll l.lender)) p ∙ r

    -- lease m is lease n or under it
    abbrev pub in_family : ℕ → ℕ → Bool
    in_family n m = eqb m n || under roll m n

    pub zero_outside : (n : ℕ) → 0 < n → in_family n 0 ≡ false
    zero_outside n h = ap (λ (b : Bool). b || false) (ne_eqb 0 n (λ e. omega arith))

    pub family_step : (n : ℕ) → 0 < n → (lo : ℕ) → Rising lo roll → (l : Lease S) → Memᴰ l roll → in_family n l.number ≡ (eqb l.number n || in_family n l.lender)
    family_step n pos lo ris l m = go l.number refl
      where
        go : (k : ℕ) → l.number ≡ k → in_family n l.number ≡ (eqb l.number n || in_family n l.lender)
        go zero e = absurd (let q = low l m in omega arith)
        go (suc k) e = ap (λ (b : Bool). eqb l.number n || b) (unders (eqb l.lender 0) refl)
          where
            found : find roll (suc k) ≡ Some l
            found = ap (find roll) (sym e) ∙ in_find lo roll ris l m

            fewer : l.lender ≤ k
            fewer = let q = low l m in omega arith

            first : under roll l.number n ≡ list_any (λ y. eqb y n) (cond (eqb l.lender 0) [] (l.lender ∷ lenders k roll l.lender))
            first = ap (λ (x : ℕ). under roll x n) e ∙ ap (λ (o : Option (Lease S)). list_any (λ y. eqb y n) (lender_then o (λ x. lenders k roll x))) found

            unders : (b : Bool) → eqb l.lender 0 ≡ b → under roll l.number n ≡ in_family n l.lender
            unders true z = first ∙ ap (λ (c : Bool). list_any (λ y. eqb y n) (cond c [] (l.lender ∷ lenders k roll l.lender))) z ∙ sym (ap (in_family n) (eqb-true l.lender 0 z) ∙ zero_outside n pos)
            unders false z = first ∙ ap (λ (c : Bool). list_any (λ y. eqb y n) (cond c [] (l.lender ∷ lenders k roll l.lender))) z ∙ ap (λ (w : List ℕ). eqb l.lender n || list_any (λ y. eqb y n) w) (enough k l.lender l.lender fewer (omega arith))

-- Over part of a roll: a test of numbers that goes down from lenders to leases.
module _ {S : Type 0} (K : Kind S) (L : Laws K) (lt : ℕ → Option S) (fam : ℕ → Bool) where
  -- a lease of the family whose lender is none of it above lo
  abbrev pub enters : ℕ → Lease S → Bool
  enters lo l = fam l.number && not (fam l.lender && ltb lo l.lender)

  pub record Part (lo : ℕ) (ls : List (Lease S)) : Type 0 where
    pub rising : Rising lo ls
    pub low : (l : Lease S) → Memᴰ l ls → l.lender < l.number
    pub lends : (l : Lease S) → Memᴰ l ls → lo < l.lender → (p : Lease S) × Memᴰ p ls × (p.number ≡ l.lender)
    pub balance : (l : Lease S) → Memᴰ l ls → plus? K (Some l.share) (total K (lent_from K lt l.number) ls) ≡ lt l.number
    pub down : (l : Lease S) → Memᴰ l ls → fam l.lender ≡ true → fam l.number ≡ true

  pub part_tail : (lo : ℕ) (x : Lease S) (xs : List (Lease S)) → Part lo (x ∷ xs) → Part x.number xs
  part_tail lo x xs P = record {
    rising = P.rising.1;
    low = λ l m. P.low l (mathlib.Core.List.Memᴰ.tail m);
    lends = λ l m h. step l m h (P.lends l (mathlib.Core.List.Memᴰ.tail m) (let q = P.rising.0 in omega arith));
    balance = λ l m. ap (plus? K (Some l.share)) (sym (skip l m)) ∙ P.balance l (mathlib.Core.List.Memᴰ.tail m);
    down = λ l m. P.down l (mathlib.Core.List.Memᴰ.tail m);
  }
    where
      step : (l : Lease S) → Memᴰ l xs → x.number < l.lender → (p : Lease S) × Memᴰ p (x ∷ xs) × (p.number ≡ l.lender) → (p : Lease S) × Memᴰ p xs × (p.number ≡ l.lender)
      step l m h r = ⊎_elim (λ (e : r.0 ≡ x). absurd (let q : r.0.number ≡ x.number = ap (λ (y : Lease S). y.number) e in let w = r.2 in omega arith)) (λ (k : Memᴰ r.0 xs). (r.0, k, r.2)) (mathlib.Core.List.Memᴰ.cases_cons r.1)

      skip : (l : Lease S) → Memᴰ l xs → plus? K (lent_from K lt l.number x) (total K (lent_from K lt l.number) xs) ≡ total K (lent_from K lt l.number) xs
      skip l m = ap (λ (w : Option S). plus? K w (total K (lent_from K lt l.number) xs)) (cond-false (eqb x.lender l.number) (lt x.number) (nothing K) (ne_eqb x.lender l.number (λ e. let q = P.low x (mathlib.Core.List.Memᴰ.head refl) in let w = rising_above x.number xs P.rising.1 l m in omega arith))) ∙ nothing_plus K L (total K (lent_from K lt l.number) xs)

  pub part_total : (lo : ℕ) (ls : List (Lease S)) → Part lo ls → total K (where_is K (λ l. fam l.number) (λ l. Some l.share)) ls ≡ total K (where_is K (enters lo) (λ l. lt l.number)) ls
  part_total lo [] P = refl
  part_total lo (x ∷ xs) P = go (fam x.number) refl (part_total x.number xs (part_tail lo x xs P))
    where
      later : List (Lease S) → Option S
      later ls = total K (where_is K (enters lo) (λ l. lt l.number)) ls

      -- a lease further on enters after x if it did before, or if x lent it and is of the family
      apart : (b : Bool) → fam x.number ≡ b → (l : Lease S) → Memᴰ l xs → cond (enters x.number l) (lt l.number) (nothing K) ≡ plus? K (cond (b && eqb l.lender x.number) (lt l.number) (nothing K)) (cond (enters lo l) (lt l.number) (nothing K))
      apart b e l m = cases (cases_eq l.lender x.number)
        where
          v : Option S
          v = lt l.number

          -- the lender is another: both tests agree
          alike : (l.lender ≡ x.number → ⊥) → ltb x.number l.lender ≡ ltb lo l.lender
          alike n = ⊎_elim
              (λ (h : lo < l.lender). let r = P.lends l (mathlib.Core.List.Memᴰ.tail m) h in
              ⊎_elim (λ (q : r.0 ≡ x). absurd (n (sym r.2 ∙ ap (λ (y : Lease S). y.number) q)))
              (λ (k : Memᴰ r.0 xs). let a = rising_above x.number xs P.rising.1 r.0 k in let w = r.2 in lt-ltb x.number l.lender (omega arith) ∙ sym (lt-ltb lo l.lender h))
              (mathlib.Core.List.Memᴰ.cases_cons r.1))
              (λ (h : l.lender ≤ lo). let q = P.rising.0 in le-ltb x.number l.lender (omega arith) ∙ sym (le-ltb lo l.lender h))
              (cases_lt lo l.lender)

          same : (b : Bool) (f g h : Bool) → f ≡ fam l.number → cond (f && not (fam l.lender && g)) v (nothing K) ≡ plus? K (cond (b && false) v (nothing K)) (cond (f && not (fam l.lender && g)) v (nothing K))
          same true f g h q = sym (nothing_plus K L (cond (f && not (fam l.lender && g)) v (nothing K)))
          same false f g h q = sym (nothing_plus K L (cond (f && not (fam l.lender && g)) v (nothing K)))

          -- x is the lender
          lent : (b f : Bool) → (b ≡ true → f ≡ true) → cond (f && not (b && false)) v (nothing K) ≡ plus? K (cond (b && true) v (nothing K)) (cond (f && not (b && true)) v (nothing K))
          lent true true h = sym (plus_nothing K L v)
          lent true false h = absurd (let z : false ≡ true = h refl in let y : ◌≡◌ {A = ℕ} 0 1 = cc in omega arith)
          lent false true h = sym (nothing_plus K L v)
          lent false false h = sym (nothing_plus K L (nothing K))

          cases : (l.lender ≡ x.number) ⊎ (l.lender ≡ x.number → ⊥) → cond (enters x.number l) v (nothing K) ≡ plus? K (cond (b && eqb l.lender x.number) v (nothing K)) (cond (enters lo l) v (nothing K))
          cases (inl q) =
              let t₁ : eqb l.lender x.number ≡ true = eq-eqb l.lender x.number q in
              let t₂ : ltb x.number l.lender ≡ false = le-ltb x.number l.lender (omega arith) in
              let t₃ : ltb lo l.lender ≡ true = lt-ltb lo l.lender (let w = P.rising.0 in omega arith) in
              let t₄ : fam l.lender ≡ b = ap fam q ∙ e in
              simp (t₁, t₂, t₃, t₄) (lent b (fam l.number) (λ z. P.down l (mathlib.Core.List.Memᴰ.tail m) (t₄ ∙ z)))
          cases (inr n) = simp (ne_eqb l.lender x.number n, alike n) (same b (fam l.number) (ltb lo l.lender) true refl)

      -- what x lent further on
      lent_on : (b : Bool) → total K (λ l. cond (b && eqb l.lender x.number) (lt l.number) (nothing K)) xs ≡ cond b (total K (lent_from K lt x.number) xs) (nothing K)
      lent_on true = refl
      lent_on false = total_nothing K L (λ l. nothing K) xs (λ l m. refl)

      spread : (b : Bool) → fam x.number ≡ b → total K (where_is K (enters x.number) (λ l. lt l.number)) xs ≡ plus? K (cond b (total K (lent_from K lt x.number) xs) (nothing K)) (later xs)
      spread b e = total_ext K (where_is K (enters x.number) (λ l. lt l.number)) (λ l. plus? K (cond (b && eqb l.lender x.number) (lt l.number) (nothing K)) (cond (enters lo l) (lt l.number) (nothing K))) xs (apart b e)
          ∙ total_plus K L (λ l. cond (b && eqb l.lender x.number) (lt l.number) (nothing K)) (where_is K (enters lo) (λ l. lt l.number)) xs
          ∙ ap (λ (w : Option S). plus? K w (later xs)) (lent_on b)

      -- no lease of this part lent x
      outside : ltb lo x.lender ≡ false
      outside = le-ltb lo x.lender (⊎_elim (λ (h : lo < x.lender). absurd (let r = P.lends x (mathlib.Core.List.Memᴰ.head refl) h in
          let q = P.low x (mathlib.Core.List.Memᴰ.head refl) in let w = r.2 in
          ⊎_elim (λ (e : r.0 ≡ x). let z : r.0.number ≡ x.number = ap (λ (y : Lease S). y.number) e in omega arith) (λ (k : Memᴰ r.0 xs). let a = rising_above x.number xs P.rising.1 r.0 k in omega arith) (mathlib.Core.List.Memᴰ.cases_cons r.1)))
          (λ (h : x.lender ≤ lo). h) (cases_lt lo x.lender))

      mine : plus? K (Some x.share) (total K (lent_from K lt x.number) xs) ≡ lt x.number
      mine = ap (plus? K (Some x.share)) (sym (ap (λ (w : Option S). plus? K w (total K (lent_from K lt x.number) xs)) (cond-false (eqb x.lender x.number) (lt x.number) (nothing K) (ne_eqb x.lender x.number (λ e. let q = P.low x (mathlib.Core.List.Memᴰ.head refl) in omega arith))) ∙ nothing_plus K L (total K (lent_from K lt x.number) xs))) ∙ P.balance x (mathlib.Core.List.Memᴰ.head refl)

      enters_x : (b : Bool) → fam x.number ≡ b → enters lo x ≡ b
      enters_x b e = simp (e, outside) (fin b (fam x.lender))
        where
          fin : (b f : Bool) → (b && not (f && false)) ≡ b
          fin true true = refl
          fin true false = refl
          fin false f = refl

      go : (b : Bool) → fam x.number ≡ b → total K (where_is K (λ l. fam l.number) (λ l. Some l.share)) xs ≡ total K (where_is K (enters x.number) (λ l. lt l.number)) xs → plus? K (cond (fam x.number) (Some x.share) (nothing K)) (total K (where_is K (λ l. fam l.number) (λ l. Some l.share)) xs) ≡ plus? K (cond (enters lo x) (lt x.number) (nothing K)) (later xs)
      go true e ih = ap₂ (plus? K) (cond-true (fam x.number) (Some x.share) (nothing K) e) (ih ∙ spread true e) ∙ sym (plus_assoc K L (Some x.share) (total K (lent_from K lt x.number) xs) (later xs)) ∙ ap (λ (w : Option S). plus? K w (later xs)) (mine ∙ sym (cond-true (enters lo x) (lt x.number) (nothing K) (enters_x true e)))
      go false e ih = ap₂ (plus? K) (cond-false (fam x.number) (Some x.share) (nothing K) e) (ih ∙ spread false e ∙ nothing_plus K L (later xs)) ∙ ap (λ (w : Option S). plus? K w (later xs)) (sym (cond-false (enters lo x) (lt x.number) (nothing K) (enters_x false e)))

module _ {S : Type 0} (K : Kind S) (L : Laws K) {roll : List (Lease S)} {issued : ℕ} {lt : ℕ → Option S} (I : Inv K roll issued lt) where
  pub inv_low : Low roll
  inv_low l m = ⊎_elim (λ (e : l.lender ≡ 0). let q = rising_above 0 roll I.rising l m in omega arith) (λ (n : l.lender ≡ 0 → ⊥). (I.lender l m n).lower) (cases_eq l.lender 0)

  pub inv_no_zero : NoZero roll
  inv_no_zero = absent_found roll 0 (λ l m e. let q = rising_above 0 roll I.rising l m in omega arith)

  module _ (l : Lease S) (m : Memᴰ l roll) where
    unfoldable pub fam : ℕ → Bool
    fam = in_family roll inv_low inv_no_zero l.number

    pos : 0 < l.number
    pos = rising_above 0 roll I.rising l m

    pub step : (x : Lease S) → Memᴰ x roll → fam x.number ≡ (eqb x.number l.number || fam x.lender)
    unfolding fam
    step x k = family_step roll inv_low inv_no_zero l.number pos 0 I.rising x k

    pub lower_out : (n : ℕ) → n < l.number → fam n ≡ false
    unfolding fam
    lower_out n h = simp (ne_eqb n l.number (λ e. omega arith)) (above_lower roll inv_low inv_no_zero n l.number n (omega arith))

    part : Part K L lt fam 0 roll
    part = record {
      rising = I.rising;
      low = inv_low;
      lends = λ x k h. let r = I.lender x k (λ e. omega arith) in (r.its, r.among, r.is);
      balance = I.balance;
      down = λ x k e. step x k ∙ ap (λ (b : Bool). eqb x.number l.number || b) e ∙ or_true (eqb x.number l.number);
    }
      where
        or_true : (b : Bool) → (b || true) ≡ true
        or_true true = refl
        or_true false = refl

    enters_is : (x : Lease S) → Memᴰ x roll → enters K L lt fam 0 x ≡ eqb x.number l.number
    enters_is x k = go (eqb x.number l.number) refl (fam x.lender) refl
      where
        go : (b : Bool) → eqb x.number l.number ≡ b → (f : Bool) → fam x.lender ≡ f → enters K L lt fam 0 x ≡ b
        go true e true q = absurd (let z = lower_out x.lender (let a = inv_low x k in let w = eqb-true x.number l.number e in omega arith) in let y : true ≡ false = sym q ∙ z in let u : ◌≡◌ {A = ℕ} 0 1 = cc in omega arith)
        go true e false q = simp (step x k, e, q)
        go false e true q = simp (step x k, e, q, lt-ltb 0 x.lender (⊎_elim (λ (h : 0 < x.lender). h) (λ (h : x.lender ≤ 0). absurd (let z = lower_out x.lender (omega (arith, pos)) in let y : true ≡ false = sym q ∙ z in let u : ◌≡◌ {A = ℕ} 0 1 = cc in omega arith)) (cases_lt 0 x.lender)))
        go false e false q = simp (step x k, e, q)

    pub family_total : together K (map (λ x. x.share) (family roll l.number)) ≡ lt l.number
    unfolding fam
    family_total = together_keep K L (λ x. fam x.number) (λ x. x.share) roll
        ∙ part_total K L lt fam 0 roll part
        ∙ total_ext K (where_is K (enters K L lt fam 0) (λ x. lt x.number)) (where_is K (λ x. eqb x.number l.number) (λ x. lt x.number)) roll (λ x k. ap (λ (b : Bool). cond b (lt x.number) (nothing K)) (enters_is x k))
        ∙ split_close K L (where_is K (λ x. eqb x.number l.number) (λ x. lt x.number)) 0 roll I.rising l m
        ∙ ap₂ (plus? K) (cond-true (eqb l.number l.number) (lt l.number) (nothing K) (eq-eqb l.number l.number refl))
        (total_nothing K L (where_is K (λ x. eqb x.number l.number) (λ x. lt x.number)) (close l.number roll) (λ x k. cond-false (eqb x.number l.number) (lt x.number) (nothing K) (ne_eqb x.number l.number (mem_close roll l.number x k).1)))
        ∙ plus_nothing K L (lt l.number)

    pub family_joins : (t : S) → lt l.number ≡ Some t → JoinTo K (map (λ x. x.share) (family roll l.number)) t
    family_joins t e = joins_every_way K L (map (λ x. x.share) (family roll l.number)) t (family_total ∙ e)
