-- Every granted call keeps the order of the roll.
use Rattle.std.proofs.Common.{◌≡◌, ℕ, ◌+◌, ◌<◌, ◌≤◌, Bool, true, false, cond, not, eqb, ◌⊎◌, List, [], ◌∷◌, ◌++◌, map, Some, sym, refl, ap, ◌∙◌, subst, inl, inr, ⊎_elim, arith}
use Rattle.std.specs.List.{filter}
use mathlib.Core.Logic.{∥∥₁_elim}
use mathlib.Core.List.{Memᴰ}
use native.Mathlib.Bridge.{le_prop}
use Rattle.std.proofs.lemmas.Bool.{eqb-true}
use Rattle.lending.specs.declared.lease.Lease.{Lease}
use Rattle.lending.specs.Roll.{Rising, find, change, close, relend, with_lender, with_share}
use Rattle.lending.specs.Calls.{unlike, lent_lease}
use Rattle.lending.specs.Limits.{within_range, never}
use Rattle.lending.specs.Orderly.{Ranged, Orderly}
use Rattle.lending.proofs.Rolls.{mem_map, mem_keep, mem_close, rising_keep, rising_map, rising_last, rising_above, one_number, find_in}
use Rattle.lending.proofs.Cases.{alike}
use Rattle.lending.proofs.Changes.{mem_last, source}

module _ {S : Type 0} where
  -- an empty roll is in order, however many numbers were issued
  pub orderly_none : {issued : ℕ} → Orderly {S = S} [] issued
  orderly_none = record { rising = tt; within = λ l m. elim m [ ]; lower = λ l m. elim m [ ]; dues = λ l p m. elim m [ ]; ranged = λ l m. elim m [ ] }

  pub orderly_keep : (p : Lease S → Bool) (roll : List (Lease S)) (issued : ℕ) → Orderly roll issued → Orderly (filter p roll) issued
  orderly_keep p roll issued o = record {
    rising = rising_keep p 0 roll o.rising;
    within = λ l m. o.within l (mem_keep p roll l m).0;
    lower = λ l m. o.lower l (mem_keep p roll l m).0;
    dues = λ l q m k. o.dues l q (mem_keep p roll l m).0 (mem_keep p roll q k).0;
    ranged = λ l m. o.ranged l (mem_keep p roll l m).0;
  }

  -- what a change of a lease leaves as it is
  pub record Stays (h : Lease S → Lease S) : Type 0 where
    pub number : (l : Lease S) → (h l).number ≡ l.number
    pub lender : (l : Lease S) → (h l).lender ≡ l.lender
    pub due : (l : Lease S) → (h l).due ≡ l.due
    pub ranged : (l : Lease S) → Ranged l → Ranged (h l)

  -- another share changes nothing else
  pub share_stays : (v : S) → Stays (with_share v)
  share_stays v = record { number = λ l. refl; lender = λ l. refl; due = λ l. refl; ranged = λ l r. r }

  pub orderly_map : (h : Lease S → Lease S) → Stays h → (roll : List (Lease S)) (issued : ℕ) → Orderly roll issued → Orderly (map h roll) issued
  orderly_map h s roll issued o = record {
    rising = rising_map h s.number 0 roll o.rising;
    within = λ l m. let x = mem_map h roll l m in
        let e = ap (λ (v : Lease S). v.number) x.2 in let n = s.number x.0 in let w = o.within x.0 x.1 in omega arith;
    lower = λ l m. let x = mem_map h roll l m in
        let e = ap (λ (v : Lease S). v.number) x.2 in let f = ap (λ (v : Lease S). v.lender) x.2 in
        let n = s.number x.0 in let k = s.lender x.0 in let w = o.lower x.0 x.1 in omega arith;
    dues = λ l q m k e. let x = mem_map h roll l m in let y = mem_map h roll q k in
        let f = ap (λ (v : Lease S). v.lender) x.2 in let g = ap (λ (v : Lease S). v.number) y.2 in
        let i = ap (λ (v : Lease S). v.due) x.2 in let j = ap (λ (v : Lease S). v.due) y.2 in
        let a = s.lender x.0 in let b = s.number y.0 in let c = s.due x.0 in let d = s.due y.0 in
        let w = o.dues x.0 y.0 x.1 y.1 (omega arith) in omega arith;
    ranged = λ l m. let x = mem_map h roll l m in subst (λ (v : Lease S). Ranged v) (sym x.2) (s.ranged x.0 (o.ranged x.0 x.1));
  }

  one_changed : (n : ℕ) (f : Lease S → Lease S) → Stays f → Stays (λ l. cond (eqb l.number n) (f l) l)
  one_changed n f s = record {
    number = λ l. go (λ v. v.number) l (s.number l) (eqb l.number n);
    lender = λ l. go (λ v. v.lender) l (s.lender l) (eqb l.number n);
    due = λ l. go (λ v. v.due) l (s.due l) (eqb l.number n);
    ranged = λ l r. in_either l r (s.ranged l r) (eqb l.number n);
  }
    where
      in_either : (l : Lease S) → Ranged l → Ranged (f l) → (b : Bool) → Ranged (cond b (f l) l)
      in_either l r r' true = r'
      in_either l r r' false = r

      go : (of : Lease S → ℕ) (l : Lease S) → of (f l) ≡ of l → (b : Bool) → of (cond b (f l) l) ≡ of l
      go of l e true = e
      go of l e false = refl

  pub orderly_change : (n : ℕ) (f : Lease S → Lease S) → Stays f → (roll : List (Lease S)) (issued : ℕ) → Orderly roll issued → Orderly (change n f roll) issued
  orderly_change n f s roll issued o = orderly_map (λ l. cond (eqb l.number n) (f l) l) (one_changed n f s) roll issued o

  pub orderly_close : (n : ℕ) (roll : List (Lease S)) (issued : ℕ) → Orderly roll issued → Orderly (close n roll) issued
  orderly_close n roll issued o = orderly_keep (λ l. not (eqb l.number n)) roll issued o

  -- one more lease, with the next number
  pub orderly_last : (roll : List (Lease S)) (issued : ℕ) (l : Lease S) → l.number ≡ issued + 1 → l.lender ≤ issued → ((p : Lease S) → Memᴰ p roll → p.number ≡ l.lender → l.due ≤ p.due) → Ranged l → Orderly roll issued → Orderly (roll ++ (l ∷ [])) (issued + 1)
  orderly_last roll issued l e b d r o = record {
    rising = rising_last 0 roll l (omega arith) (λ x m. let w = o.within x m in omega arith) o.rising;
    within = λ x m. ⊎_elim (λ (k : Memᴰ x roll). let w = o.within x k in omega arith) (λ (q : x ≡ l). let f = ap (λ (v : Lease S). v.number) q in omega arith) (mem_last roll l x m);
    lower = λ x m. ⊎_elim (λ (k : Memᴰ x roll). o.lower x k) (λ (q : x ≡ l). let f = ap (λ (v : Lease S). v.number) q in let g = ap (λ (v : Lease S). v.lender) q in omega arith) (mem_last roll l x m);
    dues = λ x p m k q. ⊎_elim
        (λ (kx : Memᴰ x roll). ⊎_elim
        (λ (kp : Memᴰ p roll). o.dues x p kx kp q)
        (λ (z : p ≡ l). absurd (let f = ap (λ (v : Lease S). v.number) z in let w = o.within x kx in let v = o.lower x kx in omega arith))
        (mem_last roll l p k))
        (λ (z : x ≡ l). let f = ap (λ (v : Lease S). v.lender) z in let g = ap (λ (v : Lease S). v.due) z in let i = ap (λ (v : Lease S). v.number) z in ⊎_elim
        (λ (kp : Memᴰ p roll). let w = d p kp (q ∙ f) in omega arith)
        (λ (y : p ≡ l). absurd (let j = ap (λ (v : Lease S). v.number) y in omega arith))
        (mem_last roll l p k))
        (mem_last roll l x m);
    ranged = λ x m. ⊎_elim (λ (k : Memᴰ x roll). o.ranged x k) (λ (q : x ≡ l). subst (λ (v : Lease S). Ranged v) (sym q) r) (mem_last roll l x m);
  }

  -- a lends what b lent, and b is closed
  module _ (x y : Lease S) (roll : List (Lease S)) (issued : ℕ) (less : x.number < y.number) (same : x.due ≡ y.due) (v : S) (mx : Memᴰ x roll) (my : Memᴰ y roll) (o : Orderly roll issued) where
    h : Lease S → Lease S
    h l = cond (eqb l.lender y.number) (with_lender x.number l) l

    mid : List (Lease S)
    mid = change x.number (with_share v) (close y.number roll)

    between : Orderly (change x.number (with_share v) (close y.number roll)) issued
    between = orderly_change x.number (with_share v) (share_stays v) (close y.number roll) issued (orderly_close y.number roll issued o)

    -- what became of a lease, by the one that it was
    record Was (l : Lease S) : Type 0 where
      of : Lease S
      among : Memᴰ of roll
      number : l.number ≡ of.number
      due : l.due ≡ of.due
      lender : ((of.lender ≡ y.number) × (l.lender ≡ x.number)) ⊎ (l.lender ≡ of.lender)
      ranged : Ranged l

    was : (l : Lease S) → Memᴰ l (map h mid) → Was l
    unfolding h mid
    was l m =
        let a = mem_map h mid l m in
        let b = mem_map (λ k. cond (eqb k.number x.number) (with_share v k) k) (close y.number roll) a.0 a.1 in
        second b.0 (mem_close roll y.number b.0 b.1).0 a.0 b.2 a.2
      where
        third : (k w : Lease S) → Memᴰ k roll → w.number ≡ k.number → w.due ≡ k.due → w.lender ≡ k.lender → Ranged w → l ≡ h w → Was l
        third k w mk e f g r q = by (eqb w.lender y.number) refl q
          where
            by : (t : Bool) → eqb w.lender y.number ≡ t → l ≡ cond t (with_lender x.number w) w → Was l
            by true t z = record { of = k; among = mk; number = ap (λ (u : Lease S). u.number) z ∙ e; due = ap (λ (u : Lease S). u.due) z ∙ f; lender = inl (sym g ∙ eqb-true w.lender y.number t, ap (λ (u : Lease S). u.lender) z); ranged = subst (λ (u : Lease S). Ranged u) (sym z) r }
            by false t z = record { of = k; among = mk; number = ap (λ (u : Lease S). u.number) z ∙ e; due = ap (λ (u : Lease S). u.due) z ∙ f; lender = inr (ap (λ (u : Lease S). u.lender) z ∙ g); ranged = subst (λ (u : Lease S). Ranged u) (sym z) r }

        second : (k : Lease S) → Memᴰ k roll → (w : Lease S) → w ≡ cond (eqb k.number x.number) (with_share v k) k → l ≡ h w → Was l
        second k mk w e q = by (eqb k.number x.number) e
          where
            by : (t : Bool) → w ≡ cond t (with_share v k) k → Was l
            by true z = third k w mk (ap (λ (u : Lease S). u.number) z) (ap (λ (u : Lease S). u.due) z) (ap (λ (u : Lease S). u.lender) z) (subst (λ (u : Lease S). Ranged u) (sym z) (o.ranged k mk)) q
            by false z = third k w mk (ap (λ (u : Lease S). u.number) z) (ap (λ (u : Lease S). u.due) z) (ap (λ (u : Lease S). u.lender) z) (subst (λ (u : Lease S). Ranged u) (sym z) (o.ranged k mk)) q

    same_due : (p q : Lease S) → Memᴰ p roll → Memᴰ q roll → p.number ≡ q.number → p.due ≡ q.due
    same_due p q a b e = ap (λ (u : Lease S). u.due) (one_number 0 roll o.rising p q a b e)

    number_stays : (l : Lease S) → (h l).number ≡ l.number
    unfolding h
    number_stays l = go (eqb l.lender y.number)
      where
        go : (t : Bool) → (cond t (with_lender x.number l) l).number ≡ l.number
        go true = refl
        go false = refl

    pub orderly_merge : Orderly (relend x.number y.number (change x.number (with_share v) (close y.number roll))) issued
    unfolding h mid
    orderly_merge = record {
      rising = rising_map h number_stays 0 mid between.rising;
      within = λ l m. let w = was l m in let e = w.number in let k = o.within w.of w.among in omega arith;
      lower = λ l m. let w = was l m in let e = w.number in let k = o.lower w.of w.among in
          ⊎_elim (λ (z : (w.of.lender ≡ y.number) × (l.lender ≡ x.number)). let z₀ = z.0 in let z₁ = z.1 in omega arith) (λ (z : l.lender ≡ w.of.lender). omega arith) w.lender;
      dues = λ l p m k q. let w = was l m in let u = was p k in
          let e₁ = w.number in let e₂ = u.number in let d₁ = w.due in let d₂ = u.due in
          ⊎_elim
          (λ (z : (w.of.lender ≡ y.number) × (l.lender ≡ x.number)). let z₀ = z.0 in let z₁ = z.1 in
          let f = o.dues w.of y w.among my (sym z₀) in
          let g = same_due u.of x u.among mx (omega arith) in omega arith)
          (λ (z : l.lender ≡ w.of.lender). let f = o.dues w.of u.of w.among u.among (omega arith) in omega arith)
          w.lender;
      ranged = λ l m. (was l m).ranged;
    }

module _ {S : Type 0} where
  rising_one : (lo : ℕ) (ls : List (Lease S)) (x y : Rising lo ls) → x ≡ y
  rising_one lo [] x y = refl
  rising_one lo (l ∷ ls) x y = λ i. (le_prop x.0 y.0 i, rising_one l.number ls x.1 y.1 i)

  pub orderly_rises : (roll : List (Lease S)) (issued : ℕ) → ∥ Orderly roll issued ∥₁ → Rising 0 roll
  orderly_rises roll issued h = ∥∥₁_elim h (rising_one 0 roll) (λ o. o.rising)

  pub orderly_so : (roll after is : List (Lease S)) (issued next : ℕ) → ∥ Orderly roll issued ∥₁ → is ≡ after → (Orderly roll issued → Orderly after next) → ∥ Orderly is next ∥₁
  orderly_so roll after is issued next h e f = ∥∥₁_elim h squash₁ (λ o. ∣ subst (λ (r : List (Lease S)). Orderly r next) (sym e) (f o) ∣₁)

  -- a lender keeps one share and lends another
  pub orderly_lent : (n h d : ℕ) (x : Lease S) (v w : S) (roll : List (Lease S)) (issued : ℕ) → find roll n ≡ Some x → within_range h ≡ true → d ≤ never → d ≤ x.due → Orderly roll issued → Orderly (change n (with_share v) roll ++ (lent_lease (issued + 1) x h d w ∷ [])) (issued + 1)
  orderly_lent n h d x v w roll issued found ranged late by o =
      let f = find_in roll n x found in
      let e = f.1 in
      let i = o.within x f.0 in
      orderly_last (change n (with_share v) roll) issued (lent_lease (issued + 1) x h d w) refl (omega arith)
      (λ p m q. let s = source roll n (with_share v) (λ l. record { number = refl; resource = refl; lender = refl; due = refl }) p m in
      let s₁ = s.2.number in let s₂ = s.2.due in
      let same : s.0 ≡ x = one_number 0 roll o.rising s.0 x s.1 f.0 (omega arith) in
      let z = ap (λ (u : Lease S). u.due) same in omega arith)
      ((o.ranged x f.0).0, ranged, late)
      (orderly_change n (with_share v) (share_stays v) roll issued o)

  pub orderly_first : (l : Lease S) (roll : List (Lease S)) (issued : ℕ) → l.number ≡ issued + 1 → l.lender ≡ 0 → Ranged l → Orderly roll issued → Orderly (roll ++ (l ∷ [])) (issued + 1)
  orderly_first l roll issued e z r o = orderly_last roll issued l e (omega arith) (λ p m q. let a = rising_above 0 roll o.rising p m in absurd (omega arith)) r o

  pub alike_due : (x y : Lease S) → unlike x y ≡ false → x.due ≡ y.due
  alike_due x y e = (alike x y e).2
