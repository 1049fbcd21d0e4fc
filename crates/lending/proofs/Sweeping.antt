-- Yields from the highest number down, of leases with all that are under them: each is granted, and what they leave.
use Rattle.std.proofs.Common.{◌≡◌, ℕ, ◌<◌, ◌≤◌, Bool, true, false, cond, not, ◌||◌, eqb, ◌⊎◌, nat_lt, List, [], ◌∷◌, map, length, Option, sym, refl, ap, ◌∙◌, subst, ap₂, inl, inr, ⊎_elim, arith}
use Rattle.std.specs.List.{filter, list_any}
use mathlib.Core.List.Memᴰ
use mathlib.Core.List.{reverse_aux, Memᴰ}
use Rattle.std.proofs.lemmas.Bool.{eqb-true, eq-eqb, ne_eqb, cond-false, or_right, cases_eq, cases_lt, leb-true, le-leb, false≢true}
use Rattle.lending.specs.declared.lease.Lease.{Lease}
use Rattle.shares.specs.Kind.{Kind}
use Rattle.lending.specs.Office.{Core, State, with_roll, with_today}
use Rattle.lending.specs.Outcome.{Outcome, refused_at, unless, need_live, and_then, answering}
use Rattle.lending.specs.Roll.{find, change, close, lends, family, with_share, gaining}
use Rattle.lending.specs.Above.{yields, downward}
use Rattle.lending.specs.Calls.{do_yield, do_set_day, after_yield, due_by, bad_day}
use Rattle.lending.specs.Limits.{last_day}
use Rattle.lending.specs.Perform.{perform}
use Rattle.lending.specs.Outcome.Call.{day}
use Rattle.lending.specs.Outcome.Answer.{done, number}
use Rattle.lending.specs.Outcome.Outcome.{refuses, grants}
use Rattle.lending.proofs.Rolls.{Rising, rising_above, in_find, absent_found, some_is_true, some_is_none, mem_map, map_mem, mem_keep, keep_mem, rising_keep, mem_close, close_mem}
use Rattle.lending.proofs.Families.{Low, NoZero, in_family, family_step, above_lower}
use Rattle.lending.proofs.Numbers.{Has}

-- numbers that fall
abbrev pub Falling : List ℕ → Type 0
Falling [] = Unit {0}
Falling (n ∷ ns) = ((m : ℕ) → Memᴰ m ns → m < n) × Falling ns

mem_reverse : (ns acc : List ℕ) (m : ℕ) → Memᴰ m (reverse_aux ns acc) → Memᴰ m ns ⊎ Memᴰ m acc
mem_reverse [] acc m k = inr k
mem_reverse (n ∷ ns) acc m k = go (mem_reverse ns (n ∷ acc) m k)
  where
    go : Memᴰ m ns ⊎ Memᴰ m (n ∷ acc) → Memᴰ m (n ∷ ns) ⊎ Memᴰ m acc
    go (inl j) = inl (Memᴰ.tail j)
    go (inr j) = ⊎_elim (λ (e : m ≡ n). inl (Memᴰ.head e)) (λ (i : Memᴰ m acc). inr i) (Memᴰ.cases_cons j)

reverse_mem : (ns acc : List ℕ) (m : ℕ) → Memᴰ m ns ⊎ Memᴰ m acc → Memᴰ m (reverse_aux ns acc)
reverse_mem [] acc m (inl k) = elim k [ ]
reverse_mem [] acc m (inr k) = k
reverse_mem (n ∷ ns) acc m (inl k) = reverse_mem ns (n ∷ acc) m (⊎_elim (λ (e : m ≡ n). inr (Memᴰ.head e)) (λ (j : Memᴰ m ns). inl j) (Memᴰ.cases_cons k))
reverse_mem (n ∷ ns) acc m (inr k) = reverse_mem ns (n ∷ acc) m (inr (Memᴰ.tail k))

-- a number is among some
abbrev pub among : List ℕ → ℕ → Bool
among ns n = list_any (λ m. eqb m n) ns

pub is_among : (ns : List ℕ) (n : ℕ) → Memᴰ n ns → among ns n ≡ true
is_among ns n k = some_is_true (λ m. eqb m n) ns n k (eq-eqb n n refl)

pub not_among : (ns : List ℕ) (n : ℕ) → (Memᴰ n ns → ⊥) → among ns n ≡ false
not_among ns n h = some_is_none (λ m. eqb m n) ns (λ m k e. h (Memᴰ.cast (sym (eqb-true m n e)) k))

module _ {S : Type 0} where
  falling_reverse : (lo : ℕ) (ls : List (Lease S)) (acc : List ℕ) → Rising lo ls → ((m : ℕ) → Memᴰ m acc → m ≤ lo) → Falling acc → Falling (reverse_aux (map (λ l. l.number) ls) acc)
  falling_reverse lo [] acc r b f = f
  falling_reverse lo (x ∷ xs) acc r b f = falling_reverse x.number xs (x.number ∷ acc) r.1
      (λ m k. ⊎_elim (λ (e : m ≡ x.number). omega arith) (λ (j : Memᴰ m acc). let q = b m j in let w = r.0 in omega arith) (Memᴰ.cases_cons k))
      (λ m k. let q = b m k in let w = r.0 in omega arith, f)

  pub falling : (ls : List (Lease S)) → Rising 0 ls → Falling (downward ls)
  falling ls r = falling_reverse 0 ls [] r (λ m k. elim k [ ]) tt

  -- the numbers downward are those of the leases
  pub of_downward : (ls : List (Lease S)) (n : ℕ) → Memᴰ n (downward ls) → (l : Lease S) × Memᴰ l ls × (l.number ≡ n)
  of_downward ls n k =
      let j : Memᴰ n (map (λ x. x.number) ls) = ⊎_elim (λ (i : Memᴰ n (map (λ x. x.number) ls)). i) (λ (i : Memᴰ n []). elim i [ ]) (mem_reverse (map (λ x. x.number) ls) [] n k) in
      let a = mem_map (λ (x : Lease S). x.number) ls n j in (a.0, a.1, sym a.2)

  pub in_downward : (ls : List (Lease S)) (l : Lease S) → Memᴰ l ls → Memᴰ l.number (downward ls)
  in_downward ls l m = reverse_mem (map (λ y. y.number) ls) [] l.number (inl (map_mem (λ (y : Lease S). y.number) m))

-- the roll without the leases of some numbers
module _ {S : Type 0} where
  abbrev pub without : List ℕ → List (Lease S) → List (Lease S)
  without [] roll = roll
  without (n ∷ ns) roll = without ns (close n roll)

  pub mem_without : (ns : List ℕ) (roll : List (Lease S)) (l : Lease S) → Memᴰ l (without ns roll) → Memᴰ l roll × (Memᴰ l.number ns → ⊥)
  mem_without [] roll l m = (m, λ k. elim k [ ])
  mem_without (n ∷ ns) roll l m =
      let r = mem_without ns (close n roll) l m in
      let c = mem_close roll n l r.0 in
      (c.0, λ k. ⊎_elim (λ (e : l.number ≡ n). c.1 e) (λ (j : Memᴰ l.number ns). r.1 j) (Memᴰ.cases_cons k))

  pub without_mem : (ns : List ℕ) (roll : List (Lease S)) (l : Lease S) → Memᴰ l roll → (Memᴰ l.number ns → ⊥) → Memᴰ l (without ns roll)
  without_mem [] roll l m h = m
  without_mem (n ∷ ns) roll l m h = without_mem ns (close n roll) l (close_mem roll n l m (λ e. h (Memᴰ.head e))) (λ k. h (Memᴰ.tail k))

  -- which is what is left of it
  pub without_is : (ns : List ℕ) (roll : List (Lease S)) → without ns roll ≡ filter (λ l. not (among ns l.number)) roll
  without_is [] roll = all roll
    where
      all : (ls : List (Lease S)) → ls ≡ filter (λ l. true) ls
      all [] = refl
      all (x ∷ xs) = ap (λ (r : List (Lease S)). x ∷ r) (all xs)
  without_is (n ∷ ns) roll = without_is ns (close n roll) ∙ both roll
    where
      both : (ls : List (Lease S)) → filter (λ l. not (among ns l.number)) (close n ls) ≡ filter (λ l. not (among (n ∷ ns) l.number)) ls
      both [] = refl
      both (x ∷ xs) = go (eqb x.number n) (eqb n x.number) (swap x.number n) (among ns x.number) refl (both xs)
        where
          swap : (a b : ℕ) → eqb a b ≡ eqb b a
          swap a b = ⊎_elim (λ (e : a ≡ b). eq-eqb a b e ∙ sym (eq-eqb b a (sym e))) (λ (h : a ≡ b → ⊥). ne_eqb a b h ∙ sym (ne_eqb b a (λ e. h (sym e)))) (cases_eq a b)

          go : (a b : Bool) → a ≡ b → (c : Bool) → among ns x.number ≡ c → filter (λ l. not (among ns l.number)) (close n xs) ≡ filter (λ l. not (among (n ∷ ns) l.number)) xs
              → filter (λ l. not (among ns l.number)) (cond (not a) (x ∷ close n xs) (close n xs)) ≡ cond (not (b || c)) (x ∷ filter (λ l. not (among (n ∷ ns) l.number)) xs) (filter (λ l. not (among (n ∷ ns) l.number)) xs)
          go true true e c q ih = ih
          go true false e c q ih = absurd (false≢true (sym e))
          go false true e c q ih = absurd (false≢true e)
          go false false e true q ih = ap (λ (b : Bool). cond (not b) (x ∷ filter (λ l. not (among ns l.number)) (close n xs)) (filter (λ l. not (among ns l.number)) (close n xs))) q ∙ ih
          go false false e false q ih = ap (λ (b : Bool). cond (not b) (x ∷ filter (λ l. not (among ns l.number)) (close n xs)) (filter (λ l. not (among ns l.number)) (close n xs))) q ∙ ap (λ (r : List (Lease S)). x ∷ r) ih

  -- tests that agree on a roll leave the same of it
  pub filter_ext : (p q : Lease S → Bool) (ls : List (Lease S)) → ((x : Lease S) → Memᴰ x ls → p x ≡ q x) → filter p ls ≡ filter q ls
  filter_ext p q [] h = refl
  filter_ext p q (x ∷ xs) h = ap₂ (λ (b : Bool) (r : List (Lease S)). cond b (x ∷ r) r) (h x (Memᴰ.head refl)) (filter_ext p q xs (λ y m. h y (Memᴰ.tail m)))

module _ {S : Type 0} (K : Kind S) where
  -- a lease but for its share
  abbrev pub bare : Lease S → Lease S
  bare l = with_share K.empty l

  pub bare_change : (n : ℕ) (v : S) (ls : List (Lease S)) → map bare (change n (gaining K v) ls) ≡ map bare ls
  bare_change n v [] = refl
  bare_change n v (x ∷ xs) = ap₂ (λ (y : Lease S) (r : List (Lease S)). y ∷ r) (go (eqb x.number n)) (bare_change n v xs)
    where
      go : (b : Bool) → bare (cond b (gaining K v x) x) ≡ bare x
      go true = refl
      go false = refl

  bare_close : (n : ℕ) (ls : List (Lease S)) → map bare (close n ls) ≡ close n (map bare ls)
  bare_close n [] = refl
  bare_close n (x ∷ xs) = go (not (eqb x.number n)) (bare_close n xs)
    where
      go : (b : Bool) → map bare (close n xs) ≡ close n (map bare xs) → map bare (cond b (x ∷ close n xs) (close n xs)) ≡ cond b (bare x ∷ close n (map bare xs)) (close n (map bare xs))
      go true e = ap (λ (r : List (Lease S)). bare x ∷ r) e
      go false e = e

  bare_without : (ns : List ℕ) (ls : List (Lease S)) → map bare (without ns ls) ≡ without ns (map bare ls)
  bare_without [] ls = refl
  bare_without (n ∷ ns) ls = bare_without ns (close n ls) ∙ ap (without ns) (bare_close n ls)

-- What P has to say of a roll, for yields to be granted, and to keep it.
pub record Sweeps {S : Type 0} (K : Kind S) (P : List (Lease S) → ℕ → Type 0) : Type 0 where
  pub rising : (roll : List (Lease S)) (issued : ℕ) → P roll issued → Rising 0 roll
  pub low : (roll : List (Lease S)) (issued : ℕ) → P roll issued → Low roll
  pub dues : (roll : List (Lease S)) (issued : ℕ) → P roll issued → (l p : Lease S) → Memᴰ l roll → Memᴰ p roll → p.number ≡ l.lender → l.due ≤ p.due
  pub kept : (roll : List (Lease S)) (issued : ℕ) → P roll issued → (l : Lease S) → Memᴰ l roll → ((x : Lease S) → Memᴰ x roll → x.lender ≡ l.number → ⊥) → P (change l.lender (gaining K l.share) (close l.number roll)) issued

module _ {S : Type 0} (K : Kind S) (P : List (Lease S) → ℕ → Type 0) (W : Sweeps K P) where
  -- what is left to yield
  pub record Left (s : State S) (ns : List ℕ) : Type 0 where
    pub has : P s.core.roll s.core.issued
    pub live : (m : ℕ) → Memᴰ m ns → Has s.core.roll m
    pub down : (l : Lease S) → Memᴰ l s.core.roll → Memᴰ l.lender ns → Memᴰ l.number ns

  -- the next yield is granted
  module _ (s : State S) (n : ℕ) (ns : List ℕ) (f : Falling (n ∷ ns)) (H : Left s (n ∷ ns)) (l : Lease S) (ml : Memᴰ l s.core.roll) (is : l.number ≡ n) where
    none : (x : Lease S) → Memᴰ x s.core.roll → x.lender ≡ l.number → ⊥
    none x m e =
        let k = H.down x m (Memᴰ.head (e ∙ is)) in
        let q = W.low s.core.roll s.core.issued H.has x m in
        ⊎_elim (λ (z : x.number ≡ n). omega arith) (λ (j : Memᴰ x.number ns). let r = f.0 x.number j in omega arith) (Memᴰ.cases_cons k)

    none_b : lends s.core.roll n ≡ false
    none_b = some_is_none (λ x. eqb x.lender n) s.core.roll (λ x m e. none x m (eqb-true x.lender n e ∙ sym is))

    granted : do_yield K s n ≡ grants done (after_yield K s l)
    granted = ap (λ (o : Option (Lease S)). need_live s.core.depth o (λ y. unless s.core.depth ((lends s.core.roll n, 9) ∷ []) (grants done (after_yield K s y)))) (ap (find s.core.roll) (sym is) ∙ in_find 0 s.core.roll (W.rising s.core.roll s.core.issued H.has) l ml)
        ∙ cond-false (lends s.core.roll n) (refuses (refused_at s.core.depth 9)) (grants done (after_yield K s l)) none_b

    next : yields K s (n ∷ ns) ≡ yields K (after_yield K s l) ns
    next = ap (λ (o : Outcome S). and_then o (λ t. yields K t ns)) granted

    shape : map (bare K) (after_yield K s l).core.roll ≡ close n (map (bare K) s.core.roll)
    shape = bare_change K l.lender l.share (close l.number s.core.roll) ∙ bare_close K l.number s.core.roll ∙ ap (λ (k : ℕ). close k (map (bare K) s.core.roll)) is

    src : (x : Lease S) → Memᴰ x (after_yield K s l).core.roll → (y : Lease S) × Memᴰ y s.core.roll × (bare K x ≡ bare K y) × (y.number ≡ n → ⊥)
    src x m =
        let a = mem_map (bare K) (close n s.core.roll) (bare K x) (subst (λ (r : List (Lease S)). Memᴰ (bare K x) r) (shape ∙ sym (bare_close K n s.core.roll)) (map_mem (bare K) m)) in
        let c = mem_close s.core.roll n a.0 a.1 in
        (a.0, c.0, a.2, c.1)

    target : (y : Lease S) → Memᴰ y s.core.roll → (y.number ≡ n → ⊥) → (x : Lease S) × Memᴰ x (after_yield K s l).core.roll × (bare K y ≡ bare K x)
    target y m h = mem_map (bare K) (after_yield K s l).core.roll (bare K y) (subst (λ (r : List (Lease S)). Memᴰ (bare K y) r) (bare_close K n s.core.roll ∙ sym shape) (map_mem (bare K) (close_mem s.core.roll n y m h)))

    left : Left (after_yield K s l) ns
    left = record {
      has = W.kept s.core.roll s.core.issued H.has l ml none;
      live = λ m k. let h = H.live m (Memᴰ.tail k) in
          let q = f.0 m k in let w = h.2 in
          let t = target h.0 h.1 (λ e. omega arith) in
          (t.0, t.1, ap (λ (y : Lease S). y.number) (sym t.2) ∙ w);
      down = λ x m k. let y = src x m in
          let e₁ : x.lender ≡ y.0.lender = ap (λ (z : Lease S). z.lender) y.2 in
          let e₂ : x.number ≡ y.0.number = ap (λ (z : Lease S). z.number) y.2 in
          let a : Memᴰ y.0.lender (n ∷ ns) = Memᴰ.tail (Memᴰ.cast (sym e₁) k) in
          ⊎_elim (λ (e : y.0.number ≡ n). absurd (y.3 e)) (λ (j : Memᴰ y.0.number ns). Memᴰ.cast e₂ j) (Memᴰ.cases_cons (H.down y.0 y.1 a));
    }

  -- all of them are granted, and then gone
  pub record Granted (s : State S) (ns : List ℕ) : Type 0 where
    pub after : State S
    pub is : yields K s ns ≡ grants done after
    pub has : P after.core.roll after.core.issued
    -- nothing but the roll has changed, and there what is left has changed in shares alone
    pub core : after.core ≡ (with_roll after.core.roll s).core
    pub shape : map (bare K) after.core.roll ≡ map (bare K) (without ns s.core.roll)

  pub all_granted : (ns : List ℕ) → Falling ns → (s : State S) → Left s ns → Granted s ns
  all_granted [] f s H = record { after = s; is = refl; has = H.has; core = refl; shape = refl }
  all_granted (n ∷ ns) f s H = go (H.live n (Memᴰ.head refl)) (λ t J. all_granted ns f.1 t J)
    where
      go : Has s.core.roll n → ((t : State S) → Left t ns → Granted t ns) → Granted s (n ∷ ns)
      go h below =
          let g = below (after_yield K s h.0) (left s n ns f H h.0 h.1 h.2) in
          record {
            after = g.after;
            is = next s n ns f H h.0 h.1 h.2 ∙ g.is;
            has = g.has;
            core = g.core;
            shape = g.shape ∙ bare_without K ns (after_yield K s h.0).core.roll ∙ ap (without ns) (shape s n ns f H h.0 h.1 h.2 ∙ sym (bare_close K n s.core.roll)) ∙ sym (bare_without K ns (close n s.core.roll));
          }

  module _ (s : State S) (ns : List ℕ) (g : Granted s ns) where
    pub from : (x : Lease S) → Memᴰ x g.after.core.roll → (y : Lease S) × Memᴰ y s.core.roll × (bare K x ≡ bare K y) × (Memᴰ y.number ns → ⊥)
    from x m =
        let a = mem_map (bare K) (without ns s.core.roll) (bare K x) (subst (λ (r : List (Lease S)). Memᴰ (bare K x) r) g.shape (map_mem (bare K) m)) in
        let c = mem_without ns s.core.roll a.0 a.1 in
        (a.0, c.0, a.2, c.1)

    pub stays : (y : Lease S) → Memᴰ y s.core.roll → (Memᴰ y.number ns → ⊥) → (x : Lease S) × Memᴰ x g.after.core.roll × (bare K y ≡ bare K x)
    stays y m h = mem_map (bare K) g.after.core.roll (bare K y) (subst (λ (r : List (Lease S)). Memᴰ (bare K y) r) (sym g.shape) (map_mem (bare K) (without_mem ns s.core.roll y m h)))

    pub gone : (n : ℕ) → Memᴰ n ns → Has g.after.core.roll n → ⊥
    gone n k h = let y = from h.0 h.1 in let e : n ≡ y.0.number = sym h.2 ∙ ap (λ (z : Lease S). z.number) y.2 in y.3 (Memᴰ.cast (sym e) k)

  -- what a recall yields
  module _ (s : State S) (h : P s.core.roll s.core.issued) (n : ℕ) (pos : 0 < n) where
    pub low : Low s.core.roll
    low = W.low s.core.roll s.core.issued h

    pub no_zero : NoZero s.core.roll
    no_zero = absent_found s.core.roll 0 (λ l m e. let q = rising_above 0 s.core.roll (W.rising s.core.roll s.core.issued h) l m in omega arith)

    -- lease m is lease n or under it
    unfoldable pub inside : ℕ → Bool
    inside = in_family s.core.roll low no_zero n

    pub step : (x : Lease S) → Memᴰ x s.core.roll → inside x.number ≡ (eqb x.number n || inside x.lender)
    unfolding inside
    step x m = family_step s.core.roll low no_zero n pos 0 (W.rising s.core.roll s.core.issued h) x m

    pub below_out : (m : ℕ) → m < n → inside m ≡ false
    unfolding inside
    below_out m l = simp (ne_eqb m n (λ e. omega arith)) (above_lower s.core.roll low no_zero m n m (omega arith))

    pub of_family : (m : ℕ) → Memᴰ m (downward (family s.core.roll n)) → (x : Lease S) × Memᴰ x s.core.roll × (x.number ≡ m) × (inside m ≡ true)
    unfolding inside
    of_family m k =
        let a = of_downward (family s.core.roll n) m k in
        let b = mem_keep (λ (x : Lease S). inside x.number) s.core.roll a.0 a.1 in
        (a.0, b.0, a.2, ap inside (sym a.2) ∙ b.1)

    pub in_family_numbers : (x : Lease S) → Memᴰ x s.core.roll → inside x.number ≡ true → Memᴰ x.number (downward (family s.core.roll n))
    unfolding inside
    in_family_numbers x m e = in_downward (family s.core.roll n) x (keep_mem (λ (y : Lease S). inside y.number) s.core.roll x m e)

    pub family_granted : Granted s (downward (family s.core.roll n))
    unfolding inside
    family_granted = all_granted (downward (family s.core.roll n)) (falling (family s.core.roll n) (rising_keep (λ (x : Lease S). inside x.number) 0 s.core.roll (W.rising s.core.roll s.core.issued h))) s
        (record {
          has = h;
          live = λ m k. let x = of_family m k in (x.0, x.1, x.2);
          down = λ x m k. let y = of_family x.lender k in in_family_numbers x m (step x m ∙ or_right (eqb x.number n) (inside x.lender) y.3);
        })

  -- what a day yields
  module _ (s : State S) (h : P s.core.roll s.core.issued) (d : ℕ) where
    pub of_due : (m : ℕ) → Memᴰ m (downward (filter (due_by d) s.core.roll)) → (x : Lease S) × Memᴰ x s.core.roll × (x.number ≡ m) × (x.due ≤ d)
    of_due m k =
        let a = of_downward (filter (due_by d) s.core.roll) m k in
        let b = mem_keep (due_by d) s.core.roll a.0 a.1 in
        (a.0, b.0, a.2, leb-true a.0.due d b.1)

    pub in_due : (x : Lease S) → Memᴰ x s.core.roll → x.due ≤ d → Memᴰ x.number (downward (filter (due_by d) s.core.roll))
    in_due x m e = in_downward (filter (due_by d) s.core.roll) x (keep_mem (due_by d) s.core.roll x m (le-leb x.due d e))

    pub due_granted : Granted s (downward (filter (due_by d) s.core.roll))
    due_granted = all_granted (downward (filter (due_by d) s.core.roll)) (falling (filter (due_by d) s.core.roll) (rising_keep (due_by d) 0 s.core.roll (W.rising s.core.roll s.core.issued h))) s
        (record {
          has = h;
          live = λ m k. let x = of_due m k in (x.0, x.1, x.2);
          down = λ x m k. let y = of_due x.lender k in
              let a = W.dues s.core.roll s.core.issued h x y.0 m y.1 y.2 in let b = y.3 in
              in_due x m (omega arith);
        })

    -- no lease is left that is due
    pub none_due : (x : Lease S) → Memᴰ x due_granted.after.core.roll → d < x.due
    none_due x m =
        let y = from s (downward (filter (due_by d) s.core.roll)) due_granted x m in
        let w : x.due ≡ y.0.due = ap (λ (u : Lease S). u.due) y.2 in
        ⊎_elim (λ (h : d < y.0.due). omega arith) (λ (h : y.0.due ≤ d). absurd (y.3 (in_due y.0 y.1 h))) (cases_lt d y.0.due)

    -- so that the day is set
    pub day_set : (v : State S) → v.core ≡ due_granted.after.core → bad_day s d ≡ false → do_set_day v d ≡ grants done (with_today d v)
    day_set v at good =
        let today : v.core.today ≡ s.core.today = ap (λ (k : Core S). k.today) (at ∙ due_granted.core) in
        cond-false (bad_day v d) (refuses (refused_at v.core.depth 13)) (unless v.core.depth ((list_any (due_by d) v.core.roll, 14) ∷ []) (grants done (with_today d v))) (ap (λ (k : ℕ). nat_lt d k || nat_lt last_day d) today ∙ good)
        ∙ cond-false (list_any (due_by d) v.core.roll) (refuses (refused_at v.core.depth 14)) (grants done (with_today d v))
        (some_is_none (due_by d) v.core.roll (λ x m e. let a = leb-true x.due d e in let b = none_due x (subst (λ (k : Core S). Memᴰ x k.roll) at m) in omega arith))

    pub day_performs : bad_day s d ≡ false → perform K s (day d) ≡ grants (number (length (downward (filter (due_by d) s.core.roll)))) (with_today d due_granted.after)
    day_performs good =
        let ns = downward (filter (due_by d) s.core.roll) in
        cond-false (bad_day s d) (refuses (record { number = 13; level = 0 })) (answering (number (length ns)) (and_then (yields K s ns) (λ u. do_set_day u d))) good
        ∙ ap (λ (o : Outcome S). answering (number (length ns)) (and_then o (λ u. do_set_day u d))) due_granted.is
        ∙ ap (answering (number (length ns))) (day_set due_granted.after refl good)
