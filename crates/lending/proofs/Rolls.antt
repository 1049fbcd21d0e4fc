-- Rolls by rising number: finding, closing and changing a lease.
use Rattle.std.proofs.Common.{◌≡◌, ℕ, ◌<◌, ◌≤◌, Bool, true, false, cond, not, ◌||◌, eqb, ◌⊎◌, List, [], ◌∷◌, ◌++◌, map, Some, None, Option, sym, refl, ap, ◌∙◌, subst, ap₂, inl, inr, ⊎_elim, arith}
use Rattle.std.specs.List.{filter, list_any}
use mathlib.Core.List.Memᴰ
use mathlib.Core.List.{Memᴰ}
use Rattle.std.proofs.lemmas.Bool.{eqb-true, eqb-false, eq-eqb, ne_eqb, cond-true, cond-false, not-true, or_cases}
use Rattle.lending.specs.declared.lease.Lease.{Lease}
use Rattle.shares.specs.Kind.{Kind, Laws}
pub use Rattle.lending.specs.Roll.{Rising}
use Rattle.lending.specs.Roll.{find, change, close}
use Rattle.shares.proofs.Sums.{plus?, plus_swap}
use Rattle.lending.proofs.Totals.{total, total_ext, total_map}

module _ {A : Type 0} where
  pub mem_map : {B : Type 0} (f : A → B) (xs : List A) (y : B) → Memᴰ y (map f xs) → (x : A) × Memᴰ x xs × (y ≡ f x)
  mem_map f [] y m = elim m [ ]
  mem_map f (x ∷ xs) y m = go (Memᴰ.cases_cons m) (λ k. mem_map f xs y k)
    where
      go : (y ≡ f x) ⊎ Memᴰ y (map f xs) → (Memᴰ y (map f xs) → (z : A) × Memᴰ z xs × (y ≡ f z)) → (z : A) × Memᴰ z (x ∷ xs) × (y ≡ f z)
      go (inl e) below = (x, Memᴰ.head refl, e)
      go (inr k) below = let r = below k in (r.0, Memᴰ.tail r.1, r.2)

  pub map_mem : {B : Type 0} (f : A → B) {x : A} {xs : List A} → Memᴰ x xs → Memᴰ (f x) (map f xs)
  map_mem f (Memᴰ.head e) = Memᴰ.head (ap f e)
  map_mem f (Memᴰ.tail m) = Memᴰ.tail (map_mem f m)

  pub mem_keep : (p : A → Bool) (xs : List A) (x : A) → Memᴰ x (filter p xs) → Memᴰ x xs × (p x ≡ true)
  mem_keep p [] x m = elim m [ ]
  mem_keep p (y ∷ ys) x m = go (p y) refl m (λ k. mem_keep p ys x k)
    where
      go : (b : Bool) → p y ≡ b → Memᴰ x (cond b (y ∷ filter p ys) (filter p ys)) → (Memᴰ x (filter p ys) → Memᴰ x ys × (p x ≡ true)) → Memᴰ x (y ∷ ys) × (p x ≡ true)
      go true e m below = ⊎_elim (λ (q : x ≡ y). (Memᴰ.head q, ap p q ∙ e)) (λ (k : Memᴰ x (filter p ys)). let r = below k in (Memᴰ.tail r.0, r.1)) (Memᴰ.cases_cons m)
      go false e m below = let r = below m in (Memᴰ.tail r.0, r.1)

  pub keep_mem : (p : A → Bool) (xs : List A) (x : A) → Memᴰ x xs → p x ≡ true → Memᴰ x (filter p xs)
  keep_mem p [] x m t = elim m [ ]
  keep_mem p (y ∷ ys) x m t = go (p y) refl (Memᴰ.cases_cons m) (λ k. keep_mem p ys x k t)
    where
      go : (b : Bool) → p y ≡ b → (x ≡ y) ⊎ Memᴰ x ys → (Memᴰ x ys → Memᴰ x (filter p ys)) → Memᴰ x (cond b (y ∷ filter p ys) (filter p ys))
      go true e (inl q) below = Memᴰ.head q
      go true e (inr k) below = Memᴰ.tail (below k)
      go false e (inl q) below = absurd (let z : ◌≡◌ {A = ℕ} (cond true 0 1) (cond false 0 1) = ap (λ (b : Bool). cond b 0 1) (sym t ∙ ap p q ∙ e) in omega arith)
      go false e (inr k) below = below k

  pub some_is_false : (p : A → Bool) (xs : List A) → list_any p xs ≡ false → (x : A) → Memᴰ x xs → p x ≡ false
  some_is_false p [] e x m = elim m [ ]
  some_is_false p (y ∷ ys) e x m = go (p y) refl e (Memᴰ.cases_cons m) (λ r k. some_is_false p ys r x k)
    where
      go : (b : Bool) → p y ≡ b → (b || list_any p ys) ≡ false → (x ≡ y) ⊎ Memᴰ x ys → (list_any p ys ≡ false → Memᴰ x ys → p x ≡ false) → p x ≡ false
      go true q e d below = sym (let z : true ≡ false = e in cc)
      go false q e (inl r) below = ap p r ∙ q
      go false q e (inr k) below = below e k

  pub some_is_true : (p : A → Bool) (xs : List A) (x : A) → Memᴰ x xs → p x ≡ true → list_any p xs ≡ true
  some_is_true p [] x m t = elim m [ ]
  some_is_true p (y ∷ ys) x m t = go (p y) refl (Memᴰ.cases_cons m) (λ k. some_is_true p ys x k t)
    where
      go : (b : Bool) → p y ≡ b → (x ≡ y) ⊎ Memᴰ x ys → (Memᴰ x ys → list_any p ys ≡ true) → (b || list_any p ys) ≡ true
      go true e d below = refl
      go false e (inl q) below = let z : p x ≡ p y = ap p q in cc
      go false e (inr k) below = below k

  pub some_is_found : (p : A → Bool) (xs : List A) → list_any p xs ≡ true → (x : A) × Memᴰ x xs × (p x ≡ true)
  some_is_found p [] e = absurd (let z : ◌≡◌ {A = ℕ} 0 1 = cc in omega arith)
  some_is_found p (x ∷ xs) e = ⊎_elim (λ (q : p x ≡ true). (x, Memᴰ.head refl, q)) (λ (q : list_any p xs ≡ true). let r = some_is_found p xs q in (r.0, Memᴰ.tail r.1, r.2)) (or_cases (p x) (list_any p xs) e)

  -- where none is found it is false
  pub some_is_none : (p : A → Bool) (xs : List A) → ((x : A) → Memᴰ x xs → p x ≡ true → ⊥) → list_any p xs ≡ false
  some_is_none p xs h = go (list_any p xs) refl
    where
      go : (b : Bool) → list_any p xs ≡ b → b ≡ false
      go true e = absurd (let r = some_is_found p xs e in h r.0 r.1 r.2)
      go false e = refl

module _ {S : Type 0} where
  pub rising_lower : (lo hi : ℕ) (ls : List (Lease S)) → lo ≤ hi → Rising hi ls → Rising lo ls
  rising_lower lo hi [] h r = tt
  rising_lower lo hi (l ∷ ls) h r = (omega arith, r.1)

  pub rising_above : (lo : ℕ) (ls : List (Lease S)) → Rising lo ls → (l : Lease S) → Memᴰ l ls → lo < l.number
  rising_above lo [] r l m = elim m [ ]
  rising_above lo (x ∷ xs) r l m = go (Memᴰ.cases_cons m) (λ k. rising_above x.number xs r.1 l k)
    where
      go : (l ≡ x) ⊎ Memᴰ l xs → (Memᴰ l xs → x.number < l.number) → lo < l.number
      go (inl e) below = let q : l.number ≡ x.number = ap (λ (y : Lease S). y.number) e in omega arith
      go (inr k) below = let q = below k in omega arith

  pub find_in : (ls : List (Lease S)) (n : ℕ) (l : Lease S) → find ls n ≡ Some l → Memᴰ l ls × (l.number ≡ n)
  find_in [] n l e = absurd (let z : ◌≡◌ {A = ℕ} 0 1 = cc in omega arith)
  find_in (x ∷ xs) n l e = go (eqb x.number n) refl e (λ k. find_in xs n l k)
    where
      go : (b : Bool) → eqb x.number n ≡ b → cond b (Some x) (find xs n) ≡ Some l → (find xs n ≡ Some l → Memᴰ l xs × (l.number ≡ n)) → Memᴰ l (x ∷ xs) × (l.number ≡ n)
      go true q e below = let s : x ≡ l = cc in (Memᴰ.head (sym s), ap (λ (y : Lease S). y.number) (sym s) ∙ eqb-true x.number n q)
      go false q e below = let r = below e in (Memᴰ.tail r.0, r.1)

  pub in_find : (lo : ℕ) (ls : List (Lease S)) → Rising lo ls → (l : Lease S) → Memᴰ l ls → find ls l.number ≡ Some l
  in_find lo [] r l m = elim m [ ]
  in_find lo (x ∷ xs) r l m = go (Memᴰ.cases_cons m) (λ k. in_find x.number xs r.1 l k)
    where
      go : (l ≡ x) ⊎ Memᴰ l xs → (Memᴰ l xs → find xs l.number ≡ Some l) → find (x ∷ xs) l.number ≡ Some l
      go (inl e) below = cond-true (eqb x.number l.number) (Some x) (find xs l.number) (eq-eqb x.number l.number (ap (λ (y : Lease S). y.number) (sym e))) ∙ ap {B = Option (Lease S)} Some (sym e)
      go (inr k) below = cond-false (eqb x.number l.number) (Some x) (find xs l.number) (ne_eqb x.number l.number (λ e. let q = rising_above x.number xs r.1 l k in omega arith)) ∙ below k

  pub not_found : (ls : List (Lease S)) (n : ℕ) → find ls n ≡ None → (l : Lease S) → Memᴰ l ls → l.number ≡ n → ⊥
  not_found [] n e l m q = elim m [ ]
  not_found (x ∷ xs) n e l m q = go (eqb x.number n) refl e (Memᴰ.cases_cons m) (λ r k. not_found xs n r l k q)
    where
      go : (b : Bool) → eqb x.number n ≡ b → cond b (Some x) (find xs n) ≡ None → (l ≡ x) ⊎ Memᴰ l xs → (find xs n ≡ None → Memᴰ l xs → ⊥) → ⊥
      go true t e d below = let z : ◌≡◌ {A = ℕ} 0 1 = cc in omega arith
      go false t e (inl s) below = eqb-false x.number n t (ap (λ (y : Lease S). y.number) (sym s) ∙ q)
      go false t e (inr k) below = below e k

  pub absent_found : (ls : List (Lease S)) (n : ℕ) → ((l : Lease S) → Memᴰ l ls → l.number ≡ n → ⊥) → find ls n ≡ None
  absent_found [] n h = refl
  absent_found (x ∷ xs) n h = cond-false (eqb x.number n) (Some x) (find xs n) (ne_eqb x.number n (h x (Memᴰ.head refl))) ∙ absent_found xs n (λ l m. h l (Memᴰ.tail m))

  pub close_absent : (ls : List (Lease S)) (n : ℕ) → ((l : Lease S) → Memᴰ l ls → l.number ≡ n → ⊥) → close n ls ≡ ls
  close_absent [] n h = refl
  close_absent (x ∷ xs) n h = cond-true (not (eqb x.number n)) (x ∷ close n xs) (close n xs) (ap not (ne_eqb x.number n (h x (Memᴰ.head refl)))) ∙ ap (λ (r : List (Lease S)). x ∷ r) (close_absent xs n (λ l m. h l (Memᴰ.tail m)))

  pub change_absent : (ls : List (Lease S)) (n : ℕ) (g : Lease S → Lease S) → ((l : Lease S) → Memᴰ l ls → l.number ≡ n → ⊥) → change n g ls ≡ ls
  change_absent [] n g h = refl
  change_absent (x ∷ xs) n g h = ap₂ (λ (y : Lease S) (r : List (Lease S)). y ∷ r) (cond-false (eqb x.number n) (g x) x (ne_eqb x.number n (h x (Memᴰ.head refl)))) (change_absent xs n g (λ l m. h l (Memᴰ.tail m)))

  pub mem_close : (ls : List (Lease S)) (n : ℕ) (l : Lease S) → Memᴰ l (close n ls) → Memᴰ l ls × (l.number ≡ n → ⊥)
  mem_close ls n l m = let r = mem_keep (λ (x : Lease S). not (eqb x.number n)) ls l m in (r.0, eqb-false l.number n (not-true (eqb l.number n) r.1))

  pub close_mem : (ls : List (Lease S)) (n : ℕ) (l : Lease S) → Memᴰ l ls → (l.number ≡ n → ⊥) → Memᴰ l (close n ls)
  close_mem ls n l m h = keep_mem (λ (x : Lease S). not (eqb x.number n)) ls l m (ap not (ne_eqb l.number n h))

  pub rising_keep : (p : Lease S → Bool) (lo : ℕ) (ls : List (Lease S)) → Rising lo ls → Rising lo (filter p ls)
  rising_keep p lo [] r = tt
  rising_keep p lo (x ∷ xs) r = go (p x) (rising_keep p x.number xs r.1)
    where
      go : (b : Bool) → Rising x.number (filter p xs) → Rising lo (cond b (x ∷ filter p xs) (filter p xs))
      go true k = (r.0, k)
      go false k = rising_lower lo x.number (filter p xs) (let q = r.0 in omega arith) k

  -- a change that keeps each number
  pub rising_map : (h : Lease S → Lease S) → ((l : Lease S) → (h l).number ≡ l.number) → (lo : ℕ) (ls : List (Lease S)) → Rising lo ls → Rising lo (map h ls)
  rising_map h same lo [] r = tt
  rising_map h same lo (x ∷ xs) r = (let e = same x in let q = r.0 in omega arith, subst (λ (k : ℕ). Rising k (map h xs)) (sym (same x)) (rising_map h same x.number xs r.1))

  pub rising_last : (lo : ℕ) (ls : List (Lease S)) (l : Lease S) → lo < l.number → ((x : Lease S) → Memᴰ x ls → x.number < l.number) → Rising lo ls → Rising lo (ls ++ (l ∷ []))
  rising_last lo [] l h b r = (h, tt)
  rising_last lo (x ∷ xs) l h b r = (r.0, rising_last x.number xs l (b x (Memᴰ.head refl)) (λ y m. b y (Memᴰ.tail m)) r.1)

  module _ (K : Kind S) (L : Laws K) (f : Lease S → Option S) where
    -- a lease and the rest
    pub split_close : (lo : ℕ) (ls : List (Lease S)) → Rising lo ls → (l : Lease S) → Memᴰ l ls → total K f ls ≡ plus? K (f l) (total K f (close l.number ls))
    split_close lo [] r l m = elim m [ ]
    split_close lo (x ∷ xs) r l m = go (Memᴰ.cases_cons m) (λ k. split_close x.number xs r.1 l k)
      where
        go : (l ≡ x) ⊎ Memᴰ l xs → (Memᴰ l xs → total K f xs ≡ plus? K (f l) (total K f (close l.number xs))) → plus? K (f x) (total K f xs) ≡ plus? K (f l) (total K f (cond (not (eqb x.number l.number)) (x ∷ close l.number xs) (close l.number xs)))
        go (inl e) below =
            let n : l.number ≡ x.number = ap (λ (y : Lease S). y.number) e in
            let c : close l.number xs ≡ xs = close_absent xs l.number (λ y k q. let a = rising_above x.number xs r.1 y k in omega arith) in
            let d : cond (not (eqb x.number l.number)) (x ∷ close l.number xs) (close l.number xs) ≡ close l.number xs = cond-false (not (eqb x.number l.number)) (x ∷ close l.number xs) (close l.number xs) (ap not (eq-eqb x.number l.number (sym n))) in
            ap₂ (plus? K) (ap f (sym e)) (ap (total K f) (sym (d ∙ c)))
        go (inr k) below =
            let a = rising_above x.number xs r.1 l k in
            let d : cond (not (eqb x.number l.number)) (x ∷ close l.number xs) (close l.number xs) ≡ x ∷ close l.number xs = cond-true (not (eqb x.number l.number)) (x ∷ close l.number xs) (close l.number xs) (ap not (ne_eqb x.number l.number (λ e. omega arith))) in
            ap (plus? K (f x)) (below k) ∙ plus_swap K L (f x) (f l) (total K f (close l.number xs)) ∙ ap (plus? K (f l)) (ap (total K f) (sym d))

  -- a lease changed, and the rest
  pub split_change : (K : Kind S) (L : Laws K) (f : Lease S → Option S) (g : Lease S → Lease S) (lo : ℕ) (ls : List (Lease S)) → Rising lo ls → (l : Lease S) → Memᴰ l ls → total K f (change l.number g ls) ≡ plus? K (f (g l)) (total K f (close l.number ls))
  split_change K L f g lo ls r l m =
      total_map K f h ls
      ∙ split_close K L (λ x. f (h x)) lo ls r l m
      ∙ ap₂ (plus? K) (ap f (cond-true (eqb l.number l.number) (g l) l (eq-eqb l.number l.number refl)))
      (total_ext K (λ x. f (h x)) f (close l.number ls) (λ x k. ap f (cond-false (eqb x.number l.number) (g x) x (ne_eqb x.number l.number (mem_close ls l.number x k).1))))
    where
      h : Lease S → Lease S
      h x = cond (eqb x.number l.number) (g x) x

  -- a change that what is counted does not see
  pub total_change : (K : Kind S) (f : Lease S → Option S) (g : Lease S → Lease S) (n : ℕ) (ls : List (Lease S)) → ((l : Lease S) → Memᴰ l ls → l.number ≡ n → f (g l) ≡ f l) → total K f (change n g ls) ≡ total K f ls
  total_change K f g n ls h = total_map K f k ls ∙ total_ext K (λ x. f (k x)) f ls (λ x m. go x m (eqb x.number n) refl)
    where
      k : Lease S → Lease S
      k x = cond (eqb x.number n) (g x) x

      go : (x : Lease S) → Memᴰ x ls → (b : Bool) → eqb x.number n ≡ b → f (cond b (g x) x) ≡ f x
      go x m true e = h x m (eqb-true x.number n e)
      go x m false e = refl

  -- the leases of a roll with one changed
  pub data Changed (ls : List (Lease S)) (n : ℕ) (g : Lease S → Lease S) (l : Lease S) : Type 0 where
    changed : (x : Lease S) → Memᴰ x ls → x.number ≡ n → l ≡ g x → Changed ls n g l
    unchanged : Memᴰ l ls → (l.number ≡ n → ⊥) → Changed ls n g l

  pub mem_change : (ls : List (Lease S)) (n : ℕ) (g : Lease S → Lease S) (l : Lease S) → Memᴰ l (change n g ls) → Changed ls n g l
  mem_change ls n g l m = let r = mem_map (λ (x : Lease S). cond (eqb x.number n) (g x) x) ls l m in go r.0 r.1 (eqb r.0.number n) refl r.2
    where
      go : (x : Lease S) → Memᴰ x ls → (b : Bool) → eqb x.number n ≡ b → l ≡ cond b (g x) x → Changed ls n g l
      go x k true e q = changed x k (eqb-true x.number n e) q
      go x k false e q = unchanged (Memᴰ.cast q k) (λ s. eqb-false x.number n e (ap (λ (y : Lease S). y.number) (sym q) ∙ s))

  pub change_mem_same : (ls : List (Lease S)) (n : ℕ) (g : Lease S → Lease S) (l : Lease S) → Memᴰ l ls → l.number ≡ n → Memᴰ (g l) (change n g ls)
  change_mem_same ls n g l m e = Memᴰ.cast (sym (cond-true (eqb l.number n) (g l) l (eq-eqb l.number n e))) (map_mem (λ (x : Lease S). cond (eqb x.number n) (g x) x) m)

  pub change_mem_other : (ls : List (Lease S)) (n : ℕ) (g : Lease S → Lease S) (l : Lease S) → Memᴰ l ls → (l.number ≡ n → ⊥) → Memᴰ l (change n g ls)
  change_mem_other ls n g l m h = Memᴰ.cast (sym (cond-false (eqb l.number n) (g l) l (ne_eqb l.number n h))) (map_mem (λ (x : Lease S). cond (eqb x.number n) (g x) x) m)

  pub rising_change : (n : ℕ) (g : Lease S → Lease S) → ((l : Lease S) → (g l).number ≡ l.number) → (lo : ℕ) (ls : List (Lease S)) → Rising lo ls → Rising lo (change n g ls)
  rising_change n g same lo ls r = rising_map (λ (x : Lease S). cond (eqb x.number n) (g x) x) (λ x. go x (eqb x.number n)) lo ls r
    where
      go : (x : Lease S) (b : Bool) → (cond b (g x) x).number ≡ x.number
      go x true = same x
      go x false = refl

  -- two leases of one number are one
  pub one_number : (lo : ℕ) (ls : List (Lease S)) → Rising lo ls → (x y : Lease S) → Memᴰ x ls → Memᴰ y ls → x.number ≡ y.number → x ≡ y
  one_number lo ls r x y mx my e = let a = in_find lo ls r x mx in let b = in_find lo ls r y my in let c : find ls x.number ≡ find ls y.number = ap (find ls) e in cc
