-- Which leases a pass over the roll marks.
use Rattle.std.proofs.Common.{◌≡◌, ℕ, zero, suc, ◌<◌, ◌≤◌, Bool, true, false, cond, ◌||◌, eqb, List, [], ◌∷◌, ◌++◌, map, length, get_or, Some, None, Option, Result, Ok, Err, is_ok, is_some, sym, refl, ap, ◌∙◌, subst, ⊎_elim, arith, le_of_suc-le-suc}
use Rattle.std.specs.List.{filter, list_any}
use Rattle.std.specs.List.Sorted.{IsBinarySearchResult, IsNonDecreasing}
use Rattle.std.specs.Ordering.{nat_cmp}
use Rattle.std.specs.Result.{MatchResult}
use mathlib.Core.List.Memᴰ
use mathlib.Core.List.{Memᴰ}
use Rattle.std.proofs.lemmas.Bool.{eqb-true, eq-eqb, ne_eqb, cases_lt, false≢true, or_cases}
use Rattle.std.proofs.lemmas.List.{map-append, append_assoc, append-nil, length-append}
use Rattle.std.proofs.lemmas.List.Elements.{filter-append}
use Rattle.std.proofs.lemmas.List.Sorted.{searched}
use Rattle.lending.specs.declared.lease.Lease.{Lease}
use Rattle.shares.specs.Kind.{Kind}
use Rattle.lending.specs.Office.{State}
use Rattle.lending.specs.Orderly.{Orderly}
use Rattle.lending.specs.Roll.{find, live, under, lenders, lender_then}
use Rattle.lending.proofs.Rolls.{Rising, rising_keep, rising_above, find_in, some_is_true, some_is_none, mem_map, map_mem, mem_keep, keep_mem}
use Rattle.lending.proofs.Going.{Order, orderly_sweeps, numbered}
use Rattle.lending.proofs.Order.{orderly_rises}
use Rattle.lending.proofs.Sweeping.{inside, step}

-- a number is found by a binary search exactly if it is there
module _ (x : ℕ) where
  there : (xs : List ℕ) (i : ℕ) → i < length xs → get_or xs i 0 ≡ x → list_any (λ y. eqb y x) xs ≡ true
  there [] i l e = absurd (omega arith)
  there (y ∷ ys) zero l e = ap (λ (b : Bool). b || list_any (λ z. eqb z x) ys) (eq-eqb y x e)
  there (y ∷ ys) (suc i) l e = ap (λ (b : Bool). eqb y x || b) (there ys i (le_of_suc-le-suc l) e) ∙ or_true (eqb y x)
    where
      or_true : (b : Bool) → (b || true) ≡ true
      or_true true = refl
      or_true false = refl

  absent : (xs : List ℕ) → ((k : ℕ) → k < length xs → get_or xs k 0 ≡ x → ⊥) → list_any (λ y. eqb y x) xs ≡ false
  absent [] h = refl
  absent (y ∷ ys) h = ap (λ (b : Bool). b || list_any (λ z. eqb z x) ys) (ne_eqb y x (h 0 (omega arith))) ∙ absent ys (λ k l e. h (suc k) (omega arith) e)

  pub found_there : (xs : List ℕ) (r : Result ℕ ℕ) → IsBinarySearchResult (λ y. nat_cmp y x) xs r → IsNonDecreasing xs → is_ok r ≡ list_any (λ y. eqb y x) xs
  found_there xs r h up = go r (searched xs x r h (λ i j a b. up i j 0 a b))
    where
      go : (r : Result ℕ ℕ) → MatchResult r (λ i. (i < length xs) × (get_or xs i 0 ≡ x)) (λ i. (i ≤ length xs) × ((k : ℕ) → k < i → get_or xs k 0 < x) × ((k : ℕ) → i ≤ k → k < length xs → x < get_or xs k 0)) → is_ok r ≡ list_any (λ y. eqb y x) xs
      go (Ok i) m = sym (there xs i m.0 m.1)
      go (Err i) m = sym (absent xs (λ k l e. ⊎_elim (λ (a : k < i). let q = m.1 k a in omega arith) (λ (a : i ≤ k). let q = m.2 k a l in omega arith) (cases_lt k i)))

module _ {S : Type 0} where
  -- the numbers of a roll don't fall
  above_lo : (lo : ℕ) (xs : List (Lease S)) → Rising lo xs → (k d : ℕ) → k < length (map (λ l. l.number) xs) → lo < get_or (map (λ l. l.number) xs) k d
  above_lo lo [] r k d h = absurd (omega arith)
  above_lo lo (x ∷ xs) r zero d h = r.0
  above_lo lo (x ∷ xs) r (suc k) d h = let a = r.0 in let b = above_lo x.number xs r.1 k d (le_of_suc-le-suc h) in omega arith

  pub numbers_rise : (lo : ℕ) (xs : List (Lease S)) → Rising lo xs → IsNonDecreasing (map (λ l. l.number) xs)
  numbers_rise lo [] r i j d le lt = absurd (omega arith)
  numbers_rise lo (x ∷ xs) r zero zero d le lt = omega arith
  numbers_rise lo (x ∷ xs) r zero (suc j) d le lt = let a = above_lo x.number xs r.1 j d (le_of_suc-le-suc lt) in omega arith
  numbers_rise lo (x ∷ xs) r (suc i) zero d le lt = absurd (omega arith)
  numbers_rise lo (x ∷ xs) r (suc i) (suc j) d le lt = numbers_rise x.number xs r.1 i j d (le_of_suc-le-suc le) (le_of_suc-le-suc lt)

  rising_front : (lo : ℕ) (xs ys : List (Lease S)) → Rising lo (xs ++ ys) → Rising lo xs
  rising_front lo [] ys r = tt
  rising_front lo (x ∷ xs) ys r = (r.0, rising_front x.number xs ys r.1)

  -- a lease with a lower number than x stands before it
  before : (lo : ℕ) (xs : List (Lease S)) (x : Lease S) (ys : List (Lease S)) → Rising lo (xs ++ (x ∷ ys)) → (y : Lease S) → Memᴰ y (xs ++ (x ∷ ys)) → y.number < x.number → Memᴰ y xs
  before lo [] x ys r y m h = ⊎_elim (λ (e : y ≡ x). absurd (let q : y.number ≡ x.number = ap (λ (l : Lease S). l.number) e in omega arith)) (λ (k : Memᴰ y ys). absurd (let q = rising_above x.number ys r.1 y k in omega arith)) (Memᴰ.cases_cons m)
  before lo (z ∷ xs) x ys r y m h = ⊎_elim (λ (e : y ≡ z). Memᴰ.head e) (λ (k : Memᴰ y (xs ++ (x ∷ ys))). Memᴰ.tail (before z.number xs x ys r.1 y k h)) (Memᴰ.cases_cons m)

-- A pass over a roll that notes the numbers of those leases that p tells.
module _ {S : Type 0} (p : Lease S → Bool) (roll : List (Lease S)) where
  -- those in front have been seen, and the others are left
  abbrev pub Noted : List (Lease S) → List (Lease S) → List ℕ → Type 0
  Noted front left items = (front ++ left ≡ roll) × (items ≡ map (λ l. l.number) (filter p front))

  pub begins : (left : List (Lease S)) (items : List ℕ) → left ≡ roll → items ≡ [] → Noted [] left items
  begins left items e f = (e, f)

  on : (front : List (Lease S)) (x : Lease S) (rest left : List (Lease S)) → left ≡ x ∷ rest → front ++ left ≡ roll → (front ++ (x ∷ [])) ++ rest ≡ roll
  on front x rest left e f = append_assoc front (x ∷ []) rest ∙ ap (λ (ls : List (Lease S)). front ++ ls) (sym e) ∙ f

  pub noted : (front : List (Lease S)) (x : Lease S) (rest left : List (Lease S)) (items more : List ℕ) → left ≡ x ∷ rest → Noted front left items → p x ≡ true → more ≡ items ++ (x.number ∷ []) → Noted (front ++ (x ∷ [])) rest more
  noted front x rest left items more e n t m = (
    on front x rest left e n.0,
    m ∙ ap (λ (ns : List ℕ). ns ++ (x.number ∷ [])) n.1 ∙ sym (ap (map (λ l. l.number)) (filter-append p front (x ∷ []) ∙ ap (λ (b : Bool). filter p front ++ cond b (x ∷ []) []) t) ∙ map-append (λ l. l.number) (filter p front) (x ∷ [])),
  )

  pub passed : (front : List (Lease S)) (x : Lease S) (rest left : List (Lease S)) (items : List ℕ) → left ≡ x ∷ rest → Noted front left items → p x ≡ false → Noted (front ++ (x ∷ [])) rest items
  passed front x rest left items e n t = (
    on front x rest left e n.0,
    n.1 ∙ sym (ap (map (λ l. l.number)) (filter-append p front (x ∷ []) ∙ ap (λ (b : Bool). filter p front ++ cond b (x ∷ []) []) t ∙ append-nil (filter p front))),
  )

  pub ended : (front left : List (Lease S)) (items : List ℕ) → left ≡ [] → Noted front left items → items ≡ map (λ l. l.number) (filter p roll)
  ended front left items e n = n.1 ∙ ap (λ (ls : List (Lease S)). map (λ l. l.number) (filter p ls)) (sym (append-nil front) ∙ ap (λ (ls : List (Lease S)). front ++ ls) (sym e) ∙ n.0)

  fewer : (ls : List (Lease S)) → length (map (λ l. l.number) (filter p ls)) ≤ length ls
  fewer [] = omega arith
  fewer (x ∷ xs) = go (p x) (fewer xs)
    where
      go : (b : Bool) → length (map (λ l. l.number) (filter p xs)) ≤ length xs → length (map (λ l. l.number) (cond b (x ∷ filter p xs) (filter p xs))) ≤ suc (length xs)
      go true h = omega arith
      go false h = omega arith

  -- there is room for one more
  pub room : (front : List (Lease S)) (x : Lease S) (rest left : List (Lease S)) (items : List ℕ) → left ≡ x ∷ rest → Noted front left items → length items < length roll
  room front x rest left items e n =
      let a = ap length n.0 in let b = ap length e in let c = ap length n.1 in let d = fewer front in
      omega (arith, length-append front left)

-- the lease is the top or under it
abbrev pub in_it : {S : Type 0} → List (Lease S) → ℕ → Lease S → Bool
in_it roll top l = eqb l.number top || under roll l.number top

module _ {S : Type 0} (K : Kind S) (s : State S) (o : ∥ Orderly s.core.roll s.core.issued ∥₁) (top : ℕ) (alive : live s.core.roll top ≡ true) where
  -- a number of the family has a live lease
  has_lease : (m : ℕ) → (eqb m top || under s.core.roll m top) ≡ true → (y : Lease S) × Memᴰ y s.core.roll × (y.number ≡ m)
  has_lease m e = ⊎_elim (λ (q : eqb m top ≡ true). found m (ap (live s.core.roll) (eqb-true m top q) ∙ alive)) (λ (q : under s.core.roll m top ≡ true). chained m q) (or_cases (eqb m top) (under s.core.roll m top) e)
    where
      found : (m : ℕ) → live s.core.roll m ≡ true → (y : Lease S) × Memᴰ y s.core.roll × (y.number ≡ m)
      found m e = go (find s.core.roll m) refl e
        where
          go : (f : Option (Lease S)) → find s.core.roll m ≡ f → is_some f ≡ true → (y : Lease S) × Memᴰ y s.core.roll × (y.number ≡ m)
          go None q t = absurd (false≢true t)
          go (Some y) q t = let r = find_in s.core.roll m y q in (y, r.0, r.1)

      chained : (m : ℕ) → under s.core.roll m top ≡ true → (y : Lease S) × Memᴰ y s.core.roll × (y.number ≡ m)
      chained zero q = absurd (false≢true q)
      chained (suc k) q = go (find s.core.roll (suc k)) refl q
        where
          go : (f : Option (Lease S)) → find s.core.roll (suc k) ≡ f → list_any (λ x. eqb x top) (lender_then f (λ x. lenders k s.core.roll x)) ≡ true → (y : Lease S) × Memᴰ y s.core.roll × (y.number ≡ suc k)
          go None z t = absurd (false≢true t)
          go (Some y) z t = let r = find_in s.core.roll (suc k) y z in (y, r.0, r.1)

  -- A lease is marked if it is the top or its lender is marked: with those before it marked, that is the family.
  pub next_mark : (front : List (Lease S)) (x : Lease S) (rest : List (Lease S)) → front ++ (x ∷ rest) ≡ s.core.roll → in_it s.core.roll top x ≡ (eqb x.number top || list_any (λ n. eqb n x.lender) (map (λ l. l.number) (filter (in_it s.core.roll top) front)))
  unfolding inside
  next_mark front x rest e = step K Order (orderly_sweeps K) s o top (numbered K s o top alive) x mx ∙ ap (λ (b : Bool). eqb x.number top || b) (go (eqb x.lender top || under s.core.roll x.lender top) refl)
    where
      mx : Memᴰ x s.core.roll
      mx = subst (λ (r : List (Lease S)). Memᴰ x r) e (Memᴰ.append_right front (Memᴰ.head refl))

      go : (b : Bool) → (eqb x.lender top || under s.core.roll x.lender top) ≡ b → b ≡ list_any (λ n. eqb n x.lender) (map (λ l. l.number) (filter (in_it s.core.roll top) front))
      go true q =
          let y = has_lease x.lender q in
          let is : y.0.number ≡ x.lender = y.2 in
          let low = (orderly_sweeps K).low s.core.roll s.core.issued o x mx in
          let my : Memᴰ y.0 front = before 0 front x rest (subst (λ (r : List (Lease S)). Rising 0 r) (sym e) (orderly_rises s.core.roll s.core.issued o)) y.0 (subst (λ (r : List (Lease S)). Memᴰ y.0 r) (sym e) y.1) (omega arith) in
          sym (some_is_true (λ n. eqb n x.lender) (map (λ l. l.number) (filter (in_it s.core.roll top) front)) y.0.number (map_mem (λ (l : Lease S). l.number) (keep_mem (in_it s.core.roll top) front y.0 my (ap (λ (n : ℕ). eqb n top || under s.core.roll n top) is ∙ q))) (eq-eqb y.0.number x.lender is))
      go false q = sym (some_is_none (λ n. eqb n x.lender) (map (λ l. l.number) (filter (in_it s.core.roll top) front)) (λ n m t.
          let y = mem_map (λ (l : Lease S). l.number) (filter (in_it s.core.roll top) front) n m in
          let k = mem_keep (in_it s.core.roll top) front y.0 y.1 in
          let is : y.0.number ≡ x.lender = sym y.2 ∙ eqb-true n x.lender t in
          false≢true (sym q ∙ ap (λ (j : ℕ). eqb j top || under s.core.roll j top) (sym is) ∙ k.1)))

  pub marks_rise : (front rest : List (Lease S)) → front ++ rest ≡ s.core.roll → IsNonDecreasing (map (λ l. l.number) (filter (in_it s.core.roll top) front))
  marks_rise front rest e = numbers_rise 0 (filter (in_it s.core.roll top) front) (rising_keep (in_it s.core.roll top) 0 front (rising_front 0 front rest (subst (λ (r : List (Lease S)). Rising 0 r) (sym e) (orderly_rises s.core.roll s.core.issued o))))
