-- The place of a number in a roll, whose numbers rise.
use Rattle.std.proofs.Common.{◌≡◌, ℕ, zero, suc, ◌<◌, ◌≤◌, Bool, true, false, cond, not, eqb, List, [], ◌∷◌, length, get_or, Some, None, Option, IfSome, is_some, ltb, Bor, Result, Ok, Err, sym, refl, ap, ◌∙◌, ap₂, ⊎_elim, suc-le-suc, le_of_suc-le-suc, arith}
use mathlib.Core.List.{Memᴰ}
use mathlib.Core.Option as maybe
use lib.ListN.{get_elem?}
use denote.Param.Members.{Mut}
use Rattle.std.specs.Fn.{Called, ComputesKey}
use Rattle.std.specs.Option.{option_copied}
use Rattle.std.specs.List.Sorted.{IsSearchInRange, IsBinarySearchResult, IsNonDecreasingBy}
use Rattle.std.specs.Ordering.{nat_cmp, ordering_index}
use Rattle.std.specs.Result.{result_ok}
use Rattle.std.proofs.lemmas.Bool.{eqb-true, eq-eqb, ne_eqb, cases_lt, ltb-true, ltb-false}
use Rattle.std.proofs.lemmas.Bool.Decides.{nat_tests}
use Rattle.std.proofs.lemmas.Cmp.{ranked}
use Rattle.std.proofs.lemmas.List.Sorted.{answers_always}
use Rattle.lending.specs.declared.lease.Lease.{Lease}
use Rattle.lending.specs.Roll.{Rising, find, change, close}
use Rattle.lending.proofs.Rolls.{rising_above, not_found, change_absent, close_absent}
use Rattle.ledger.specs.Rows.{At, Found, Looked}

module _ {S : Type 0} where
  above_lo : (lo : ℕ) (xs : List (Lease S)) → Rising lo xs → (k : ℕ) (d : Lease S) → k < length xs → lo < (get_or xs k d).number
  above_lo lo [] r k d h = absurd (omega arith)
  above_lo lo (x ∷ xs) r zero d h = r.0
  above_lo lo (x ∷ xs) r (suc k) d h = let a = r.0 in let b = above_lo x.number xs r.1 k d (le_of_suc-le-suc h) in omega arith

  rises_at : (lo : ℕ) (xs : List (Lease S)) → Rising lo xs → (j k : ℕ) (d : Lease S) → j < k → k < length xs → (get_or xs j d).number < (get_or xs k d).number
  rises_at lo [] r j k d l h = absurd (omega arith)
  rises_at lo (x ∷ xs) r zero zero d l h = absurd (omega arith)
  rises_at lo (x ∷ xs) r zero (suc k) d l h = above_lo x.number xs r.1 k d (le_of_suc-le-suc h)
  rises_at lo (x ∷ xs) r (suc j) zero d l h = absurd (omega arith)
  rises_at lo (x ∷ xs) r (suc j) (suc k) d l h = rises_at x.number xs r.1 j k d (le_of_suc-le-suc l) (le_of_suc-le-suc h)

  pub numbers_rise : (xs : List (Lease S)) → Rising 0 xs → IsNonDecreasingBy (λ l. l.number) xs
  numbers_rise xs r i j d le lt = ⊎_elim (λ (q : i < j). let a = rises_at 0 xs r i j d q lt in omega arith) (λ (q : j ≤ i). let e : i ≡ j = omega arith in let a = ap (λ k. (get_or xs k d).number) e in omega arith) (cases_lt i j)

  -- so do the comparisons with n, as a binary search asks
  comparisons_rise : (n : ℕ) (xs : List (Lease S)) → Rising 0 xs → IsNonDecreasingBy (λ l. ordering_index (nat_cmp l.number n)) xs
  comparisons_rise n xs r i j d le lt = let a = numbers_rise xs r i j d le lt in grind (arith, nat_tests)

  nowhere : (n : ℕ) (xs : List (Lease S)) → ((k : ℕ) (d : Lease S) → k < length xs → (get_or xs k d).number ≡ n → ⊥) → find xs n ≡ None
  nowhere n [] h = refl
  nowhere n (x ∷ xs) h = ap (λ b. cond b (Some x) (find xs n)) (ne_eqb x.number n (h 0 x (omega arith))) ∙ nowhere n xs (λ k d l e. h (suc k) d (omega arith) e)

  found_at : (n lo k : ℕ) (xs : List (Lease S)) → Rising lo xs → k < length xs → ((d : Lease S) → (get_or xs k d).number ≡ n) → Found n xs k
  found_at n lo k [] r l m = absurd (omega arith)
  found_at n lo zero (y ∷ ys) r l m =
      let q : y.number ≡ n = m y in
      let t : eqb y.number n ≡ true = eq-eqb y.number n q in
      let gone : (z : Lease S) → Memᴰ z ys → z.number ≡ n → ⊥ = λ z k w. let a = rising_above y.number ys r.1 z k in omega arith in
      record {
        within = l;
        named = m;
        is = λ d. ap (λ b. cond b (Some y) (find ys n)) t;
        changes = λ f d. ap (λ b. cond b (f y) y ∷ change n f ys) t ∙ ap (λ s. f y ∷ s) (change_absent ys n f gone);
        closes = ap (λ b. cond (not b) (y ∷ close n ys) (close n ys)) t ∙ close_absent ys n gone;
      }
  found_at n lo (suc k) (y ∷ ys) r l m =
      let i = found_at n y.number k ys r.1 (le_of_suc-le-suc l) m in
      let q : (get_or ys k y).number ≡ n = m y in
      let a = above_lo y.number ys r.1 k y (le_of_suc-le-suc l) in
      let t : eqb y.number n ≡ false = ne_eqb y.number n (λ w. omega arith) in
      record {
        within = suc-le-suc i.within;
        named = i.named;
        is = λ d. ap (λ b. cond b (Some y) (find ys n)) t ∙ i.is d;
        changes = λ f d. ap (λ b. cond b (f y) y ∷ change n f ys) t ∙ ap (λ s. y ∷ s) (i.changes f d);
        closes = ap (λ b. cond (not b) (y ∷ close n ys) (close n ys)) t ∙ ap (λ s. y ∷ s) i.closes;
      }

  -- a binary search finds the place of a number
  searched : (n : ℕ) (xs : List (Lease S)) → Rising 0 xs → (r : Result ℕ ℕ) → IsSearchInRange r (length xs) → IsBinarySearchResult (λ l. nat_cmp l.number n) xs r → Looked n xs (result_ok r)
  searched n xs r (Ok k) l equal = found_at n 0 k xs r l (λ d. ranked _ n _ (sym (equal d)))
  searched n xs r (Err k) l parted = let p = parted (comparisons_rise n xs r) in nowhere n xs (λ j d m e. ⊎_elim
      (λ (q : j < k). let a : (get_or xs j d).number < n = ranked _ n _ (sym (p.0 j d (omega arith) q)) in omega arith)
      (λ (q : k ≤ j). let a : n < (get_or xs j d).number = ranked _ n _ (sym (p.1 j d q m)) in omega arith)
      (cases_lt j k))

  -- where the search was told the number of each lease by calls of a closure
  pub searched_by : {F : Type 0} {g : Mut F (Bor (Lease S) × Unit {0}) ℕ} {f : F} (n : ℕ) (xs : List (Lease S)) → Rising 0 xs → (r : Result ℕ ℕ) → IsSearchInRange r (length xs) → ((key : Lease S → ℕ) → ComputesKey g key f → IsBinarySearchResult (λ l. nat_cmp (key l) n) xs r) → ((f : F) (a : Bor (Lease S) × Unit {0}) (k : ℕ) (f' : F) → Called g f a k f' → k ≡ a.0.now.number) → Looked n xs (result_ok r)
  searched_by {g = g} {f = f} n xs rises r within at told = searched n xs rises r within (at (λ l. l.number) (answers_always g (λ a k. k ≡ a.0.now.number) f told))

  -- where the number is absent nothing changes
  pub stays : (n : ℕ) (f : Lease S → Lease S) (xs : List (Lease S)) → find xs n ≡ None → xs ≡ change n f xs
  stays n f xs e = sym (change_absent xs n f (not_found xs n e))

  pub stays_closed : (n : ℕ) (xs : List (Lease S)) → find xs n ≡ None → xs ≡ close n xs
  stays_closed n xs e = sym (close_absent xs n (not_found xs n e))

  -- a lease that is found is changed by writing over it what becomes of it
  pub change_found : (n lo : ℕ) (xs : List (Lease S)) (x : Lease S) (f : Lease S → Lease S) → Rising lo xs → find xs n ≡ Some x → change n (λ l. f x) xs ≡ change n f xs
  change_found n lo [] x f r e = refl
  change_found n lo (y ∷ ys) x f r e = go (eqb y.number n) refl e (λ q. change_found n y.number ys x f r.1 q)
    where
      go : (b : Bool) → eqb y.number n ≡ b → cond b (Some y) (find ys n) ≡ Some x → (find ys n ≡ Some x → change n (λ l. f x) ys ≡ change n f ys) → ◌≡◌ {A = List (Lease S)} (cond b (f x) y ∷ change n (λ l. f x) ys) (cond b (f y) y ∷ change n f ys)
      go true t q below =
          let s : y ≡ x = cc in
          let m = eqb-true y.number n t in
          let gone : (z : Lease S) → Memᴰ z ys → z.number ≡ n → ⊥ = λ z k w. let a = rising_above y.number ys r.1 z k in omega arith in
          ap₂ (λ (h : Lease S) (t : List (Lease S)). h ∷ t) (ap f (sym s)) (change_absent ys n (λ l. f x) gone ∙ sym (change_absent ys n f gone))
      go false t q below = ap (λ (t : List (Lease S)). y ∷ t) (below q)

module _ {A : Type 0} where
  at_past : (xs : List A) (i : ℕ) → length xs ≤ i → get_elem? xs i ≡ maybe.none
  at_past [] i h = refl
  at_past (x ∷ xs) zero h = absurd (omega arith)
  at_past (x ∷ xs) (suc i) h = at_past xs i (le_of_suc-le-suc h)

  at_within : (xs : List A) (i : ℕ) (x : A) → i < length xs → x ≡ get_or xs i x → get_elem? xs i ≡ maybe.some x
  at_within [] i x h e = absurd (omega arith)
  at_within (y ∷ ys) zero x h e = ap maybe.some (sym e)
  at_within (y ∷ ys) (suc i) x h e = at_within ys i x (le_of_suc-le-suc h) e

module _ {S : Type 0} where
  -- what is read at a position is what is there
  pub at_read : (xs : List (Lease S)) (i : ℕ) (o : Option (Bor (Lease S))) → is_some o ≡ ltb i (length xs) → IfSome o (λ x. x.now ≡ get_or xs i x.now) → At xs i (option_copied o)
  at_read xs i None e h = at_past xs i (ltb-false i (length xs) (sym e))
  at_read xs i (Some x) e h = at_within xs i x.now (ltb-true i (length xs) (sym e)) h
