-- What is lent and what is left join to the share that they came from.
use Rattle.std.proofs.Common.{◌≡◌, ℕ, zero, suc, ◌+◌, ◌-◌, ◌<◌, ◌≤◌, ◌⊎◌, List, [], ◌∷◌, ◌++◌, Some, None, Option, sym, refl, ap, ◌∙◌, ap₂, inl, inr, append_assoc, append-nil, arith}
use Rattle.shares.specs.Kind.{Kind, Laws}
use Rattle.shares.specs.Joins.{together, JoinTo}
use Rattle.shares.proofs.Sums.{plus?, plus_join, plus_comm, plus_swap, together_plus, any_way}
use Rattle.rounds.specs.declared.loan.Loan.{Loan}
use Rattle.rounds.specs.Loans.{loans_of, left_of, lent_shares}

module _ {S : Type 0} (K : Kind S) where
  -- the loans and what is left where the next borrower is served, and where none is
  abbrev loan : S × S → Loan S
  loan h = record { lent = h.1; kept = h.0 }

  pub loans_more : (n : ℕ) (s : S) (h : S × S) → K.halve s ≡ Some h → loans_of K (suc n) s ≡ loan h ∷ loans_of K n h.0
  loans_more n s h e = ap (λ o. elim o [ None ↦ [] | Some h ↦ loan h ∷ loans_of K n h.0 ]) e

  pub left_more : (n : ℕ) (s : S) (h : S × S) → K.halve s ≡ Some h → left_of K (suc n) s ≡ left_of K n h.0
  left_more n s h e = ap (λ o. elim o [ None ↦ s | Some h ↦ left_of K n h.0 ]) e

  pub loans_end : (n : ℕ) (s : S) → K.halve s ≡ None → loans_of K n s ≡ []
  loans_end zero s e = refl
  loans_end (suc n) s e = ap (λ o. elim o [ None ↦ [] | Some h ↦ loan h ∷ loans_of K n h.0 ]) e

  pub left_end : (n : ℕ) (s : S) → K.halve s ≡ None → left_of K n s ≡ s
  left_end zero s e = refl
  left_end (suc n) s e = ap (λ o. elim o [ None ↦ s | Some h ↦ left_of K n h.0 ]) e

  module _ (L : Laws K) where
    -- in the order in which they stand
    pub sum_is : (n : ℕ) (s : S) → together K (left_of K n s ∷ lent_shares (loans_of K n s)) ≡ Some s
    sum_is zero s = L.empty_adds_nothing s
    sum_is (suc n) s = go (K.halve s) refl (λ k. sum_is n k)
      where
        go : (o : Option (S × S)) → K.halve s ≡ o → ((k : S) → together K (left_of K n k ∷ lent_shares (loans_of K n k)) ≡ Some k)
            → together K (left_of K (suc n) s ∷ lent_shares (loans_of K (suc n) s)) ≡ Some s
        go None e rest = ap₂ (λ l xs. together K (l ∷ lent_shares xs)) (left_end (suc n) s e) (loans_end (suc n) s e) ∙ L.empty_adds_nothing s
        go (Some h) e rest =
            let left = left_of K n h.0 in
            let lent = lent_shares (loans_of K n h.0) in
            ap₂ (λ l xs. together K (l ∷ lent_shares xs)) (left_more n s h e) (loans_more n s h e)
            ∙ together_plus K left (h.1 ∷ lent)
            ∙ ap (plus? K (Some left)) (together_plus K h.1 lent)
            ∙ plus_swap K L (Some left) (Some h.1) (together K lent)
            ∙ ap (plus? K (Some h.1)) (sym (together_plus K left lent) ∙ rest h.0)
            ∙ plus_comm K L (Some h.1) (Some h.0) ∙ plus_join K h.0 h.1 ∙ L.halves_join s h.0 h.1 e

    pub joins_are : (xs : List S) (s : S) → together K xs ≡ Some s → JoinTo K xs s
    joins_are xs s e g p = any_way K L xs g p ∙ e

  -- a turn of the loop: i borrowers are served, and one more is
  pub turn : (n i : ℕ) (s left : S) (h : S × S) (before after : List (Loan S)) → i < n → K.halve left ≡ Some h → after ≡ before ++ (loan h ∷ [])
      → (before ++ loans_of K (n - i) left ≡ loans_of K n s) × (left_of K (n - i) left ≡ left_of K n s)
      → (after ++ loans_of K (n - (i + 1)) h.0 ≡ loans_of K n s) × (left_of K (n - (i + 1)) h.0 ≡ left_of K n s)
  turn n i s left h before after l e p inv =
      let m = n - (i + 1) in
      let more : suc m ≡ n - i = omega arith in (
        ap (λ xs. xs ++ loans_of K m h.0) p ∙ append_assoc before (loan h ∷ []) (loans_of K m h.0)
            ∙ ap (λ xs. before ++ xs) (sym (loans_more m left h e) ∙ ap (λ k. loans_of K k left) more) ∙ inv.0,
        sym (left_more m left h e) ∙ ap (λ k. left_of K k left) more ∙ inv.1,
      )

  -- the end of the loop: every borrower is served, or what is left doesn't halve
  pub ended : (n i : ℕ) (s left : S) (loans : List (Loan S)) → (n ≤ i) ⊎ (K.halve left ≡ None)
      → (loans ++ loans_of K (n - i) left ≡ loans_of K n s) × (left_of K (n - i) left ≡ left_of K n s)
      → (loans ≡ loans_of K n s) × (left ≡ left_of K n s)
  ended n i s left loans (inl l) inv =
      let none : n - i ≡ 0 = omega arith in
      (sym (append-nil loans) ∙ ap (λ k. loans ++ loans_of K k left) (sym none) ∙ inv.0, ap (λ k. left_of K k left) (sym none) ∙ inv.1)
  ended n i s left loans (inr e) inv =
      (sym (append-nil loans) ∙ ap (λ xs. loans ++ xs) (sym (loans_end (n - i) left e)) ∙ inv.0, sym (left_end (n - i) left e) ∙ inv.1)
