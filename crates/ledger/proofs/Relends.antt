-- One more lease of a roll in which a is to lend what b lent.
use Rattle.std.proofs.Common.{◌≡◌, ℕ, ◌+◌, ◌<◌, cond, eqb, List, ◌++◌, length, take, drop, get_or, set, sym, ap, ◌∙◌}
use Rattle.std.proofs.lemmas.Bool.{eq-eqb, ne_eqb}
use Rattle.std.proofs.lemmas.List.Edits.{map_over_more}
use Rattle.lending.specs.declared.lease.Lease.{Lease}
use Rattle.lending.specs.Roll.{relend, with_lender}

module _ {S : Type 0} (ys xs : List (Lease S)) (a b i : ℕ) (x : Lease S) where
  relend_more : i < length xs → ys ≡ relend a b (take i xs) ++ drop i xs → x ≡ get_or ys i x → set ys i (cond (eqb x.lender b) (with_lender a x) x) ≡ relend a b (take (i + 1) xs) ++ drop (i + 1) xs
  relend_more l h e = map_over_more (λ (l : Lease S). cond (eqb l.lender b) (with_lender a l) l) xs ys i x l h e

  -- it was lent by b
  pub relend_hit : i < length xs → ys ≡ relend a b (take i xs) ++ drop i xs → x ≡ get_or ys i x → (get_or ys i x).lender ≡ b → set ys i (with_lender a (get_or ys i x)) ≡ relend a b (take (i + 1) xs) ++ drop (i + 1) xs
  relend_hit l h e q = ap (λ k. set ys i (with_lender a k)) (sym e) ∙ sym (ap (λ t. set ys i (cond t (with_lender a x) x)) (eq-eqb x.lender b (ap (λ (k : Lease S). k.lender) e ∙ q))) ∙ relend_more l h e

  -- it was not
  pub relend_miss : i < length xs → ys ≡ relend a b (take i xs) ++ drop i xs → x ≡ get_or ys i x → ((get_or ys i x).lender ≡ b → ⊥) → set ys i (get_or ys i x) ≡ relend a b (take (i + 1) xs) ++ drop (i + 1) xs
  relend_miss l h e q = ap (set ys i) (sym e) ∙ sym (ap (λ t. set ys i (cond t (with_lender a x) x)) (ne_eqb x.lender b (λ w. q (sym (ap (λ (k : Lease S). k.lender) e) ∙ w)))) ∙ relend_more l h e
