-- A holder's shares joined as they come.
use Rattle.std.proofs.Common.{◌≡◌, ℕ, Bool, true, false, cond, ◌&&◌, eqb, List, [], ◌∷◌, map, None, Some, Option, sym, ap, ◌∙◌, ap₂}
use Rattle.std.specs.List.{filter}
use Rattle.std.proofs.lemmas.Bool.{eq-eqb, false≢true}
use Rattle.shares.specs.Joins.{together}
use Rattle.lending.specs.declared.lease.Lease.{Lease}
use Rattle.shares.specs.Kind.{Kind, Laws}
use Rattle.lending.specs.Roll.{shares_of}
use Rattle.lending.specs.Above.{standing_of}
use Rattle.shares.proofs.Sums.{plus?, plus_join, plus_assoc, plus_none, plus_nothing, nothing_plus, together_plus}

module _ {S : Type 0} (K : Kind S) (L : Laws K) (resource holder : ℕ) where
  -- so much has been joined, and these leases are to come
  abbrev pub joining : S → List (Lease S) → Option S
  joining all left = plus? K (Some all) (standing_of K left resource holder)

  -- before the first
  pub joins_from : (all : S) (left roll : List (Lease S)) → all ≡ K.empty → left ≡ roll → joining all left ≡ standing_of K roll resource holder
  joins_from all left roll e f = ap₂ joining e f ∙ nothing_plus K L (standing_of K roll resource holder)

  -- when none is left
  pub joins_all : (all : S) (left : List (Lease S)) (whole : Option S) → left ≡ [] → joining all left ≡ whole → Some all ≡ whole
  joins_all all left whole e h = sym (ap (joining all) e ∙ plus_nothing K L (Some all)) ∙ h

  joins_one : (all : S) (x : Lease S) (rest left : List (Lease S)) → left ≡ x ∷ rest → x.resource ≡ resource → x.holder ≡ holder → joining all left ≡ plus? K (K.join all x.share) (standing_of K rest resource holder)
  joins_one all x rest left e r h =
      ap (joining all) e ∙ go (eqb x.resource resource && eqb x.holder holder) (both (eqb x.resource resource) (eqb x.holder holder) (eq-eqb x.resource resource r) (eq-eqb x.holder holder h))
    where
      both : (a b : Bool) → a ≡ true → b ≡ true → (a && b) ≡ true
      both a b p q = ap₂ (λ (c d : Bool). c && d) p q

      go : (b : Bool) → b ≡ true → plus? K (Some all) (together K (map (λ l. l.share) (cond b (x ∷ filter (λ l. eqb l.resource resource && eqb l.holder holder) rest) (filter (λ l. eqb l.resource resource && eqb l.holder holder) rest)))) ≡ plus? K (K.join all x.share) (standing_of K rest resource holder)
      go true q = ap (plus? K (Some all)) (together_plus K x.share (shares_of rest resource holder)) ∙ sym (plus_assoc K L (Some all) (Some x.share) (standing_of K rest resource holder)) ∙ ap (λ (o : Option S). plus? K o (standing_of K rest resource holder)) (plus_join K all x.share)
      go false q = absurd (false≢true q)

  module _ (all : S) (x : Lease S) (rest left : List (Lease S)) (whole : Option S) (e : left ≡ x ∷ rest) (r : x.resource ≡ resource) (h : x.holder ≡ holder) (so_far : joining all left ≡ whole) where
    -- one more is joined,
    pub joins_more : (sum : S) (o : Option S) → o ≡ K.join all x.share → o ≡ Some sum → joining sum rest ≡ whole
    joins_more sum o a b = ap (λ (p : Option S). plus? K p (standing_of K rest resource holder)) (sym b ∙ a) ∙ sym (joins_one all x rest left e r h) ∙ so_far

    -- or doesn't join
    pub joins_never : (o : Option S) → o ≡ K.join all x.share → o ≡ None → None ≡ whole
    joins_never o a b = sym (plus_none K (standing_of K rest resource holder)) ∙ ap (λ (p : Option S). plus? K p (standing_of K rest resource holder)) (sym b ∙ a) ∙ sym (joins_one all x rest left e r h) ∙ so_far
