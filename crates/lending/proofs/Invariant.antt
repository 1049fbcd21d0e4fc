-- What every state that calls reach has, and what follows from it of a single state.
use Rattle.std.proofs.Common.{◌≡◌, ℕ, ◌<◌, ◌≤◌, Bool, true, false, cond, not, ◌&&◌, eqb, ◌⊎◌, List, [], ◌∷◌, Some, Option, sym, refl, ap, ◌∙◌, inl, inr, ⊎_elim}
use mathlib.Core.List.Memᴰ
use mathlib.Core.List.{Memᴰ}
use Rattle.std.proofs.lemmas.Bool.{eqb-true, eq-eqb, ne_eqb, cases_eq, cases_Bool, cond-true, and_from}
use Rattle.lending.specs.declared.lease.Lease.{Lease}
use Rattle.shares.specs.Kind.{Kind, Laws}
use Rattle.lending.specs.Roll.{is_open}
use Rattle.lending.specs.Above.{standing_of}
use Rattle.shares.proofs.Sums.{plus?, nothing, plus_nothing, nothing_plus}
use Rattle.lending.proofs.Joins.{whole_rest, parts_nothing, part_defined}
use Rattle.lending.proofs.Totals.{total, where_is, total_ext, total_nothing, total_plus, together_keep}
use Rattle.lending.proofs.Rolls.{Rising, some_is_found, some_is_false}

module _ {S : Type 0} (K : Kind S) where
  -- the share of a lease of resource r
  abbrev pub share_in : ℕ → Lease S → Option S
  share_in r = where_is K (λ l. eqb l.resource r) (λ l. Some l.share)

  -- what a lease was lent by lease n
  abbrev pub lent_from : (ℕ → Option S) → ℕ → Lease S → Option S
  lent_from lt n = where_is K (λ l. eqb l.lender n) (λ l. lt l.number)

  -- the lender of a lease that is no first one
  pub record Lender (roll : List (Lease S)) (l : Lease S) : Type 0 where
    pub its : Lease S
    pub among : Memᴰ its roll
    pub is : its.number ≡ l.lender
    pub lower : l.lender < l.number
    pub resource : its.resource ≡ l.resource
    pub due : l.due ≤ its.due

  -- The invariant of a roll, where lt is what each number was lent.
  pub record Inv (roll : List (Lease S)) (issued : ℕ) (lt : ℕ → Option S) : Type 0 where
    pub rising : Rising 0 roll
    pub within : (l : Lease S) → Memᴰ l roll → l.number ≤ issued
    pub solid : (l : Lease S) → Memᴰ l roll → l.share ≡ K.empty → ⊥
    pub first : (l : Lease S) → Memᴰ l roll → l.lender ≡ 0 → lt l.number ≡ Some K.whole
    pub lender : (l : Lease S) → Memᴰ l roll → (l.lender ≡ 0 → ⊥) → Lender roll l
    -- what a lease has and what the leases right under it were lent is what it was lent
    pub balance : (l : Lease S) → Memᴰ l roll → plus? K (Some l.share) (total K (lent_from lt l.number) roll) ≡ lt l.number
    pub defined : (l : Lease S) → Memᴰ l roll → (t : S) × (lt l.number ≡ Some t)
    -- all of an open resource
    pub whole : (r : ℕ) (l : Lease S) → Memᴰ l roll → l.resource ≡ r → total K (share_in r) roll ≡ Some K.whole

module _ {S : Type 0} (K : Kind S) where
  pub total_parts : (L : Laws K) (f : Lease S → Option S) (ls : List (Lease S)) → total K f ls ≡ nothing K → (l : Lease S) → Memᴰ l ls → f l ≡ nothing K
  total_parts L f [] e l m = elim m [ ]
  total_parts L f (x ∷ xs) e l m = go (parts_nothing K L (f x) (total K f xs) e) (Memᴰ.cases_cons m) (λ q k. total_parts L f xs q l k)
    where
      go : (f x ≡ nothing K) × (total K f xs ≡ nothing K) → (l ≡ x) ⊎ Memᴰ l xs → (total K f xs ≡ nothing K → Memᴰ l xs → f l ≡ nothing K) → f l ≡ nothing K
      go p (inl q) below = ap f q ∙ p.0
      go p (inr k) below = below p.1 k

  module _ (L : Laws K) {roll : List (Lease S)} {issued : ℕ} {lt : ℕ → Option S} (I : Inv K roll issued lt) where
    -- the standing is the whole exactly when nobody else has a lease
    module _ (r h : ℕ) where
      mine : Lease S → Bool
      mine l = eqb l.resource r && eqb l.holder h

      theirs : Lease S → Bool
      theirs l = eqb l.resource r && not (eqb l.holder h)

      split : total K (share_in K r) roll ≡ plus? K (total K (where_is K mine (λ l. Some l.share)) roll) (total K (where_is K theirs (λ l. Some l.share)) roll)
      unfolding mine theirs
      split = total_ext K (share_in K r) (λ l. plus? K (where_is K mine (λ x. Some x.share) l) (where_is K theirs (λ x. Some x.share) l)) roll (λ l m. go (Some l.share) (eqb l.resource r) (eqb l.holder h)) ∙ total_plus K L (where_is K mine (λ l. Some l.share)) (where_is K theirs (λ l. Some l.share)) roll
        where
          go : (s : Option S) (a b : Bool) → cond a s (nothing K) ≡ plus? K (cond (a && b) s (nothing K)) (cond (a && not b) s (nothing K))
          go s true true = sym (plus_nothing K L s)
          go s true false = sym (nothing_plus K L s)
          go s false b = sym (plus_nothing K L (nothing K))

      stands : standing_of K roll r h ≡ total K (where_is K mine (λ l. Some l.share)) roll
      unfolding mine
      stands = together_keep K L mine (λ l. l.share) roll

      pub writes_when_alone : (x : Lease S) → Memᴰ x roll → x.resource ≡ r → ((l : Lease S) → Memᴰ l roll → l.resource ≡ r → l.holder ≡ h) → standing_of K roll r h ≡ Some K.whole
      unfolding mine
      writes_when_alone x m e alone = stands ∙ total_ext K (where_is K mine (λ l. Some l.share)) (share_in K r) roll (λ l k. go l k (eqb l.resource r) refl) ∙ I.whole r x m e
        where
          go : (l : Lease S) → Memᴰ l roll → (b : Bool) → eqb l.resource r ≡ b → cond (b && eqb l.holder h) (Some l.share) (nothing K) ≡ cond b (Some l.share) (nothing K)
          go l k true q = cond-true (eqb l.holder h) (Some l.share) (nothing K) (eq-eqb l.holder h (alone l k (eqb-true l.resource r q)))
          go l k false q = refl

      pub alone_when_writes : standing_of K roll r h ≡ Some K.whole → (l : Lease S) → Memᴰ l roll → l.resource ≡ r → l.holder ≡ h
      unfolding theirs
      alone_when_writes e l m q = ⊎_elim (λ (y : l.holder ≡ h). y) (λ (n : l.holder ≡ h → ⊥). absurd (I.solid l m (none n))) (cases_eq l.holder h)
        where
          rest : total K (where_is K theirs (λ x. Some x.share)) roll ≡ nothing K
          rest = whole_rest K L (total K (where_is K theirs (λ x. Some x.share)) roll) K.whole (ap (λ (w : Option S). plus? K w (total K (where_is K theirs (λ x. Some x.share)) roll)) (sym e ∙ stands) ∙ sym split ∙ I.whole r l m q)

          none : (l.holder ≡ h → ⊥) → l.share ≡ K.empty
          none n = let a : cond (eqb l.resource r && not (eqb l.holder h)) (Some l.share) (nothing K) ≡ Some l.share = cond-true (eqb l.resource r && not (eqb l.holder h)) (Some l.share) (nothing K) (and_from (eqb l.resource r) (not (eqb l.holder h)) (eq-eqb l.resource r q) (ap not (ne_eqb l.holder h n))) in
              let b = total_parts L (where_is K theirs (λ x. Some x.share)) roll rest l m in cc

      -- the standing is defined
      pub standing_part : (s : S) × (standing_of K roll r h ≡ Some s)
      unfolding mine
      standing_part = ⊎_elim
          (λ (e : is_open roll r ≡ true).
          let x = some_is_found (λ (l : Lease S). eqb l.resource r) roll e in
          let w = I.whole r x.0 x.1 (eqb-true x.0.resource r x.2) in
          let d = part_defined K L (total K (where_is K mine (λ l. Some l.share)) roll) (total K (where_is K theirs (λ l. Some l.share)) roll) K.whole (sym split ∙ w) in
          (d.0, stands ∙ d.1))
          (λ (e : is_open roll r ≡ false). (K.empty, stands ∙ total_nothing K L (where_is K mine (λ l. Some l.share)) roll (λ l m. ap (λ (b : Bool). cond (b && eqb l.holder h) (Some l.share) (nothing K)) (some_is_false (λ (x : Lease S). eqb x.resource r) roll e l m))))
          (cases_Bool (is_open roll r))
