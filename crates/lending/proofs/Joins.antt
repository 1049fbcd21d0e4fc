-- Parts of a join: what can be added to the whole, what nothing consists of, and what of a defined join is defined.
use Rattle.std.proofs.Common.{◌≡◌, ℕ, List, Some, None, Option, refl, ap, ◌∙◌, arith}
use Rattle.shares.specs.Kind.{Kind, Laws, bind}
use Rattle.shares.specs.Joins.{JoinTo, together}
use Rattle.shares.proofs.Sums.{plus?, nothing, any_way}

module _ {S : Type 0} (K : Kind S) where
  pub plus_then : (x y : Option S) → bind x (λ a. bind y (λ b. K.join a b)) ≡ plus? K x y
  unfolding plus?
  plus_then x y = refl

  module _ (L : Laws K) where
    -- where the shares come to s as they stand, they do in every order and grouping
    pub joins_every_way : (xs : List S) (s : S) → together K xs ≡ Some s → JoinTo K xs s
    joins_every_way xs s e g p = any_way K L xs g p ∙ e

    -- only nothing can be added to the whole
    pub whole_rest : (x : Option S) (s : S) → plus? K (Some K.whole) x ≡ Some s → x ≡ (nothing K)
    unfolding plus?
    whole_rest None s e = cc
    whole_rest (Some o) s e = ap {B = Option S} Some (L.whole_takes_only_empty o s (L.commutes o K.whole ∙ e))

    -- the parts of nothing are nothing
    pub parts_nothing : (x y : Option S) → plus? K x y ≡ (nothing K) → (x ≡ nothing K) × (y ≡ nothing K)
    unfolding plus?
    parts_nothing None y e = (cc, absurd (let z : ◌≡◌ {A = ℕ} 0 1 = cc in omega arith))
    parts_nothing (Some a) None e = (absurd (let z : ◌≡◌ {A = ℕ} 0 1 = cc in omega arith), cc)
    parts_nothing (Some a) (Some b) e = let h = L.empty_has_no_parts a b e in (ap {B = Option S} Some h.0, ap {B = Option S} Some h.1)

    -- a part of what is defined is defined
    pub part_defined : (x y : Option S) (s : S) → plus? K x y ≡ Some s → (a : S) × (x ≡ Some a)
    unfolding plus?
    part_defined None y s e = absurd (let z : ◌≡◌ {A = ℕ} 0 1 = cc in omega arith)
    part_defined (Some a) y s e = (a, refl)
