-- Totals: what some things come to when each has a share.
use Rattle.std.proofs.Common.{◌≡◌, Bool, true, false, cond, List, [], ◌∷◌, ◌++◌, map, Some, Option, sym, refl, ap, ◌∙◌, ap₂}
use Rattle.std.specs.List.{filter}
use mathlib.Core.List.{Memᴰ}
use Rattle.shares.specs.Kind.{Kind, Laws}
use Rattle.shares.specs.Joins.{together}
use Rattle.shares.proofs.Sums.{plus?, nothing, plus_comm, plus_assoc, plus_nothing, nothing_plus}

module _ {S A : Type 0} (K : Kind S) where
  abbrev pub total : (A → Option S) → List A → Option S
  total f [] = nothing K
  total f (x ∷ xs) = plus? K (f x) (total f xs)

  -- what x has, if it counts
  abbrev pub where_is : (A → Bool) → (A → Option S) → A → Option S
  where_is p f x = cond (p x) (f x) (nothing K)

module _ {S A : Type 0} (K : Kind S) where
  pub total_ext : (f g : A → Option S) (xs : List A) → ((x : A) → Memᴰ x xs → f x ≡ g x) → total K f xs ≡ total K g xs
  total_ext f g [] h = refl
  total_ext f g (x ∷ xs) h = ap₂ (plus? K) (h x (Memᴰ.head refl)) (total_ext f g xs (λ y m. h y (Memᴰ.tail m)))

  pub total_map : (f : A → Option S) (h : A → A) (xs : List A) → total K f (map h xs) ≡ total K (λ x. f (h x)) xs
  total_map f h [] = refl
  total_map f h (x ∷ xs) = ap (plus? K (f (h x))) (total_map f h xs)

  module _ (L : Laws K) where
    pub total_append : (f : A → Option S) (xs ys : List A) → total K f (xs ++ ys) ≡ plus? K (total K f xs) (total K f ys)
    total_append f [] ys = sym (nothing_plus K L (total K f ys))
    total_append f (x ∷ xs) ys = ap (plus? K (f x)) (total_append f xs ys) ∙ sym (plus_assoc K L (f x) (total K f xs) (total K f ys))

    pub total_nothing : (f : A → Option S) (xs : List A) → ((x : A) → Memᴰ x xs → f x ≡ nothing K) → total K f xs ≡ nothing K
    total_nothing f [] h = refl
    total_nothing f (x ∷ xs) h = ap₂ (plus? K) (h x (Memᴰ.head refl)) (total_nothing f xs (λ y m. h y (Memᴰ.tail m))) ∙ plus_nothing K L (nothing K)

    pub total_plus : (f g : A → Option S) (xs : List A) → total K (λ x. plus? K (f x) (g x)) xs ≡ plus? K (total K f xs) (total K g xs)
    total_plus f g [] = sym (plus_nothing K L (nothing K))
    total_plus f g (x ∷ xs) = ap (plus? K (plus? K (f x) (g x))) (total_plus f g xs) ∙ simp (plus_assoc K L, plus_comm K L)

    -- the shares of those that are kept
    pub together_keep : (p : A → Bool) (f : A → S) (xs : List A) → together K (map f (filter p xs)) ≡ total K (where_is K p (λ x. Some (f x))) xs
    unfolding plus?
    together_keep p f [] = refl
    together_keep p f (x ∷ xs) = go (together_keep p f xs) (p x)
      where
        go : together K (map f (filter p xs)) ≡ total K (where_is K p (λ y. Some (f y))) xs → (b : Bool) → together K (map f (cond b (x ∷ filter p xs) (filter p xs))) ≡ plus? K (cond b (Some (f x)) (nothing K)) (total K (where_is K p (λ y. Some (f y))) xs)
        go ih true = ap (plus? K (Some (f x))) ih
        go ih false = ih ∙ sym (nothing_plus K L (total K (where_is K p (λ y. Some (f y))) xs))

    -- what those come to that are kept
    pub total_filter : (f : A → Option S) (p : A → Bool) (ls : List A) → total K f (filter p ls) ≡ total K (where_is K p f) ls
    total_filter f p [] = refl
    total_filter f p (x ∷ xs) = go (p x) (total_filter f p xs)
      where
        go : (b : Bool) → total K f (filter p xs) ≡ total K (where_is K p f) xs → total K f (cond b (x ∷ filter p xs) (filter p xs)) ≡ plus? K (cond b (f x) (nothing K)) (total K (where_is K p f) xs)
        go true e = ap (plus? K (f x)) e
        go false e = e ∙ sym (nothing_plus K L (total K (where_is K p f) xs))
