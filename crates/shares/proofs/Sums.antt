-- Joins of many shares: every order and every grouping comes to the same.
use Rattle.std.proofs.Common.{◌≡◌, ℕ, Bool, true, false, T, List, [], ◌∷◌, ◌++◌, Some, None, Option, sym, refl, ap, ◌∙◌, ap₂, arith}
use mathlib.Core.HLevel.{hedberg}
use mathlib.Core.Logic.{∥∥₁_elim}
use mathlib.Core.List.{Perm, Permᴰ}
use Rattle.shares.specs.Kind.{Kind, Laws, bind}
use Rattle.shares.specs.Joins.{Grouping, leaves, grouped, together, JoinsEveryWay}
use Rattle.shares.specs.Joins.Grouping.{one, both}

decides : {A : Type 0} (b : Bool) → (T b → A) → (A → T b) → Dec A
decides true f g = yes (f tt)
decides false f g = no g

module _ {S : Type 0} (K : Kind S) where
  -- the join of two shares that may be undefined
  unfoldable pub plus? : Option S → Option S → Option S
  plus? x y = bind x (λ a. bind y (λ b. K.join a b))

  abbrev pub nothing : Option S
  nothing = Some K.empty

  -- of two shares it is the join
  pub plus_join : (a b : S) → plus? (Some a) (Some b) ≡ K.join a b
  unfolding plus?
  plus_join a b = refl

  -- nothing can be added where the first is undefined
  pub plus_none : (y : Option S) → plus? None y ≡ None
  unfolding plus?
  plus_none y = refl

  pub together_plus : (s : S) (ss : List S) → together K (s ∷ ss) ≡ plus? (Some s) (together K ss)
  unfolding plus?
  together_plus s ss = refl

  then_none : (x : Option S) → bind {A = S} {B = S} x (λ a. None) ≡ None
  then_none None = refl
  then_none (Some a) = refl

  module _ (L : Laws K) where
    pub plus_comm : (x y : Option S) → plus? x y ≡ plus? y x
    unfolding plus?
    plus_comm None None = refl
    plus_comm None (Some b) = refl
    plus_comm (Some a) None = refl
    plus_comm (Some a) (Some b) = L.commutes a b

    pub plus_assoc : (x y z : Option S) → plus? (plus? x y) z ≡ plus? x (plus? y z)
    unfolding plus?
    plus_assoc None y z = refl
    plus_assoc (Some a) None z = refl
    plus_assoc (Some a) (Some b) None = then_none (K.join a b)
    plus_assoc (Some a) (Some b) (Some c) = L.associates a b c

    pub plus_nothing : (x : Option S) → plus? x nothing ≡ x
    unfolding plus?
    plus_nothing None = refl
    plus_nothing (Some a) = L.empty_adds_nothing a

    pub nothing_plus : (x : Option S) → plus? nothing x ≡ x
    nothing_plus x = plus_comm nothing x ∙ plus_nothing x

    pub plus_swap : (x y z : Option S) → plus? x (plus? y z) ≡ plus? y (plus? x z)
    plus_swap x y z = sym (plus_assoc x y z) ∙ ap (λ (w : Option S). plus? w z) (plus_comm x y) ∙ plus_assoc y x z

    pub together_append : (xs ys : List S) → together K (xs ++ ys) ≡ plus? (together K xs) (together K ys)
    unfolding plus?
    together_append [] ys = sym (nothing_plus (together K ys))
    together_append (x ∷ xs) ys = ap (λ (w : Option S). plus? (Some x) w) (together_append xs ys) ∙ sym (plus_assoc (Some x) (together K xs) (together K ys))

    together_permᴰ : {xs ys : List S} → Permᴰ xs ys → together K xs ≡ together K ys
    unfolding plus?
    together_permᴰ Permᴰ.nil = refl
    together_permᴰ (Permᴰ.cons e d) = ap₂ (λ (a : S) (w : Option S). plus? (Some a) w) e (together_permᴰ d)
    together_permᴰ (Permᴰ.swap {a = a} {b = b} {l = l} e₁ e₂) =
        plus_swap (Some a) (Some b) (together K l) ∙ ap₂ (λ (x y : S). plus? (Some x) (plus? (Some y) (together K l))) e₂ e₁
    together_permᴰ (Permᴰ.trans d₁ d₂) = together_permᴰ d₁ ∙ together_permᴰ d₂

    grouped_together : (g : Grouping S) → grouped K g ≡ together K (leaves g)
    unfolding plus?
    grouped_together (one s) = sym (L.empty_adds_nothing s)
    grouped_together (both x y) = ap₂ plus? (grouped_together x) (grouped_together y) ∙ sym (together_append (leaves x) (leaves y))

    -- shares can be told apart, so equations between them are propositions
    options_same : (x y : Option S) → Dec (x ≡ y)
    options_same None None = yes refl
    options_same None (Some b) = no (λ e. let z : ◌≡◌ {A = ℕ} 0 1 = cc in omega arith)
    options_same (Some a) None = no (λ e. let z : ◌≡◌ {A = ℕ} 0 1 = cc in omega arith)
    options_same (Some a) (Some b) = go (decides (K.same a b) (L.same_tells a b).0 (L.same_tells a b).1)
      where
        go : Dec (a ≡ b) → Dec (◌≡◌ {A = Option S} (Some a) (Some b))
        go (yes e) = yes (ap {B = Option S} Some e)
        go (no n) = no (λ e. n (cc))

    pub options_set : IsSet (Option S)
    options_set = hedberg options_same

    -- every order and grouping comes to what the shares come to as they stand
    pub any_way : (xs : List S) (g : Grouping S) → Perm (leaves g) xs → grouped K g ≡ together K xs
    any_way xs g p = ∥∥₁_elim p (options_set (grouped K g) (together K xs)) (λ d. grouped_together g ∙ together_permᴰ d)

    pub every_way : JoinsEveryWay K
    every_way g s e h p = any_way (leaves g) h p ∙ sym (grouped_together g) ∙ e
