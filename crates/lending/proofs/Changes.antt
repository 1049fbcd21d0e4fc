-- Changes of a roll that leave numbers, resources, lenders and due days as they are.
use Rattle.std.proofs.Common.{◌≡◌, ℕ, cond, eqb, ◌⊎◌, List, [], ◌∷◌, ◌++◌, Option, sym, refl, ap, ◌∙◌, subst, ap₂, inl, inr, ⊎_elim, arith}
use mathlib.Core.List.Memᴰ
use mathlib.Core.List.{Memᴰ}
use Rattle.std.proofs.lemmas.Bool.{cases_eq}
use Rattle.lending.specs.declared.lease.Lease.{Lease}
use Rattle.shares.specs.Kind.{Kind, Laws}
use Rattle.lending.specs.Roll.{change, close}
use Rattle.shares.proofs.Sums.{plus?, nothing, plus_nothing}
use Rattle.lending.proofs.Totals.{total, total_ext, total_append}
use Rattle.lending.proofs.Rolls.{Changed, mem_change, change_mem_same, change_mem_other, mem_close, close_mem, total_change}
use Rattle.lending.proofs.Rolls.Changed.{changed, unchanged}
use Rattle.lending.proofs.Invariant.{Lender, lent_from}

module _ {S : Type 0} where
  -- x has the number, resource, lender and due day of y
  pub record Like (x y : Lease S) : Type 0 where
    pub number : x.number ≡ y.number
    pub resource : x.resource ≡ y.resource
    pub lender : x.lender ≡ y.lender
    pub due : x.due ≡ y.due

  pub like_same : (x y : Lease S) → x ≡ y → Like x y
  like_same x y e = record { number = ap (λ (l : Lease S). l.number) e; resource = ap (λ (l : Lease S). l.resource) e; lender = ap (λ (l : Lease S). l.lender) e; due = ap (λ (l : Lease S). l.due) e }

  abbrev pub Keeps : (Lease S → Lease S) → Type 0
  Keeps g = (l : Lease S) → Like (g l) l

  -- where a lease of a changed roll comes from
  pub source : (ls : List (Lease S)) (n : ℕ) (g : Lease S → Lease S) → Keeps g → (x : Lease S) → Memᴰ x (change n g ls) → (y : Lease S) × Memᴰ y ls × Like x y
  source ls n g keeps x m = go (mem_change ls n g x m)
    where
      go : Changed ls n g x → (y : Lease S) × Memᴰ y ls × Like x y
      go (changed y k e q) = (y, k, subst (λ (z : Lease S). Like z y) (sym q) (keeps y))
      go (unchanged k e) = (x, k, like_same x x refl)

  -- what becomes of a lease
  pub target : (ls : List (Lease S)) (n : ℕ) (g : Lease S → Lease S) → Keeps g → (y : Lease S) → Memᴰ y ls → (x : Lease S) × Memᴰ x (change n g ls) × Like x y
  target ls n g keeps y m = ⊎_elim (λ (e : y.number ≡ n). (g y, change_mem_same ls n g y m e, keeps y)) (λ (e : y.number ≡ n → ⊥). (y, change_mem_other ls n g y m e, like_same y y refl)) (cases_eq y.number n)

  pub mem_last : (ls : List (Lease S)) (l x : Lease S) → Memᴰ x (ls ++ (l ∷ [])) → Memᴰ x ls ⊎ (x ≡ l)
  mem_last ls l x m = ⊎_elim (λ (k : Memᴰ x ls). inl k) (λ (k : Memᴰ x (l ∷ [])). inr (Memᴰ.eq_of_singleton k)) (Memᴰ.append_cases ls m)

  pub last_mem : (ls : List (Lease S)) (l : Lease S) → Memᴰ l (ls ++ (l ∷ []))
  last_mem ls l = Memᴰ.append_right ls (Memᴰ.head refl)

  pub old_mem : (ls : List (Lease S)) (l x : Lease S) → Memᴰ x ls → Memᴰ x (ls ++ (l ∷ []))
  old_mem ls l x m = Memᴰ.append_left (l ∷ []) m

  module _ (K : Kind S) where
    abbrev pub Lenders : List (Lease S) → Type 0
    Lenders ls = (l : Lease S) → Memᴰ l ls → (l.lender ≡ 0 → ⊥) → Lender K ls l

    pub lenders_change : (n : ℕ) (g : Lease S → Lease S) → Keeps g → (ls : List (Lease S)) → Lenders ls → Lenders (change n g ls)
    lenders_change n g keeps ls h x m nz =
        let s = source ls n g keeps x m in
        let like = s.2 in
        let e₁ = like.number in let e₂ = like.lender in let e₃ = like.resource in let e₄ = like.due in
        let p = h s.0 s.1 (λ z. nz (e₂ ∙ z)) in
        let t = target ls n g keeps p.its p.among in
        let f₁ = t.2.number in let f₃ = t.2.resource in let f₄ = t.2.due in
        let q₁ = p.is in let q₂ = p.lower in let q₃ = p.resource in let q₄ = p.due in
        record { its = t.0; among = t.1; is = omega arith; lower = omega arith; resource = omega arith; due = omega arith }

    pub lenders_close : (n : ℕ) (ls : List (Lease S)) → Lenders ls → ((l : Lease S) → Memᴰ l ls → l.lender ≡ n → ⊥) → Lenders (close n ls)
    lenders_close n ls h none x m nz =
        let k = (mem_close ls n x m).0 in
        let p = h x k nz in
        record { its = p.its; among = close_mem ls n p.its p.among (λ e. none x k (sym p.is ∙ e)); is = p.is; lower = p.lower; resource = p.resource; due = p.due }

    pub lenders_last : (ls : List (Lease S)) (l : Lease S) → Lenders ls → ((l.lender ≡ 0 → ⊥) → Lender K ls l) → Lenders (ls ++ (l ∷ []))
    lenders_last ls l h new x m nz = ⊎_elim (λ (k : Memᴰ x ls). more x (h x k nz)) (λ (e : x ≡ l). subst (λ (z : Lease S). Lender K (ls ++ (l ∷ [])) z) (sym e) (more l (new (λ z. nz (ap (λ (y : Lease S). y.lender) e ∙ z))))) (mem_last ls l x m)
      where
        more : (y : Lease S) → Lender K ls y → Lender K (ls ++ (l ∷ [])) y
        more y p = record { its = p.its; among = old_mem ls l p.its p.among; is = p.is; lower = p.lower; resource = p.resource; due = p.due }

    pub lent_from_change : (lt : ℕ → Option S) (m n : ℕ) (g : Lease S → Lease S) → Keeps g → (ls : List (Lease S)) → total K (lent_from K lt m) (change n g ls) ≡ total K (lent_from K lt m) ls
    lent_from_change lt m n g keeps ls = total_change K (lent_from K lt m) g n ls (λ l k e. ap₂ (λ (a b : ℕ). cond (eqb a m) (lt b) (nothing K)) (keeps l).lender (keeps l).number)

    pub lent_from_ext : (lt lt' : ℕ → Option S) (m : ℕ) (ls : List (Lease S)) → ((l : Lease S) → Memᴰ l ls → lt l.number ≡ lt' l.number) → total K (lent_from K lt m) ls ≡ total K (lent_from K lt' m) ls
    lent_from_ext lt lt' m ls h = total_ext K (lent_from K lt m) (lent_from K lt' m) ls (λ l k. ap (λ (w : Option S). cond (eqb l.lender m) w (nothing K)) (h l k))

    pub total_last : (L : Laws K) (f : Lease S → Option S) (ls : List (Lease S)) (l : Lease S) → total K f (ls ++ (l ∷ [])) ≡ plus? K (total K f ls) (f l)
    total_last L f ls l = total_append K L f ls (l ∷ []) ∙ ap (plus? K (total K f ls)) (plus_nothing K L (f l))
