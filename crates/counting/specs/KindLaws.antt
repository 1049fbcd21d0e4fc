-- Counting shares keep the laws of a kind of share: each has a weight by which it is told, and weights add up in a join.
-- A proof, which nobody need read: it stands in specs/ because the implementation names it, and no contract cites it.
use Rattle.std.specs.Prelude.{◌≡◌, ℕ, zero, suc, ◌+◌, ◌-◌, ◌<◌, ◌≤◌, Bool, true, false, cond, T, ◌⊎◌, Some, None, Option, ◌≢◌, nat_le, refl}
use Rattle.std.proofs.Common.{sym, ap, subst, ◌∙◌, inl, inr, arith, eqb→eq}
use Rattle.std.proofs.Math.Bool.{Bool-set}
use mathlib.Core.HLevel.{is_prop→PathP}
use Rattle.std.proofs.Math.Dec.{eqb_refl}
use Rattle.std.proofs.lemmas.Bool.{cases_lt, leb-true, le-leb, cond-true, and_parts, and_from, true≢false}
use Rattle.shares.specs.Kind.{Laws, bind}
use Rattle.shares.proofs.Weighed as by_weight
use Rattle.counting.specs.declared.permission.Permission.{Permission}
use Rattle.counting.specs.declared.permission.Permission.TheVariants.{Empty, Source, Readers}
use Rattle.counting.specs.declared.counting.Counting.{Counting}
use Rattle.counting.specs.Limits.{within}
use Rattle.counting.specs.contracts.permission.PermissionPartialEq.TheImpl as derived
use Rattle.counting.specs.Counts.{of_permission_by, counting_of, counting_if_within, plus, join, less, halve, alike, counting_kind}

-- equal permissions, equal shares
pub same_held : (a b : Counting) → a.held ≡ b.held → a ≡ b
same_held a b e = λ i. record { held = e i; limited = is_prop→PathP (λ j. within (e j) ≡ true) (λ j. Bool-set (within (e j)) true) a.limited b.limited i }

-- the share with the permission that a share has
pub of_held : (p : Permission) (c : Counting) → c.held ≡ p → counting_of p ≡ c
unfolding counting_of
of_held p c e = go (within p) refl
  where
    go : (b : Bool) (f : within p ≡ b) → of_permission_by p b f ≡ c
    go true f = same_held (record { held = p; limited = f }) c (sym e)
    go false f = absurd (true≢false (sym c.limited ∙ ap within e ∙ f))

held_of : (p : Permission) → within p ≡ true → (counting_of p).held ≡ p
held_of p e = ap (λ s. s.held) (of_held p (record { held = p; limited = e }) refl)

pub counted_is : (p : Permission) (c : Counting) → counting_if_within p ≡ Some c → c.held ≡ p
counted_is p c = go (within p) refl
  where
    go : (b : Bool) → within p ≡ b → cond b (Some (counting_of p)) None ≡ Some c → c.held ≡ p
    go true f e = let g : counting_of p ≡ c = cc in sym (ap (λ s. s.held) g) ∙ held_of p f
    go false f e = let z : ◌≡◌ {A = ℕ} 0 1 = cc in absurd (omega arith)

counted_made : (p : Permission) (c : Counting) → c.held ≡ p → counting_if_within p ≡ Some c
counted_made p c e =
    cond-true (within p) (Some (counting_of p)) None (ap within (sym e) ∙ c.limited) ∙ ap Some (of_held p c e)

abbrev nothing : Counting
nothing = counting_of Empty

abbrev everything : Counting
everything = counting_of (Source 0)

abbrev one : Counting
one = counting_of (Readers 1)

-- a source outweighs any readers
abbrev heft : Permission → ℕ
heft Empty = 0
heft (Source n) = 104096 - n
heft (Readers k) = k

abbrev weight : Counting → ℕ
weight a = heft a.held

pub source_few : (n : ℕ) → within (Source n) ≡ true → n ≤ 4095
source_few n e = leb-true n 4095 e

pub readers_few : (k : ℕ) → within (Readers k) ≡ true → (1 ≤ k) × (k ≤ 4095)
readers_few k e = let p = and_parts (nat_le 1 k) (nat_le k 4095) e in (leb-true 1 k p.0, leb-true k 4095 p.1)

-- a permission within the limits is told by its weight
hefts : (x y : Permission) → within x ≡ true → within y ≡ true → heft x ≡ heft y → x ≡ y
hefts Empty Empty p q e = refl
hefts Empty (Source m) p q e = absurd (omega (arith, source_few m q))
hefts Empty (Readers k) p q e = absurd (omega (arith, readers_few k q))
hefts (Source n) Empty p q e = absurd (omega (arith, source_few n p))
hefts (Source n) (Source m) p q e = ap Source (omega (arith, source_few n p, source_few m q))
hefts (Source n) (Readers k) p q e = absurd (omega (arith, source_few n p, readers_few k q))
hefts (Readers j) Empty p q e = absurd (omega (arith, readers_few j p))
hefts (Readers j) (Source m) p q e = absurd (omega (arith, readers_few j p, source_few m q))
hefts (Readers j) (Readers k) p q e = ap Readers e

told : (a b : Counting) → weight a ≡ weight b → a ≡ b
told a b e = same_held a b (hefts a.held b.held a.limited b.limited e)

back_is : (n k : ℕ) (z : Permission) → n ≤ 4095 → cond (nat_le k n) (Some (Source (n - k))) None ≡ Some z → heft z ≡ (104096 - n) + k
back_is n k z h = go (nat_le k n) refl
  where
    go : (b : Bool) → nat_le k n ≡ b → cond b (Some (Source (n - k))) None ≡ Some z → heft z ≡ (104096 - n) + k
    go true u e = let f : Source (n - k) ≡ z = cc in omega (arith, leb-true k n u, ap heft f)
    go false u e = let w : ◌≡◌ {A = ℕ} 0 1 = cc in absurd (omega arith)

plus_adds : (x y z : Permission) → within x ≡ true → within y ≡ true → plus x y ≡ Some z → heft z ≡ heft x + heft y
plus_adds Empty y z p q e = let f : y ≡ z = cc in omega (arith, ap heft f)
plus_adds (Source n) Empty z p q e = let f : Source n ≡ z = cc in omega (arith, ap heft f)
plus_adds (Source n) (Source m) z p q e = let w : ◌≡◌ {A = ℕ} 0 1 = cc in absurd (omega arith)
plus_adds (Source n) (Readers k) z p q e = back_is n k z (source_few n p) e
plus_adds (Readers j) Empty z p q e = let f : Readers j ≡ z = cc in omega (arith, ap heft f)
plus_adds (Readers j) (Source m) z p q e = omega (arith, back_is m j z (source_few m q) e)
plus_adds (Readers j) (Readers k) z p q e = let f : Readers (j + k) ≡ z = cc in sym (ap heft f)

back_made : (n k : ℕ) (z : Permission) → n ≤ 4095 → (1 ≤ k) × (k ≤ 4095) → within z ≡ true → heft z ≡ (104096 - n) + k → cond (nat_le k n) (Some (Source (n - k))) None ≡ Some z
back_made n k Empty h l r e = absurd (omega arith)
back_made n k (Source m) h l r e = cond-true (nat_le k n) (Some (Source (n - k))) None (le-leb k n (omega (arith, source_few m r))) ∙ ap (λ x. Some (Source x)) (omega (arith, source_few m r))
back_made n k (Readers j) h l r e = absurd (omega (arith, readers_few j r))

plus_made : (x y z : Permission) → within x ≡ true → within y ≡ true → within z ≡ true → heft z ≡ heft x + heft y → plus x y ≡ Some z
plus_made Empty y z p q r e = ap Some (hefts y z q r (omega (arith, e)))
plus_made (Source n) Empty z p q r e = ap Some (hefts (Source n) z p r (omega (arith, e)))
plus_made (Source n) (Source m) Empty p q r e = absurd (omega (arith, source_few n p, source_few m q))
plus_made (Source n) (Source m) (Source l) p q r e = absurd (omega (arith, source_few n p, source_few m q, source_few l r))
plus_made (Source n) (Source m) (Readers k) p q r e = absurd (omega (arith, source_few n p, source_few m q, readers_few k r))
plus_made (Source n) (Readers k) z p q r e = back_made n k z (source_few n p) (readers_few k q) r e
plus_made (Readers j) Empty z p q r e = ap Some (hefts (Readers j) z p r (omega (arith, e)))
plus_made (Readers j) (Source m) z p q r e = back_made m j z (source_few m q) (readers_few j p) r (omega (arith, e))
plus_made (Readers j) (Readers k) Empty p q r e = absurd (omega (arith, readers_few j p))
plus_made (Readers j) (Readers k) (Source l) p q r e = absurd (omega (arith, readers_few j p, readers_few k q, source_few l r))
plus_made (Readers j) (Readers k) (Readers l) p q r e = ap (λ x. Some (Readers x)) (sym e)

adds : (a b c : Counting) → join a b ≡ Some c → weight c ≡ weight a + weight b
adds a b c = go (plus a.held b.held) refl
  where
    go : (o : Option Permission) → plus a.held b.held ≡ o → bind o counting_if_within ≡ Some c → weight c ≡ weight a + weight b
    go None f e = let z : ◌≡◌ {A = ℕ} 0 1 = cc in absurd (omega arith)
    go (Some p) f e = ap heft (counted_is p c e) ∙ plus_adds a.held b.held p a.limited b.limited f

joins : (a b c : Counting) → weight c ≡ weight a + weight b → join a b ≡ Some c
joins a b c e = ap (λ o. bind o counting_if_within) (plus_made a.held b.held c.held a.limited b.limited c.limited e) ∙ counted_made c.held c refl

-- the weights that shares have
abbrev Weighs : ℕ → Type 0
Weighs n = (n ≤ 4095) ⊎ ((100001 ≤ n) × (n ≤ 104096))

range : (p : Permission) → within p ≡ true → Weighs (heft p)
range Empty e = inl (omega arith)
range (Source n) e = inr (omega (arith, source_few n e))
range (Readers k) e = inl (readers_few k e).1

of_weight : (n : ℕ) → Weighs n → (e : Counting) × (weight e ≡ n)
unfolding counting_of
of_weight zero (inl h) = (nothing, refl)
of_weight (suc n) (inl h) = (record { held = Readers (suc n); limited = and_from (nat_le 1 (suc n)) (nat_le (suc n) 4095) (le-leb 1 (suc n) (omega arith)) (le-leb (suc n) 4095 h) }, refl)
of_weight zero (inr h) = absurd (omega arith)
of_weight (suc n) (inr h) = (record { held = Source (104096 - suc n); limited = le-leb (104096 - suc n) 4095 (omega arith) }, omega arith)

-- a part of a share is a share
part : (a b c d : Counting) → weight d ≡ weight a + weight b + weight c → (e : Counting) × (weight e ≡ weight a + weight b)
part a b c d h = of_weight (weight a + weight b) (go (cases_lt (weight a + weight b) 4096))
  where
    go : (weight a + weight b < 4096) ⊎ (4096 ≤ weight a + weight b) → Weighs (weight a + weight b)
    go (inl p) = inl (omega arith)
    go (inr p) = inr (omega (arith, range a.held a.limited, range b.held b.limited, range c.held c.limited, range d.held d.limited))

full : (a b : Counting) → join a everything ≡ Some b → a ≡ nothing
unfolding counting_of
full a b e = told a nothing (omega (arith, adds a everything b e, range a.held a.limited, range b.held b.limited))

record Halved (a k l : Counting) : Type 0 where
  pub kept : less a.held ≡ Some k.held
  pub lent : l ≡ one

abbrev with_one : Counting → Counting × Counting
with_one c = (c, one)

halve_is : (a k l : Counting) → halve a ≡ Some (k, l) → Halved a k l
halve_is a k l = go (less a.held) refl
  where
    go₂ : (p : Permission) (o : Option Counting) → less a.held ≡ Some p → counting_if_within p ≡ o → bind o (λ c. Some (with_one c)) ≡ Some (k, l) → Halved a k l
    go₂ p None f g e = let z : ◌≡◌ {A = ℕ} 0 1 = cc in absurd (omega arith)
    go₂ p (Some x) f g e =
        let h : ◌≡◌ {A = Counting × Counting} (with_one x) (k, l) = cc in
        let i : x ≡ k = ap (λ q. q.0) h in
        record { kept = f ∙ ap Some (sym (counted_is p x g) ∙ ap (λ s. s.held) i); lent = sym (ap (λ q. q.1) h) }

    go : (o : Option Permission) → less a.held ≡ o → bind (bind o counting_if_within) (λ c. Some (with_one c)) ≡ Some (k, l) → Halved a k l
    go None f e = let z : ◌≡◌ {A = ℕ} 0 1 = cc in absurd (omega arith)
    go (Some p) f e = go₂ p (counting_if_within p) f refl e

-- where a share is halved, it weighs one more than what is kept
less_one : (x y : Permission) → within x ≡ true → within y ≡ true → less x ≡ Some y → heft x ≡ heft y + 1
less_one Empty y p q e = let z : ◌≡◌ {A = ℕ} 0 1 = cc in absurd (omega arith)
less_one (Source n) y p q e = let f : Source (n + 1) ≡ y = cc in omega (arith, source_few n p, ap heft f)
less_one (Readers k) y p q e = let f : Readers (k - 1) ≡ y = cc in omega (arith, readers_few k p, ap heft f)

rejoins : (a k l : Counting) → halve a ≡ Some (k, l) → join k l ≡ Some a
unfolding counting_of
rejoins a k l e = let h = halve_is a k l e in joins k l a (omega (arith, less_one a.held k.held a.limited k.limited h.kept, ap weight h.lent))

kept_some : (x y : Permission) → less x ≡ Some y → y ≢ Empty
kept_some Empty y e f = let z : ◌≡◌ {A = ℕ} 0 1 = cc in omega arith
kept_some (Source n) y e f = let z : ◌≡◌ {A = ℕ} 0 1 = cc in omega arith
kept_some (Readers k) y e f = let z : ◌≡◌ {A = ℕ} 0 1 = cc in omega arith

halves_some : (a k l : Counting) → halve a ≡ Some (k, l) → (k ≢ nothing) × (l ≢ nothing)
unfolding counting_of
halves_some a k l e =
    let h = halve_is a k l e in
    ((λ p. kept_some a.held k.held h.kept (ap (λ s. s.held) p)), (λ p. omega (arith, ap weight h.lent, ap weight p)))

alike_is : (x y : Permission) → T (alike x y) → x ≡ y
alike_is Empty Empty t = refl
alike_is Empty (Source m) t = absurd t
alike_is Empty (Readers k) t = absurd t
alike_is (Source n) Empty t = absurd t
alike_is (Source n) (Source m) t = ap Source (eqb→eq n m t)
alike_is (Source n) (Readers k) t = absurd t
alike_is (Readers j) Empty t = absurd t
alike_is (Readers j) (Source m) t = absurd t
alike_is (Readers j) (Readers k) t = ap Readers (eqb→eq j k t)

alike_self : (x : Permission) → T (alike x x)
alike_self Empty = tt
alike_self (Source n) = eqb_refl n
alike_self (Readers k) = eqb_refl k

pub counting_laws : Laws counting_kind
unfolding counting_of
counting_laws = record {
  commutes = by_weight.commutes weight join told adds joins part;
  associates = by_weight.associates weight join told adds joins part;
  empty_adds_nothing = λ a. joins a nothing a (omega arith);
  cancels = by_weight.cancels weight join told adds joins part;
  empty_has_no_parts = by_weight.positive weight join told adds joins part nothing refl;
  whole_not_empty = λ e. omega (arith, ap weight e);
  whole_takes_only_empty = full;
  halves_join = rejoins;
  halves_not_empty = halves_some;
  same_tells = λ a b. (λ t. same_held a b (alike_is a.held b.held t), λ e. subst (λ (x : Counting). T (alike a.held x.held)) e (alike_self a.held));
}

-- `==` of permissions is alike
pub equals : (p q : Permission) → (derived.ghosts).eq p q ≡ alike p q
equals Empty Empty = refl
equals Empty (Source m) = refl
equals Empty (Readers k) = refl
equals (Source n) Empty = refl
equals (Source n) (Source m) = refl
equals (Source n) (Readers k) = refl
equals (Readers j) Empty = refl
equals (Readers j) (Source m) = refl
equals (Readers j) (Readers k) = refl
