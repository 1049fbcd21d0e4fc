-- Tree shares keep the laws of a kind of share.
-- A proof, which nobody need read: it stands in specs/ because the implementation names it, and no contract cites it.
use Rattle.std.specs.Prelude.{◌≡◌, ℕ, ◌+◌, ◌-◌, ◌^◌, ◌<◌, Bool, true, false, cond, ◌||◌, T, ◌⊎◌, Some, None, Option, ◌==◌, ◌≢◌, bit_and, bit_or, refl}
use Rattle.std.proofs.Common.{sym, ap, subst, ◌∙◌, inl, inr, ⊎_elim, arith, add_comm, mod-eq_of_lt, eqb→eq}
use mathlib.Core.HLevel.{is_prop→PathP}
use Rattle.std.proofs.Math.Bridge.{le_prop}
use Rattle.std.proofs.lemmas.Nat.{or_lt, and_comm, or_disjoint, and_mask}
use Rattle.std.specs.Int.Bits.{and_zero_r}
use Rattle.std.proofs.Math.Dec.{eqb_refl}
use Rattle.std.proofs.lemmas.Bool.{eq-eqb, ne_eqb, eqb-true, eqb-false, cond-true, cond-false, cases_eq, or_cases, or_parts, or_from, or_left, or_right}
use Rattle.shares.specs.Kind.{Laws, bind}
use Rattle.shares.proofs.Weighed.{turned}
use Rattle.trees.specs.declared.trees.Trees.{Trees}
use Rattle.trees.specs.Tree.{kept, lent, has_filled_cell}
use Rattle.trees.specs.Cells.{trees_of_cells, tree_of, cells_of, tree, union, cut, halves, trees_kind}
use Rattle.trees.specs.Apart.{apart_parts, apart_union}
use Rattle.trees.specs.TreesOfCells.{cells_tree}
use Rattle.trees.specs.Halving.{cells_lt, halves_apart, halves_add, kept_some, lent_some}

-- equal cells, equal shares
pub same_trees : (a b : Trees) → a.cells ≡ b.cells → a ≡ b
same_trees a b e = λ i. record { cells = e i; fits = is_prop→PathP (λ j. e j < 2 ^ 64) (λ j. le_prop) a.fits b.fits i }

-- the share with the cells that a share has
pub of_cells_is : (n : ℕ) (s : Trees) → n ≡ s.cells → trees_of_cells n ≡ s
of_cells_is n s e = same_trees (trees_of_cells n) s (mod-eq_of_lt (subst (λ x. x < 2 ^ 64) (sym e) s.fits) ∙ e)

abbrev none : Trees
none = trees_of_cells 0

abbrev all : Trees
all = trees_of_cells (2 ^ 64 - 1)

pub union_some : (a b c : Trees) → bit_and a.cells b.cells ≡ 0 → c.cells ≡ a.cells + b.cells → union a b ≡ Some c
union_some a b c d e =
    cond-true (bit_and a.cells b.cells == 0) _ None (eq-eqb (bit_and a.cells b.cells) 0 d)
    ∙ ap Some (of_cells_is (bit_or a.cells b.cells) c (or_disjoint a.cells b.cells d ∙ sym e))

pub union_none : (a b : Trees) → (bit_and a.cells b.cells ≢ 0) → union a b ≡ None
union_none a b d = cond-false (bit_and a.cells b.cells == 0) _ None (ne_eqb (bit_and a.cells b.cells) 0 d)

-- the union of shares that are apart
unfoldable pub sum : (a b : Trees) → bit_and a.cells b.cells ≡ 0 → Trees
sum a b d = record { cells = a.cells + b.cells; fits = subst (λ n. n < 2 ^ 64) (or_disjoint a.cells b.cells d) (or_lt 64 a.cells b.cells a.fits b.fits) }

pub union_is : (a b c : Trees) → union a b ≡ Some c → (bit_and a.cells b.cells ≡ 0) × (c.cells ≡ a.cells + b.cells)
unfolding sum
union_is a b c e = go (cases_eq (bit_and a.cells b.cells) 0)
  where
    go : (bit_and a.cells b.cells ≡ 0) ⊎ (bit_and a.cells b.cells ≢ 0) → (bit_and a.cells b.cells ≡ 0) × (c.cells ≡ a.cells + b.cells)
    go (inl d) =
        let f = union_some a b (sum a b d) d refl in
        let g : sum a b d ≡ c = cc in
        (d, sym (ap (λ s. s.cells) g))
    go (inr d) = let f = union_none a b d in let z : ◌≡◌ {A = ℕ} 0 1 = cc in absurd (omega arith)

commutes : (a b : Trees) → union a b ≡ union b a
unfolding sum
commutes a b = go (cases_eq (bit_and a.cells b.cells) 0)
  where
    go : (bit_and a.cells b.cells ≡ 0) ⊎ (bit_and a.cells b.cells ≢ 0) → union a b ≡ union b a
    go (inl d) = union_some a b (sum a b d) d refl ∙ sym (union_some b a (sum a b d) (and_comm b.cells a.cells ∙ d) (add_comm a.cells b.cells))
    go (inr d) = union_none a b d ∙ sym (union_none b a (λ e. d (and_comm a.cells b.cells ∙ e)))

-- three shares joined from the left: defined exactly where each two are apart
left_none : (a b c : Trees) → ((bit_and a.cells b.cells ≡ 0) → (bit_and a.cells c.cells ≡ 0) → (bit_and b.cells c.cells ≡ 0) → ⊥) → bind (union a b) (λ ab. union ab c) ≡ None
unfolding sum
left_none a b c n = go (cases_eq (bit_and a.cells b.cells) 0)
  where
    go : (bit_and a.cells b.cells ≡ 0) ⊎ (bit_and a.cells b.cells ≢ 0) → bind (union a b) (λ ab. union ab c) ≡ None
    go (inl d) =
        ap (λ o. bind o (λ ab. union ab c)) (union_some a b (sum a b d) d refl)
        ∙ union_none (sum a b d) c (λ e. let p = apart_parts a.cells b.cells c.cells d e in n d p.0 p.1)
    go (inr d) = ap (λ o. bind o (λ ab. union ab c)) (union_none a b d)

left_some : (a b c s : Trees) → bit_and a.cells b.cells ≡ 0 → bit_and a.cells c.cells ≡ 0 → bit_and b.cells c.cells ≡ 0 → s.cells ≡ a.cells + b.cells + c.cells → bind (union a b) (λ ab. union ab c) ≡ Some s
unfolding sum
left_some a b c s d e f g =
    ap (λ o. bind o (λ ab. union ab c)) (union_some a b (sum a b d) d refl)
    ∙ union_some (sum a b d) c s (apart_union a.cells b.cells c.cells d e f) g

associates : (a b c : Trees) → bind (union a b) (λ ab. union ab c) ≡ bind (union b c) (λ bc. union a bc)
unfolding sum
associates a b c = go (cases_eq (bit_and a.cells b.cells) 0) (cases_eq (bit_and a.cells c.cells) 0) (cases_eq (bit_and b.cells c.cells) 0) ∙ sym (turned union commutes a b c)
  where
    swap : (x y : Trees) → bit_and x.cells y.cells ≡ 0 → bit_and y.cells x.cells ≡ 0
    swap x y e = and_comm y.cells x.cells ∙ e

    neither : ((bit_and a.cells b.cells ≡ 0) → (bit_and a.cells c.cells ≡ 0) → (bit_and b.cells c.cells ≡ 0) → ⊥) → bind (union a b) (λ ab. union ab c) ≡ bind (union b c) (λ bc. union bc a)
    neither n = left_none a b c n ∙ sym (left_none b c a (λ p q r. n (swap b a q) (swap c a r) p))

    go : (bit_and a.cells b.cells ≡ 0) ⊎ (bit_and a.cells b.cells ≢ 0) → (bit_and a.cells c.cells ≡ 0) ⊎ (bit_and a.cells c.cells ≢ 0) → (bit_and b.cells c.cells ≡ 0) ⊎ (bit_and b.cells c.cells ≢ 0)
        → bind (union a b) (λ ab. union ab c) ≡ bind (union b c) (λ bc. union bc a)
    go (inl p) (inl q) (inl r) =
        let s = sum (sum a b p) c (apart_union a.cells b.cells c.cells p q r) in
        left_some a b c s p q r refl ∙ sym (left_some b c a s r (swap a b p) (swap a c q) (omega arith))
    go (inl p) (inl q) (inr r) = neither (λ x y z. r z)
    go (inl p) (inr q) w = neither (λ x y z. q y)
    go (inr p) v w = neither (λ x y z. p x)

unit : (a : Trees) → union a none ≡ Some a
unit a = union_some a none a (and_zero_r a.cells) (omega arith)

cancels : (a b c d : Trees) → union a c ≡ Some d → union b c ≡ Some d → a ≡ b
cancels a b c d p q = same_trees a b (omega (arith, (union_is a c d p).1, (union_is b c d q).1))

positive : (a b : Trees) → union a b ≡ Some none → (a ≡ none) × (b ≡ none)
positive a b e = let s = (union_is a b none e).1 in (same_trees a none (omega (arith, s)), same_trees b none (omega (arith, s)))

inhabited : all ≡ none → ⊥
inhabited e = omega (arith, ap (λ s. s.cells) e)

full : (a b : Trees) → union a all ≡ Some b → a ≡ none
full a b e = same_trees a none (sym (mod-eq_of_lt a.fits) ∙ sym (and_mask a.cells 64) ∙ (union_is a all b e).0)

-- what a cut gives
pub record Cut (n k l : ℕ) : Type 0 where
  pub some : n ≡ 0 → ⊥
  pub no_cell : has_filled_cell 6 (tree_of 6 n) ≡ false
  pub kept_is : k ≡ cells_of 6 (kept (tree_of 6 n))
  pub lent_is : l ≡ cells_of 6 (lent (tree_of 6 n))

abbrev parts : ℕ → ℕ × ℕ
parts n = (cells_of 6 (kept (tree_of 6 n)), cells_of 6 (lent (tree_of 6 n)))

pub cut_is : (n k l : ℕ) → cut n ≡ Some (k, l) → Cut n k l
unfolding cut
cut_is n k l = go (n == 0 || has_filled_cell 6 (tree_of 6 n)) refl
  where
    go : (b : Bool) → (n == 0 || has_filled_cell 6 (tree_of 6 n)) ≡ b → cond b None (Some (parts n)) ≡ Some (k, l) → Cut n k l
    go true p e = let z : ◌≡◌ {A = ℕ} 0 1 = cc in absurd (omega arith)
    go false p e =
        let q = or_parts (n == 0) (has_filled_cell 6 (tree_of 6 n)) p in
        let f : ◌≡◌ {A = ℕ × ℕ} (k, l) (parts n) = cc in
        record { some = eqb-false n 0 q.0; no_cell = q.1; kept_is = ap (λ x. x.0) f; lent_is = ap (λ x. x.1) f }

pub cut_made : (n k l : ℕ) → Cut n k l → Some (k, l) ≡ cut n
unfolding cut
cut_made n k l c =
    let pair : ◌≡◌ {A = ℕ × ℕ} (k, l) (parts n) = λ i. (c.kept_is i, c.lent_is i) in
    ap Some pair ∙ sym (cond-false _ None (Some (parts n)) (or_from (n == 0) (has_filled_cell 6 (tree_of 6 n)) (ne_eqb n 0 c.some) c.no_cell))

pub cut_empty : (n : ℕ) → n ≡ 0 → None ≡ cut n
unfolding cut
cut_empty n e = sym (cond-true _ None (Some (parts n)) (or_left (n == 0) (has_filled_cell 6 (tree_of 6 n)) (eq-eqb n 0 e)))

pub cut_cell : (n : ℕ) → has_filled_cell 6 (tree_of 6 n) ≡ true → None ≡ cut n
unfolding cut
cut_cell n e = sym (cond-true _ None (Some (parts n)) (or_right (n == 0) (has_filled_cell 6 (tree_of 6 n)) e))

-- a cut is refused for nothing else
pub cut_refused : (n : ℕ) → cut n ≡ None → (n ≡ 0) ⊎ (has_filled_cell 6 (tree_of 6 n) ≡ true)
unfolding cut
cut_refused n = go (n == 0 || has_filled_cell 6 (tree_of 6 n)) refl
  where
    go : (b : Bool) → (n == 0 || has_filled_cell 6 (tree_of 6 n)) ≡ b → cond b None (Some (parts n)) ≡ None → (n ≡ 0) ⊎ (has_filled_cell 6 (tree_of 6 n) ≡ true)
    go true p e = ⊎_elim (λ q. inl (eqb-true n 0 q)) inr (or_cases (n == 0) (has_filled_cell 6 (tree_of 6 n)) p)
    go false p e = let z : ◌≡◌ {A = ℕ} 0 1 = cc in absurd (omega arith)

abbrev pub both : ℕ × ℕ → Trees × Trees
both p = (trees_of_cells p.0, trees_of_cells p.1)

parts_fit : (n : ℕ) (p : ℕ × ℕ) → cut n ≡ Some p → ((trees_of_cells p.0).cells ≡ p.0) × ((trees_of_cells p.1).cells ≡ p.1)
parts_fit n p e =
    let c = cut_is n p.0 p.1 e in (
      mod-eq_of_lt (subst (λ x. x < 2 ^ 64) (sym c.kept_is) (cells_lt 6 (kept (tree_of 6 n)))),
      mod-eq_of_lt (subst (λ x. x < 2 ^ 64) (sym c.lent_is) (cells_lt 6 (lent (tree_of 6 n)))),
    )

pub halves_is : (a k l : Trees) → halves a ≡ Some (k, l) → Cut a.cells k.cells l.cells
halves_is a k l = go (cut a.cells) refl
  where
    go : (o : Option (ℕ × ℕ)) → cut a.cells ≡ o → bind o (λ p. Some (both p)) ≡ Some (k, l) → Cut a.cells k.cells l.cells
    go None f e = let z : ◌≡◌ {A = ℕ} 0 1 = cc in absurd (omega arith)
    go (Some p) f e =
        let q : ◌≡◌ {A = Trees × Trees} (both p) (k, l) = cc in
        let fit = parts_fit a.cells p f in
        subst (λ x. Cut a.cells x l.cells) (sym fit.0 ∙ ap (λ x. x.0.cells) q)
        (subst (λ x. Cut a.cells p.0 x) (sym fit.1 ∙ ap (λ x. x.1.cells) q) (cut_is a.cells p.0 p.1 f))

pub halves_refused : (a : Trees) → halves a ≡ None → cut a.cells ≡ None
halves_refused a = go (cut a.cells) refl
  where
    go : (o : Option (ℕ × ℕ)) → cut a.cells ≡ o → bind o (λ p. Some (both p)) ≡ None → o ≡ None
    go None f e = refl
    go (Some p) f e = let z : ◌≡◌ {A = ℕ} 0 1 = cc in absurd (omega arith)

-- the cells of a share's tree are its cells
cells_back : (a : Trees) → cells_of 6 (tree a) ≡ a.cells
cells_back a = cells_tree 6 a.cells a.fits

rejoins : (a k l : Trees) → halves a ≡ Some (k, l) → union k l ≡ Some a
rejoins a k l e =
    let c = halves_is a k l e in
    union_some k l a
    (ap (λ x. bit_and x l.cells) c.kept_is ∙ ap (bit_and (cells_of 6 (kept (tree a)))) c.lent_is ∙ halves_apart 6 (tree a))
    (omega (arith, c.kept_is, c.lent_is, halves_add 6 (tree a) c.no_cell, cells_back a))

halves_some : (a k l : Trees) → halves a ≡ Some (k, l) → (k ≢ none) × (l ≢ none)
halves_some a k l e =
    let c = halves_is a k l e in
    let n : a.cells ≡ 0 → ⊥ = c.some in
    let some : 0 < cells_of 6 (tree a) = omega (arith, cells_back a, n) in
    let x = kept_some 6 (tree a) c.no_cell some in
    let y = lent_some 6 (tree a) c.no_cell some in
    ((λ p. omega (arith, c.kept_is, x, ap (λ s. s.cells) p)), (λ p. omega (arith, c.lent_is, y, ap (λ s. s.cells) p)))

pub trees_laws : Laws trees_kind
trees_laws = record {
  commutes = commutes;
  associates = associates;
  empty_adds_nothing = unit;
  cancels = cancels;
  empty_has_no_parts = positive;
  whole_not_empty = inhabited;
  whole_takes_only_empty = full;
  halves_join = rejoins;
  halves_not_empty = halves_some;
  same_tells = λ a b. (λ t. same_trees a b (eqb→eq a.cells b.cells t), λ e. subst (λ (x : Trees). T (a.cells == x.cells)) e (eqb_refl a.cells));
}
