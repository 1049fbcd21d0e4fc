-- The tree shares of Dockins, Hobor and Appel: binary trees whose leaves are filled or empty.
use Rattle.std.specs.Prelude.{ℕ, zero, suc, max, Bool, true, false, ◌||◌, List, [], ◌∷◌, ◌++◌}

-- A tree: a leaf that is filled or empty, or a lower and an upper half.
pub data Tree : Type 0 where
  leaf : Bool → Tree
  node : Tree → Tree → Tree

-- the filled leaf
abbrev pub ● : Tree
● = leaf true

-- the empty leaf
abbrev pub ○ : Tree
○ = leaf false

-- two leaves alike, which a canonical tree has in no node
abbrev pub Alike : Tree → Tree → Type 0
Alike (leaf true) (leaf true) = Unit {0}
Alike (leaf true) (leaf false) = ⊥
Alike (leaf true) (node l r) = ⊥
Alike (leaf false) (leaf true) = ⊥
Alike (leaf false) (leaf false) = Unit {0}
Alike (leaf false) (node l r) = ⊥
Alike (node a b) t = ⊥

-- no two halves are the same leaf
abbrev pub Canonical : Tree → Type 0
Canonical (leaf b) = Unit {0}
Canonical (node l r) = (Alike l r → ⊥) × Canonical l × Canonical r

-- the canonical tree with these halves: two leaves alike fold into one
abbrev pub fold : Tree → Tree → Tree
fold (leaf true) (leaf true) = ●
fold (leaf true) (leaf false) = node ● ○
fold (leaf true) (node l r) = node ● (node l r)
fold (leaf false) (leaf true) = node ○ ●
fold (leaf false) (leaf false) = ○
fold (leaf false) (node l r) = node ○ (node l r)
fold (node a b) t = node (node a b) t

-- the lower half of a tree; a leaf is two leaves like it
abbrev pub lower : Tree → Tree
lower (leaf b) = leaf b
lower (node l r) = l

-- the upper one
abbrev pub upper : Tree → Tree
upper (leaf b) = leaf b
upper (node l r) = r

-- union
abbrev pub ◌⊔◌ : Tree → Tree → Tree
◌⊔◌ (leaf true) t = ●
◌⊔◌ (leaf false) t = t
◌⊔◌ (node l r) t = fold (◌⊔◌ l (lower t)) (◌⊔◌ r (upper t))

-- intersection
abbrev pub ◌⊓◌ : Tree → Tree → Tree
◌⊓◌ (leaf true) t = t
◌⊓◌ (leaf false) t = ○
◌⊓◌ (node l r) t = fold (◌⊓◌ l (lower t)) (◌⊓◌ r (upper t))

-- relativisation: t with s in the place of each filled leaf
abbrev pub ◌⋈◌ : Tree → Tree → Tree
◌⋈◌ (leaf true) s = s
◌⋈◌ (leaf false) s = ○
◌⋈◌ (node l r) s = node (◌⋈◌ l s) (◌⋈◌ r s)

-- each filled leaf cut in two, and the lower halves kept
abbrev pub kept : Tree → Tree
kept t = ◌⋈◌ t (node ● ○)

-- the same, and the upper halves lent
abbrev pub lent : Tree → Tree
lent t = ◌⋈◌ t (node ○ ●)

-- how deep a tree is
abbrev pub height : Tree → ℕ
height (leaf b) = 0
height (node l r) = suc (max (height l) (height r))

-- whether a filled leaf of t is one cell, where t is a block of height h
abbrev pub has_filled_cell : ℕ → Tree → Bool
has_filled_cell zero (leaf b) = b
has_filled_cell zero (node l r) = false
has_filled_cell (suc h) (leaf b) = false
has_filled_cell (suc h) (node l r) = has_filled_cell h l || has_filled_cell h r

-- `1`, `0`, or the texts of the two halves in brackets
abbrev pub text : Tree → List ℕ
text (leaf true) = 49 ∷ []
text (leaf false) = 48 ∷ []
text (node l r) = 40 ∷ (text l ++ (text r ++ (41 ∷ [])))
