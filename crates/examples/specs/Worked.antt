-- Worked examples: of both kinds of share, and of an office.
use Rattle.std.specs.Prelude.{◌≡◌, ℕ, List, Some, None, codes, Option}
use Rattle.shares.specs.Kind.{bind}
use Rattle.trees.specs.declared.trees.Trees.{Trees}
use Rattle.trees.specs.Tree.{node, ●, ○}
use Rattle.trees.specs.Cells.{text_of_share, share, trees_of_cells, trees_kind}
use Rattle.counting.specs.declared.permission.Permission.TheVariants.{Source, Readers}
use Rattle.counting.specs.Counts.{counting_of, counting_kind}
use Rattle.examples.specs.Book.{WorkedBook}

-- the texts of a share's halves, the half kept first
abbrev pub printed_halves : Trees → Option (List ℕ × List ℕ)
printed_halves s = bind (trees_kind.halve s) (λ h. Some (text_of_share h.0, text_of_share h.1))

-- the text of two shares joined
abbrev pub printed_join : Trees → Trees → Option (List ℕ)
printed_join a b = bind (trees_kind.join a b) (λ c. Some (text_of_share c))

-- All of them.
pub record WorkedExamples : Type 0 where
  -- `1` halves into `(10)` and `(01)`
  pub whole : text_of_share trees_kind.whole ≡ codes "1"
  pub whole_halves : printed_halves trees_kind.whole ≡ Some (codes "(10)", codes "(01)")
  -- `(01)` halves into `(0(10))` and `(0(01))`
  pub upper_half : text_of_share (share (node ○ ●)) ≡ codes "(01)"
  pub upper_half_halves : printed_halves (share (node ○ ●)) ≡ Some (codes "(0(10))", codes "(0(01))")
  -- `(10)` and `(0(10))` join to `(1(10))`; `(10)` and `(10)` don't join
  pub lower_half : text_of_share (share (node ● ○)) ≡ codes "(10)"
  pub quarter : text_of_share (share (node ○ (node ● ○))) ≡ codes "(0(10))"
  pub half_and_quarter : printed_join (share (node ● ○)) (share (node ○ (node ● ○))) ≡ Some (codes "(1(10))")
  pub half_twice : trees_kind.join (share (node ● ○)) (share (node ● ○)) ≡ None
  -- cell 0 alone is `((((((10)0)0)0)0)0)`, and doesn't halve
  pub cell : text_of_share (trees_of_cells 1) ≡ codes "((((((10)0)0)0)0)0)"
  pub cell_halves : trees_kind.halve (trees_of_cells 1) ≡ None
  -- a source that has given out 3 readers gets 3 back and is the whole; 4 are too many
  pub three_back : counting_kind.join (counting_of (Source 3)) (counting_of (Readers 3))
      ≡ Some (counting_of (Source 0))
  pub whole_source : counting_kind.whole ≡ counting_of (Source 0)
  pub four_back : counting_kind.join (counting_of (Source 3)) (counting_of (Readers 4)) ≡ None
  -- a source gives out at most 4,095 readers
  pub last_reader : counting_kind.halve (counting_of (Source 4094))
      ≡ Some (counting_of (Source 4095), counting_of (Readers 1))
  pub no_more_readers : counting_kind.halve (counting_of (Source 4095)) ≡ None
  -- ten calls to an office of three layers
  pub book : WorkedBook
