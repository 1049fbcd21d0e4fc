-- A layer over an office.
use Rattle.std.specs.Prelude.{◌≡◌, ◌∷◌}
use Rattle.lending.specs.Office.{SetUp}
use Rattle.lending.specs.Layers.{Own, layered}
use Rattle.office.specs.declared.office.Office.{Ghosts}

-- The office `top` is a layer over the office `below`: its own rule, and everything else as it is there.
pub record Covers {P O S : Type 0} (upper : Ghosts P S) (lower : Ghosts O S) (own : Own S) (top : P) (below : O)
    : Type 0 where
  pub stands : upper.meaning top ≡ layered own (lower.meaning below)
  pub set_up : SetUp (lower.meaning below) → SetUp (upper.meaning top)
  pub same_rows : upper.rows top ≡ lower.rows below
  pub same_loan : upper.loan top ≡ lower.loan below
  pub its_layers : upper.layers top ≡ own ∷ lower.layers below
