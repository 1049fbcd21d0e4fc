-- The layers of the house's offices.
use Rattle.std.specs.Prelude.{◌≡◌, ℕ, [], ◌∷◌, ◌++◌}
use Rattle.lending.specs.Office.{State, SetUp, new_ledger}
use Rattle.lending.specs.Layers.{Layers, pile}
use Rattle.office.specs.declared.office.Office.{Ghosts}
use Rattle.quota.specs.Means.{quota_rule}
use Rattle.term.specs.Means.{term_rule}
use Rattle.chain.specs.Means.{chain_rule}

module _ {S : Type 0} where
  -- Quota on Term on Chain with their numbers, the outermost first
  abbrev pub house_layers : (quota term chain : ℕ) → Layers S
  house_layers quota term chain = quota_rule quota ∷ term_rule term ∷ chain_rule chain ∷ []

  -- what a new office with some layers over so many rows stands for
  abbrev pub new_pile : Layers S → ℕ → State S
  new_pile layers rows = pile layers (new_ledger rows)

-- The office `top` is some layers over the office `below`, with its rows.
pub record PiledOn {P O S : Type 0} (upper : Ghosts P S) (lower : Ghosts O S) (layers : Layers S) (top : P) (below : O)
    : Type 0 where
  pub stands : upper.meaning top ≡ pile layers (lower.meaning below)
  pub set_up : SetUp (lower.meaning below) → SetUp (upper.meaning top)
  pub its_layers : upper.layers top ≡ layers ++ lower.layers below
  pub same_rows : upper.rows top ≡ lower.rows below
  pub same_loan : upper.loan top ≡ lower.loan below
