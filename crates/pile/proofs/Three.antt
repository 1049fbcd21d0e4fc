-- A pile of three layers, by what each says of the one below it.
use Rattle.std.proofs.Common.{◌≡◌, ◌∷◌, ap, ◌∙◌}
use Rattle.lending.specs.Office.{State}
use Rattle.lending.specs.Layers.{Own, Layers, layered}

module _ {S : Type 0} (quota term chain : Own S) where
  pub three_layers : (a b c below : Layers S) → c ≡ chain ∷ below → b ≡ term ∷ c → a ≡ quota ∷ b → a ≡ quota ∷ term ∷ chain ∷ below
  three_layers a b c below e f g = g ∙ ap (λ (ls : Layers S). quota ∷ ls) (f ∙ ap (λ (ls : Layers S). term ∷ ls) e)

  pub three_stand : (a b c s : State S) → c ≡ layered chain s → b ≡ layered term c → a ≡ layered quota b → a ≡ layered quota (layered term (layered chain s))
  three_stand a b c s e f g = g ∙ ap (layered quota) (f ∙ ap (layered term) e)
