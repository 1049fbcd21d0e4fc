-- What a layer is made of.
use Rattle.layer.specs.declared.layer.Layer.{Layer}

module _ {O R : Type 0} where
  -- the office below it
  abbrev pub office_below : Layer O R → O
  office_below layer = layer.below

  -- its rule
  abbrev pub rule_of : Layer O R → R
  rule_of layer = layer.rule
