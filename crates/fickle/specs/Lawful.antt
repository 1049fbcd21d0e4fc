-- A fickle office over a lawful office is lawful.
-- A proof, which nobody need read: it stands in specs/ because the implementation names it, and no contract cites it.
use Rattle.std.specs.Prelude.{List, Bool}
use Rattle.lending.specs.declared.lease.Lease.{Lease}
use Rattle.lending.specs.Office.{State}
use Rattle.lending.specs.Layers.{layered}
use Rattle.office.specs.Lawful.{Lawful}
use Rattle.layer.specs.Lawful.{layer_lawful}
use Rattle.fickle.specs.declared.fickle.Fickle.{Fickle}
use Rattle.fickle.specs.Objects.{fickle_rule}

pub fickle_lawful : {O S : Type 0} (means : O → State S) (rows : O → List (Lease S))
    → ((o : O) → Lawful (means o) (rows o)) → (fickle : Fickle O)
    → Lawful (layered (fickle_rule fickle.closed) (means fickle.below)) (rows fickle.below)
fickle_lawful {O} {S} means rows lawful fickle = layer_lawful {R = Bool} means rows (fickle_rule {S = S}) lawful (record { below = fickle.below; rule = fickle.closed })
