-- A layer over a lawful office is lawful, and its objections follow from its layers if those below do.
-- A proof, which nobody need read: it stands in specs/ because the implementation names it, and no contract cites it.
use Rattle.std.specs.Prelude.{◌≡◌, ℕ, ◌+◌, ◌<◌, List, ◌∷◌, Some, None, Option}
use Rattle.std.proofs.Common.{refl, ap, arith}
use Rattle.lending.specs.declared.lease.Lease.{Lease}
use Rattle.lending.specs.Office.{Refusal, State, Request}
use Rattle.lending.specs.Layers.{Own, Layers, Follow, up, own_or_raised, layered}
use Rattle.office.specs.Lawful.{Lawful}
use Rattle.layer.specs.declared.layer.Layer.{Layer}

abbrev level_of : Option Refusal → ℕ
level_of None = 0
level_of (Some f) = f.level

below_depth : (depth : ℕ) (mine : Option ℕ) (below : Option Refusal) (r : Refusal)
    → ((f : Refusal) → below ≡ Some f → f.level < depth) → own_or_raised mine below ≡ Some r → r.level < depth + 1
below_depth depth (Some n) below r h e = let k : 0 ≡ r.level = ap level_of e in omega arith
below_depth depth None None r h e = absurd (let z : ◌≡◌ {A = ℕ} 0 1 = cc in omega arith)
below_depth depth None (Some f) r h e = let k : up f.level ≡ r.level = ap level_of e in let l = h f refl in omega arith

pub layer_lawful : {O R S : Type 0} (means : O → State S) (rows : O → List (Lease S)) (own : R → Own S)
    → ((o : O) → Lawful (means o) (rows o)) → (layer : Layer O R)
    → Lawful (layered (own layer.rule) (means layer.below)) (rows layer.below)
layer_lawful means rows own lawful layer =
    let s = means layer.below in
    let l = lawful layer.below in
    record {
      capacity = l.capacity;
      fits = l.fits;
      stands = l.stands;
      numbers = l.numbers;
      days = l.days;
      orderly = l.orderly;
      levels =
          λ few q r e. below_depth s.core.depth ((own layer.rule).objects s.core.roll s.core.today q) (s.objections q) r
          (l.levels (omega arith) q) e;
    }

pub layer_follows : {O R S : Type 0} (means : O → State S) (layers : O → Layers S) (own : R → Own S)
    → ((o : O) → Follow (layers o) (means o)) → (layer : Layer O R)
    → Follow (own layer.rule ∷ layers layer.below) (layered (own layer.rule) (means layer.below))
layer_follows means layers own follow layer =
    let s = means layer.below in
    ap {B =
    Request → Option Refusal} (λ (o : Request → Option Refusal) (q : Request). own_or_raised
    ((own layer.rule).objects s.core.roll s.core.today q) (o q)) (follow layer.below)
