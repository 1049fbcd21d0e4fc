-- What no call changes, over many calls.
use Rattle.std.proofs.Common.{refl, ◌∙◌}
use Rattle.office.specs.declared.office.Office.{Ghosts}
use Rattle.office.specs.Calls.{Keeps}

module _ {O S : Type 0} (office : Ghosts O S) where
  -- no call at all
  pub none_keep : (a : O) → Keeps office a a
  none_keep a = record { same_unused = refl; same_loan = refl; same_layers = refl }

  -- one after another
  pub both_keep : (a b c : O) → Keeps office a b → Keeps office b c → Keeps office a c
  both_keep a b c k l = record {
    same_unused = l.same_unused ∙ k.same_unused;
    same_loan = l.same_loan ∙ k.same_loan;
    same_layers = l.same_layers ∙ k.same_layers;
  }
