-- What a ledger keeps of itself makes it lawful.
-- A proof, which nobody need read: it stands in specs/ because the implementation names it, and no contract cites it.
use Rattle.std.specs.Prelude.{◌≡◌, ℕ, [], take, refl}
use Rattle.std.proofs.Common.{ap, arith, length-take}
use Rattle.lending.specs.Layers.{Follow}
use Rattle.office.specs.Lawful.{Lawful}
use Rattle.ledger.specs.declared.ledger.Ledger.{Ledger}
use Rattle.ledger.specs.Means.{means, rows_of}

pub ledger_lawful : {S : Type 0} (l : Ledger S) → Lawful (means l) (rows_of l)
ledger_lawful l = record {
  capacity = refl;
  fits = simp length-take (omega (arith, l.fits));
  stands = ap (λ n. take n (rows_of l)) (simp length-take (let h = l.fits in omega arith));
  numbers = l.numbers;
  days = l.days;
  orderly = l.orderly;
  levels = λ few q r e. absurd (let z : ◌≡◌ {A = ℕ} 0 1 = cc in omega arith);
}

pub ledger_follows : {S : Type 0} (l : Ledger S) → Follow [] (means l)
ledger_follows l = refl
