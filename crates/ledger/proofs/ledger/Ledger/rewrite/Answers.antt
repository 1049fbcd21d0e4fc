use Rattle.std.proofs.Common.{min, length, take, set, refl, ap}
use Rattle.lending.specs.Limits.{most_rows}
use Rattle.lending.specs.Roll.{change}
use Rattle.ledger.proofs.Places.{stays}
use Rattle.ledger.proofs.Ledgers.{same_core, stands, row_length, row_roll, row_rest}
use Rattle.ledger.proofs.ledger.Ledger.rewrite.Goals as goal

pub invariant_of-self : goal.invariant_of-self
invariant_of-self g c =
    let l = c.args.self.now in
    let x = c.args.lease in
    let k = c.in-Some.place in
    record {
      fits = rw (row_length l x.number k x c.in-Some.ensures) l.fits;
      numbers = l.numbers;
      days = l.days;
      orderly = rw (row_roll l x.number k x c.in-Some.ensures) c.requires;
    }

pub returns-in-Some : goal.returns-in-Some
returns-in-Some g c =
    let l = c.args.self.now in
    let x = c.args.lease in
    let k = c.in-Some.place in
    let f = c.in-Some.ensures in
    let len = row_length l x.number k x f in
    record {
      core = same_core (take l.count (set l.rows.now k x)) (change x.number (λ o. x) (take l.count l.rows.now)) l.issued l.today (min most_rows (length (set l.rows.now k x))) (min most_rows (length l.rows.now)) (row_roll l x.number k x f) (ap (min most_rows) len);
      rest = row_rest l x.number k x f;
      loan = refl;
    }

pub returns-in_default : goal.returns-in_default
returns-in_default g c = stands _ _ _ (stays c.args.lease.number (λ l. c.args.lease) _ c.in_default.ensures) refl refl refl
