-- What a ledger stands for.
use Rattle.std.specs.Prelude.{◌≡◌, ℕ, min, List, length, take, None}
use Rattle.lending.specs.declared.lease.Lease.{Lease}
use Rattle.lending.specs.Limits.{most_rows}
use Rattle.lending.specs.Office.{Core, State}
use Rattle.office.specs.Lawful.{unused}
use Rattle.ledger.specs.declared.ledger.Ledger.{Ledger}

module _ {S : Type 0} where
  -- the first rows are the roll, and a ledger uses the first 1,024 rows, or all if fewer
  abbrev pub means : Ledger S → State S
  means l = record {
    core = record {
      roll = take l.count l.rows.now;
      issued = l.issued;
      today = l.today;
      capacity = min most_rows (length l.rows.now);
      depth = 0;
    };
    objections = λ q. None;
  }

  -- what its rows hold
  abbrev pub rows_of : Ledger S → List (Lease S)
  rows_of l = l.rows.now

  -- which loan of rows it has: the name of the reference that was lent to it
  abbrev pub loan_of : Ledger S → ℕ
  loan_of l = l.rows.ghost_name

  -- the ledger `was` has become l, which stands for this, with the same rows
  pub record Stands (l was : Ledger S) (c : Core S) : Type 0 where
    pub core : (means l).core ≡ c
    pub rest : unused (rows_of l) ≡ unused (rows_of was)
    pub loan : loan_of l ≡ loan_of was
