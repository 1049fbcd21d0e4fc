-- What every office stands for.
use Rattle.std.specs.Prelude.{◌≡◌, ℕ, ◌+◌, List, [], ◌∷◌, ◌++◌, None, Option}
use Rattle.shares.specs.Kind.{Kind}
use Rattle.lending.specs.declared.lease.Lease.{Lease}

-- Level 0 is the office called; each office that passes a refusal up adds 1.
pub record Refusal : Type 0 where
  pub number : ℕ
  pub level : ℕ

-- What an office may object to.
pub data Request : Type 0 where
  opening : (resource holder : ℕ) → Request
  delegating : (lender holder due : ℕ) → Request
  assigning : (lease holder : ℕ) → Request

-- All that an office stands for but its objections.
pub record Core (S : Type 0) : Type 0 where
  -- the live leases by rising number
  pub roll : List (Lease S)
  -- how many numbers were issued: they are 1 to issued
  pub issued : ℕ
  pub today : ℕ
  -- the number of rows
  pub capacity : ℕ
  -- how many layers stand above the ledger
  pub depth : ℕ

-- The six things that every office stands for.
pub record State (S : Type 0) : Type 0 where
  pub core : Core S
  -- for each request either none or a refusal
  pub objections : Request → Option Refusal

module _ {S : Type 0} where
  -- An office as it is set up: no leases, nothing issued, and today is day 0.
  pub record SetUp (s : State S) : Type 0 where
    pub no_leases : s.core.roll ≡ []
    pub none_issued : s.core.issued ≡ 0
    pub first_day : s.core.today ≡ 0

  -- a row as it is before a ledger uses it
  abbrev pub free_lease : Kind S → Lease S
  free_lease K = record { number = 0; resource = 0; holder = 0; lender = 0; due = 0; share = K.empty }

  -- a ledger of so many rows as it is set up: an office without layers
  abbrev pub new_ledger : ℕ → State S
  new_ledger rows =
      record {
        core = record { roll = []; issued = 0; today = 0; capacity = rows; depth = 0 };
        objections = λ q. None;
      }

  -- A state with one thing changed: with another roll,
  abbrev pub with_roll : List (Lease S) → State S → State S
  with_roll roll s = record s { core = record (s.core) { roll = roll } }

  -- with another count of numbers issued,
  abbrev pub with_issued : ℕ → State S → State S
  with_issued n s = record s { core = record (s.core) { issued = n } }

  -- and with another day.
  abbrev pub with_today : ℕ → State S → State S
  with_today d s = record s { core = record (s.core) { today = d } }

  -- the next number is issued to a new lease, which stands last
  abbrev pub issue : Lease S → State S → State S
  issue l s = with_issued (s.core.issued + 1) (with_roll (s.core.roll ++ (l ∷ [])) s)
