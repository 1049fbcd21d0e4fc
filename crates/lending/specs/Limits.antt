-- The limits of an office.
use Rattle.std.specs.Prelude.{ℕ, Bool, ◌&&◌, nat_le}

-- resources and holders are numbers from 1 to 999
abbrev pub within_range : ℕ → Bool
within_range n = nat_le 1 n && nat_le n 999

-- days are 0 to 9,999
abbrev pub last_day : ℕ
last_day = 9999

-- the due day of a first lease, which never comes
abbrev pub never : ℕ
never = 10000

-- leases are numbered from 1 to 60,000
abbrev pub last_number : ℕ
last_number = 60000

-- a ledger uses at most so many rows
abbrev pub most_rows : ℕ
most_rows = 1024

-- nobody piles more layers, and no level is above their number
abbrev pub most_layers : ℕ
most_layers = 255
