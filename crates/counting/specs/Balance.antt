-- What a source has given out is what its readers hold.
use Rattle.std.specs.Prelude.{◌≡◌, ℕ, ◌+◌, List, [], ◌∷◌, Some}
use Rattle.shares.specs.Joins.{together}
use Rattle.counting.specs.declared.permission.Permission.{Permission}
use Rattle.counting.specs.declared.permission.Permission.TheVariants.{Empty, Source, Readers}
use Rattle.counting.specs.declared.counting.Counting.{Counting}
use Rattle.counting.specs.Counts.{counting_kind}

-- how many readers a permission has given out
abbrev pub readers_given_out : Permission → ℕ
readers_given_out Empty = 0
readers_given_out (Source n) = n
readers_given_out (Readers k) = 0

-- how many readers it holds
abbrev pub readers_held : Permission → ℕ
readers_held Empty = 0
readers_held (Source n) = 0
readers_held (Readers k) = k

-- how many all of some shares have given out, or hold
abbrev pub total : (Permission → ℕ) → List Counting → ℕ
total count [] = 0
total count (s ∷ ss) = count s.held + total count ss

-- Of some shares that join to the whole, as many readers are given out as are held.
abbrev pub GivenOutIsHeld : Type 0
GivenOutIsHeld = (shares : List Counting) → together counting_kind shares ≡ Some counting_kind.whole
    → total readers_given_out shares ≡ total readers_held shares
