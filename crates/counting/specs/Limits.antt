-- The limits of counting shares.
use Rattle.std.specs.Prelude.{Bool, true, ◌&&◌, nat_le}
use Rattle.counting.specs.declared.permission.Permission.{Permission}
use Rattle.counting.specs.declared.permission.Permission.TheVariants.{Empty, Source, Readers}

-- a source has given out at most 4,095 readers, and a share of readers holds from 1 to 4,095
abbrev pub within : Permission → Bool
within Empty = true
within (Source n) = nat_le n 4095
within (Readers k) = nat_le 1 k && nat_le k 4095
