-- Where bytes stand. A place is an allocation and the byte in it, so that equal bytes elsewhere have another place.
use Rattle.std.specs.Prelude.{ℕ, ◌+◌}

-- the place so many bytes further on in the same allocation
abbrev pub further : ℕ × ℕ → ℕ → ℕ × ℕ
further place n = (place.0, place.1 + n)
