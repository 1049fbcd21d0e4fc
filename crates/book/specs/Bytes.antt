-- Numbers of two bytes, the lower first.
use Rattle.std.specs.Prelude.{ℕ, ◌+◌, ◌*◌, ◌/◌, ◌%◌, List, [], ◌∷◌, slice_index}

-- the number whose first byte is the one at a place
abbrev pub number_at : List ℕ → ℕ → ℕ
number_at b place = slice_index b place + 256 * slice_index b (place + 1)

-- the two bytes of a number
abbrev pub two_bytes : ℕ → List ℕ
two_bytes n = n % 256 ∷ n / 256 ∷ []
