-- What some digits show.
use Rattle.std.specs.Prelude.{ℕ, List, take}
use Rattle.digits.specs.declared.digits.Digits.{Digits}

-- the bytes that count
abbrev pub digits_of : Digits → List ℕ
digits_of d = take d.count d.bytes
