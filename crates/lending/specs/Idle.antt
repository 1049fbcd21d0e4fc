-- Calls that change nothing: questions, and what is refused.
use Rattle.std.specs.Prelude.{Bool, true, false}
use Rattle.lending.specs.Outcome.{Outcome}
use Rattle.lending.specs.Outcome.Outcome.{grants}

-- the call is refused, or only told something: nothing is granted
abbrev pub idle : {S : Type 0} → Outcome S → Bool
idle (grants a t) = false
idle o = true
