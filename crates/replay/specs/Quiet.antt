-- Events of which none is granted.
use Rattle.std.specs.Prelude.{◌≡◌, ℕ, ◌<◌, Bool, true, List}
use Rattle.shares.specs.Kind.{Kind}
use Rattle.lending.specs.Office.{State}
use Rattle.lending.specs.Perform.{perform}
use Rattle.lending.specs.Idle.{idle}
use Rattle.replay.specs.Events.{Next, next}
use Rattle.replay.specs.Events.Next.{nothing, no_call, a_call}

module _ {S : Type 0} (K : Kind S) (s : State S) where
  -- what comes next asks for no call, or for one that an office refuses that stands for s
  abbrev pub quiet : Next → Bool
  quiet (nothing n) = true
  quiet (no_call n) = true
  quiet (a_call c) = idle (perform K s c)

  -- so it is with each of the first n events of a book with these bytes
  abbrev pub AllQuiet : List ℕ → ℕ → Type 0
  AllQuiet b n = (i : ℕ) → i < n → quiet (next b i) ≡ true
