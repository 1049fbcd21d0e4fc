-- Calls of a list of which none is granted.
use Rattle.std.specs.Prelude.{◌≡◌, true, List, All}
use Rattle.shares.specs.Kind.{Kind}
use Rattle.lending.specs.Office.{State}
use Rattle.lending.specs.Perform.{perform}
use Rattle.lending.specs.Idle.{idle}
use Rattle.calls.specs.declared.call.Call.{Call}
use Rattle.calls.specs.Values.{call_meant}

-- at an office that stands for s each of the calls is refused, or only tells something
abbrev pub AllIdle : {S : Type 0} → Kind S → State S → List Call → Type 0
AllIdle K s calls = All (λ call. idle (perform K s (call_meant call)) ≡ true) calls
