use Rattle.std.proofs.Common.{◌≡◌, ◌+◌}
use Rattle.lending.specs.Roll.{count_held}
use Rattle.office.specs.ToCome.{leases_to_come}
use Rattle.quota.proofs.quota.held_by.Given as goal

-- what was counted and what is left to count is the holder's count
abbrev pub invariant-loop-lease : goal.invariant-loop-lease
invariant-loop-lease g l =
    l.held + count_held (leases_to_come g.O.Office.meaning l.lease-iterator) l.holder ≡ count_held (g.O.Office.meaning l.office).core.roll l.holder
