-- The bytes of a printout, by its three kinds of line.
use Rattle.std.proofs.Common.{◌≡◌, ℕ, List, [], ◌++◌, Some, None, Option, append-nil, refl, ap₂, ◌∙◌}
use Rattle.std.specs.List.{concat}
use Rattle.std.proofs.lemmas.List.Folds.{concat-append}
use Rattle.lines.specs.declared.line.totals.Totals.{Totals}
use Rattle.lines.specs.Lines.{total_line}
use Rattle.replay.specs.Faults.{RefusedEvent}
use Rattle.printout.specs.Contents.{LeaseEntry, Contents, refusal_lines, lease_lines, total_lines, printout_bytes}

abbrev pub refusal_bytes : List RefusedEvent → List ℕ
refusal_bytes xs = concat (refusal_lines xs)

abbrev pub lease_bytes : List LeaseEntry → List ℕ
lease_bytes xs = concat (lease_lines xs)

abbrev pub total_bytes : Option Totals → List ℕ
total_bytes None = []
total_bytes (Some totals) = total_line totals

-- those of the totals are one line or none
one_line : (t : Option Totals) → concat (total_lines t) ≡ total_bytes t
one_line None = refl
one_line (Some totals) = append-nil (total_line totals)

pub three_parts : (p : Contents) → printout_bytes p ≡ refusal_bytes p.refusals ++ lease_bytes p.leases ++ total_bytes p.totals
three_parts p =
    concat-append (refusal_lines p.refusals ++ lease_lines p.leases) (total_lines p.totals)
    ∙ ap₂ (λ (a b : List ℕ). a ++ b) (concat-append (refusal_lines p.refusals) (lease_lines p.leases)) (one_line p.totals)
