-- What a line call answers, and what it leaves in its space.
use Rattle.std.specs.Prelude.{◌≡◌, ℕ, List, length, Some, None, Option, Ok, Err, Result, nat_le, if◌then◌else◌}
use Rattle.shares.specs.Text.{in_front}
use Rattle.lending.specs.Office.{Refusal}
use Rattle.lines.specs.declared.reason.LineReason.{LineReason}
use Rattle.lines.specs.declared.reason.LineReason.TheVariants.{NoSuchPosition, LineTooLong}

-- what each reason tells: its number, and level 0, since a line call stands over an office
abbrev pub line_refusal : LineReason → Refusal
line_refusal NoSuchPosition = record { number = 15; level = 0 }
line_refusal LineTooLong = record { number = 31; level = 0 }

-- what the answer of a line call tells
abbrev pub line_written : Result ℕ LineReason → Result ℕ Refusal
line_written (Ok written) = Ok written
line_written (Err reason) = Err (line_refusal reason)

-- 15 at level 0 where there is no line to be written, else 31 at level 0 where it is longer than the space, else its
-- length
abbrev pub line_answer : Option (List ℕ) → List ℕ → Result ℕ Refusal
line_answer None space = Err (record { number = 15; level = 0 })
line_answer (Some line) space =
    if nat_le (length line) (length space) then Ok (length line) else Err (record { number = 31; level = 0 })

-- the space with the line at its front, or as it was
abbrev pub space_after : Option (List ℕ) → List ℕ → List ℕ
space_after None space = space
space_after (Some line) space = if nat_le (length line) (length space) then in_front line space else space

-- What a line call did with its line, if there is one: its answer, and the space before and after.
pub record WritesLine (line : Option (List ℕ)) (before after : List ℕ) (result : Result ℕ LineReason) : Type 0 where
  pub answers : line_written result ≡ line_answer line before
  pub leaves : after ≡ space_after line before
