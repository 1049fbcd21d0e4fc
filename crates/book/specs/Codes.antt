-- The codes of events.
use Rattle.std.specs.Prelude.{ℕ, Option, Some, None, ◌==◌, if◌then◌else◌}
use Rattle.book.specs.declared.code.Code.{Code}
use Rattle.book.specs.declared.code.Code.TheVariants.{Open, Delegate, Yield, Merge, Assign, Recall, Day}

-- what a byte asks for, if anything has it for its code
abbrev pub code_of_byte : ℕ → Option Code
code_of_byte byte =
    if byte == 1 then Some Open else
    (if byte == 2 then Some Delegate else
    (if byte == 3 then Some Yield else
    (if byte == 4 then Some Merge else
    (if byte == 5 then Some Assign else
    (if byte == 6 then Some Recall else
    (if byte == 7 then Some Day else None))))))

-- how many operands a call uses
abbrev pub operands_used : Code → ℕ
operands_used Open = 2
operands_used Delegate = 3
operands_used Yield = 1
operands_used Merge = 2
operands_used Assign = 2
operands_used Recall = 1
operands_used Day = 1
