-- What events ask for.
use Rattle.std.specs.Prelude.{ℕ, List, [], ◌∷◌, Option, Some, None, Result, Ok, Err, drop, ◌==◌, if◌then◌else◌}
use Rattle.std.specs.List.{list_all}
use Rattle.book.specs.declared.code.Code.{Code}
use Rattle.book.specs.declared.reason.BookReason.{BookReason}
use Rattle.book.specs.Bytes.{number_at}
use Rattle.book.specs.Codes.{code_of_byte, operands_used}
use Rattle.book.specs.Numbers.{book_reason_number}

-- the three operands of a record
abbrev pub operands_of : List ℕ → List ℕ
operands_of bytes = number_at bytes 0 ∷ number_at bytes 2 ∷ number_at bytes 4 ∷ []

-- 48: an operand that isn't used is not 0
abbrev pub with_operands : Code → List ℕ → Result (Code × List ℕ) ℕ
with_operands code operands =
    if list_all (λ n. n == 0) (drop (operands_used code) operands) then Ok (code, operands) else Err 48

-- 47: no call has the code
abbrev pub with_code : Option Code → List ℕ → Result (Code × List ℕ) ℕ
with_code None operands = Err 47
with_code (Some code) operands = with_operands code operands

-- what an event asks for whose code is the byte and whose record has the bytes
abbrev pub code_and_operands : ℕ → List ℕ → Result (Code × List ℕ) ℕ
code_and_operands byte bytes = with_code (code_of_byte byte) (operands_of bytes)

-- an answer of the code, with the number of a refusal
abbrev pub code_and_operands_of : Result (Code × List ℕ) BookReason → Result (Code × List ℕ) ℕ
code_and_operands_of (Ok x) = Ok x
code_and_operands_of (Err reason) = Err (book_reason_number reason)
