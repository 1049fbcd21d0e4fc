-- The numbers of the reasons.
use Rattle.std.specs.Prelude.{ℕ}
use Rattle.book.specs.declared.reason.BookReason.{BookReason}
use Rattle.book.specs.declared.reason.BookReason.TheVariants.{TooShort, TooManyEvents, NoSuchKind, NotZero, WrongLength}
use Rattle.book.specs.declared.reason.BookReason.TheVariants.{NoEventLeft, UnknownCode, UnusedOperand, EventsLeft}

-- the number by which everybody knows a reason
abbrev pub book_reason_number : BookReason → ℕ
book_reason_number TooShort = 41
book_reason_number TooManyEvents = 42
book_reason_number NoSuchKind = 43
book_reason_number NotZero = 44
book_reason_number WrongLength = 45
book_reason_number NoEventLeft = 46
book_reason_number UnknownCode = 47
book_reason_number UnusedOperand = 48
book_reason_number EventsLeft = 49
