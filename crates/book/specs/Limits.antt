-- The sizes of a book, in bytes, and its limit.
use Rattle.std.specs.Prelude.{ℕ}

-- its header
abbrev pub header_size : ℕ
header_size = 8

-- an event's record: three operands of two bytes
abbrev pub record_size : ℕ
record_size = 6

-- an event: its code, and its record
abbrev pub event_size : ℕ
event_size = 7

-- a book has at most so many events
abbrev pub most_events : ℕ
most_events = 4096
