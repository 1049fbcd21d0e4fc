-- What the bytes of a book say.
use Rattle.std.specs.Prelude.{◌≡◌, ℕ, ◌+◌, ◌*◌, ◌==◌, nat_lt, if◌then◌else◌, Option, Some, None, Result, Ok, Err}
use Rattle.std.specs.Prelude.{List, [], ◌∷◌, ◌++◌, length, take, drop, slice_index}
use Rattle.kinds.specs.declared.kind.KindOfShare.{KindOfShare}
use Rattle.kinds.specs.Kinds.{kind_byte, kind_of_byte}
use Rattle.book.specs.declared.header.Header.{Header}
use Rattle.book.specs.declared.book.Book.{Book}
use Rattle.book.specs.declared.event.Event.{Event}
use Rattle.book.specs.declared.reason.BookReason.{BookReason}
use Rattle.book.specs.Limits.{header_size, record_size, event_size, most_events}
use Rattle.book.specs.Bytes.{number_at, two_bytes}
use Rattle.book.specs.Numbers.{book_reason_number}

-- bytes 0 and 1: how many events
abbrev pub event_count : List ℕ → ℕ
event_count b = number_at b 0

-- 43: byte 2 is no kind; 44: byte 6 or byte 7 is not zero; 45: the length is not that of so many events
abbrev pub with_kind : List ℕ → Option KindOfShare → Result Header ℕ
with_kind b None = Err 43
with_kind b (Some kind) =
    if nat_lt 0 (number_at b 6) then Err 44 else
    (if length b == header_size + event_size * event_count b then
    Ok (record { events = event_count b; kind = kind; chain = slice_index b 3; term = number_at b 4 })
    else Err 45)

-- Opening a book: what its header says, or the number of its refusal. 41: there is no header; 42: there are too many
-- events.
abbrev pub opening : List ℕ → Result Header ℕ
opening b =
    if nat_lt (length b) header_size then Err 41 else
    (if nat_lt most_events (event_count b) then Err 42 else
    with_kind b (kind_of_byte (slice_index b 2)))

-- opening the first bytes of an input, so many at most, says what opening all of them says
pub record Enough (n : ℕ) : Type 0 where
  pub same : (b : List ℕ) → opening (take n b) ≡ opening b

-- an answer of the code, with the number of a refusal
abbrev pub header_or_number : Result Book BookReason → Result Header ℕ
header_or_number (Ok book) = Ok book.header
header_or_number (Err reason) = Err (book_reason_number reason)

-- the bytes of a header
abbrev pub header_bytes : Header → List ℕ
header_bytes h = two_bytes h.events ++ kind_byte h.kind ∷ h.chain ∷ two_bytes h.term ++ 0 ∷ 0 ∷ []

-- the bytes of a book: its header, its codes and its records
abbrev pub book_bytes : Book → List ℕ
book_bytes book = header_bytes book.header ++ book.codes.now ++ book.records.now

-- Event i of a book with these bytes, from 0: its code, and the bytes of its record.
abbrev pub event_in : List ℕ → ℕ → Option (ℕ × List ℕ)
event_in b i =
    if nat_lt i (event_count b) then
    Some (slice_index b (header_size + i), take record_size (drop (header_size + event_count b + record_size * i) b))
    else None

-- an event of the code
abbrev pub event_parts : Option Event → Option (ℕ × List ℕ)
event_parts None = None
event_parts (Some e) = Some (e.code, e.bytes.now)
