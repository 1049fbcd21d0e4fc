-- How much of an input tells what opening it says.
use Rattle.std.proofs.Common.{◌≡◌, ℕ, ◌+◌, ◌*◌, ◌<◌, ◌≤◌, Bool, true, false, List, length, take, get_or, Err, Result, Some, None, Option, nat_lt, refl, ap, sym, ◌∙◌, ⊎_elim, arith}
use Rattle.std.specs.Prelude.{if◌then◌else◌}
use Rattle.std.proofs.lemmas.Bool.{le-ltb, ltb-false, ne_eqb, cases_lt}
use Rattle.std.proofs.lemmas.List.{get_or-take, take_all, length-take-le}
use Rattle.kinds.specs.declared.kind.KindOfShare.{KindOfShare}
use Rattle.kinds.specs.Kinds.{kind_of_byte}
use Rattle.book.specs.declared.header.Header.{Header}
use Rattle.book.specs.Limits.{header_size, event_size, most_events}
use Rattle.book.specs.Books.{event_count, with_kind, opening, Enough}

-- the bytes of the longest book
abbrev longest : ℕ
longest = header_size + event_size * most_events

-- what opening says of bytes that are too long for a book, by their count, their kind, and the number that bytes 6 and 7 come to
abbrev too_long : ℕ → Option KindOfShare → ℕ → Result Header ℕ
too_long count None rest = if nat_lt most_events count then Err 42 else Err 43
too_long count (Some kind) rest = if nat_lt most_events count then Err 42 else (if nat_lt 0 rest then Err 44 else Err 45)

of_kind : (b : List ℕ) (kind : Option KindOfShare) → longest < length b → (if nat_lt most_events (event_count b) then Err 42 else with_kind b kind) ≡ too_long (event_count b) kind (get_or b 6 0 + 256 * get_or b 7 0)
of_kind b None h = refl
of_kind b (Some kind) h = go (nat_lt most_events (event_count b)) refl
  where
    go : (t : Bool) → nat_lt most_events (event_count b) ≡ t → (if t then Err 42 else with_kind b (Some kind)) ≡ (if t then Err 42 else (if nat_lt 0 (get_or b 6 0 + 256 * get_or b 7 0) then Err 44 else Err 45))
    go true e = refl
    go false e =
        let few = ltb-false most_events (event_count b) e in
        let n = ne_eqb (length b) (header_size + event_size * event_count b) (λ l. omega arith) in
        rw n

of_long : (b : List ℕ) → longest < length b → opening b ≡ too_long (event_count b) (kind_of_byte (get_or b 2 0)) (get_or b 6 0 + 256 * get_or b 7 0)
of_long b h =
    let e = le-ltb (length b) header_size (omega arith) in
    rw e (of_kind b (kind_of_byte (get_or b 2 0)) h)

-- a byte of the first so many
front : (b : List ℕ) (n i : ℕ) → i < n → get_or (take n b) i 0 ≡ get_or b i 0
front b n i h = get_or-take n b i 0 h

longer : (b : List ℕ) (n : ℕ) → longest < n → n ≤ length b → opening (take n b) ≡ opening b
longer b n h l =
    let b0 = front b n 0 (omega arith) in
    let b1 = front b n 1 (omega arith) in
    let b2 = front b n 2 (omega arith) in
    let b6 = front b n 6 (omega arith) in
    let b7 = front b n 7 (omega arith) in
    let e = length-take-le n b l in
    of_long (take n b) (omega arith) ∙ (cc (b0, b1, b2, b6, b7)) ∙ sym (of_long b (omega arith))

pub enough : Enough (longest + 1)
enough = record { same = λ b. ⊎_elim (λ h. longer b (longest + 1) (omega arith) (omega arith)) (λ h. ap opening (take_all (longest + 1) b h)) (cases_lt (longest + 1) (length b)) }
