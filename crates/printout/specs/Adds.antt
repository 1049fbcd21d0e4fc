-- Text that is added to some bytes.
use Rattle.std.specs.Prelude.{◌≡◌, ℕ, ◌+◌, ◌≤◌, ◌<◌, List, ◌++◌, length, OnOk, OnErr, Result, vec_items, vec_capacity}
use Rattle.std.specs.declared.vec.Vec.{Vec}

-- The bytes that were there before stand unchanged in front.
abbrev pub Begins : List ℕ → List ℕ → Type 0
Begins before after = (more : List ℕ) × (after ≡ before ++ more)

-- A text was added to some bytes with room for so many, or memory ran out.
pub record Adds (before : List ℕ) (room : ℕ) (text : List ℕ) {A E : Type 0} (result : Result A E) (after : List ℕ)
    (room_after : ℕ) : Type 0 where
  pub ok : OnOk result (after ≡ before ++ text)
  pub begins : Begins before after
  -- memory runs out only where room was missing
  pub full : OnErr result (room < length before + length text)
  pub grows : room ≤ room_after

-- The same of a list of bytes that the caller owns.
abbrev pub AddsTo : {Z A E : Type 0} → Vec ℕ Z → List ℕ → Result A E → Vec ℕ Z → Type 0
AddsTo before text result after =
    Adds (vec_items before) (vec_capacity before) text result (vec_items after) (vec_capacity after)
