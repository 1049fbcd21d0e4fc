-- The limit of what a call closes.
use Rattle.std.specs.Prelude.{ℕ}
use Rattle.lending.specs.Limits.{most_rows}

-- what a call closes was live before it
abbrev pub most_closed : ℕ
most_closed = most_rows
