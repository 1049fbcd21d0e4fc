-- The texts of shares.
use Rattle.std.specs.Prelude.{ℕ, ◌≢◌, List, ◌++◌, length, drop}
use Rattle.std.specs.List.{AllByRecursion}

-- what a space holds once a text is written at its front
abbrev pub in_front : List ℕ → List ℕ → List ℕ
in_front text space = text ++ drop (length text) space

-- no share's text has more bytes
abbrev pub longest_text : ℕ
longest_text = 190

-- none of the bytes is this one
abbrev pub Lacks : ℕ → List ℕ → Type 0
Lacks byte bytes = AllByRecursion (λ x. x ≢ byte) bytes

-- no share's text has a line break
abbrev pub NoLineBreak : {S : Type 0} → (S → List ℕ) → Type 0
NoLineBreak {S} text = (share : S) → Lacks 10 (text share)
