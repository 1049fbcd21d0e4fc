-- The kinds of share that the house uses: the name of each, its byte in a book, its operations and its texts. A new
-- kind is a line in each of the first four definitions, and in src/kind.rt.
use Rattle.std.specs.Prelude.{◌≡◌, ◌≢◌, ℕ, List, [], ◌∷◌, Option, Result, Ok, Err, codes, ◌==◌}
use Rattle.std.specs.List.{find}
use Rattle.shares.specs.Kind.{PrintedKind}
use Rattle.trees.specs.Cells.{trees_kind, text_of_share as trees_text}
use Rattle.counting.specs.Counts.{counting_kind, text_of_share as counting_text}
use Rattle.kinds.specs.declared.kind.KindOfShare.{KindOfShare}
use Rattle.kinds.specs.declared.kind.KindOfShare.TheVariants.{Trees, Counting}

-- all of them
abbrev pub kinds : List KindOfShare
kinds = Trees ∷ Counting ∷ []

-- the name by which everybody knows a kind
abbrev pub kind_name : KindOfShare → List ℕ
kind_name Trees = codes "trees"
kind_name Counting = codes "counting"

-- the byte by which a book says which kind it is of
abbrev pub kind_byte : KindOfShare → ℕ
kind_byte Trees = 1
kind_byte Counting = 2

-- what f says of a kind's shares and their texts
abbrev pub by_kind {ℓ} : {A : Type ℓ} → (PrintedKind → A) → KindOfShare → A
by_kind f Trees = f (record { Share = _; kind = trees_kind; text = trees_text })
by_kind f Counting = f (record { Share = _; kind = counting_kind; text = counting_text })

-- reading a name gives the kind whose name it is; it fails where no kind has the name
abbrev pub Named : {E : Type 0} → List ℕ → Result KindOfShare E → Type 0
Named name (Ok kind) = name ≡ kind_name kind
Named name (Err e) = (kind : KindOfShare) → name ≢ kind_name kind

-- the kind whose byte it is, if there is one
abbrev pub kind_of_byte : ℕ → Option KindOfShare
kind_of_byte byte = find (λ kind. kind_byte kind == byte) kinds
