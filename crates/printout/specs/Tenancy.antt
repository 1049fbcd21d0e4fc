-- The printout of a book over a new office of its own kind of share.
use Rattle.std.specs.Prelude.{◌≡◌, ℕ, List, Ok, Err, Result}
use Rattle.kinds.specs.Kinds.{by_kind}
use Rattle.shares.specs.Kind.{Kind}
use Rattle.lending.specs.Limits.{most_rows}
use Rattle.lending.specs.Office.{State}
use Rattle.lending.specs.Layers.{Layers}
use Rattle.pile.specs.House.{house_layers, new_pile}
use Rattle.book.specs.declared.header.Header.{Header}
use Rattle.book.specs.Books.{opening, event_count}
use Rattle.replay.specs.Whole.{RunConserved}
use Rattle.printout.specs.Contents.{Contents, contents_unopened, printout_bytes}
use Rattle.printout.specs.Printouts.{contents}
use Rattle.printout.specs.Readable.{IsReadable}

module _ {S : Type 0} where
  -- the layers of a book's office: Quota's number is 64, and the header has the others
  abbrev pub book_layers : Header → Layers S
  book_layers header = house_layers 64 header.term header.chain

  -- what a new office with them stands for: a ledger of 1,024 rows under them
  abbrev pub book_office : Header → State S
  book_office header = new_pile (book_layers header) most_rows

  -- what the printout over it shows
  abbrev pub contents_in : Header → Kind S → (S → List ℕ) → List ℕ → Contents
  contents_in header K text b = contents K (book_layers header) text b (book_office header)

  -- the lending promise of the events of a book, replayed over it
  abbrev pub ConservedIn : Header → Kind S → List ℕ → Type 0
  ConservedIn header K b = RunConserved K (book_layers header) b (book_office header) (event_count b)

-- by what opening the book says
abbrev pub tenancy_contents_by : Result Header ℕ → List ℕ → Contents
tenancy_contents_by (Err n) b = contents_unopened n
tenancy_contents_by (Ok header) b = by_kind (λ k. contents_in header k.kind k.text b) header.kind

-- by what opening the book says
abbrev pub TenancyConservedBy : Result Header ℕ → List ℕ → Type 0
TenancyConservedBy (Err n) b = Unit {0}
TenancyConservedBy (Ok header) b = by_kind (λ k. ConservedIn header k.kind b) header.kind

-- What the printout of a book with these bytes shows.
abbrev pub tenancy_contents : List ℕ → Contents
tenancy_contents b = tenancy_contents_by (opening b) b

-- its bytes
abbrev pub tenancy_printout : List ℕ → List ℕ
tenancy_printout b = printout_bytes (tenancy_contents b)

-- Two books whose printouts are the same bytes show the same, and may be of different kinds. Both can be read, as those
-- of `tenancy` can.
abbrev pub OnePrintout : Type 0
OnePrintout = (a b : List ℕ) → IsReadable (tenancy_contents a) → IsReadable (tenancy_contents b)
    → tenancy_printout a ≡ tenancy_printout b → tenancy_contents a ≡ tenancy_contents b

-- The lending promise of its events, if it opens.
abbrev pub TenancyConserved : List ℕ → Type 0
TenancyConserved b = TenancyConservedBy (opening b) b
