-- A worked book: ten calls to a new office with the house's layers, over 1,024 rows of tree shares.
use Rattle.std.specs.Prelude.{◌≡◌, ℕ, List, [], ◌∷◌, map, reverse, length, codes}
use Rattle.trees.specs.declared.trees.Trees.{Trees}
use Rattle.trees.specs.Cells.{text_of_share, trees_kind}
use Rattle.lending.specs.declared.lease.Lease.{Lease}
use Rattle.lending.specs.Limits.{most_rows}
use Rattle.lending.specs.Office.{State}
use Rattle.lending.specs.Outcome.{Call, Answer}
use Rattle.lending.specs.Outcome.Call.{open_resource, delegate, yield, assign, recall, day}
use Rattle.lending.specs.Outcome.Answer.{done, number, refused}
use Rattle.lending.specs.History.{Moment, yielded, merged, recalled, lapsed}
use Rattle.lending.specs.Layers.{Layers}
use Rattle.lending.specs.Play.{play}
use Rattle.pile.specs.House.{house_layers, new_pile}
use Rattle.printout.specs.Tenancy.{tenancy_printout}

-- Quota 64 on Term 30 on Chain 2
abbrev pub worked_layers : Layers Trees
worked_layers = house_layers 64 30 2

-- the ten calls
abbrev pub worked_calls : List Call
worked_calls =
    open_resource 7 1 ∷ delegate 1 2 20 ∷ delegate 2 3 10 ∷ delegate 3 4 5 ∷ yield 2 ∷
    day 10 ∷ assign 2 1 ∷ delegate 1 5 41 ∷ delegate 1 5 40 ∷ recall 2 ∷ []

-- the calls with their answers, the last call first, and the state that they lead to
abbrev pub worked_play : List (Moment Trees) × State Trees
worked_play = play trees_kind worked_layers (new_pile worked_layers most_rows) (reverse worked_calls)

-- the answers, the first call's first
abbrev pub worked_answers : List (Answer Trees)
worked_answers = reverse (map (λ m. m.answer) worked_play.0)

-- the answer of a refused call, by the number and level of its refusal
abbrev pub refused_answer : ℕ → ℕ → Answer Trees
refused_answer n level = refused (record { number = n; level = level })

-- the live leases at the end
abbrev pub worked_roll : List (Lease Trees)
worked_roll = worked_play.1.core.roll

-- a lease's number, resource, holder, lender and due day, and the text of its share
abbrev pub lease_fields : Lease Trees → ℕ × ℕ × ℕ × ℕ × ℕ × List ℕ
lease_fields l = (l.number, l.resource, l.holder, l.lender, l.due, text_of_share l.share)

-- issued, live, yielded, merged, recalled and lapsed
abbrev pub worked_totals : List ℕ
worked_totals =
    worked_play.1.core.issued ∷ length worked_roll ∷ yielded worked_play.0 ∷ merged worked_play.0 ∷
    recalled worked_play.0 ∷ lapsed worked_play.0 ∷ []

-- the same calls as a tenancy book: its header, its codes, and its records
abbrev pub worked_book : List ℕ
worked_book =
    10 ∷ 0 ∷ 1 ∷ 2 ∷ 30 ∷ 0 ∷ 0 ∷ 0 ∷
    1 ∷ 2 ∷ 2 ∷ 2 ∷ 3 ∷ 7 ∷ 5 ∷ 2 ∷ 2 ∷ 6 ∷
    7 ∷ 0 ∷ 1 ∷ 0 ∷ 0 ∷ 0 ∷
    1 ∷ 0 ∷ 2 ∷ 0 ∷ 20 ∷ 0 ∷
    2 ∷ 0 ∷ 3 ∷ 0 ∷ 10 ∷ 0 ∷
    3 ∷ 0 ∷ 4 ∷ 0 ∷ 5 ∷ 0 ∷
    2 ∷ 0 ∷ 0 ∷ 0 ∷ 0 ∷ 0 ∷
    10 ∷ 0 ∷ 0 ∷ 0 ∷ 0 ∷ 0 ∷
    2 ∷ 0 ∷ 1 ∷ 0 ∷ 0 ∷ 0 ∷
    1 ∷ 0 ∷ 5 ∷ 0 ∷ 41 ∷ 0 ∷
    1 ∷ 0 ∷ 5 ∷ 0 ∷ 40 ∷ 0 ∷
    2 ∷ 0 ∷ 0 ∷ 0 ∷ 0 ∷ 0 ∷ []

-- What comes of the calls: their answers, the live leases, and the totals; and the printout of the book.
pub record WorkedBook : Type 0 where
  pub answers : worked_answers
      ≡ number 1 ∷ number 2 ∷ number 3 ∷ refused_answer 23 2 ∷ refused_answer 9 3 ∷
      number 1 ∷ done ∷ refused_answer 22 1 ∷ number 4 ∷ number 1 ∷ []
  pub roll : map lease_fields worked_roll
      ≡ (1, 7, 1, 0, 10000, codes "((10)1)") ∷ (4, 7, 5, 1, 40, codes "((01)0)") ∷ []
  pub totals : worked_totals ≡ 4 ∷ 2 ∷ 0 ∷ 0 ∷ 1 ∷ 1 ∷ []
  pub printout : tenancy_printout worked_book
      ≡ codes "! 4 23 2\n! 5 9 3\n! 8 22 1\n1 7 1 0 10000 r ((10)1)\n4 7 5 1 40 r ((01)0)\n= 4 2 0 0 1 1\n"
