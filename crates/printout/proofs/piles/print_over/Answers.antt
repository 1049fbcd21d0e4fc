use Rattle.std.proofs.Common.{ℕ, ◌++◌, ap, ◌∙◌}
use Rattle.lending.specs.Layers.{pile}
use Rattle.pile.specs.House.{house_layers}
use Rattle.printout.proofs.Whole.{printed_over, readable_over}
use Rattle.printout.proofs.piles.print_over.Goals as goal

pub returns-clause-prints : goal.returns-clause-prints
returns-clause-prints g c =
    let h = c.args.header in
    let piled = c.book_pile-office.ensures.piled in
    let layers = piled.its_layers ∙ ap (λ (n : ℕ). house_layers 64 h.term n ++ g.O.Office.layers c.args.below) c.from.ensures in
    let stands = piled.stands ∙ ap (λ (n : ℕ). pile (house_layers 64 h.term n) (g.O.Office.meaning c.args.below)) c.from.ensures in
    printed_over g.O.Kind.Share.kind g.O.Kind.Printed.text c.args.book.now layers stands c.new-out.result.items c.print_book.new.out.items c.new-out.ensures.items c.in_ok-print_book.ensures.printed.prints

pub returns-clause-readable : goal.returns-clause-readable
returns-clause-readable g c =
    let h = c.args.header in
    let piled = c.book_pile-office.ensures.piled in
    let layers = piled.its_layers ∙ ap (λ (n : ℕ). house_layers 64 h.term n ++ g.O.Office.layers c.args.below) c.from.ensures in
    let stands = piled.stands ∙ ap (λ (n : ℕ). pile (house_layers 64 h.term n) (g.O.Office.meaning c.args.below)) c.from.ensures in
    readable_over g.O.Kind.Share.kind g.O.Kind.Printed.text c.args.book.now layers stands c.in_ok-print_book.ensures.printed.readable
