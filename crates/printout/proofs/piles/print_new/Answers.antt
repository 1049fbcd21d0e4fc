use Rattle.std.proofs.Common.{◌≡◌, ℕ, min, IfOk, OnOk, length, ap, ◌∙◌, subst, arith}
use Rattle.lending.specs.Office.{new_ledger}
use Rattle.lending.specs.Layers.{pile}
use Rattle.book.specs.Books.{event_count}
use Rattle.replay.proofs.Running.{run_conserved}
use Rattle.printout.specs.Printouts.{contents}
use Rattle.printout.specs.Readable.{IsReadable}
use Rattle.printout.specs.Contents.{printout_bytes}
use Rattle.printout.specs.Tenancy.{book_layers, book_office}
use Rattle.printout.proofs.piles.print_new.Goals as goal

pub returns-clause-prints : goal.returns-clause-prints
returns-clause-prints g c =
    let K = g.S.Share.kind in
    let rows : min 1024 (length c.as_mut_slice.result.now) ≡ 1024 = grind (arith, c.as_mut_slice.ensures.len, c.as_mut_slice.ensures.value, c.in_ok-rows.ensures.len) in
    subst (λ s. IfOk c.print_over.result (λ printout. printout.items ≡ printout_bytes (contents K (book_layers c.args.header) g.S.Printed.text c.args.book.now (pile (book_layers c.args.header) s)))) (c.new.ensures.stands ∙ ap (λ (n : ℕ). new_ledger n) rows) c.print_over.ensures.prints

pub returns-clause-readable : goal.returns-clause-readable
returns-clause-readable g c =
    let K = g.S.Share.kind in
    let rows : min 1024 (length c.as_mut_slice.result.now) ≡ 1024 = grind (arith, c.as_mut_slice.ensures.len, c.as_mut_slice.ensures.value, c.in_ok-rows.ensures.len) in
    subst (λ s. OnOk c.print_over.result (IsReadable (contents K (book_layers c.args.header) g.S.Printed.text c.args.book.now (pile (book_layers c.args.header) s)))) (c.new.ensures.stands ∙ ap (λ (n : ℕ). new_ledger n) rows) c.print_over.ensures.readable

pub returns-clause-conserved : goal.returns-clause-conserved
returns-clause-conserved g c = run_conserved g.S.Share.kind (book_layers c.args.header) c.lending_is_conserved.ensures.always c.args.book.now (book_office c.args.header) (event_count c.args.book.now)

pub returns-in_err-rows-clause-conserved : goal.returns-in_err-rows-clause-conserved
returns-in_err-rows-clause-conserved g c = run_conserved g.S.Share.kind (book_layers c.args.header) c.lending_is_conserved.ensures.always c.args.book.now (book_office c.args.header) (event_count c.args.book.now)
