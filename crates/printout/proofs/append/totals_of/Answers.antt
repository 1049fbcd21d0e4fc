use Rattle.std.proofs.Common.{◌≡◌, length, ◌∙◌}
use Rattle.printout.proofs.Adding.{one_answer}
use Rattle.printout.proofs.append.totals_of.Goals as goal

pub returns : goal.returns
returns g c =
    let s = g.O.Office.meaning c.args.office.now in
    let issued : c.from.result ≡ s.core.issued = c.from.ensures ∙ one_answer c.issued.result s.core.issued c.issued.ensures.tells.0 in
    let live : c.count.result ≡ length s.core.roll = one_answer c.count.result (length s.core.roll) c.count.ensures.tells.0 in
    λ i. record { issued = issued i; live = live i; yielded = c.args.tallies.yielded; merged = c.args.tallies.merged; recalled = c.args.tallies.recalled; lapsed = c.args.tallies.lapsed }
