use Rattle.std.proofs.Common.{◌∙◌}
use Rattle.quota.specs.Means.{quota_rule}
use Rattle.term.specs.Means.{term_rule}
use Rattle.chain.specs.Means.{chain_rule}
use Rattle.pile.proofs.Three.{three_layers, three_stand}
use Rattle.pile.proofs.pile.pile_up.Goals as goal

pub returns : goal.returns
returns g c =
    let quota = quota_rule c.args.quota in
    let term = term_rule c.args.term in
    let chain = chain_rule c.args.chain in
    let a = c.over.ensures.covers in
    let b = c.over-2.ensures.covers in
    let d = c.over-3.ensures.covers in
    record {
      piled = record {
        stands = three_stand quota term chain _ _ _ (g.O.Office.meaning c.args.below) a.stands b.stands d.stands;
        set_up = λ up. d.set_up (b.set_up (a.set_up up));
        its_layers = three_layers quota term chain _ _ _ (g.O.Office.layers c.args.below) a.its_layers b.its_layers d.its_layers;
        same_rows = d.same_rows ∙ b.same_rows ∙ a.same_rows;
        same_loan = d.same_loan ∙ b.same_loan ∙ a.same_loan;
      };
    }
