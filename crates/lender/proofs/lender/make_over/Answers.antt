use Rattle.std.proofs.Common.{ap, sym, ◌∙◌}
use Rattle.lending.specs.Office.{State}
use Rattle.lender.proofs.Piling.{played_there, roll_there}
use Rattle.lender.proofs.lender.make_over.Goals as goal

pub returns-clause-played : goal.returns-clause-played
returns-clause-played g c = played_there g.O.Kind.Share.kind _ _ _ _ _ c.args.calls.now c.make_piled-tallies.result c.house_pile-office.ensures.piled.its_layers c.house_pile-office.ensures.piled.stands c.make_piled-tallies.ensures.played

pub returns-clause-roll : goal.returns-clause-roll
returns-clause-roll g c =
    let up = λ (s : State g.row.O-Kind.Denot). s.core.roll in
    sym (ap up c.into_below-3.ensures.covers.stands) ∙ sym (ap up c.into_below-2.ensures.covers.stands) ∙ sym (ap up c.into_below.ensures.covers.stands)
    ∙ roll_there g.O.Kind.Share.kind _ _ _ _ _ c.args.calls.now c.make_piled-tallies.result c.house_pile-office.ensures.piled.its_layers c.house_pile-office.ensures.piled.stands c.make_piled-tallies.ensures.played
