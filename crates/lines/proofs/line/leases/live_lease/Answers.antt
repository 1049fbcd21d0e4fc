use Rattle.std.proofs.Common.{refl, ap, ◌∙◌}
use Rattle.std.specs.Option.{ok_or, unwrap_or}
use Rattle.lending.specs.Above.{standing_of}
use Rattle.lines.specs.declared.reason.LineReason.TheVariants.{NoSuchPosition}
use Rattle.lines.specs.Lines.{holder_may_write}
use Rattle.lines.proofs.Lengths.{lines_short}
use Rattle.lines.proofs.Reading.{lease_there}
use Rattle.lines.proofs.line.leases.live_lease.Goals as goal

pub returns : goal.returns
returns g c =
    let K = g.O.Kind.Share.kind in
    let s = g.O.Office.meaning c.args.office.now in
    record {
      is = c.ok_or.ensures.value ∙ ap (λ o. ok_or o NoSuchPosition) (c.ok.ensures.value ∙ lease_there K s s c.args.position c.lease_at.result c.lease_at.ensures.tells);
      short = lines_short K g.O.Kind.Printed.text g.met.O.Kind.Printed.short s (g.O.Office.rows c.args.office.now) (g.O.Office.lawful c.args.office.now);
      letters = λ l live.
          c.lending_is_conserved.ensures.standings s l.resource l.holder (unwrap_or (standing_of K s.core.roll l.resource l.holder) K.empty) (holder_may_write K s.core.roll l) (refl, refl)
          (g.met.O.Kind.Share.laws.same_tells _ _);
    }
