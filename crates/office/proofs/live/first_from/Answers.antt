use Rattle.std.proofs.Common.{sym, subst, arith}
use Rattle.office.proofs.Reading.{First, first_lease, first_within}
use Rattle.office.proofs.live.first_from.Goals as goal

pub returns : goal.returns
returns g c =
    let s = g.O.Office.meaning c.args.office.now in
    let i = c.args.position in
    let first = subst (First i s.core.roll) (sym c.ok.ensures.value) (first_lease g.O.Kind.Share.kind s s i c.lease_at.result c.lease_at.ensures) in
    let l = g.O.Office.lawful c.args.office.now in
    record {
      comes = first;
      within = λ h. let n = first_within i s.core.roll c.ok.result first h in omega (arith, l.fits, l.capacity);
    }
