use Rattle.std.proofs.Common.{◌++◌, map, vec_capacity, Ok, Err, sym, ◌∙◌, append_assoc}
use Rattle.lines.specs.Lines.{total_line}
use Rattle.replay.specs.Faults.{refused_event}
use Rattle.printout.specs.Contents.{lease_entries, totals_of, contents_opened, printout_bytes}
use Rattle.printout.proofs.Bytes.{refusal_bytes, lease_bytes, three_parts}
use Rattle.printout.proofs.Added.{adds_then, adds_err}
use Rattle.printout.proofs.Reading.{leases_readable, on_ok}
use Rattle.printout.proofs.books.add_lines.Goals as goal

pub returns-in_err-add_leases-clause-adds : goal.returns-in_err-add_leases-clause-adds
returns-in_err-add_leases-clause-adds g c =
    let t = g.O.Office.meaning c.args.office.now in
    let refused = refusal_bytes (map refused_event c.args.faults.now) in
    let live = lease_bytes (lease_entries g.O.Kind.Share.kind g.O.Kind.Printed.text t.core.roll) in
    let totals = total_line (totals_of c.args.tallies t) in
    let p = contents_opened g.O.Kind.Share.kind g.O.Kind.Printed.text (map refused_event c.args.faults.now) c.args.tallies t in
    let both = adds_then c.args.out.now.items c.add_refusals.new.out.items c.add_leases.new.out.items refused live (vec_capacity c.args.out.now) (vec_capacity c.add_refusals.new.out) (vec_capacity c.add_leases.new.out) _ (Err c.in_err-add_leases.field-0.0) c.in_ok-add_refusals.ensures.adds c.in_err-add_leases.ensures in
    adds_err c.args.out.now.items c.add_leases.new.out.items (refused ++ live) totals (printout_bytes p) (vec_capacity c.args.out.now) (vec_capacity c.add_leases.new.out) c.in_err-add_leases.field-0.0 c.from_residual-in_err-add_leases.result c.from_residual-in_err-add_leases.ensures.0 (sym (three_parts p)) both

pub returns-clause-adds : goal.returns-clause-adds
returns-clause-adds g c =
    let t = g.O.Office.meaning c.args.office.now in
    let refused = refusal_bytes (map refused_event c.args.faults.now) in
    let live = lease_bytes (lease_entries g.O.Kind.Share.kind g.O.Kind.Printed.text t.core.roll) in
    let totals = total_line (totals_of c.args.tallies t) in
    let p = contents_opened g.O.Kind.Share.kind g.O.Kind.Printed.text (map refused_event c.args.faults.now) c.args.tallies t in
    let both = adds_then c.args.out.now.items c.add_refusals.new.out.items c.add_leases.new.out.items refused live (vec_capacity c.args.out.now) (vec_capacity c.add_refusals.new.out) (vec_capacity c.add_leases.new.out) _ (Ok c.in_ok-add_leases.field-0) c.in_ok-add_refusals.ensures.adds c.in_ok-add_leases.ensures in
    rw (three_parts p) (adds_then c.args.out.now.items c.add_leases.new.out.items c.add_totals.new.out.items (refused ++ live) totals (vec_capacity c.args.out.now) (vec_capacity c.add_leases.new.out) (vec_capacity c.add_totals.new.out) _ c.add_totals.result both c.add_totals.ensures.adds)

pub returns-clause-readable : goal.returns-clause-readable
returns-clause-readable g c =
    let s = g.O.Office.meaning c.args.office.now in
    on_ok c.add_totals.result (record {
      refusals = c.in_ok-add_refusals.ensures.readable;
      leases = leases_readable g.O.Kind.Share.kind g.O.Kind.Printed.text g.met.O.Kind.Printed.on_a_line s (g.O.Office.rows c.args.office.now) (g.O.Office.lawful c.args.office.now);
      totals = c.add_totals.ensures.readable;
      whole = tt;
    })

pub returns-in_err-add_refusals-clause-adds : goal.returns-in_err-add_refusals-clause-adds
returns-in_err-add_refusals-clause-adds g c =
    let t = g.O.Office.meaning c.args.office.now in
    let refused = refusal_bytes (map refused_event c.args.faults.now) in
    let live = lease_bytes (lease_entries g.O.Kind.Share.kind g.O.Kind.Printed.text t.core.roll) in
    let totals = total_line (totals_of c.args.tallies t) in
    let p = contents_opened g.O.Kind.Share.kind g.O.Kind.Printed.text (map refused_event c.args.faults.now) c.args.tallies t in
    adds_err c.args.out.now.items c.add_refusals.new.out.items refused (live ++ totals) (printout_bytes p) (vec_capacity c.args.out.now) (vec_capacity c.add_refusals.new.out) c.in_err-add_refusals.field-0.0 c.from_residual.result c.from_residual.ensures.0 (sym (append_assoc refused live totals) ∙ sym (three_parts p)) c.in_err-add_refusals.ensures.adds
