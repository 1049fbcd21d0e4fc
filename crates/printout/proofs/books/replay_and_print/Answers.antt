use Rattle.std.proofs.Common.{◌≡◌, None, Some, IfOk, OnOk, OnErr, List, ℕ, inl, inr, drop, map, vec_len, vec_capacity, refl, sym, ap, ◌∙◌, subst, arith}
use Rattle.book.specs.Books.{opening, event_count}
use Rattle.replay.specs.Faults.{refused_event, refused_event_in}
use Rattle.replay.specs.Whole.{Replay, opening_refused}
use Rattle.printout.specs.Adds.{AddsTo}
use Rattle.printout.specs.Books.{book_contents}
use Rattle.printout.specs.Contents.{Contents, printout_bytes}
use Rattle.printout.specs.Readable.{IsReadable}
use Rattle.printout.proofs.Added.{adds_room}
use Rattle.printout.proofs.Adding.{drop_none}
use Rattle.printout.proofs.Reading.{on_ok, on_err}
use Rattle.printout.proofs.Whole.{replay_shows, opened_leaves, opened_refuses, not_refused, refusal_text, unopened_shows, unopened_leaves, unopened_refuses}
use Rattle.printout.proofs.books.replay_and_print.Goals as goal

pub returns-in-Ok-clause-printed : goal.returns-in-Ok-clause-printed
returns-in-Ok-clause-printed g c =
    let K = g.O.Kind.Share.kind in
    let layers = g.O.Office.layers c.args.office.now in
    let text = g.O.Kind.Printed.text in
    let b = c.args.book.now in
    let s = g.O.Office.meaning c.args.office.now in
    let t = g.O.Office.meaning c.replay.new.office in
    let n = vec_len c.args.faults.now in
    let all = c.replay.new.faults.items in
    let read = c.in_ok-finished.ensures.reads in
    let opens : None ≡ opening_refused (opening b) = sym (ap refused_event_in c.in-Ok.is) ∙ read.opens in
    let replayed : Replay K layers b s (event_count b) (drop n all) c.in-Ok.finished.closed t = subst (λ o. IfOk o (λ finished. Replay K layers b s (event_count b) (drop n all) finished.closed t)) c.in-Ok.is (c.in_ok-finished.ensures.runs g.met.O.Piled.follow) in
    let shows = replay_shows K layers text b s opens all c.deref.result.now n c.len-earlier.result c.in-Ok.finished.closed c.tallies.result t c.deref.ensures.value c.len-earlier.ensures c.tallies.ensures replayed in
    let adds = subst (λ p. AddsTo c.args.out.now (printout_bytes p) c.add_lines.result c.add_lines.new.out) shows c.add_lines.ensures.adds in
    let leaves = opened_leaves K layers text b s (opening b) opens t replayed.leaves in
    record {
      prints = adds.ok;
      readable = subst (λ (p : Contents). OnOk c.add_lines.result (IsReadable p)) shows c.add_lines.ensures.readable;
      refused = on_ok c.add_lines.result (opened_refuses K layers text b s (opening b) opens _ replayed.refused);
      leaves = on_ok c.add_lines.result leaves;
      begins = adds.begins;
      kept = read.kept;
      unopened = not_refused (opening b) opens;
      idle = read.idle;
      no_memory = on_err c.add_lines.result (inr leaves);
      replayed = λ fit. leaves;
      room = λ fit fits. adds_room c.args.out.now.items c.add_lines.new.out.items (printout_bytes (book_contents K g.O.Office text b c.args.office.now)) (vec_len c.args.out.now) (vec_capacity c.args.out.now) (vec_capacity c.add_lines.new.out) c.add_lines.result adds c.args.out.now.ok.0 fits;
      keeps = read.keeps;
    }

pub returns-in-Err-clause-printed : goal.returns-in-Err-clause-printed
returns-in-Err-clause-printed g c =
    let K = g.O.Kind.Share.kind in
    let layers = g.O.Office.layers c.args.office.now in
    let text = g.O.Kind.Printed.text in
    let b = c.args.book.now in
    let s = g.O.Office.meaning c.args.office.now in
    let was = c.args.faults.now in
    let fault = refused_event c.in-Err.fault in
    let read = c.in_ok-finished.ensures.reads in
    let opens : Some fault ≡ opening_refused (opening b) = sym (ap refused_event_in c.in-Err.is) ∙ read.opens in
    let same = subst (λ o. OnErr o ((c.replay.new.office ≡ c.args.office.now) × (c.replay.new.faults ≡ was))) c.in-Err.is read.same in
    let adds = subst (λ (bytes : List ℕ). AddsTo c.args.out.now bytes c.add_refusal.result c.add_refusal.new.out) (refusal_text fault ∙ ap printout_bytes (unopened_shows K layers text b s (opening b) fault opens)) c.add_refusal.ensures.adds in
    let leaves = ap g.O.Office.meaning same.0 ∙ unopened_leaves K layers text b s (opening b) fault opens in
    record {
      prints = adds.ok;
      readable = on_ok c.add_refusal.result (subst IsReadable (unopened_shows K layers text b s (opening b) fault opens) (record { refusals = (c.add_refusal.ensures.readable, tt); leases = tt; totals = tt; whole = refl }));
      refused = on_ok c.add_refusal.result (ap (λ v. map refused_event (drop (vec_len was) v.items)) same.1 ∙ ap (map refused_event) (drop_none was.items (vec_len was) (let e = was.ok.0 in omega (arith, e))) ∙ unopened_refuses K layers text b s (opening b) fault opens);
      leaves = on_ok c.add_refusal.result leaves;
      begins = adds.begins;
      kept = read.kept;
      unopened = λ e. same;
      idle = λ quiet. same.0;
      no_memory = on_err c.add_refusal.result (inl same.0);
      replayed = λ fit. leaves;
      room = λ fit fits. adds_room c.args.out.now.items c.add_refusal.new.out.items (printout_bytes (book_contents K g.O.Office text b c.args.office.now)) (vec_len c.args.out.now) (vec_capacity c.args.out.now) (vec_capacity c.add_refusal.new.out) c.add_refusal.result adds c.args.out.now.ok.0 fits;
      keeps = read.keeps;
    }
