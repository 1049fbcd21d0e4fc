use Rattle.std.proofs.Common.{◌≡◌, ◌++◌, ◌∙◌, true, [], ◌∷◌, map, take, drop, ap, refl, sym, subst, arith, vec_len}
use Rattle.std.proofs.lemmas.List.{take_all, drop_all, take-append-le, drop-append-le}
use Rattle.office.proofs.Keeping.{none_keep, both_keep}
use Rattle.calls.specs.Lists.{SomeOffice}
use Rattle.replay.specs.Faults.{refused_event, refused_event_in}
use Rattle.replay.specs.Events.{next}
use Rattle.replay.specs.Whole.{one_or_none}
use Rattle.replay.specs.Quiet.{quiet}
use Rattle.replay.proofs.Running.{none_read, one_more, one_fault, no_fault}
use Rattle.replay.proofs.whole.read_events.Goals as goal
use Rattle.replay.proofs.whole.read_events.Goals.{in-Err, in_default}

pub loop-event-init : goal.loop-event-init
loop-event-init g c = record {
  so_far = rw (drop_all (vec_len c.args.faults.now) c.args.faults.now.items (omega arith)) (none_read g.O.Kind.Share.kind (SomeOffice g.O.Office (g.O.Office.layers c.args.office.now)) c.lending_is_conserved.ensures.always c.args.book.now (g.O.Office.meaning c.args.office.now) c.new-session.result.tallies c.new-session.ensures.counted);
  kept = take_all (vec_len c.args.faults.now) c.args.faults.now.items (omega arith);
  done = c.new-session.ensures.begins;
  grows = omega arith;
  few = omega arith;
  room = c.requires.room;
  idle = λ all. refl;
  keeps = none_keep g.O.Office c.args.office.now;
}

pub loop-event-preserved : goal.loop-event-preserved
loop-event-preserved g c =
    let inv = c.loop-event.invariant in
    let old = vec_len c.args.faults.now in
    let grows : map refused_event (drop old c.match-step.faults.items) ≡ map refused_event (drop old c.loop-event.faults.items) ++ one_or_none (refused_event_in c.step.result) = elim c.match-step.branch [
      | in-Err w ↦
          let pushed = rw w.unwrap.ensures at w.push.ensures.items in
          let more = ap (drop old) pushed ∙ drop-append-le old c.loop-event.faults.items (w.in-Err.fault ∷ []) (let k = inv.grows in omega arith) in
          rw w.faults-is (one_fault (drop old c.loop-event.faults.items) (drop old w.push.new.self.items) c.step.result w.in-Err.fault more w.in-Err.is)
      | in_default w ↦ rw w.faults-is (no_fault (drop old c.loop-event.faults.items) c.step.result w.in_default.not-Err)
    ] in
    let more = one_more g.O.Kind.Share.kind (SomeOffice g.O.Office (g.O.Office.layers c.args.office.now)) c.lending_is_conserved.ensures.always c.args.book.now (g.O.Office.meaning c.args.office.now) (g.O.Office.meaning c.loop-event.office) (g.O.Office.meaning c.step.new.office) c.args.events c.loop-event._event (drop old c.loop-event.faults.items) (drop old c.match-step.faults.items) c.loop-event.session c.step.new.self c.step.result c.requires.opens (let n = c.requires.counted in omega arith) inv.so_far inv.done (c.loop-event.office, refl, inv.keeps.same_layers) c.step.ensures.steps grows in
    record {
      so_far = more.0;
      kept = elim c.match-step.branch [
        | in-Err w ↦
            let pushed = rw w.unwrap.ensures at w.push.ensures.items in
            rw w.faults-is (ap (take old) pushed ∙ take-append-le old c.loop-event.faults.items (w.in-Err.fault ∷ []) (let k = inv.grows in omega arith) ∙ inv.kept)
        | in_default w ↦ rw w.faults-is inv.kept
      ];
      done = more.1;
      grows = elim c.match-step.branch [
        | in-Err w ↦ rw w.faults-is (let more = rw w.unwrap.ensures at w.push.ensures.len in omega arith)
        | in_default w ↦ rw w.faults-is (omega arith)
      ];
      few = elim c.match-step.branch [
        | in-Err w ↦ rw w.faults-is (let more = rw w.unwrap.ensures at w.push.ensures.len in omega arith)
        | in_default w ↦ rw w.faults-is (omega arith)
      ];
      room = elim c.match-step.branch [
        | in-Err w ↦ rw w.faults-is (omega (arith, w.push.ensures.capacity))
        | in_default w ↦ rw w.faults-is (omega arith)
      ];
      idle = λ all.
          let stays = inv.idle all in
          let here : quiet g.O.Kind.Share.kind (g.O.Office.meaning c.args.office.now) (next c.args.book.now c.loop-event.session.done) ≡ true = all c.loop-event.session.done (let d = inv.done in omega arith) in
          c.step.ensures.idle (subst (λ (o : g.row.O.Denot). quiet g.O.Kind.Share.kind (g.O.Office.meaning o) (next c.args.book.now c.loop-event.session.done) ≡ true) (sym stays) here) ∙ stays;
      keeps = both_keep g.O.Office _ _ _ inv.keeps c.step.ensures.keeps;
    }
