use Rattle.std.proofs.Common.{refl, drop, vec_len}
use Rattle.book.specs.Books.{event_count}
use Rattle.calls.specs.Lists.{SomeOffice}
use Rattle.replay.specs.Whole.{Replay}
use Rattle.replay.specs.Replayed.{Replayed}
use Rattle.replay.proofs.Running.{both_ok, run_conserved, one_replay, replayed_is_run}
use Rattle.replay.proofs.whole.replay.Goals as goal

pub returns-clause-conserved : goal.returns-clause-conserved
returns-clause-conserved g c = run_conserved g.O.Kind.Share.kind (g.O.Office.layers c.args.office.now) c.lending_is_conserved.ensures.always c.args.book.now (g.O.Office.meaning c.args.office.now) (event_count c.args.book.now)

pub returns-clause-once : goal.returns-clause-once
returns-clause-once g c = λ follow. one_replay g.O.Kind.Share.kind g.O.Office (g.O.Office.layers c.args.office.now) follow c.args.book.now (g.O.Office.meaning c.args.office.now) (event_count c.args.book.now)

pub returns-clause-runs : goal.returns-clause-runs
returns-clause-runs g c = λ follow.
    let K = g.O.Kind.Share.kind in
    let ls = g.O.Office.layers c.args.office.now in
    let b = c.args.book.now in
    let s = g.O.Office.meaning c.args.office.now in
    let t = g.O.Office.meaning c.read_book.new.office in
    let faults = drop (vec_len c.args.faults.now) c.read_book.new.faults.items in
    both_ok c.read_book.result
    (λ finished. Replayed K (SomeOffice g.O.Office ls) b s (event_count b) faults finished.closed t)
    (λ finished. Replay K ls b s (event_count b) faults finished.closed t)
    (λ finished. replayed_is_run K g.O.Office ls follow b s (event_count b) faults finished.closed t (c.read_book.new.office, refl, c.read_book.ensures.keeps.same_layers))
    c.read_book.ensures.replays
