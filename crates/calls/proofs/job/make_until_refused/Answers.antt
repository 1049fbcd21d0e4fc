use Rattle.std.proofs.Common.{◌≡◌, ◌+◌, true, arith, refl, sym, subst, get_or, take, drop, ◌∙◌, IsSome, MatchOption, Ok}
use Rattle.std.proofs.lemmas.List.{take_more, take_all, drop_more, drop_all}
use Rattle.lending.specs.Perform.{perform}
use Rattle.lending.specs.Idle.{idle}
use Rattle.calls.specs.declared.call.Call.TheVariants.{Open}
use Rattle.office.proofs.Keeping.{none_keep, both_keep}
use Rattle.calls.specs.Values.{call_meant, answer_meant}
use Rattle.calls.specs.Lists.{SomeOffice, TooLarge, tallies_with}
use Rattle.calls.proofs.Jobs.{none_so_far, one_so_far, stopped, all_made, ok_unrefused}
use Rattle.calls.proofs.Making.{few_closed, few_fit}
use Rattle.calls.proofs.job.make_until_refused.Goals as goal

pub loop-call-init : goal.loop-call-init
loop-call-init g c = record {
  many = refl;
  so_far = none_so_far g.O.Kind.Share.kind g.O.Office c.args.office.now c.lending_is_conserved.ensures.always c.args.calls.now c.default-tallies.result (omega arith);
  idle = λ all. refl;
  keeps = none_keep g.O.Office c.args.office.now;
}

pub unwrap-tallies-requires : goal.unwrap-tallies-requires
unwrap-tallies-requires g c =
    let K = g.O.Kind.Share.kind in
    let calls = c.args.calls.now in
    let i = c.loop-call.call-index in
    let call = get_or calls i (Open 0 0) in
    let a = answer_meant (Ok c.in-Ok.answer) in
    let so = rw (drop_more calls i (Open 0 0) c.loop-call-test.true) at c.loop-call.invariant.so_far in
    let next = one_so_far K g.O.Office c.args.office.now c.make.ensures.always calls i (take i calls) call (drop (i + 1) calls) c.loop-call.tallies c.loop-call.office c.make.new.office so c.loop-call.invariant.keeps.same_layers (c.make.ensures.performs.keeps.same_layers ∙ c.loop-call.invariant.keeps.same_layers) a c.in-Ok.ensures.performs.does (ok_unrefused c.in-Ok.answer) in
    let few = few_closed K (SomeOffice g.O.Office (g.O.Office.layers c.args.office.now)) (g.O.Office.meaning c.args.office.now) (g.O.Office.meaning c.make.new.office) _ _ (g.O.Office.lawful c.args.office.now) (g.O.Office.lawful c.make.new.office) _ _ next.made in
    subst IsSome (sym (few_fit c.counted.result (tallies_with c.loop-call.tallies (call_meant call) a) c.counted.ensures (omega arith))) refl

pub returns-in-Err-clause-until : goal.returns-in-Err-clause-until
returns-in-Err-clause-until g c =
    let calls = c.args.calls.now in
    let i = c.loop-call.call-index in
    let call = get_or calls i (Open 0 0) in
    let so = rw (drop_more calls i (Open 0 0) c.loop-call-test.true) at c.loop-call.invariant.so_far in
    rw c.loop-call.invariant.many (stopped g.O.Kind.Share.kind g.O.Office c.args.office.now c.make.ensures.always calls i (take i calls) call (drop (i + 1) calls) c.loop-call.tallies c.loop-call.office c.make.new.office so c.loop-call.invariant.keeps.same_layers (c.make.ensures.performs.keeps.same_layers ∙ c.loop-call.invariant.keeps.same_layers)
    c.in-Err.refusal c.in-Err.ensures.performs.does c.loop-call-test.true (sym (take_more calls i (Open 0 0) c.loop-call-test.true)))

pub returns-in-Err-clause-idle : goal.returns-in-Err-clause-idle
returns-in-Err-clause-idle g c all = (let stays = c.loop-call.invariant.idle all in
    c.make.ensures.idle (subst (λ (o : g.row.O.Denot). idle (perform g.O.Kind.Share.kind (g.O.Office.meaning o) (call_meant (get_or c.args.calls.now c.loop-call.call-index (Open 0 0)))) ≡ true) (sym stays) (all c.loop-call.call-index (Open 0 0) c.loop-call-test.true)) ∙ stays)

pub loop-call-preserved : goal.loop-call-preserved
loop-call-preserved g c =
    let K = g.O.Kind.Share.kind in
    let calls = c.args.calls.now in
    let i = c.loop-call.call-index in
    let call = get_or calls i (Open 0 0) in
    let a = answer_meant (Ok c.in-Ok.answer) in
    let after = tallies_with c.loop-call.tallies (call_meant call) a in
    let is : c.unwrap-tallies.result ≡ after = subst (λ r. MatchOption r (TooLarge after) (λ x. x ≡ after)) c.unwrap-tallies.ensures c.counted.ensures in
    let so = rw (drop_more calls i (Open 0 0) c.loop-call-test.true) at c.loop-call.invariant.so_far in
    let layers = c.make.ensures.performs.keeps.same_layers ∙ c.loop-call.invariant.keeps.same_layers in
    let next = one_so_far K g.O.Office c.args.office.now c.make.ensures.always calls i (take i calls) call (drop (i + 1) calls) c.loop-call.tallies c.loop-call.office c.make.new.office so c.loop-call.invariant.keeps.same_layers layers a c.in-Ok.ensures.performs.does (ok_unrefused c.in-Ok.answer) in
    record {
      many = omega arith;
      so_far = rw (take_more calls i (Open 0 0) c.loop-call-test.true, is) next;
      idle = λ all. (let stays = c.loop-call.invariant.idle all in
          c.make.ensures.idle (subst (λ (o : g.row.O.Denot). idle (perform g.O.Kind.Share.kind (g.O.Office.meaning o) (call_meant (get_or c.args.calls.now c.loop-call.call-index (Open 0 0)))) ≡ true) (sym stays) (all c.loop-call.call-index (Open 0 0) c.loop-call-test.true)) ∙ stays);
      keeps = both_keep g.O.Office _ _ _ c.loop-call.invariant.keeps c.make.ensures.performs.keeps;
    }

pub returns-clause-until : goal.returns-clause-until
returns-clause-until g c =
    let calls = c.args.calls.now in
    let i = c.loop-call.call-index in
    all_made g.O.Kind.Share.kind g.O.Office c.args.office.now calls i c.loop-call.tallies c.loop-call.office (omega arith)
    (rw (take_all i calls c.loop-call-test.false, drop_all i calls c.loop-call-test.false) at c.loop-call.invariant.so_far)
