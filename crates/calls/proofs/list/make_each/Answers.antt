use Rattle.std.proofs.Common.{◌≡◌, arith, refl, sym, subst, get_or, ◌∙◌, IsSome, MatchOption}
use Rattle.std.proofs.lemmas.List.{take_more, take_all}
use Rattle.calls.specs.declared.call.Call.TheVariants.{Open}
use Rattle.office.proofs.Keeping.{none_keep, both_keep}
use Rattle.calls.specs.Values.{call_meant, answer_meant}
use Rattle.calls.specs.Lists.{SomeOffice, TooLarge, tallies_with}
use Rattle.std.proofs.Common.{true}
use Rattle.lending.specs.Perform.{perform}
use Rattle.lending.specs.Idle.{idle}
use Rattle.calls.proofs.Following.{list_played}
use Rattle.calls.proofs.Making.{none_made, one_more, few_closed, few_fit}
use Rattle.calls.proofs.list.make_each.Goals as goal

pub loop-call-init : goal.loop-call-init
loop-call-init g c = record {
  made = none_made g.O.Kind.Share.kind (SomeOffice g.O.Office (g.O.Office.layers c.args.office.now)) c.lending_is_conserved.ensures.always (g.O.Office.meaning c.args.office.now) c.default-tallies.result (omega arith);
  idle = λ all. refl;
  keeps = none_keep g.O.Office c.args.office.now;
}

pub unwrap-tallies-requires : goal.unwrap-tallies-requires
unwrap-tallies-requires g c =
    let K = g.O.Kind.Share.kind in
    let s = g.O.Office.meaning c.args.office.now in
    let u = g.O.Office.meaning c.make-answer.new.office in
    let call = get_or c.args.calls.now c.loop-call.call-index (Open 0 0) in
    let after = tallies_with c.loop-call.tallies (call_meant call) (answer_meant c.make-answer.result) in
    let made = one_more K (SomeOffice g.O.Office (g.O.Office.layers c.args.office.now)) c.make-answer.ensures.always s (g.O.Office.meaning c.loop-call.office) u _ call (answer_meant c.make-answer.result) c.loop-call.tallies c.loop-call.invariant.made c.make-answer.ensures.performs.does (c.loop-call.office, refl, c.loop-call.invariant.keeps.same_layers) in
    let few = few_closed K (SomeOffice g.O.Office (g.O.Office.layers c.args.office.now)) s u _ _ (g.O.Office.lawful c.args.office.now) (g.O.Office.lawful c.make-answer.new.office) _ _ made in
    subst IsSome (sym (few_fit c.counted.result after c.counted.ensures (omega arith))) refl

pub loop-call-preserved : goal.loop-call-preserved
loop-call-preserved g c =
    let K = g.O.Kind.Share.kind in
    let s = g.O.Office.meaning c.args.office.now in
    let u = g.O.Office.meaning c.make-answer.new.office in
    let call = get_or c.args.calls.now c.loop-call.call-index (Open 0 0) in
    let after = tallies_with c.loop-call.tallies (call_meant call) (answer_meant c.make-answer.result) in
    let is : c.unwrap-tallies.result ≡ after = subst (λ r. MatchOption r (TooLarge after) (λ x. x ≡ after)) c.unwrap-tallies.ensures c.counted.ensures in
    let made = one_more K (SomeOffice g.O.Office (g.O.Office.layers c.args.office.now)) c.make-answer.ensures.always s (g.O.Office.meaning c.loop-call.office) u _ call (answer_meant c.make-answer.result) c.loop-call.tallies c.loop-call.invariant.made c.make-answer.ensures.performs.does (c.loop-call.office, refl, c.loop-call.invariant.keeps.same_layers) in
    record {
      idle = λ all.
          let stays = c.loop-call.invariant.idle all in
          c.make-answer.ensures.idle (subst (λ (o : g.row.O.Denot). idle (perform K (g.O.Office.meaning o) (call_meant call)) ≡ true) (sym stays) (all c.loop-call.call-index (Open 0 0) c.loop-call-test.true)) ∙ stays;
      made = rw (take_more c.args.calls.now c.loop-call.call-index (Open 0 0) c.loop-call-test.true, is) made;
      keeps = both_keep g.O.Office _ _ _ c.loop-call.invariant.keeps c.make-answer.ensures.performs.keeps;
    }

pub returns-clause-played : goal.returns-clause-played
returns-clause-played g c =
    list_played g.O.Kind.Share.kind g.O.Office c.args.office.now c.loop-call.office c.args.calls.now c.loop-call.tallies
    (rw (take_all c.loop-call.call-index c.args.calls.now c.loop-call-test.false) at c.loop-call.invariant.made) c.loop-call.invariant.keeps.same_layers
