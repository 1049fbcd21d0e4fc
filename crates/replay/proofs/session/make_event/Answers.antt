use Rattle.std.proofs.Common.{◌≡◌, arith, refl, sym, subst, Ok, IsSome, MatchOption}
use Rattle.calls.specs.Values.{call_meant, answer_meant}
use Rattle.calls.specs.Lists.{TooLarge, tallies_with}
use Rattle.calls.proofs.Making.{few_fit}
use Rattle.replay.proofs.Few.{few_more}
use Rattle.replay.proofs.session.make_event.Goals as goal

pub unwrap-after-requires : goal.unwrap-after-requires
unwrap-after-requires g c =
    let after = tallies_with c.args.tallies (call_meant c.call_of-call.result) (answer_meant (Ok c.in_ok-answer.answer)) in
    let few = few_more g.O.Kind.Share.kind _ _ _ (g.O.Office.lawful c.args.office.now) _ _ c.args.tallies c.in_ok-answer.ensures.performs.does in
    subst IsSome (sym (few_fit c.counted.result after c.counted.ensures (omega arith))) refl

pub returns-clause-few : goal.returns-clause-few
returns-clause-few g c =
    let after = tallies_with c.args.tallies (call_meant c.call_of-call.result) (answer_meant (Ok c.in_ok-answer.answer)) in
    let few = few_more g.O.Kind.Share.kind _ _ _ (g.O.Office.lawful c.args.office.now) _ _ c.args.tallies c.in_ok-answer.ensures.performs.does in
    let is : c.unwrap-after.result ≡ after = subst (λ r. MatchOption r (TooLarge after) (λ x. x ≡ after)) c.unwrap-after.ensures c.counted.ensures in
    rw is few
