use Rattle.std.proofs.Common.{◌≡◌, [], ◌∷◌, Some, vec_items, sym, refl, ◌∙◌, ap₂, inl, inr}
use Rattle.std.proofs.lemmas.Slice.{pushed}
use Rattle.shares.specs.Joins.{together}
use Rattle.rounds.specs.Loans.{loans_of, left_of, lent_shares}
use Rattle.rounds.proofs.Shared.{turn, ended, sum_is, joins_are}
use Rattle.rounds.proofs.round.lend.Goals as goal
use Rattle.rounds.proofs.round.lend.Goals.{else-loop-served-test, then-loop-served-test+in_default}

pub loop-served-preserved : goal.loop-served-preserved
loop-served-preserved g c =
    turn g.S.Share.kind c.args.borrowers c.loop-served.served c.args.share c.loop-served.left c.in-Some.halves
    (vec_items c.loop-served.loans) (vec_items c.push.new.self) c.loop-served-test.true (sym c.halve.ensures ∙ c.in-Some.is)
    (pushed {was = vec_items c.loop-served.loans} (record { lent = c.in-Some.halves.1; kept = c.in-Some.halves.0 } ∷ []) refl c.in_ok-push.was c.push.ensures.items) c.loop-served.invariant

pub returns : goal.returns
returns g c =
    let K = g.S.Share.kind in
    let L = g.met.S.Share.laws in
    let n = c.args.borrowers in
    let s = c.args.share in
    let left = c.loop-served.left in
    let loans = vec_items c.loop-served.loans in
    let out : (loans ≡ loans_of K n s) × (left ≡ left_of K n s) =
    elim c.loop-served-test.branch [
      | else-loop-served-test w ↦ ended K n c.loop-served.served s left loans (inl w.loop-served-test.false) c.loop-served.invariant
      | then-loop-served-test+in_default w ↦ ended K n c.loop-served.served s left loans (inr (sym w.halve.ensures ∙ w.in_default.is)) c.loop-served.invariant
    ] in
    let sum : together K (left ∷ lent_shares loans) ≡ Some s = ap₂ (λ l xs. together K (l ∷ lent_shares xs)) out.1 out.0 ∙ sum_is K L n s in
    record { lent = record { loans = out.0; left = out.1 }; joins = joins_are K L (left ∷ lent_shares loans) s sum; sum = sum }
