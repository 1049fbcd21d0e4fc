use Rattle.std.proofs.Common.{◌≡◌, ◌-◌, ◌++◌, vec_items}
use Rattle.rounds.specs.Loans.{loans_of, left_of}
use Rattle.rounds.proofs.round.lend.Given as goal

-- the loans so far and those to come are all the loans
abbrev pub invariant-loop-served : goal.invariant-loop-served
invariant-loop-served g l =
    let K = g.S.Share.kind in
    (vec_items l.loans ++ loans_of K (l.borrowers - l.served) l.left ≡ loans_of K l.borrowers l.initial.left)
    × (left_of K (l.borrowers - l.served) l.left ≡ left_of K l.borrowers l.initial.left)
