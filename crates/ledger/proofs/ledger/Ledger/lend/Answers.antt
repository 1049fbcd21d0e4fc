use Rattle.std.proofs.Common.{◌+◌, ◌≤◌, ◌||◌, leb, ltb, [], ◌∷◌, ◌++◌, take, sym, refl, subst, arith}
use Rattle.std.proofs.lemmas.Bool.{or_parts, ltb-false}
use Rattle.lending.specs.Office.{Core}
use Rattle.lending.specs.Orderly.{Orderly}
use Rattle.lending.specs.Roll.{with_share}
use Rattle.lending.proofs.Order.{share_stays, orderly_so, orderly_lent}
use Rattle.ledger.proofs.Steps.{after, rewritten, rewrote}
use Rattle.lending.specs.Calls.{lent_lease}
use Rattle.ledger.proofs.ledger.Ledger.lend.Goals as goal

pub rewrite-requires : goal.rewrite-requires
rewrite-requires g c = rewritten c.args.self.now c.args.lender.number c.args.lender (with_share c.args.kept) (share_stays c.args.kept) c.requires.live

pub issue-requires-clause-orderly : goal.issue-requires-clause-orderly
issue-requires-clause-orderly g c =
    let l = c.args.self.now in
    let x = c.args.lender in
    let h = c.args.holder in
    let d = c.args.due in
    let v = c.args.kept in
    let w = c.args.lent in
    let parts = (or_parts (leb d l.today) (ltb x.due d || ltb 9999 d) c.requires.due).1 in
    let by : d ≤ x.due = ltb-false x.due d (or_parts (ltb x.due d) (ltb 9999 d) parts).0 in
    let last : d ≤ 9999 = ltb-false 9999 d (or_parts (ltb x.due d) (ltb 9999 d) parts).1 in
    let kept = rewrote l c.rewrite.new.self x.number x (with_share v) c.requires.live (with_share v x) refl refl c.rewrite.ensures in
    subst (λ (k : Core g.row.S.Denot). ∥ Orderly (k.roll ++ (lent_lease (k.issued + 1) x h d w ∷ [])) (k.issued + 1) ∥₁) (sym kept.core)
    (orderly_so (take l.count l.rows.now) _ _ l.issued (l.issued + 1) l.orderly refl (orderly_lent x.number h d x v w (take l.count l.rows.now) l.issued c.requires.live c.requires.holder (omega arith) by))

pub returns-clause-stands : goal.returns-clause-stands
returns-clause-stands g c =
    let l = c.args.self.now in
    let x = c.args.lender in
    let v = c.args.kept in
    let add : Core g.row.S.Denot → Core g.row.S.Denot = λ k. record k { roll = k.roll ++ (lent_lease (k.issued + 1) x c.args.holder c.args.due c.args.lent ∷ []); issued = k.issued + 1 } in
    after add c.issue.ensures.stands (rewrote l c.rewrite.new.self x.number x (with_share v) c.requires.live (with_share v x) refl refl c.rewrite.ensures)
