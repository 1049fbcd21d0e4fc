use Rattle.std.proofs.Common.{◌≡◌, ℕ, List, [], ◌∷◌, length, reverse, refl, sym, ap, ◌∙◌, arith}
use Rattle.std.proofs.lemmas.List.{reverse-append}
use Rattle.lending.specs.Above.{yields}
use Rattle.lending.specs.Answers.{done_or_refused}
use Rattle.lending.proofs.Going.{objecting, yields_on, no_yields}
use Rattle.office.proofs.Keeping.{none_keep, both_keep}
use Rattle.desk.proofs.sweep.yield_down.Goals as goal

none_left : (xs : List ℕ) → length xs ≡ 0 → xs ≡ []
none_left [] e = refl
none_left (x ∷ xs) e = absurd (omega arith)

pub loop-number-init : goal.loop-number-init
loop-number-init g c =
    let K = g.O.Kind.Share.kind in
    let s = g.O.Office.meaning c.args.office.now in
    let e : c.into_iter-number-iterator.result.iter.rest.now ≡ c.args.numbers.now = ap (λ i. i.iter.rest.now) c.into_iter-number-iterator.ensures.into_iter_gives ∙ ap (λ i. i.rest.now) c.rev-number-items.ensures.source ∙ c.iter.ensures.rest in
    (λ u h. (u, ap (λ (ns : List ℕ). yields K s (reverse ns)) e ∙ h, refl), none_keep g.O.Office c.args.office.now)

pub loop-number-preserved : goal.loop-number-preserved
loop-number-preserved g c =
    let K = g.O.Kind.Share.kind in
    let s = g.O.Office.meaning c.loop-number.office in
    let t = g.O.Office.meaning c.yield_lease.new.self in
    let n = c.in-Some.number.now in
    let rest = c.next.new.self.iter.rest.now in
    let r : reverse c.loop-number.number-iterator.iter.rest.now ≡ n ∷ reverse rest = ap reverse c.in-Some.ensures.steps ∙ reverse-append rest (n ∷ []) in (
      λ u h.
          let v = c.loop-number.invariant.0 u h in
          (objecting K t v.0, yields_on K n (reverse rest) s t v.0 (done_or_refused c.yield_lease.result) (ap (yields K s) (sym r) ∙ v.1) c.yield_lease.ensures.does, v.2),
      both_keep g.O.Office _ _ _ c.loop-number.invariant.1 c.yield_lease.ensures.keeps,
    )

pub returns-clause-leaves : goal.returns-clause-leaves
returns-clause-leaves g c u h =
    let K = g.O.Kind.Share.kind in
    let s = g.O.Office.meaning c.loop-number.office in
    let v = c.loop-number.invariant.0 u h in
    let e : reverse c.loop-number.number-iterator.iter.rest.now ≡ [] = ap reverse (none_left c.loop-number.number-iterator.iter.rest.now c.in-None.ensures.steps.0) in
    no_yields K s v.0 (ap (yields K s) (sym e) ∙ v.1) ∙ v.2

pub returns-clause-keeps : goal.returns-clause-keeps
returns-clause-keeps g c = c.loop-number.invariant.1
