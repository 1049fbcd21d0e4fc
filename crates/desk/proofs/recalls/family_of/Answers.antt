use Rattle.std.proofs.Common.{◌≡◌, Bool, true, ◌||◌, ◌++◌, sym, ap, ◌∙◌, ap₂, subst, eqb, arith}
use Rattle.std.specs.List.{list_any}
use Rattle.std.specs.List.Sorted.{IsNonDecreasing}
use Rattle.std.proofs.lemmas.Bool.{eq-eqb, ne_eqb}
use Rattle.lending.specs.Roll.{under}
use Rattle.office.specs.ToCome.{leases_to_come}
use Rattle.desk.proofs.Marking.{in_it, begins, noted, passed, ended, room, next_mark, marks_rise}
use Rattle.desk.proofs.recalls.family_of.Goals as goal
use Rattle.desk.proofs.recalls.family_of.Goals.{then-lease-top-via-then-lease-top, then-lease-top-via-else-lease-top+then-has}

pub loop-lease-init : goal.loop-lease-init
loop-lease-init g c =
    let roll = (g.O.Office.meaning c.args.office.now).core.roll in
    begins (in_it roll c.args.top) roll (leases_to_come g.O.Office.meaning c.into_iter-lease-iterator.result) c.new-numbers.result.items
    (ap (leases_to_come g.O.Office.meaning) c.into_iter-lease-iterator.ensures.into_iter_gives ∙ c.leases-lease-items.ensures) c.new-numbers.ensures

pub has-requires : goal.has-requires
has-requires g c =
    let s = g.O.Office.meaning c.args.office.now in
    let o = (g.O.Office.lawful c.args.office.now).orderly in
    subst IsNonDecreasing (sym (c.as_slice.ensures.value ∙ c.loop-lease.invariant.1)) (marks_rise g.O.Kind.Share.kind s o c.args.top c.requires c.loop-lease.yielded (leases_to_come g.O.Office.meaning c.loop-lease.lease-iterator) c.loop-lease.invariant.0)

pub push-requires : goal.push-requires
push-requires g c =
    let roll = (g.O.Office.meaning c.args.office.now).core.roll in
    let law = g.O.Office.lawful c.args.office.now in
    let less = room (in_it roll c.args.top) roll c.loop-lease.yielded c.in-Some.lease (leases_to_come g.O.Office.meaning c.next.new.self) (leases_to_come g.O.Office.meaning c.loop-lease.lease-iterator) c.loop-lease.numbers.items c.in-Some.ensures.steps c.loop-lease.invariant in
    (omega arith, omega (arith, law.fits, law.capacity))

pub loop-lease-preserved-in-loop-lease : goal.loop-lease-preserved-in-loop-lease
loop-lease-preserved-in-loop-lease g c =
    let K = g.O.Kind.Share.kind in
    let s = g.O.Office.meaning c.args.office.now in
    let o = (g.O.Office.lawful c.args.office.now).orderly in
    let x = c.in-Some.lease in
    let rest = leases_to_come g.O.Office.meaning c.next.new.self in
    let front = c.loop-lease.yielded in
    let at = ap (λ ls. front ++ ls) (sym c.in-Some.ensures.steps) ∙ c.loop-lease.invariant.0 in
    let told : in_it s.core.roll c.args.top x ≡ true = elim c.then-lease-top.branch [
      | then-lease-top-via-then-lease-top w ↦ ap (λ (b : Bool). b || under s.core.roll x.number c.args.top) (eq-eqb x.number c.args.top w.if-lease-top.true)
      | then-lease-top-via-else-lease-top+then-has w ↦ next_mark K s o c.args.top c.requires front x rest at
          ∙ ap₂ (λ (a b : Bool). a || b) (ne_eqb x.number c.args.top w.if-lease-top.false) (ap (list_any (λ n. eqb n x.lender)) (sym (w.as_slice.ensures.value ∙ c.loop-lease.invariant.1)) ∙ sym w.has.ensures ∙ w.if-has.true)
    ] in
    noted (in_it s.core.roll c.args.top) s.core.roll front x rest (leases_to_come g.O.Office.meaning c.loop-lease.lease-iterator) c.loop-lease.numbers.items c.push.new.self.items c.in-Some.ensures.steps c.loop-lease.invariant told c.push.ensures.items

pub loop-lease-preserved : goal.loop-lease-preserved
loop-lease-preserved g c =
    let K = g.O.Kind.Share.kind in
    let s = g.O.Office.meaning c.args.office.now in
    let o = (g.O.Office.lawful c.args.office.now).orderly in
    let x = c.in-Some.lease in
    let rest = leases_to_come g.O.Office.meaning c.next.new.self in
    let front = c.loop-lease.yielded in
    let at = ap (λ ls. front ++ ls) (sym c.in-Some.ensures.steps) ∙ c.loop-lease.invariant.0 in
    passed (in_it s.core.roll c.args.top) s.core.roll front x rest (leases_to_come g.O.Office.meaning c.loop-lease.lease-iterator) c.loop-lease.numbers.items c.in-Some.ensures.steps c.loop-lease.invariant
    (next_mark K s o c.args.top c.requires front x rest at
    ∙ ap₂ (λ (a b : Bool). a || b) (ne_eqb x.number c.args.top c.if-lease-top.false) (ap (list_any (λ n. eqb n x.lender)) (sym (c.as_slice.ensures.value ∙ c.loop-lease.invariant.1)) ∙ sym c.has.ensures ∙ c.if-has.false))

pub returns : goal.returns
returns g c =
    let roll = (g.O.Office.meaning c.args.office.now).core.roll in
    ended (in_it roll c.args.top) roll c.loop-lease.yielded (leases_to_come g.O.Office.meaning c.loop-lease.lease-iterator) c.loop-lease.numbers.items c.in-None.ensures.steps.0 c.loop-lease.invariant
