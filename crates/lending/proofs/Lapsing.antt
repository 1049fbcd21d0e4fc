-- What lenders get back by a day.
use Rattle.std.proofs.Common.{◌≡◌, ℕ, Bool, true, false, cond, not, ◌&&◌, eqb, List, [], ◌∷◌, map, Some, Option, sym, refl, ap, ◌∙◌, subst, arith}
use Rattle.std.specs.List.{filter}
use mathlib.Core.List.{Memᴰ}
use Rattle.std.proofs.lemmas.Bool.{leb-true, leb-false}
use Rattle.lending.specs.declared.lease.Lease.{Lease}
use Rattle.shares.specs.Kind.{Kind, Laws, bind}
use Rattle.lending.specs.Office.{Core, State, with_roll, with_today}
use Rattle.lending.specs.Roll.{with_share}
use Rattle.lending.specs.Above.{downward}
use Rattle.lending.specs.Calls.{due_by}
use Rattle.lending.specs.History.{Moment, lent}
use Rattle.lending.specs.Effects.{DayCame, lent_together, due_from}
use Rattle.shares.proofs.Sums.{plus?, nothing, plus_join, plus_comm}
use Rattle.lending.proofs.Joins.{part_defined, plus_then}
use Rattle.lending.proofs.Totals.{total, where_is, total_ext, total_filter}
use Rattle.lending.proofs.Rolls.{one_number}
use Rattle.lending.proofs.Invariant.{Inv}
use Rattle.lending.proofs.Sweeping.{Sweeps, Granted, among, is_among, not_among, without_is, filter_ext, due_granted, of_due, none_due, in_due}
use Rattle.lending.proofs.Returning.{inv_sweeps, closed_from, joined}

module _ {S : Type 0} (K : Kind S) (L : Laws K) (ms : List (Moment S)) where
  together_total : (ls : List (Lease S)) → lent_together K ms ls ≡ total K (λ l. lent K ms l.number) ls
  together_total [] = refl
  together_total (l ∷ ls) = ap (λ (o : Option S). bind (lent K ms l.number) (λ x. bind o (λ y. K.join x y))) (together_total ls) ∙ plus_then K (lent K ms l.number) (total K (λ z. lent K ms z.number) ls)

  abbrev P : List (Lease S) → ℕ → Type 0
  P roll issued = Inv K roll issued (lent K ms)

  abbrev W : Sweeps K P
  W = inv_sweeps K L (lent K ms)

  -- a day
  module _ (s : State S) (I : Inv K s.core.roll s.core.issued (lent K ms)) (d : ℕ) where
    unfoldable pub lapsed : Granted K P W s (downward (filter (due_by d) s.core.roll))
    lapsed = due_granted K P W s I d

    abbrev lapsing : List ℕ
    lapsing = downward (filter (due_by d) s.core.roll)

    among_due : (z : Lease S) → Memᴰ z s.core.roll → among lapsing z.number ≡ due_by d z
    among_due z m = go (due_by d z) refl
      where
        go : (b : Bool) → due_by d z ≡ b → among lapsing z.number ≡ b
        go true e = is_among lapsing z.number (in_due K P W s I d z m (leb-true z.due d e))
        go false e = not_among lapsing z.number (λ k.
            let y = of_due K P W s I d z.number k in
            let same : y.0 ≡ z = one_number 0 s.core.roll I.rising y.0 z y.1 m y.2 in
            let w : y.0.due ≡ z.due = ap (λ (u : Lease S). u.due) same in
            let v = leb-false z.due d e in let u = y.3 in omega arith)

    pub day_came : (t : State S) → t.core ≡ (with_today d lapsed.after).core → DayCame K ms s t d
    unfolding lapsed
    day_came t c = record {
      none_due = λ l m. none_due K P W s I d l (subst (λ (k : Core S). Memᴰ l k.roll) c m);
      left = c ∙ ap (λ (k : Core S). (with_today d (record s { core = k })).core) lapsed.core ∙ ap (λ (r : List (Lease S)). (with_roll r (with_today d s)).core) (ap (λ (k : Core S). k.roll) (sym c));
      others = ap (λ (k : Core S). map (with_share K.empty) k.roll) c ∙ lapsed.shape ∙ ap (map (with_share K.empty)) (without_is lapsing s.core.roll ∙ filter_ext (λ z. not (among lapsing z.number)) (λ z. not (due_by d z)) s.core.roll (λ z m. ap not (among_due z m)));
      got_back = λ l m ml mm e.
          let j : plus? K (Some l.share) (closed_from K L (lent K ms) s I lapsing lapsed l.number) ≡ Some m.share = joined K L (lent K ms) s I lapsing lapsed l m ml (subst (λ (k : Core S). Memᴰ m k.roll) c mm) e in
          let x = part_defined K L (closed_from K L (lent K ms) s I lapsing lapsed l.number) (Some l.share) m.share (plus_comm K L (closed_from K L (lent K ms) s I lapsing lapsed l.number) (Some l.share) ∙ j) in
          (x.0, due_total l.number ∙ x.1, sym (plus_join K l.share x.0) ∙ ap (plus? K (Some l.share)) (sym x.1) ∙ j);
    }
      where
        due_total : (n : ℕ) → lent_together K ms (due_from s.core.roll d n) ≡ closed_from K L (lent K ms) s I lapsing lapsed n
        due_total n = together_total (due_from s.core.roll d n) ∙ total_filter K L (λ z. lent K ms z.number) (λ z. due_by d z && eqb z.lender n) s.core.roll
            ∙ total_ext K (where_is K (λ z. due_by d z && eqb z.lender n) (λ z. lent K ms z.number)) (where_is K (λ z. among lapsing z.number && eqb z.lender n) (λ z. lent K ms z.number)) s.core.roll
            (λ z m. ap (λ (b : Bool). cond (b && eqb z.lender n) (lent K ms z.number) (nothing K)) (sym (among_due z m)))
