-- Code that yields one lease after another goes where the definitions go, whatever the office's objections come to be.
use Rattle.std.proofs.Common.{◌≡◌, ℕ, ◌<◌, Bool, true, false, List, [], ◌∷◌, length, Some, None, Option, is_some, sym, refl, ap, ◌∙◌, subst, arith}
use Rattle.std.specs.List.{filter}
use mathlib.Core.Logic.{∥∥₁_elim}
use native.Mathlib.Bridge.{le_prop}
use Rattle.lending.specs.declared.lease.Lease.{Lease}
use Rattle.shares.specs.Kind.{Kind}
use Rattle.lending.specs.Office.{Core, State, with_today}
use Rattle.lending.specs.Orderly.{Orderly}
use Rattle.lending.specs.Roll.{find, live, close, lends, family, gaining}
use Rattle.lending.specs.Outcome.{Answer, Outcome, unless, need_live, and_then, answering}
use Rattle.lending.specs.Outcome.Answer.{done, number}
use Rattle.lending.specs.Outcome.Call.{yield, new_day, day}
use Rattle.lending.specs.Outcome.Outcome.{refuses, tells, grants}
use Rattle.lending.specs.Calls.{do_yield, after_yield, bad_day, due_by}
use Rattle.lending.specs.Above.{yields, downward, recall_all}
use Rattle.lending.specs.Perform.{Ends, Does}
use Rattle.lending.proofs.Rolls.{find_in, rising_above}
use Rattle.lending.proofs.Families.{Low}
use Rattle.lending.proofs.Order.{orderly_rises, orderly_change, orderly_close, Stays}
use Rattle.lending.proofs.Sweeping.{Sweeps, family_granted, due_granted, day_set, day_performs}

module _ {S : Type 0} where
  -- an orderly roll has what yields need
  abbrev pub Order : List (Lease S) → ℕ → Type 0
  Order roll issued = ∥ Orderly roll issued ∥₁

  pub orderly_sweeps : (K : Kind S) → Sweeps K Order
  orderly_sweeps K = record {
    rising = orderly_rises;
    low = λ roll issued h. ∥∥₁_elim h (λ (a b : Low roll). λ i l m. le_prop (a l m) (b l m) i) (λ o. o.lower);
    dues = λ roll issued h l p ml mp e. ∥∥₁_elim h le_prop (λ o. o.dues l p ml mp e);
    kept = λ roll issued h l ml none. ∥∥₁_elim h squash₁ (λ o. ∣ orderly_change l.lender (gaining K l.share) (given K l) (close l.number roll) issued (orderly_close l.number roll issued o) ∣₁);
  }
    where
      given : (K : Kind S) (l : Lease S) → Stays (gaining K l.share)
      given K l = record { number = λ p. refl; lender = λ p. refl; due = λ p. refl; ranged = λ p r. r }

module _ {S : Type 0} (K : Kind S) where
  -- a state with the objections of another
  abbrev pub objecting : State S → State S → State S
  objecting o s = record o { core = s.core }

  -- yields don't look at objections
  yields_core : (ns : List ℕ) (s u o : State S) → yields K s ns ≡ grants done u → yields K (objecting o s) ns ≡ grants done (objecting o u)
  yields_core [] s u o e = let z : s ≡ u = cc in ap (λ (v : State S). grants done (objecting o v)) z
  yields_core (n ∷ ns) s u o e = go (find s.core.roll n) (lends s.core.roll n) e (λ t f. yields_core ns t u o f)
    where
      go : (m : Option (Lease S)) (b : Bool) → and_then (need_live s.core.depth m (λ l. unless s.core.depth ((b, 9) ∷ []) (grants done (after_yield K s l)))) (λ t. yields K t ns) ≡ grants done u
          → ((t : State S) → yields K t ns ≡ grants done u → yields K (objecting o t) ns ≡ grants done (objecting o u))
          → and_then (need_live s.core.depth m (λ l. unless s.core.depth ((b, 9) ∷ []) (grants done (after_yield K (objecting o s) l)))) (λ t. yields K t ns) ≡ grants done (objecting o u)
      go None b f ih = absurd (let z : ◌≡◌ {A = ℕ} 0 1 = cc in omega arith)
      go (Some l) true f ih = absurd (let z : ◌≡◌ {A = ℕ} 0 1 = cc in omega arith)
      go (Some l) false f ih = ih (after_yield K s l) f

  -- after one yield by an office, the others are still granted
  pub yields_on : (n : ℕ) (ns : List ℕ) (s t u : State S) (a : Answer S) → yields K s (n ∷ ns) ≡ grants done u → Does K s (yield n) a t → yields K t ns ≡ grants done (objecting t u)
  yields_on n ns s t u a e d = go (do_yield K s n) e d
    where
      go : (o : Outcome S) → and_then o (λ v. yields K v ns) ≡ grants done u → Ends o s a t → yields K t ns ≡ grants done (objecting t u)
      go (refuses r) f x = absurd (let z : ◌≡◌ {A = ℕ} 0 1 = cc in omega arith)
      go (tells b) f x = absurd (told b f)
        where
          told : (b : Answer S) → tells b ≡ grants done u → ⊥
          told b g = let z : ◌≡◌ {A = ℕ} 0 1 = cc in omega arith
      go (grants b v) f x = subst (λ (w : State S). yields K w ns ≡ grants done (objecting t u)) (ap (λ (k : Core S). record t { core = k }) (sym x.1)) (yields_core ns v u t f)

  pub no_yields : (s u : State S) → yields K s [] ≡ grants done u → s.core ≡ u.core
  no_yields s u e = let z : s ≡ u = cc in ap (λ (v : State S). v.core) z

  module _ (s : State S) (o : ∥ Orderly s.core.roll s.core.issued ∥₁) where
    -- a live lease has a number
    pub numbered : (n : ℕ) → live s.core.roll n ≡ true → 0 < n
    numbered n e = go (find s.core.roll n) refl e
      where
        go : (m : Option (Lease S)) → find s.core.roll n ≡ m → is_some m ≡ true → 0 < n
        go None f e = absurd (let z : ◌≡◌ {A = ℕ} 0 1 = cc in omega arith)
        go (Some l) f e = let r = find_in s.core.roll n l f in let q = rising_above 0 s.core.roll (orderly_rises s.core.roll s.core.issued o) l r.0 in let w = r.1 in omega arith

    -- a live lease's recall is granted
    pub recall_granted : (n : ℕ) → live s.core.roll n ≡ true → (u : State S) × (recall_all K s n ≡ grants (number (length (downward (family s.core.roll n)))) u)
    recall_granted n e =
        let g = family_granted K Order (orderly_sweeps K) s o n (numbered n e) in
        (g.after, ap (answering (number (length (downward (family s.core.roll n))))) g.is)

    -- what the yields of a recall leave, the recall leaves
    pub recall_ends : (n : ℕ) → live s.core.roll n ≡ true → (t : State S) (k : ℕ) → k ≡ length (downward (family s.core.roll n)) → ((u : State S) → yields K s (downward (family s.core.roll n)) ≡ grants done u → t.core ≡ u.core) → Ends (recall_all K s n) s (number k) t
    recall_ends n e t k len h =
        let g = family_granted K Order (orderly_sweeps K) s o n (numbered n e) in
        subst (λ (p : Outcome S). Ends p s (number k) t) (sym (ap (answering (number (length (downward (family s.core.roll n))))) g.is)) (ap number len, h g.after g.is)

    -- what the yields of a day and then setting the day leave, the day leaves
    pub day_ends : (d : ℕ) → bad_day s d ≡ false → (t v : State S) (a : Answer S) (k : ℕ) → k ≡ length (downward (filter (due_by d) s.core.roll)) → ((u : State S) → yields K s (downward (filter (due_by d) s.core.roll)) ≡ grants done u → t.core ≡ u.core) → Does K t (new_day d) a v → Does K s (day d) (number k) v
    day_ends d good t v a k len h does =
        let g = due_granted K Order (orderly_sweeps K) s o d in
        let at : t.core ≡ g.after.core = h g.after g.is in
        let ends : Ends (grants done (with_today d t)) t a v = subst (λ (w : Outcome S). Ends w t a v) (day_set K Order (orderly_sweeps K) s o d t at good) does in
        subst (λ (p : Outcome S). Ends p s (number k) v) (sym (day_performs K Order (orderly_sweeps K) s o d good))
        (ap number len, ends.1 ∙ ap (λ (c : Core S). (with_today d (record s { core = c })).core) at)
