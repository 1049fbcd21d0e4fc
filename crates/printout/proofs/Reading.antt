-- What an office's printout shows can be read back.
use Rattle.std.proofs.Common.{◌≡◌, ℕ, ◌<◌, ◌≤◌, List, [], ◌∷◌, map, true, nat_le, Ok, Err, Result, OnOk, OnErr, refl, arith}
use Rattle.std.specs.List.{AllByRecursion}
use Rattle.std.proofs.lemmas.Bool.{leb-true, and_parts}
use native.Mathlib.Bridge.{le_prop}
use mathlib.Core.Logic.{∥∥₁_elim}
use mathlib.Core.List.{Memᴰ}
use Rattle.shares.specs.Kind.{Kind}
use Rattle.lending.specs.declared.lease.Lease.{Lease}
use Rattle.lending.specs.Limits.{within_range}
use Rattle.lending.specs.Office.{State}
use Rattle.office.specs.Lawful.{Lawful}
use Rattle.printout.specs.Contents.{lease_entry, lease_entries}
use Rattle.shares.specs.Text.{NoLineBreak}
use Rattle.printout.specs.Readable.{ReadableLease}

few : (n : ℕ) → within_range n ≡ true → n ≤ 999
few n e = let p = and_parts (nat_le 1 n) (nat_le n 999) e in leb-true n 999 p.1

module _ {S : Type 0} (K : Kind S) (text : S → List ℕ) (unbroken : NoLineBreak text) (s : State S) (rows : List (Lease S)) (lawful : Lawful s rows) where
  one : (l : Lease S) → Memᴰ l s.core.roll → ReadableLease (lease_entry K text s.core.roll l)
  one l m =
      let o = lawful.orderly in
      let n = lawful.numbers in
      let a : l.number ≤ s.core.issued = ∥∥₁_elim o (λ x y. le_prop x y) (λ q. q.within l m) in
      let b : l.resource ≤ 999 = ∥∥₁_elim o (λ x y. le_prop x y) (λ q. few l.resource (q.ranged l m).0) in
      let c : l.holder ≤ 999 = ∥∥₁_elim o (λ x y. le_prop x y) (λ q. few l.holder (q.ranged l m).1) in
      let d : l.lender < l.number = ∥∥₁_elim o (λ x y. le_prop x y) (λ q. q.lower l m) in
      let e : l.due ≤ 10000 = ∥∥₁_elim o (λ x y. le_prop x y) (λ q. (q.ranged l m).2) in
      record {
        number = (omega (arith, a, n));
        resource = (omega (arith, b));
        holder = (omega (arith, c));
        lender = (omega (arith, a, d, n));
        due = (omega (arith, e));
        text = unbroken l.share;
      }

  pub leases_readable : AllByRecursion ReadableLease (lease_entries K text s.core.roll)
  leases_readable = go s.core.roll (λ l m. m)
    where
      go : (ls : List (Lease S)) → ((l : Lease S) → Memᴰ l ls → Memᴰ l s.core.roll) → AllByRecursion ReadableLease (map (lease_entry K text s.core.roll) ls)
      go [] f = tt
      go (l ∷ ls) f = (one l (f l (Memᴰ.head refl)), go ls (λ k m. f k (Memᴰ.tail m)))

-- what holds anyway holds where there was memory
pub on_ok : {T E : Type 0} (r : Result T E) {P : Type 0} → P → OnOk r P
on_ok (Ok x) p = p
on_ok (Err e) p = tt

-- and where there was none
pub on_err : {T E : Type 0} (r : Result T E) {P : Type 0} → P → OnErr r P
on_err (Ok x) p = tt
on_err (Err e) p = p
