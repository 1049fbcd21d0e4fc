-- How long the lines of leases are.
use Rattle.std.proofs.Common.{◌≡◌, ℕ, ◌≤◌, Bool, true, false, List, length, arith}
use Rattle.shares.specs.Text.{longest_text}
use Rattle.std.proofs.lemmas.Bool.Decides.{nat_tests}
use Rattle.std.proofs.lemmas.Fmt.{length-decimal-le}
use Rattle.std.proofs.lemmas.List.{length-append}
use mathlib.Core.Logic.{∥∥₁_elim}
use native.Mathlib.Bridge.{le_prop}
use Rattle.shares.specs.Kind.{Kind}
use Rattle.lending.specs.declared.lease.Lease.{Lease}
use Rattle.lending.specs.Limits.{within_range, last_number}
use Rattle.lending.specs.Office.{State}
use Rattle.lending.specs.Orderly.{Ranged}
use Rattle.office.specs.Lawful.{Lawful}
use Rattle.lines.specs.Lines.{letter, holder_may_write, lease_text, LinesAreShort}

in_range : (n : ℕ) → within_range n ≡ true → n ≤ 999
in_range n h = grind (arith, nat_tests)

length_letter : (may_write : Bool) → length (letter may_write) ≡ 1
length_letter true = omega arith
length_letter false = omega arith

module _ {S : Type 0} where
  pub lease_text_short : (text : S → List ℕ) (l : Lease S) (may_write : Bool) → length (text l.share) ≤ longest_text → l.number ≤ last_number → l.lender ≤ last_number → Ranged l → length (lease_text text l may_write) ≤ 219
  lease_text_short text l may_write short number lender ranged =
      let resource = in_range l.resource ranged.0 in
      let holder = in_range l.holder ranged.1 in
      let a = length-decimal-le 5 l.number (omega arith) (omega arith) (omega arith) in
      let b = length-decimal-le 3 l.resource (omega arith) (omega arith) (omega arith) in
      let d = length-decimal-le 3 l.holder (omega arith) (omega arith) (omega arith) in
      let e = length-decimal-le 5 l.lender (omega arith) (omega arith) (omega arith) in
      let f = length-decimal-le 5 l.due (omega arith) (omega (arith, ranged.2)) (omega (arith, ranged.2)) in
      let g = length_letter may_write in
      simp length-append (omega arith)

  -- every live lease is within the limits of an office
  pub lines_short : (K : Kind S) (text : S → List ℕ) → ((a : S) → length (text a) ≤ longest_text) → (s : State S) (rows : List (Lease S)) → Lawful s rows → LinesAreShort K text s
  lines_short K text short s rows lawful l live =
      ∥∥₁_elim lawful.orderly (λ x y. le_prop x y)
      (λ o. let lower = o.lower l live in let within = o.within l live in
      lease_text_short text l (holder_may_write K s.core.roll l) (short l.share) (omega (arith, lawful.numbers)) (omega (arith, lawful.numbers)) (o.ranged l live))
