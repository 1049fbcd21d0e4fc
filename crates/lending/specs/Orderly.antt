-- The order that every roll has, whatever its kind of share.
use Rattle.std.specs.Prelude.{◌≡◌, ℕ, ◌<◌, ◌≤◌, true, List}
use mathlib.Core.List.{Memᴰ}
use Rattle.lending.specs.declared.lease.Lease.{Lease}
use Rattle.lending.specs.Limits.{within_range, never}
use Rattle.lending.specs.Roll.{Rising}

-- a lease's resource, holder and due day are in their ranges
abbrev pub Ranged : {S : Type 0} → Lease S → Type 0
Ranged l = (within_range l.resource ≡ true) × (within_range l.holder ≡ true) × (l.due ≤ never)

-- What holds of every roll of an office that issued so many numbers:
pub record Orderly {S : Type 0} (roll : List (Lease S)) (issued : ℕ) : Type 0 where
  pub rising : Rising 0 roll
  -- a live lease has a number that was issued
  pub within : (l : Lease S) → Memᴰ l roll → l.number ≤ issued
  -- a lender's number is lower, the house's too
  pub lower : (l : Lease S) → Memᴰ l roll → l.lender < l.number
  -- no lease falls due after its lender
  pub dues : (l p : Lease S) → Memᴰ l roll → Memᴰ p roll → p.number ≡ l.lender → l.due ≤ p.due
  pub ranged : (l : Lease S) → Memᴰ l roll → Ranged l
