-- Counting shares, as in the permissions of Bornat, Calcagno, O'Hearn and Parkinson: a source counts the readers that
-- it has given out.
use Rattle.std.specs.Prelude.{◌≡◌, refl, ℕ, ◌+◌, ◌-◌, ◌==◌, nat_le, Bool, true, false, if◌then◌else◌}
use Rattle.std.specs.Prelude.{List, [], ◌∷◌, decimal, Option, Some, None}
use Rattle.shares.specs.Kind.{Kind, bind}
use Rattle.counting.specs.declared.permission.Permission.{Permission}
use Rattle.counting.specs.declared.permission.Permission.TheVariants.{Empty, Source, Readers}
use Rattle.counting.specs.declared.counting.Counting.{Counting}
use Rattle.counting.specs.Limits.{within}

-- the share with a permission, by the test for the limits; the empty share beyond them
abbrev pub of_permission_by : (p : Permission) (b : Bool) → within p ≡ b → Counting
of_permission_by p true e = record { held = p; limited = e }
of_permission_by p false e = record { held = Empty; limited = refl }

-- the share with a permission; where that is beyond the limits, the empty share
unfoldable pub counting_of : Permission → Counting
counting_of p = of_permission_by p (within p) refl

-- the share with a permission; None where that is beyond the limits
abbrev pub counting_if_within : Permission → Option Counting
counting_if_within p = if within p then Some (counting_of p) else None

-- readers add up, and readers given back to a source are no longer given out
abbrev pub plus : Permission → Permission → Option Permission
plus Empty p = Some p
plus (Source n) Empty = Some (Source n)
plus (Source n) (Source m) = None
plus (Source n) (Readers k) = if nat_le k n then Some (Source (n - k)) else None
plus (Readers k) Empty = Some (Readers k)
plus (Readers k) (Source n) = if nat_le k n then Some (Source (n - k)) else None
plus (Readers j) (Readers k) = Some (Readers (j + k))

-- what is kept where one reader is lent
abbrev pub less : Permission → Option Permission
less Empty = None
less (Source n) = Some (Source (n + 1))
less (Readers k) = Some (Readers (k - 1))

-- the join of two shares
abbrev pub join : Counting → Counting → Option Counting
join a b = bind (plus a.held b.held) counting_if_within

-- one reader is lent
abbrev pub halve : Counting → Option (Counting × Counting)
halve a = bind (bind (less a.held) counting_if_within) (λ kept. Some (kept, counting_of (Readers 1)))

-- whether two permissions are the same
abbrev pub alike : Permission → Permission → Bool
alike Empty Empty = true
alike Empty (Source m) = false
alike Empty (Readers k) = false
alike (Source n) Empty = false
alike (Source n) (Source m) = n == m
alike (Source n) (Readers k) = false
alike (Readers j) Empty = false
alike (Readers j) (Source m) = false
alike (Readers j) (Readers k) = j == k

-- counting shares as a kind of share
abbrev pub counting_kind : Kind Counting
counting_kind = record {
  empty = counting_of Empty;
  whole = counting_of (Source 0);
  join = join;
  halve = halve;
  same = λ a b. alike a.held b.held;
}

-- `e`, `s` and how many readers it has given out, or `r` and how many it holds
abbrev pub permission_text : Permission → List ℕ
permission_text Empty = 101 ∷ []
permission_text (Source n) = 115 ∷ decimal n
permission_text (Readers k) = 114 ∷ decimal k

-- the text of a share
abbrev pub text_of_share : Counting → List ℕ
text_of_share s = permission_text s.held
