-- The roll: the live leases by rising number.
use Rattle.std.specs.Prelude.{ℕ, zero, suc, ◌<◌, ◌==◌, nat_eq, Bool, if◌then◌else◌, not, ◌&&◌, ◌||◌}
use Rattle.std.specs.Prelude.{List, [], ◌∷◌, map, length, Option, Some, None, is_some}
use Rattle.std.specs.List.{filter, list_any}
use Rattle.std.specs.Option.{unwrap_or}
use Rattle.shares.specs.Kind.{Kind}
use Rattle.lending.specs.declared.lease.Lease.{Lease}

module _ {S : Type 0} where
  -- the numbers rise, from above lo
  abbrev pub Rising : ℕ → List (Lease S) → Type 0
  Rising lo [] = Unit {0}
  Rising lo (l ∷ ls) = (lo < l.number) × Rising l.number ls

  -- the live lease with a number
  abbrev pub find : List (Lease S) → ℕ → Option (Lease S)
  find [] n = None
  find (l ∷ ls) n = if l.number == n then Some l else find ls n

  -- a live lease has the number
  abbrev pub live : List (Lease S) → ℕ → Bool
  live roll n = is_some (find roll n)

  -- a resource is open if it has a live lease
  abbrev pub is_open : List (Lease S) → ℕ → Bool
  is_open roll resource = list_any (λ l. nat_eq l.resource resource) roll

  -- the lease's lender, if it has one and that is not the house, and then the rest
  abbrev pub lender_then : Option (Lease S) → (ℕ → List ℕ) → List ℕ
  lender_then None rest = []
  lender_then (Some l) rest = if l.lender == 0 then [] else (l.lender ∷ rest l.lender)

  -- A lease's chain of lenders, nearest first and without the house, followed for so many steps.
  abbrev pub lenders : ℕ → List (Lease S) → ℕ → List ℕ
  lenders zero roll n = []
  lenders (suc steps) roll n = lender_then (find roll n) (λ m. lenders steps roll m)

  -- The leases above lease n. A lender's number is lower, so that n steps are enough.
  abbrev pub above : List (Lease S) → ℕ → List ℕ
  above roll n = lenders n roll n

  -- how many leases are above lease n
  abbrev pub height : List (Lease S) → ℕ → ℕ
  height roll n = length (above roll n)

  -- lease m is under lease n
  abbrev pub under : List (Lease S) → ℕ → ℕ → Bool
  under roll m n = list_any (λ k. nat_eq k n) (above roll m)

  -- lease n and all live leases under it
  abbrev pub family : List (Lease S) → ℕ → List (Lease S)
  family roll n = filter (λ l. (l.number == n) || under roll l.number n) roll

  -- a live lease has n for its lender; that is so exactly when a live lease is under n
  abbrev pub lends : List (Lease S) → ℕ → Bool
  lends roll n = list_any (λ l. nat_eq l.lender n) roll

  -- how many live leases a holder has
  abbrev pub count_held : List (Lease S) → ℕ → ℕ
  count_held roll holder = length (filter (λ l. nat_eq l.holder holder) roll)

  -- the shares that a holder has of a resource
  abbrev pub shares_of : List (Lease S) → ℕ → ℕ → List S
  shares_of roll resource holder =
      map (λ l. l.share) (filter (λ l. (l.resource == resource) && l.holder == holder) roll)

  -- A lease with one thing changed: with another share,
  abbrev pub with_share : S → Lease S → Lease S
  with_share s l = record l { share = s }

  -- with another holder,
  abbrev pub with_holder : ℕ → Lease S → Lease S
  with_holder h l = record l { holder = h }

  -- and with another lender.
  abbrev pub with_lender : ℕ → Lease S → Lease S
  with_lender p l = record l { lender = p }

  -- the roll with lease n changed by f
  abbrev pub change : ℕ → (Lease S → Lease S) → List (Lease S) → List (Lease S)
  change n f roll = map (λ l. if l.number == n then f l else l) roll

  -- the roll without lease n
  abbrev pub close : ℕ → List (Lease S) → List (Lease S)
  close n roll = filter (λ l. not (l.number == n)) roll

  -- the roll in which a lends what b lent
  abbrev pub relend : ℕ → ℕ → List (Lease S) → List (Lease S)
  relend a b roll = map (λ l. if l.lender == b then with_lender a l else l) roll

  -- The two shares joined; where they don't join, the first. It is proved that no call comes to the latter.
  abbrev pub plus : Kind S → S → S → S
  plus K a b = unwrap_or (K.join a b) a

  -- a lease with s joined to its share
  abbrev pub gaining : Kind S → S → Lease S → Lease S
  gaining K s l = with_share (plus K l.share s) l
