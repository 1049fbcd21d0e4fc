-- Shares joined in every order and grouping.
use Rattle.std.specs.Prelude.{◌≡◌, List, [], ◌∷◌, ◌++◌, Some, Option}
use mathlib.Core.List.{Perm}
use Rattle.shares.specs.Kind.{Kind, bind}

-- Some shares in an order, with brackets around each two that are joined.
pub data Grouping (S : Type 0) : Type 0 where
  one : S → Grouping S
  both : Grouping S → Grouping S → Grouping S

module _ {S : Type 0} where
  -- the shares of a grouping, from left to right
  abbrev pub leaves : Grouping S → List S
  leaves (one s) = s ∷ []
  leaves (both x y) = leaves x ++ leaves y

  -- what a grouping comes to; None where one of its joins is undefined
  abbrev pub grouped : Kind S → Grouping S → Option S
  grouped K (one s) = Some s
  grouped K (both x y) = bind (grouped K x) (λ a. bind (grouped K y) (λ b. K.join a b))

  -- the shares join, in every order and grouping, to s; where there are no shares it says nothing
  abbrev pub JoinTo : Kind S → List S → S → Type 0
  JoinTo K shares s = (g : Grouping S) → Perm (leaves g) shares → grouped K g ≡ Some s

  -- the join of some shares as they stand; the empty share if there are none
  abbrev pub together : Kind S → List S → Option S
  together K [] = Some K.empty
  together K (s ∷ ss) = bind (together K ss) (λ t. K.join s t)

  -- If one order and grouping of some shares joins to s, every order and grouping does.
  abbrev pub JoinsEveryWay : Kind S → Type 0
  JoinsEveryWay K = (g : Grouping S) (s : S) → grouped K g ≡ Some s → JoinTo K (leaves g) s
