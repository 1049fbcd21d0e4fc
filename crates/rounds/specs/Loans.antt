-- Loans from one share to borrowers in turn.
use Rattle.std.specs.Prelude.{◌≡◌, ℕ, zero, suc, List, [], ◌∷◌, map, Some, None, vec_items}
use Rattle.shares.specs.Kind.{Kind}
use Rattle.rounds.specs.declared.loan.Loan.{Loan}
use Rattle.rounds.specs.declared.loan.SharedOut.{SharedOut}

module _ {S : Type 0} (K : Kind S) where
  -- the loans to n borrowers: each gets the lent half of what is left, until that doesn't halve
  abbrev pub loans_of : ℕ → S → List (Loan S)
  loans_of zero left = []
  loans_of (suc n) left =
      elim (K.halve left) [ None ↦ [] | Some h ↦ record { lent = h.1; kept = h.0 } ∷ loans_of n h.0 ]

  -- what is left after them
  abbrev pub left_of : ℕ → S → S
  left_of zero left = left
  left_of (suc n) left = elim (K.halve left) [ None ↦ left | Some h ↦ left_of n h.0 ]

  -- A share lent to n borrowers in turn.
  pub record SharesLent (n : ℕ) (share : S) (out : SharedOut S) : Type 0 where
    pub loans : vec_items out.loans ≡ loans_of n share
    pub left : out.left ≡ left_of n share

-- the shares that borrowers got
abbrev pub lent_shares : {S : Type 0} → List (Loan S) → List S
lent_shares loans = map (λ loan. loan.lent) loans

-- what is left and what was handed out
abbrev pub all_shares : {S : Type 0} → SharedOut S → List S
all_shares out = out.left ∷ lent_shares (vec_items out.loans)
