-- A kind of share: a separation algebra with cancellation (Calcagno, O'Hearn and Yang), a whole, and halves.
use Rattle.std.specs.Prelude.{◌≡◌, ℕ, Bool, T, ◌↔◌, List, Some, None, Option, ◌≢◌}

-- goes on with a value, if there is one
abbrev pub bind : {A B : Type 0} → Option A → (A → Option B) → Option B
bind None f = None
bind (Some a) f = f a

-- The operations of a kind whose shares are the values of S.
pub record Kind (S : Type 0) : Type 0 where
  pub empty : S
  pub whole : S
  -- None where the join is undefined
  pub join : S → S → Option S
  -- the half kept and the half lent; None where halving is refused
  pub halve : S → Option (S × S)
  -- whether two shares are equal
  pub same : S → S → Bool

-- A kind of share, its shares and their texts.
pub record PrintedKind : Type 1 where
  pub Share : Type 0
  pub kind : Kind Share
  pub text : Share → List ℕ

-- The laws of a kind. Where two joins are equal, each is defined exactly when the other is.
pub record Laws {S : Type 0} (K : Kind S) : Type 0 where
  pub commutes : (a b : S) → K.join a b ≡ K.join b a
  pub associates : (a b c : S) → bind (K.join a b) (λ ab. K.join ab c) ≡ bind (K.join b c) (λ bc. K.join a bc)
  pub empty_adds_nothing : (a : S) → K.join a K.empty ≡ Some a
  pub cancels : (a b c s : S) → K.join a c ≡ Some s → K.join b c ≡ Some s → a ≡ b
  pub empty_has_no_parts : (a b : S) → K.join a b ≡ Some K.empty → (a ≡ K.empty) × (b ≡ K.empty)
  pub whole_not_empty : K.whole ≡ K.empty → ⊥
  pub whole_takes_only_empty : (a s : S) → K.join a K.whole ≡ Some s → a ≡ K.empty
  pub halves_join : (s kept lent : S) → K.halve s ≡ Some (kept, lent) → K.join kept lent ≡ Some s
  pub halves_not_empty : (s kept lent : S) → K.halve s ≡ Some (kept, lent)
      → (kept ≢ K.empty) × (lent ≢ K.empty)
  pub same_tells : (a b : S) → T (K.same a b) ↔ (a ≡ b)
