-- A kind whose join adds weights: a share is told by its weight, and a part of a share is a share.
use Rattle.std.proofs.Common.{◌≡◌, ℕ, ◌+◌, Some, None, Option, sym, refl, ap, ◌∙◌, arith}
use Rattle.shares.specs.Kind.{bind}

-- two answers with the same values are equal
pub same_answers : {S : Type 0} (o p : Option S) → ((d : S) → o ≡ Some d → p ≡ Some d) → ((d : S) → p ≡ Some d → o ≡ Some d) → o ≡ p
same_answers None None f g = refl
same_answers None (Some d) f g = g d refl
same_answers (Some d) p f g = sym (f d refl)

-- what is joined from the right is joined from the left in another order
pub turned : {S : Type 0} (◌⊕◌ : S → S → Option S) → ((a b : S) → ◌⊕◌ a b ≡ ◌⊕◌ b a) → (a b c : S)
    → bind (◌⊕◌ b c) (λ bc. ◌⊕◌ a bc) ≡ bind (◌⊕◌ b c) (λ bc. ◌⊕◌ bc a)
turned {S} ◌⊕◌ commutes a b c = go (◌⊕◌ b c)
  where
    go : (o : Option S) → bind o (λ bc. ◌⊕◌ a bc) ≡ bind o (λ bc. ◌⊕◌ bc a)
    go None = refl
    go (Some x) = commutes a x

module _ {S : Type 0} (w : S → ℕ) (◌⊕◌ : S → S → Option S)
    (inj : (a b : S) → w a ≡ w b → a ≡ b)
    (fwd : (a b c : S) → ◌⊕◌ a b ≡ Some c → w c ≡ w a + w b)
    (bwd : (a b c : S) → w c ≡ w a + w b → ◌⊕◌ a b ≡ Some c)
    (part : (a b c d : S) → w d ≡ w a + w b + w c → (e : S) × (w e ≡ w a + w b)) where
  pub commutes : (a b : S) → ◌⊕◌ a b ≡ ◌⊕◌ b a
  commutes a b =
      same_answers (◌⊕◌ a b) (◌⊕◌ b a)
      (λ d e. let p = fwd a b d e in bwd b a d (omega (arith, p)))
      (λ d e. let p = fwd b a d e in bwd a b d (omega (arith, p)))

  left_weight : (a b c d : S) → bind (◌⊕◌ a b) (λ ab. ◌⊕◌ ab c) ≡ Some d → w d ≡ w a + w b + w c
  left_weight a b c d = go (◌⊕◌ a b) refl
    where
      go : (o : Option S) → ◌⊕◌ a b ≡ o → bind o (λ ab. ◌⊕◌ ab c) ≡ Some d → w d ≡ w a + w b + w c
      go None f e = let z : ◌≡◌ {A = ℕ} 0 1 = cc in omega arith
      go (Some x) f e = omega (arith, fwd a b x f, fwd x c d e)

  left_made : (a b c d : S) → w d ≡ w a + w b + w c → bind (◌⊕◌ a b) (λ ab. ◌⊕◌ ab c) ≡ Some d
  left_made a b c d h =
      let e = part a b c d h in
      let p = e.1 in
      ap (λ o. bind o (λ ab. ◌⊕◌ ab c)) (bwd a b e.0 p) ∙ bwd e.0 c d (omega (arith, p, h))

  pub associates : (a b c : S) → bind (◌⊕◌ a b) (λ ab. ◌⊕◌ ab c) ≡ bind (◌⊕◌ b c) (λ bc. ◌⊕◌ a bc)
  associates a b c =
      same_answers (bind (◌⊕◌ a b) (λ ab. ◌⊕◌ ab c)) (bind (◌⊕◌ b c) (λ bc. ◌⊕◌ bc a))
      (λ d e. let p = left_weight a b c d e in left_made b c a d (omega (arith, p)))
      (λ d e. let p = left_weight b c a d e in left_made a b c d (omega (arith, p)))
      ∙ sym (turned ◌⊕◌ commutes a b c)

  pub cancels : (a b c d : S) → ◌⊕◌ a c ≡ Some d → ◌⊕◌ b c ≡ Some d → a ≡ b
  cancels a b c d p q = inj a b (omega (arith, fwd a c d p, fwd b c d q))

  pub positive : (n : S) → w n ≡ 0 → (a b : S) → ◌⊕◌ a b ≡ Some n → (a ≡ n) × (b ≡ n)
  positive n z a b p = let h = fwd a b n p in (inj a n (omega (arith, h, z)), inj b n (omega (arith, h, z)))
