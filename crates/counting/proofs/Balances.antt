-- Every join keeps the balance of readers given out and readers held.
use Rattle.std.proofs.Common.{◌≡◌, ℕ, ◌+◌, ◌-◌, Bool, true, false, cond, leb, List, [], ◌∷◌, Some, None, Option, refl, ap, arith}
use Rattle.std.proofs.lemmas.Bool.{leb-true}
use Rattle.shares.specs.Kind.{bind}
use Rattle.shares.specs.Joins.{together}
use Rattle.counting.specs.declared.permission.Permission.{Permission}
use Rattle.counting.specs.declared.permission.Permission.TheVariants.{Empty, Source, Readers}
use Rattle.counting.specs.declared.counting.Counting.{Counting}
use Rattle.counting.specs.Counts.{counting_of, counting_if_within, plus, join, counting_kind}
use Rattle.counting.specs.Balance.{readers_given_out, readers_held, total, GivenOutIsHeld}
use Rattle.counting.specs.KindLaws.{counted_is}

-- x and y give out and hold what z does
abbrev Balanced : Permission → Permission → Permission → Type 0
Balanced x y z = readers_given_out x + readers_given_out y + readers_held z ≡ readers_given_out z + readers_held x + readers_held y

back : (n k : ℕ) (z : Permission) → cond (leb k n) (Some (Source (n - k))) None ≡ Some z → (readers_held z ≡ 0) × (n ≡ readers_given_out z + k)
back n k z = go (leb k n) refl
  where
    go : (b : Bool) → leb k n ≡ b → cond b (Some (Source (n - k))) None ≡ Some z → (readers_held z ≡ 0) × (n ≡ readers_given_out z + k)
    go true u e = let f : z ≡ Source (n - k) = cc in (ap readers_held f, omega (arith, leb-true k n u, ap readers_given_out f))
    go false u e = let w : ◌≡◌ {A = ℕ} 0 1 = cc in absurd (omega arith)

plus_balanced : (x y z : Permission) → plus x y ≡ Some z → Balanced x y z
plus_balanced Empty y z e = let f : y ≡ z = cc in omega (arith, ap readers_held f, ap readers_given_out f)
plus_balanced (Source n) Empty z e = let f : Source n ≡ z = cc in omega (arith, ap readers_held f, ap readers_given_out f)
plus_balanced (Source n) (Source m) z e = let w : ◌≡◌ {A = ℕ} 0 1 = cc in absurd (omega arith)
plus_balanced (Source n) (Readers k) z e = omega (arith, back n k z e)
plus_balanced (Readers j) Empty z e = let f : Readers j ≡ z = cc in omega (arith, ap readers_held f, ap readers_given_out f)
plus_balanced (Readers j) (Source m) z e = omega (arith, back m j z e)
plus_balanced (Readers j) (Readers k) z e = let f : Readers (j + k) ≡ z = cc in omega (arith, ap readers_held f, ap readers_given_out f)

join_balanced : (a b c : Counting) → join a b ≡ Some c → Balanced a.held b.held c.held
join_balanced a b c = go (plus a.held b.held) refl
  where
    go : (o : Option Permission) → plus a.held b.held ≡ o → bind o counting_if_within ≡ Some c → Balanced a.held b.held c.held
    go None f e = let z : ◌≡◌ {A = ℕ} 0 1 = cc in absurd (omega arith)
    go (Some p) f e = let h = counted_is p c e in let g = plus_balanced a.held b.held p f in omega (arith, ap readers_held h, ap readers_given_out h)

balanced : (shares : List Counting) (s : Counting) → together counting_kind shares ≡ Some s → total readers_given_out shares + readers_held s.held ≡ readers_given_out s.held + total readers_held shares
unfolding counting_of
balanced [] s e = let f : counting_of Empty ≡ s = cc in omega (arith, ap (λ c. readers_held c.held) f, ap (λ c. readers_given_out c.held) f)
balanced (x ∷ xs) s e = go (together counting_kind xs) refl (balanced xs) e
  where
    go : (o : Option Counting) → together counting_kind xs ≡ o
        → ((t : Counting) → together counting_kind xs ≡ Some t → total readers_given_out xs + readers_held t.held ≡ readers_given_out t.held + total readers_held xs)
        → bind o (λ t. join x t) ≡ Some s → total readers_given_out (x ∷ xs) + readers_held s.held ≡ readers_given_out s.held + total readers_held (x ∷ xs)
    go None f rest e = let z : ◌≡◌ {A = ℕ} 0 1 = cc in absurd (omega arith)
    go (Some t) f rest e = omega (arith, rest t f, join_balanced x t s e)

pub given_out_is_held_lem : GivenOutIsHeld
unfolding counting_of
given_out_is_held_lem shares e = omega (arith, balanced shares (counting_of (Source 0)) e)
