-- What the steps of a granted call make of what a ledger stands for.
use Rattle.std.proofs.Common.{◌≡◌, ℕ, ◌<◌, ◌≤◌, min, false, not, eqb, Some, None, List, ◌++◌, length, take, drop, sym, refl, ap, ◌∙◌, subst, arith}
use lib.ListN.{length-map}
use Rattle.lending.specs.declared.lease.Lease.{Lease}
use Rattle.shares.specs.Kind.{Kind}
use Rattle.lending.specs.Limits.{most_rows}
use Rattle.lending.specs.Office.{Core}
use Rattle.lending.specs.Orderly.{Orderly}
use Rattle.lending.specs.Roll.{find, change, close, relend, with_share, plus}
use Rattle.lending.specs.Calls.{unlike}
use Rattle.lending.proofs.Rolls.{rising_keep, find_in, in_find, close_mem}
use Rattle.lending.proofs.Order.{Stays, orderly_so, orderly_change, orderly_merge, alike_due}
use Rattle.office.specs.Lawful.{unused}
use Rattle.ledger.specs.declared.ledger.Ledger.{Ledger}
use Rattle.ledger.specs.Means.{means, Stands}
use Rattle.ledger.proofs.Places.{change_found, stays}
use Rattle.ledger.proofs.Ledgers.{rises, used}
use Rattle.ledger.proofs.Gaps.{front_roll, front_length, front_rest}

module _ {S : Type 0} where
  -- a state with another roll
  abbrev pub over : (List (Lease S) → List (Lease S)) → Core S → Core S
  over h k = record { roll = h k.roll; issued = k.issued; today = k.today; capacity = k.capacity; depth = k.depth }

  -- one change after another
  pub after : {l₂ l₁ l₀ : Ledger S} {k : Core S} (h : Core S → Core S) → Stands l₂ l₁ (h (means l₁).core) → Stands l₁ l₀ k → Stands l₂ l₀ (h k)
  after h a b = record { core = a.core ∙ ap h b.core; rest = a.rest ∙ b.rest; loan = a.loan ∙ b.loan }

  module _ (l : Ledger S) where
    -- a lease that is found is written over, and keeps all but its holder or share
    pub rewritten : (n : ℕ) (x : Lease S) (f : Lease S → Lease S) → Stays f → find (take l.count l.rows.now) n ≡ Some x → ∥ Orderly (change n (λ o. f x) (take l.count l.rows.now)) l.issued ∥₁
    rewritten n x f s e =
        let roll = take l.count l.rows.now in
        orderly_so roll (change n f roll) _ l.issued l.issued l.orderly (change_found n 0 roll x f (rises l) e) (orderly_change n f s roll l.issued)

    -- and then the ledger stands for the roll with that lease changed
    pub rewrote : (now : Ledger S) (n : ℕ) (x : Lease S) (f : Lease S → Lease S) → find (take l.count l.rows.now) n ≡ Some x → (y : Lease S) → y ≡ f x → y.number ≡ n → Stands now l (over (change y.number (λ o. y)) (means l).core) → Stands now l (over (change n f) (means l).core)
    rewrote now n x f e y is named s =
        let roll = take l.count l.rows.now in
        record {
          core = s.core ∙ ap (λ (r : List (Lease S)). over (λ o. r) (means l).core) (ap (λ m. change m (λ o. y) roll) named ∙ ap (λ (z : Lease S). change n (λ o. z) roll) is ∙ change_found n 0 roll x f (rises l) e);
          rest = s.rest;
          loan = s.loan;
        }

  -- where the roll stays, a change that leaves it as it is
  pub same_over : (l : Ledger S) (h : List (Lease S) → List (Lease S)) → take l.count l.rows.now ≡ h (take l.count l.rows.now) → Stands l l (over h (means l).core)
  same_over l h e = record { core = ap (λ (r : List (Lease S)). over (λ o. r) (means l).core) e; rest = refl; loan = refl }

  -- another lease is still found where one was closed
  pub still_found : (l now : Ledger S) (x : Lease S) (n : ℕ) → find (take l.count l.rows.now) x.number ≡ Some x → (x.number ≡ n → ⊥) → Stands now l (over (close n) (means l).core) → find (take now.count now.rows.now) x.number ≡ Some x
  still_found l now x n e other s =
      let roll = take l.count l.rows.now in
      ap (λ (k : Core S). find k.roll x.number) s.core ∙ in_find 0 (close n roll) (rising_keep (λ o. not (eqb o.number n)) 0 roll (rises l)) x (close_mem roll n x (find_in roll x.number x e).0 other)

  -- a lease was closed, and its share joined its lender's, or that is not live
  module _ (K : Kind S) (l one : Ledger S) (x : Lease S) (first : Stands one l (over (close x.number) (means l).core)) where
    given : Lease S → Lease S
    given o = with_share (plus K o.share x.share) o

    pub given_to : (two : Ledger S) (p : Lease S) (v : S) → Some p ≡ find (take one.count one.rows.now) x.lender → p.number ≡ x.lender → v ≡ plus K p.share x.share → Stands two one (over (change p.number (λ o. with_share v p)) (means one).core) → Stands two l (over (change x.lender (λ o. with_share (plus K o.share x.share) o)) (over (close x.number) (means l).core))
    unfolding given
    given_to two p v found named joined second = after (over (change x.lender given)) (rewrote one two x.lender p given (sym found) (with_share v p) (ap (λ s. with_share s p) joined) named second) first

    pub given_to_none : None ≡ find (take one.count one.rows.now) x.lender → Stands one l (over (change x.lender (λ o. with_share (plus K o.share x.share) o)) (over (close x.number) (means l).core))
    unfolding given
    given_to_none absent = after (over (change x.lender given)) (same_over one (change x.lender given) (stays x.lender given (take one.count one.rows.now) (sym absent))) first

  -- a lends what b lent
  module _ (two : Ledger S) (a b : Lease S) (front : List (Lease S)) (is : front ≡ relend a.number b.number (take two.count two.rows.now)) where
    size : length front ≡ two.count
    size = ap length is ∙ simp length-map (used two)

    le : two.count ≤ length two.rows.now
    le = let h = two.fits in omega arith

    pub united_length : length (front ++ drop two.count two.rows.now) ≡ length two.rows.now
    united_length = front_length two.rows.now two.count front size le

    pub united_fits : two.count ≤ min most_rows (length (front ++ drop two.count two.rows.now))
    united_fits = rw united_length two.fits

    pub united_roll : take two.count (front ++ drop two.count two.rows.now) ≡ relend a.number b.number (take two.count two.rows.now)
    united_roll = front_roll two.rows.now two.count front size le ∙ is

    pub united_unused : unused (front ++ drop two.count two.rows.now) ≡ unused two.rows.now
    united_unused = front_rest two.rows.now two.count front size le 1024 (let h = two.fits in omega arith)

  -- b was closed, and a's share became that of both
  module _ (l one two : Ledger S) (a b : Lease S) (u v : S) (found_a : find (take l.count l.rows.now) a.number ≡ Some a) (found_b : find (take l.count l.rows.now) b.number ≡ Some b) (less : a.number < b.number) (alike : unlike a b ≡ false) (same : u ≡ v) (first : Stands one l (over (close b.number) (means l).core)) (second : Stands two one (over (change a.number (λ o. with_share u a)) (means one).core)) where
    pub both : Stands two l (over (change a.number (with_share v)) (over (close b.number) (means l).core))
    both = after (over (change a.number (with_share v))) (rewrote one two a.number a (with_share v) (still_found l one a b.number found_a (omega arith) first) (with_share u a) (ap (λ s. with_share s a) same) refl second) first

    pub united_orderly : (front : List (Lease S)) → front ≡ relend a.number b.number (take two.count two.rows.now) → ∥ Orderly (take two.count (front ++ drop two.count two.rows.now)) two.issued ∥₁
    united_orderly front is =
        let roll = take l.count l.rows.now in
        rw (united_roll two a b front is)
        (subst (λ (k : Core S). ∥ Orderly (relend a.number b.number k.roll) k.issued ∥₁) (sym both.core)
        (orderly_so roll _ _ l.issued l.issued l.orderly refl (orderly_merge a b roll l.issued less (alike_due a b alike) v (find_in roll a.number a found_a).0 (find_in roll b.number b found_b).0)))
