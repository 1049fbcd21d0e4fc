-- What a write to a ledger's rows does to what it stands for.
use Rattle.std.proofs.Common.{◌≡◌, ℕ, ◌+◌, ◌-◌, ◌<◌, ◌≤◌, min, false, eqb, List, length, take, drop, set, sym, ap, ◌∙◌, arith, length-take, take-take, length-set, drop-set-lt}
use lib.Seq.{paste, take-set-lt}
use Rattle.std.proofs.lemmas.Bool.{eqb-false}
use Rattle.lending.specs.declared.lease.Lease.{Lease}
use Rattle.lending.specs.Limits.{most_rows}
use Rattle.lending.specs.Office.{Core}
use Rattle.lending.specs.Orderly.{Orderly}
use Rattle.lending.specs.Roll.{Rising, change, close}
use Rattle.lending.proofs.Order.{orderly_rises, orderly_so, orderly_close}
use Rattle.office.specs.Lawful.{unused}
use Rattle.ledger.specs.declared.ledger.Ledger.{Ledger}
use Rattle.ledger.specs.Rows.{Found}
use Rattle.ledger.specs.Means.{loan_of, Stands}
use Rattle.ledger.proofs.Fronts.{orderly_take}
use Rattle.ledger.proofs.Gaps.{gap_roll, gap_rest}

module _ {S : Type 0} where
  pub same_core : (xs ys : List (Lease S)) (i d c e : ℕ) → xs ≡ ys → c ≡ e → ◌≡◌ {A = Core S} (record { roll = xs; issued = i; today = d; capacity = c; depth = 0 }) (record { roll = ys; issued = i; today = d; capacity = e; depth = 0 })
  same_core xs ys i d c e p q = ap (λ (r : List (Lease S)). record { roll = r; issued = i; today = d; capacity = c; depth = 0 }) p ∙ ap (λ (r : ℕ). record { roll = ys; issued = i; today = d; capacity = r; depth = 0 }) q

  -- a ledger whose rows became another list of as many
  pub stands : (l was : Ledger S) (roll : List (Lease S)) → take l.count l.rows.now ≡ roll → length l.rows.now ≡ length was.rows.now → unused l.rows.now ≡ unused was.rows.now → loan_of l ≡ loan_of was → Stands l was (record { roll = roll; issued = l.issued; today = l.today; capacity = min most_rows (length was.rows.now); depth = 0 })
  stands l was roll holds len rest loan = record { core = same_core (take l.count l.rows.now) roll l.issued l.today (min most_rows (length l.rows.now)) (min most_rows (length was.rows.now)) holds (ap (min most_rows) len); rest = rest; loan = loan }

  module _ (l : Ledger S) where
    pub rises : Rising 0 (take l.count l.rows.now)
    rises = orderly_rises (take l.count l.rows.now) l.issued l.orderly

    pub used : length (take l.count l.rows.now) ≡ l.count
    used = simp length-take (let h = l.fits in omega arith)

    pub not_full : eqb (length (take l.count l.rows.now)) (min most_rows (length l.rows.now)) ≡ false → l.count < min most_rows (length l.rows.now)
    not_full e = let h = l.fits in let u = used in let n = eqb-false (length (take l.count l.rows.now)) (min most_rows (length l.rows.now)) e in omega arith

    -- a lease is written at a place of the roll
    module _ (n k : ℕ) (x : Lease S) (found : Found n (take l.count l.rows.now) k) where
      pub row_length : length (set l.rows.now k x) ≡ length l.rows.now
      row_length = simp length-set

      pub row_roll : take l.count (set l.rows.now k x) ≡ change n (λ o. x) (take l.count l.rows.now)
      row_roll = let h = found.within in let u = used in take-set-lt l.count l.rows.now k x (omega arith) ∙ sym (found.changes (λ o. x) x)

      pub row_rest : unused (set l.rows.now k x) ≡ unused l.rows.now
      row_rest = let h = found.within in let u = used in let f = l.fits in drop-set-lt 1024 l.rows.now k x (omega arith)

    -- the roll without its last lease
    pub shorter : ∥ Orderly (take (l.count - 1) l.rows.now) l.issued ∥₁
    shorter = orderly_so (take l.count l.rows.now) (take (l.count - 1) (take l.count l.rows.now)) (take (l.count - 1) l.rows.now) l.issued l.issued l.orderly (sym (take-take (l.count - 1) l.count l.rows.now (omega arith))) (orderly_take (l.count - 1) (take l.count l.rows.now) l.issued)

    -- the rows behind a lease are moved over it
    module _ (n k : ℕ) (found : Found n (take l.count l.rows.now) k) (moved : List (Lease S)) (is : moved ≡ paste l.rows.now k (drop (k + 1) l.rows.now) (l.count - (k + 1))) where
      within : k < l.count
      within = let h = found.within in let u = used in omega arith

      le : l.count ≤ length l.rows.now
      le = let h = l.fits in omega arith

      pub gap_closed : take (l.count - 1) moved ≡ close n (take l.count l.rows.now)
      gap_closed = ap (take (l.count - 1)) is ∙ gap_roll l.rows.now l.count k within le ∙ sym found.closes

      pub gap_orderly : ∥ Orderly (take (l.count - 1) moved) l.issued ∥₁
      gap_orderly = orderly_so (take l.count l.rows.now) (close n (take l.count l.rows.now)) (take (l.count - 1) moved) l.issued l.issued l.orderly gap_closed (orderly_close n (take l.count l.rows.now) l.issued)

      pub gap_unused : unused moved ≡ unused l.rows.now
      gap_unused = ap (drop 1024) is ∙ gap_rest l.rows.now l.count k within le 1024 (let h = l.fits in omega arith)
