use Rattle.std.proofs.Common.{refl, arith}
use Rattle.ledger.proofs.Ledgers.{stands, shorter, gap_closed, gap_orderly, gap_unused}
use Rattle.ledger.proofs.Places.{stays_closed}
use Rattle.ledger.proofs.ledger.Ledger.close.Goals as goal

-- the last row is no more part of the roll
pub invariant_of-self : goal.invariant_of-self
invariant_of-self g c = record { fits = let h = c.args.self.now.fits in omega arith; numbers = c.args.self.now.numbers; days = c.args.self.now.days; orderly = shorter c.args.self.now }

-- the rows behind the one that is closed have moved over it
pub invariant_of-self-in-Some : goal.invariant_of-self-in-Some
invariant_of-self-in-Some g c = record { fits = let h = c.args.self.now.fits in rw c.copy_within.ensures.len (omega arith); numbers = c.args.self.now.numbers; days = c.args.self.now.days; orderly = gap_orderly c.args.self.now c.args.number c.in-Some.place c.in-Some.ensures c.copy_within.new.self c.copy_within.ensures.after }

pub returns-in-Some : goal.returns-in-Some
returns-in-Some g c = stands _ c.args.self.now _ (gap_closed c.args.self.now c.args.number c.in-Some.place c.in-Some.ensures c.copy_within.new.self c.copy_within.ensures.after) c.copy_within.ensures.len (gap_unused c.args.self.now c.args.number c.in-Some.place c.in-Some.ensures c.copy_within.new.self c.copy_within.ensures.after) refl

pub returns-in_default : goal.returns-in_default
returns-in_default g c = stands _ _ _ (stays_closed c.args.number _ c.in_default.ensures) refl refl refl
