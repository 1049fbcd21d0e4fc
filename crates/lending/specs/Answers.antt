-- What the answers of the code say, in the words of the definitions.
use Rattle.std.specs.Prelude.{◌≡◌, ℕ, Ok, Err, Result}
use Rattle.lending.specs.declared.lease.Lease.{Lease}
use Rattle.lending.specs.declared.refusal.Reason.{Reason}
use Rattle.lending.specs.declared.refusal.Reason.TheVariants as reasons
use Rattle.lending.specs.declared.refusal.Refusal as code
use Rattle.lending.specs.Office.{Refusal}
use Rattle.lending.specs.Outcome.{Answer}
use Rattle.lending.specs.Outcome.Answer.{done, number, lease, refused}
use Rattle.lending.specs.Layers.{up}

-- the number of each reason
abbrev pub reason_number : Reason → ℕ
reason_number reasons.ResourceOutOfRange = 1
reason_number reasons.HolderOutOfRange = 2
reason_number reasons.ResourceIsOpen = 3
reason_number reasons.NumbersUsedUp = 4
reason_number reasons.NoRowFree = 5
reason_number reasons.NotLive = 6
reason_number reasons.DueDay = 7
reason_number reasons.DoesNotHalve = 8
reason_number reasons.LeaseUnderIt = 9
reason_number reasons.WrongOrder = 10
reason_number reasons.NotAlike = 11
reason_number reasons.SameHolder = 12
reason_number reasons.DayOutOfRange = 13
reason_number reasons.LeaseFallsDue = 14
reason_number reasons.NoSuchPosition = 15
reason_number reasons.OverQuota = 21
reason_number reasons.OverTerm = 22
reason_number reasons.ChainTooLong = 23

-- no two reasons have one number
abbrev pub NumbersTellReasonsApart : Type 0
NumbersTellReasonsApart = (a b : Reason) → reason_number a ≡ reason_number b → a ≡ b

-- a refusal of the code, in the words of the definitions
abbrev pub refusal_meant : code.Refusal → Refusal
refusal_meant f = record { number = reason_number f.reason; level = f.level }

-- a refusal of the code, of the office called
abbrev pub refused_here : Reason → code.Refusal
refused_here reason = record { reason = reason; level = 0 }

-- a refusal of the code as the next office passes it up
abbrev pub raised_refusal : code.Refusal → code.Refusal
raised_refusal f = record { reason = f.reason; level = up f.level }

module _ {S : Type 0} where
  -- what a call says that answers nothing,
  abbrev pub done_or_refused : Result (Unit {0}) code.Refusal → Answer S
  done_or_refused (Ok x) = done
  done_or_refused (Err f) = refused (refusal_meant f)

  -- a number,
  abbrev pub number_or_refused : Result ℕ code.Refusal → Answer S
  number_or_refused (Ok n) = number n
  number_or_refused (Err f) = refused (refusal_meant f)

  -- or a lease
  abbrev pub lease_or_refused : Result (Lease S) code.Refusal → Answer S
  lease_or_refused (Ok l) = lease l
  lease_or_refused (Err f) = refused (refusal_meant f)
