-- No two reasons have one number.
use Rattle.std.proofs.Common.{◌≡◌, ℕ, cond, eqb, List, [], ◌∷◌, sym, refl, ap, ◌∙◌}
use Rattle.lending.specs.declared.refusal.Reason.{Reason}
use Rattle.lending.specs.declared.refusal.Reason.TheVariants.{ResourceOutOfRange, HolderOutOfRange, ResourceIsOpen, NumbersUsedUp, NoRowFree, NotLive, DueDay, DoesNotHalve, LeaseUnderIt, WrongOrder, NotAlike, SameHolder, DayOutOfRange, LeaseFallsDue, NoSuchPosition, OverQuota, OverTerm, ChainTooLong}
use Rattle.lending.specs.Answers.{reason_number, NumbersTellReasonsApart}

-- the first of some reasons that has the number
abbrev among : List Reason → ℕ → Reason
among [] n = ResourceOutOfRange
among (r ∷ rs) n = cond (eqb (reason_number r) n) r (among rs n)

abbrev of_number : ℕ → Reason
of_number = among (ResourceOutOfRange ∷ HolderOutOfRange ∷ ResourceIsOpen ∷ NumbersUsedUp ∷ NoRowFree ∷ NotLive ∷ DueDay ∷ DoesNotHalve ∷ LeaseUnderIt ∷ WrongOrder ∷ NotAlike ∷ SameHolder ∷ DayOutOfRange ∷ LeaseFallsDue ∷ NoSuchPosition ∷ OverQuota ∷ OverTerm ∷ ChainTooLong ∷ [])

back : (r : Reason) → of_number (reason_number r) ≡ r
back ResourceOutOfRange = refl
back HolderOutOfRange = refl
back ResourceIsOpen = refl
back NumbersUsedUp = refl
back NoRowFree = refl
back NotLive = refl
back DueDay = refl
back DoesNotHalve = refl
back LeaseUnderIt = refl
back WrongOrder = refl
back NotAlike = refl
back SameHolder = refl
back DayOutOfRange = refl
back LeaseFallsDue = refl
back NoSuchPosition = refl
back OverQuota = refl
back OverTerm = refl
back ChainTooLong = refl

pub numbers_tell_reasons_apart_lem : NumbersTellReasonsApart
numbers_tell_reasons_apart_lem a b e = sym (back a) ∙ ap of_number e ∙ back b
