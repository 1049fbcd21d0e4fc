-- What a printout shows can be read back.
use Rattle.std.specs.Prelude.{◌≡◌, ℕ, ◌<◌, ◌^◌, [], IfSome, IfNone}
use Rattle.std.specs.List.{AllByRecursion}
use Rattle.shares.specs.Text.{Lacks}
use Rattle.lines.specs.declared.line.totals.Totals.{Totals}
use Rattle.replay.specs.Faults.{RefusedEvent}
use Rattle.printout.specs.Contents.{LeaseEntry, Contents, printout_bytes}

-- 64 bits hold the number
abbrev pub Small : ℕ → Type 0
Small n = n < 2 ^ 64

-- The numbers of a refusal fit 64 bits.
pub record ReadableRefusal (x : RefusedEvent) : Type 0 where
  pub event : Small x.event
  pub number : Small x.number
  pub level : IfSome x.level Small

-- The numbers of a live lease fit 64 bits, and the text of its share has no line break.
pub record ReadableLease (x : LeaseEntry) : Type 0 where
  pub number : Small x.lease.number
  pub resource : Small x.lease.resource
  pub holder : Small x.lease.holder
  pub lender : Small x.lease.lender
  pub due : Small x.lease.due
  pub text : Lacks 10 x.lease.share

-- The totals fit 64 bits.
pub record ReadableTotals (x : Totals) : Type 0 where
  pub issued : Small x.issued
  pub live : Small x.live
  pub yielded : Small x.yielded
  pub merged : Small x.merged
  pub recalled : Small x.recalled
  pub lapsed : Small x.lapsed

-- Its numbers are those that 64 bits hold, its texts have no line break, and without totals it has no leases.
pub record IsReadable (p : Contents) : Type 0 where
  pub refusals : AllByRecursion ReadableRefusal p.refusals
  pub leases : AllByRecursion ReadableLease p.leases
  pub totals : IfSome p.totals ReadableTotals
  pub whole : IfNone p.totals (p.leases ≡ [])

-- A printout can be read back: the same bytes show the same.
abbrev pub OneContents : Type 0
OneContents = (p q : Contents) → IsReadable p → IsReadable q → printout_bytes p ≡ printout_bytes q → p ≡ q
