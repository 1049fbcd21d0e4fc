-- The calls, how a call ends, and the checks that refuse one.
use Rattle.std.specs.Prelude.{ℕ, min, Bool, true, false, if◌then◌else◌, List, [], ◌∷◌, Some, None, Option}
use Rattle.std.proofs.Math.Option as maybe
use Rattle.lending.specs.declared.lease.Lease.{Lease}
use Rattle.lending.specs.Limits.{most_layers}
use Rattle.lending.specs.Office.{Refusal, State}

-- The calls of every office; its questions, and the calls that stand over any office, from recall on.
pub data Call : Type 0 where
  open_resource : (resource holder : ℕ) → Call
  delegate : (lender holder due : ℕ) → Call
  yield : (lease : ℕ) → Call
  merge : (a b : ℕ) → Call
  assign : (lease holder : ℕ) → Call
  new_day : (day : ℕ) → Call
  ask_count : Call
  ask_issued : Call
  ask_today : Call
  ask_lease_at : (position : ℕ) → Call
  ask_lease : (lease : ℕ) → Call
  recall : (lease : ℕ) → Call
  day : (day : ℕ) → Call
  standing : (resource holder : ℕ) → Call
  -- hand in a slip that was drawn for the lease
  hand_in : (lease : ℕ) → Call

-- What a call answers: nothing, a number, a lease, a share or a refusal.
pub data Answer (S : Type 0) : Type 0 where
  done : Answer S
  number : ℕ → Answer S
  lease : Lease S → Answer S
  share : S → Answer S
  refused : Refusal → Answer S

-- How a call ends: refused; a question answered; or granted, with its answer and what the office then stands for.
pub data Outcome (S : Type 0) : Type 0 where
  refuses : Refusal → Outcome S
  tells : Answer S → Outcome S
  grants : Answer S → State S → Outcome S

-- An office of this depth refuses with this number: the level is the depth. Nobody piles more than 255 layers, and
-- there the levels end.
abbrev pub refused_at : ℕ → ℕ → Refusal
refused_at depth n = record { number = n; level = min depth most_layers }

-- the answer is a refusal
abbrev pub is_refused : {S : Type 0} → Answer S → Bool
is_refused (refused r) = true
is_refused a = false

module _ {S : Type 0} where
  -- Checks, each with its refusal's number. The first that fails refuses, as an office of this depth does.
  abbrev pub unless : ℕ → List (Bool × ℕ) → Outcome S → Outcome S
  unless depth [] o = o
  unless depth (c ∷ cs) o = if c.0 then refuses (refused_at depth c.1) else unless depth cs o

  -- an objection comes before the numbered checks
  abbrev pub unless_objected : Option Refusal → Outcome S → Outcome S
  unless_objected None o = o
  unless_objected (Some r) o = refuses r

  -- 6: the lease is not live
  abbrev pub need_live : ℕ → Option (Lease S) → (Lease S → Outcome S) → Outcome S
  need_live depth None f = refuses (refused_at depth 6)
  need_live depth (Some l) f = f l

  -- 8: the share does not halve
  abbrev pub need_halves : ℕ → Option (S × S) → (S → S → Outcome S) → Outcome S
  need_halves depth None f = refuses (refused_at depth 8)
  need_halves depth (Some h) f = f h.0 h.1

  -- 15: there is no such position
  abbrev pub tell_at : ℕ → maybe.Option (Lease S) → Outcome S
  tell_at depth maybe.none = refuses (refused_at depth 15)
  tell_at depth (maybe.some l) = tells (lease l)

  -- after a granted call go on with what the office then stands for; a refusal ends it
  abbrev pub and_then : Outcome S → (State S → Outcome S) → Outcome S
  and_then (refuses r) f = refuses r
  and_then (tells a) f = tells a
  and_then (grants a s) f = f s

  -- what was granted, with another answer
  abbrev pub answering : Answer S → Outcome S → Outcome S
  answering a o = and_then o (grants a)
