-- What a printout shows, and its bytes.
use Rattle.std.specs.Prelude.{ℕ, Bool, List, [], ◌∷◌, ◌++◌, length, map, Some, None, Option}
use Rattle.std.specs.List.{concat}
use Rattle.shares.specs.Kind.{Kind}
use Rattle.lending.specs.declared.lease.Lease.{Lease}
use Rattle.lending.specs.Office.{State}
use Rattle.calls.specs.declared.list.Tallies.{Tallies}
use Rattle.lines.specs.declared.line.totals.Totals.{Totals}
use Rattle.lines.specs.Lines.{refusal_line, lease_text, holder_may_write, total_line}
use Rattle.replay.specs.Faults.{RefusedEvent, without_level}

-- What the line of a live lease shows.
pub record LeaseEntry : Type 0 where
  -- the lease, with the text of its share in place of the share
  pub lease : Lease (List ℕ)
  -- its holder may write
  pub may_write : Bool

-- What a printout shows, of whichever kind of share. That of a book that doesn't open has no totals.
pub record Contents : Type 0 where
  pub refusals : List RefusedEvent
  pub leases : List LeaseEntry
  pub totals : Option Totals

-- the line of what a fault tells
abbrev pub line_of_refusal : RefusedEvent → List ℕ
line_of_refusal x = refusal_line x.event x.number x.level

-- the lines of refused events
abbrev pub refusal_lines : List RefusedEvent → List (List ℕ)
refusal_lines xs = map line_of_refusal xs

-- the line of a live lease
abbrev pub line_of_lease : LeaseEntry → List ℕ
line_of_lease x = lease_text (λ text. text) x.lease x.may_write

-- the lines of live leases
abbrev pub lease_lines : List LeaseEntry → List (List ℕ)
lease_lines xs = map line_of_lease xs

-- the line of the totals, if there are any
abbrev pub total_lines : Option Totals → List (List ℕ)
total_lines None = []
total_lines (Some totals) = total_line totals ∷ []

-- The lines of a printout, by what it shows: of the refused events, of the live leases, and of the totals.
abbrev pub printout_lines : Contents → List (List ℕ)
printout_lines p = refusal_lines p.refusals ++ lease_lines p.leases ++ total_lines p.totals

-- Its bytes are those lines, one after another.
abbrev pub printout_bytes : Contents → List ℕ
printout_bytes p = concat (printout_lines p)

-- a book that doesn't open is refused with this number
abbrev pub contents_unopened : ℕ → Contents
contents_unopened n = record { refusals = without_level 0 n ∷ []; leases = []; totals = None }

module _ {S : Type 0} where
  -- a lease of the roll
  abbrev pub lease_entry : Kind S → (S → List ℕ) → List (Lease S) → Lease S → LeaseEntry
  lease_entry K text roll l =
      record {
        lease = record {
          number = l.number;
          resource = l.resource;
          holder = l.holder;
          lender = l.lender;
          due = l.due;
          share = text l.share;
        };
        may_write = holder_may_write K roll l;
      }

  -- the live leases
  abbrev pub lease_entries : Kind S → (S → List ℕ) → List (Lease S) → List LeaseEntry
  lease_entries K text roll = map (lease_entry K text roll) roll

  -- what an office says at the end, and what was counted
  abbrev pub totals_of : Tallies → State S → Totals
  totals_of x t = record {
    issued = t.core.issued;
    live = length t.core.roll;
    yielded = x.yielded;
    merged = x.merged;
    recalled = x.recalled;
    lapsed = x.lapsed;
  }

  -- the refused events, what was counted, and what the office stands for at the end
  abbrev pub contents_opened : Kind S → (S → List ℕ) → List RefusedEvent → Tallies → State S → Contents
  contents_opened K text refused tallies t = record {
    refusals = refused;
    leases = lease_entries K text t.core.roll;
    totals = Some (totals_of tallies t);
  }
