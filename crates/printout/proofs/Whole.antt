-- The parts of a printout put together.
use Rattle.std.proofs.Common.{◌≡◌, ℕ, List, [], ◌∷◌, ◌++◌, map, length, take, drop, ◌-◌, length-drop, Bool, true, false, IsErr, append-nil, Ok, Err, Some, None, Result, refl, sym, ap, ap₂, ◌∙◌, subst, arith}
use Rattle.shares.specs.Kind.{Kind}
use Rattle.lending.specs.Office.{State}
use Rattle.lending.specs.Layers.{Layers}
use Rattle.book.specs.declared.header.Header.{Header}
use Rattle.book.specs.Books.{opening, event_count}
use Rattle.calls.specs.declared.list.Tallies.{Tallies}
use Rattle.replay.specs.declared.fault.Fault.{Fault}
use Rattle.replay.specs.Faults.{RefusedEvent, refused_event, without_level}
use Rattle.replay.specs.Whole.{refusals, tallies_of, run, Replay, opening_refused}
use Rattle.printout.specs.Printouts.{contents_by, contents, refused_events_by, state_left_by}
use Rattle.printout.specs.Readable.{IsReadable}
use Rattle.printout.specs.Contents.{Contents, line_of_refusal, contents_opened, printout_bytes}

module _ {A : Type 0} where
  take_whole : (xs : List A) → take (length xs) xs ≡ xs
  take_whole [] = refl
  take_whole (x ∷ xs) = ap (λ (ys : List A). x ∷ ys) (take_whole xs)

  -- all that is left after the first ones
  rest_taken : (xs : List A) (n : ℕ) → take (length xs - n) (drop n xs) ≡ drop n xs
  rest_taken xs n = ap (λ (k : ℕ). take k (drop n xs)) (sym (length-drop n xs)) ∙ take_whole (drop n xs)

-- a book that opens is not refused
pub not_refused : {A : Type 0} (x : Result Header ℕ) → None ≡ opening_refused x → IsErr x → A
not_refused (Ok header) e err = absurd (let z : ◌≡◌ {A = Bool} false true = err in cc)
not_refused (Err n) e err = absurd (let z : ◌≡◌ {A = ℕ} 0 1 = cc in omega arith)

-- what is shown of a book that doesn't open
abbrev pub shown_of_refusal : RefusedEvent → Contents
shown_of_refusal refused_event = record { refusals = refused_event ∷ []; leases = []; totals = None }

-- its only line
pub refusal_text : (refused_event : RefusedEvent) → line_of_refusal refused_event ≡ printout_bytes (shown_of_refusal refused_event)
refusal_text refused_event = sym (append-nil _)

module _ {S : Type 0} (K : Kind S) (layers : Layers S) (text : S → List ℕ) (b : List ℕ) (s : State S) where
  -- a book that opens
  pub opened_shows : (x : Result Header ℕ) → None ≡ opening_refused x → (faults : List Fault) (tallies : Tallies) (t : State S) → Replay K layers b s (event_count b) faults tallies t → contents_opened K text (map refused_event faults) tallies t ≡ contents_by K layers x text b s
  opened_shows (Ok header) e faults tallies t r =
      let p = run K layers b s (event_count b) in
      ap (λ (xs : List RefusedEvent). contents_opened K text xs tallies t) r.refused ∙ ap (λ (x : Tallies). contents_opened K text (refusals p.0) x t) r.tallied ∙ ap (contents_opened K text (refusals p.0) (tallies_of p.0)) r.leaves
  opened_shows (Err n) e faults tallies t r = absurd (let z : ◌≡◌ {A = ℕ} 0 1 = cc in omega arith)

  pub opened_leaves : (x : Result Header ℕ) → None ≡ opening_refused x → (t : State S) → t ≡ (run K layers b s (event_count b)).1 → t ≡ state_left_by K layers x b s
  opened_leaves (Ok header) e t l = l
  opened_leaves (Err n) e t l = absurd (let z : ◌≡◌ {A = ℕ} 0 1 = cc in omega arith)

  pub opened_refuses : (x : Result Header ℕ) → None ≡ opening_refused x → (xs : List RefusedEvent) → xs ≡ refusals (run K layers b s (event_count b)).0 → xs ≡ refused_events_by K layers x b s
  opened_refuses (Ok header) e xs l = l
  opened_refuses (Err n) e xs l = absurd (let z : ◌≡◌ {A = ℕ} 0 1 = cc in omega arith)

  -- what a replay's faults and counts show, where the faults were added behind others
  pub replay_shows : None ≡ opening_refused (opening b) → (all there : List Fault) (n earlier : ℕ) (closed tallies : Tallies) (t : State S) → there ≡ all → earlier ≡ n → tallies ≡ closed → Replay K layers b s (event_count b) (drop n all) closed t
      → contents_opened K text (map refused_event (take (length there - earlier) (drop earlier there))) tallies t ≡ contents_by K layers (opening b) text b s
  replay_shows o all there n earlier closed tallies t is from counts r =
      ap (λ (xs : List Fault). contents_opened K text (map refused_event xs) tallies t) (rest_taken there earlier ∙ ap₂ (λ (k : ℕ) (xs : List Fault). drop k xs) from is)
      ∙ ap (λ (x : Tallies). contents_opened K text (map refused_event (drop n all)) x t) counts
      ∙ opened_shows (opening b) o (drop n all) closed t r

  -- a book that doesn't open
  pub unopened_shows : (x : Result Header ℕ) (refused_event : RefusedEvent) → Some refused_event ≡ opening_refused x → shown_of_refusal refused_event ≡ contents_by K layers x text b s
  unopened_shows (Ok header) refused_event e = absurd (let z : ◌≡◌ {A = ℕ} 0 1 = cc in omega arith)
  unopened_shows (Err n) refused_event e = let f : refused_event ≡ without_level 0 n = cc in ap shown_of_refusal f

  pub unopened_leaves : (x : Result Header ℕ) (refused_event : RefusedEvent) → Some refused_event ≡ opening_refused x → s ≡ state_left_by K layers x b s
  unopened_leaves (Ok header) refused_event e = absurd (let z : ◌≡◌ {A = ℕ} 0 1 = cc in omega arith)
  unopened_leaves (Err n) refused_event e = refl

  pub unopened_refuses : (x : Result Header ℕ) (refused_event : RefusedEvent) → Some refused_event ≡ opening_refused x → [] ≡ refused_events_by K layers x b s
  unopened_refuses (Ok header) refused_event e = absurd (let z : ◌≡◌ {A = ℕ} 0 1 = cc in omega arith)
  unopened_refuses (Err n) refused_event e = refl

-- what stands of one pile stands of another with the same layers that stands for the same
module _ {S : Type 0} (K : Kind S) (text : S → List ℕ) (b : List ℕ) {l k : Layers S} {s t : State S} (e : l ≡ k) (f : s ≡ t) where
  over : contents K l text b s ≡ contents K k text b t
  over = ap₂ (λ (x : Layers S) (y : State S). contents K x text b y) e f

  pub printed_over : (before out : List ℕ) → before ≡ [] → out ≡ before ++ printout_bytes (contents K l text b s) → out ≡ printout_bytes (contents K k text b t)
  printed_over before out none is = is ∙ ap (λ (xs : List ℕ). xs ++ printout_bytes (contents K l text b s)) none ∙ ap printout_bytes over

  pub readable_over : IsReadable (contents K l text b s) → IsReadable (contents K k text b t)
  readable_over p = subst IsReadable over p
