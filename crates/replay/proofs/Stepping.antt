-- A refused step: the fault of the event, with its place in the book.
use Rattle.std.proofs.Common.{◌≡◌, ℕ, ◌+◌, List, Some, None, Option, Ok, Err, Result, refl, sym, ap, ◌∙◌, subst}
use Rattle.shares.specs.Kind.{Kind}
use Rattle.lending.specs.Office.{State}
use Rattle.lending.specs.Outcome.{Answer}
use Rattle.lending.specs.Outcome.Answer.{done, number, lease, share, refused}
use Rattle.book.specs.declared.code.Code.{Code}
use Rattle.book.specs.Events.{code_and_operands}
use Rattle.calls.specs.declared.list.Tallies.{Tallies}
use Rattle.replay.specs.declared.fault.Fault.{Fault}
use Rattle.replay.specs.declared.session.Reading.{Reading}
use Rattle.replay.specs.Faults.{RefusedEvent, refused_event_at}
use Rattle.replay.specs.Events.{event_at, asks, next, next_by}
use Rattle.replay.specs.Turns.{Comes, refused_in_place}
use Rattle.replay.specs.Steps.{Steps}

-- the same at another event
abbrev named : ℕ → Option RefusedEvent → Option RefusedEvent
named event None = None
named event (Some x) = Some (record { event = event; number = x.number; level = x.level })

named_answer : {S : Type 0} (event : ℕ) (a : Answer S) → named event (refused_event_at 0 a) ≡ refused_event_at event a
named_answer event done = refl
named_answer event (number n) = refl
named_answer event (lease l) = refl
named_answer event (share s) = refl
named_answer event (refused r) = refl

-- an event that was found is there
pub there : (r : Result (ℕ × List ℕ) ℕ) (x : ℕ × List ℕ) → Ok x ≡ refused_in_place r → r ≡ Ok x
there (Ok y) x e = cc
there (Err n) x e = cc

module _ {S : Type 0} (K : Kind S) where
  pub refused_step : (b : List ℕ) (byte : ℕ) (bytes : List ℕ) (s t : State S) (x y : Reading) (f : Fault) → Ok (byte, bytes) ≡ refused_in_place (event_at b x.done) → Comes K (asks (code_and_operands byte bytes)) 0 s x.tallies {A = Tallies} (Err f) x.tallies t → y.done ≡ x.done + 1 → y.tallies ≡ x.tallies → Steps K (next b x.done) s x (Err (record { event = x.done + 1; cause = f.cause })) y t
  refused_step b byte bytes s t x y f e comes d same =
      subst (λ (r : Result (ℕ × List ℕ) ℕ). Steps K (next_by r) s x (Err (record { event = x.done + 1; cause = f.cause })) y t)
      (sym (there (event_at b x.done) (byte, bytes) e)) (go (code_and_operands byte bytes) comes)
    where
      go : (r : Result (Code × List ℕ) ℕ) → Comes K (asks r) 0 s x.tallies {A = Tallies} (Err f) x.tallies t → Steps K (asks r) s x (Err (record { event = x.done + 1; cause = f.cause })) y t
      go (Err n) c = (d, (ap (named (x.done + 1)) c.0, same, c.2))
      go (Ok v) c = (
        d,
        record {
          answer = c.answer;
          does = c.does;
          tells = ap (named (x.done + 1)) c.tells ∙ named_answer (x.done + 1) c.answer;
          counts = same ∙ c.counts;
          conserved = c.conserved;
        },
      )
