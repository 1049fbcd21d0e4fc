-- Events stepped one after another; and where objections follow from layers, what they come to is what is worked out.
use Rattle.std.proofs.Common.{◌≡◌, ℕ, zero, suc, ◌+◌, ◌<◌, Bool, List, [], ◌∷◌, ◌++◌, map, length, take, drop, Some, None, Ok, Err, Result, IfOk, refl, sym, ap, ap₂, ◌∙◌, subst, arith, append-nil}
use Rattle.std.specs.Prelude.{if◌then◌else◌, ◌*◌, slice_index}
use Rattle.std.proofs.lemmas.Bool.{lt-ltb}
use Rattle.std.proofs.lemmas.List.{map-append}
use Rattle.shares.specs.Kind.{Kind}
use Rattle.lending.specs.Office.{State}
use Rattle.lending.specs.Layers.{Layers, Follow}
use Rattle.lending.specs.Outcome.{Call, Outcome}
use Rattle.lending.specs.Outcome.Outcome.{refuses, tells, grants}
use Rattle.lending.specs.Perform.{perform, Ends, Does}
use Rattle.lending.specs.Play.{outcome_answer, state_after}
use Rattle.lending.specs.History.{Moment, Leads, EachCameTo}
use Rattle.lending.specs.Promise.{LendingConserved}
use Rattle.lending.proofs.Histories.{leads_on}
use Rattle.lending.proofs.Plays.{worked_call}
use Rattle.book.specs.declared.code.Code.{Code}
use Rattle.book.specs.declared.header.Header.{Header}
use Rattle.book.specs.declared.book.Book.{Book}
use Rattle.book.specs.Books.{opening, event_count, event_in, book_bytes}
use Rattle.book.specs.Events.{code_and_operands}
use Rattle.calls.specs.declared.list.Tallies.{Tallies}
use Rattle.office.specs.declared.office.Office.{Ghosts}
use Rattle.office.specs.Calls.{EachFollows}
use Rattle.calls.specs.Lists.{SomeOffice, all_closed, tallies_with}
use Rattle.calls.proofs.Following.{follows, each_follows}
use Rattle.replay.specs.declared.fault.Fault.{Fault}
use Rattle.replay.specs.declared.session.Reading.{Reading}
use Rattle.replay.specs.Faults.{RefusedEvent, refused_event, refused_event_in}
use Rattle.replay.specs.Events.{Next, event_at, if_opened, if_left, asks, next, next_by, call_of}
use Rattle.replay.specs.Events.Next.{nothing, no_call, a_call}
use Rattle.replay.specs.Steps.{Steps}
use Rattle.replay.specs.Whole.{Opens, Turn, refused_event_by, one_or_none, history, refusals, tallies_of, turn_on, run, RunConserved, Replay}
use Rattle.replay.specs.Whole.Turn.{stepped_over, call_made}
use Rattle.replay.specs.Replayed.{ComesTo, Events, Replayed, OneReplay}

-- a book's header has the count of its events
pub header_counts : (book : Book) → event_count (book_bytes book) ≡ book.header.events
header_counts book = omega arith

-- an event of a book that opens and has more
there : (b : List ℕ) (n i : ℕ) → Opens (opening b) n → i < event_count b → (e : ℕ × List ℕ) × (event_at b i ≡ Ok e)
unfolding event_at
there b n i opens less = go (opening b) opens
  where
    go : (r : Result Header ℕ) → Opens r n → (e : ℕ × List ℕ) × (if_opened r (if_left (event_in b i)) ≡ Ok e)
    go (Err k) o = absurd o
    go (Ok h) o = (_, ap if_left (ap (λ (t : Bool). if t then Some (slice_index b (8 + i), take 6 (drop (8 + event_count b + 6 * i) b)) else None) (lt-ltb i (event_count b) less)))

-- tallies with these counts
same_tallies : (x y : Tallies) → x.yielded ≡ y.yielded → x.merged ≡ y.merged → x.recalled ≡ y.recalled → x.lapsed ≡ y.lapsed → x ≡ y
same_tallies x y a b c d = λ i. record { yielded = a i; merged = b i; recalled = c i; lapsed = d i }

-- one moment more, with these tallies
counted_on : {S : Type 0} (m : Moment S) (es : List (Turn S)) (x : Tallies) → x ≡ tallies_of es → tallies_with x m.call m.answer ≡ tallies_of (call_made m ∷ es)
counted_on m es x e =
    let a = ap (λ (w : Tallies). w.yielded) e in
    let d = ap (λ (w : Tallies). w.merged) e in
    let f = ap (λ (w : Tallies). w.recalled) e in
    let g = ap (λ (w : Tallies). w.lapsed) e in
    same_tallies (tallies_with x m.call m.answer) (tallies_of (call_made m ∷ es)) (omega arith) (omega arith) (omega arith) (omega arith)

module _ {S : Type 0} (K : Kind S) where
  -- the calls of some events are a list of calls
  events_lead : (b : List ℕ) (es : List (Turn S)) (s t : State S) → Events K b es s t → Leads K s (history es) t
  events_lead b [] s t e = e
  events_lead b (e ∷ es) s t h = go (next b (length es)) e h.2 (events_lead b es s h.0 h.1)
    where
      go : (x : Next) (e : Turn S) → ComesTo K x e h.0 t → Leads K s (history es) h.0 → Leads K s (history (e ∷ es)) t
      go (nothing n) e c l = absurd c
      go (no_call n) (stepped_over k) c l = subst (λ (u : State S). Leads K s (history es) u) (sym c.1) l
      go (no_call n) (call_made m) c l = absurd c
      go (a_call n) (stepped_over k) c l = absurd c
      go (a_call n) (call_made m) c l = subst (λ (u : State S). Leads K s (history es) u × Does K u m.call m.answer t) (sym c.0) (l, subst (λ (w : Call). Does K h.0 w m.answer t) (sym c.1) c.2)

module _ {S : Type 0} (K : Kind S) (layers : Layers S) where
  -- an event that came to something, as it is worked out
  turn_worked : (x : Next) (e : Turn S) (es : List (Turn S)) (u t : State S) (p : List (Turn S) × State S) → ComesTo K x e u t → EachCameTo (Follow layers) (history (e ∷ es)) → Follow layers t → (EachCameTo (Follow layers) (history es) → Follow layers u → (es, u) ≡ p) → (e ∷ es, t) ≡ turn_on K layers x p
  turn_worked (nothing n) e es u t p c each f before = absurd c
  turn_worked (no_call n) (stepped_over k) es u t p c each f before =
      let q = before each (subst (Follow layers) c.1 f) in
      ap₂ (λ (j : ℕ) (w : State S). (stepped_over j ∷ es, w)) c.0 c.1 ∙ ap (λ (z : List (Turn S) × State S). (stepped_over n ∷ z.0, z.1)) q
  turn_worked (no_call n) (call_made m) es u t p c each f before = absurd c
  turn_worked (a_call n) (stepped_over k) es u t p c each f before = absurd c
  turn_worked (a_call n) (call_made m) es u t p c each f before =
      let q = before each.1 (subst (Follow layers) c.0 each.0) in
      let at : u ≡ p.1 = ap (λ (z : List (Turn S) × State S). z.1) q in
      let known = worked_call layers (perform K p.1 n) p.1 t m.answer f (subst (λ (w : State S). Does K w n m.answer t) at c.2) in
      let start : m.before ≡ p.1 = c.0 ∙ at in
      let moment : m ≡ record { before = p.1; call = n; answer = outcome_answer (perform K p.1 n) } = λ i. record { before = start i; call = c.1 i; answer = known.0 i } in
      ap₂ (λ (ys : List (Turn S)) (w : State S). (ys, w)) (ap₂ (λ (y : Moment S) (ys : List (Turn S)). call_made y ∷ ys) moment (ap (λ (z : List (Turn S) × State S). z.0) q)) known.1

  -- and so all of them
  events_worked : (b : List ℕ) (es : List (Turn S)) (s t : State S) → Events K b es s t → EachCameTo (Follow layers) (history es) → Follow layers t → (es, t) ≡ run K layers b s (length es)
  events_worked b [] s t e each f = ap (λ (w : State S). ([], w)) e
  events_worked b (e ∷ es) s t h each f = turn_worked (next b (length es)) e es h.0 t (run K layers b s (length es)) h.2 each f (λ k g. events_worked b es s h.0 h.1 k g)

  -- what is worked out is a list of calls
  run_leads : (b : List ℕ) (s : State S) (n : ℕ) → Leads K s (history (run K layers b s n).0) (run K layers b s n).1
  run_leads b s zero = refl
  run_leads b s (suc n) = go (next b n) (run K layers b s n) (run_leads b s n)
    where
      ends : (o : Outcome S) (t : State S) → Ends o t (outcome_answer o) (state_after layers o t)
      ends (refuses r) t = (refl, refl)
      ends (tells a) t = (refl, refl)
      ends (grants a u) t = (refl, refl)

      go : (x : Next) (p : List (Turn S) × State S) → Leads K s (history p.0) p.1 → Leads K s (history (turn_on K layers x p).0) (turn_on K layers x p).1
      go (nothing k) p l = l
      go (no_call k) p l = l
      go (a_call c) p l = (l, ends (perform K p.1 c) p.1)

  pub run_conserved : LendingConserved K → (b : List ℕ) (s : State S) (n : ℕ) → RunConserved K layers b s n
  run_conserved always b s n =
      let p = run K layers b s n in
      record {
        leads = run_leads b s n;
        from_empty = λ up. always s p.1 up (history p.0) (run_leads b s n);
        conserved = λ start up earlier before. always start p.1 up (history p.0 ++ earlier) (leads_on K start s p.1 (history p.0) earlier before (run_leads b s n));
      }

module _ {O S : Type 0} (K : Kind S) (it : Ghosts O S) (ls : Layers S) (follow : EachFollows it) where
  -- where objections follow from layers, a replay is what is worked out
  pub replayed_is_run : (b : List ℕ) (s : State S) (n : ℕ) (faults : List Fault) (tallies : Tallies) (t : State S) → SomeOffice it ls t → Replayed K (SomeOffice it ls) b s n faults tallies t → Replay K ls b s n faults tallies t
  replayed_is_run b s n faults tallies t f whole =
      let q = events_worked K ls b whole.turns s t whole.events (each_follows it ls follow (history whole.turns) whole.stood) (follows it ls follow t f) ∙ ap (run K ls b s) whole.every in
      let es = ap (λ (z : List (Turn S) × State S). z.0) q in
      record {
        every = ap length (sym es) ∙ whole.every;
        leaves = ap (λ (z : List (Turn S) × State S). z.1) q;
        refused = whole.refused ∙ ap refusals es;
        tallied = whole.tallied ∙ ap tallies_of es;
      }

  -- and so there is one
  pub one_replay : (b : List ℕ) (s : State S) (n : ℕ) → OneReplay K (SomeOffice it ls) b s n
  one_replay b s n t u faults others x y first f second g =
      let p = replayed_is_run b s n faults x t f first in
      let q = replayed_is_run b s n others y u g second in
      (p.leaves ∙ sym q.leaves, p.refused ∙ sym q.refused, p.tallied ∙ sym q.tallied)

module _ {S : Type 0} (K : Kind S) (Of : State S → Type 0) where
  -- the promise of some events
  replayed : LendingConserved K → (b : List ℕ) (s t : State S) (n : ℕ) (faults : List Fault) (tallies : Tallies) (es : List (Turn S)) → length es ≡ n → Events K b es s t → EachCameTo Of (history es) → map refused_event faults ≡ refusals es → tallies ≡ tallies_of es → Replayed K Of b s n faults tallies t
  replayed always b s t n faults tallies es every events stood refused tallied =
      let leads = events_lead K b es s t events in
      record {
        turns = es;
        every = every;
        events = events;
        stood = stood;
        refused = refused;
        tallied = tallied;
        from_empty = λ up. always s t up (history es) leads;
        conserved = λ start up earlier before. always start t up (history es ++ earlier) (leads_on K start s t (history es) earlier before leads);
      }

  pub none_read : LendingConserved K → (b : List ℕ) (s : State S) (tallies : Tallies) → all_closed tallies ≡ 0 → Replayed K Of b s 0 [] tallies s
  none_read always b s tallies none = replayed always b s s 0 [] tallies [] refl refl tt refl (same_tallies tallies (tallies_of {S = S} []) (omega arith) (omega arith) (omega arith) (omega arith))

  -- one event more
  pub one_more : LendingConserved K → (b : List ℕ) (s t u : State S) (m n : ℕ) (faults more : List Fault) (x y : Reading) (r : Result (Unit {0}) Fault) → Opens (opening b) m → n < event_count b → Replayed K Of b s n faults x.tallies t → x.done ≡ n → Of t → Steps K (next b x.done) t x r y u → map refused_event more ≡ map refused_event faults ++ one_or_none (refused_event_in r) → Replayed K Of b s (n + 1) more y.tallies u × (y.done ≡ n + 1)
  one_more always b s t u m n faults more x y r opens less so_far done here steps grows = by_event (there b m x.done opens (omega arith))
    where
      es : List (Turn S)
      es = so_far.turns

      place : x.done ≡ length es
      place = done ∙ sym so_far.every

      with : (turn : Turn S) → ComesTo K (next b x.done) turn t u → EachCameTo Of (history (turn ∷ es)) → refused_event_in r ≡ refused_event_by (x.done + 1) turn → y.tallies ≡ tallies_of (turn ∷ es) → Replayed K Of b s (n + 1) more y.tallies u
      with turn came stood named counts = replayed always b s u (n + 1) more y.tallies (turn ∷ es)
          (let k = so_far.every in omega arith)
          (t, so_far.events, subst (λ (j : ℕ). ComesTo K (next b j) turn t u) place came)
          stood
          (grows ∙ ap₂ (λ (a c : List RefusedEvent). a ++ c) so_far.refused (ap one_or_none (named ∙ ap (λ (k : ℕ). refused_event_by (k + 1) turn) place)))
          counts

      by_asked : (q : Result (Code × List ℕ) ℕ) → next b x.done ≡ asks q → Steps K (asks q) t x r y u → Replayed K Of b s (n + 1) more y.tallies u × (y.done ≡ n + 1)
      by_asked (Err k) is z = (
        with (stepped_over k) (subst (λ (w : Next). ComesTo K w (stepped_over k) t u) (sym is) (refl, z.1.2)) so_far.stood z.1.0 (z.1.1 ∙ so_far.tallied),
        let j = z.0 in omega arith,
      )
      by_asked (Ok v) is z =
          let c = call_of v.0 v.1 in
          let moment : Moment S = record { before = t; call = c; answer = z.1.answer } in (
            with (call_made moment) (subst (λ (w : Next). ComesTo K w (call_made moment) t u) (sym is) (refl, refl, z.1.does)) (here, so_far.stood) z.1.tells (z.1.counts ∙ counted_on moment es x.tallies so_far.tallied),
            let j = z.0 in omega arith,
          )

      by_event : (e : ℕ × List ℕ) × (event_at b x.done ≡ Ok e) → Replayed K Of b s (n + 1) more y.tallies u × (y.done ≡ n + 1)
      by_event found =
          let is = ap next_by found.1 in
          by_asked (code_and_operands found.0.0 found.0.1) is (subst (λ (q : Next). Steps K q t x r y u) is steps)

-- the faults with that of a step, if it was refused
pub one_fault : (faults more : List Fault) (r : Result (Unit {0}) Fault) (fault : Fault) → more ≡ faults ++ (fault ∷ []) → r ≡ Err fault → map refused_event more ≡ map refused_event faults ++ one_or_none (refused_event_in r)
one_fault faults more r fault pushed is = ap (map refused_event) pushed ∙ map-append refused_event faults (fault ∷ []) ∙ ap (λ (q : Result (Unit {0}) Fault). map refused_event faults ++ one_or_none (refused_event_in q)) (sym is)

pub no_fault : (faults : List Fault) (r : Result (Unit {0}) Fault) → ((fault : Fault) → r ≡ Err fault → ⊥) → map refused_event faults ≡ map refused_event faults ++ one_or_none (refused_event_in r)
no_fault faults (Ok x) none = sym (append-nil (map refused_event faults))
no_fault faults (Err fault) none = absurd (none fault refl)

-- what holds of an answer within an answer
pub both_ok : {A E F : Type 0} (r : Result (Result A E) F) (P Q : A → Type 0) → ((x : A) → P x → Q x) → IfOk r (λ o. IfOk o P) → IfOk r (λ o. IfOk o Q)
both_ok (Ok (Ok x)) P Q f h = f x h
both_ok (Ok (Err e)) P Q f h = h
both_ok (Err e) P Q f h = h
