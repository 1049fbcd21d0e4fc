-- Calls made one after another.
use Rattle.std.proofs.Common.{◌≡◌, ◌+◌, ◌<◌, ◌≤◌, ◌^◌, Some, None, Option, MatchOption, List, [], ◌∷◌, ◌++◌, map, refl, sym, ap, ◌∙◌, reverse, arith}
use Rattle.std.proofs.lemmas.List.{map-append, reverse-append}
use Rattle.shares.specs.Kind.{Kind}
use Rattle.lending.specs.declared.lease.Lease.{Lease}
use Rattle.lending.specs.Limits.{most_rows, last_number}
use Rattle.lending.specs.Office.{State}
use Rattle.lending.specs.Outcome as office
use Rattle.lending.specs.Perform.{Does}
use Rattle.lending.specs.History.{Moment, Leads}
use Rattle.lending.specs.Promise.{LendingConserved}
use Rattle.lending.proofs.Counting.{list_counts}
use Rattle.lending.proofs.Histories.{leads_on}
use Rattle.office.specs.Lawful.{Lawful}
use Rattle.calls.specs.declared.call.Call.{Call}
use Rattle.calls.specs.declared.list.Tallies.{Tallies}
use Rattle.calls.specs.Values.{call_meant}
use Rattle.calls.specs.Lists.{CallsMade, all_closed, TooLarge, tallies_with}

-- tallies that are few in all are counted
pub few_fit : (r : Option Tallies) (t : Tallies) → MatchOption r (TooLarge t) (λ after. after ≡ t) → all_closed t < 2 ^ 64 → r ≡ Some t
few_fit None t m few = absurd (m (omega (arith, few), omega (arith, few), omega (arith, few), omega (arith, few)))
few_fit (Some after) t m few = ap Some m

module _ {S : Type 0} (K : Kind S) (Of : State S → Type 0) where
  -- before the first call
  abbrev pub none_made : LendingConserved K → (s : State S) (tallies : Tallies) → all_closed tallies ≡ 0 → CallsMade K Of s [] tallies s
  none_made always s tallies none = record {
    history = [];
    in_order = refl;
    leads = refl;
    stood = tt;
    yields = omega arith;
    merges = omega arith;
    recalls = omega arith;
    lapses = omega arith;
    from_empty = λ up. always s s up [] refl;
    conserved = λ start up earlier before. always start s up earlier before;
  }

  -- one call more
  abbrev pub one_more : LendingConserved K → (s t u : State S) (calls : List Call) (call : Call) (a : office.Answer S) (tallies : Tallies) → CallsMade K Of s calls tallies t → Does K t (call_meant call) a u → Of t → CallsMade K Of s (calls ++ (call ∷ [])) (tallies_with tallies (call_meant call) a) u
  one_more always s t u calls call a tallies made does here =
      let ms : List (Moment S) = record { before = t; call = call_meant call; answer = a } ∷ made.history in
      let leads : Leads K s ms u = (made.leads, does) in
      record {
        history = ms;
        in_order = ap (λ cs. call_meant call ∷ cs) made.in_order ∙ sym (ap reverse (map-append call_meant calls (call ∷ [])) ∙ reverse-append (map call_meant calls) (call_meant call ∷ []));
        leads = leads;
        stood = (here, made.stood);
        yields = let e = made.yields in omega arith;
        merges = let e = made.merges in omega arith;
        recalls = let e = made.recalls in omega arith;
        lapses = let e = made.lapses in omega arith;
        from_empty = λ up. always s u up ms leads;
        conserved = λ start up earlier before. always start u up (ms ++ earlier) (leads_on K start s u ms earlier before leads);
      }

  -- what some calls closed was live when they began, or was issued by them
  pub few_closed : (s t : State S) (rows rows' : List (Lease S)) → Lawful s rows → Lawful t rows' → (calls : List Call) (tallies : Tallies) → CallsMade K Of s calls tallies t → all_closed tallies ≤ most_rows + last_number
  few_closed s t rows rows' l l' calls tallies made =
      let h = list_counts K s t made.history made.leads in
      let a = made.yields in let b = made.merges in let c = made.recalls in let d = made.lapses in
      let fits = l.fits in let capacity = l.capacity in let numbers = l'.numbers in
      omega arith
