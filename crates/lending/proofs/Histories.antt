-- Lists of calls one after another.
use Rattle.std.proofs.Common.{List, [], ◌∷◌, ◌++◌, sym, subst}
use Rattle.shares.specs.Kind.{Kind}
use Rattle.lending.specs.Office.{State}
use Rattle.lending.specs.History.{Moment, Leads}

-- calls that lead on from where earlier ones led make one list with them
pub leads_on : {S : Type 0} (K : Kind S) (start s t : State S) (ms earlier : List (Moment S)) → Leads K start earlier s → Leads K s ms t → Leads K start (ms ++ earlier) t
leads_on {S} K start s t [] earlier before e = subst (λ (u : State S). Leads K start earlier u) (sym e) before
leads_on K start s t (m ∷ ms) earlier before e = (leads_on K start s m.before ms earlier before e.0, e.1)
