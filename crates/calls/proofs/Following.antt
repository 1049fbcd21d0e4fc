-- Where objections follow from the layers, what was made is what is played.
use Rattle.std.proofs.Common.{◌≡◌, List, [], ◌∷◌, ap, ◌∙◌, subst}
use Rattle.shares.specs.Kind.{Kind}
use Rattle.lending.specs.Office.{State}
use Rattle.lending.specs.Layers.{Layers, Follow}
use Rattle.lending.specs.Play.{play}
use Rattle.lending.specs.History.{Moment, EachCameTo, yielded, merged, recalled, lapsed}
use Rattle.lending.proofs.Plays.{worked_list}
use Rattle.office.specs.declared.office.Office.{Ghosts}
use Rattle.calls.specs.declared.call.Call.{Call}
use Rattle.calls.specs.declared.list.Tallies.{Tallies}
use Rattle.calls.specs.Lists.{CallsMade, SomeOffice, ListMade}
use Rattle.calls.specs.Plays.{CallsPlayed, ListPlayed}

module _ {O S : Type 0} (it : Ghosts O S) (ls : Layers S) (follow : (o : O) → Follow (it.layers o) (it.meaning o)) where
  -- a state that an office with these layers stands for follows from them
  pub follows : (s : State S) → SomeOffice it ls s → Follow ls s
  follows s h = subst (λ (x : State S). Follow ls x) h.1 (subst (λ (l : Layers S). Follow l (it.meaning h.0)) h.2 (follow h.0))

  pub each_follows : (ms : List (Moment S)) → EachCameTo (SomeOffice it ls) ms → EachCameTo (Follow ls) ms
  each_follows [] each = tt
  each_follows (m ∷ ms) each = (follows m.before each.0, each_follows ms each.1)

module _ {O S : Type 0} (K : Kind S) (it : Ghosts O S) (ls : Layers S) (follow : (o : O) → Follow (it.layers o) (it.meaning o)) where
  pub made_is_played : (s : State S) (calls : List Call) (tallies : Tallies) (t : State S) → Follow ls t → CallsMade K (SomeOffice it ls) s calls tallies t → CallsPlayed K ls s calls tallies t
  made_is_played s calls tallies t f made =
      let e = worked_list ls K s made.history t made.leads (each_follows it ls follow made.history made.stood) f ∙ ap (play K ls s) made.in_order in
      let ms = ap (λ (x : List (Moment S) × State S). x.0) e in
      record {
        leaves = ap (λ (x : List (Moment S) × State S). x.1) e;
        yields = made.yields ∙ ap yielded ms;
        merges = made.merges ∙ ap merged ms;
        recalls = made.recalls ∙ ap recalled ms;
        lapses = made.lapses ∙ ap lapsed ms;
      }

module _ {O S : Type 0} (K : Kind S) (it : Ghosts O S) where
  pub list_played : (before after : O) (calls : List Call) (tallies : Tallies) → ListMade K it before calls tallies after → it.layers after ≡ it.layers before → ListPlayed K it before calls tallies after
  list_played before after calls tallies made same follow = made_is_played K it (it.layers before) follow (it.meaning before) calls tallies (it.meaning after) (subst (λ (l : Layers S). Follow l (it.meaning after)) same (follow after)) made
