-- Calls made through the house's layers over an office.
use Rattle.std.proofs.Common.{◌≡◌, ℕ, List, ap, ap₂, subst, ◌∙◌, refl, map, reverse}
use Rattle.shares.specs.Kind.{Kind}
use Rattle.lending.specs.Office.{State}
use Rattle.lending.specs.Layers.{Layers}
use Rattle.lending.specs.Promise.{Conserved, LendingConserved}
use Rattle.lending.proofs.Plays.{plays_are_histories_lem}
use Rattle.calls.specs.declared.call.Call.{Call}
use Rattle.calls.specs.declared.list.Tallies.{Tallies}
use Rattle.calls.specs.Values.{call_meant}
use Rattle.calls.specs.Plays.{CallsPlayed}
use Rattle.calls.specs.Plays.{play_in_turn}
use Rattle.pile.specs.House.{house_layers}
use Rattle.lender.specs.NewOffice.{new_office, play_at_new}

module _ {S : Type 0} where
  module _ (K : Kind S) where
    pub played_there : (ls others : Layers S) (s v t : State S) (calls : List Call) (tallies : Tallies) → ls ≡ others → s ≡ v → CallsPlayed K ls s calls tallies t → CallsPlayed K others v calls tallies (play_in_turn K others v calls).1
    played_there ls others s v t calls tallies e f p = subst (λ (l : Layers S). CallsPlayed K l v calls tallies (play_in_turn K l v calls).1) e (subst (λ (x : State S). CallsPlayed K ls x calls tallies (play_in_turn K ls x calls).1) f
        record {
          leaves = refl;
          yields = p.yields;
          merges = p.merges;
          recalls = p.recalls;
          lapses = p.lapses;
        })

    pub roll_there : (ls others : Layers S) (s v t : State S) (calls : List Call) (tallies : Tallies) → ls ≡ others → s ≡ v → CallsPlayed K ls s calls tallies t → t.core.roll ≡ (play_in_turn K others v calls).1.core.roll
    roll_there ls others s v t calls tallies e f p = ap (λ (x : State S). x.core.roll) (p.leaves ∙ ap₂ (λ (l : Layers S) (x : State S). (play_in_turn K l x calls).1) e f)

    pub made_conserved : LendingConserved K → (quota term chain rows : ℕ) (calls : List Call) → Conserved K (play_at_new K quota term chain rows calls).0 (play_at_new K quota term chain rows calls).1
    made_conserved always quota term chain rows calls =
        let ls = house_layers quota term chain in
        let s = new_office quota term chain rows in
        let cs = reverse (map call_meant calls) in
        always s (play_at_new K quota term chain rows calls).1 (record { no_leases = refl; none_issued = refl; first_day = refl }) (play_at_new K quota term chain rows calls).0 (plays_are_histories_lem K ls s cs)
