use Rattle.lending.proofs.Theorem.{lending_conserved, every_call_conserves, every_recall_takes_back, every_hand_in_takes_back, every_day_comes, every_standing_joins, every_standing_tells}
use Rattle.lending.proofs.promise.lending_is_conserved.Goals as goal

pub returns : goal.returns
returns g c =
    let K = g.S.Share.kind in
    let L = g.met.S.Share.laws in
    record {
      always = lending_conserved K L;
      each = every_call_conserves K L;
      recalls = every_recall_takes_back K L;
      hand_ins = every_hand_in_takes_back K L;
      days = every_day_comes K L;
      standings = every_standing_tells K L;
      joins = every_standing_joins K L;
    }
