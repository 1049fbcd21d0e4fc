use Rattle.std.proofs.Common.{◌≡◌, ℕ, None, Some, Ok, Err, Result, arith, ap}
use Rattle.std.specs.Prelude.{if◌then◌else◌}
use Rattle.std.proofs.lemmas.Bool.{le-ltb}
use Rattle.book.specs.declared.header.Header.{Header}
use Rattle.book.specs.Books.{opening}
use Rattle.replay.specs.Events.{finishing}
use Rattle.replay.specs.Faults.{without_level}
use Rattle.replay.specs.Whole.{Opens}
use Rattle.replay.proofs.whole.read_book.Goals as goal

-- once every event is done, nothing refuses the end
ended : (r : Result Header ℕ) (n done : ℕ) → Opens r n → done ≡ n → finishing r done ≡ None
ended (Err k) n done opens all = absurd opens
ended (Ok header) n done opens all = ap (λ b. if b then Some (without_level 0 49) else None) (le-ltb done header.events (omega arith))

pub returns-in-Err-finish : goal.returns-in-Err-finish
returns-in-Err-finish g c =
    let none = ended (opening c.args.book.now) c.in-Ok.events c.read_events-session.result.done c.in-Ok.ensures.opens c.read_events-session.ensures.done in
    let some = c.in-Err-finish.ensures.0 in
    absurd (let z : ◌≡◌ {A = ℕ} 0 1 = cc in omega arith)
