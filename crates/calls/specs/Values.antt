-- What calls and answers say that are given as values.
use Rattle.std.specs.Prelude.{Ok, Err, Result}
use Rattle.lending.specs.declared.refusal.Refusal.{Refusal}
use Rattle.lending.specs.Outcome as office
use Rattle.lending.specs.Outcome.Call.{open_resource, delegate, yield, merge, assign, new_day, ask_count, ask_issued}
use Rattle.lending.specs.Outcome.Call.{ask_today, ask_lease_at, ask_lease, recall, day, standing, hand_in}
use Rattle.lending.specs.Outcome.Answer.{done, number, lease, share, refused}
use Rattle.lending.specs.Answers.{refusal_meant}
use Rattle.calls.specs.declared.call.Call.{Call}
use Rattle.calls.specs.declared.call.Call.TheVariants.{Open, Delegate, Yield, Merge, Assign, SetDay, Count, Issued}
use Rattle.calls.specs.declared.call.Call.TheVariants.{Today, LeaseAt, LeaseOf, Recall, Day, Standing, HandIn}
use Rattle.calls.specs.declared.call.Answer.{Answer}
use Rattle.calls.specs.declared.call.Answer.TheVariants as answers

-- the call that a value stands for
abbrev pub call_meant : Call → office.Call
call_meant (Open resource holder) = open_resource resource holder
call_meant (Delegate lender holder due) = delegate lender holder due
call_meant (Yield l) = yield l
call_meant (Merge a b) = merge a b
call_meant (Assign l holder) = assign l holder
call_meant (SetDay d) = new_day d
call_meant Count = ask_count
call_meant Issued = ask_issued
call_meant Today = ask_today
call_meant (LeaseAt position) = ask_lease_at position
call_meant (LeaseOf n) = ask_lease n
call_meant (Recall l) = recall l
call_meant (Day d) = day d
call_meant (Standing resource holder) = standing resource holder
call_meant (HandIn l) = hand_in l

module _ {S : Type 0} where
  -- the answer that a value stands for, or the refusal
  abbrev pub answer_meant : Result (Answer S) Refusal → office.Answer S
  answer_meant (Ok answers.Done) = done
  answer_meant (Ok (answers.Number n)) = number n
  answer_meant (Ok (answers.Lease l)) = lease l
  answer_meant (Ok (answers.Share s)) = share s
  answer_meant (Err r) = refused (refusal_meant r)
