-- How a call is written, by its name and its numbers.
use Rattle.std.specs.Prelude.{ℕ, List, [], ◌∷◌, ◌++◌, codes, flat_map}
use Rattle.std.specs.Fmt.{decimal}
use Rattle.calls.specs.declared.call.Call.{Call}
use Rattle.calls.specs.declared.call.Call.TheVariants.{Open, Delegate, Yield, Merge, Assign, SetDay, Count, Issued}
use Rattle.calls.specs.declared.call.Call.TheVariants.{Today, LeaseAt, LeaseOf, Recall, Day, Standing, HandIn}

-- the name of a call
abbrev pub call_name : Call → List ℕ
call_name (Open resource holder) = codes "open"
call_name (Delegate lender holder due) = codes "delegate"
call_name (Yield l) = codes "yield"
call_name (Merge a b) = codes "merge"
call_name (Assign l holder) = codes "assign"
call_name (SetDay day) = codes "set_day"
call_name Count = codes "count"
call_name Issued = codes "issued"
call_name Today = codes "today"
call_name (LeaseAt position) = codes "lease_at"
call_name (LeaseOf n) = codes "lease"
call_name (Recall l) = codes "recall"
call_name (Day d) = codes "day"
call_name (Standing resource holder) = codes "standing"
call_name (HandIn l) = codes "hand_in"

-- the numbers of a call
abbrev pub call_numbers : Call → List ℕ
call_numbers (Open resource holder) = resource ∷ holder ∷ []
call_numbers (Delegate lender holder due) = lender ∷ holder ∷ due ∷ []
call_numbers (Yield l) = l ∷ []
call_numbers (Merge a b) = a ∷ b ∷ []
call_numbers (Assign l holder) = l ∷ holder ∷ []
call_numbers (SetDay day) = day ∷ []
call_numbers Count = []
call_numbers Issued = []
call_numbers Today = []
call_numbers (LeaseAt position) = position ∷ []
call_numbers (LeaseOf n) = n ∷ []
call_numbers (Recall l) = l ∷ []
call_numbers (Day d) = d ∷ []
call_numbers (Standing resource holder) = resource ∷ holder ∷ []
call_numbers (HandIn l) = l ∷ []

-- numbers in decimal, each after a blank
abbrev pub numbers_text : List ℕ → List ℕ
numbers_text numbers = flat_map (λ n. codes " " ++ decimal n) numbers

-- the call as it is written
abbrev pub call_text : Call → List ℕ
call_text call = call_name call ++ numbers_text (call_numbers call)
