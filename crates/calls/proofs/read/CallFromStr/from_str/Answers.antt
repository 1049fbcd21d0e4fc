use Rattle.std.proofs.Common.{refl, sym, ap, ◌∙◌, subst, IsUtf8, is_err, is_ok}
use Rattle.std.proofs.lemmas.Bool.{false≢true}
use Rattle.calls.specs.Reading.{words_of}
use Rattle.calls.proofs.Words.{word_off, none_off}
use Rattle.calls.proofs.Said.{stuck, passed, no_name, no_numbers, too_many, just}
use Rattle.calls.proofs.Written.{reads_back}
use Rattle.calls.proofs.read.CallFromStr.from_str.Goals as goal

pub returns-in_default : goal.returns-in_default
returns-in_default c =
    let rest = c.split_whitespace-words.ensures.rest in
    let u = subst IsUtf8 (sym rest) c.utf8.text in
    reads_back c.args.text.now _ c.utf8.text (no_name c.args.text.now _ refl (ap words_of (sym rest) ∙ (none_off c.split_whitespace-words.result c.next.new.self u c.in_default.ensures.steps).1))

pub next_number-requires : goal.next_number-requires
next_number-requires c =
    let u = subst IsUtf8 (sym c.split_whitespace-words.ensures.rest) c.utf8.text in
    (word_off c.split_whitespace-words.result c.next.new.self c.in-Some.name u c.in-Some.ensures.steps).0

pub returns-in_err-first : goal.returns-in_err-first
returns-in_err-first c =
    let rest = c.split_whitespace-words.ensures.rest in
    let u = subst IsUtf8 (sym rest) c.utf8.text in
    let w = (word_off c.split_whitespace-words.result c.next.new.self c.in-Some.name u c.in-Some.ensures.steps).1 in
    reads_back c.args.text.now _ c.utf8.text (no_numbers c.args.text.now c.in-Some.name.now _ _ c.from_residual.ensures.0 (ap words_of (sym rest) ∙ w) (stuck c.next_number.result _ _ c.next_number.ensures.number (ap is_err c.in_err-first.was)))

pub returns-in_err-second : goal.returns-in_err-second
returns-in_err-second c =
    let rest = c.split_whitespace-words.ensures.rest in
    let u = subst IsUtf8 (sym rest) c.utf8.text in
    let w = (word_off c.split_whitespace-words.result c.next.new.self c.in-Some.name u c.in-Some.ensures.steps).1 in
    reads_back c.args.text.now _ c.utf8.text (no_numbers c.args.text.now c.in-Some.name.now _ _ c.from_residual-in_err-second.ensures.0 (ap words_of (sym rest) ∙ w) (passed c.next_number.result _ _ c.next_number.ensures.number (stuck c.next_number-2.result _ _ c.next_number-2.ensures.number (ap is_err c.in_err-second.was))))

pub returns-in_err-third : goal.returns-in_err-third
returns-in_err-third c =
    let rest = c.split_whitespace-words.ensures.rest in
    let u = subst IsUtf8 (sym rest) c.utf8.text in
    let w = (word_off c.split_whitespace-words.result c.next.new.self c.in-Some.name u c.in-Some.ensures.steps).1 in
    reads_back c.args.text.now _ c.utf8.text (no_numbers c.args.text.now c.in-Some.name.now _ _ c.from_residual-in_err-third.ensures.0 (ap words_of (sym rest) ∙ w) (passed c.next_number.result _ _ c.next_number.ensures.number (passed c.next_number-2.result _ _ c.next_number-2.ensures.number (stuck c.next_number-3.result _ _ c.next_number-3.ensures.number (ap is_err c.in_err-third.was)))))

pub no_word_left-requires : goal.no_word_left-requires
no_word_left-requires c = c.next_number-3.ensures.text

pub returns-in_err-no_word_left : goal.returns-in_err-no_word_left
returns-in_err-no_word_left c =
    let rest = c.split_whitespace-words.ensures.rest in
    let u = subst IsUtf8 (sym rest) c.utf8.text in
    let w = (word_off c.split_whitespace-words.result c.next.new.self c.in-Some.name u c.in-Some.ensures.steps).1 in
    reads_back c.args.text.now _ c.utf8.text (too_many c.args.text.now c.in-Some.name.now _ _ _ _ c.next_number.result c.next_number-2.result c.next_number-3.result (ap words_of (sym rest) ∙ w) c.next_number.ensures.number c.next_number-2.ensures.number c.next_number-3.ensures.number _ c.from_residual-in_err-no_word_left.ensures.0 (λ e. false≢true (sym (ap is_ok c.in_err-no_word_left.was) ∙ c.no_word_left.ensures.1 e)))

pub returns : goal.returns
returns c =
    let rest = c.split_whitespace-words.ensures.rest in
    let u = subst IsUtf8 (sym rest) c.utf8.text in
    let w = (word_off c.split_whitespace-words.result c.next.new.self c.in-Some.name u c.in-Some.ensures.steps).1 in
    let none = c.no_word_left.ensures.0 (ap is_ok c.in_ok-no_word_left.was) in
    reads_back c.args.text.now _ c.utf8.text (just c.args.text.now c.in-Some.name.now _ _ _ _ c.next_number.result c.next_number-2.result c.next_number-3.result (ap words_of (sym rest) ∙ w) c.next_number.ensures.number c.next_number-2.ensures.number c.next_number-3.ensures.number _ _ _ c.call_of.result c.in_ok-first.was c.in_ok-second.was c.in_ok-third.was none c.call_of.ensures.named c.call_of.ensures.only)
