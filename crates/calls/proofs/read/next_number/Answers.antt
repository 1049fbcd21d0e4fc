use Rattle.std.proofs.Common.{refl, ap, ◌∙◌}
use Rattle.std.specs.Str.Iter.{split_whitespace_rest}
use Rattle.calls.specs.Reading.{words_of}
use Rattle.calls.proofs.Words.{word_off, none_off}
use Rattle.calls.proofs.Numbers.{none_read, number_read, number_refused}
use Rattle.calls.proofs.read.next_number.Goals as goal

pub returns-in-None-clause-number : goal.returns-in-None-clause-number
returns-in-None-clause-number c =
    let h = none_off c.args.words.now c.next.new.self c.requires c.in-None.ensures.steps in
    none_read _ _ _ refl h.1 (ap (λ s. words_of (split_whitespace_rest s)) h.0 ∙ h.1)

pub returns-in_ok-number-in-Some-clause-text : goal.returns-in_ok-number-in-Some-clause-text
returns-in_ok-number-in-Some-clause-text c = (word_off c.args.words.now c.next.new.self c.in-Some.word c.requires c.in-Some.ensures.steps).0

pub returns-in_ok-number-in-Some-clause-number : goal.returns-in_ok-number-in-Some-clause-number
returns-in_ok-number-in-Some-clause-number c =
    number_read _ c.in-Some.word.now _ _ c.in_ok-number-in-Some.field-0 c.in_ok-number-in-Some.ensures.says refl (word_off c.args.words.now c.next.new.self c.in-Some.word c.requires c.in-Some.ensures.steps).1

pub returns-in_err-number-in-Some-clause-text : goal.returns-in_err-number-in-Some-clause-text
returns-in_err-number-in-Some-clause-text c = (word_off c.args.words.now c.next.new.self c.in-Some.word c.requires c.in-Some.ensures.steps).0

pub returns-in_err-number-in-Some-clause-number : goal.returns-in_err-number-in-Some-clause-number
returns-in_err-number-in-Some-clause-number c =
    number_refused _ c.in-Some.word.now _ _ c.in_err-number-in-Some.ensures.none c.from_residual.ensures.0 (word_off c.args.words.now c.next.new.self c.in-Some.word c.requires c.in-Some.ensures.steps).1
