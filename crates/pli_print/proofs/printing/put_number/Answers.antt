use Rattle.std.proofs.Common.{◌≡◌, ◌++◌, ◌-◌, length, replicate, subst, rules, IfOk}
use Rattle.std.specs.Fmt.{signed_decimal}
use Rattle.pli_run.specs.Print.{characters_from}
use Rattle.pli_value.specs.Conversions.{number_characters}
use Rattle.pli_print.specs.answers.Prints.{Prints}
use Rattle.pli_print.proofs.PrintLemmas.{digits_wide, number_put}
use Rattle.pli_print.proofs.printing.put_number.Goals as goal

pub returns-clause-printed : goal.returns-clause-printed
returns-clause-printed c =
    let width = c.args.width in
    let text = number_characters width c.args.number in
    let wide = digits_wide width (signed_decimal c.args.number) c.requires.held in
    let is : c.as_bytes-digits.result.now ≡ signed_decimal c.args.number = search rules in
    number_put c.put_digits.result c.args.output.now.items c.put_lead.new.output.items c.put_digits.new.output.items text c.args.column c.in_ok-begin.begin width wide
    c.in_ok-begin.ensures.printed
    (subst (λ d. IfOk c.put_digits.result (λ after. Prints c.put_lead.new.output.items c.put_digits.new.output.items after
    (characters_from c.in_ok-begin.begin (replicate (width - length d) 32 ++ d)))) is c.put_digits.ensures.printed)
