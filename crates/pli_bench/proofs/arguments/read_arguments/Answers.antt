use Rattle.std.proofs.Common.{rules, ap, ap₂, sym, refl, subst, codes, true, Some, ◌≡◌, ◌∙◌, map}
use Rattle.std.specs.String.{string_bytes}
use Rattle.std.specs.Str.Parse.{ParsesUnsigned, ExplainsUnsignedError, HasUnsignedDigitsIfOk}
use Rattle.clap.specs.Words.{App, app_of, fault_of, found_of, is_simple, is_simple_and_free, matches_of, new_app, one_of, one_text, rows_of, rule_of, with_rule}
use Rattle.clap.proofs.WalkLemmas.{one_text-rows}
use Rattle.clap.specs.Simple.{app_of_fields, on_top}
use Rattle.clap.specs.declared.builder.value_parser.ValueParser.TheVariants.{Unsigned}
use Rattle.pli_bench.specs.CommandLine.{Refuses, program, steps, steps_text}
use Rattle.pli_bench.proofs.Steps.{spelt}
use Rattle.pli_bench.proofs.arguments.read_arguments.Goals as goal

is_free : is_simple_and_free program ≡ true
is_free = refl

is_simple_program : is_simple program ≡ true
is_simple_program = refl

pub returns-in-Ok : goal.returns-in-Ok
returns-in-Ok c =
    let made : c.range.result ≡ Unsigned 0 999999999999999999 = rw c.value_parser.ensures at c.range.ensures in
    let given = c.value_parser-2.ensures.given in
    let parser : c.value_parser-2.result.value_parser ≡ Some (Unsigned 0 999999999999999999) = given.1 ∙ ap Some (given.2 ∙ made) in
    let rule_is : rule_of c.default_value-steps.result ≡ steps = search rules in
    let bare : app_of c.no_binary_name.result ≡ on_top (λ s. record s { no_binary_name = true }) (new_app (codes "pliwb")) =
    ap app_of_fields c.no_binary_name.ensures ∙ ap (on_top (λ s. record s { no_binary_name = true })) (ap app_of_fields c.about.ensures ∙ c.new-2.ensures.app) in
    let app_is : app_of c.in_ok-command.command ≡ program = c.in_ok-command.ensures.shape (search rules) ∙ ap₂ with_rule bare rule_is in
    let words = map string_bytes c.args.words.now in
    let found = found_of c.in-Ok.matches in
    let rows : rows_of found ≡ matches_of program words = (c.in-Ok.ensures.matches (ap is_simple app_is ∙ is_simple_program)).0 ∙ ap (λ (a : App). matches_of a words) app_is in
    let text : one_text found (codes "steps") ≡ steps_text words = one_text-rows found (codes "steps") ∙ ap (one_of (codes "steps")) rows in (
      ap (λ (a : App). fault_of a words) (sym app_is) ∙ c.in-Ok.ensures.kinds (ap is_simple_and_free app_is ∙ is_free),
      spelt _ (λ bs r. ParsesUnsigned 64 10 bs r × ExplainsUnsignedError 10 bs r × HasUnsignedDigitsIfOk bs r) (λ t r g. g.0) (steps_text words) c.get_one.result c.unwrap_or.result c.unwrap_or.ensures
          (λ e. c.get_one.ensures.none (text ∙ e)) (λ t e. c.get_one.ensures.value t (text ∙ e)),
    )

pub returns-in-Err : goal.returns-in-Err
returns-in-Err c =
    let made : c.range.result ≡ Unsigned 0 999999999999999999 = rw c.value_parser.ensures at c.range.ensures in
    let given = c.value_parser-2.ensures.given in
    let parser : c.value_parser-2.result.value_parser ≡ Some (Unsigned 0 999999999999999999) = given.1 ∙ ap Some (given.2 ∙ made) in
    let rule_is : rule_of c.default_value-steps.result ≡ steps = search rules in
    let bare : app_of c.no_binary_name.result ≡ on_top (λ s. record s { no_binary_name = true }) (new_app (codes "pliwb")) =
    ap app_of_fields c.no_binary_name.ensures ∙ ap (on_top (λ s. record s { no_binary_name = true })) (ap app_of_fields c.about.ensures ∙ c.new-2.ensures.app) in
    let app_is : app_of c.in_ok-command.command ≡ program = c.in_ok-command.ensures.shape (search rules) ∙ ap₂ with_rule bare rule_is in
    subst (λ (a : App). Refuses (fault_of a (map string_bytes c.args.words.now)) c.usage.result) app_is (c.usage.ensures _ (c.in-Err.ensures.kinds (ap is_simple_and_free app_is ∙ is_free)))
