use Rattle.std.proofs.Common.{◌++◌, ◌∷◌, [], map, option_map, sym, subst}
use Rattle.pli_map.specs.ParameterTypes.{Stated}
use Rattle.pli_map.specs.views.DescriptionView.{description_view}
use Rattle.pli_map.specs.views.ParameterView.{type_view}
use Rattle.pli_code.specs.CodeTables.{there}
use Rattle.pli_gen_emit.specs.answers.Numbering.{Numbers}
use Rattle.pli_gen_emit.proofs.NumberingLemmas.{numbers_both}
use Rattle.pli_gen_emit.proofs.table.number_signature.Goals as goal

pub returns-in-Some : goal.returns-in-Some
returns-in-Some c =
    let s = c.args.signature.now in
    let parameters = map type_view s.parameters.items in
    let old = c.args.tables.now in
    let one = c.number_types.new.tables in
    let two = c.number_description.new.tables in
    let first : Numbers old one parameters [] [] = subst (λ ds. Numbers old one (map type_view ds) [] []) c.as_slice.ensures.value c.number_types.ensures in
    subst (λ r. Numbers old two (parameters ++ map Stated (there (option_map description_view r))) [] []) (sym c.in-Some.is)
    (numbers_both old one two parameters (Stated (description_view c.in-Some.description) ∷ []) [] [] [] [] first c.number_description.ensures.numbers)
