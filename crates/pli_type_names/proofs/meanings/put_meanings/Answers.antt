use Rattle.std.proofs.Common.{◌≡◌, ◌+◌, ◌++◌, ◌∷◌, [], ℕ, List, length, map, ap, sym, ◌∙◌}
use Rattle.std.proofs.lemmas.List.{length-map, map-append}
use Rattle.pli_base.specs.views.StatementView.{unit_view}
use Rattle.pli_declare.specs.ResolvedUnits.{resolved_unit_of}
use Rattle.pli_declare.specs.Symbols.{Symbol}
use Rattle.pli_declare.specs.views.SymbolView.{symbol_view}
use Rattle.pli_type_rules.specs.NamedUnits.{block_symbols, globals_before, parameter_numbers}
use Rattle.pli_type_names.specs.Seen.{Kept, kept_symbols}
use Rattle.pli_type_names.specs.views.MeaningView.{row_view}
use Rattle.pli_type_names.proofs.meanings.put_meanings.Goals as goal

pub returns : goal.returns
returns c =
    let r = resolved_unit_of (unit_view c.args.resolved.now) in
    let n = c.args.block in
    let old = c.args.made.now.items in
    let first = c.args.globals.now in
    let places = c.args.places.now in
    let ss = c.args.symbols.now in
    let same : map symbol_view ss ≡ block_symbols r n = c.requires.symbols in
    let kept : List ℕ → List Symbol → List Kept = λ p xs. kept_symbols (record { parameters = p; places = places; globals = first; symbols = xs }) in
    let row : row_view c.in_ok-row.row ≡ kept (parameter_numbers r n) (block_symbols r n) =
    c.in_ok-row.ensures.meanings
    ∙ ap (λ p. kept p (map symbol_view ss)) c.parameter_numbers-parameters.ensures
    ∙ ap (kept (parameter_numbers r n)) same in
    let count : List Symbol → ℕ → ℕ = globals_before 63 in
    record {
      meanings = ap (map row_view) c.in_ok-push.ensures.items ∙ map-append row_view old (c.in_ok-row.row ∷ []) ∙ ap (λ x. map row_view old ++ x ∷ []) row;
      counted = c.in_ok-row.ensures.counted
          ∙ ap (λ k. first + count (map symbol_view ss) k) (sym (length-map ss symbol_view))
          ∙ ap (λ xs. first + count xs (length xs)) same;
    }
