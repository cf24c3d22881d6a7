use Rattle.std.proofs.Common.{List, map, ap, ◌∙◌}
use Rattle.std.specs.List.{flat_map}
use Rattle.pli_declare.specs.Symbols.{found_in}
use Rattle.pli_declare.specs.ResolvedUnits.{label_statement}
use Rattle.pli_declare_outline.specs.declared.statement_places.StatementPlace.{StatementPlace}
use Rattle.pli_resolve_unit.proofs.resolving.unit_maps.Goals as goal

pub returns : goal.returns
returns c = record {
  functions_are = c.in_ok-callables.ensures.functions;
  statements_are = λ n. c.in_ok-statement_maps.ensures.regions n
      ∙ ap (λ (ps : List StatementPlace). found_in (map (λ p. (p.number, p.region)) ps) n) c.requires.are_places;
  labels_are = λ at. c.in_ok-statement_maps.ensures.labels at
      ∙ ap (λ (ps : List StatementPlace). found_in (flat_map label_statement ps) at) c.requires.are_places;
  procedures_are = c.in_ok-callables.ensures.procedures;
}
