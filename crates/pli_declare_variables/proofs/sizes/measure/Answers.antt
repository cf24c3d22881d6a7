use Rattle.std.proofs.Common.{◌≡◌, [], map, length, ap, sym, ◌∙◌, subst, true≢false}
use Rattle.std.proofs.lemmas.List.{nil_from_length}
use Rattle.std.proofs.lemmas.Bool.{eqb-true, eq-eqb}
use Rattle.pli_declare.specs.Extents.{all_bounds}
use Rattle.pli_declare.specs.Faults.{with_bounds, described_scalar}
use Rattle.pli_declare.specs.Sets.{outermost}
use Rattle.pli_declare_tables.specs.views.TableView.{entry_view}
use Rattle.std.specs.Prelude.{option_map}
use Rattle.pli_declare.specs.Places.{item_in}
use Rattle.pli_declare.specs.Descriptions.{inside}
use Rattle.pli_declare_variables.specs.answers.Measures.{of_layout, IsMeasured}
use Rattle.pli_declare_variables.proofs.SizeLemmas.{of_scalar, inside_some}
use Rattle.pli_declare_variables.proofs.sizes.measure.Goals.{then-is_empty, else-is_empty}
use Rattle.pli_declare_variables.proofs.sizes.measure.Goals as goal

pub returns : goal.returns
returns c = λ describe known.
    let item = item_in (entry_view c.args.entry.now).entity in
    let scalar = described_scalar (map outermost item.attributes) in
    let members = c.args.members.now in
    let whole = inside describe scalar members in
    let here : IsMeasured c.if-is_empty.inside whole = elim c.if-is_empty.branch [
      | then-is_empty w ↦
          let none : members ≡ [] = nil_from_length members (eqb-true (length members) 0 (sym c.is_empty.ensures ∙ w.if-is_empty.true)) in
          subst (λ m. IsMeasured m whole) (sym (w.inside-is ∙ w.of-inside.ensures))
          (subst (λ ks. IsMeasured (of_layout w.layout.result) (inside describe scalar ks)) (sym none) (of_scalar w.layout.result scalar w.layout.ensures))
      | else-is_empty w ↦
          subst (λ m. IsMeasured m whole) (sym w.inside-is)
          (subst (IsMeasured w.structure-inside.result)
          (inside_some describe scalar members (λ none. true≢false (sym (c.is_empty.ensures ∙ eq-eqb (length members) 0 (ap length none)) ∙ w.if-is_empty.false)))
          (w.structure-inside.ensures describe known))
    ] in
    subst (λ ds. IsMeasured c.with_dimensions.result (option_map (with_bounds (all_bounds ds)) whole)) c.dimensions.ensures (c.with_dimensions.ensures whole here)
