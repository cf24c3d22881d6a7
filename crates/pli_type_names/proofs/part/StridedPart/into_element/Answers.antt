use Rattle.std.proofs.Common.{◌≡◌, ap, sym, ◌∙◌, arith}
use Rattle.pli_map.specs.Description as tree
use Rattle.pli_map.specs.Sizes.{size_of}
use Rattle.pli_map.specs.views.DescriptionView.{description_view}
use Rattle.pli_type_rules.specs.NamedUnits.{may_stand}
use Rattle.pli_type_names.proofs.PlainLemmas.{plain_array, plain_stands, element_size}
use Rattle.pli_type_names.proofs.TreeLemmas.{array_view}
use Rattle.pli_type_names.proofs.part.StridedPart.into_element.Goals as goal

pub invariant_of-result : goal.invariant_of-result
invariant_of-result c =
    let e = description_view c.deref-in-Array-2.result.now in
    let is : description_view c.args.self.description.now ≡ tree.Array c.in-Array.bounds.items e =
    array_view c.args.self.description.now c.in-Array.bounds c.in-Array.element c.in-Array.is
    ∙ ap (λ x. tree.Array c.in-Array.bounds.items (description_view x)) (sym c.deref-in-Array-2.ensures) in
    let inner = plain_array c.in-Array.bounds.items e (ap (may_stand 63) (sym is) ∙ c.args.self.plain) in
    let fits = element_size c.in-Array.bounds.items e inner.elements in
    let whole = ap size_of is in
    record { plain = plain_stands e inner.element; within = omega (arith, fits, whole, c.args.self.within) }
