use Rattle.std.proofs.Common.{ap, ◌∙◌, sym}
use Rattle.pli_map.specs.ParameterTypes.{Stated}
use Rattle.pli_type_rules.specs.FunctionCalls.{bound_among, bound_in}
use Rattle.pli_bytes.proofs.DescriptionTrees.{array_view}
use Rattle.pli_type_operands.proofs.function.bound_described.Goals as goal

pub returns-in-Array : goal.returns-in-Array
returns-in-Array c = λ reference.
    let b = c.in-Array in
    c.bound_among.ensures ∙ ap (bound_among c.args.which c.args.number) c.deref.ensures.value
    ∙ ap (λ d. bound_in c.args.which c.args.number reference (Stated d)) (sym (array_view c.args.description.now b.bounds b.element b.is))
