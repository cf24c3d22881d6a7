use Rattle.std.proofs.Common.{option_and_then, ap, sym, ◌∙◌}
use Rattle.pli_type_names.specs.UnitNaming.{naming_in}
use Rattle.pli_type_parts.specs.Around.{surroundings_of}
use Rattle.pli_type_parts.specs.views.AroundView.{around_view}
use Rattle.pli_type_simple.proofs.CallLemmas.{area_by_numbers}
use Rattle.pli_type_simple.proofs.jumps.area_here.Goals as goal

pub returns-in-Some : goal.returns-in-Some
returns-in-Some c =
    let n = naming_in c.args.naming.now in
    let s = surroundings_of (around_view c.args.around.now) in
    c.returned_area.ensures ∙ ap (option_and_then n.returned_area) (sym c.in-Some.is ∙ c.enclosing.ensures)
    ∙ area_by_numbers n s c.args.naming.now.blocks c.requires

pub returns-in-None : goal.returns-in-None
returns-in-None c =
    let n = naming_in c.args.naming.now in
    let s = surroundings_of (around_view c.args.around.now) in
    ap (option_and_then n.returned_area) (sym c.in-None.is ∙ c.enclosing.ensures)
    ∙ area_by_numbers n s c.args.naming.now.blocks c.requires
