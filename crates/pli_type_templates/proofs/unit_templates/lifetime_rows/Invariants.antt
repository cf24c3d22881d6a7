use Rattle.std.proofs.Common.{◌≡◌, ◌++◌, drop, map}
use Rattle.pli_type_rules.specs.NamedUnits.{templates_of}
use Rattle.pli_type_templates.specs.Groups.{is_such}
use Rattle.pli_type_templates.specs.views.BlockView.{block_symbols}
use Rattle.pli_type_templates.specs.views.UnitView.{row_view}
use Rattle.pli_type_templates.proofs.unit_templates.lifetime_rows.Given as goal

-- those so far, with those of the blocks that are left, are those of all
abbrev pub invariant-loop-block : goal.invariant-loop-block
invariant-loop-block l =
    map row_view l.made.items ++ map (templates_of (is_such l.wanted)) (map block_symbols (drop l.block-index l.blocks))
    ≡ map (templates_of (is_such l.wanted)) (map block_symbols l.blocks)
