use Rattle.std.proofs.Common.{◌≡◌, map}
use Rattle.pli_declare_outline.specs.views.OutlineView.{outline_view}
use Rattle.pli_declare.specs.Tables.{entries_in, numbers_from}
use Rattle.pli_declare_variables.specs.Judging.{all_judged}
use Rattle.pli_declare.specs.Resolution.{parameters_of}
use Rattle.pli_declare_faults.proofs.parameters.judged_blocks.Given as goal

-- what is known of the blocks so far
abbrev pub invariant-loop-block : goal.invariant-loop-block
invariant-loop-block l =
    let o = outline_view l.outline in
    map (λ list. list.items) l.judged.items ≡ map (λ b. all_judged (entries_in o b) (parameters_of o b)) (numbers_from 0 l.block)
