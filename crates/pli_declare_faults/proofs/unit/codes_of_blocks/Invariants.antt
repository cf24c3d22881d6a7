use Rattle.std.proofs.Common.{◌≡◌, map}
use Rattle.pli_declare_outline.specs.views.OutlineView.{outline_view}
use Rattle.pli_declare.specs.Tables.{numbers_from}
use Rattle.pli_declare_faults.specs.answers.Walks.{block_codes}
use Rattle.pli_declare_faults.proofs.unit.codes_of_blocks.Given as goal

-- the codes of the blocks so far
abbrev pub invariant-loop-block : goal.invariant-loop-block
invariant-loop-block l = map (λ list. list.items) l.codes.items ≡ map (block_codes (outline_view l.known.scopes.outline.now)) (numbers_from 0 l.block)
