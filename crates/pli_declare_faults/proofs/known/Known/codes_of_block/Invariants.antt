use Rattle.std.proofs.Common.{◌≡◌, map}
use Rattle.pli_declare_outline.specs.views.OutlineView.{outline_view}
use Rattle.pli_declare.specs.Tables.{numbers_from}
use Rattle.pli_declare.specs.Resolution.{item_code}
use Rattle.pli_declare_faults.proofs.known.Known.codes_of_block.Given as goal

abbrev pub invariant-loop-number : goal.invariant-loop-number
invariant-loop-number l = l.codes.items ≡ map (item_code (outline_view l.self.scopes.outline.now) l.block) (numbers_from 0 l.number)
