use Rattle.std.proofs.Common.{◌∙◌, ap, sym, arith, map, Some, None}
use Rattle.pli_link.specs.ModuleSize.{own_of}
use Rattle.pli_link.specs.answers.Counting.{counted}
use Rattle.pli_code.specs.views.CodeView.{code_view, global_view}
use Rattle.pli_link.proofs.OwnBytesLemmas.{own_more}
use Rattle.pli_link.proofs.sizes.with_all_own.Goals as goal

pub returns-in_err-bytes-clause-counts : goal.returns-in_err-bytes-clause-counts
returns-in_err-bytes-clause-counts c =
    let unit = c.unit-item.result in
    c.from_residual.ensures
    ∙ own_more c.args.units.now c.loop-unit.unit-index unit c.loop-unit.bytes _ None (omega arith) c.unit-item.is
    (sym c.in_err-bytes.was ∙ c.with_own.ensures.counts ∙ ap (λ gs. counted c.loop-unit.bytes (own_of (code_view unit.deck.now.code) (map global_view gs))) c.deref.ensures.value)
    c.loop-unit.invariant.1

pub loop-unit-preserved : goal.loop-unit-preserved
loop-unit-preserved c =
    let unit = c.unit-item.result in (
      c.in_ok-bytes.ensures.within,
      own_more c.args.units.now c.loop-unit.unit-index unit c.loop-unit.bytes _ (Some c.in_ok-bytes.bytes) (omega arith) c.unit-item.is
          (sym c.in_ok-bytes.was ∙ c.with_own.ensures.counts ∙ ap (λ gs. counted c.loop-unit.bytes (own_of (code_view unit.deck.now.code) (map global_view gs))) c.deref.ensures.value)
          c.loop-unit.invariant.1,
    )
