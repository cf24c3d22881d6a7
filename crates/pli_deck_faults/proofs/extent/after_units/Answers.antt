use Rattle.std.proofs.Common.{◌≡◌, ◌<◌, length, get_or, ap, sym, ◌∙◌, arith}
use Rattle.std.specs.List.{sum_by}
use Rattle.pli_code.specs.Modules.{Member}
use Rattle.pli_deck_write.specs.ModuleSpelling.{static_bytes}
use Rattle.pli_code.specs.views.CodeView.{member_view}
use Rattle.pli_deck_faults.specs.CutSizes.{unit_sizes}
use Rattle.pli_deck_faults.proofs.UnitSizes.{sizes_at, next_said, over_by_one, one_after}
use Rattle.pli_deck_faults.proofs.extent.after_units.Goals as goal

pub after_unit-requires : goal.after_unit-requires
after_unit-requires c =
    let l = c.loop-unit in
    let units = c.args.units.now in
    let unit = c.unit-item.result in
    let within : l.place < length units = omega (arith, l.invariant.place, c.loop-unit-test.true) in
    let here : unit ≡ get_or units l.place unit = c.unit-item.is ∙ ap (λ n. get_or units n unit) (sym l.invariant.place) in (
      l.invariant.small,
      c.deref.ensures.value ∙ sizes_at c.args.all.now units l.place c.index-all-place.result unit c.requires.1 within c.index-all-place.is ∙ ap unit_sizes (sym here),
    )

pub returns-in_err-left : goal.returns-in_err-left
returns-in_err-left c =
    let l = c.loop-unit in
    let left = next_said member_view c.args.units.now l.unit-index c.unit-item.result c.loop-unit-test.true c.unit-item.is in
    rw c.from_residual.ensures
    (over_by_one (λ (u : Member). sum_by (static_bytes u.deck.code) u.deck.code.globals) _ _ (member_view c.unit-item.result) l.left c.args.bytes _ left l.invariant.same c.in_err-left.ensures)

pub loop-unit-preserved : goal.loop-unit-preserved
loop-unit-preserved c =
    let l = c.loop-unit in
    let left = next_said member_view c.args.units.now l.unit-index c.unit-item.result c.loop-unit-test.true c.unit-item.is in
    record {
      small = omega (arith, c.in_ok-left.ensures, l.invariant.small);
      place = omega (arith, l.invariant.place);
      same =
          one_after (λ (u : Member). sum_by (static_bytes u.deck.code) u.deck.code.globals) _ _ (member_view c.unit-item.result) l.left c.in_ok-left.left c.args.bytes _ left l.invariant.same
          c.in_ok-left.ensures;
    }
