use Rattle.std.proofs.Common.{ℕ, ◌+◌, ap, refl, subst, sym, take, ◌∙◌}
use Rattle.std.specs.List.{count_by}
use Rattle.pli_base.specs.Name.{Name}
use Rattle.pli_ledger.specs.Kept.{Kept}
use Rattle.pli_ledger.specs.Refused.{Rises}
use Rattle.pli_ledger.specs.answers.Compiling.{one_if, recompiled, unit_is_stale}
use Rattle.pli_ledger.proofs.PassesGoOn.{counted_more, passed_more}
use Rattle.pli_ledger.proofs.passes.compile_stale.Goals as goal

pub loop-unit-preserved : goal.loop-unit-preserved
loop-unit-preserved c =
    let i = c.loop-unit.unit-index in
    let old = c.args.units.now in
    let u = c.unit-item.result in
    let so_far = c.loop-unit.invariant.passed in
    let more = counted_more recompiled unit_is_stale i old c.loop-unit.units _ _ so_far c.loop-unit-test.true u c.unit-item.is in
    let told = c.one_if.ensures ∙ ap one_if (c.in_ok-recompile.ensures.told ∙ ap unit_is_stale (sym c.unit-item.is)) in
    record {
      number = ap (λ (k : ℕ). k + c.one_if.result) c.loop-unit.invariant.number ∙ ap (λ (k : ℕ). count_by unit_is_stale (take i old) + k) told ∙ sym more;
      passed = passed_more recompiled unit_is_stale i old c.loop-unit.units _ _ so_far c.loop-unit-test.true u c.recompile.new.self _ c.recompile.new.compiler c.unit-item.is (c.in_ok-recompile.ensures.unit ∙ ap recompiled (sym c.unit-item.is)) refl
          (subst (λ (x : Name × Kept). Rises c.loop-unit.compiler (one_if (unit_is_stale x)) c.recompile.new.compiler) (sym c.unit-item.is) c.in_ok-recompile.ensures.counted);
    }
