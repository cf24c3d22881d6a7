use Rattle.std.proofs.Common.{ℕ, ◌+◌, ap, refl, subst, sym, take, ◌∙◌}
use Rattle.std.specs.List.{count_by}
use Rattle.pli_base.specs.Name.{Name}
use Rattle.pli_ledger.specs.Kept.{Kept}
use Rattle.pli_ledger.specs.Refused.{Rises}
use Rattle.pli_ledger.specs.answers.Compiling.{one_if, refreshed, unit_is_due}
use Rattle.pli_ledger.proofs.PassesGoOn.{counted_more, passed_more, refused_at}
use Rattle.pli_ledger.proofs.passes.expand_due.Goals as goal

pub loop-unit-preserved : goal.loop-unit-preserved
loop-unit-preserved c =
    let s = c.args.members.now in
    let i = c.loop-unit.unit-index in
    let old = c.args.units.now in
    let u = c.unit-item.result in
    let so_far = c.loop-unit.invariant.passed in
    let more = counted_more (refreshed s) (unit_is_due s) i old c.loop-unit.units _ _ so_far c.loop-unit-test.true u c.unit-item.is in
    let told = c.one_if.ensures ∙ ap one_if (c.in_ok-refresh.ensures.told ∙ ap (unit_is_due s) (sym c.unit-item.is)) in
    record {
      number = ap (λ (k : ℕ). k + c.one_if.result) c.loop-unit.invariant.number ∙ ap (λ (k : ℕ). count_by (unit_is_due s) (take i old) + k) told ∙ sym more;
      passed = passed_more (refreshed s) (unit_is_due s) i old c.loop-unit.units _ _ so_far c.loop-unit-test.true u c.refresh.new.self _ c.refresh.new.expander c.unit-item.is (c.in_ok-refresh.ensures.unit ∙ ap (refreshed s) (sym c.unit-item.is)) refl
          (subst (λ (x : Name × Kept). Rises c.loop-unit.expander (one_if ((unit_is_due s) x)) c.refresh.new.expander) (sym c.unit-item.is) c.in_ok-refresh.ensures.counted);
    }

pub returns-in_err-refresh-clause-some : goal.returns-in_err-refresh-clause-some
returns-in_err-refresh-clause-some c =
    let s = c.args.members.now in
    refused_at (refreshed s) (unit_is_due s) c.loop-unit.unit-index c.args.units.now c.loop-unit.units _ _ c.loop-unit.invariant.passed c.unit-item.result c.refresh.new.self _ c.refresh.new.expander c.loop-unit-test.true c.unit-item.is
    (c.in_err-refresh.ensures.refused.0 ∙ sym c.unit-item.is) refl c.in_err-refresh.ensures.refused.1
