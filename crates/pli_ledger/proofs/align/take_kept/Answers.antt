use Rattle.std.proofs.Common.{◌≡◌, ap, get_or, set, sym, ◌∙◌}
use Rattle.std.specs.Cmp.Lexicographic.{same_text}
use Rattle.std.proofs.lemmas.List.{set-get_or}
use Rattle.pli_base.specs.Name.{Name}
use Rattle.pli_members.specs.Members.{is_named}
use Rattle.pli_ledger.specs.Kept.{Kept, Units, kept_of, nothing_kept}
use Rattle.pli_ledger.proofs.KeptMoved.{found_here, found_later, found_none, other_name, taken_others}
use Rattle.pli_ledger.proofs.align.take_kept.Goals as goal

pub returns-then-eq-clause-kept : goal.returns-then-eq-clause-kept
returns-then-eq-clause-kept c =
    let units = c.args.units.now in
    let i = c.loop-unit.unit-index in
    let u = c.unit-item.result in
    let is = c.unit-item.is ∙ ap (λ (us : Units). get_or us i u) c.loop-unit.invariant.same in
    let named : u.0 ≡ c.args.name = ap (λ (x : Name × Kept). x.0) c.unit-item.is ∙ sym c.name.ensures ∙ same_text c.name.result c.args.name (sym c.if-eq.true ∙ c.eq.ensures) in
    c.replace.ensures.value ∙ sym c.unit-item.is ∙ found_here units c.args.name i c.loop-unit.invariant.left u c.loop-unit-test.true is named

pub returns-then-eq-clause-others : goal.returns-then-eq-clause-others
returns-then-eq-clause-others c = λ other differs.
    let units = c.args.units.now in
    let i = c.loop-unit.unit-index in
    let u = c.unit-item.result in
    let is = c.unit-item.is ∙ ap (λ (us : Units). get_or us i u) c.loop-unit.invariant.same in
    let named : u.0 ≡ c.args.name = ap (λ (x : Name × Kept). x.0) c.unit-item.is ∙ sym c.name.ensures ∙ same_text c.name.result c.args.name (sym c.if-eq.true ∙ c.eq.ensures) in
    ap (λ (v : Name × Kept). kept_of (set c.loop-unit.units i v) other) (c.replace.ensures.after ∙ c.new.ensures)
    ∙ ap (λ (us : Units). kept_of (set us i (c.args.name, nothing_kept)) other) c.loop-unit.invariant.same
    ∙ taken_others units i c.args.name u c.loop-unit-test.true is named other differs

pub loop-unit-preserved : goal.loop-unit-preserved
loop-unit-preserved c =
    let i = c.loop-unit.unit-index in
    let u = c.unit-item.result in
    let is = c.unit-item.is ∙ ap (λ (us : Units). get_or us i u) c.loop-unit.invariant.same in
    let other = sym (ap (is_named c.args.name) (c.name.ensures ∙ ap (λ (x : Name × Kept). x.0) (sym c.unit-item.is))) ∙ other_name c.name.result c.args.name (sym c.if-eq.false ∙ c.eq.ensures) in
    record {
      same = set-get_or c.loop-unit.units i u ∙ c.loop-unit.invariant.same;
      left = found_later c.args.units.now c.args.name i c.loop-unit.invariant.left u c.loop-unit-test.true is other;
    }

pub returns-clause-kept : goal.returns-clause-kept
returns-clause-kept c = c.new-2.ensures ∙ found_none c.args.units.now c.args.name c.loop-unit.unit-index c.loop-unit.invariant.left c.loop-unit-test.false
