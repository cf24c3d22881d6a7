use Rattle.std.proofs.Common.{◌≡◌, ◌<◌, ◌++◌, List, [], length, append-nil, arith, sym, ap, ◌∙◌}
use Rattle.std.proofs.lemmas.Bool.{eqb-true}
use Rattle.std.proofs.lemmas.List.{nil_from_length}
use Rattle.std.specs.List.{list_any}
use Rattle.pli_base.specs.Words.{same_name}
use Rattle.pli_base.specs.declared.syntax.Identifier.{Identifier}
use Rattle.pli_declare_outline.specs.views.OutlineView.{outline_view}
use Rattle.pli_declare.specs.Resolution.{parameter_codes}
use Rattle.pli_declare_scopes.proofs.PutOnceLemmas.{seen_more, names_alike}
use Rattle.pli_declare_faults.proofs.ParameterNames.{names_to, names_more, told_more}
use Rattle.pli_declare_faults.proofs.parameters.tell_parameters.Goals as goal

pub returns-then-is_empty : goal.returns-then-is_empty
returns-then-is_empty c =
    let ps = c.args.parameters.now in
    let none : ps ≡ [] = nil_from_length ps (eqb-true (length ps) 0 (sym c.is_empty.ensures ∙ c.if-is_empty.true)) in
    sym (append-nil c.args.faults.now.items)
    ∙ ap (λ (xs : List Identifier). c.args.faults.now.items ++ parameter_codes (outline_view c.args.outline.now) c.args.region [] xs) (sym none)

pub loop-parameter-preserved : goal.loop-parameter-preserved
loop-parameter-preserved c =
    let ps = c.args.parameters.now in
    let n = c.loop-parameter.parameter-index in
    let x = c.parameter-item.result in
    let lt : n < length ps = omega arith in
    let keys = c.loop-parameter.before.keys in
    record {
      seen = λ i. seen_more same_name names_alike keys (names_to ps n) x.name c.loop-parameter.invariant.seen c.tell_parameter.new.before.keys c.in_ok-tell_parameter.ensures.before i
          ∙ ap (list_any (same_name i)) (sym (names_more ps n x lt c.parameter-item.is));
      told = told_more (outline_view c.args.outline.now) c.args.region ps n x lt c.parameter-item.is keys c.in_ok-items.items.keys c.loop-parameter.invariant.seen c.in_ok-items.ensures
          c.loop-parameter.faults.items c.tell_parameter.new.faults.items _ c.in_ok-tell_parameter.ensures.told c.loop-parameter.invariant.told;
    }
