use Rattle.std.proofs.Common.{◌≡◌, ◌+◌, ◌++◌, ℕ, Option, drop, get_or, map, option_map, refl, ap, ◌∙◌, arith}
use Rattle.pli_declare.specs.Symbols as plain
use Rattle.pli_declare.specs.views.SymbolView.{symbol_view, symbol_kind_view}
use Rattle.pli_type_rules.specs.NamedUnits.{is_automatic, is_based, one_global, one_such}
use Rattle.pli_type_names.specs.BlockFacts.{BlockFacts}
use Rattle.pli_type_names.specs.Numbered.{each_from}
use Rattle.pli_type_names.specs.OwnVariables as spec
use Rattle.pli_type_names.specs.views.VariableView.{own_view}
use Rattle.pli_type_names.proofs.ListLemmas.{number_more, numbered_more}
use Rattle.pli_type_names.proofs.VariableStarts.{none_before, no_global_before, own_is, before_more, before_within, global_more, globals_within}
use Rattle.pli_type_names.proofs.own_variables.own_variables.Goals as goal

pub loop-number-init : goal.loop-number-init
loop-number-init c =
    let all = map symbol_view c.args.symbols.now in
    let f : BlockFacts = record { parameters = c.args.parameters.now; places = c.args.places.now; globals = c.args.globals.now; symbols = all } in
    record {
      slots = omega (arith, none_before (is_automatic 63) all);
      globals = omega (arith, no_global_before all);
      based = omega (arith, none_before (is_based 63) all);
      numbers = refl;
      variables = ap (λ xs. map (option_map own_view) xs ++ spec.own_variables f) c.in_ok-variables.ensures.items;
    }

pub own_variable-variable-requires-clause-slot : goal.own_variable-variable-requires-clause-slot
own_variable-variable-requires-clause-slot c =
    let l = c.loop-number in
    let all = map symbol_view c.args.symbols.now in
    omega (arith, l.invariant.slots, before_within (is_automatic 63) all l.number, c.loop-number-test.true)

pub own_variable-variable-requires-clause-global : goal.own_variable-variable-requires-clause-global
own_variable-variable-requires-clause-global c =
    let l = c.loop-number in
    let all = map symbol_view c.args.symbols.now in
    omega (arith, c.requires, l.invariant.globals, globals_within all l.number, c.loop-number-test.true)

pub own_variable-variable-requires-clause-based : goal.own_variable-variable-requires-clause-based
own_variable-variable-requires-clause-based c =
    let l = c.loop-number in
    let all = map symbol_view c.args.symbols.now in
    omega (arith, l.invariant.based, before_within (is_based 63) all l.number, c.loop-number-test.true)

pub loop-number-preserved : goal.loop-number-preserved
loop-number-preserved c =
    let l = c.loop-number in
    let ss = c.args.symbols.now in
    let all = map symbol_view ss in
    let facts : BlockFacts = record { parameters = c.args.parameters.now; places = c.args.places.now; globals = c.args.globals.now; symbols = all } in
    let n = l.number in
    let a = l.free.slot in
    let b = l.free.globals in
    let next : ℕ = get_or c.args.places.now b 0 in
    let s = c.index-symbols-number.result in
    let kind = symbol_kind_view s.kind in
    let f : ℕ → plain.Symbol → Option spec.OwnVariable = λ number x. spec.own_at facts number x.kind in
    let same : kind ≡ symbol_kind_view (get_or ss n s).kind = ap (λ x. symbol_kind_view x.kind) c.index-symbols-number.is in
    let slots : c.own_variable-variable.new.free.slot ≡ a + one_such (is_automatic 63) (symbol_kind_view (get_or ss n s).kind) =
    c.own_variable-variable.ensures.slots ∙ ap (λ k. a + one_such (is_automatic 63) k) same in
    let globals : c.own_variable-variable.new.free.globals ≡ b + one_global 63 (symbol_kind_view (get_or ss n s).kind) =
    c.own_variable-variable.ensures.globals ∙ ap (λ k. b + one_global 63 k) same in
    let based : c.own_variable-variable.new.free.based ≡ l.free.based + one_such (is_based 63) (symbol_kind_view (get_or ss n s).kind) =
    c.own_variable-variable.ensures.based ∙ ap (λ k. l.free.based + one_such (is_based 63) k) same in
    let more_based = before_more (is_based 63) ss n s c.loop-number-test.true in
    let more_slots = before_more (is_automatic 63) ss n s c.loop-number-test.true in
    let more_globals = global_more ss n s c.loop-number-test.true in
    let g : ℕ → plain.Symbol → ℕ = λ number x. spec.global_at facts number in
    let numbered : next ≡ spec.global_at facts n = ap (λ k. get_or c.args.places.now k 0) l.invariant.globals in
    let is = c.own_variable-variable.ensures.variable ∙ ap (λ k. spec.own_after c.args.parameters.now a next l.free.based n k) same in
    record {
      slots = omega (arith, slots, more_slots, l.invariant.slots);
      globals = omega (arith, globals, more_globals, l.invariant.globals);
      based = omega (arith, based, more_based, l.invariant.based);
      numbers = ap (λ xs. xs ++ each_from g (n + 1) (map symbol_view (drop (n + 1) ss))) c.in_ok-push.ensures.items
          ∙ number_more g ss n s l.numbers.items c.under.result _ c.loop-number-test.true (c.under.ensures ∙ numbered) l.invariant.numbers;
      variables = ap (λ xs. map (option_map own_view) xs ++ each_from f (n + 1) (map symbol_view (drop (n + 1) ss))) c.in_ok-push-2.ensures.items
          ∙ numbered_more (option_map own_view) f ss n s l.variables.items c.own_variable-variable.result (spec.own_variables facts)
          c.loop-number-test.true
          (is ∙ own_is facts n a next l.free.based (symbol_kind_view (get_or ss n s).kind) l.invariant.slots numbered l.invariant.based)
          l.invariant.variables;
    }
