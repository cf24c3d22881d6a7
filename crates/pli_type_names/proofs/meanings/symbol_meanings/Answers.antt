use Rattle.std.proofs.Common.{◌≡◌, ◌+◌, ◌++◌, ℕ, drop, get_or, length, map, option_map, ap, ◌∙◌, arith, subst}
use Rattle.std.specs.List.{All}
use Rattle.std.proofs.lemmas.List.{length-map}
use Rattle.pli_declare.specs.Symbols as plain
use Rattle.pli_declare.specs.views.SymbolView.{symbol_view, symbol_kind_view}
use Rattle.pli_type_names.specs.BlockFacts.{BlockFacts}
use Rattle.pli_type_names.specs.Numbered.{each_from}
use Rattle.pli_type_names.specs.OnWays.{IsLevel}
use Rattle.pli_type_names.specs.OwnVariables.{global_at, own_variables}
use Rattle.pli_type_names.specs.Seen.{Kept, kept_symbols, kind_kept}
use Rattle.pli_type_names.specs.views.MeaningView.{meant_view}
use Rattle.pli_type_names.specs.views.VariableView.{own_view}
use Rattle.pli_type_names.proofs.ListLemmas.{each_counted, number_there, numbered_more}
use Rattle.pli_type_names.proofs.meanings.symbol_meanings.Goals as goal

pub index-global-requires : goal.index-global-requires
index-global-requires c =
    let l = c.loop-number in
    let ss = c.args.symbols.now in
    let all = map symbol_view ss in
    let facts : BlockFacts = record { parameters = c.args.parameters.now; places = c.args.places.now; globals = c.args.globals.now; symbols = all } in
    let g : ℕ → plain.Symbol → ℕ = λ number x. global_at facts number in
    omega (
      arith,
      ap length (c.in_ok-variables.ensures.numbers ∙ ap (λ xs. xs ++ each_from g 0 all) c.in_ok-numbers.ensures.items),
      each_counted g 0 all,
      length-map ss symbol_view,
      c.loop-number-test.true,
    )

pub loop-number-preserved : goal.loop-number-preserved
loop-number-preserved c =
    let l = c.loop-number in
    let ss = c.args.symbols.now in
    let all = map symbol_view ss in
    let facts : BlockFacts = record { parameters = c.args.parameters.now; places = c.args.places.now; globals = c.args.globals.now; symbols = all } in
    let n = l.number in
    let s = c.index-symbols-number.result in
    let kind = symbol_kind_view s.kind in
    let global = c.index-global.result.now in
    let f : ℕ → plain.Symbol → Kept = λ number x. kind_kept facts.parameters (own_variables facts) number (global_at facts number) x.kind in
    let g : ℕ → plain.Symbol → ℕ = λ number x. global_at facts number in
    let same : kind ≡ symbol_kind_view (get_or ss n s).kind = ap (λ x. symbol_kind_view x.kind) c.index-symbols-number.is in
    let counted : global ≡ global_at facts n =
    c.index-global.ensures
    ∙ ap (λ xs. get_or xs n global)
    (c.in_ok-variables.ensures.numbers ∙ ap (λ xs. xs ++ each_from g 0 all) c.in_ok-numbers.ensures.items)
    ∙ number_there g ss n global s c.loop-number-test.true in
    let is =
    c.in_ok-meaning.ensures.meaning
    ∙ ap (λ xs. kind_kept facts.parameters (map (option_map own_view) xs) n global kind) c.deref.ensures.value
    ∙ ap (λ vs. kind_kept facts.parameters vs n global kind) c.in_ok-variables.ensures.variables
    ∙ ap (λ k. kind_kept facts.parameters (own_variables facts) n k kind) counted
    ∙ ap (λ k. kind_kept facts.parameters (own_variables facts) n (global_at facts n) k) same in
    record {
      meanings = ap (λ xs. map meant_view xs ++ each_from f (n + 1) (map symbol_view (drop (n + 1) ss))) c.in_ok-push.ensures.items
          ∙ numbered_more meant_view f ss n s l.meanings.items c.in_ok-meaning.meaning (kept_symbols facts) c.loop-number-test.true is
          l.invariant.meanings;
      levels =
          subst (λ xs. All (IsLevel (map (option_map own_view) xs)) c.symbol_meaning.new.levels.items) c.deref.ensures.value
          c.in_ok-meaning.ensures.levels;
    }
