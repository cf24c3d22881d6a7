use Rattle.std.proofs.Common.{◌≡◌, ◌+◌, ◌<◌, ◌≤◌, ◌++◌, ◌∷◌, [], ℕ, List, get_or, take, length, map, ap, sym, ◌∙◌, arith}
use Rattle.std.proofs.lemmas.List.{get_or-map, length-map}
use Rattle.pli_base.specs.views.StatementView.{unit_view}
use Rattle.pli_declare.specs.ResolvedUnits.{all_symbols, resolved_unit_of}
use Rattle.pli_declare.specs.declared.symbol.Symbol.{Symbol}
use Rattle.pli_declare.specs.views.SymbolView.{symbol_view}
use Rattle.pli_resolve.specs.views.UnitView.{AreSymbolsOf}
use Rattle.pli_base.specs.Statements.{ExternalProcedure}
use Rattle.std.specs.Global.{Vec}
use Rattle.pli_type_rules.specs.NamedUnits.{all_tokens, block_symbols, parameter_numbers}
use Rattle.pli_type_rules.specs.TextOrder.{text_places}
use Rattle.pli_type_names.specs.BlockFacts.{facts_of}
use Rattle.pli_type_names.specs.Seen.{Kept, kept_symbols}
use Rattle.pli_type_names.proofs.BlockLemmas.{rows_of, row_there, symbols_there, all_counted, all_rows, globals_more, globals_placed}
use Rattle.pli_type_names.proofs.ListLemmas.{take_one_more}
use Rattle.pli_type_names.proofs.meanings.unit_meanings.Goals as goal

-- the row of a number
row_is : (u : ExternalProcedure) (rows : List (Vec Symbol)) (n : ℕ) (row : Vec Symbol) → n < length rows
    → row ≡ get_or rows n row → AreSymbolsOf rows u
    → map symbol_view row.items ≡ block_symbols (resolved_unit_of u) n
row_is u rows n row within is are =
    ap (λ (v : Vec Symbol). map symbol_view v.items) is
    ∙ sym (get_or-map (λ (v : Vec Symbol). map symbol_view v.items) rows n row [] within)
    ∙ ap (λ xs. get_or xs n []) are

-- how many rows there are
rows_counted : (u : ExternalProcedure) (rows : List (Vec Symbol)) → AreSymbolsOf rows u
    → length rows ≡ length (resolved_unit_of u).blocks + 1
rows_counted u rows are =
    sym (length-map rows (λ (v : Vec Symbol). map symbol_view v.items)) ∙ ap length are ∙ all_counted (resolved_unit_of u)

pub put_meanings-requires-clause-placed : goal.put_meanings-requires-clause-placed
put_meanings-requires-clause-placed c =
    let r = resolved_unit_of (unit_view c.args.resolved.now) in
    omega (
      arith,
      c.loop-block.invariant.globals,
      globals_placed (all_symbols r) c.loop-block.block,
      ap length (c.deref-in-loop-block.ensures.value ∙ c.in_ok-places.ensures ∙ ap (λ ss. text_places (all_tokens 63 ss)) c.requires),
    )

pub put_meanings-requires-clause-symbols : goal.put_meanings-requires-clause-symbols
put_meanings-requires-clause-symbols c =
    ap (map symbol_view) c.deref.ensures.value
    ∙ row_is (unit_view c.args.resolved.now) c.args.symbols.now c.loop-block.block c.index-symbols-block.result c.loop-block-test.true
    c.index-symbols-block.is c.requires

pub loop-block-preserved : goal.loop-block-preserved
loop-block-preserved c =
    let l = c.loop-block in
    let u = unit_view c.args.resolved.now in
    let r = resolved_unit_of u in
    let n = l.block in
    let within : n < length r.blocks + 1 = omega (arith, rows_counted u c.args.symbols.now c.requires, c.loop-block-test.true) in
    let qs = c.deref-in-loop-block.result.now in
    let places : List ℕ = text_places (all_tokens 63 (all_symbols r)) in
    let kept : List ℕ → ℕ → List Kept = λ q k. kept_symbols (record { parameters = parameter_numbers r n; places = q; globals = k; symbols = block_symbols r n }) in
    let row : kept qs l.globals ≡ kept_symbols (facts_of r n) =
    ap (λ q. kept q l.globals) (c.deref-in-loop-block.ensures.value ∙ c.in_ok-places.ensures ∙ ap (λ ss. text_places (all_tokens 63 ss)) c.requires)
    ∙ ap (kept places) l.invariant.globals in
    let more = globals_more (all_symbols r) n (block_symbols r n) (symbols_there r n within) in
    record {
      rows = c.in_ok-put_meanings.ensures.meanings
          ∙ ap (λ rows. rows ++ kept qs l.globals ∷ []) l.invariant.rows
          ∙ ap (λ x. take n (rows_of r) ++ x ∷ []) row
          ∙ sym (take_one_more (rows_of r) n (kept_symbols (facts_of r n)) (row_there r n within));
      globals = omega (arith, c.in_ok-put_meanings.ensures.counted, more, l.invariant.globals);
    }

pub returns : goal.returns
returns c =
    let l = c.loop-block in
    let u = unit_view c.args.resolved.now in
    let r = resolved_unit_of u in
    let beyond : length r.blocks + 1 ≤ l.block = omega (arith, rows_counted u c.args.symbols.now c.requires, c.loop-block-test.false) in
    record { found = all_rows r l.block _ beyond l.invariant.rows }
