-- Typed units are well formed.
use Rattle.std.specs.Prelude.{◌≡◌, ℕ, zero, suc, ◌+◌, ◌≤◌, ◌<◌, Option, Some, None, List, [], ◌∷◌, length, slice_get}
use Rattle.std.specs.Prelude.{Bool, true, Result, Ok, refl}
use Rattle.std.proofs.Common.{arith, sym, ap, ◌∙◌, subst}
use Rattle.std.proofs.lemmas.List.{length-map}
use Rattle.pli_base.specs.Statements.{ExternalProcedure, Statements, Ended, Before, Numbered, list_count}
use Rattle.pli_base.specs.Words.{Tokens}
use Rattle.pli_base.specs.declared.token.Fault.{Fault}
use Rattle.pli_deck_laws.specs.Limits.{word_limit, IfThere}
use Rattle.pli_deck_laws.specs.WellFormed.{IsWellFormed}
use Rattle.pli_declare.specs.Resolution.{resolution_faults}
use Rattle.pli_map.specs.Description.{Description}
use Rattle.pli_parse.proofs.StatementRead.{unit_reads}
use Rattle.pli_parse_expression.specs.Expressions.{Deeper}
use Rattle.pli_parse_expression.specs.Operators.{nesting_limit}
use Rattle.pli_parse_statement.specs.StatementGrammar.{SpellsStatements}
use Rattle.pli_parse_statement.specs.StatementReading.{unit_of}
use Rattle.pli_parse_statement.specs.StatementWords.{Context, a_procedure}
use Rattle.pli_declare.specs.ResolvedUnits.{ResolvedUnit, resolved_unit_of, all_symbols, meaning_at}
use Rattle.pli_declare.specs.TreeBlocks as source
use Rattle.pli_type_rules.specs.Checked as typing
use Rattle.pli_type_rules.specs.Checked.{in_unit, first_inside, checked}
use Rattle.pli_type_rules.specs.NamedUnits.{is_automatic, is_based, all_globals, area_named, block_symbols, parameters_of, returned_of, returned_area_of, names_based, named_as}
use Rattle.pli_type_rules.specs.NamedUnits.{named_unit, templates_of, checked_unit}
use Rattle.pli_type_rules.specs.Names.{NamedUnit, NamedAs}
use Rattle.pli_type_rules.specs.declared.beginning.Beginning.{Beginning}
use Rattle.pli_type_rules.specs.StatementTyping.{WithProcedures, enclosing, statements_typed, function_end}
use Rattle.pli_type_rules.specs.Temporaries.{temporaries_among}
use Rattle.pli_type_laws.proofs.BlocksKnown.{Sits, sits_all}
use Rattle.pli_type_laws.proofs.BlocksKnown as counted
use Rattle.pli_type_laws.proofs.BasedNames.{based_known}
use Rattle.pli_type_laws.proofs.BlocksOfUnits.{blocks_are_of_tree}
use Rattle.pli_type_laws.proofs.NameFactsHold.{facts_hold}
use Rattle.pli_type_laws.proofs.NestingHolds.{unit_nests}
use Rattle.pli_type_laws.proofs.NumberingHolds.{units_are_numbered}
use Rattle.pli_type_laws.specs.NameFacts.{NameFacts}
use Rattle.pli_type_laws.specs.Numbering.{AreNumbered}
use Rattle.pli_type_laws.specs.SourceBlocks.{SourceBlock, unit_blocks}
use Rattle.pli_type_laws.specs.UnitBlocks.{in_unit as block_in_unit, in_tree}
use Rattle.pli_type_tree.specs.Templates.{Template}
use Rattle.pli_type_tree.specs.TypedTree.{TypedStatements, TypedUnit}
use Rattle.pli_gen_emit.specs.TreeTranslation.{blocks_among}
use Rattle.pli_type_bounds.proofs.BlocksThere.{AreHere, list_here, has_block, has_slot}
use Rattle.pli_type_laws.proofs.TypedParts.{OnTyped, on_given, unit_given}
use Rattle.pli_type_laws.specs.TypedUnits.{unit_with}
use Rattle.pli_type_bounds.proofs.NamesFit.{Has, Automatic, automatic_fit, based_fit, all_globals_fit, areas_fit, meanings_fit, parameters_few, parameters_described, returned_described}
use Rattle.pli_type_bounds.proofs.StatementsFit as fitting
use Rattle.pli_type_bounds.proofs.StatementsFit.{UnitFits, Fit, ListFits, list_fits}
use Rattle.pli_type_bounds.specs.UnitLaws.{TypedUnitsAreWellFormed}
use Rattle.pli_resolve_bounds.proofs.StatementsCounted.{statements_are_few}

-- ---- numbers

-- statements that are numbered from some number on, and spelled from 2 on, are numbered from 2 on
numbered_at : (c : Context) (levels p k from : ℕ) (ts : Tokens) (ss : Statements) → SpellsStatements c levels p k ts ss → AreNumbered from ss → AreNumbered k ss
numbered_at c levels p k from ts Ended h n = tt
numbered_at c levels p k from ts (Before (Numbered number label at body) more) h n =
    let same : from ≡ k = sym n.0.0 ∙ h.3.4 in
    subst (λ k. AreNumbered k (Before (Numbered number label at body) more)) same n

opened : (F : ℕ → Type 0) (X : Type 0) (levels : ℕ) → Deeper F levels → ((m : ℕ) → F m → X) → X
opened F X zero h g = absurd h
opened F X (suc m) h g = g m h

unit_numbered : (texts : Tokens) (u : ExternalProcedure) → unit_of texts ≡ Ok u → AreNumbered 2 u.statements
unit_numbered texts u read =
    let s = unit_reads texts u read in
    let n = units_are_numbered texts u read in
    let at : ℕ = 3 + length s.1 + 1 in
    opened (λ m. SpellsStatements a_procedure m at 2 s.2 u.statements) (AreNumbered 2 u.statements) nesting_limit s.9
    (λ m g. numbered_at a_procedure m at 2 n.0 s.2 u.statements g n.1)

-- ---- what is given

module _ (texts : Tokens) (u : ExternalProcedure) (read : unit_of texts ≡ Ok u) (none : resolution_faults u ≡ []) (short : length texts ≤ 200000) where
  abbrev R : ResolvedUnit
  R = resolved_unit_of u

  abbrev meaning : List ℕ → ℕ → NamedAs
  meaning = λ blocks at. named_as 63 R blocks (meaning_at R at)

  abbrev named : ℕ → Bool
  named = λ at. names_based (named_as 63 R [] (meaning_at R at))

  abbrev based : List ℕ → ℕ → List Template
  based = λ blocks block. templates_of (is_based 63) (block_symbols R block)

  abbrev areas : List ℕ → ℕ → Option Beginning
  areas = λ blocks block. area_named 63 R blocks (returned_area_of R block)

  abbrev U : NamedUnit
  U = unit_with u named based areas meaning (parameters_of R) (returned_of R)
      (λ block. templates_of (is_automatic 63) (block_symbols R block)) (all_globals 63 (all_symbols R))

  -- how many statements there are
  few : 2 + list_count u.statements < word_limit
  few = let n = statements_are_few texts u read in omega (arith, n.counted, n.end, short)

  abbrev All : List SourceBlock
  All = unit_blocks u

  -- how many blocks there are
  size_is : length R.blocks ≡ 1 + source.blocks_among u.statements
  size_is =
      let same = ap length (blocks_are_of_tree u) in
      let tree : length All ≡ suc (source.blocks_among u.statements) = ap suc (counted.list_count (enclosing 0 u.statements ∷ []) 1 u.statements) in
      omega (arith, same, tree, length-map R.blocks block_in_unit, length-map All in_tree)

  all_sit : Sits All 0 All
  all_sit = sits_all All 0 All (λ i. ap (slice_get All) (next i))
    where
      next : (i : ℕ) → 0 + i ≡ i
      next i = omega arith

  facts : NameFacts (named_unit 63 R)
  facts = facts_hold R (blocks_are_of_tree u)

  abbrev Given : Result (WithProcedures TypedStatements) (List Fault)
  Given = statements_typed U (in_unit (returned_of R 0) u.statements) first_inside u.statements

  blocks_here : OnTyped (AreHere (λ k. length (parameters_of R k) + length (Automatic u none k)) blocks_among 1 (1 + source.blocks_among u.statements)) Given
  blocks_here =
      list_here u named based areas meaning (parameters_of R) (returned_of R)
      (λ block. templates_of (is_automatic 63) (block_symbols R block)) (all_globals 63 (all_symbols R)) facts.without_parameters
      (in_unit (returned_of R 0) u.statements) first_inside u.statements all_sit.1

  module _ (y : WithProcedures TypedStatements) (is : Given ≡ Ok y) where
    abbrev T : TypedUnit
    T = typing.unit_of U y

    here : AreHere (λ k. length (parameters_of R k) + length (Automatic u none k)) blocks_among 1 (1 + source.blocks_among u.statements) y
    here = on_given _ Given y is blocks_here

    has : Has u none T
    has = record {
      globals = refl;
      blocks = λ block lt. has_block u named based areas meaning (parameters_of R) (returned_of R)
          (λ block. templates_of (is_automatic 63) (block_symbols R block)) (all_globals 63 (all_symbols R)) facts.without_parameters y here block (omega (arith, lt, size_is));
      slots = λ block slot lt within. has_slot u named based areas meaning (parameters_of R) (returned_of R)
          (λ block. templates_of (is_automatic 63) (block_symbols R block)) (all_globals 63 (all_symbols R)) facts.without_parameters y here block slot (omega (arith, lt, size_is)) within;
    }

    fits : UnitFits T named based areas meaning (parameters_of R) (returned_of R) (λ block. templates_of (is_automatic 63) (block_symbols R block)) (length R.blocks)
    fits = record {
      names = λ blocks at near inside. meanings_fit u none T has blocks at near inside;
      few = parameters_few u none;
      returned_fits = returned_described u none;
      templates = automatic_fit u none;
      blocks = has.blocks;
      based_fits = λ blocks block. based_fit u none block;
      areas_fit = λ blocks block near inside. areas_fit u none T has blocks near inside block;
      knows = λ blocks at. based_known R blocks at;
    }

    start : fitting.Sits (length R.blocks) 63 (in_unit (returned_of R 0) u.statements)
    start = record {
      deep = omega arith;
      begins = omega arith;
      block = omega (arith, size_is);
      around = (omega (arith, size_is), tt);
      value = returned_described u none 0;
    }

    statements_fit : OnTyped (Fit T (ListFits T (temporaries_among named u.statements))) Given
    statements_fit =
        list_fits T u named based areas meaning (parameters_of R) (returned_of R)
        (λ block. templates_of (is_automatic 63) (block_symbols R block)) (all_globals 63 (all_symbols R)) (length R.blocks) fits
        true 63 (in_unit (returned_of R 0) u.statements) first_inside 2 u.statements start (unit_nests texts u read) (unit_numbered texts u read)
        (omega (arith, few)) (omega (arith, size_is))

    end_fits : (o : Option Description) (end : ℕ) → end < word_limit → IfThere (λ n. n < word_limit) (function_end o end)
    end_fits None end lt = tt
    end_fits (Some d) end lt = lt

    well_formed : IsWellFormed T
    well_formed =
        let s = unit_reads texts u read in
        let all = on_given (Fit T (ListFits T (temporaries_among named u.statements))) Given y is statements_fit in
        let first : u.heading.number < word_limit = omega (arith, s.7) in
        let last : u.end < word_limit = omega (arith, s.11, few) in
        record {
          signature = (parameters_few u none 0, parameters_described u none 0, returned_described u none 0);
          globals = all_globals_fit u none;
          some = omega arith;
          procedures = (
            ((first, automatic_fit u none 0, all.0.1), tt, parameters_few u none 0, end_fits (returned_of R 0) u.end last, all.0.0),
            all.1,
          );
        }

  unit_fits : (t : TypedUnit) → checked_unit R ≡ Ok t → IsWellFormed t
  unfolding checked_unit checked
  unit_fits t e = unit_given U IsWellFormed Given t (λ y is. well_formed y is) e

pub typed_units_are_well_formed : TypedUnitsAreWellFormed
typed_units_are_well_formed texts u t short read none e =
    unit_fits texts u read none short t e
