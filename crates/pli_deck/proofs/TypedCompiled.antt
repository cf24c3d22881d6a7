-- Where reading and the declarations have no fault, types decide what a unit is compiled to; where types have none and
-- code is not too long, its deck decides.
use Rattle.std.specs.Prelude.{◌≡◌, true, false, Result, Ok, Err, [], ◌∷◌, if◌then◌else◌}
use Rattle.std.proofs.Common.{ap, sym, subst, ◌∙◌}
use Rattle.pli_base.specs.Statements.{ExternalProcedure}
use Rattle.pli_base.specs.answers.FailureAnswers.{Fails}
use Rattle.pli_base.specs.declared.failure.Failure.{Failure}
use Rattle.pli_base.specs.declared.failure.Failure.TheVariants as failures
use Rattle.pli_base.specs.declared.token.Fault.{Fault}
use Rattle.pli_base.specs.Words.{Tokens}
use Rattle.pli_code.specs.CodeTables.{Code}
use Rattle.pli_code.specs.Versions.{written}
use Rattle.pli_code.specs.declared.code.Deck.{Deck}
use Rattle.pli_deck.specs.answers.Outcomes.{Compiles, of_fault, of_generating}
use Rattle.pli_deck.specs.declared.passes.CompileError.{CompileError}
use Rattle.pli_declarations.proofs.UnitsAlike.{faults_alike}
use Rattle.pli_declare.specs.Resolution.{resolution_faults}
use Rattle.pli_gen.specs.Limits.{is_too_long}
use Rattle.pli_gen.specs.answers.Answers.{Generates}
use Rattle.pli_gen.specs.declared.generating.GenerateError.{GenerateError}
use Rattle.pli_gen.specs.declared.generating.GenerateError.TheVariants as generating
use Rattle.pli_gen_emit.specs.Coding as by_items
use Rattle.pli_gen_emit.specs.Encoding.{code_of}
use Rattle.pli_gen_emit.proofs.ItemsMake.{code_same}
use Rattle.pli_grammar.proofs.UnitsAlike.{unit_same}
use Rattle.pli_parse_statement.specs.StatementReading.{unit_of}
use Rattle.pli_declare.specs.ResolvedUnits.{resolved_unit_of}
use Rattle.pli_type_rules.specs.NamedUnits.{checked_unit}
use Rattle.pli_meaning.proofs.DeclaredUnits.{declared_units}
use Rattle.pli_meaning.proofs.LimitsAlike.{limits_alike}
use Rattle.pli_type_tree.specs.TypedTree.{TypedUnit}
use Rattle.pli_meaning.specs.Scratch.{typed_unless, too_long, compiled_tree, short_deck, coded, compiled_texts}
use Rattle.pli_meaning.specs.MemberParts.{program_from, coded_from}

-- where reading has no fault, the tree that was read decides
pub tree_decides : (texts : Tokens) (u : ExternalProcedure) → unit_of texts ≡ Ok u → compiled_texts texts ≡ coded_from (typed_unless (resolution_faults u) u)
tree_decides texts u read = ap (λ r. coded_from (program_from r)) (unit_same texts ∙ read) ∙ ap (λ fs. coded_from (typed_unless fs u)) (faults_alike u)

-- and where the declarations have none, types
pub types_decide : (u v : ExternalProcedure) → resolution_faults u ≡ [] → v ≡ u → coded_from (typed_unless (resolution_faults u) u) ≡ coded_from (checked_unit (resolved_unit_of v))
types_decide u v none same = ap (λ fs. coded_from (typed_unless fs u)) none ∙ ap coded_from (declared_units u none) ∙ ap (λ x. coded_from (checked_unit (resolved_unit_of x))) (sym same)

-- code that is emitted and too long is a fault
pub long_decides : (u : TypedUnit) → is_too_long (code_of u) ≡ true → coded u ≡ Err (too_long ∷ [])
long_decides u long = ap (λ b. if b then Err (too_long ∷ []) else short_deck (compiled_tree u)) (limits_alike (by_items.code_of u) ∙ ap is_too_long (code_same u) ∙ long)

-- and where it is not too long, its deck decides
pub deck_decides : (u : TypedUnit) (c : Code) → is_too_long (code_of u) ≡ false → c ≡ code_of u → short_deck (record { version = written; name = u.procedure; is_main = u.is_main; code = c }) ≡ coded u
deck_decides u c fits same =
    ap (λ (x : Code). short_deck (record { version = written; name = u.procedure; is_main = u.is_main; code = x })) (same ∙ sym (code_same u))
    ∙ sym (ap (λ b. if b then Err (too_long ∷ []) else short_deck (compiled_tree u)) (limits_alike (by_items.code_of u) ∙ ap is_too_long (code_same u) ∙ fits))

-- what code has told is what compiling tells
pub code_refused : (u : TypedUnit) (r : Result Deck CompileError) (y : CompileError) (e : GenerateError) → r ≡ Err y → y ≡ of_generating e → Generates (Err e) (code_of u) → Compiles r (coded u)
code_refused u r y generating.TooLong is given long = subst (λ r. Compiles r (coded u)) (sym (is ∙ ap Err given)) (long_decides u long)
code_refused u r y generating.OutOfMemory is given long = subst (λ r. Compiles r (coded u)) (sym (is ∙ ap Err given)) tt

-- and what reading has told
pub reading_refused : (texts : Tokens) (r : Result Deck CompileError) (y : CompileError) (e : Failure Fault) → r ≡ Err y → y ≡ of_fault e → Fails e (unit_of texts) → Compiles r (compiled_texts texts)
reading_refused texts r y (failures.Fault f) is given told =
    subst (λ r. Compiles r (compiled_texts texts)) (sym (is ∙ ap Err given)) (ap (λ u. coded_from (program_from u)) (unit_same texts ∙ told))
reading_refused texts r y failures.OutOfMemory is given told = subst (λ r. Compiles r (compiled_texts texts)) (sym (is ∙ ap Err given)) tt
