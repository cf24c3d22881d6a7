-- CALL, GOTO and RETURN.
use Rattle.std.proofs.Common.{◌≡◌, ℕ, List, map, slice_get, Option, Some, None, option_and_then, option_map, Result, Ok, refl, ap, sym, ◌∙◌, subst}
use Rattle.std.proofs.lemmas.Option.{slice_get-map}
use Rattle.pli_base.specs.Results.{◌>>=◌}
use Rattle.pli_base.specs.Syntax.{Arguments, Expression}
use Rattle.pli_base.specs.declared.syntax.Expression as program_tree
use Rattle.pli_base.specs.views.SyntaxView as syntax_view
use Rattle.pli_type_rules.specs.ExpressionTypes.{TypedValue}
use Rattle.pli_type_rules.specs.Typing.{first_token, value_of}
use Rattle.pli_base.specs.declared.syntax.Identifier.{Identifier}
use Rattle.pli_base.specs.declared.token.Fault.{Fault}
use Rattle.pli_map.specs.Description.{Description}
use Rattle.pli_type_rules.specs.FunctionCalls.{Argument}
use Rattle.pli_type_rules.specs.Names.{Naming, NamedAs, NamedProcedure, AVariable, AFunction, AProcedure, ALabel, Untyped}
use Rattle.pli_type_rules.specs.ProcedureCalls.{arguments_passed}
use Rattle.pli_type_rules.specs.declared.beginning.Beginning.{Beginning}
use Rattle.pli_type_rules.specs.StatementTyping.{Enclosing, Surroundings, area_here, jump, arguments_typed, call_of, call_typed, no_function, return_typed, returned_value}
use Rattle.pli_type_expression.proofs.BindLemmas.{bind_ok, fails_as, fails_on}
use Rattle.pli_base.specs.answers.FailureAnswers.{Fails, Gives}
use Rattle.pli_base.specs.declared.failure.Failure.{Failure}
use Rattle.pli_base.specs.declared.failure.Failure.TheVariants as errors
use Rattle.pli_type_names.specs.SymbolMeaning.{IsMeantAs, IsProcedure}
use Rattle.pli_type_names.specs.UnitNaming.{Names, naming_in}
use Rattle.pli_type_names.specs.declared.naming.NamedAs as program_name
use Rattle.pli_type_names.specs.declared.naming.NamedAs.TheVariants as answers
use Rattle.pli_type_names.specs.declared.naming.NamedProcedure as program
use Rattle.pli_type_tree.specs.TypedTree as typed
use Rattle.pli_type_tree.specs.TypedTree.{TypedArguments, Form}

-- what a name means that was found to mean a procedure
pub meant_procedure : (p : program.NamedProcedure) (m : NamedAs) → IsMeantAs (answers.Procedure p) m
    → (q : NamedProcedure) × (m ≡ AProcedure q) × IsProcedure p q
meant_procedure p (AProcedure q) h = (q, refl, h)
meant_procedure p (AVariable v) h = absurd h
meant_procedure p (AFunction f) h = absurd h
meant_procedure p (ALabel s) h = absurd h
meant_procedure p Untyped h = absurd h

pub greatest_is : (names : Names) → (naming_in names).greatest ≡ 63
unfolding naming_in
greatest_is names = refl

call_passed : (names : Names) (name : Identifier) (list : Arguments) (gs : List Argument) (q : NamedProcedure)
    → arguments_typed (naming_in names) list ≡ Ok gs → (naming_in names).meaning name.at ≡ AProcedure q
    → call_typed (naming_in names) name list
    ≡ (arguments_passed 63 q name.at gs >>= no_function name.at q.callee q.returned)
call_passed names name list gs q typed meant =
    ap (λ r. r >>= λ gs. call_of (naming_in names).greatest name.at ((naming_in names).meaning name.at) gs) typed
    ∙ ap (λ m. call_of (naming_in names).greatest name.at m gs) meant
    ∙ ap (λ g. arguments_passed g q name.at gs >>= no_function name.at q.callee q.returned) (greatest_is names)

pub call_fails : (names : Names) (name : Identifier) (list : Arguments) (gs : List Argument) (q : NamedProcedure) (e : Failure Fault) (g : ℕ) → g ≡ 63
    → arguments_typed (naming_in names) list ≡ Ok gs → (naming_in names).meaning name.at ≡ AProcedure q
    → Fails e (arguments_passed g q name.at gs) → Fails e (call_typed (naming_in names) name list)
call_fails names name list gs q errors.OutOfMemory g is typed meant h = tt
call_fails names name list gs q (errors.Fault f) g is typed meant h =
    call_passed names name list gs q typed meant ∙ ap (λ g. arguments_passed g q name.at gs >>= no_function name.at q.callee q.returned) (sym is)
    ∙ ap (λ r. r >>= no_function name.at q.callee q.returned) h

pub call_done : (names : Names) (name : Identifier) (list : Arguments) (gs : List Argument) (q : NamedProcedure) (xs : TypedArguments)
    (returned : Option Description) (callee : typed.Callee) (g : ℕ) → g ≡ 63 → arguments_typed (naming_in names) list ≡ Ok gs
    → (naming_in names).meaning name.at ≡ AProcedure q → arguments_passed g q name.at gs ≡ Ok xs
    → callee ≡ q.callee → returned ≡ q.returned
    → call_typed (naming_in names) name list ≡ no_function name.at callee returned xs
call_done names name list gs q xs returned callee g small typed meant h is gives =
    call_passed names name list gs q typed meant ∙ ap (λ g. arguments_passed g q name.at gs >>= no_function name.at q.callee q.returned) (sym small) ∙ ap (λ r. r >>= no_function name.at q.callee q.returned) h
    ∙ ap (λ b. no_function name.at b q.returned xs) (sym is) ∙ ap (λ d. no_function name.at callee d xs) (sym gives)

-- labels

pub meant_label : (s : ℕ) (m : NamedAs) → IsMeantAs (answers.Label s) m → m ≡ ALabel s
meant_label s (ALabel t) h = ap ALabel (sym h)
meant_label s (AProcedure q) h = absurd h
meant_label s (AVariable v) h = absurd h
meant_label s (AFunction f) h = absurd h
meant_label s Untyped h = absurd h

pub no_jump : (s : Surroundings) (a : program_name.NamedAs) (m : NamedAs) → IsMeantAs a m → ((x : ℕ) → a ≡ answers.Label x → ⊥)
    → jump s m ≡ None
no_jump s a (ALabel t) h never = absurd (not_label a t h never)
  where
    not_label : (a : program_name.NamedAs) (t : ℕ) → IsMeantAs a (ALabel t) → ((x : ℕ) → a ≡ answers.Label x → ⊥) → ⊥
    not_label (answers.Label x) t h never = never x refl
    not_label (answers.Variable v) t h never = h
    not_label (answers.Function f) t h never = h
    not_label (answers.Procedure p) t h never = h
    not_label answers.Untyped t h never = h
no_jump s a (AProcedure q) h never = refl
no_jump s a (AVariable v) h never = refl
no_jump s a (AFunction f) h never = refl
no_jump s a Untyped h never = refl

-- RETURN with a value

numbered : (n : Naming) (o : Option Enclosing)
    → option_and_then n.returned_area (option_map (λ (b : Enclosing). b.number) o) ≡ option_and_then (λ (b : Enclosing). n.returned_area b.number) o
numbered n None = refl
numbered n (Some b) = refl

-- the area that RETURNS names, by the numbers of the blocks round the place
pub area_by_numbers : (n : Naming) (s : Surroundings) (blocks : List ℕ) → blocks ≡ map (λ (b : Enclosing). b.number) s.blocks
    → option_and_then n.returned_area (slice_get blocks s.begins) ≡ area_here n s
area_by_numbers n s blocks same =
    ap (λ bs. option_and_then n.returned_area (slice_get bs s.begins)) same
    ∙ ap (option_and_then n.returned_area) (slice_get-map (λ (b : Enclosing). b.number) s.blocks s.begins)
    ∙ numbered n (slice_get s.blocks s.begins)

return_of : (names : Names) (s : Surroundings) (at : ℕ) (e : program_tree.Expression) (value : Option program_tree.Expression)
    → value ≡ Some e → return_typed (naming_in names) s at (option_map syntax_view.expression_view value)
    ≡ (value_of (naming_in names) (syntax_view.expression_view e)
    >>= λ v. returned_value (naming_in names).greatest (area_here (naming_in names) s) at (first_token (syntax_view.expression_view e)) s.begins s.value v)
return_of names s at e value is = ap (λ o. return_typed (naming_in names) s at (option_map syntax_view.expression_view o)) is

pub return_fails : (names : Names) (s : Surroundings) (at : ℕ) (e : program_tree.Expression)
    (value : Option program_tree.Expression) (error : Failure Fault) → value ≡ Some e
    → Fails error (value_of (naming_in names) (syntax_view.expression_view e))
    → Fails error (return_typed (naming_in names) s at (option_map syntax_view.expression_view value))
return_fails names s at e value error is h =
    fails_as error _ _ (return_of names s at e value is) (fails_on error _ _ h)

pub return_goes_on : {X : Type 0} (view : X → Form) (result : Result X (Failure Fault)) (names : Names) (s : Surroundings) (at : ℕ)
    (e : program_tree.Expression) (value : Option program_tree.Expression) (v : TypedValue) (greatest first : ℕ) (area : Option Beginning)
    → value ≡ Some e → value_of (naming_in names) (syntax_view.expression_view e) ≡ Ok v → greatest ≡ 63
    → first ≡ first_token (syntax_view.expression_view e) → area ≡ area_here (naming_in names) s
    → Gives view result (returned_value greatest area at first s.begins s.value v)
    → Gives view result (return_typed (naming_in names) s at (option_map syntax_view.expression_view value))
return_goes_on view result names s at e value v greatest first area is typed small token here h =
    subst (Gives view result)
    (ap (λ g. returned_value g area at first s.begins s.value v) (small ∙ sym (greatest_is names))
    ∙ ap (λ f. returned_value (naming_in names).greatest area at f s.begins s.value v) token
    ∙ ap (λ a. returned_value (naming_in names).greatest a at (first_token (syntax_view.expression_view e)) s.begins s.value v) here
    ∙ sym (return_of names s at e value is ∙ bind_ok _ v _ typed)) h
