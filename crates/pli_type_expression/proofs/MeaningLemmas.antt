-- What typing does with a name, by what the name means.
use Rattle.std.proofs.Common.{◌≡◌, ℕ, ◌++◌, ◌∷◌, [], List, Bool, true, false, Result, Ok, refl, ap, ◌∙◌, sym}
use Rattle.std.proofs.Common.{length, arith}
use Rattle.std.proofs.lemmas.Bool.{ne_eqb, false≢true}
use Rattle.std.specs.Bool.{◌==◌}
use Rattle.pli_base.specs.Results.{◌>>=◌}
use Rattle.pli_base.specs.Syntax.{Absent, Given, Expressions}
use Rattle.pli_base.specs.declared.syntax.JoinedPart.{JoinedPart}
use Rattle.pli_base.specs.views.SyntaxView.{joined_view}
use Rattle.pli_declare.specs.declared.built_in.BuiltInFunction.{BuiltInFunction}
use Rattle.pli_declare.specs.declared.built_in.BuiltInFunction.TheVariants as functions
use Rattle.pli_type_rules.specs.FunctionCalls.{Argument, DenotesVariable, roles_of, function_called}
use Rattle.pli_type_rules.specs.Names.{Naming, NamedAs, AVariable, AFunction, AProcedure, ALabel, Untyped}
use Rattle.pli_type_rules.specs.Names as names
use Rattle.pli_type_rules.specs.ExpressionTypes.{null_value}
use Rattle.pli_type_rules.specs.References.{Role, AsValue, AsArgument, LocatorBefore, NotLocated, Referent, variable_meant}
use Rattle.pli_type_rules.specs.Typing.{Segment, OfFunction, OfEmpty, OfNoVariable, named_alone, given_by, begun, ended, with_more, is_call}
use Rattle.pli_type_rules.specs.Typing.{procedure_called}
use Rattle.pli_type_rules.specs.Typing.{all_subscripts, all_arguments, roles_or_none, how_many}
use Rattle.pli_type_names.specs.SymbolMeaning.{IsMeantAs, IsVariable, IsProcedure}
use Rattle.pli_type_names.specs.declared.naming.NamedAs.TheVariants as answers
use Rattle.pli_type_names.specs.declared.naming.NamedProcedure.{NamedProcedure}
use Rattle.pli_type_names.specs.declared.naming.NamedVariable.{NamedVariable}
use Rattle.pli_type_tree.specs.TypedTree.{TypedExpression}
use Rattle.pli_type_expression.specs.Segments.{function_typed, is_empty_function, is_null_function, means_one}
use Rattle.pli_base.specs.answers.FailureAnswers.{Fails, Gives}
use Rattle.pli_type_expression.specs.views.SegmentView.{of_name}
use Rattle.pli_base.specs.declared.failure.Failure.{Failure}
use Rattle.pli_base.specs.declared.token.Fault.{Fault}
use Rattle.pli_type_expression.proofs.BindLemmas.{fails_on, fails_as, bind_assoc, bind_ok}
use Rattle.pli_type_expression.proofs.WrittenCalls.{gives_as}

-- after a name of a variable stand subscripts
pub begun_at_variable : (n : Naming) (w : NamedAs) (v : NamedVariable) → IsMeantAs (answers.Variable v) w
    → (call : Bool) (locator : LocatorBefore) (at : ℕ) (list : Expressions)
    → begun n w call locator at (Given list) ≡ (all_subscripts n list >>= λ xs. Ok (of_name w locator at xs))
begun_at_variable n (AVariable u) v p call locator at list = refl
begun_at_variable n (AFunction f) v p call locator at list = absurd p
begun_at_variable n (AProcedure q) v p call locator at list = absurd p
begun_at_variable n (ALabel s) v p call locator at list = absurd p
begun_at_variable n Untyped v p call locator at list = absurd p

-- a call of a built-in function
pub begun_at_function : (n : Naming) (w : NamedAs) (f : BuiltInFunction) → IsMeantAs (answers.Function f) w
    → (locator : LocatorBefore) (at : ℕ) (list : Expressions)
    → begun n w true locator at (Given list) ≡ (function_typed n f at list >>= λ v. Ok (given_by f v))
begun_at_function n (AFunction g) f p locator at list =
    sym (bind_assoc (all_arguments n (roles_or_none (roles_of g (how_many list))) list)
    (λ gs. function_called n.greatest g at (roles_of g (how_many list)) gs) (λ v. Ok (given_by g v)))
    ∙ ap (λ h. function_typed n h at list >>= λ v. Ok (given_by h v)) (sym p)
begun_at_function n (AVariable u) f p locator at list = absurd p
begun_at_function n (AProcedure q) f p locator at list = absurd p
begun_at_function n (ALabel s) f p locator at list = absurd p
begun_at_function n Untyped f p locator at list = absurd p

-- a call of a function of the program
pub call_given : {X : Type 0} (view : X → Segment) (result : Result X (Failure Fault)) (n : Naming) (w : NamedAs)
    (p : NamedProcedure) → IsMeantAs (answers.Procedure p) w → (locator : LocatorBefore) (at : ℕ) (list : Expressions)
    (gs : List Argument) → all_arguments n [] list ≡ Ok gs
    → ((q : names.NamedProcedure) → IsProcedure p q → Gives view result (procedure_called n q at gs))
    → Gives view result (begun n w true locator at (Given list))
call_given view result n (AProcedure q) p is locator at list gs e h =
    gives_as view result _ _ (bind_ok (all_arguments n [] list) gs (λ gs. procedure_called n q at gs) e) (h q is)
call_given view result n (AVariable u) p is locator at list gs e h = absurd is
call_given view result n (AFunction f) p is locator at list gs e h = absurd is
call_given view result n (ALabel s) p is locator at list gs e h = absurd is
call_given view result n Untyped p is locator at list gs e h = absurd is

-- no call: arguments of a function, of a procedure, of a label, and of what has no type
pub begun_beside_function : (n : Naming) (w : NamedAs) (f : BuiltInFunction) → IsMeantAs (answers.Function f) w
    → (locator : LocatorBefore) (at : ℕ) (list : Expressions)
    → begun n w false locator at (Given list) ≡ (all_arguments n [] list >>= λ gs. Ok (of_name w NotLocated at []))
begun_beside_function n (AFunction g) f p locator at list = refl
begun_beside_function n (AVariable u) f p locator at list = absurd p
begun_beside_function n (AProcedure q) f p locator at list = absurd p
begun_beside_function n (ALabel s) f p locator at list = absurd p
begun_beside_function n Untyped f p locator at list = absurd p

pub begun_beside_procedure : (n : Naming) (w : NamedAs) (p : NamedProcedure)
    → IsMeantAs (answers.Procedure p) w → (locator : LocatorBefore) (at : ℕ) (list : Expressions)
    → begun n w false locator at (Given list) ≡ (all_arguments n [] list >>= λ gs. Ok (of_name w NotLocated at []))
begun_beside_procedure n (AProcedure q) p is locator at list = refl
begun_beside_procedure n (AVariable u) p is locator at list = absurd is
begun_beside_procedure n (AFunction g) p is locator at list = absurd is
begun_beside_procedure n (ALabel s) p is locator at list = absurd is
begun_beside_procedure n Untyped p is locator at list = absurd is

pub begun_at_label : (n : Naming) (w : NamedAs) (s : ℕ) → IsMeantAs (answers.Label s) w → (call : Bool) (locator : LocatorBefore)
    (at : ℕ) (list : Expressions)
    → begun n w call locator at (Given list) ≡ (all_arguments n [] list >>= λ gs. Ok (of_name w NotLocated at []))
begun_at_label n (ALabel t) s p call locator at list = refl
begun_at_label n (AVariable u) s p call locator at list = absurd p
begun_at_label n (AFunction g) s p call locator at list = absurd p
begun_at_label n (AProcedure q) s p call locator at list = absurd p
begun_at_label n Untyped s p call locator at list = absurd p

pub begun_at_untyped : (n : Naming) (w : NamedAs) → IsMeantAs answers.Untyped w → (call : Bool) (locator : LocatorBefore) (at : ℕ)
    (list : Expressions)
    → begun n w call locator at (Given list) ≡ (all_arguments n [] list >>= λ gs. Ok (of_name w NotLocated at []))
begun_at_untyped n Untyped p call locator at list = refl
begun_at_untyped n (AVariable u) p call locator at list = absurd p
begun_at_untyped n (AFunction g) p call locator at list = absurd p
begun_at_untyped n (AProcedure q) p call locator at list = absurd p
begun_at_untyped n (ALabel s) p call locator at list = absurd p

-- a name alone: whether it means such a function
pub function_is_such : (is_such : BuiltInFunction → Bool) (f : BuiltInFunction) (w : NamedAs) → IsMeantAs (answers.Function f) w
    → is_such f ≡ means_one is_such w
function_is_such is_such f (AFunction g) h = ap is_such h
function_is_such is_such f (AVariable u) h = absurd h
function_is_such is_such f (AProcedure q) h = absurd h
function_is_such is_such f (ALabel s) h = absurd h
function_is_such is_such f Untyped h = absurd h

pub variable_is_none_such : (is_such : BuiltInFunction → Bool) (v : NamedVariable) (w : NamedAs) → IsMeantAs (answers.Variable v) w
    → false ≡ means_one is_such w
variable_is_none_such is_such v (AVariable u) h = refl
variable_is_none_such is_such v (AFunction g) h = absurd h
variable_is_none_such is_such v (AProcedure q) h = absurd h
variable_is_none_such is_such v (ALabel s) h = absurd h
variable_is_none_such is_such v Untyped h = absurd h

pub procedure_is_none_such : (is_such : BuiltInFunction → Bool) (p : NamedProcedure) (w : NamedAs) → IsMeantAs (answers.Procedure p) w
    → false ≡ means_one is_such w
procedure_is_none_such is_such p (AVariable u) h = absurd h
procedure_is_none_such is_such p (AFunction g) h = absurd h
procedure_is_none_such is_such p (AProcedure q) h = refl
procedure_is_none_such is_such p (ALabel s) h = absurd h
procedure_is_none_such is_such p Untyped h = absurd h

pub label_is_none_such : (is_such : BuiltInFunction → Bool) (s : ℕ) (w : NamedAs) → IsMeantAs (answers.Label s) w
    → false ≡ means_one is_such w
label_is_none_such is_such s (AVariable u) h = absurd h
label_is_none_such is_such s (AFunction g) h = absurd h
label_is_none_such is_such s (AProcedure q) h = absurd h
label_is_none_such is_such s (ALabel t) h = refl
label_is_none_such is_such s Untyped h = absurd h

pub untyped_is_none_such : (is_such : BuiltInFunction → Bool) (w : NamedAs) → IsMeantAs answers.Untyped w → false ≡ means_one is_such w
untyped_is_none_such is_such (AVariable u) h = absurd h
untyped_is_none_such is_such (AFunction g) h = absurd h
untyped_is_none_such is_such (AProcedure q) h = absurd h
untyped_is_none_such is_such (ALabel s) h = absurd h
untyped_is_none_such is_such Untyped h = refl

-- what it begins, by the function that it means
function_alone : (n : Naming) (f : BuiltInFunction) (locator : LocatorBefore) (at : ℕ)
    → Ok (named_alone at f) ≡ begun n (AFunction f) true locator at Absent
function_alone n f locator at = refl

alone_null : (at : ℕ) (f : BuiltInFunction) → is_null_function f ≡ true → OfFunction null_value ≡ named_alone at f
alone_null at functions.Null e = refl
alone_null at functions.Abs e = absurd (false≢true e)
alone_null at functions.Max e = absurd (false≢true e)
alone_null at functions.Min e = absurd (false≢true e)
alone_null at functions.Mod e = absurd (false≢true e)
alone_null at functions.Divide e = absurd (false≢true e)
alone_null at functions.Sign e = absurd (false≢true e)
alone_null at functions.Length e = absurd (false≢true e)
alone_null at functions.Index e = absurd (false≢true e)
alone_null at functions.Allocation e = absurd (false≢true e)
alone_null at functions.LowBound e = absurd (false≢true e)
alone_null at functions.HighBound e = absurd (false≢true e)
alone_null at functions.Substring e = absurd (false≢true e)
alone_null at functions.Address e = absurd (false≢true e)
alone_null at functions.Empty e = absurd (false≢true e)
alone_null at functions.Pointer e = absurd (false≢true e)
alone_null at functions.Offset e = absurd (false≢true e)

alone_empty : (at : ℕ) (f : BuiltInFunction) → is_empty_function f ≡ true → OfEmpty ≡ named_alone at f
alone_empty at functions.Empty e = refl
alone_empty at functions.Null e = absurd (false≢true e)
alone_empty at functions.Abs e = absurd (false≢true e)
alone_empty at functions.Max e = absurd (false≢true e)
alone_empty at functions.Min e = absurd (false≢true e)
alone_empty at functions.Mod e = absurd (false≢true e)
alone_empty at functions.Divide e = absurd (false≢true e)
alone_empty at functions.Sign e = absurd (false≢true e)
alone_empty at functions.Length e = absurd (false≢true e)
alone_empty at functions.Index e = absurd (false≢true e)
alone_empty at functions.Allocation e = absurd (false≢true e)
alone_empty at functions.LowBound e = absurd (false≢true e)
alone_empty at functions.HighBound e = absurd (false≢true e)
alone_empty at functions.Substring e = absurd (false≢true e)
alone_empty at functions.Address e = absurd (false≢true e)
alone_empty at functions.Pointer e = absurd (false≢true e)
alone_empty at functions.Offset e = absurd (false≢true e)

-- no value
alone_nothing : (at : ℕ) (f : BuiltInFunction) → is_null_function f ≡ false → is_empty_function f ≡ false → OfNoVariable at ≡ named_alone at f
alone_nothing at functions.Null e h = absurd (false≢true (sym e))
alone_nothing at functions.Empty e h = absurd (false≢true (sym h))
alone_nothing at functions.Abs e h = refl
alone_nothing at functions.Max e h = refl
alone_nothing at functions.Min e h = refl
alone_nothing at functions.Mod e h = refl
alone_nothing at functions.Divide e h = refl
alone_nothing at functions.Sign e h = refl
alone_nothing at functions.Length e h = refl
alone_nothing at functions.Index e h = refl
alone_nothing at functions.Allocation e h = refl
alone_nothing at functions.LowBound e h = refl
alone_nothing at functions.HighBound e h = refl
alone_nothing at functions.Substring e h = refl
alone_nothing at functions.Address e h = refl
alone_nothing at functions.Pointer e h = refl
alone_nothing at functions.Offset e h = refl

pub begun_as_null : (n : Naming) (w : NamedAs) (call : Bool) (locator : LocatorBefore) (at : ℕ) → call ≡ true
    → means_one is_null_function w ≡ true → Ok (OfFunction null_value) ≡ begun n w call locator at Absent
begun_as_null n w false locator at c e = absurd (false≢true c)
begun_as_null n (AFunction g) true locator at c e = ap (λ s. Ok s) (alone_null at g e) ∙ function_alone n g locator at
begun_as_null n (AVariable u) true locator at c e = absurd (false≢true e)
begun_as_null n (AProcedure q) true locator at c e = absurd (false≢true e)
begun_as_null n (ALabel s) true locator at c e = absurd (false≢true e)
begun_as_null n Untyped true locator at c e = absurd (false≢true e)

pub begun_as_empty : (n : Naming) (w : NamedAs) (call : Bool) (locator : LocatorBefore) (at : ℕ) → call ≡ true
    → means_one is_empty_function w ≡ true → Ok OfEmpty ≡ begun n w call locator at Absent
begun_as_empty n w false locator at c e = absurd (false≢true c)
begun_as_empty n (AFunction g) true locator at c e = ap (λ s. Ok s) (alone_empty at g e) ∙ function_alone n g locator at
begun_as_empty n (AVariable u) true locator at c e = absurd (false≢true e)
begun_as_empty n (AProcedure q) true locator at c e = absurd (false≢true e)
begun_as_empty n (ALabel s) true locator at c e = absurd (false≢true e)
begun_as_empty n Untyped true locator at c e = absurd (false≢true e)

pub begun_uncalled : (n : Naming) (w : NamedAs) (call : Bool) (locator : LocatorBefore) (at : ℕ) → call ≡ false
    → Ok (of_name w locator at []) ≡ begun n w call locator at Absent
begun_uncalled n w true locator at c = absurd (false≢true (sym c))
begun_uncalled n (AVariable u) false locator at c = refl
begun_uncalled n (AFunction g) false locator at c = refl
begun_uncalled n (AProcedure q) false locator at c = refl
begun_uncalled n (ALabel s) false locator at c = refl
begun_uncalled n Untyped false locator at c = refl

pub begun_as_name : (n : Naming) (w : NamedAs) (call : Bool) (locator : LocatorBefore) (at : ℕ) → call ≡ true
    → means_one is_null_function w ≡ false → means_one is_empty_function w ≡ false
    → Ok (of_name w locator at []) ≡ begun n w call locator at Absent
begun_as_name n w false locator at c e h = absurd (false≢true c)
begun_as_name n (AVariable u) true locator at c e h = refl
begun_as_name n (AFunction g) true locator at c e h = ap (λ s. Ok s) (alone_nothing at g e h)
begun_as_name n (AProcedure q) true locator at c e h = refl
begun_as_name n (ALabel s) true locator at c e h = refl
begun_as_name n Untyped true locator at c e h = refl

-- further subscripts
pub more_after_name : (w : NamedAs) (locator : LocatorBefore) (at : ℕ) (xs ys : List TypedExpression)
    → of_name w locator at (xs ++ ys) ≡ with_more (of_name w locator at xs) ys
more_after_name (AVariable u) locator at xs ys = refl
more_after_name (AFunction g) locator at xs ys = refl
more_after_name (AProcedure q) locator at xs ys = refl
more_after_name (ALabel s) locator at xs ys = refl
more_after_name Untyped locator at xs ys = refl

-- where a segment ends
pub ended_at_variable : (w : NamedAs) (v : NamedVariable) → IsMeantAs (answers.Variable v) w → (role : Role)
    (locator : LocatorBefore) (at : ℕ) (xs : List TypedExpression) (r : Referent)
    → ((named : names.NamedVariable) → IsVariable v named → variable_meant role locator at named xs ≡ Ok r)
    → ended role (of_name w locator at xs) ≡ Ok (DenotesVariable r)
ended_at_variable (AVariable u) v p role locator at xs r h =
    bind_ok (variable_meant role locator at u xs) r (λ r. Ok (DenotesVariable r)) (h u p)
ended_at_variable (AFunction g) v p role locator at xs r h = absurd p
ended_at_variable (AProcedure q) v p role locator at xs r h = absurd p
ended_at_variable (ALabel s) v p role locator at xs r h = absurd p
ended_at_variable Untyped v p role locator at xs r h = absurd p

pub ended_with_fault : (w : NamedAs) (v : NamedVariable) → IsMeantAs (answers.Variable v) w → (role : Role)
    (locator : LocatorBefore) (at : ℕ) (xs : List TypedExpression) (error : Failure Fault)
    → ((named : names.NamedVariable) → IsVariable v named
    → Fails error (variable_meant role locator at named xs))
    → Fails error (ended role (of_name w locator at xs))
ended_with_fault (AVariable u) v p role locator at xs error h =
    fails_on error (variable_meant role locator at u xs) (λ r. Ok (DenotesVariable r)) (h u p)
ended_with_fault (AFunction g) v p role locator at xs error h = absurd p
ended_with_fault (AProcedure q) v p role locator at xs error h = absurd p
ended_with_fault (ALabel s) v p role locator at xs error h = absurd p
ended_with_fault Untyped v p role locator at xs error h = absurd p

-- parentheses are those of a call where nothing is joined to the name
pub call_of_value : (xs : List JoinedPart) → (length xs == 0) ≡ is_call AsValue false (joined_view xs)
call_of_value [] = refl
call_of_value (x ∷ xs) = ne_eqb (length (x ∷ xs)) 0 (λ e. omega arith)

pub call_of_argument : (xs : List JoinedPart) → (length xs == 0) ≡ is_call AsArgument false (joined_view xs)
call_of_argument [] = refl
call_of_argument (x ∷ xs) = ne_eqb (length (x ∷ xs)) 0 (λ e. omega arith)

-- the fault of an argument, whether that is of a call or not
pub procedure_unmeant : (n : Naming) (w : NamedAs) (p : NamedProcedure) → IsMeantAs (answers.Procedure p) w
    → (call : Bool) (locator : LocatorBefore) (at : ℕ) (list : Expressions) (error : Failure Fault)
    → Fails error (all_arguments n [] list) → Fails error (begun n w call locator at (Given list))
procedure_unmeant n (AProcedure q) p is true locator at list error e =
    fails_on error (all_arguments n [] list) (λ gs. procedure_called n q at gs) e
procedure_unmeant n (AVariable u) p is true locator at list error e = absurd is
procedure_unmeant n (AFunction g) p is true locator at list error e = absurd is
procedure_unmeant n (ALabel s) p is true locator at list error e = absurd is
procedure_unmeant n Untyped p is true locator at list error e = absurd is
procedure_unmeant n w p is false locator at list error e =
    fails_as error _ _ (begun_beside_procedure n w p is locator at list)
    (fails_on error (all_arguments n [] list) (λ gs. Ok (of_name w NotLocated at [])) e)
