-- The faults of types have the codes of types.
use Rattle.std.proofs.Common.{ℕ, ◌+◌, Bool, true, false, IsTrue, Option, Some, None, List, [], ◌∷◌, ◌++◌, Result, Ok}
use Rattle.std.proofs.Common.{Err, if◌then◌else◌, refl}
use Rattle.pli_base.specs.Results.{◌>>=◌}
use Rattle.pli_base.specs.Statements as tree
use Rattle.pli_base.specs.Statements.{Allocation, Statement, Numbered, Body, Statements, Ended, Before, Alternative}
use Rattle.pli_base.specs.Syntax.{Expression, Referred, Constant, Parenthesized, Prefix, Infix, Reference, Named}
use Rattle.pli_base.specs.Syntax.{JoinedParts, Alone, Joined, Arguments, Absent, Given, Expressions, Empty, Listed}
use Rattle.pli_base.specs.declared.code.Code.{Code}
use Rattle.pli_base.specs.declared.code.Code.TheVariants.{WrongOperandType, CannotAssign, CannotPrint, BadGoto}
use Rattle.pli_base.specs.declared.code.Code.TheVariants.{CannotAllocateOrFree}
use Rattle.pli_base.specs.declared.syntax.Identifier.{Identifier}
use Rattle.pli_base.specs.declared.syntax.Joining.TheVariants.{Member, Located}
use Rattle.pli_base.specs.declared.token.Fault.{Fault}
use Rattle.pli_map.specs.Description.{Description}
use Rattle.pli_declare.specs.declared.built_in.BuiltInFunction.{BuiltInFunction}
use Rattle.pli_map.specs.ParameterTypes.{ParameterType, Stated, AnyString, AnyArray, ArrayOf, StructureOf, stated}
use Rattle.pli_map.specs.declared.parameter.StringForm.{StringForm}
use Rattle.pli_type_rules.specs.AllocationTyping.{in_turn, only_variable, place_given, kept_for, allocated, all_allocated, freed}
use Rattle.pli_type_rules.specs.Checked.{checked, typed_as}
use Rattle.pli_type_rules.specs.ExpressionTypes.{TypedValue}
use Rattle.pli_type_rules.specs.FunctionCalls.{Denoted, DenotesVariable, DenotesResult, DenotesEmpty, Meant, OneValue}
use Rattle.pli_type_rules.specs.FunctionCalls.{WholeAggregate, Argument, function_called}
use Rattle.pli_type_rules.specs.Names.{NamedAs, AVariable, AFunction, AProcedure, ALabel, Untyped, NamedVariable}
use Rattle.pli_type_rules.specs.Names.{NamedProcedure, NamedUnit, Naming}
use Rattle.pli_type_rules.specs.ProcedureCalls.{arguments_passed, result_of}
use Rattle.pli_type_rules.specs.References.{Role, AsValue, AsArgument, AsTarget, AsLocator, Referent, StridedPart}
use Rattle.pli_type_rules.specs.References.{settled, open_settled, whole_meant, LocatorBefore, NotLocated}
use Rattle.pli_type_rules.specs.StatementTyping as statements
use Rattle.pli_type_rules.specs.StatementTyping.{WithProcedures}
use Rattle.pli_type_rules.specs.Temporaries.{Next}
use Rattle.pli_type_rules.specs.Typing as typing
use Rattle.pli_type_rules.specs.Typing.{Segment, OfVariable, OfFunction, OfEmpty, OfNoVariable, or_fault, first_token, own_token}
use Rattle.pli_type_rules.specs.Typing.{denoted}
use Rattle.pli_type_rules.specs.Typing.{referred, joined, begun, is_call, all_subscripts, subscripts_in, all_arguments}
use Rattle.pli_type_rules.specs.Typing.{as_value, one_value, ended, with_more, as_locator}
use Rattle.pli_type_rules.specs.TypingSteps.{or_bad_argument, or_wrong_argument, begins_somewhere}
use Rattle.pli_type_rules.specs.declared.beginning.Beginning.{Beginning}
use Rattle.pli_type_rules.specs.declared.expression_type.ExpressionType.{ExpressionType}
use Rattle.pli_type_rules.specs.laws.Laws.{is_of_types, AreOfTypes, IsFault, IsToldOfTypes, FaultsAreOfTypes}
use Rattle.pli_type_rules.specs.TypingSteps as steps
use Rattle.pli_type_tree.specs.TypedTree.{Callee, TypedExpression, TypedArguments, TypedRange, TypedStatements}
use Rattle.pli_type_tree.specs.TypedTree.{Form, TypedProcedure}

-- a fault, where there is one, is of types
Only : {A : Type 0} → Result A Fault → Type 0
Only (Ok x) = Unit {0}
Only (Err f) = IsTrue (is_of_types f.code)

-- what is no fault, and a fault
fine : {A : Type 0} (x : A) → Only {A = A} (Ok x)
unfolding Only
fine x = tt

told : (A : Type 0) (f : Fault) → IsTrue (is_of_types f.code) → Only {A = A} (Err f)
unfolding Only
told A f p = p

only_then : {A B : Type 0} (r : Result A Fault) (g : A → Result B Fault) → Only r → ((x : A) → Only (g x))
    → Only (r >>= g)
unfolding Only
only_then (Ok x) g p q = q x
only_then (Err f) g p q = p

only_or : {A : Type 0} (code : Code) (at : ℕ) (o : Option A) → IsTrue (is_of_types code)
    → Only (or_fault code at o)
unfolding Only
only_or code at None p = p
only_or code at (Some x) p = tt

only_if : {A : Type 0} (b : Bool) (r s : Result A Fault) → Only r → Only s → Only (if b then r else s)
only_if true r s p q = p
only_if false r s p q = q

-- references

only_somewhere : (at : ℕ) (o : Option Referent) → Only (begins_somewhere at o)
only_somewhere at None = told _ _ refl
only_somewhere at (Some r) = fine _

only_settled : (role : Role) (locator : LocatorBefore) (at : ℕ) (v : NamedVariable) (xs : List TypedExpression)
    (whole : Description) (o : Option StridedPart) → Only (settled role locator at v whole xs o)
only_settled role locator at v xs whole None = told _ _ refl
only_settled role locator at v xs whole (Some p) = only_if _ _ _ (told _ _ refl) (only_somewhere at _)

only_open : (role : Role) (locator : LocatorBefore) (at : ℕ) (v : NamedVariable) (xs : List TypedExpression)
    (o : Option ParameterType) → Only (open_settled role locator at v xs o)
only_open role locator at v xs None = told _ _ refl
only_open role locator at v xs (Some type) = only_if _ _ _ (told _ _ refl) (only_somewhere at _)

only_whole : (role : Role) (locator : LocatorBefore) (at : ℕ) (v : NamedVariable) (xs : List TypedExpression)
    (whole : Option Description) → Only (whole_meant role locator at v xs whole)
only_whole role locator at v xs (Some d) = only_settled role locator at v xs d _
only_whole role locator at v xs None = only_open role locator at v xs _

only_ended : (role : Role) (s : Segment) → Only (ended role s)
only_ended role (OfVariable locator at v xs) = only_then _ _ (only_whole role locator at v xs (stated v.whole)) (λ r. fine _)
only_ended role (OfFunction value) = fine _
only_ended role OfEmpty = fine _
only_ended role (OfNoVariable at) = told _ _ refl

-- expressions

only_one : (at : ℕ) (m : Meant) → Only (one_value at m)
only_one at (OneValue v) = fine _
only_one at (WholeAggregate r) = told _ _ refl

only_value : (at : ℕ) (d : Result Denoted Fault) → Only d → Only (as_value at d)
only_value at d p = only_then d _ p (λ x. only_one at _)

only_wrong : (at : ℕ) (o : Option TypedArguments) → Only (or_wrong_argument at o)
only_wrong at None = told _ _ refl
only_wrong at (Some arguments) = fine _

only_passed : (greatest : ℕ) (p : NamedProcedure) (at : ℕ) (gs : List Argument)
    → Only (arguments_passed greatest p at gs)
only_passed greatest p at gs = only_if _ _ _ (only_wrong at _) (told _ _ refl)

only_result : (at : ℕ) (callee : Callee) (arguments : TypedArguments) (o : Option ExpressionType)
    → Only (result_of at callee arguments o)
only_result at callee arguments None = told _ _ refl
only_result at callee arguments (Some kind) = fine _

only_procedure : (n : Naming) (p : NamedProcedure) (at : ℕ) (gs : List Argument)
    → Only (typing.procedure_called n p at gs)
only_procedure n p at gs =
    only_then _ _ (only_passed n.greatest p at gs)
    (λ passed. only_then _ _ (only_result at p.callee passed _) (λ v. fine _))

only_given : (at : ℕ) (o : Option TypedValue) → Only (or_bad_argument at o)
only_given at None = told _ _ refl
only_given at (Some v) = fine _

only_function : (greatest : ℕ) (function : BuiltInFunction) (at : ℕ) (roles : Option (List Role))
    (arguments : List Argument) → Only (function_called greatest function at roles arguments)
only_function greatest function at None arguments = told _ _ refl
only_function greatest function at (Some roles) arguments = only_given at _

mutual
  only_denoted : (n : Naming) (role : Role) (e : Expression) → Only (denoted n role e)
  only_denoted n role (Referred reference) = only_referred n role reference
  only_denoted n role (Constant at value) = fine _
  only_denoted n role (Parenthesized at inner) =
      only_then _ _ (only_value (first_token inner) _ (only_denoted n AsValue inner)) (λ v. fine _)
  only_denoted n role (Prefix operator at operand) =
      only_then _ _ (only_value (first_token operand) _ (only_denoted n AsValue operand))
      (λ v. only_then _ _ (only_or WrongOperandType at _ refl) (λ u. fine _))
  only_denoted n role (Infix operator at left right) =
      only_then _ _ (only_value (first_token left) _ (only_denoted n AsValue left))
      (λ v. only_then _ _ (only_value (first_token right) _ (only_denoted n AsValue right))
      (λ w. only_then _ _ (only_or WrongOperandType at _ refl) (λ u. fine _)))

  only_referred : (n : Naming) (role : Role) (r : Reference) → Only (referred n role r)
  only_referred n role (Named name arguments more) =
      only_then _ _ (only_begun n (n.meaning name.at) (is_call role false more) NotLocated name.at arguments)
      (λ s. only_joined n role s more)

  only_joined : (n : Naming) (role : Role) (s : Segment) (more : JoinedParts) → Only (joined n role s more)
  only_joined n role s Alone = only_ended role s
  only_joined n role s (Joined Member name arguments more) =
      only_then _ _ (only_in n arguments) (λ xs. only_joined n role (with_more s xs) more)
  only_joined n role s (Joined Located name arguments more) =
      only_then _ _ (only_ended AsLocator s)
      (λ l. only_then _ _ (only_begun n (n.meaning name.at) (is_call role true more) (as_locator l) name.at arguments)
      (λ t. only_joined n role t more))

  only_begun : (n : Naming) (name : NamedAs) (call : Bool) (locator : LocatorBefore) (at : ℕ) (arguments : Arguments)
      → Only (begun n name call locator at arguments)
  only_begun n (AVariable v) call locator at (Given list) =
      only_then _ _ (only_subscripts n list) (λ xs. fine _)
  only_begun n (AVariable v) call locator at Absent = fine _
  only_begun n (AFunction function) true locator at (Given list) =
      only_then _ _ (only_arguments n _ list)
      (λ gs. only_then _ _ (only_function n.greatest function at _ gs) (λ v. fine _))
  only_begun n (AFunction function) false locator at (Given list) =
      only_then _ _ (only_arguments n [] list) (λ gs. fine _)
  only_begun n (AFunction function) true locator at Absent = fine _
  only_begun n (AFunction function) false locator at Absent = fine _
  only_begun n (AProcedure p) true locator at (Given list) =
      only_then _ _ (only_arguments n [] list) (λ gs. only_procedure n p at gs)
  only_begun n (AProcedure p) false locator at (Given list) =
      only_then _ _ (only_arguments n [] list) (λ gs. fine _)
  only_begun n (AProcedure p) true locator at Absent = fine _
  only_begun n (AProcedure p) false locator at Absent = fine _
  only_begun n (ALabel statement) call locator at (Given list) =
      only_then _ _ (only_arguments n [] list) (λ gs. fine _)
  only_begun n (ALabel statement) call locator at Absent = fine _
  only_begun n Untyped call locator at (Given list) =
      only_then _ _ (only_arguments n [] list) (λ gs. fine _)
  only_begun n Untyped call locator at Absent = fine _

  only_in : (n : Naming) (arguments : Arguments) → Only (subscripts_in n arguments)
  only_in n Absent = fine _
  only_in n (Given list) = only_subscripts n list

  only_subscripts : (n : Naming) (list : Expressions) → Only (all_subscripts n list)
  only_subscripts n Empty = fine _
  only_subscripts n (Listed first more) =
      only_then _ _ (only_value (first_token first) _ (only_denoted n AsValue first))
      (λ v. only_then _ _ (only_or WrongOperandType (first_token first) _ refl)
      (λ x. only_then _ _ (only_subscripts n more) (λ xs. fine _)))

  only_arguments : (n : Naming) (roles : List Role) (list : Expressions) → Only (all_arguments n roles list)
  only_arguments n [] Empty = fine _
  only_arguments n (role ∷ roles) Empty = fine _
  only_arguments n [] (Listed first more) =
      only_then _ _ (only_denoted n AsArgument first)
      (λ m. only_then _ _ (only_arguments n [] more) (λ gs. fine _))
  only_arguments n (role ∷ roles) (Listed first more) =
      only_then _ _ (only_denoted n role first)
      (λ m. only_then _ _ (only_arguments n roles more) (λ gs. fine _))

-- statements

only_value_of : (n : Naming) (e : Expression) → Only (typing.value_of n e)
only_value_of n e = only_value (first_token e) _ (only_denoted n AsValue e)

only_aggregate : (equals : ℕ) (target : Referent) (m : Meant)
    → Only (statements.aggregate_assigned equals target m)
only_aggregate equals target (OneValue v) = told _ _ refl
only_aggregate equals target (WholeAggregate source) = only_if _ _ _ (fine _) (told _ _ refl)

only_scalar : (n : Naming) (equals : ℕ) (target : Referent) (d : Description) (e : Expression)
    → Only (statements.scalar_assigned n equals target d e)
only_scalar n equals target d e =
    only_then _ _ (only_value_of n e) (λ v. only_then _ _ (only_or CannotAssign equals _ refl) (λ x. fine _))

only_string : (n : Naming) (equals : ℕ) (target : Referent) (form : StringForm) (e : Expression)
    → Only (statements.string_assigned n equals target form e)
only_string n equals target form e =
    only_then _ _ (only_value_of n e) (λ v. only_then _ _ (only_or CannotAssign equals _ refl) (λ x. fine _))

only_area : (n : Naming) (equals : ℕ) (target : Option Beginning) (e : Expression)
    → Only (statements.area_assigned n equals target e)
only_area n equals target e =
    only_then _ _ (only_denoted n AsValue e) (λ d. only_or CannotAssign equals _ refl)

only_one_assigned : (n : Naming) (equals : ℕ) (target : Referent) (type : ParameterType) (e : Expression)
    → Only (statements.one_assigned n equals target type e)
only_one_assigned n equals target (Stated d) e = only_if _ _ _ (only_area n equals _ e) (only_scalar n equals target d e)
only_one_assigned n equals target (AnyString form) e = only_string n equals target form e
only_one_assigned n equals target (AnyArray dimensions element) e = told _ _ refl
only_one_assigned n equals target (ArrayOf bounds element) e = told _ _ refl
only_one_assigned n equals target (StructureOf members) e = told _ _ refl

only_assigned : (n : Naming) (at equals : ℕ) (d : Denoted) (e : Expression)
    → Only (statements.assigned n at equals d e)
only_assigned n at equals (DenotesVariable target) e =
    only_if _ _ _
    (only_then _ _ (only_then _ _ (only_denoted n AsArgument e) (λ d. fine _)) (λ m. only_aggregate equals target m))
    (only_one_assigned n equals target target.description e)
only_assigned n at equals (DenotesResult value) e = told _ _ refl
only_assigned n at equals DenotesEmpty e = told _ _ refl

only_items : (n : Naming) (es : List Expression) → Only (steps.items n es)
only_items n [] = fine _
only_items n (e ∷ es) =
    only_then _ _
    (only_then _ _ (only_value_of n e) (λ v. only_or CannotPrint (first_token e) _ refl))
    (λ x. only_then _ _ (only_items n es) (λ xs. fine _))

only_condition : (n : Naming) (e : Expression) → Only (statements.condition n e)
only_condition n e =
    only_then _ _ (only_value_of n e) (λ v. only_or WrongOperandType (first_token e) _ refl)

only_goto : (n : Naming) (s : statements.Surroundings) (label : Identifier) → Only (statements.goto_typed n s label)
only_goto n s label = only_or BadGoto label.at _ refl

only_no_function : (at : ℕ) (callee : Callee) (d : Option Description) (arguments : TypedArguments)
    → Only (statements.no_function at callee d arguments)
only_no_function at callee None arguments = fine _
only_no_function at callee (Some d) arguments = told _ _ refl

only_call_of : (greatest at : ℕ) (name : NamedAs) (gs : List Argument) → Only (statements.call_of greatest at name gs)
only_call_of greatest at (AProcedure p) gs =
    only_then _ _ (only_passed greatest p at gs) (λ arguments. only_no_function at p.callee p.returned arguments)
only_call_of greatest at (AVariable v) gs = told _ _ refl
only_call_of greatest at (AFunction function) gs = told _ _ refl
only_call_of greatest at (ALabel statement) gs = told _ _ refl
only_call_of greatest at Untyped gs = told _ _ refl

only_given_arguments : (n : Naming) (arguments : Arguments) → Only (statements.arguments_typed n arguments)
only_given_arguments n Absent = fine _
only_given_arguments n (Given list) = only_arguments n [] list

only_call : (n : Naming) (name : Identifier) (arguments : Arguments) → Only (statements.call_typed n name arguments)
only_call n name arguments =
    only_then _ _ (only_given_arguments n arguments)
    (λ gs. only_call_of n.greatest name.at (n.meaning name.at) gs)

only_returned : (greatest : ℕ) (area : Option Beginning) (at first begins : ℕ) (d : Option Description) (v : TypedValue)
    → Only (statements.returned_value greatest area at first begins d v)
only_returned greatest area at first begins None v = told _ _ refl
only_returned greatest area at first begins (Some d) v = only_then _ _ (only_or CannotAssign first _ refl) (λ x. fine _)

only_return : (n : Naming) (s : statements.Surroundings) (at : ℕ) (value : Option Expression)
    → Only (statements.return_typed n s at value)
only_return n s at None = only_if _ _ _ (fine _) (told _ _ refl)
only_return n s at (Some e) =
    only_then _ _ (only_value_of n e) (λ v. only_returned n.greatest _ at (first_token e) s.begins s.value v)

only_in_turn : {A B : Type 0} (each : A → Result B Fault) → ((x : A) → Only (each x)) → (xs : List A) → Only (in_turn each xs)
only_in_turn each only [] = fine _
only_in_turn each only (x ∷ xs) = only_then _ _ (only x) (λ y. only_then _ _ (only_in_turn each only xs) (λ ys. fine _))

only_a_variable : (at : ℕ) (d : Denoted) → Only (only_variable at d)
only_a_variable at (DenotesVariable r) = fine _
only_a_variable at (DenotesResult value) = told _ _ refl
only_a_variable at DenotesEmpty = told _ _ refl

only_place : (n : Naming) (o : Option Reference) → Only (place_given n o)
only_place n None = fine _
only_place n (Some reference) =
    only_then _ _ (only_referred n AsLocator reference) (λ d. only_then _ _ (only_a_variable _ d) (λ r. fine _))

only_allocated : (n : Naming) (temporary : ℕ) (a : Allocation) → Only (allocated n temporary a)
only_allocated n temporary a =
    only_then _ _ (only_place n a.area)
    (λ area. only_then _ _ (only_place n a.target) (λ target. only_or CannotAllocateOrFree a.name.at _ refl))

only_freed : (n : Naming) (reference : Reference) → Only (freed n reference)
only_freed n reference =
    only_then _ _ (only_referred n AsTarget reference)
    (λ d. only_then _ _ (only_a_variable _ d) (λ r. only_or CannotAllocateOrFree _ _ refl))

only_all_allocated : (n : Naming) (temporary : ℕ) (list : List Allocation) → Only (all_allocated n temporary list)
only_all_allocated n temporary [] = fine _
only_all_allocated n temporary (a ∷ others) =
    only_then _ _ (only_allocated n temporary a)
    (λ x. only_then _ _ (only_all_allocated n (temporary + kept_for x) others) (λ xs. fine _))

only_allocate : (n : Naming) (temporary : ℕ) (list : List Allocation) → Only (steps.allocate_typed n temporary list)
only_allocate n temporary list = only_then _ _ (only_all_allocated n temporary list) (λ xs. fine _)

only_free : (n : Naming) (list : List Reference) → Only (steps.free_typed n list)
only_free n list = only_then _ _ (only_in_turn (freed n) (only_freed n) list) (λ xs. fine _)

only_limit : (n : Naming) (e : Expression) → Only (statements.limit n e)
only_limit n e = only_then _ _ (only_value_of n e) (λ v. only_or WrongOperandType (first_token e) _ refl)

only_possible : (n : Naming) (o : Option Expression) → Only (steps.possible_limit n o)
only_possible n None = fine _
only_possible n (Some e) = only_then _ _ (only_limit n e) (λ x. fine _)

only_limits : (n : Naming) (range : Option tree.Range) → Only (statements.limits n range)
only_limits n None = fine _
only_limits n (Some (tree.To to by)) =
    only_then _ _ (only_limit n to) (λ x. only_then _ _ (only_possible n by) (λ y. fine _))
only_limits n (Some (tree.By by to)) =
    only_then _ _ (only_limit n by) (λ x. only_then _ _ (only_possible n to) (λ y. fine _))
only_limits n (Some (tree.Repeat next)) = fine _

only_suited : (at : ℕ) (range : TypedRange) (r : Referent) (b : Bool) → Only (statements.suited_control at r b)
only_suited at range r true = fine _
only_suited at range r false = told _ _ refl

only_controls : (at : ℕ) (is_located : Bool) (range : TypedRange) (d : Denoted) → Only (statements.controls at is_located range d)
only_controls at is_located range (DenotesVariable r) = only_if _ _ _ (only_suited at range r _) (told _ _ refl)
only_controls at is_located range (DenotesResult value) = told _ _ refl
only_controls at is_located range DenotesEmpty = told _ _ refl

only_possible_condition : (n : Naming) (o : Option Expression) → Only (steps.possible_condition n o)
only_possible_condition n None = fine _
only_possible_condition n (Some e) = only_then _ _ (only_condition n e) (λ x. fine _)

only_repeat : (n : Naming) (r : Referent) (kept : TypedRange) (range : Option tree.Range)
    → Only (statements.with_repeat n r kept range)
only_repeat n r kept None = fine _
only_repeat n r kept (Some (tree.To to by)) = fine _
only_repeat n r kept (Some (tree.By by to)) = fine _
only_repeat n r kept (Some (tree.Repeat next)) =
    only_then _ _ (only_value_of n next) (λ v. only_or CannotAssign (first_token next) _ refl)

only_iteration : (n : Naming) (temporary : ℕ) (variable : Reference) (equals : ℕ) (first : Expression)
    (range : Option tree.Range) (tested : Option Expression)
    → Only (statements.iteration n temporary variable equals first range tested)
only_iteration n temporary variable equals first range tested =
    only_then _ _ (only_value_of n first)
    (λ v. only_then _ _ (only_limits n range)
    (λ kept. only_then _ _ (only_referred n AsLocator variable)
    (λ d. only_then _ _ (only_controls (own_token variable) (statements.has_locator variable) kept d)
    (λ r. only_then _ _ (only_or CannotAssign equals _ refl)
    (λ operations. only_then _ _ (only_possible_condition n tested)
    (λ x. only_then _ _ (only_repeat n r kept range) (λ turns. fine _)))))))

-- faults of a statement and of those in it
Told : {A : Type 0} → Result A (List Fault) → Type 0
Told r = IsToldOfTypes r

passed : {A : Type 0} (x : A) → Told {A = A} (Ok x)
unfolding Told
passed x = tt

told_own : {A : Type 0} (r : Result A Fault) → Only r → Told (statements.of_own r)
unfolding Told Only
told_own (Ok x) p = tt
told_own (Err f) p = (tt, (p, tt))

both_of_types : (fs gs : List Fault) → AreOfTypes fs → AreOfTypes gs → AreOfTypes (fs ++ gs)
both_of_types [] gs p q = q
both_of_types (f ∷ fs) gs p q = (p.0, both_of_types fs gs p.1 q)

still_fault : (fs gs : List Fault) → IsFault fs → IsFault (fs ++ gs)
still_fault [] gs p = absurd p
still_fault (f ∷ fs) gs p = tt

told_made : {A B : Type 0} (make : A → B) (r : Result (WithProcedures A) (List Fault)) → Told r
    → Told (statements.made make r)
unfolding Told
told_made make (Ok x) p = tt
told_made make (Err fs) p = p

told_together : {A B C : Type 0} (make : A → B → C) (r : Result (WithProcedures A) (List Fault))
    (s : Result (WithProcedures B) (List Fault)) → Told r → Told s → Told (statements.together make r s)
unfolding Told
told_together make (Ok x) (Ok y) p q = tt
told_together make (Ok x) (Err gs) p q = q
told_together make (Err fs) (Ok y) p q = p
told_together make (Err fs) (Err gs) p q =
    (still_fault fs gs p.0, both_of_types fs gs p.1 q.1)

told_procedure : (form : Form) (make : TypedStatements → TypedProcedure)
    (r : Result (WithProcedures TypedStatements) (List Fault)) → Told r → Told (statements.as_procedure form make r)
unfolding Told
told_procedure form make (Ok x) p = tt
told_procedure form make (Err fs) p = p

-- units

mutual
  told_statement : (u : NamedUnit) (s : statements.Surroundings) (x : Next) (st : Statement)
      → Told (statements.statement_typed u s x st)
  told_statement u s x (Numbered number label at body) = told_made _ _ (told_body u s x number at body)

  told_body : (u : NamedUnit) (s : statements.Surroundings) (x : Next) (number at : ℕ) (body : Body)
      → Told (statements.body_typed u s x number at body)
  told_body u s x number at tree.Null = passed _
  told_body u s x number at (tree.Assign target equals value) =
      told_own _
      (only_then _ _ (only_referred (statements.naming_at u s) AsTarget target) (λ d. only_assigned (statements.naming_at u s) at equals d value))
  told_body u s x number at (tree.Declare declared) = passed _
  told_body u s x number at (tree.Procedure heading list end) = told_procedure _ _ _ (told_statements u _ _ list)
  told_body u s x number at (tree.Begin list end) = told_made _ _ (told_statements u _ _ list)
  told_body u s x number at (tree.Do None list end) = told_made _ _ (told_statements u _ _ list)
  told_body u s x number at (tree.Do (Some (tree.While tested)) list end) =
      told_together _ _ _ (told_own _ (only_condition (statements.naming_at u s) tested)) (told_statements u _ _ list)
  told_body u s x number at (tree.Do (Some (tree.Iterate variable equals first range tested)) list end) =
      told_together _ _ _ (told_own _ (only_iteration (statements.naming_at u s) x.temporary variable equals first range tested))
      (told_statements u _ _ list)
  told_body u s x number at (tree.If tested consequence alternative) =
      told_together _ _ _ (told_own _ (only_condition (statements.naming_at u s) tested))
      (told_together _ _ _ (told_statement u s x consequence) (told_alternative u s _ alternative))
  told_body u s x number at tree.Stop = passed _
  told_body u s x number at (tree.Allocate list) = told_own _ (only_allocate (statements.naming_at u s) x.temporary list)
  told_body u s x number at (tree.Free list) = told_own _ (only_free (statements.naming_at u s) list)
  told_body u s x number at (tree.Call name arguments) = told_own _ (only_call (statements.naming_at u s) name arguments)
  told_body u s x number at (tree.Goto label) = told_own _ (only_goto (statements.naming_at u s) s label)
  told_body u s x number at (tree.Return value) = told_own _ (only_return (statements.naming_at u s) s at value)
  told_body u s x number at (tree.Put skip printed_items) =
      told_made _ _ (told_own _ (only_items (statements.naming_at u s) printed_items))
  told_body u s x number at (tree.On c unit) =
      told_procedure _ _ _ (told_together _ _ _ (told_statement u _ _ unit) (passed _))
  told_body u s x number at (tree.Revert c) = passed _
  told_body u s x number at (tree.Signal c) = passed _

  told_alternative : (u : NamedUnit) (s : statements.Surroundings) (x : Next) (a : Alternative)
      → Told (statements.alternative_typed u s x a)
  told_alternative u s x tree.NoElse = passed _
  told_alternative u s x (tree.Else statement) = told_made _ _ (told_statement u s x statement)

  told_statements : (u : NamedUnit) (s : statements.Surroundings) (x : Next) (ss : Statements)
      → Told (statements.statements_typed u s x ss)
  told_statements u s x Ended = passed _
  told_statements u s x (Before first more) =
      told_together _ _ _ (told_statement u s x first) (told_statements u s _ more)

told_unit : (u : NamedUnit) (r : Result (WithProcedures TypedStatements) (List Fault)) → Told r
    → Told (typed_as u r)
unfolding Told
told_unit u (Ok list) p = tt
told_unit u (Err faults) p = p

-- a unit that is not typed has a fault of types, and no fault of another kind
pub faults_are_of_types : FaultsAreOfTypes
unfolding checked Told
faults_are_of_types u = told_unit u _ (told_statements u _ _ u.tree.statements)
