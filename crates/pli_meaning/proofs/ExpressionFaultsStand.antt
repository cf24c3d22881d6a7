-- The faults of types of an expression stand at its tokens.
use Rattle.std.proofs.Common.{ℕ, ◌<◌, Bool, true, false, Option, Some, None, List, [], ◌∷◌, Result, Ok, Err, if◌then◌else◌}
use Rattle.pli_base.specs.Results.{◌>>=◌}
use Rattle.pli_base.specs.Syntax.{Expression, Referred, Constant, Parenthesized, Prefix, Infix, Reference, Named}
use Rattle.pli_base.specs.Syntax.{JoinedParts, Alone, Joined, Arguments, Absent, Given, Expressions, Empty, Listed}
use Rattle.pli_base.specs.TreeTokens.{expression_tokens, reference_tokens, joined_tokens, argument_tokens, listed_tokens}
use Rattle.pli_base.specs.declared.code.Code.{Code}
use Rattle.pli_base.specs.declared.code.Code.TheVariants.{WrongOperandType}
use Rattle.pli_base.specs.declared.syntax.Joining.TheVariants.{Member, Located}
use Rattle.pli_base.specs.declared.token.Fault.{Fault}
use Rattle.pli_map.specs.Description.{Description}
use Rattle.pli_map.specs.ParameterTypes.{ParameterType, stated}
use Rattle.pli_declare.specs.declared.built_in.BuiltInFunction.{BuiltInFunction}
use Rattle.pli_declare.specs.declared.built_in.BuiltInFunction.TheVariants as functions
use Rattle.pli_type_rules.specs.ExpressionTypes.{TypedValue}
use Rattle.pli_type_rules.specs.FunctionCalls.{Denoted, Meant, OneValue, WholeAggregate}
use Rattle.pli_type_rules.specs.FunctionCalls.{Argument, function_called}
use Rattle.pli_type_rules.specs.Names.{NamedAs, AVariable, AFunction, AProcedure, ALabel, Untyped, NamedVariable}
use Rattle.pli_type_rules.specs.Names.{NamedProcedure, Naming}
use Rattle.pli_type_rules.specs.ProcedureCalls.{arguments_passed, result_of}
use Rattle.pli_type_rules.specs.References.{Role, AsValue, AsArgument, AsLocator, Referent, StridedPart}
use Rattle.pli_type_rules.specs.References.{settled, open_settled, whole_meant, LocatorBefore, NotLocated}
use Rattle.pli_type_rules.specs.Typing as typing
use Rattle.pli_type_rules.specs.Typing.{Segment, OfVariable, OfFunction, OfEmpty, OfNoVariable, or_fault, first_token, denoted}
use Rattle.pli_type_rules.specs.Typing.{referred, joined, begun, is_call, all_subscripts, subscripts_in, all_arguments}
use Rattle.pli_type_rules.specs.Typing.{as_value, one_value, ended, with_more, as_locator, named_alone, given_by}
use Rattle.pli_type_rules.specs.TypingSteps.{or_bad_argument, or_wrong_argument, begins_somewhere}
use Rattle.pli_type_rules.specs.declared.expression_type.ExpressionType.{ExpressionType}
use Rattle.pli_type_tree.specs.TypedTree.{Callee, TypedExpression, TypedArguments}
use Rattle.pli_meaning.proofs.BelowLemmas.{Below, below_left, below_right}

-- a fault, where there is one, stands before the bound; of what else is given, this is true
pub Gives : (high : ℕ) {A : Type 0} (P : A → Type 0) → Result A Fault → Type 0
Gives high P (Ok x) = P x
Gives high P (Err f) = f.at < high

-- a fault, where there is one, stands before the bound
unfoldable pub Only : (high : ℕ) {A : Type 0} → Result A Fault → Type 0
Only high (Ok x) = Unit {0}
Only high (Err f) = f.at < high

-- what is no fault, and a fault
pub fine : (high : ℕ) {A : Type 0} (x : A) → Only high {A = A} (Ok x)
unfolding Only
fine high x = tt

pub told : (high : ℕ) (A : Type 0) (f : Fault) → f.at < high → Only high {A = A} (Err f)
unfolding Only
told high A f p = p

pub only_then : (high : ℕ) {A B : Type 0} (r : Result A Fault) (g : A → Result B Fault) → Only high r
    → ((x : A) → Only high (g x)) → Only high (r >>= g)
unfolding Only
only_then high (Ok x) g p q = q x
only_then high (Err f) g p q = p

gives : (high : ℕ) {A : Type 0} (P : A → Type 0) (x : A) → P x → Gives high P (Ok x)
unfolding Gives
gives high P x p = p

gives_then : (high : ℕ) {A B : Type 0} (P : A → Type 0) (r : Result A Fault) (g : A → Result B Fault) → Gives high P r
    → ((x : A) → P x → Only high (g x)) → Only high (r >>= g)
unfolding Gives Only
gives_then high P (Ok x) g p q = q x p
gives_then high P (Err f) g p q = p

then_gives : (high : ℕ) {A B : Type 0} (P : B → Type 0) (r : Result A Fault) (g : A → Result B Fault) → Only high r
    → ((x : A) → Gives high P (g x)) → Gives high P (r >>= g)
unfolding Gives Only
then_gives high P (Ok x) g p q = q x
then_gives high P (Err f) g p q = p

pub only_or : (high : ℕ) {A : Type 0} (code : Code) (at : ℕ) (o : Option A) → at < high → Only high (or_fault code at o)
unfolding Only
only_or high code at None p = p
only_or high code at (Some x) p = tt

pub only_if : (high : ℕ) {A : Type 0} (b : Bool) (r s : Result A Fault) → Only high r → Only high s
    → Only high (if b then r else s)
only_if high true r s p q = p
only_if high false r s p q = q

-- the first token of an expression is one of its tokens
pub first_below : (high : ℕ) (e : Expression) → Below high (expression_tokens e) → first_token e < high
first_below high (Referred (Named name arguments more)) h = h.0
first_below high (Constant at value) h = h.0
first_below high (Parenthesized at inner) h = h.0
first_below high (Prefix operator at operand) h = h.0
first_below high (Infix operator at left right) h =
    first_below high left (below_left high (expression_tokens left) (at ∷ expression_tokens right) h)

-- references

-- what stands between arrows, so far, has its name before the bound
abbrev Stands : (high : ℕ) → Segment → Type 0
Stands high (OfVariable locator at v xs) = at < high
Stands high (OfFunction value) = Unit {0}
Stands high OfEmpty = Unit {0}
Stands high (OfNoVariable at) = at < high

more_stands : (high : ℕ) (s : Segment) (xs : List TypedExpression) → Stands high s → Stands high (with_more s xs)
more_stands high (OfVariable locator at v ys) xs h = h
more_stands high (OfFunction value) xs h = h
more_stands high OfEmpty xs h = h
more_stands high (OfNoVariable at) xs h = h

alone_stands : (high at : ℕ) (function : BuiltInFunction) → at < high → Stands high (named_alone at function)
alone_stands high at functions.Null h = tt
alone_stands high at functions.Empty h = tt
alone_stands high at function h = h

given_stands : (high : ℕ) (function : BuiltInFunction) (v : TypedValue) → Stands high (given_by function v)
given_stands high functions.Empty v = tt
given_stands high function v = tt

only_somewhere : (high at : ℕ) (o : Option Referent) → at < high → Only high (begins_somewhere at o)
only_somewhere high at None h = told high _ _ h
only_somewhere high at (Some r) h = fine high _

only_settled : (high : ℕ) (role : Role) (locator : LocatorBefore) (at : ℕ) (v : NamedVariable) (whole : Description)
    (xs : List TypedExpression) (o : Option StridedPart) → at < high → Only high (settled role locator at v whole xs o)
only_settled high role locator at v whole xs None h = told high _ _ h
only_settled high role locator at v whole xs (Some p) h = only_if high _ _ _ (told high _ _ h) (only_somewhere high at _ h)

only_open : (high : ℕ) (role : Role) (locator : LocatorBefore) (at : ℕ) (v : NamedVariable) (xs : List TypedExpression)
    (o : Option ParameterType) → at < high → Only high (open_settled role locator at v xs o)
only_open high role locator at v xs None h = told high _ _ h
only_open high role locator at v xs (Some type) h = only_if high _ _ _ (told high _ _ h) (only_somewhere high at _ h)

only_whole : (high : ℕ) (role : Role) (locator : LocatorBefore) (at : ℕ) (v : NamedVariable) (xs : List TypedExpression)
    (o : Option Description) → at < high → Only high (whole_meant role locator at v xs o)
only_whole high role locator at v xs (Some d) h = only_settled high role locator at v d xs _ h
only_whole high role locator at v xs None h = only_open high role locator at v xs _ h

only_ended : (high : ℕ) (role : Role) (s : Segment) → Stands high s → Only high (ended role s)
only_ended high role (OfVariable locator at v xs) h =
    only_then high _ _ (only_whole high role locator at v xs (stated v.whole) h) (λ r. fine high _)
only_ended high role (OfFunction value) h = fine high _
only_ended high role OfEmpty h = fine high _
only_ended high role (OfNoVariable at) h = told high _ _ h

-- expressions

only_one : (high at : ℕ) (m : Meant) → at < high → Only high (one_value at m)
only_one high at (OneValue v) h = fine high _
only_one high at (WholeAggregate r) h = told high _ _ h

only_value : (high at : ℕ) (d : Result Denoted Fault) → at < high → Only high d → Only high (as_value at d)
only_value high at d h p = only_then high d _ p (λ x. only_one high at _ h)

only_wrong : (high at : ℕ) (o : Option TypedArguments) → at < high → Only high (or_wrong_argument at o)
only_wrong high at None h = told high _ _ h
only_wrong high at (Some arguments) h = fine high _

pub only_passed : (high greatest : ℕ) (p : NamedProcedure) (at : ℕ) (gs : List Argument) → at < high
    → Only high (arguments_passed greatest p at gs)
only_passed high greatest p at gs h = only_if high _ _ _ (only_wrong high at _ h) (told high _ _ h)

only_result : (high at : ℕ) (callee : Callee) (arguments : TypedArguments) (o : Option ExpressionType) → at < high
    → Only high (result_of at callee arguments o)
only_result high at callee arguments None h = told high _ _ h
only_result high at callee arguments (Some kind) h = fine high _

procedure_stands : (high : ℕ) (n : Naming) (p : NamedProcedure) (at : ℕ) (gs : List Argument) → at < high
    → Gives high (Stands high) (typing.procedure_called n p at gs)
procedure_stands high n p at gs h =
    then_gives high (Stands high) _ _ (only_passed high n.greatest p at gs h)
    (λ passed. then_gives high (Stands high) _ _ (only_result high at p.callee passed _ h) (λ v. gives high (Stands high) _ tt))

only_given : (high at : ℕ) (o : Option TypedValue) → at < high → Only high (or_bad_argument at o)
only_given high at None h = told high _ _ h
only_given high at (Some v) h = fine high _

only_function : (high greatest : ℕ) (function : BuiltInFunction) (at : ℕ) (roles : Option (List Role))
    (arguments : List Argument) → at < high → Only high (function_called greatest function at roles arguments)
only_function high greatest function at None arguments h = told high _ _ h
only_function high greatest function at (Some roles) arguments h = only_given high at _ h

mutual
  pub only_denoted : (high : ℕ) (n : Naming) (role : Role) (e : Expression) → Below high (expression_tokens e)
      → Only high (denoted n role e)
  only_denoted high n role (Referred reference) h = only_referred high n role reference h
  only_denoted high n role (Constant at value) h = fine high _
  only_denoted high n role (Parenthesized at inner) h =
      only_then high _ _
      (only_value high (first_token inner) _ (first_below high inner h.1) (only_denoted high n AsValue inner h.1))
      (λ v. fine high _)
  only_denoted high n role (Prefix operator at operand) h =
      only_then high _ _
      (only_value high (first_token operand) _ (first_below high operand h.1) (only_denoted high n AsValue operand h.1))
      (λ v. only_then high _ _ (only_or high WrongOperandType at _ h.0) (λ u. fine high _))
  only_denoted high n role (Infix operator at left right) h =
      let ls = below_left high (expression_tokens left) (at ∷ expression_tokens right) h in
      let rs = below_right high (expression_tokens left) (at ∷ expression_tokens right) h in
      only_then high _ _ (only_value high (first_token left) _ (first_below high left ls) (only_denoted high n AsValue left ls))
      (λ v. only_then high _ _
      (only_value high (first_token right) _ (first_below high right rs.1) (only_denoted high n AsValue right rs.1))
      (λ w. only_then high _ _ (only_or high WrongOperandType at _ rs.0) (λ u. fine high _)))

  pub only_referred : (high : ℕ) (n : Naming) (role : Role) (r : Reference) → Below high (reference_tokens r)
      → Only high (referred n role r)
  only_referred high n role (Named name arguments more) h =
      gives_then high (Stands high) _ _
      (begun_stands high n (n.meaning name.at) (is_call role false more) NotLocated name.at arguments h.0
      (below_left high (argument_tokens arguments) (joined_tokens more) h.1))
      (λ s p. only_joined high n role s more p (below_right high (argument_tokens arguments) (joined_tokens more) h.1))

  only_joined : (high : ℕ) (n : Naming) (role : Role) (s : Segment) (more : JoinedParts) → Stands high s
      → Below high (joined_tokens more) → Only high (joined n role s more)
  only_joined high n role s Alone p h = only_ended high role s p
  only_joined high n role s (Joined Member name arguments more) p h =
      only_then high _ _ (only_in high n arguments (below_left high (argument_tokens arguments) (joined_tokens more) h.1))
      (λ xs. only_joined high n role (with_more s xs) more (more_stands high s xs p)
      (below_right high (argument_tokens arguments) (joined_tokens more) h.1))
  only_joined high n role s (Joined Located name arguments more) p h =
      only_then high _ _ (only_ended high AsLocator s p)
      (λ l. gives_then high (Stands high) _ _
      (begun_stands high n (n.meaning name.at) (is_call role true more) (as_locator l) name.at arguments h.0
      (below_left high (argument_tokens arguments) (joined_tokens more) h.1))
      (λ t q. only_joined high n role t more q (below_right high (argument_tokens arguments) (joined_tokens more) h.1)))

  begun_stands : (high : ℕ) (n : Naming) (name : NamedAs) (call : Bool) (locator : LocatorBefore) (at : ℕ) (arguments : Arguments)
      → at < high → Below high (argument_tokens arguments)
      → Gives high (Stands high) (begun n name call locator at arguments)
  begun_stands high n (AVariable v) call locator at (Given list) p h =
      then_gives high (Stands high) _ _ (only_subscripts high n list h) (λ xs. gives high (Stands high) _ p)
  begun_stands high n (AVariable v) call locator at Absent p h = gives high (Stands high) _ p
  begun_stands high n (AFunction function) true locator at (Given list) p h =
      then_gives high (Stands high) _ _ (only_arguments high n _ list h)
      (λ gs. then_gives high (Stands high) _ _ (only_function high n.greatest function at _ gs p)
      (λ v. gives high (Stands high) _ (given_stands high function v)))
  begun_stands high n (AFunction function) false locator at (Given list) p h =
      then_gives high (Stands high) _ _ (only_arguments high n [] list h) (λ gs. gives high (Stands high) _ p)
  begun_stands high n (AFunction function) true locator at Absent p h = gives high (Stands high) _ (alone_stands high at function p)
  begun_stands high n (AFunction function) false locator at Absent p h = gives high (Stands high) _ p
  begun_stands high n (AProcedure q) true locator at (Given list) p h =
      then_gives high (Stands high) _ _ (only_arguments high n [] list h)
      (λ gs. procedure_stands high n q at gs p)
  begun_stands high n (AProcedure q) false locator at (Given list) p h =
      then_gives high (Stands high) _ _ (only_arguments high n [] list h) (λ gs. gives high (Stands high) _ p)
  begun_stands high n (AProcedure q) true locator at Absent p h = gives high (Stands high) _ p
  begun_stands high n (AProcedure q) false locator at Absent p h = gives high (Stands high) _ p
  begun_stands high n (ALabel statement) call locator at (Given list) p h =
      then_gives high (Stands high) _ _ (only_arguments high n [] list h) (λ gs. gives high (Stands high) _ p)
  begun_stands high n (ALabel statement) call locator at Absent p h = gives high (Stands high) _ p
  begun_stands high n Untyped call locator at (Given list) p h =
      then_gives high (Stands high) _ _ (only_arguments high n [] list h) (λ gs. gives high (Stands high) _ p)
  begun_stands high n Untyped call locator at Absent p h = gives high (Stands high) _ p

  only_in : (high : ℕ) (n : Naming) (arguments : Arguments) → Below high (argument_tokens arguments)
      → Only high (subscripts_in n arguments)
  only_in high n Absent h = fine high _
  only_in high n (Given list) h = only_subscripts high n list h

  only_subscripts : (high : ℕ) (n : Naming) (list : Expressions) → Below high (listed_tokens list)
      → Only high (all_subscripts n list)
  only_subscripts high n Empty h = fine high _
  only_subscripts high n (Listed first more) h =
      let fs = below_left high (expression_tokens first) (listed_tokens more) h in
      only_then high _ _
      (only_value high (first_token first) _ (first_below high first fs) (only_denoted high n AsValue first fs))
      (λ v. only_then high _ _ (only_or high WrongOperandType (first_token first) _ (first_below high first fs))
      (λ x. only_then high _ _ (only_subscripts high n more (below_right high (expression_tokens first) (listed_tokens more) h))
      (λ xs. fine high _)))

  pub only_arguments : (high : ℕ) (n : Naming) (roles : List Role) (list : Expressions) → Below high (listed_tokens list)
      → Only high (all_arguments n roles list)
  only_arguments high n [] Empty h = fine high _
  only_arguments high n (role ∷ roles) Empty h = fine high _
  only_arguments high n [] (Listed first more) h =
      only_then high _ _ (only_denoted high n AsArgument first (below_left high (expression_tokens first) (listed_tokens more) h))
      (λ m. only_then high _ _
      (only_arguments high n [] more (below_right high (expression_tokens first) (listed_tokens more) h)) (λ gs. fine high _))
  only_arguments high n (role ∷ roles) (Listed first more) h =
      only_then high _ _ (only_denoted high n role first (below_left high (expression_tokens first) (listed_tokens more) h))
      (λ m. only_then high _ _
      (only_arguments high n roles more (below_right high (expression_tokens first) (listed_tokens more) h))
      (λ gs. fine high _))

pub only_value_of : (high : ℕ) (n : Naming) (e : Expression) → Below high (expression_tokens e)
    → Only high (typing.value_of n e)
only_value_of high n e h = only_value high (first_token e) _ (first_below high e h) (only_denoted high n AsValue e h)
