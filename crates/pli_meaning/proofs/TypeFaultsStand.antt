-- The faults of types of a unit stand at tokens of its text.
use Rattle.std.proofs.Common.{◌≡◌, ℕ, ◌+◌, ◌<◌, nat_lt, if◌then◌else◌, Bool, true, false, Option, Some, None, List, [], ◌∷◌, ◌++◌, Result, Ok, Err, length, subst, sym, arith}
use Rattle.pli_base.specs.Statements as tree
use Rattle.pli_base.specs.Statements.{Allocation, Statement, Numbered, Body, Statements, Ended, Before, Alternative}
use Rattle.pli_base.specs.Syntax as syntax
use Rattle.pli_base.specs.Syntax.{Expression, Reference, Named, JoinedParts, Alone, Joined, Arguments, Absent, Given}
use Rattle.pli_base.specs.TreeTokens.{tokens_of_each, tokens_of_some, name_tokens, expression_tokens, reference_tokens, joined_tokens, argument_tokens, range_tokens, control_tokens, placed_tokens, allocation_tokens, statement_tokens, begun_tokens, statements_tokens, alternative_tokens, unit_tokens}
use Rattle.pli_base.specs.Words.{Tokens}
use Rattle.pli_base.specs.FaultPlaces.{StandsAtToken}
use Rattle.pli_base.specs.declared.code.Code.TheVariants.{WrongOperandType, CannotAssign, CannotPrint, CannotAllocateOrFree, BadGoto}
use Rattle.pli_base.specs.declared.syntax.Identifier.{Identifier}
use Rattle.pli_base.specs.declared.syntax.Joining.TheVariants.{Member, Located}
use Rattle.pli_base.specs.declared.token.Fault.{Fault}
use Rattle.pli_map.specs.Description.{Description}
use Rattle.pli_map.specs.ParameterTypes.{ParameterType, Stated, AnyString}
use Rattle.pli_parse.proofs.StatementTokens.{unit_read_rises}
use Rattle.pli_type_rules.specs.AllocationTyping.{in_turn, only_variable, place_given, kept_for, allocated, all_allocated, freed}
use Rattle.pli_type_rules.specs.Checked.{checked, typed_as}
use Rattle.pli_type_rules.specs.ExpressionTypes.{TypedValue}
use Rattle.pli_type_rules.specs.FunctionCalls.{Denoted, DenotesVariable, DenotesResult, DenotesEmpty, Meant, OneValue, WholeAggregate, Argument}
use Rattle.pli_type_rules.specs.Names.{NamedAs, AVariable, AFunction, AProcedure, ALabel, Untyped, NamedUnit, Naming}
use Rattle.pli_type_rules.specs.References.{AsValue, AsArgument, AsTarget, AsLocator, Referent}
use Rattle.pli_type_rules.specs.StatementTyping as statements
use Rattle.pli_type_rules.specs.StatementTyping.{WithProcedures}
use Rattle.pli_type_rules.specs.Temporaries.{Next}
use Rattle.pli_type_rules.specs.Typing.{first_token, after_arrows, own_token}
use Rattle.pli_type_rules.specs.declared.beginning.Beginning.{Beginning}
use Rattle.pli_type_rules.specs.TypingSteps as steps
use Rattle.pli_type_tree.specs.TypedTree.{Callee, Form, TypedArguments, TypedRange, TypedStatements, TypedProcedure}
use Rattle.pli_meaning.specs.StatementStarts.{Begins, BodyBegins, AllBegin, ElseBegins}
use Rattle.pli_meaning.specs.TypeFaultPlaces.{AllStand, TypeFaultsStandAtTokens}
use Rattle.pli_meaning.proofs.BelowLemmas.{Below, rising_below, below_left, below_right}
use Rattle.pli_meaning.proofs.ExpressionFaultsStand.{Only, fine, told, only_then, only_or, only_if, first_below, only_passed, only_denoted, only_referred, only_arguments, only_value_of}
use Rattle.pli_meaning.proofs.StatementsBegin.{statements_begin}

-- parts of statements

only_aggregate : (high equals : ℕ) (target : Referent) (m : Meant) → equals < high
    → Only high (statements.aggregate_assigned equals target m)
only_aggregate high equals target (OneValue v) h = told high _ _ h
only_aggregate high equals target (WholeAggregate source) h = only_if high _ _ _ (fine high _) (told high _ _ h)

only_scalar : (high : ℕ) (n : Naming) (equals : ℕ) (target : Referent) (type : ParameterType) (e : Expression) → equals < high
    → Below high (expression_tokens e) → Only high (statements.one_assigned n equals target type e)
only_scalar high n equals target (Stated d) e q h =
    only_if high _ _ _
    (only_then high _ _ (only_denoted high n AsValue e h) (λ given. only_or high CannotAssign equals _ q))
    (only_then high _ _ (only_value_of high n e h)
    (λ v. only_then high _ _ (only_or high CannotAssign equals _ q) (λ x. fine high _)))
only_scalar high n equals target (AnyString form) e q h =
    only_then high _ _ (only_value_of high n e h)
    (λ v. only_then high _ _ (only_or high CannotAssign equals _ q) (λ x. fine high _))
only_scalar high n equals target type e q h = told high _ _ q

only_assigned : (high : ℕ) (n : Naming) (at equals : ℕ) (d : Denoted) (e : Expression) → at < high → equals < high
    → Below high (expression_tokens e) → Only high (statements.assigned n at equals d e)
only_assigned high n at equals (DenotesVariable target) e a q h =
    only_if high _ _ _
    (only_then high _ _ (only_then high _ _ (only_denoted high n AsArgument e h) (λ d. fine high _))
    (λ m. only_aggregate high equals target m q))
    (only_scalar high n equals target target.description e q h)
only_assigned high n at equals (DenotesResult value) e a q h = told high _ _ a
only_assigned high n at equals DenotesEmpty e a q h = told high _ _ a

only_items : (high : ℕ) (n : Naming) (es : List Expression) → Below high (tokens_of_each expression_tokens es)
    → Only high (steps.items n es)
only_items high n [] h = fine high _
only_items high n (e ∷ es) h =
    let first = below_left high (expression_tokens e) (tokens_of_each expression_tokens es) h in
    only_then high _ _
    (only_then high _ _ (only_value_of high n e first) (λ v. only_or high CannotPrint (first_token e) _ (first_below high e first)))
    (λ x. only_then high _ _ (only_items high n es (below_right high (expression_tokens e) (tokens_of_each expression_tokens es) h))
    (λ xs. fine high _))

only_condition : (high : ℕ) (n : Naming) (e : Expression) → Below high (expression_tokens e)
    → Only high (statements.condition n e)
only_condition high n e h =
    only_then high _ _ (only_value_of high n e h) (λ v. only_or high WrongOperandType (first_token e) _ (first_below high e h))

only_goto : (high : ℕ) (n : Naming) (s : statements.Surroundings) (label : Identifier) → label.at < high
    → Only high (statements.goto_typed n s label)
only_goto high n s label h = only_or high BadGoto label.at _ h

only_no_function : (high at : ℕ) (callee : Callee) (d : Option Description) (arguments : TypedArguments) → at < high
    → Only high (statements.no_function at callee d arguments)
only_no_function high at callee None arguments h = fine high _
only_no_function high at callee (Some d) arguments h = told high _ _ h

only_call_of : (high greatest at : ℕ) (name : NamedAs) (gs : List Argument) → at < high
    → Only high (statements.call_of greatest at name gs)
only_call_of high greatest at (AProcedure p) gs h =
    only_then high _ _ (only_passed high greatest p at gs h)
    (λ arguments. only_no_function high at p.callee p.returned arguments h)
only_call_of high greatest at (AVariable v) gs h = told high _ _ h
only_call_of high greatest at (AFunction function) gs h = told high _ _ h
only_call_of high greatest at (ALabel statement) gs h = told high _ _ h
only_call_of high greatest at Untyped gs h = told high _ _ h

only_given_arguments : (high : ℕ) (n : Naming) (arguments : Arguments) → Below high (argument_tokens arguments)
    → Only high (statements.arguments_typed n arguments)
only_given_arguments high n Absent h = fine high _
only_given_arguments high n (Given list) h = only_arguments high n [] list h

only_call : (high : ℕ) (n : Naming) (name : Identifier) (arguments : Arguments) → name.at < high
    → Below high (argument_tokens arguments) → Only high (statements.call_typed n name arguments)
only_call high n name arguments p h =
    only_then high _ _ (only_given_arguments high n arguments h)
    (λ gs. only_call_of high n.greatest name.at (n.meaning name.at) gs p)

only_returned : (high greatest : ℕ) (area : Option Beginning) (at first begins : ℕ) (d : Option Description) (v : TypedValue) → at < high → first < high
    → Only high (statements.returned_value greatest area at first begins d v)
only_returned high greatest area at first begins None v a f = told high _ _ a
only_returned high greatest area at first begins (Some d) v a f =
    only_then high _ _ (only_or high CannotAssign first _ f) (λ x. fine high _)

only_return : (high : ℕ) (n : Naming) (s : statements.Surroundings) (at : ℕ) (value : Option Expression) → at < high
    → Below high (tokens_of_some expression_tokens value) → Only high (statements.return_typed n s at value)
only_return high n s at None a h = only_if high _ _ _ (fine high _) (told high _ _ a)
only_return high n s at (Some e) a h =
    only_then high _ _ (only_value_of high n e h)
    (λ v. only_returned high n.greatest (statements.area_here n s) at (first_token e) s.begins s.value v a (first_below high e h))

only_limit : (high : ℕ) (n : Naming) (e : Expression) → Below high (expression_tokens e) → Only high (statements.limit n e)
only_limit high n e h =
    only_then high _ _ (only_value_of high n e h) (λ v. only_or high WrongOperandType (first_token e) _ (first_below high e h))

only_possible : (high : ℕ) (n : Naming) (o : Option Expression) → Below high (tokens_of_some expression_tokens o)
    → Only high (steps.possible_limit n o)
only_possible high n None h = fine high _
only_possible high n (Some e) h = only_then high _ _ (only_limit high n e h) (λ x. fine high _)

only_limits : (high : ℕ) (n : Naming) (range : Option tree.Range) → Below high (tokens_of_some range_tokens range)
    → Only high (statements.limits n range)
only_limits high n None h = fine high _
only_limits high n (Some (tree.To to by)) h =
    only_then high _ _ (only_limit high n to (below_left high (expression_tokens to) (tokens_of_some expression_tokens by) h))
    (λ x. only_then high _ _ (only_possible high n by (below_right high (expression_tokens to) (tokens_of_some expression_tokens by) h))
    (λ y. fine high _))
only_limits high n (Some (tree.By by to)) h =
    only_then high _ _ (only_limit high n by (below_left high (expression_tokens by) (tokens_of_some expression_tokens to) h))
    (λ x. only_then high _ _ (only_possible high n to (below_right high (expression_tokens by) (tokens_of_some expression_tokens to) h))
    (λ y. fine high _))
only_limits high n (Some (tree.Repeat next)) h = fine high _

only_suited : (high at : ℕ) (r : Referent) (b : Bool) → at < high → Only high (statements.suited_control at r b)
only_suited high at r true h = fine high _
only_suited high at r false h = told high _ _ h

only_controls : (high at : ℕ) (is_located : Bool) (range : TypedRange) (d : Denoted) → at < high
    → Only high (statements.controls at is_located range d)
only_controls high at is_located range (DenotesResult value) h = told high _ _ h
only_controls high at is_located range DenotesEmpty h = told high _ _ h
only_controls high at is_located range (DenotesVariable r) h = only_if high _ _ _ (only_suited high at r _ h) (told high _ _ h)

only_possible_condition : (high : ℕ) (n : Naming) (o : Option Expression) → Below high (tokens_of_some expression_tokens o)
    → Only high (steps.possible_condition n o)
only_possible_condition high n None h = fine high _
only_possible_condition high n (Some e) h = only_then high _ _ (only_condition high n e h) (λ x. fine high _)

only_repeat : (high : ℕ) (n : Naming) (r : Referent) (kept : TypedRange) (range : Option tree.Range)
    → Below high (tokens_of_some range_tokens range) → Only high (statements.with_repeat n r kept range)
only_repeat high n r kept None h = fine high _
only_repeat high n r kept (Some (tree.To to by)) h = fine high _
only_repeat high n r kept (Some (tree.By by to)) h = fine high _
only_repeat high n r kept (Some (tree.Repeat next)) h =
    only_then high _ _ (only_value_of high n next h)
    (λ v. only_or high CannotAssign (first_token next) _ (first_below high next h))

in_turn_stands : (high : ℕ) {A B : Type 0} (tokens : A → List ℕ) (each : A → Result B Fault)
    → ((x : A) → Below high (tokens x) → Only high (each x)) → (xs : List A) → Below high (tokens_of_each tokens xs)
    → Only high (in_turn each xs)
in_turn_stands high tokens each stands [] h = fine high _
in_turn_stands high tokens each stands (x ∷ xs) h =
    only_then high _ _ (stands x (below_left high (tokens x) (tokens_of_each tokens xs) h))
    (λ y. only_then high _ _ (in_turn_stands high tokens each stands xs (below_right high (tokens x) (tokens_of_each tokens xs) h))
    (λ ys. fine high _))

arrows_below : (high at : ℕ) (more : JoinedParts) → at < high → Below high (joined_tokens more) → after_arrows at more < high
arrows_below high at Alone a h = a
arrows_below high at (Joined Member name arguments more) a h =
    arrows_below high at more a (below_right high (argument_tokens arguments) (joined_tokens more) h.1)
arrows_below high at (Joined Located name arguments more) a h =
    arrows_below high name.at more h.0 (below_right high (argument_tokens arguments) (joined_tokens more) h.1)

own_below : (high : ℕ) (r : Reference) → Below high (reference_tokens r) → own_token r < high
own_below high (Named name arguments more) h =
    arrows_below high name.at more h.0 (below_right high (argument_tokens arguments) (joined_tokens more) h.1)

only_a_variable : (high at : ℕ) (d : Denoted) → at < high → Only high (only_variable at d)
only_a_variable high at (DenotesVariable r) h = fine high _
only_a_variable high at (DenotesResult value) h = told high _ _ h
only_a_variable high at DenotesEmpty h = told high _ _ h

only_place : (high : ℕ) (n : Naming) (o : Option Reference) → Below high (tokens_of_some reference_tokens o)
    → Only high (place_given n o)
only_place high n None h = fine high _
only_place high n (Some reference) h =
    only_then high _ _ (only_referred high n AsLocator reference h)
    (λ d. only_then high _ _ (only_a_variable high _ d (own_below high reference h)) (λ r. fine high _))

-- IN and SET stand in either order
both_below : (high : ℕ) (area target : Option Reference) → Below high (placed_tokens area target)
    → Below high (tokens_of_some reference_tokens area) × Below high (tokens_of_some reference_tokens target)
both_below high None None h = (tt, tt)
both_below high None (Some target) h = (tt, h)
both_below high (Some area) None h = (below_left high (reference_tokens area) [] h, tt)
both_below high (Some area) (Some target) h = by (nat_lt (syntax.first_token area) (syntax.first_token target)) h
  where
    by : (b : Bool) → Below high (if b then reference_tokens area ++ reference_tokens target else reference_tokens target ++ reference_tokens area)
        → Below high (reference_tokens area) × Below high (reference_tokens target)
    by true k = (below_left high (reference_tokens area) (reference_tokens target) k, below_right high (reference_tokens area) (reference_tokens target) k)
    by false k = (below_right high (reference_tokens target) (reference_tokens area) k, below_left high (reference_tokens target) (reference_tokens area) k)

only_allocated : (high : ℕ) (n : Naming) (temporary : ℕ) (a : Allocation) → Below high (allocation_tokens a)
    → Only high (allocated n temporary a)
only_allocated high n temporary a h =
    let both = both_below high a.area a.target h.1 in
    only_then high _ _ (only_place high n a.area both.0)
    (λ area. only_then high _ _ (only_place high n a.target both.1) (λ target. only_or high CannotAllocateOrFree a.name.at _ h.0))

only_freed : (high : ℕ) (n : Naming) (reference : Reference) → Below high (reference_tokens reference)
    → Only high (freed n reference)
only_freed high n reference h =
    let own = own_below high reference h in
    only_then high _ _ (only_referred high n AsTarget reference h)
    (λ d. only_then high _ _ (only_a_variable high _ d own) (λ r. only_or high CannotAllocateOrFree _ _ own))

only_all_allocated : (high : ℕ) (n : Naming) (temporary : ℕ) (list : List Allocation)
    → Below high (tokens_of_each allocation_tokens list) → Only high (all_allocated n temporary list)
only_all_allocated high n temporary [] h = fine high _
only_all_allocated high n temporary (a ∷ others) h =
    only_then high _ _ (only_allocated high n temporary a (below_left high (allocation_tokens a) (tokens_of_each allocation_tokens others) h))
    (λ x. only_then high _ _
    (only_all_allocated high n (temporary + kept_for x) others (below_right high (allocation_tokens a) (tokens_of_each allocation_tokens others) h))
    (λ xs. fine high _))

only_allocate : (high : ℕ) (n : Naming) (temporary : ℕ) (list : List Allocation)
    → Below high (tokens_of_each allocation_tokens list) → Only high (steps.allocate_typed n temporary list)
only_allocate high n temporary list h = only_then high _ _ (only_all_allocated high n temporary list h) (λ xs. fine high _)

only_free : (high : ℕ) (n : Naming) (list : List Reference) → Below high (tokens_of_each reference_tokens list)
    → Only high (steps.free_typed n list)
only_free high n list h =
    only_then high _ _ (in_turn_stands high reference_tokens (freed n) (only_freed high n) list h) (λ xs. fine high _)

only_iteration : (high : ℕ) (n : Naming) (temporary : ℕ) (variable : Reference) (equals : ℕ) (first : Expression)
    (range : Option tree.Range) (tested : Option Expression)
    → Below high (control_tokens (tree.Iterate variable equals first range tested))
    → Only high (statements.iteration n temporary variable equals first range tested)
only_iteration high n temporary variable equals first range tested h =
    let rt = tokens_of_some range_tokens range in
    let ct = tokens_of_some expression_tokens tested in
    let vs = below_left high (reference_tokens variable) (equals ∷ (expression_tokens first ++ (rt ++ ct))) h in
    let es = below_right high (reference_tokens variable) (equals ∷ (expression_tokens first ++ (rt ++ ct))) h in
    let fs = below_left high (expression_tokens first) (rt ++ ct) es.1 in
    let back = below_right high (expression_tokens first) (rt ++ ct) es.1 in
    let rs = below_left high rt ct back in
    let cs = below_right high rt ct back in
    only_then high _ _ (only_value_of high n first fs)
    (λ v. only_then high _ _ (only_limits high n range rs)
    (λ kept. only_then high _ _ (only_referred high n AsLocator variable vs)
    (λ d. only_then high _ _ (only_controls high (own_token variable) (statements.has_locator variable) kept d (own_below high variable vs))
    (λ r. only_then high _ _ (only_or high CannotAssign equals _ es.0)
    (λ convert. only_then high _ _ (only_possible_condition high n tested cs)
    (λ x. only_then high _ _ (only_repeat high n r kept range rs) (λ turns. fine high _)))))))

-- faults of a statement and of those in it

abbrev EachBelow : (high : ℕ) → List Fault → Type 0
EachBelow high [] = Unit {0}
EachBelow high (f ∷ fs) = (f.at < high) × EachBelow high fs

Told : (high : ℕ) {A : Type 0} → Result A (List Fault) → Type 0
Told high (Ok x) = Unit {0}
Told high (Err fs) = EachBelow high fs

passed : (high : ℕ) {A : Type 0} (x : A) → Told high {A = A} (Ok x)
unfolding Told
passed high x = tt

told_own : (high : ℕ) {A : Type 0} (r : Result A Fault) → Only high r → Told high (statements.of_own r)
unfolding Told Only
told_own high (Ok x) p = tt
told_own high (Err f) p = (p, tt)

each_both : (high : ℕ) (fs gs : List Fault) → EachBelow high fs → EachBelow high gs → EachBelow high (fs ++ gs)
each_both high [] gs p q = q
each_both high (f ∷ fs) gs p q = (p.0, each_both high fs gs p.1 q)

told_made : (high : ℕ) {A B : Type 0} (make : A → B) (r : Result (WithProcedures A) (List Fault)) → Told high r
    → Told high (statements.made make r)
unfolding Told
told_made high make (Ok x) p = tt
told_made high make (Err fs) p = p

told_together : (high : ℕ) {A B C : Type 0} (make : A → B → C) (r : Result (WithProcedures A) (List Fault))
    (s : Result (WithProcedures B) (List Fault)) → Told high r → Told high s → Told high (statements.together make r s)
unfolding Told
told_together high make (Ok x) (Ok y) p q = tt
told_together high make (Ok x) (Err gs) p q = q
told_together high make (Err fs) (Ok y) p q = p
told_together high make (Err fs) (Err gs) p q = each_both high fs gs p q

told_procedure : (high : ℕ) (form : Form) (make : TypedStatements → TypedProcedure)
    (r : Result (WithProcedures TypedStatements) (List Fault)) → Told high r → Told high (statements.as_procedure form make r)
unfolding Told
told_procedure high form make (Ok x) p = tt
told_procedure high form make (Err fs) p = p

-- units

-- a statement's first token after its label
start_below : (high : ℕ) (label : Option Identifier) (at : ℕ) (body : Body) → BodyBegins label at body → Below high (begun_tokens at body) → at < high
start_below high label at (tree.Assign (Named name arguments more) equals value) b h = subst (λ t. t < high) (sym b) h.0
start_below high label at tree.Null b h = h.0
start_below high label at (tree.Declare items) b h = h.0
start_below high label at (tree.Procedure heading statements end) b h = h.0
start_below high label at (tree.Begin statements end) b h = h.0
start_below high label at (tree.Do control statements end) b h = h.0
start_below high label at (tree.If condition consequence alternative) b h = h.0
start_below high label at (tree.On condition unit) b h = h.0
start_below high label at (tree.Revert condition) b h = h.0
start_below high label at (tree.Signal condition) b h = h.0
start_below high label at tree.Stop b h = h.0
start_below high label at (tree.Allocate allocations) b h = h.0
start_below high label at (tree.Free references) b h = h.0
start_below high label at (tree.Call name arguments) b h = h.0
start_below high label at (tree.Goto name) b h = h.0
start_below high label at (tree.Return value) b h = h.0
start_below high label at (tree.Put skip items) b h = h.0

mutual
  told_statement : (high : ℕ) (u : NamedUnit) (s : statements.Surroundings) (x : Next) (st : Statement) → Begins st
      → Below high (statement_tokens st) → Told high (statements.statement_typed u s x st)
  told_statement high u s x (Numbered number label at body) b h =
      let bs = below_right high (tokens_of_some name_tokens label) (begun_tokens at body) h in
      told_made high _ _ (told_body high u s x number label at body b (start_below high label at body b bs) bs)

  told_body : (high : ℕ) (u : NamedUnit) (s : statements.Surroundings) (x : Next) (number : ℕ) (label : Option Identifier)
      (at : ℕ) (body : Body) → BodyBegins label at body → at < high → Below high (begun_tokens at body)
      → Told high (statements.body_typed u s x number at body)
  told_body high u s x number label at tree.Null b a h = passed high _
  told_body high u s x number label at (tree.Assign target equals value) b a h =
      let ts = below_left high (reference_tokens target) (equals ∷ expression_tokens value) h in
      let es = below_right high (reference_tokens target) (equals ∷ expression_tokens value) h in
      told_own high _
      (only_then high _ _ (only_referred high (statements.naming_at u s) AsTarget target ts)
      (λ d. only_assigned high (statements.naming_at u s) at equals d value a es.0 es.1))
  told_body high u s x number label at (tree.Declare declared) b a h = passed high _
  told_body high u s x number label at (tree.Procedure heading list end) b a h =
      told_procedure high _ _ _
      (told_statements high u _ _ list b.1
      (below_right high (tokens_of_each name_tokens heading.parameters) (statements_tokens list) h.1))
  told_body high u s x number label at (tree.Begin list end) b a h = told_made high _ _ (told_statements high u _ _ list b h.1)
  told_body high u s x number label at (tree.Do None list end) b a h = told_made high _ _ (told_statements high u _ _ list b h.1)
  told_body high u s x number label at (tree.Do (Some (tree.While tested)) list end) b a h =
      told_together high _ _ _
      (told_own high _
      (only_condition high (statements.naming_at u s) tested (below_left high (expression_tokens tested) (statements_tokens list) h.1)))
      (told_statements high u _ _ list b (below_right high (expression_tokens tested) (statements_tokens list) h.1))
  told_body high u s x number label at (tree.Do (Some (tree.Iterate variable equals first range tested)) list end) b a h =
      let ct = control_tokens (tree.Iterate variable equals first range tested) in
      told_together high _ _ _
      (told_own high _
      (only_iteration high (statements.naming_at u s) x.temporary variable equals first range tested
      (below_left high ct (statements_tokens list) h.1)))
      (told_statements high u _ _ list b (below_right high ct (statements_tokens list) h.1))
  told_body high u s x number label at (tree.If tested consequence alternative) b a h =
      let ft = statement_tokens consequence in
      let st = alternative_tokens alternative in
      let inner = below_right high (expression_tokens tested) (ft ++ st) h.1 in
      told_together high _ _ _
      (told_own high _ (only_condition high (statements.naming_at u s) tested (below_left high (expression_tokens tested) (ft ++ st) h.1)))
      (told_together high _ _ _ (told_statement high u s x consequence b.0 (below_left high ft st inner))
      (told_alternative high u s _ alternative b.1 (below_right high ft st inner)))
  told_body high u s x number label at tree.Stop b a h = passed high _
  told_body high u s x number label at (tree.Call name arguments) b a h =
      told_own high _ (only_call high (statements.naming_at u s) name arguments h.1.0 h.1.1)
  told_body high u s x number label at (tree.Goto name) b a h =
      told_own high _ (only_goto high (statements.naming_at u s) s name h.1.0)
  told_body high u s x number label at (tree.Return value) b a h =
      told_own high _ (only_return high (statements.naming_at u s) s at value a h.1)
  told_body high u s x number label at (tree.Put skip printed_items) b a h =
      told_made high _ _ (told_own high _ (only_items high (statements.naming_at u s) printed_items h.1))
  told_body high u s x number label at (tree.Allocate list) b a h =
      told_own high _ (only_allocate high (statements.naming_at u s) x.temporary list h.1)
  told_body high u s x number label at (tree.Free list) b a h =
      told_own high _ (only_free high (statements.naming_at u s) list h.1)
  told_body high u s x number label at (tree.On c unit) b a h =
      told_procedure high _ _ _ (told_together high _ _ _ (told_statement high u _ _ unit b h.1) (passed high _))
  told_body high u s x number label at (tree.Revert c) b a h = passed high _
  told_body high u s x number label at (tree.Signal c) b a h = passed high _

  told_alternative : (high : ℕ) (u : NamedUnit) (s : statements.Surroundings) (x : Next) (o : Alternative) → ElseBegins o
      → Below high (alternative_tokens o) → Told high (statements.alternative_typed u s x o)
  told_alternative high u s x tree.NoElse b h = passed high _
  told_alternative high u s x (tree.Else statement) b h = told_made high _ _ (told_statement high u s x statement b h)

  told_statements : (high : ℕ) (u : NamedUnit) (s : statements.Surroundings) (x : Next) (ss : Statements) → AllBegin ss
      → Below high (statements_tokens ss) → Told high (statements.statements_typed u s x ss)
  told_statements high u s x Ended b h = passed high _
  told_statements high u s x (Before first more) b h =
      told_together high _ _ _ (told_statement high u s x first b.0 (below_left high (statement_tokens first) (statements_tokens more) h))
      (told_statements high u s _ more b.1 (below_right high (statement_tokens first) (statements_tokens more) h))

told_unit : (high : ℕ) (u : NamedUnit) (r : Result (WithProcedures TypedStatements) (List Fault)) → Told high r
    → Told high (typed_as u r)
unfolding Told
told_unit high u (Ok list) p = tt
told_unit high u (Err faults) p = p

told_checked : (high : ℕ) (u : NamedUnit) → AllBegin u.tree.statements → Below high (unit_tokens u.tree) → Told high (checked u)
unfolding checked
told_checked high u b h =
    told_unit high u _
    (told_statements high u _ _ u.tree.statements b
    (below_right high (tokens_of_each name_tokens u.tree.heading.parameters) (statements_tokens u.tree.statements) h.1))

-- faults before the end of a text stand at its tokens
pub at_token : (ts : Tokens) (f : Fault) → f.at < length ts → StandsAtToken ts f
at_token [] f h = absurd (omega arith)
at_token (t ∷ ts) f h = h

all_at_tokens : (ts : Tokens) (fs : List Fault) → EachBelow (length ts) fs → AllStand ts fs
all_at_tokens ts [] h = tt
all_at_tokens ts (f ∷ fs) h = (at_token ts f h.0, all_at_tokens ts fs h.1)

faults_of : (high : ℕ) {A : Type 0} (r : Result A (List Fault)) (fs : List Fault) → Told high r → r ≡ Err fs → EachBelow high fs
unfolding Told
faults_of high r fs h e = subst (Told high) e h

pub type_faults_stand_at_tokens : TypeFaultsStandAtTokens
type_faults_stand_at_tokens ts u fs read e =
    all_at_tokens ts fs
    (faults_of (length ts) (checked u) fs
    (told_checked (length ts) u (statements_begin ts u.tree read) (rising_below (unit_tokens u.tree) 0 (length ts) (unit_read_rises ts u.tree read))) e)
