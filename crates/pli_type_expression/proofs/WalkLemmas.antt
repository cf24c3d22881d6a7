-- The walk over expressions and references, step by step.
use Rattle.std.proofs.Common.{◌≡◌, ℕ, ◌+◌, ◌∷◌, ◌++◌, [], List, Bool, true, false, Result, Ok, Err, refl, ap, sym}
use Rattle.std.proofs.Common.{◌∙◌, suc, zero, drop, get_or, add-one}
use Rattle.pli_base.specs.Results.{◌>>=◌}
use Rattle.pli_base.specs.Syntax.{Expression, Infix, Parenthesized, Named, JoinedParts, Alone, Joined}
use Rattle.pli_base.specs.Syntax.{Arguments, Expressions, Listed}
use Rattle.pli_base.specs.declared.syntax.Identifier.{Identifier}
use Rattle.pli_base.specs.declared.syntax.JoinedPart.{JoinedPart}
use Rattle.pli_base.specs.declared.syntax.Reference.{Reference, out-Reference}
use Rattle.pli_base.specs.laws.SyntaxLaws.{reference_out}
use Rattle.pli_base.specs.views.SyntaxView.{reference_view, arguments_view, joined_view}
use Rattle.pli_base.specs.declared.syntax.InfixOperator.{InfixOperator}
use Rattle.pli_base.specs.declared.syntax.Joining.TheVariants.{Member, Located}
use Rattle.pli_base.specs.declared.code.Code.TheVariants.{WrongOperandType}
use Rattle.pli_base.specs.declared.token.Fault.{Fault}
use Rattle.pli_type_rules.specs.ExpressionTypes.{TypedValue, infix_value}
use Rattle.pli_type_rules.specs.FunctionCalls.{Denoted, DenotesResult, Argument}
use Rattle.pli_type_rules.specs.Names.{Naming}
use Rattle.pli_type_rules.specs.References.{Role, AsValue, AsArgument, AsTarget, AsLocator, NotLocated}
use Rattle.pli_type_rules.specs.Typing.{Segment, first_token, denoted, value_of, referred, joined, begun, as_locator}
use Rattle.pli_type_rules.specs.Typing.{all_subscripts, subscripts_in, all_arguments, argument}
use Rattle.pli_type_rules.specs.Typing.{as_value, or_fault, subscript_value, ended, with_more, is_call}
use Rattle.pli_type_tree.specs.TypedTree.{TypedExpression}
use Rattle.pli_type_operands.specs.Operated.{infix_of, right_of, infixed}
use Rattle.pli_type_expression.specs.Segments.{last_segment}
use Rattle.pli_base.specs.answers.FailureAnswers.{Fails}
use Rattle.pli_base.specs.declared.failure.Failure.{Failure}
use Rattle.pli_type_expression.proofs.BindLemmas.{fails_on, fails_as, bind_ok, one_after}

-- subscripts

-- those so far and those that are left
abbrev pub subscripts_with : Naming → List TypedExpression → Expressions → Result (List TypedExpression) Fault
subscripts_with n xs list = all_subscripts n list >>= λ ys. Ok (xs ++ ys)

-- what a value gives as a subscript, with the others after it
abbrev subscript_then : Naming → Expression → Expressions → TypedValue → Result (List TypedExpression) Fault
subscript_then n e more v =
    subscript_value n.greatest (first_token e) v >>= λ x. (all_subscripts n more >>= λ xs. Ok (x ∷ xs))

pub more_subscripts : (n : Naming) (xs : List TypedExpression) (e : Expression) (more : Expressions)
    (v : TypedValue) (x : TypedExpression) → value_of n e ≡ Ok v
    → subscript_value n.greatest (first_token e) v ≡ Ok x
    → subscripts_with n xs (Listed e more) ≡ subscripts_with n (xs ++ x ∷ []) more
more_subscripts n xs e more v x p q =
    let k : TypedExpression → Result (List TypedExpression) Fault = λ x. (all_subscripts n more >>= λ xs. Ok (x ∷ xs)) in
    let g : List TypedExpression → Result (List TypedExpression) Fault = λ ys. Ok (xs ++ ys) in
    ap (λ r. (r >>= subscript_then n e more) >>= g) p
    ∙ ap (λ r. (r >>= k) >>= g) q
    ∙ one_after (all_subscripts n more) xs x

pub subscript_unmeant : (n : Naming) (xs : List TypedExpression) (e : Expression) (more : Expressions)
    (error : Failure Fault) → Fails error (value_of n e) → Fails error (subscripts_with n xs (Listed e more))
subscript_unmeant n xs e more error p =
    let g : List TypedExpression → Result (List TypedExpression) Fault = λ ys. Ok (xs ++ ys) in
    fails_on error _ g (fails_on error (value_of n e) (subscript_then n e more) p)

pub subscript_refused : (n : Naming) (xs : List TypedExpression) (e : Expression) (more : Expressions)
    (v : TypedValue) (error : Failure Fault) → value_of n e ≡ Ok v
    → Fails error (subscript_value n.greatest (first_token e) v)
    → Fails error (subscripts_with n xs (Listed e more))
subscript_refused n xs e more v error p q =
    let k : TypedExpression → Result (List TypedExpression) Fault = λ x. (all_subscripts n more >>= λ xs. Ok (x ∷ xs)) in
    let g : List TypedExpression → Result (List TypedExpression) Fault = λ ys. Ok (xs ++ ys) in
    fails_as error _ _ (ap (λ r. (r >>= subscript_then n e more) >>= g) p)
    (fails_on error _ g (fails_on error (subscript_value n.greatest (first_token e) v) k q))

-- arguments

abbrev pub arguments_with : Naming → List Role → List Argument → Expressions → Result (List Argument) Fault
arguments_with n roles gs list = all_arguments n roles list >>= λ hs. Ok (gs ++ hs)

arguments_step : (n : Naming) (roles : List Role) (i : ℕ) (e : Expression) (more : Expressions)
    → all_arguments n (drop i roles) (Listed e more)
    ≡ (denoted n (get_or roles i AsArgument) e >>= λ d. (all_arguments n (drop (i + 1) roles) more
    >>= λ gs. Ok (argument e d ∷ gs)))
arguments_step n roles i e more = rw add-one (step roles i)
  where
    step : (roles : List Role) (i : ℕ) → all_arguments n (drop i roles) (Listed e more)
        ≡ (denoted n (get_or roles i AsArgument) e >>= λ d. (all_arguments n (drop (suc i) roles) more
        >>= λ gs. Ok (argument e d ∷ gs)))
    step [] zero = refl
    step [] (suc i) = refl
    step (role ∷ roles) zero = refl
    step (role ∷ roles) (suc i) = step roles i

pub more_arguments : (n : Naming) (roles : List Role) (i : ℕ) (gs : List Argument) (e : Expression)
    (more : Expressions) (d : Denoted) → denoted n (get_or roles i AsArgument) e ≡ Ok d
    → arguments_with n (drop i roles) gs (Listed e more)
    ≡ arguments_with n (drop (i + 1) roles) (gs ++ argument e d ∷ []) more
more_arguments n roles i gs e more d p =
    let k : Denoted → Result (List Argument) Fault = λ d. (all_arguments n (drop (i + 1) roles) more >>= λ gs. Ok (argument e d ∷ gs)) in
    let g : List Argument → Result (List Argument) Fault = λ hs. Ok (gs ++ hs) in
    ap (λ r. r >>= g) (arguments_step n roles i e more)
    ∙ ap (λ r. (r >>= k) >>= g) p
    ∙ one_after (all_arguments n (drop (i + 1) roles) more) gs (argument e d)

pub argument_unmeant : (n : Naming) (roles : List Role) (i : ℕ) (gs : List Argument) (e : Expression)
    (more : Expressions) (error : Failure Fault) → Fails error (denoted n (get_or roles i AsArgument) e)
    → Fails error (arguments_with n (drop i roles) gs (Listed e more))
argument_unmeant n roles i gs e more error p =
    let k : Denoted → Result (List Argument) Fault = λ d. (all_arguments n (drop (i + 1) roles) more >>= λ gs. Ok (argument e d ∷ gs)) in
    let g : List Argument → Result (List Argument) Fault = λ hs. Ok (gs ++ hs) in
    fails_as error _ _ (ap (λ r. r >>= g) (arguments_step n roles i e more))
    (fails_on error _ g (fails_on error (denoted n (get_or roles i AsArgument) e) k p))

-- references

is_call_located : (role : Role) (more : JoinedParts) → is_call role true more ≡ false
is_call_located AsValue more = refl
is_call_located AsArgument more = refl
is_call_located AsTarget more = refl
is_call_located AsLocator more = refl

-- a reference is its last segment, which ends
pub joined_ends : (n : Naming) (role : Role) (s : Segment) (more : JoinedParts)
    → joined n role s more ≡ (last_segment n s more >>= ended role)
joined_ends n role s Alone = refl
joined_ends n role s (Joined Member name arguments more) =
    after (λ t. joined_ends n role t more) (subscripts_in n arguments)
  where
    after : ((t : Segment) → joined n role t more ≡ (last_segment n t more >>= ended role))
        → (r : Result (List TypedExpression) Fault)
        → (r >>= λ xs. joined n role (with_more s xs) more)
        ≡ (((r >>= λ xs. Ok (with_more s xs)) >>= λ t. last_segment n t more) >>= ended role)
    after ih (Ok xs) = ih (with_more s xs)
    after ih (Err f) = refl
joined_ends n role s (Joined Located name arguments more) =
    ap (λ call. ended AsLocator s >>= λ l. (begun n (n.meaning name.at) call (as_locator l) name.at arguments
    >>= λ t. joined n role t more)) (is_call_located role more)
    ∙ after (λ t. joined_ends n role t more) (ended AsLocator s) (λ l. begun n (n.meaning name.at) false (as_locator l) name.at arguments)
  where
    once : ((t : Segment) → joined n role t more ≡ (last_segment n t more >>= ended role))
        → (b : Result Segment Fault)
        → (b >>= λ t. joined n role t more) ≡ ((b >>= λ t. last_segment n t more) >>= ended role)
    once ih (Ok t) = ih t
    once ih (Err f) = refl

    after : ((t : Segment) → joined n role t more ≡ (last_segment n t more >>= ended role))
        → (l : Result Denoted Fault) (b : Denoted → Result Segment Fault)
        → (l >>= λ d. (b d >>= λ t. joined n role t more))
        ≡ (((l >>= λ d. b d) >>= λ t. last_segment n t more) >>= ended role)
    after ih (Err f) b = refl
    after ih (Ok d) b = once ih (b d)

-- a reference by its parts
referred_ends : (n : Naming) (role : Role) (name : Identifier) (arguments : Arguments) (more : JoinedParts)
    (s t : Segment) → begun n (n.meaning name.at) (is_call role false more) NotLocated name.at arguments ≡ Ok s
    → last_segment n s more ≡ Ok t → referred n role (Named name arguments more) ≡ ended role t
referred_ends n role name arguments more s t p q =
    bind_ok (begun n (n.meaning name.at) (is_call role false more) NotLocated name.at arguments) s (λ s. joined n role s more) p
    ∙ joined_ends n role s more ∙ bind_ok (last_segment n s more) t (ended role) q

reference_unbegun : (n : Naming) (role : Role) (name : Identifier) (arguments : Arguments) (more : JoinedParts)
    (error : Failure Fault) → Fails error (begun n (n.meaning name.at) (is_call role false more) NotLocated name.at arguments)
    → Fails error (referred n role (Named name arguments more))
reference_unbegun n role name arguments more error p =
    fails_on error (begun n (n.meaning name.at) (is_call role false more) NotLocated name.at arguments) (λ s. joined n role s more) p

reference_unended : (n : Naming) (role : Role) (name : Identifier) (arguments : Arguments) (more : JoinedParts)
    (s : Segment) (error : Failure Fault)
    → begun n (n.meaning name.at) (is_call role false more) NotLocated name.at arguments ≡ Ok s
    → Fails error (last_segment n s more) → Fails error (referred n role (Named name arguments more))
reference_unended n role name arguments more s error p q =
    fails_as error _ _ (bind_ok (begun n (n.meaning name.at) (is_call role false more) NotLocated name.at arguments) s (λ s. joined n role s more) p
    ∙ joined_ends n role s more) (fails_on error (last_segment n s more) (ended role) q)

-- a reference as code has it
module _ (n : Naming) (role : Role) (r : Reference) (parts : List JoinedPart) (call : Bool)
    (same : parts ≡ (out-Reference r).joined.items) (is : call ≡ is_call role false (joined_view parts)) where
  abbrev begins : Bool → Result Segment Fault
  begins k =
      let first = (out-Reference r).first in
      begun n (n.meaning first.name.at) k NotLocated first.name.at (arguments_view first.arguments)

  so : begins (is_call role false (joined_view (out-Reference r).joined.items)) ≡ begins call
  so = sym (ap begins (is ∙ ap (λ xs. is_call role false (joined_view xs)) same))

  pub written_unbegun : (error : Failure Fault) → Fails error (begins call) → Fails error (referred n role (reference_view r))
  written_unbegun error p =
      let x = out-Reference r in
      fails_as error _ _ (ap (referred n role) (reference_out r))
      (reference_unbegun n role x.first.name (arguments_view x.first.arguments) (joined_view x.joined.items) error
      (fails_as error _ _ so p))

  pub written_unended : (s : Segment) (error : Failure Fault) → begins call ≡ Ok s
      → Fails error (last_segment n s (joined_view parts)) → Fails error (referred n role (reference_view r))
  written_unended s error p q =
      let x = out-Reference r in
      fails_as error _ _ (ap (referred n role) (reference_out r))
      (reference_unended n role x.first.name (arguments_view x.first.arguments) (joined_view x.joined.items) s error (so ∙ p)
      (fails_as error _ _ (sym (ap (λ xs. last_segment n s (joined_view xs)) same)) q))

  pub written_ends : (s t : Segment) → begins call ≡ Ok s → last_segment n s (joined_view parts) ≡ Ok t
      → referred n role (reference_view r) ≡ ended role t
  written_ends s t p q =
      let x = out-Reference r in
      ap (referred n role) (reference_out r)
      ∙ referred_ends n role x.first.name (arguments_view x.first.arguments) (joined_view x.joined.items) s t (so ∙ p)
      (sym (ap (λ xs. last_segment n s (joined_view xs)) same) ∙ q)

-- parentheses

pub parenthesized_typed : (n : Naming) (role : Role) (at : ℕ) (inner : Expression) (v : TypedValue)
    → value_of n inner ≡ Ok v → denoted n role (Parenthesized at inner) ≡ Ok (DenotesResult v)
parenthesized_typed n role at inner v p = ap (λ s. s >>= λ v. Ok (DenotesResult v)) p

pub parenthesized_unmeant : (n : Naming) (role : Role) (at : ℕ) (inner : Expression) (error : Failure Fault)
    → Fails error (value_of n inner) → Fails error (denoted n role (Parenthesized at inner))
parenthesized_unmeant n role at inner error p = fails_on error (value_of n inner) (λ v. Ok (DenotesResult v)) p

-- operators

-- what a value denotes has this one value
result_kept : (at : ℕ) (r : Result TypedValue Fault) → as_value at (r >>= λ u. Ok (DenotesResult u)) ≡ r
result_kept at (Ok u) = refl
result_kept at (Err f) = refl

module _ (n : Naming) (operator : InfixOperator) (at : ℕ) (left right : Expression) where
  pub infix_denotes : (role : Role)
      → denoted n role (Infix operator at left right) ≡ (infixed n operator at left right >>= λ u. Ok (DenotesResult u))
  infix_denotes role = on_left (value_of n left)
    where
      on_right : (v : TypedValue) (r : Result TypedValue Fault)
          → (r >>= λ w. (infix_of n.greatest operator at v w >>= λ u. Ok (DenotesResult u)))
          ≡ ((r >>= infix_of n.greatest operator at v) >>= λ u. Ok (DenotesResult u))
      on_right v (Ok w) = refl
      on_right v (Err f) = refl

      on_left : (l : Result TypedValue Fault)
          → (l >>= λ v. (value_of n right >>= λ w. (infix_of n.greatest operator at v w >>= λ u. Ok (DenotesResult u))))
          ≡ ((l >>= right_of n operator at right) >>= λ u. Ok (DenotesResult u))
      on_left (Ok v) = on_right v (value_of n right)
      on_left (Err f) = refl

  pub infix_valued : value_of n (Infix operator at left right) ≡ infixed n operator at left right
  infix_valued =
      ap (as_value (first_token (Infix operator at left right))) (infix_denotes AsValue)
      ∙ result_kept (first_token (Infix operator at left right)) (infixed n operator at left right)

abbrev infix_denoted : Naming → InfixOperator → (at : ℕ) → (v w : TypedValue) → Result Denoted Fault
infix_denoted n operator at v w =
    or_fault WrongOperandType at (infix_value n.greatest operator v w) >>= λ u. Ok (DenotesResult u)

abbrev right_denoted : Naming → InfixOperator → (at : ℕ) → (right : Expression) → TypedValue → Result Denoted Fault
right_denoted n operator at right v = value_of n right >>= λ w. infix_denoted n operator at v w

module _ (n : Naming) (role : Role) (operator : InfixOperator) (at : ℕ) (left right : Expression) where
  pub infix_typed : (v w u : TypedValue) → value_of n left ≡ Ok v → value_of n right ≡ Ok w
      → or_fault WrongOperandType at (infix_value n.greatest operator v w) ≡ Ok u
      → denoted n role (Infix operator at left right) ≡ Ok (DenotesResult u)
  infix_typed v w u p q e =
      ap (λ s. s >>= right_denoted n operator at right) p ∙ ap (λ s. s >>= infix_denoted n operator at v) q
      ∙ ap (λ s. s >>= λ u. Ok (DenotesResult u)) e

  pub left_unmeant : (error : Failure Fault) → Fails error (value_of n left)
      → Fails error (denoted n role (Infix operator at left right))
  left_unmeant error p = fails_on error (value_of n left) (right_denoted n operator at right) p

  pub right_unmeant : (v : TypedValue) (error : Failure Fault) → value_of n left ≡ Ok v
      → Fails error (value_of n right) → Fails error (denoted n role (Infix operator at left right))
  right_unmeant v error p q =
      fails_as error _ _ (ap (λ s. s >>= right_denoted n operator at right) p)
      (fails_on error (value_of n right) (infix_denoted n operator at v) q)

  pub infix_refused : (v w : TypedValue) (error : Failure Fault) → value_of n left ≡ Ok v → value_of n right ≡ Ok w
      → Fails error (or_fault WrongOperandType at (infix_value n.greatest operator v w))
      → Fails error (denoted n role (Infix operator at left right))
  infix_refused v w error p q e =
      fails_as error _ _ (ap (λ s. s >>= right_denoted n operator at right) p ∙ ap (λ s. s >>= infix_denoted n operator at v) q)
      (fails_on error (or_fault WrongOperandType at (infix_value n.greatest operator v w)) (λ u. Ok (DenotesResult u)) e)
