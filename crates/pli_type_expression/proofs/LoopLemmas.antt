-- The steps of the loops over parts, subscripts and arguments.
use Rattle.std.proofs.Common.{◌≡◌, ℕ, ◌+◌, ◌<◌, ◌≤◌, ◌∷◌, ◌++◌, [], List, Ok, ap, ◌∙◌, sym, drop, get_or}
use Rattle.std.proofs.Common.{length, map, append-nil}
use Rattle.std.proofs.Math.ListN.{drop_of_length-le}
use Rattle.std.proofs.lemmas.List.{drop_more, map-append}
use Rattle.pli_base.specs.Syntax.{Listed}
use Rattle.pli_base.specs.declared.syntax.Expression as program
use Rattle.pli_base.specs.declared.syntax.JoinedPart as part
use Rattle.pli_base.specs.views.SyntaxView.{expression_view, expressions_view, joined_view, arguments_view}
use Rattle.pli_type_rules.specs.ExpressionTypes.{TypedValue}
use Rattle.pli_type_rules.specs.FunctionCalls.{Denoted}
use Rattle.pli_type_rules.specs.Names.{Naming}
use Rattle.pli_type_rules.specs.References.{Role, AsArgument}
use Rattle.pli_type_rules.specs.Typing.{Segment, first_token, denoted, value_of, subscript_value, argument}
use Rattle.pli_type_rules.specs.Typing.{all_subscripts, all_arguments}
use Rattle.pli_type_tree.specs.declared.expression.TypedExpression.{TypedExpression}
use Rattle.pli_type_tree.specs.views.TypedView as typed
use Rattle.pli_type_expression.specs.Segments.{next_segment, last_segment}
use Rattle.pli_base.specs.answers.FailureAnswers.{Fails}
use Rattle.pli_base.specs.declared.failure.Failure.{Failure}
use Rattle.pli_base.specs.declared.token.Fault.{Fault}
use Rattle.pli_type_operands.specs.declared.argument.Argument.{Argument}
use Rattle.pli_type_operands.specs.views.TypingView.{argument_view}
use Rattle.pli_type_expression.proofs.BindLemmas.{fails_on, fails_as, bind_ok, none_before}
use Rattle.pli_type_expression.proofs.WalkLemmas.{subscripts_with, arguments_with, more_subscripts, more_arguments}
use Rattle.pli_type_expression.proofs.WalkLemmas.{subscript_unmeant, subscript_refused, argument_unmeant}

-- the item at a place, and those after it
at_place : {X : Type 0} (xs : List X) (i : ℕ) (x : X) → i < length xs → x ≡ get_or xs i x
    → drop i xs ≡ x ∷ drop (i + 1) xs
at_place xs i x within is = drop_more xs i x within ∙ ap (λ y. y ∷ drop (i + 1) xs) (sym is)

module _ (n : Naming) (s : Segment) (xs : List part.JoinedPart) (i : ℕ) (x : part.JoinedPart)
    (within : i < length xs) (is : x ≡ get_or xs i x) where
  pub part_goes_on : (t : Segment) → next_segment n s x.joining x.part.name (arguments_view x.part.arguments) ≡ Ok t
      → last_segment n s (joined_view (drop i xs)) ≡ last_segment n t (joined_view (drop (i + 1) xs))
  part_goes_on t p =
      ap (λ ys. last_segment n s (joined_view ys)) (at_place xs i x within is)
      ∙ bind_ok (next_segment n s x.joining x.part.name (arguments_view x.part.arguments)) t (λ t. last_segment n t (joined_view (drop (i + 1) xs))) p

  pub part_fails : (error : Failure Fault)
      → Fails error (next_segment n s x.joining x.part.name (arguments_view x.part.arguments))
      → Fails error (last_segment n s (joined_view (drop i xs)))
  part_fails error p =
      fails_as error _ _ (ap (λ ys. last_segment n s (joined_view ys)) (at_place xs i x within is))
      (fails_on error (next_segment n s x.joining x.part.name (arguments_view x.part.arguments)) (λ t. last_segment n t (joined_view (drop (i + 1) xs))) p)

module _ (n : Naming) (xs : List program.Expression) (i : ℕ) (e : program.Expression) (within : i < length xs)
    (is : e ≡ get_or xs i e) where
  listed : expressions_view (drop i xs) ≡ Listed (expression_view e) (expressions_view (drop (i + 1) xs))
  listed = ap expressions_view (at_place xs i e within is)

  pub subscript_goes_on : (done after : List TypedExpression) (v : TypedValue) (x : TypedExpression)
      → value_of n (expression_view e) ≡ Ok v
      → subscript_value n.greatest (first_token (expression_view e)) v ≡ Ok (typed.expression_view x)
      → after ≡ done ++ x ∷ []
      → subscripts_with n (map typed.expression_view done) (expressions_view (drop i xs))
      ≡ subscripts_with n (map typed.expression_view after) (expressions_view (drop (i + 1) xs))
  subscript_goes_on done after v x p q pushed =
      ap (subscripts_with n (map typed.expression_view done)) listed
      ∙ more_subscripts n (map typed.expression_view done) (expression_view e) (expressions_view (drop (i + 1) xs)) v (typed.expression_view x) p q
      ∙ ap (λ zs. subscripts_with n zs (expressions_view (drop (i + 1) xs))) (sym (ap (map typed.expression_view) pushed ∙ map-append typed.expression_view done (x ∷ [])))

  pub subscript_valueless : (done : List TypedExpression) (error : Failure Fault)
      → Fails error (value_of n (expression_view e))
      → Fails error (subscripts_with n (map typed.expression_view done) (expressions_view (drop i xs)))
  subscript_valueless done error p =
      fails_as error _ _ (ap (subscripts_with n (map typed.expression_view done)) listed)
      (subscript_unmeant n (map typed.expression_view done) (expression_view e) (expressions_view (drop (i + 1) xs)) error p)

  pub subscript_no_number : (done : List TypedExpression) (v : TypedValue) (error : Failure Fault)
      → value_of n (expression_view e) ≡ Ok v
      → Fails error (subscript_value n.greatest (first_token (expression_view e)) v)
      → Fails error (subscripts_with n (map typed.expression_view done) (expressions_view (drop i xs)))
  subscript_no_number done v error p q =
      fails_as error _ _ (ap (subscripts_with n (map typed.expression_view done)) listed)
      (subscript_refused n (map typed.expression_view done) (expression_view e) (expressions_view (drop (i + 1) xs)) v error p q)

  pub argument_goes_on : (roles : List Role) (done after : List Argument) (role : Role) (d : Denoted) (a : Argument)
      → role ≡ get_or roles i AsArgument → denoted n role (expression_view e) ≡ Ok d
      → argument_view a ≡ argument (expression_view e) d → after ≡ done ++ a ∷ []
      → arguments_with n (drop i roles) (map argument_view done) (expressions_view (drop i xs))
      ≡ arguments_with n (drop (i + 1) roles) (map argument_view after) (expressions_view (drop (i + 1) xs))
  argument_goes_on roles done after role d a r p q pushed =
      ap (arguments_with n (drop i roles) (map argument_view done)) listed
      ∙ more_arguments n roles i (map argument_view done) (expression_view e) (expressions_view (drop (i + 1) xs)) d (ap (λ r. denoted n r (expression_view e)) (sym r) ∙ p)
      ∙ ap (λ zs. arguments_with n (drop (i + 1) roles) zs (expressions_view (drop (i + 1) xs)))
      (ap (λ b. map argument_view done ++ b ∷ []) (sym q) ∙ sym (ap (map argument_view) pushed ∙ map-append argument_view done (a ∷ [])))

  pub argument_undenoted : (roles : List Role) (done : List Argument) (role : Role) (error : Failure Fault)
      → role ≡ get_or roles i AsArgument → Fails error (denoted n role (expression_view e))
      → Fails error (arguments_with n (drop i roles) (map argument_view done) (expressions_view (drop i xs)))
  argument_undenoted roles done role error r p =
      fails_as error _ _ (ap (arguments_with n (drop i roles) (map argument_view done)) listed)
      (argument_unmeant n roles i (map argument_view done) (expression_view e) (expressions_view (drop (i + 1) xs)) error
      (fails_as error _ _ (ap (λ r. denoted n r (expression_view e)) (sym r)) p))

-- nothing is left
pub no_subscript_left : (n : Naming) (done : List TypedExpression)
    → subscripts_with n (map typed.expression_view done) (expressions_view []) ≡ Ok (map typed.expression_view done)
no_subscript_left n done = ap (λ zs. Ok zs) (append-nil (map typed.expression_view done))

past_end : {X : Type 0} (xs : List X) (i : ℕ) → length xs ≤ i → drop i xs ≡ []
past_end xs i h = drop_of_length-le xs {i = i} h

pub subscripts_end : (n : Naming) (xs : List program.Expression) (i : ℕ) → length xs ≤ i
    → (done : List TypedExpression)
    → subscripts_with n (map typed.expression_view done) (expressions_view (drop i xs))
    ≡ Ok (map typed.expression_view done)
subscripts_end n xs i h done =
    ap (λ ys. subscripts_with n (map typed.expression_view done) (expressions_view ys)) (past_end xs i h)
    ∙ no_subscript_left n done

pub arguments_end : (n : Naming) (xs : List program.Expression) (i : ℕ) → length xs ≤ i → (roles : List Role)
    (done : List Argument)
    → arguments_with n roles (map argument_view done) (expressions_view (drop i xs)) ≡ Ok (map argument_view done)
arguments_end n xs i h roles done =
    ap (λ ys. arguments_with n roles (map argument_view done) (expressions_view ys)) (past_end xs i h)
    ∙ none roles
  where
    none : (roles : List Role) → arguments_with n roles (map argument_view done) (expressions_view [])
        ≡ Ok (map argument_view done)
    none [] = ap (λ zs. Ok zs) (append-nil (map argument_view done))
    none (role ∷ roles) = ap (λ zs. Ok zs) (append-nil (map argument_view done))

pub parts_end : (n : Naming) (s : Segment) (xs : List part.JoinedPart) (i : ℕ) → length xs ≤ i
    → last_segment n s (joined_view (drop i xs)) ≡ Ok s
parts_end n s xs i h = ap (λ ys. last_segment n s (joined_view ys)) (past_end xs i h)

pub subscripts_begin : (n : Naming) (xs : List program.Expression) (done : List TypedExpression) → done ≡ []
    → all_subscripts n (expressions_view xs) ≡ subscripts_with n (map typed.expression_view done) (expressions_view xs)
subscripts_begin n xs done p =
    sym (ap (λ zs. subscripts_with n (map typed.expression_view zs) (expressions_view xs)) p
    ∙ none_before (all_subscripts n (expressions_view xs)))

pub arguments_begin : (n : Naming) (roles : List Role) (xs : List program.Expression) (done : List Argument)
    → done ≡ []
    → all_arguments n roles (expressions_view xs) ≡ arguments_with n roles (map argument_view done) (expressions_view xs)
arguments_begin n roles xs done p =
    sym (ap (λ zs. arguments_with n roles (map argument_view zs) (expressions_view xs)) p
    ∙ none_before (all_arguments n roles (expressions_view xs)))
