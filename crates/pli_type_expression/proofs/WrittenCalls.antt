-- Calls of built-in functions as they are written.
use Rattle.std.proofs.Common.{◌≡◌, ℕ, ◌+◌, ◌∷◌, [], List, Option, Result, Ok, refl, ap, ◌∙◌, sym}
use Rattle.std.proofs.Common.{subst, length, add_comm, add-one}
use Rattle.pli_base.specs.Results.{◌>>=◌}
use Rattle.pli_base.specs.declared.syntax.Expression.{Expression}
use Rattle.pli_base.specs.declared.token.Fault.{Fault}
use Rattle.pli_base.specs.views.SyntaxView.{expressions_view}
use Rattle.pli_declare.specs.declared.built_in.BuiltInFunction.{BuiltInFunction}
use Rattle.pli_type_rules.specs.FunctionCalls.{Argument, roles_of, function_called}
use Rattle.pli_type_rules.specs.Names.{Naming}
use Rattle.pli_type_rules.specs.References.{Role}
use Rattle.pli_type_rules.specs.Typing.{all_arguments, roles_or_none, how_many}
use Rattle.pli_type_expression.specs.Segments.{function_typed}
use Rattle.pli_base.specs.answers.FailureAnswers.{Fails, Gives}
use Rattle.pli_base.specs.declared.failure.Failure.{Failure}
use Rattle.pli_type_expression.proofs.BindLemmas.{fails_on, fails_as, bind_ok}

-- what is equal is given alike
pub gives_as : {X Y : Type 0} (view : X → Y) (r : Result X (Failure Fault)) (typed other : Result Y Fault)
    → typed ≡ other → Gives view r other → Gives view r typed
gives_as view r typed other q p = let P : Result _ Fault → Type 0 = λ t. Gives view r t in subst P (sym q) p

pub how_many-length : (xs : List Expression) → how_many (expressions_view xs) ≡ length xs
how_many-length [] = refl
how_many-length (x ∷ xs) = ap (λ k. 1 + k) (how_many-length xs) ∙ add_comm 1 (length xs) ∙ add-one (length xs)

module _ (n : Naming) (f : BuiltInFunction) (at : ℕ) (xs : List Expression) (roles : Option (List Role))
    (e : roles_of f (length xs) ≡ roles) where
  known : roles_of f (how_many (expressions_view xs)) ≡ roles
  known = ap (roles_of f) (how_many-length xs) ∙ e

  call_by_roles : function_typed n f at (expressions_view xs)
      ≡ (all_arguments n (roles_or_none roles) (expressions_view xs) >>= λ gs. function_called n.greatest f at roles gs)
  call_by_roles =
      ap (λ o. all_arguments n (roles_or_none o) (expressions_view xs) >>= λ gs. function_called n.greatest f at o gs) known

  pub call_unmeant : (error : Failure Fault) → Fails error (all_arguments n (roles_or_none roles) (expressions_view xs))
      → Fails error (function_typed n f at (expressions_view xs))
  call_unmeant error p =
      fails_as error _ _ call_by_roles
      (fails_on error (all_arguments n (roles_or_none roles) (expressions_view xs)) (λ gs. function_called n.greatest f at roles gs) p)

  pub call_typed : (gs : List Argument) → all_arguments n (roles_or_none roles) (expressions_view xs) ≡ Ok gs
      → function_typed n f at (expressions_view xs) ≡ function_called n.greatest f at roles gs
  call_typed gs p =
      call_by_roles
      ∙ bind_ok (all_arguments n (roles_or_none roles) (expressions_view xs)) gs (λ gs. function_called n.greatest f at roles gs) p
