-- Arguments as they are handed over, one after another.
use Rattle.std.proofs.Common.{◌≡◌, ℕ, Option, Some, None, List, [], ◌∷◌, ◌++◌, refl, ap, ◌∙◌, sym, option_map}
use Rattle.pli_map.specs.ParameterTypes.{ParameterType}
use Rattle.pli_type_rules.specs.FunctionCalls.{Argument, meant_as}
use Rattle.pli_type_rules.specs.ProcedureCalls.{passed, passed_place, passed_value}
use Rattle.pli_type_rules.specs.TypingSteps.{passed_before}
use Rattle.pli_type_tree.specs.TypedTree.{TypedArguments, NoArgument}
use Rattle.pli_type_tree.specs.declared.expression.TypedArgument.{TypedArgument}
use Rattle.pli_type_tree.specs.views.TypedView.{argument_before, arguments_view}

-- arguments after those in a vector
abbrev pub arguments_before : List TypedArgument → TypedArguments → TypedArguments
arguments_before [] more = more
arguments_before (a ∷ gs) more = argument_before a (arguments_before gs more)

pub before_pushed : (gs : List TypedArgument) (a : TypedArgument) (more : TypedArguments)
    → arguments_before gs (argument_before a more) ≡ arguments_before (gs ++ a ∷ []) more
before_pushed [] a more = refl
before_pushed (g ∷ gs) a more = ap (argument_before g) (before_pushed gs a more)

pub before_none : (gs : List TypedArgument) → arguments_before gs NoArgument ≡ arguments_view gs
before_none [] = refl
before_none (g ∷ gs) = ap (argument_before g) (before_none gs)

module _ (greatest : ℕ) (d : ParameterType) (a : Argument) where
  -- as the parameter takes it, before others
  abbrev given : TypedArguments → Option TypedArguments
  given more = passed d (passed_place d a.denoted) (passed_value greatest d (meant_as a.denoted)) more

  -- one that suits
  pub one_passed : (one : TypedArgument) → ((more : TypedArguments) → Some (argument_before one more) ≡ given more)
      → (done : List TypedArgument) (rest : Option TypedArguments)
      → option_map (arguments_before done) (passed_before greatest d a rest)
      ≡ option_map (arguments_before (done ++ one ∷ [])) rest
  one_passed one h done None = refl
  one_passed one h done (Some more) =
      ap (option_map (arguments_before done)) (sym (h more)) ∙ ap (λ m. Some m) (before_pushed done one more)

  -- one that does not
  pub none_passed : ((more : TypedArguments) → None ≡ given more) → (done : List TypedArgument)
      (rest : Option TypedArguments) → option_map (arguments_before done) (passed_before greatest d a rest) ≡ None
  none_passed h done None = refl
  none_passed h done (Some more) = ap (option_map (arguments_before done)) (sym (h more))
