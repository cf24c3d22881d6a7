-- Control variables without subscripts.
use Rattle.std.proofs.Common.{◌≡◌, arith, ◌∷◌, [], ℕ, List, length, Option, Ok, Vec, Global, ap, sym, ◌∙◌}
use Rattle.std.specs.Bool.{◌==◌}
use Rattle.std.specs.Vec.{vec_len}
use Rattle.std.proofs.lemmas.Bool.{eq-eqb, ne_eqb}
use Rattle.pli_base.specs.Results.{◌>>=◌}
use Rattle.pli_map.specs.views.DescriptionView.{description_view}
use Rattle.pli_base.specs.Statements.{Range}
use Rattle.pli_base.specs.Syntax.{Expression}
use Rattle.pli_base.specs.declared.syntax.Reference as syntax
use Rattle.pli_base.specs.views.SyntaxView.{reference_view as reference_in}
use Rattle.pli_type_rules.specs.ExpressionTypes.{TypedValue}
use Rattle.pli_type_rules.specs.References.{AsLocator, Referent}
use Rattle.pli_type_rules.specs.Typing.{own_token, referred, value_of}
use Rattle.pli_type_iteration.specs.Iterations.{iteration_with}
use Rattle.pli_base.specs.declared.token.Fault.{Fault}
use Rattle.pli_map.specs.Description.{Description}
use Rattle.pli_map.specs.declared.description.Description as described
use Rattle.pli_type_rules.specs.FunctionCalls.{Denoted}
use Rattle.pli_type_rules.specs.Names.{Naming}
use Rattle.pli_type_rules.specs.StatementTyping.{controls, has_locator, iteration, limits, without_subscripts}
use Rattle.pli_base.specs.answers.FailureAnswers.{Fails}
use Rattle.pli_base.specs.declared.failure.Failure.{Failure}
use Rattle.pli_base.specs.declared.failure.Failure.TheVariants as errors
use Rattle.pli_type_tree.specs.TypedTree as typed
use Rattle.pli_type_tree.specs.declared.expression.Root.{Root}
use Rattle.pli_type_tree.specs.declared.expression.TypedReference.{Part}
use Rattle.pli_type_tree.specs.declared.expression.TypedSubscript.{TypedSubscript}
use Rattle.pli_type_tree.specs.laws.TypedTreeLaws.{part_made}
use Rattle.pli_type_tree.specs.views.TypedView.{reference_view, root_view, subscripts_view}

-- a reference without subscripts
bare_list : (root : typed.Root) (offset : ℕ) (d : Description) (xs : List TypedSubscript) (n : ℕ) → n ≡ length xs
    → (n == 0) ≡ without_subscripts (typed.Part root offset d (subscripts_view xs))
bare_list root offset d [] n e = eq-eqb n 0 e
bare_list root offset d (x ∷ xs) n e = ne_eqb n 0 (λ none. omega (arith, e, none))

pub bare : (root : Root) (offset : ℕ) (d : described.Description) (xs : Vec TypedSubscript Global)
    → (vec_len xs == 0) ≡ without_subscripts (reference_view (Part root offset d xs))
bare root offset d xs = bare_list (root_view root) offset (description_view d) xs.items (vec_len xs) xs.ok.0
    ∙ ap without_subscripts (sym (part_made root offset d xs))

-- a control variable that may not control

pub iteration_fails : (n : Naming) (temporary : ℕ) (v : syntax.Reference) (equals : ℕ) (first : Expression) (range : Option Range)
    (tested : Option Expression) (a : TypedValue) (k : typed.TypedRange) (d : Denoted) (e : Failure Fault)
    → value_of n first ≡ Ok a → limits n range ≡ Ok k → referred n AsLocator (reference_in v) ≡ Ok d
    → Fails e (controls (own_token (reference_in v)) (has_locator (reference_in v)) k d)
    → Fails e (iteration n temporary (reference_in v) equals first range tested)
iteration_fails n temporary v equals first range tested a k d errors.OutOfMemory x y z h = tt
iteration_fails n temporary v equals first range tested a k d (errors.Fault f) x y z h =
    let at = own_token (reference_in v) in
    let l = has_locator (reference_in v) in
    ap (λ r. r >>= λ a. limits n range >>= λ k. referred n AsLocator (reference_in v) >>= λ d. controls at l k d >>= λ r. iteration_with n temporary equals a k r range tested) x
    ∙ ap (λ r. r >>= λ k. referred n AsLocator (reference_in v) >>= λ d. controls at l k d >>= λ r. iteration_with n temporary equals a k r range tested) y
    ∙ ap (λ r. r >>= λ d. controls at l k d >>= λ r. iteration_with n temporary equals a k r range tested) z
    ∙ ap (λ r. r >>= λ r. iteration_with n temporary equals a k r range tested) h

-- one that may
pub iteration_goes_on : (n : Naming) (temporary : ℕ) (v : syntax.Reference) (equals : ℕ) (first : Expression) (range : Option Range)
    (tested : Option Expression) (a : TypedValue) (k : typed.TypedRange) (d : Denoted) (r : Referent)
    → value_of n first ≡ Ok a → limits n range ≡ Ok k → referred n AsLocator (reference_in v) ≡ Ok d
    → controls (own_token (reference_in v)) (has_locator (reference_in v)) k d ≡ Ok r
    → iteration n temporary (reference_in v) equals first range tested ≡ iteration_with n temporary equals a k r range tested
iteration_goes_on n temporary v equals first range tested a k d r x y z h =
    let at = own_token (reference_in v) in
    let l = has_locator (reference_in v) in
    ap (λ r. r >>= λ a. limits n range >>= λ k. referred n AsLocator (reference_in v) >>= λ d. controls at l k d >>= λ r. iteration_with n temporary equals a k r range tested) x
    ∙ ap (λ r. r >>= λ k. referred n AsLocator (reference_in v) >>= λ d. controls at l k d >>= λ r. iteration_with n temporary equals a k r range tested) y
    ∙ ap (λ r. r >>= λ d. controls at l k d >>= λ r. iteration_with n temporary equals a k r range tested) z
    ∙ ap (λ r. r >>= λ r. iteration_with n temporary equals a k r range tested) h
