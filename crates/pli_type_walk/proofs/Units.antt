-- The typed unit, by its parts.
use Rattle.std.specs.List.{list_any}
use Rattle.std.proofs.Common.{◌≡◌, ◌||◌, ◌∷◌, [], ℕ, List, map, Some, None, Result, Ok, Err, refl, ap, sym, ◌∙◌}
use Rattle.pli_base.specs.declared.statement.Procedure.{Procedure, out-Procedure}
use Rattle.pli_base.specs.declared.token.Fault.{Fault}
use Rattle.pli_base.specs.Statements as tree
use Rattle.pli_base.specs.declared.statement.ProcedureOption.{ProcedureOption}
use Rattle.pli_base.specs.laws.StatementLaws.{unit_out, unit_statements}
use Rattle.pli_base.specs.views.StatementView.{option_view, statements_view, unit_view}
use Rattle.pli_declare.specs.ResolvedUnits.{resolved_unit_of}
use Rattle.pli_type_rules.specs.Checked.{checked, in_unit, first_inside, is_main, is_main_option, outer_signature, typed_as, unit_of}
use Rattle.pli_type_rules.specs.NamedUnits.{checked_unit}
use Rattle.pli_type_rules.specs.StatementTyping.{WithProcedures, statements_typed}
use Rattle.pli_type_rules.specs.Temporaries.{temporaries_among}
use Rattle.pli_type_names.specs.UnitNaming.{Names, procedure_in}
use Rattle.pli_type_tree.specs.Templates.{Template}
use Rattle.pli_type_tree.specs.TypedTree.{Signature, Global, TypedProcedure, TypedStatements}
use Rattle.pli_type_parts.specs.Parts.{unit_named, given, told, Adds}
use Rattle.pli_type_walk.specs.Walking.{unit_with}

abbrev pub typed_list : Procedure → tree.Statements → Result (WithProcedures TypedStatements) (List Fault)
typed_list u ss = statements_typed (unit_named u) (in_unit ((unit_named u).returned 0) ss) first_inside ss

-- the statements of a unit decide
opened : (u : Procedure) → checked_unit (resolved_unit_of (unit_view u)) ≡ typed_as (unit_named u) (typed_list u (unit_view u).statements)
unfolding checked_unit checked unit_named
opened u = refl

decided : (u : Procedure) → checked_unit (resolved_unit_of (unit_view u)) ≡ typed_as (unit_named u) (typed_list u (statements_view (out-Procedure u).statements.items))
decided u = opened u ∙ ap (λ ss. typed_as (unit_named u) (typed_list u ss)) (unit_statements u)

is_told : {A : Type 0} (r : Result (WithProcedures A) (List Fault)) → None ≡ given r → r ≡ Err (told r)
is_told (Ok y) e = cc
is_told (Err fs) e = refl

pub faulty : (u : Procedure) (fs : List Fault)
    → None ≡ given (typed_list u (statements_view (out-Procedure u).statements.items))
    → fs ≡ told (typed_list u (statements_view (out-Procedure u).statements.items))
    → checked_unit (resolved_unit_of (unit_view u)) ≡ Err fs
faulty u fs none is =
    decided u ∙ ap (typed_as (unit_named u)) (is_told _ none) ∙ ap Err (sym is)

with_parts : (u : tree.ExternalProcedure) (s s' : Signature) (g g' : List Global) (a a' : List Template) (t t' : ℕ)
    (l l' : TypedStatements) (p p' : List TypedProcedure) → s ≡ s' → g ≡ g' → a ≡ a' → t ≡ t' → l ≡ l' → p ≡ p'
    → unit_with u s g a t l p ≡ unit_with u s' g' a' t' l' p'
with_parts u s s' g g' a a' t t' l l' p p' c d e f h i =
    ap (λ x. unit_with u x g a t l p) c ∙ ap (λ x. unit_with u s' x a t l p) d ∙ ap (λ x. unit_with u s' g' x t l p) e
    ∙ ap (λ x. unit_with u s' g' a' x l p) f ∙ ap (λ x. unit_with u s' g' a' t' x p) h
    ∙ ap (λ x. unit_with u s' g' a' t' l' x) i

unit_named_with : (u : Procedure) (w : WithProcedures TypedStatements)
    → unit_with (unit_view u) (outer_signature (unit_named u)) (unit_named u).globals ((unit_named u).automatic 0) (temporaries_among (unit_named u).is_based (unit_view u).statements) w.part w.procedures
    ≡ unit_of (unit_named u) w
unfolding unit_named
unit_named_with u w = refl

whole : (u : Procedure) (r : Result (WithProcedures TypedStatements) (List Fault)) (signature : Signature) (globals : List Global)
    (automatic : List Template) (temporaries : ℕ) (list : TypedStatements) (procedures : List TypedProcedure)
    → Some list ≡ given r → Adds r [] procedures → signature ≡ outer_signature (unit_named u) → globals ≡ (unit_named u).globals
    → automatic ≡ (unit_named u).automatic 0 → temporaries ≡ temporaries_among (unit_named u).is_based (unit_view u).statements
    → typed_as (unit_named u) r ≡ Ok (unit_with (unit_view u) signature globals automatic temporaries list procedures)
whole u (Ok w) signature globals automatic temporaries list procedures is adds s g a t =
    ap Ok (sym (with_parts (unit_view u) _ _ _ _ _ _ _ _ _ _ _ _ s g a t (inner _ _ is) adds ∙ unit_named_with u w))
  where
    inner : (x y : TypedStatements) → Some x ≡ Some y → x ≡ y
    inner x y e = cc
whole u (Err fs) signature globals automatic temporaries list procedures is adds s g a t = cc

pub typed : (u : Procedure) (signature : Signature) (globals : List Global) (automatic : List Template) (temporaries : ℕ)
    (list : TypedStatements) (procedures : List TypedProcedure)
    → Some list ≡ given (typed_list u (statements_view (out-Procedure u).statements.items))
    → Adds (typed_list u (statements_view (out-Procedure u).statements.items)) [] procedures
    → signature ≡ outer_signature (unit_named u) → globals ≡ (unit_named u).globals → automatic ≡ (unit_named u).automatic 0
    → temporaries ≡ temporaries_among (unit_named u).is_based (statements_view (out-Procedure u).statements.items)
    → checked_unit (resolved_unit_of (unit_view u)) ≡ Ok (unit_with (unit_view u) signature globals automatic temporaries list procedures)
typed u signature globals automatic temporaries list procedures is adds s g a t =
    decided u ∙ whole u _ signature globals automatic temporaries list procedures is adds s g a (t ∙ ap (temporaries_among (unit_named u).is_based) (sym (unit_statements u)))

-- what the external procedure takes and gives is what its block does
pub signature_found : (n : Names) → outer_signature (unit_named n.unit)
    ≡ record { parameters = (procedure_in n 0).parameters; result = (procedure_in n 0).returned }
unfolding unit_named procedure_in
signature_found n = refl

pub returned_found : (n : Names) → (procedure_in n 0).returned ≡ (unit_named n.unit).returned 0
unfolding unit_named procedure_in
returned_found n = refl

-- MAIN by its options

any_main : (os : List ProcedureOption)
    → list_any is_main_option (map option_view os) ≡ list_any (λ o. is_main_option (option_view o)) os
any_main [] = refl
any_main (o ∷ os) = ap (λ b. is_main_option (option_view o) || b) (any_main os)

pub main_unit : (u : Procedure) → is_main (unit_view u) ≡ list_any (λ o. is_main_option (option_view o)) (out-Procedure u).options.items
main_unit u = ap is_main (unit_out u) ∙ any_main (out-Procedure u).options.items
