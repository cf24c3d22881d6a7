-- The code of trees that lie in vectors.
use Rattle.std.proofs.Common.{◌≡◌, ◌++◌, ◌∷◌, [], ℕ, suc, List, length, refl, ap, ◌∙◌, sym, Vec, Box, Global}
use Rattle.std.proofs.lemmas.List.{append-nil, append_assoc}
use Rattle.pli_map.specs.declared.description.Description.{Description}
use Rattle.pli_map.specs.views.DescriptionView.{description_view}
use Rattle.pli_program.specs.Templates.{dummy}
use Rattle.pli_program.specs.declared.instruction.Instruction.TheVariants as op
use Rattle.pli_type_tree.specs.TypedTree.{TypedArguments, NoArgument}
use Rattle.pli_type_tree.specs.views.TypedView.{root_view, callee_view, operation_view, expression_view, reference_view, argument_before, operands_view, subscripts_view, arguments_view}
use Rattle.pli_type_tree.specs.laws.TypedTreeLaws.{calculated_made, called_made, part_made, element_made, as_pointer_made, as_offset_made}
use Rattle.pli_type_tree.specs.declared.expression.Callee.{Callee}
use Rattle.pli_type_tree.specs.declared.expression.Root.{Root, Located}
use Rattle.pli_type_tree.specs.declared.expression.TypedExpression.{TypedExpression, Calculated, Called, AsPointer, AsOffset}
use Rattle.pli_type_tree.specs.declared.expression.TypedOperation.{TypedOperation}
use Rattle.pli_type_tree.specs.declared.expression.TypedReference.{TypedReference, Part, ElementOf}
use Rattle.pli_type_tree.specs.declared.expression.TypedSubscript.{TypedSubscript}
use Rattle.pli_type_tree.specs.declared.expression.TypedArgument.{TypedArgument, ByPlace, ByDummy, ByString}
use Rattle.pli_gen_emit.specs.TreeTranslation.{argument_count, root_code, call_instruction, operation_code, value_code, place_code, operands_code, subscripts_code, dimensions_code, arguments_code}

pub operation_code_made : (operation : TypedOperation) (operands : Vec TypedExpression Global)
    → value_code (expression_view (Calculated operation operands)) ≡ operands_code (operands_view operands.items) ++ operation_code (operation_view operation) ∷ []
operation_code_made operation operands = ap value_code (calculated_made operation operands)

one_more : (a : TypedArgument) (more : TypedArguments) → argument_count (argument_before a more) ≡ suc (argument_count more)
one_more (ByPlace r) more = refl
one_more (ByDummy d e) more = refl
one_more (ByString form e) more = refl

pub arguments_counted : (xs : List TypedArgument) → argument_count (arguments_view xs) ≡ length xs
arguments_counted [] = refl
arguments_counted (a ∷ xs) = one_more a (arguments_view xs) ∙ ap suc (arguments_counted xs)

pub call_code_made : (callee : Callee) (arguments : Vec TypedArgument Global)
    → value_code (expression_view (Called callee arguments)) ≡ arguments_code (arguments_view arguments.items) ++ call_instruction (callee_view callee) (length arguments.items) ∷ []
call_code_made callee arguments =
    ap value_code (called_made callee arguments)
    ∙ ap (λ n. arguments_code (arguments_view arguments.items) ++ call_instruction (callee_view callee) n ∷ []) (arguments_counted arguments.items)

-- an offset as a pointer into an area, and a pointer as an offset of one
pub as_pointer_code_made : (area : TypedReference) (offset : Box TypedExpression Global)
    → value_code (expression_view (AsPointer area offset)) ≡ value_code (expression_view offset.value) ++ place_code (reference_view area) ++ op.ToPointer ∷ []
as_pointer_code_made area offset = ap value_code (as_pointer_made area offset)

pub as_offset_code_made : (area : TypedReference) (pointer : Box TypedExpression Global)
    → value_code (expression_view (AsOffset area pointer)) ≡ value_code (expression_view pointer.value) ++ place_code (reference_view area) ++ op.ToOffset ∷ []
as_offset_code_made area pointer = ap value_code (as_offset_made area pointer)

-- what is at the place to which a locator leads
pub located_code_made : (locator : Box TypedExpression Global) (description : Description)
    → root_code (root_view (Located locator description)) ≡ value_code (expression_view locator.value) ++ op.Based (description_view description) ∷ []
located_code_made locator description = refl

pub part_code_made : (root : Root) (offset : ℕ) (description : Description) (subscripts : Vec TypedSubscript Global)
    → place_code (reference_view (Part root offset description subscripts))
    ≡ root_code (root_view root) ++ op.Field offset (description_view description) ∷ subscripts_code (subscripts_view subscripts.items)
part_code_made root offset description subscripts = ap place_code (part_made root offset description subscripts)

pub element_code_made : (root : Root) (subscripts : Vec TypedExpression Global)
    → place_code (reference_view (ElementOf root subscripts)) ≡ root_code (root_view root) ++ dimensions_code 1 (operands_view subscripts.items)
element_code_made root subscripts = ap place_code (element_made root subscripts)

-- an argument's code, and that of the others
pub argument_first : (a : TypedArgument) (more : TypedArguments) → arguments_code (argument_before a more) ≡ arguments_code (argument_before a NoArgument) ++ arguments_code more
argument_first (ByPlace r) more = ap (λ x. x ++ arguments_code more) (sym (append-nil (place_code (reference_view r))))
argument_first (ByDummy d e) more =
    sym (append_assoc (value_code (expression_view e)) (op.MakeDummy (dummy (description_view d)) ∷ []) (arguments_code more))
argument_first (ByString form e) more =
    sym (append_assoc (value_code (expression_view e)) (op.MakeStringDummy form ∷ []) (arguments_code more))
