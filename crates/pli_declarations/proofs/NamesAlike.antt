-- What names mean in an outline without faults is what the passes find.
use Rattle.std.specs.Prelude.{◌≡◌, refl, ℕ, Bool, true, false, Option, Some, None, option_map, List, [], ◌∷◌, ◌++◌, map, length, if◌then◌else◌}
use Rattle.std.specs.List.{flat_map, filter_map, cons_option}
use Rattle.std.specs.Option.{option_to_list}
use Rattle.std.proofs.Common.{sym, ap, ap₂, ◌∙◌}
use Rattle.pli_base.specs.Name.{Name}
use Rattle.pli_base.specs.Declarations.{Item, SimpleAttribute}
use Rattle.pli_base.specs.declared.syntax.Identifier.{Identifier}
use Rattle.pli_declare_outline.specs.Outlines.{Mark, Declared, Labelled, Entered, Used, Jumped, PlacedMark, Outline}
use Rattle.pli_declare_scopes.specs.Scopes as scopes
use Rattle.pli_declare_scopes.specs.declared.found.ReferenceMeaning.{ReferenceMeaning}
use Rattle.pli_declare_scopes.specs.declared.found.ReferenceMeaning.TheVariants.{Item as Means, Ambiguous as Several, NotDeclared as Nothing}
use Rattle.pli_declare.specs.Tables.{unit_entries, inner_marks, numbers_from}
use Rattle.pli_declare.specs.AttributeNames.{plain_of, simple_of, area_in, locator_in}
use Rattle.pli_declare.specs.Declarations.{returned_by}
use Rattle.pli_declare.specs.Tables as tables
use Rattle.pli_declare.specs.Resolution as resolution
use Rattle.pli_declare.specs.Resolution.{parameters_of}
use Rattle.pli_declare.specs.Resolved as old
use Rattle.pli_declare.specs.declared.block.Use.{Use}
use Rattle.pli_declare.specs.declared.block.Target.{Target}
use Rattle.pli_declare.specs.declared.block.Target.TheVariants.{Function as AFunction}
use Rattle.pli_declarations.specs.Faults.{is_function}
use Rattle.pli_declarations.specs.Names.{block_at, blocks_of, outermost_of, target_of, use_of, use_at, item_uses, areas_at, locators_at, all_uses}
use Rattle.pli_declarations.specs.Tables.{scope_of}
use Rattle.pli_declarations.specs.Scopes.{meant}
use Rattle.pli_declarations.proofs.FaultsAlike.{function_alike}
use Rattle.pli_declarations.proofs.ScopesAlike.{meant_alike}
use Rattle.pli_declarations.proofs.TablesAlike.{entries_alike, scope_alike}
use Rattle.pli_declarations.proofs.VariablesAlike.{declared_alike}

-- lists of one or none
pub singles : {A B : Type 0} (h : A → List B) (g : A → Option B) → ((x : A) → h x ≡ cons_option (g x) []) → (xs : List A) → flat_map h xs ≡ filter_map g xs
singles {A} {B} h g e [] = refl
singles {A} {B} h g e (x ∷ xs) = ap₂ (λ a b. a ++ b) (e x) (singles h g e xs) ∙ one (g x) (filter_map g xs)
  where
    one : (o : Option B) (ys : List B) → cons_option o [] ++ ys ≡ cons_option o ys
    one None ys = refl
    one (Some y) ys = refl

-- ---- blocks

block_alike : (o : Outline) (block : ℕ) → block_at o block ≡ old.block_at o block
block_alike o block = λ i. record { parameters = parameters_of o block; declarations = declared_alike (entries_alike o block i) (parameters_of o block) i }

pub blocks_alike : (o : Outline) → blocks_of o ≡ (old.resolution_of o).blocks
blocks_alike o = λ i. map (λ n. block_alike o n i) (numbers_from 0 (length o.regions))

pub outermost_alike : (o : Outline) → outermost_of o ≡ (old.resolution_of o).outermost
outermost_alike o = declared_alike (unit_entries o.marks) []

-- ---- names

named : (at : ℕ) → Option Target → Option Use
named at t = option_map (λ target. record { at = at; target = target }) t

used_alike : (o : Outline) (here at : ℕ) (otherwise : Option Target) (m : ReferenceMeaning)
    → old.used_as o here at (cons_option (named at otherwise) []) m ≡ cons_option (named at (target_of o here otherwise m)) []
unfolding named
used_alike o here at otherwise (Means number out) = refl
used_alike o here at otherwise Several = refl
used_alike o here at otherwise Nothing = refl

scoped : (o : Outline) (here : ℕ) (names : List Name) → meant (scope_of o here) names ≡ scopes.meant (tables.scope_of o here) names
scoped o here names = λ i. meant_alike (scope_alike o here i) names i

-- names of which one that is not declared means nothing
named_alike : (o : Outline) (here at : ℕ) (names : List Name) → old.used_as o here at [] (scopes.meant (tables.scope_of o here) names) ≡ cons_option (use_of o here at None names) []
unfolding named
named_alike o here at names =
    ap (old.used_as o here at []) (sym (scoped o here names)) ∙ used_alike o here at None _

function_use : (at : ℕ) (names : List Identifier) → old.function_use at names ≡ cons_option (named at (if is_function names then Some AFunction else None)) []
unfolding named
function_use at names = (λ i. if sym (function_alike names) i then record { at = at; target = AFunction } ∷ [] else []) ∙ by (is_function names)
  where
    by : (b : Bool) → (if b then record { at = at; target = AFunction } ∷ [] else []) ≡ cons_option (named at (if b then Some AFunction else None)) []
    by true = refl
    by false = refl

use_alike : (o : Outline) (here : ℕ) (m : Mark) → old.uses_at o here m ≡ cons_option (use_at o here m) []
unfolding named
use_alike o here (Used []) = refl
use_alike o here (Used (x ∷ more)) =
    (λ i. old.used_as o here x.at (function_use x.at (x ∷ more) i) (sym (scoped o here (resolution.names_of (x ∷ more))) i))
    ∙ used_alike o here x.at (if is_function (x ∷ more) then Some AFunction else None) _
use_alike o here (Jumped label) = named_alike o here label.at (label.name ∷ [])
use_alike o here (Declared items) = refl
use_alike o here (Labelled label) = refl
use_alike o here (Entered heading region) = refl

pub uses_alike : (o : Outline) → filter_map (λ p. use_at o p.region p.mark) (inner_marks o.marks) ≡ (old.resolution_of o).uses
uses_alike o = sym (singles (λ p. old.uses_at o p.region p.mark) (λ p. use_at o p.region p.mark) (λ p. use_alike o p.region p.mark) (inner_marks o.marks))

items_alike : (o : Outline) (here : ℕ) (names_in : List SimpleAttribute → List Name) (x : Item) → item_uses o here names_in x ≡ old.item_names o here names_in x
items_alike o here names_in x =
    let names = names_in (flat_map simple_of x.attributes) in
    sym (singles (λ (n : Identifier). old.used_as o here n.at [] (scopes.meant (tables.scope_of o here) names)) (λ n. use_of o here n.at None names) (λ n. named_alike o here n.at names) x.names)

listed : {A : Type 0} (o : Option A) → option_to_list o ≡ cons_option o []
listed None = refl
listed (Some x) = refl

area_alike : (o : Outline) (here : ℕ) (m : Mark) → areas_at o here m ≡ old.areas_at o here m
area_alike o here (Declared items) = λ i. flat_map (λ x. items_alike o here area_in x i) items
area_alike o here (Entered heading region) =
    let names = area_in (flat_map plain_of (flat_map (λ attributes. attributes) (returned_by heading.options))) in
    listed (use_of o here heading.name.at None names) ∙ sym (named_alike o here heading.name.at names)
area_alike o here (Used names) = refl
area_alike o here (Jumped label) = refl
area_alike o here (Labelled label) = refl

locator_alike : (o : Outline) (here : ℕ) (m : Mark) → locators_at o here m ≡ old.locators_at o here m
locator_alike o here (Declared items) = λ i. flat_map (λ x. items_alike o here locator_in x i) items
locator_alike o here (Entered heading region) = refl
locator_alike o here (Used names) = refl
locator_alike o here (Jumped label) = refl
locator_alike o here (Labelled label) = refl

pub areas_alike : (o : Outline) → all_uses areas_at o ≡ (old.resolution_of o).areas
areas_alike o = λ i. flat_map (λ (p : PlacedMark). area_alike o p.region p.mark i) (inner_marks o.marks)

pub locators_alike : (o : Outline) → all_uses locators_at o ≡ (old.resolution_of o).locators
locators_alike o = λ i. flat_map (λ (p : PlacedMark). locator_alike o p.region p.mark i) (inner_marks o.marks)
