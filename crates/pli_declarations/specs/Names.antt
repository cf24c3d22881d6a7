-- What the blocks of a unit declare, and what names mean where they are used, if nothing is a fault.
use Rattle.std.specs.Prelude.{ℕ, Option, Some, None, option_map, List, [], ◌∷◌, map, length, slice_get}
use Rattle.std.specs.Prelude.{if◌then◌else◌}
use Rattle.std.specs.List.{flat_map, filter_map}
use Rattle.std.specs.Option.{option_to_list}
use Rattle.pli_base.specs.Name.{Name}
use Rattle.pli_base.specs.Declarations.{Item, SimpleAttribute}
use Rattle.pli_declare_outline.specs.Outlines.{Mark, Declared, Entered, Used, Jumped, Outline}
use Rattle.pli_declare_constructs.specs.Regions.{blocks_round}
use Rattle.pli_declare_scopes.specs.declared.found.ReferenceMeaning.{ReferenceMeaning}
use Rattle.pli_declare_scopes.specs.declared.found.ReferenceMeaning.TheVariants.{Item as Means}
use Rattle.pli_declare_scopes.specs.declared.found.ReferenceMeaning.TheVariants.{Ambiguous as Several}
use Rattle.pli_declare_scopes.specs.declared.found.ReferenceMeaning.TheVariants.{NotDeclared as Nothing}
use Rattle.pli_declare.specs.Tables.{unit_entries, inner_marks, numbers_from}
use Rattle.pli_declare.specs.AttributeNames.{plain_of, simple_of, area_in, locator_in}
use Rattle.pli_declare.specs.Declarations.{Declaration, returned_by}
use Rattle.pli_declare.specs.Resolution.{parameters_of}
use Rattle.pli_declare.specs.Resolved.{BlockDeclarations}
use Rattle.pli_declare.specs.declared.block.Use.{Use}
use Rattle.pli_declare.specs.declared.block.Target.{Target}
use Rattle.pli_declare.specs.declared.block.Target.TheVariants.{Name as AName, Function as AFunction}
use Rattle.pli_declarations.specs.Faults.{is_function}
use Rattle.pli_declarations.specs.Scopes.{meant}
use Rattle.pli_declarations.specs.Tables.{entries_in, scope_of}
use Rattle.pli_declarations.specs.Variables.{declared_in}

-- blocks

-- what a block declares
abbrev pub block_at : Outline → ℕ → BlockDeclarations
block_at o block =
    record {
      parameters = parameters_of o block;
      declarations = declared_in (entries_in o block) (parameters_of o block);
    }

-- what each region declares, if it is a block
abbrev pub blocks_of : Outline → List BlockDeclarations
blocks_of o = map (block_at o) (numbers_from 0 (length o.regions))

-- what the outermost block declares: the unit's own name
abbrev pub outermost_of : Outline → List Declaration
outermost_of o = declared_in (unit_entries o.marks) []

-- names

-- what is meant in a region, or else otherwise; names that are ambiguous are a fault
abbrev pub target_of : Outline → (here : ℕ) → (otherwise : Option Target) → ReferenceMeaning → Option Target
target_of o here otherwise (Means number out) = Some (AName (slice_get (blocks_round o.regions here) out) number)
target_of o here otherwise Several = None
target_of o here otherwise Nothing = otherwise

-- what names mean that stand at a token
abbrev pub use_of : Outline → (here at : ℕ) → (otherwise : Option Target) → List Name → Option Use
use_of o here at otherwise names =
    option_map (λ target. record { at = at; target = target })
    (target_of o here otherwise (meant (scope_of o here) names))

-- references, at their first names, and the labels of GOTO
abbrev pub use_at : Outline → (here : ℕ) → Mark → Option Use
use_at o here (Used (i ∷ more)) =
    use_of o here i.at (if is_function (i ∷ more) then Some AFunction else None) (map (λ i. i.name) (i ∷ more))
use_at o here (Jumped label) = use_of o here label.at None (label.name ∷ [])
use_at o here mark = None

-- what the names in an item's attributes mean, at each of its own names
abbrev pub item_uses : Outline → (here : ℕ) → (List SimpleAttribute → List Name) → Item → List Use
item_uses o here names_in item =
    let names = names_in (flat_map simple_of item.attributes) in
    filter_map (λ i. use_of o here i.at None names) item.names

-- the areas that a mark's declarations name
abbrev pub areas_at : Outline → (here : ℕ) → Mark → List Use
areas_at o here (Declared items) = flat_map (item_uses o here area_in) items
areas_at o here (Entered heading region) =
    let attributes = flat_map (λ attributes. attributes) (returned_by heading.options) in
    option_to_list (use_of o here heading.name.at None (area_in (flat_map plain_of attributes)))
areas_at o here mark = []

-- the locators that a mark's declarations name
abbrev pub locators_at : Outline → (here : ℕ) → Mark → List Use
locators_at o here (Declared items) = flat_map (item_uses o here locator_in) items
locators_at o here mark = []

-- those of all marks but the first
abbrev pub all_uses : (Outline → ℕ → Mark → List Use) → Outline → List Use
all_uses uses o = flat_map (λ p. uses o p.region p.mark) (inner_marks o.marks)
