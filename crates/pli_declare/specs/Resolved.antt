-- A unit whose declarations have no faults: what each block declares, and what each use of a name means.
use Rattle.std.specs.Prelude.{ℕ, nat_eq, Option, Some, None, List, [], ◌∷◌, map, length, if◌then◌else◌}
use Rattle.std.specs.List.{flat_map, slice_get}
use Rattle.pli_base.specs.Name.{Name}
use Rattle.pli_base.specs.Declarations.{Item, SimpleAttribute}
use Rattle.pli_base.specs.Statements.{ExternalProcedure}
use Rattle.pli_base.specs.declared.syntax.Identifier.{Identifier}
use Rattle.pli_declare_outline.specs.Outlines.{Region, Mark, Declared, Entered, Used, Jumped, PlacedMark}
use Rattle.pli_declare_outline.specs.Outlines.{Outline}
use Rattle.pli_declare_outline.specs.Outlines.{outline_of}
use Rattle.pli_declare_constructs.specs.Regions.{blocks_round}
use Rattle.pli_declare_scopes.specs.Scopes.{meant}
use Rattle.pli_declare_scopes.specs.declared.found.ReferenceMeaning.{ReferenceMeaning}
use Rattle.pli_declare_scopes.specs.declared.found.ReferenceMeaning.TheVariants.{Item as Means}
use Rattle.pli_declare_scopes.specs.declared.found.ReferenceMeaning.TheVariants.{Ambiguous as Several}
use Rattle.pli_declare_scopes.specs.declared.found.ReferenceMeaning.TheVariants.{NotDeclared as Nothing}
use Rattle.pli_declare.specs.Tables.{entries_in, unit_entries, inner_marks, numbers_from, scope_of}
use Rattle.pli_declare.specs.AttributeNames.{plain_of, simple_of, area_in, locator_in}
use Rattle.pli_declare.specs.Declarations.{Declaration, declared_in, returned_by}
use Rattle.pli_declare.specs.Resolution.{is_function, names_of, parameters_of}
use Rattle.pli_declare.specs.declared.block.Use.{Use}
use Rattle.pli_declare.specs.declared.block.Target.{Target}
use Rattle.pli_declare.specs.declared.block.Target.TheVariants.{Name as AName, Function as AFunction}

-- what a block declares, and the names of its parameters, if it is a procedure
pub record BlockDeclarations : Type 0 where
  pub parameters : List Name
  pub declarations : List Declaration

-- the outermost block, which declares the unit's own name; for each region what it declares, if it is a
-- block; what each use means; for each declared name the area of its OFFSET, or of that in its RETURNS, and
-- the locator of its BASED; all in the order of the text
pub record Resolved : Type 0 where
  pub regions : List Region
  pub outermost : List Declaration
  pub blocks : List BlockDeclarations
  pub uses : List Use
  pub areas : List Use
  pub locators : List Use

-- what a block declares
abbrev pub block_at : Outline → ℕ → BlockDeclarations
block_at o block =
    record {
      parameters = parameters_of o block;
      declarations = declared_in (entries_in o block) (parameters_of o block);
    }

-- uses

-- the name at a token means one of a block
abbrev pub use_of : (at : ℕ) → (block : Option ℕ) → (number : ℕ) → Use
use_of at block number = record { at = at; target = AName block number }

-- what is meant where a name that is not declared is used as this; names that are ambiguous are a fault
abbrev pub used_as : Outline → (here at : ℕ) → (otherwise : List Use) → ReferenceMeaning → List Use
used_as o here at otherwise (Means number out) =
    use_of at (slice_get (blocks_round o.regions here) out) number ∷ []
used_as o here at otherwise Several = []
used_as o here at otherwise Nothing = otherwise

-- the name at a token means a built-in function
abbrev pub function_use : (at : ℕ) → List Identifier → List Use
function_use at names = if is_function names then record { at = at; target = AFunction } ∷ [] else []

-- references, at their first names, and the labels of GOTO
abbrev pub uses_at : Outline → (here : ℕ) → Mark → List Use
uses_at o here (Used (i ∷ is)) =
    used_as o here i.at (function_use i.at (i ∷ is)) (meant (scope_of o here) (names_of (i ∷ is)))
uses_at o here (Jumped label) = used_as o here label.at [] (meant (scope_of o here) (label.name ∷ []))
uses_at o here mark = []

-- names in declarations, at the declared names

-- what names in a declaration mean
abbrev pub named_at : Outline → (here : ℕ) → List Name → Identifier → List Use
named_at o here names i = used_as o here i.at [] (meant (scope_of o here) names)

-- what the names in an item's attributes mean, for each of its names
abbrev pub item_names : Outline → (here : ℕ) → (List SimpleAttribute → List Name) → Item → List Use
item_names o here names_in item =
    flat_map (named_at o here (names_in (flat_map simple_of item.attributes))) item.names

-- the areas that a mark's declarations name
abbrev pub areas_at : Outline → (here : ℕ) → Mark → List Use
areas_at o here (Declared items) = flat_map (item_names o here area_in) items
areas_at o here (Entered heading region) =
    named_at o here
    (area_in (flat_map plain_of (flat_map (λ attributes. attributes) (returned_by heading.options))))
    heading.name
areas_at o here mark = []

-- the locators that a mark's declarations name
abbrev pub locators_at : Outline → (here : ℕ) → Mark → List Use
locators_at o here (Declared items) = flat_map (item_names o here locator_in) items
locators_at o here mark = []

-- of all marks after the first
abbrev pub of_marks : (ℕ → Mark → List Use) → List PlacedMark → List Use
of_marks uses ps = flat_map (λ p. uses p.region p.mark) ps

-- the resolved unit of an outline
abbrev pub resolution_of : Outline → Resolved
resolution_of o = record {
  regions = o.regions;
  outermost = declared_in (unit_entries o.marks) [];
  blocks = map (block_at o) (numbers_from 0 (length o.regions));
  uses = of_marks (uses_at o) (inner_marks o.marks);
  areas = of_marks (areas_at o) (inner_marks o.marks);
  locators = of_marks (locators_at o) (inner_marks o.marks);
}

-- the unit, resolved
unfoldable pub resolved_of : ExternalProcedure → Resolved
resolved_of u = resolution_of (outline_of u)

-- the meaning of a name by its token: that of the last use there, or else what was found before
abbrev pub meaning_after : Option Target → List Use → (at : ℕ) → Option Target
meaning_after found [] at = found
meaning_after found (u ∷ us) at = meaning_after (if nat_eq u.at at then Some u.target else found) us at

-- the meaning of a name by its token
abbrev pub meaning_at : List Use → (at : ℕ) → Option Target
meaning_at uses at = meaning_after None uses at
