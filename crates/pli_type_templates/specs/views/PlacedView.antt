-- What globals with the tokens of their names say, apart from where they lie in memory.
use Rattle.std.specs.Prelude.{ℕ, Option, Some, None, List, [], ◌∷◌, map, option_map}
use Rattle.pli_declare_outline.specs.Outlines.{PlacedMark}
use Rattle.pli_map.specs.views.DescriptionView.{description_view}
use Rattle.pli_map.specs.views.ParameterView.{type_view}
use Rattle.pli_type_rules.specs.NamedUnits as units
use Rattle.pli_type_templates.specs.ItemNames.{HasEntry}
use Rattle.pli_type_templates.specs.declared.placed_globals.PlacedGlobal.{PlacedGlobal}
use Rattle.pli_type_templates.specs.declared.placed_globals.UnitGlobal.{UnitGlobal}
use Rattle.pli_type_templates.specs.declared.placed_globals.UnitGlobal.TheVariants as globals
use Rattle.pli_type_templates.specs.views.ItemView.{HasMadeItem, made_template}
use Rattle.pli_type_tree.specs.TypedTree as plain

-- a global
abbrev pub unit_global_view : UnitGlobal → plain.Global
unit_global_view (globals.OwnVariable kind made) = plain.OwnVariable kind (made_template made)
unit_global_view (globals.ExternalVariable name kind made) =
    plain.ExternalVariable name kind (made_template made)
unit_global_view (globals.EntryPoint name parameters returned) =
    plain.EntryPoint name (record {
      parameters = map type_view parameters.now;
      result = option_map (λ d. description_view d.now) returned;
    })

-- a global, or none
abbrev pub global_found : Option UnitGlobal → List plain.Global
global_found None = []
global_found (Some global) = unit_global_view global ∷ []

-- a global, apart from where its name stands
abbrev pub global_view : PlacedGlobal → plain.Global
global_view p = unit_global_view p.global

-- a global with the token of its name
abbrev pub placed_view : PlacedGlobal → units.PlacedGlobal
placed_view p = units.placed p.at (global_view p)

-- a global whose name, at this token, is one of an item that says what it is
abbrev pub HasGlobal : List PlacedMark → (at : ℕ) → UnitGlobal → Type 0
HasGlobal marks at (globals.OwnVariable kind made) = HasMadeItem marks made
HasGlobal marks at (globals.ExternalVariable name kind made) = HasMadeItem marks made
HasGlobal marks at (globals.EntryPoint name parameters returned) =
    HasEntry marks at (map type_view parameters.now) (option_map (λ d. description_view d.now) returned)

-- the same of a global with its token
abbrev pub HasGlobalItem : List PlacedMark → PlacedGlobal → Type 0
HasGlobalItem marks p = HasGlobal marks p.at p.global
