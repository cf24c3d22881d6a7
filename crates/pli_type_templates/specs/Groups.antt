-- Which variables are made, and the members of each.
use Rattle.std.specs.Prelude.{◌≡◌, ◌<◌, ℕ, Bool, Option, Some}
use Rattle.std.specs.Prelude.{None, List, [], ◌∷◌, ◌++◌, get_or, length, map, slice_set}
use Rattle.std.specs.Prelude.{if◌then◌else◌}
use Rattle.pli_base.specs.Name.{Name}
use Rattle.pli_base.specs.declared.declaration.InitialValue.{InitialValue}
use Rattle.pli_declare_outline.specs.Outlines.{PlacedMark}
use Rattle.pli_map.specs.Description.{Description}
use Rattle.pli_declare.specs.Symbols.{Symbol, SymbolKind, Variable, Member, Entry}
use Rattle.pli_declare.specs.declared.symbol.StorageClass.{StorageClass}
use Rattle.pli_type_rules.specs.InitialScalars.{InitialItem, template_of}
use Rattle.pli_type_rules.specs.NamedUnits.{global_of, is_automatic, is_based, is_global, kind_of_class}
use Rattle.pli_type_rules.specs.NamedUnits.{member_items}
use Rattle.pli_type_templates.specs.ItemNames.{HasValues}
use Rattle.pli_type_templates.specs.declared.lifetime.Lifetime.{Lifetime}
use Rattle.pli_type_templates.specs.declared.lifetime.Lifetime.TheVariants as lifetimes
use Rattle.pli_type_tree.specs.Templates.{Template}
use Rattle.pli_type_tree.specs.TypedTree.{Global, EntryPoint}

-- variables of this lifetime such as are made
abbrev pub is_such : (wanted : Lifetime) → StorageClass → Description → Bool
is_such lifetimes.Activation class d = is_automatic 63 class d
is_such lifetimes.Program class d = is_global 63 class d
is_such lifetimes.Allocation class d = is_based 63 class d

-- a variable that is made: the token of its name, the values in its INITIAL, and its members
pub record MadeVariable : Type 0 where
  pub at : ℕ
  pub description : Description
  pub values : List InitialValue
  pub members : List InitialItem

-- what it is made from
abbrev pub template_with : MadeVariable → Template
template_with m = template_of m.description (record { path = []; values = m.values } ∷ m.members)

-- its name is one of an item that has its values
abbrev pub HasItem : List PlacedMark → MadeVariable → Type 0
HasItem marks m = HasValues marks m.at m.values

-- the variable of this lifetime that is declared so, if it is made
abbrev pub made_as : (wanted : Lifetime) → (at : ℕ) → (members : List InitialItem) → SymbolKind
    → Option MadeVariable
made_as wanted at members (Variable description class scope initial area) =
    if is_such wanted class description
    then Some (record { at = at; description = description; values = initial; members = members })
    else None
made_as wanted at members other = None

-- the variable of this lifetime that a symbol with these members is, if it is made
abbrev pub made_in : (wanted : Lifetime) → Symbol → (members : List InitialItem) → Option MadeVariable
made_in wanted s members = made_as wanted s.identifier.at members s.kind

-- a member, and the variable that it is a member of
pub record Owned : Type 0 where
  pub root : ℕ
  pub item : InitialItem

-- the member that a symbol is, with its variable
abbrev pub member_in : SymbolKind → Option Owned
member_in (Member root path initial area) =
    Some (record { root = root; item = record { path = path; values = initial } })
member_in other = None

-- with one member more, if this is one of one of these roots
abbrev pub with_member : (rows : List (List InitialItem)) → Option Owned → List (List InitialItem)
with_member rows None = rows
with_member rows (Some o) = slice_set rows o.root (get_or rows o.root [] ++ o.item ∷ [])

-- what a variable is made from, if it is made
abbrev pub templates_with : Option MadeVariable → List Template
templates_with None = []
templates_with (Some m) = template_with m ∷ []

-- the globals that a symbol is with these members
abbrev pub global_as : (at : ℕ) → Name → (members : List InitialItem) → SymbolKind → List Global
global_as at name members (Variable description class scope initial area) =
    map (global_of scope (kind_of_class class) name)
    (templates_with (made_as lifetimes.Program at members (Variable description class scope initial area)))
global_as at name members (Entry parameters returned area) =
    EntryPoint name (record { parameters = parameters; result = returned }) ∷ []
global_as at name members kind = []

-- the same of the symbol
abbrev pub global_made : Symbol → (members : List InitialItem) → List Global
global_made s members = global_as s.identifier.at s.identifier.name members s.kind

-- under the number of each symbol its members
pub record AreMembers (rows : List (List InitialItem)) (symbols : List Symbol) : Type 0 where
  pub sized : length rows ≡ length symbols
  pub owned : (root : ℕ) → root < length symbols → get_or rows root [] ≡ member_items root symbols
