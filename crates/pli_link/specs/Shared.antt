-- What names mean to all units of a module (own): external procedures, and variables that units share.
use Rattle.std.specs.Prelude.{ℕ, Option, option_map, option_and_then, List, [], ◌∷◌, slice_get}
use Rattle.std.specs.List.{find, flat_map, fold, enumerate_from}
use Rattle.pli_base.specs.Name.{Name}
use Rattle.pli_base.specs.Words.{same_name}
use Rattle.pli_map.specs.ParameterTypes.{stated}
use Rattle.pli_type_tree.specs.Templates.{Template}
use Rattle.pli_code.specs.Decks.{Code, CodedGlobal, ExternalVariable}
use Rattle.pli_link.specs.Names.{Declaration, with_declaration}
use Rattle.pli_link.specs.Units.{Compiled}

-- the first unit whose external procedure has this name
abbrev pub unit_named : List Compiled → Name → Option Compiled
unit_named cs name = find (λ c. same_name name c.deck.name) cs

-- the template of a number, with its description, in which no `*` stands
abbrev pub template_at : Code → (number : ℕ) → Option Template
template_at code number =
    option_and_then
    (λ t. option_map (λ d. record { description = d; initial = t.initial })
    (option_and_then stated (slice_get code.descriptions t.description)))
    (slice_get code.templates number)

-- what a global of a unit declares for all units: an external variable, by its name
abbrev pub shared_by : Code → (unit global : ℕ) → CodedGlobal → List (Name × Declaration)
shared_by code unit global (ExternalVariable name kind t) =
    (name, record { kind = kind; template = template_at code t; unit = unit; global = global }) ∷ []
shared_by code unit global other = []

-- what the globals of all units declare, one unit after the other
abbrev pub all_shared : List Compiled → List (Name × Declaration)
all_shared cs =
    flat_map
    (λ c. flat_map (λ g. shared_by c.1.deck.code c.0 g.0 g.1) (enumerate_from 0 c.1.deck.code.globals))
    (enumerate_from 0 cs)

-- the external variables, each with its first declaration, in the order of their names
abbrev pub externals : List Compiled → List (Name × Declaration)
externals cs = fold with_declaration [] (all_shared cs)
