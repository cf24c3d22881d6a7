-- What the tables of names hold.
use Rattle.std.specs.Prelude.{◌≡◌, ℕ, ◌≤◌, List, map}
use Rattle.std.specs.List.{AllByRecursion}
use Rattle.std.specs.Map.{lookup}
use Rattle.pli_base.specs.Name.{Name}
use Rattle.pli_base.specs.Words.{same_name}
use Rattle.pli_code.specs.declared.module.External.{External}
use Rattle.pli_link.specs.Links.{number_of}
use Rattle.pli_link.specs.Names.{procedures, externals}
use Rattle.pli_link.specs.Units as plain
use Rattle.pli_link.specs.views.NameView.{externals_view}
use Rattle.pli_link.specs.views.UnitView.{compiled_view}
use Rattle.pli_link.specs.answers.Classes.{AreClassed, known_in}
use Rattle.pli_type_keys.specs.declared.key.TemplateKey.{TemplateKey}
use Rattle.pli_link.specs.declared.names.Names.{Names}

-- the units whose names they are
abbrev pub units_in : Names → List plain.Compiled
units_in n = map compiled_view n.units.now

-- numbers of units that a module has room for
abbrev pub AreSmall : List (Name × ℕ) → Type 0
AreSmall procedures = AllByRecursion (λ p. p.1 ≤ 65535) procedures

-- the procedures and the external variables of these units
abbrev pub AreNames : Names → Type 0
AreNames n =
    (n.procedures.now.entries ≡ procedures (units_in n))
    × (externals_view n.externals.now.entries ≡ externals (units_in n))

-- and the external variables have the classes of their templates
abbrev pub HaveClasses : List TemplateKey → Names → Type 0
HaveClasses known n = AreClassed (known_in known) n.externals.now.entries

-- the name of an external variable
abbrev pub external_name : External → Name
external_name e = e.name

-- the number of each name among these
abbrev pub AreNumbered : List (Name × ℕ) → List Name → Type 0
AreNumbered numbers names = (name : Name) → lookup (same_name name) numbers ≡ number_of 0 names name
