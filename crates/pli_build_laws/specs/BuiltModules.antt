-- The module that members give, and its bytes.
use Rattle.std.specs.Prelude.{◌≡◌, ◌≤◌, List, length}
use Rattle.std.specs.List.{AllByRecursion}
use Rattle.pli_base.specs.Name.{Name}
use Rattle.pli_deck_write.specs.ModuleSpelling.{module_bytes, SpellsModule}
use Rattle.pli_deck_laws.specs.UnitTypes.{IsTypedUnit}
use Rattle.pli_meaning.specs.Scratch.{scratch, Made}
use Rattle.pli_members.specs.Members.{Member}
use Rattle.pli_code.specs.Modules.{Module}

-- what a build from scratch makes of at most 999 members is spelled by its bytes; that its names are names,
-- and its characters bytes, the program's types say
abbrev pub BuiltModulesAreSpelled : Type 0
BuiltModulesAreSpelled =
    (entries : List (Name × Member)) (m : Module) → length entries ≤ 999 → scratch entries ≡ Made m
    → AllByRecursion IsTypedUnit m.units → SpellsModule (module_bytes m) m
