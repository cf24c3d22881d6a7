-- Modules (own): the decks of all units, and what their external names stand for.
use Rattle.std.specs.Prelude.{ℕ, List}
use Rattle.pli_base.specs.Name.{Name}
use Rattle.pli_program.specs.declared.kind.VariableKind.{VariableKind}
use Rattle.pli_program.specs.declared.kind.VariableKind.TheVariants.{Static, Controlled}
use Rattle.pli_code.specs.Decks.{Deck}
use Rattle.pli_code.specs.declared.version.Version.{Version}

-- an external variable: its name, whether it is 2, static, or 3, controlled, and the unit and the global of
-- its first declaration
pub record External : Type 0 where
  pub name : Name
  pub kind : ℕ
  pub unit : ℕ
  pub global : ℕ

-- a unit: its member's name, its deck, and for each of its external globals what it stands for: the number of
-- an external or, for an entry, of a unit
pub record Member : Type 0 where
  pub name : Name
  pub deck : Deck
  pub links : List ℕ

-- units, the number of the main one, and externals; and the version, which its decks have too
pub record Module : Type 0 where
  pub version : Version
  pub main : ℕ
  pub externals : List External
  pub units : List Member

-- the number of the kind of an external variable
abbrev pub kind_number : VariableKind → ℕ
kind_number Static = 2
kind_number Controlled = 3
