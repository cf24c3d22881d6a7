-- What names mean to all units of a module (own): external procedures, and variables that units share.
use Rattle.std.specs.Prelude.{ℕ, ◌+◌, Option, Some, None, is_some, List, [], ◌∷◌, ◌++◌, slice_get}
use Rattle.std.specs.Prelude.{if◌then◌else◌}
use Rattle.std.specs.BTreeMap.{insert_entry}
use Rattle.std.specs.Cmp.Lexicographic.{slice_cmp}
use Rattle.std.specs.Map.{keys_of, lookup}
use Rattle.std.specs.Ordering.{nat_cmp}
use Rattle.pli_base.specs.Name.{Name}
use Rattle.pli_base.specs.Words.{same_name, is_among}
use Rattle.pli_program.specs.declared.kind.VariableKind.{VariableKind}
use Rattle.pli_type_tree.specs.Templates.{Template}
use Rattle.pli_code.specs.Decks.{Code, CodedGlobal, ExternalVariable}
use Rattle.pli_code.specs.Decks.{template_at}
use Rattle.pli_link.specs.Units.{Compiled}

-- one name more, unless it is there
abbrev pub with_name : List Name → Name → List Name
with_name before name = if is_among name before then before else before ++ name ∷ []

-- one thing more, unless there is one of its name
abbrev pub with_first : {A : Type 0} → List (Name × A) → Name × A → List (Name × A)
with_first before x = if is_among x.0 (keys_of before) then before else before ++ x ∷ []

-- things by their names, of several of one name the first
abbrev pub firsts : {A : Type 0} → (before : List (Name × A)) → List (Name × A) → List (Name × A)
firsts before [] = before
firsts before (x ∷ xs) = firsts (with_first before x) xs

-- what a name means
abbrev pub meant : {A : Type 0} → List (Name × A) → Name → Option A
meant things name = lookup (same_name name) things

-- the procedures of units, by the numbers of the units from this one on
abbrev pub procedures_from : (number : ℕ) → List Compiled → List (Name × ℕ)
procedures_from number [] = []
procedures_from number (c ∷ cs) = (c.deck.name, number) ∷ procedures_from (number + 1) cs

-- the external procedures, by the numbers of their units
abbrev pub procedures : List Compiled → List (Name × ℕ)
procedures cs = firsts [] (procedures_from 0 cs)

-- where a variable that units share is declared, its kind, and its template as the tables of that unit have
-- it
pub record Declaration : Type 0 where
  pub kind : VariableKind
  pub template : Option Template
  pub unit : ℕ
  pub global : ℕ

-- the variables that units share, among the globals of a unit, from this global on
abbrev pub shared_from : Code → (unit global : ℕ) → List CodedGlobal → List (Name × Declaration)
shared_from code unit global [] = []
shared_from code unit global (ExternalVariable name kind t ∷ gs) =
    (name, record { kind = kind; template = template_at code t; unit = unit; global = global })
    ∷ shared_from code unit (global + 1) gs
shared_from code unit global (other ∷ gs) = shared_from code unit (global + 1) gs

-- those of all units, from this unit on
abbrev pub all_shared : (unit : ℕ) → List Compiled → List (Name × Declaration)
all_shared unit [] = []
all_shared unit (c ∷ cs) =
    shared_from c.deck.code unit 0 c.deck.code.globals ++ all_shared (unit + 1) cs

-- declarations in the order of their names, with one more, unless there is one of its name
abbrev pub with_declaration : List (Name × Declaration) → Name × Declaration → List (Name × Declaration)
with_declaration before d =
    if is_some (meant before d.0) then before else insert_entry (slice_cmp nat_cmp) before d.0 d.1

-- of those of one name the first, in the order of the names
abbrev pub first_declared : (before : List (Name × Declaration)) → List (Name × Declaration)
    → List (Name × Declaration)
first_declared before [] = before
first_declared before (d ∷ ds) = first_declared (with_declaration before d) ds

-- the external variables, each with its first declaration, in the order of their names
abbrev pub externals : List Compiled → List (Name × Declaration)
externals cs = first_declared [] (all_shared 0 cs)

-- the first declaration of a name, if there is one
abbrev pub first_declaration : List Compiled → Name → Option Declaration
first_declaration cs name = meant (externals cs) name

-- the unit of a number
abbrev pub unit_at : List Compiled → Option ℕ → Option Compiled
unit_at cs None = None
unit_at cs (Some number) = slice_get cs number

-- the first unit whose external procedure has this name
abbrev pub unit_named : List Compiled → Name → Option Compiled
unit_named cs name = unit_at cs (meant (procedures cs) name)
