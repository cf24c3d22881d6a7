-- Which bytes spell a module, and what reading them gives.
use Rattle.std.specs.Prelude.{◌≡◌, ℕ, ◌+◌, nat_eq, nat_le, nat_lt, Bool, true, false, ◌&&◌, not, List, []}
use Rattle.std.specs.Prelude.{◌∷◌, length, slice_get, Option, Some, None, Result, Ok}
use Rattle.std.specs.Prelude.{if◌then◌else◌}
use Rattle.std.specs.List.{list_all, sum_by, filter}
use Rattle.pli_map.specs.Description.{Description}
use Rattle.pli_map.specs.Sizes.{size_of}
use Rattle.pli_code.specs.declared.fault.DeckFault.{DeckFault}
use Rattle.pli_code.specs.declared.fault.DeckFault.TheVariants.{BadNumber, OverLimit}
use Rattle.pli_code.specs.Fields.{AreBytes}
use Rattle.pli_deck_write.specs.ModuleFields.{global_tag, is_external, module_field}
use Rattle.pli_deck_write.specs.Whole.{whole_read}
use Rattle.pli_code.specs.ModuleParts.{External, Member, Module}
use Rattle.pli_code.specs.Decks.{Code, CodedTemplate, stated_at}
use Rattle.pli_code.specs.Decks.{CodedGlobal, OwnVariable, ExternalVariable, EntryPoint}
use Rattle.pli_program.specs.declared.kind.VariableKind.TheVariants.{Static}

-- ---- what externals and entries stand for

-- the global of a number in a unit that is there
abbrev pub global_in : Option Member → (global : ℕ) → Option CodedGlobal
global_in None global = None
global_in (Some m) global = slice_get m.deck.code.globals global

-- the global of a number in the unit of a number
abbrev pub global_at : List Member → (unit global : ℕ) → Option CodedGlobal
global_at units unit global = global_in (slice_get units unit) global

-- a global is there and has this kind
abbrev pub has_kind : (kind : ℕ) → Option CodedGlobal → Bool
has_kind kind None = false
has_kind kind (Some g) = nat_eq (global_tag g) kind

-- an external is there and has this kind
abbrev pub is_of_kind : (kind : ℕ) → Option External → Bool
is_of_kind kind None = false
is_of_kind kind (Some e) = nat_eq kind e.kind

-- what an external global stands for is there: a unit for an entry, and an external of the same kind for a
-- variable
abbrev pub is_good_link : Module → CodedGlobal → (link : ℕ) → Bool
is_good_link m (EntryPoint _ _) link = nat_lt link (length m.units)
is_good_link m variable link = is_of_kind (global_tag variable) (slice_get m.externals link)

-- what each external global of a unit stands for is there
abbrev pub are_good_links : Module → List CodedGlobal → List ℕ → Bool
are_good_links m [] links = true
are_good_links m (g ∷ gs) [] = true
are_good_links m (g ∷ gs) (l ∷ ls) = is_good_link m g l && are_good_links m gs ls

-- the main unit is there; externals are declared where they say, and have that kind; and what external
-- globals stand for is there
abbrev pub links_stand : Module → Bool
links_stand m =
    nat_lt m.main (length m.units)
    && list_all (λ e. has_kind e.kind (global_at m.units e.unit e.global)) m.externals
    && list_all (λ u. are_good_links m (filter is_external u.deck.code.globals) u.links) m.units

-- ---- limits

-- the bytes of a description that is there
abbrev pub description_bytes : Option Description → ℕ
description_bytes None = 0
description_bytes (Some d) = size_of d

-- those of a template that is there
abbrev pub bytes_by_template : Code → Option CodedTemplate → ℕ
bytes_by_template c None = 0
bytes_by_template c (Some t) = description_bytes (stated_at c t.description)

-- those of the template of a number
abbrev pub template_bytes : Code → (template : ℕ) → ℕ
template_bytes c template = bytes_by_template c (slice_get c.templates template)

-- the bytes of a unit's own static variables
abbrev pub static_bytes : Code → CodedGlobal → ℕ
static_bytes c (OwnVariable Static t) = template_bytes c t
static_bytes c other = 0

-- those of an external static variable, by its first declaration
abbrev pub declared_bytes : Code → Option CodedGlobal → ℕ
declared_bytes c (Some (ExternalVariable _ Static t)) = template_bytes c t
declared_bytes c other = 0

-- those of the external static variable that a global of a unit declares
abbrev pub bytes_in_unit : Option Member → (global : ℕ) → ℕ
bytes_in_unit None global = 0
bytes_in_unit (Some m) global = declared_bytes m.deck.code (slice_get m.deck.code.globals global)

-- those of an external, where it is static
abbrev pub external_bytes : List Member → External → ℕ
external_bytes units e = bytes_in_unit (slice_get units e.unit) e.global

-- at most 1,000,000 instructions, and at most 16,777,216 bytes of static variables
abbrev pub module_within_limits : Module → Bool
module_within_limits m =
    nat_le (sum_by (λ u. length u.deck.code.instructions) m.units) 1000000
    && nat_le (sum_by (λ u. sum_by (static_bytes u.deck.code) u.deck.code.globals) m.units
    + sum_by (external_bytes m.units) m.externals) 16777216

-- the first of these faults
abbrev pub module_fault : Module → Option DeckFault
module_fault m =
    if not (links_stand m) then Some BadNumber
    else if not (module_within_limits m) then Some OverLimit
    else None

-- ---- spelling and reading

-- the bytes that a module is written as
abbrev pub module_bytes : Module → List ℕ
module_bytes m = module_field.bytes_of m

-- bytes spell a module that fits and has no fault
pub record SpellsModule (bytes : List ℕ) (m : Module) : Type 0 where
  pub fits : module_field.fits m ≡ true
  pub faultless : module_fault m ≡ None
  pub spelled : bytes ≡ module_bytes m

-- the module that bytes spell, or the first fault
unfoldable pub module_read : List ℕ → Result Module DeckFault
module_read bytes = whole_read module_fault module_field bytes

-- a module that is read is spelled by what it is read from
abbrev pub ReadModuleIsSpelled : Type 0
ReadModuleIsSpelled =
    (bytes : List ℕ) (m : Module) → AreBytes bytes → module_read bytes ≡ Ok m → SpellsModule bytes m

-- a module is read from bytes that spell it
abbrev pub SpelledModuleIsRead : Type 0
SpelledModuleIsRead = (bytes : List ℕ) (m : Module) → SpellsModule bytes m → module_read bytes ≡ Ok m

-- bytes spell one module at most
abbrev pub OneModule : Type 0
OneModule = (bytes : List ℕ) (m n : Module) → SpellsModule bytes m → SpellsModule bytes n → m ≡ n
