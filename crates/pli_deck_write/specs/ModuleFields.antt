-- The bytes of modules (own): the decks of all units, and what their external names stand for.
use Rattle.std.specs.Prelude.{ℕ, zero, suc, nat_eq, nat_lt, Bool, true, false, ◌&&◌, List}
use Rattle.std.specs.Prelude.{[], ◌∷◌, ◌++◌, length, take, drop, Option, Some, None, Result, Ok, Err}
use Rattle.std.specs.Prelude.{if◌then◌else◌}
use Rattle.std.specs.Cmp.Lexicographic.{slice_cmp}
use Rattle.std.specs.List.{flat_map, list_all, filter}
use Rattle.std.specs.declared.cmp.Ordering.{Ordering}
use Rattle.std.specs.declared.cmp.Ordering.TheVariants.{Less}
use Rattle.std.specs.Ordering.{nat_cmp}
use Rattle.pli_base.specs.Name.{Name}
use Rattle.pli_code.specs.ModuleParts.{External, Member, Module}
use Rattle.pli_code.specs.declared.fault.DeckFault.{DeckFault}
use Rattle.pli_code.specs.declared.fault.DeckFault.TheVariants.{Truncated}
use Rattle.pli_base.specs.Results.{◌>>=◌}
use Rattle.pli_code.specs.Fields.{Field, Reader, many, checked, followed, ◌⊗◌, shaped, list_of}
use Rattle.pli_code.specs.Fields.{u1, u2, u4, from_to}
use Rattle.pli_code.specs.Versions.{same_version, written}
use Rattle.pli_code.specs.declared.version.Version.{Version}
use Rattle.pli_deck_write.specs.DeckFields.{name, after_magic, version_in, any_version}
use Rattle.pli_deck_write.specs.DeckFields.{deck_in_versions}
use Rattle.pli_deck_write.specs.DeckFaults.{fault_of}
use Rattle.pli_deck_write.specs.Spelling.{deck_bytes, deck_read_in}
use Rattle.pli_code.specs.Decks.{Deck, CodedGlobal, OwnVariable, ExternalVariable, EntryPoint}
use Rattle.pli_program.specs.declared.kind.VariableKind.TheVariants.{Static, Controlled}

-- ---- externals, in the order of their names

-- the first of two comes before the second
abbrev pub is_less : Ordering → Bool
is_less Less = true
is_less other = false

-- a name comes after that of the external before, if there is one
abbrev pub comes_after : Option External → Name → Bool
comes_after None n = true
comes_after (Some e) n = is_less (slice_cmp nat_cmp e.name n)

-- an external of its parts
abbrev pub external_of : Name × (ℕ × (ℕ × ℕ)) → External
external_of p = record { name = p.0; kind = p.1.0; unit = p.1.1.0; global = p.1.1.1 }

-- its parts, in the order of their bytes
abbrev pub external_parts : External → Name × (ℕ × (ℕ × ℕ))
external_parts e = (e.name, (e.kind, (e.unit, e.global)))

-- an external whose name comes after that of the one before
unfoldable pub external_after : (before : Option External) → Field External
external_after before =
    shaped external_of external_parts (checked (comes_after before) name ⊗ from_to 2 3 u1 ⊗ u2 ⊗ u2)

-- the bytes of values, each by the field that the one before gives
abbrev pub bytes_after : {X : Type 0} → (Option X → Field X) → Option X → List X → List ℕ
bytes_after f before [] = []
bytes_after f before (x ∷ xs) = (f before).bytes_of x ++ bytes_after f (Some x) xs

-- each of these fits
abbrev pub fit_after : {X : Type 0} → (Option X → Field X) → Option X → List X → Bool
fit_after f before [] = true
fit_after f before (x ∷ xs) = (f before).fits x && fit_after f (Some x) xs

-- so many of these are read
unfoldable pub many_after : {X : Type 0} → (Option X → Field X) → Option X → (count : ℕ) → Reader (List X)
many_after f before zero bytes = Ok ([], bytes)
many_after f before (suc n) bytes =
    (f before).read bytes >>= λ x. many_after f (Some x.0) n x.1 >>= λ xs. Ok (x.0 ∷ xs.0, xs.1)

-- a list, each of whose values depends on the one before
abbrev pub chain : {X : Type 0} → (Option X → Field X) → Field (List X)
chain f = record {
  bytes_of = λ xs. u2.bytes_of (length xs) ++ bytes_after f None xs;
  fits = λ xs. u2.fits (length xs) && fit_after f None xs;
  read = λ bytes. u2.read bytes >>= λ n. many_after f None n.0 n.1;
}

-- ---- units

-- there is no fault
abbrev pub is_none : Option DeckFault → Bool
is_none None = true
is_none (Some f) = false

-- what is read of a deck, with what stands after it
abbrev pub and_rest : List ℕ → Result Deck DeckFault → Result (Deck × List ℕ) DeckFault
and_rest rest read = read >>= λ d. Ok (d, rest)

-- a deck of this version in so many bytes, read whole where it stands
unfoldable pub deck_in : Version → (count : ℕ) → Reader Deck
deck_in v count bytes =
    if nat_lt (length bytes) count then Err Truncated
    else and_rest (drop count bytes) (deck_read_in (same_version v) (take count bytes))

-- a deck of this version with the number of its bytes
abbrev pub sized_deck : Version → Field Deck
sized_deck v = record {
  bytes_of = λ d. u4.bytes_of (length (deck_bytes d)) ++ deck_bytes d;
  fits = λ d. u4.fits (length (deck_bytes d))
      && ((deck_in_versions (same_version v)).fits d && is_none (fault_of d));
  read = λ bytes. u4.read bytes >>= λ n. deck_in v n.0 n.1;
}

-- which of the five forms a global has
abbrev pub global_tag : CodedGlobal → ℕ
global_tag (OwnVariable Static _) = 0
global_tag (OwnVariable Controlled _) = 1
global_tag (ExternalVariable _ Static _) = 2
global_tag (ExternalVariable _ Controlled _) = 3
global_tag (EntryPoint _ _) = 4

-- a global that other units know by its name
abbrev pub is_external : CodedGlobal → Bool
is_external g = nat_lt 1 (global_tag g)

-- just one entry for each external global
abbrev pub links_of : Deck → Field (List ℕ)
links_of d = let k = length (filter is_external d.code.globals) in list_of (from_to k k u2) u2

-- a unit of its parts
abbrev pub member_of : (Name × Deck) × List ℕ → Member
member_of p = record { name = p.0.0; deck = p.0.1; links = p.1 }

-- its parts, in the order of their bytes
abbrev pub member_parts : Member → (Name × Deck) × List ℕ
member_parts m = ((m.name, m.deck), m.links)

-- a unit: its member's name, its deck, which is of this version, and what its external globals stand for
unfoldable pub member : Version → Field Member
member v = shaped member_of member_parts (followed (name ⊗ sized_deck v) (λ p. links_of p.1))

-- its bytes, which are the same in a module of any version
abbrev pub member_bytes : Member → List ℕ
member_bytes m = (member written).bytes_of m

-- ---- modules

-- so many values, with no count in front
abbrev pub exactly : {X : Type 0} → (count : ℕ) → Field X → Field (List X)
exactly count f = record {
  bytes_of = flat_map f.bytes_of;
  fits = λ xs. nat_eq (length xs) count && list_all f.fits xs;
  read = many f.read count;
}

-- what a module has after its version: how many units there are, the main unit and externals, and the units
abbrev pub ModuleContents : Type 0
ModuleContents = (ℕ × (ℕ × List External)) × List Member

-- from 1 to 999 units, each of whose decks is of this version
abbrev pub module_contents : Version → Field ModuleContents
module_contents v =
    followed (from_to 1 999 u2 ⊗ u2 ⊗ chain external_after) (λ h. exactly h.0 (member v))

-- a module of its parts
abbrev pub module_of : Version × ModuleContents → Module
module_of p = record { version = p.0; main = p.1.0.1.0; externals = p.1.0.1.1; units = p.1.1 }

-- its parts, in the order of their bytes
abbrev pub module_parts : Module → Version × ModuleContents
module_parts m = (m.version, ((length m.units, (m.main, m.externals)), m.units))

-- PLIM, the version, and the contents
unfoldable pub module_field : Field Module
module_field =
    after_magic (80 ∷ 76 ∷ 73 ∷ 77 ∷ [])
    (shaped module_of module_parts (followed (version_in any_version) module_contents))
