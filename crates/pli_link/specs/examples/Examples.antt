-- Worked examples of linking.
use Rattle.std.specs.Prelude.{◌≡◌, ℕ, Bool, true, false, None, Ok, Err, List, [], ◌∷◌, map, codes, pos}
use Rattle.std.specs.Prelude.{replicate, Result}
use Rattle.pli_base.specs.Name.{Name}
use Rattle.pli_map.specs.Description.{Description, Array, Bit, Character, FixedBinary}
use Rattle.pli_map.specs.ParameterTypes.{ParameterType, Stated, AnyString, AnyArray}
use Rattle.pli_map.specs.declared.parameter.StringForm.TheVariants as forms
use Rattle.pli_link.specs.Link.{link_of}
use Rattle.pli_link.specs.Links.{module_of}
use Rattle.pli_link.specs.Units.{Compiled, as_unit}
use Rattle.pli_link.specs.declared.linking.LinkFault.{LinkFault}
use Rattle.pli_link.specs.declared.linking.LinkFault.TheVariants.{NoMainProcedure, TwoMainProcedures}
use Rattle.pli_link.specs.declared.linking.LinkFault.TheVariants.{Unresolved, DefinedTwice, Mismatch}
use Rattle.pli_link.specs.declared.linking.LinkFault.TheVariants.{ModuleTooLarge}
use Rattle.pli_link.specs.declared.units.LinkedName.{LinkedName}
use Rattle.pli_code.specs.CodeTables.{Code, CodedGlobal, CodedSignature, OwnVariable, ExternalVariable}
use Rattle.pli_code.specs.CodeTables.{EntryPoint}
use Rattle.pli_program.specs.declared.kind.VariableKind.{VariableKind}
use Rattle.pli_program.specs.declared.kind.VariableKind.TheVariants.{Static, Controlled}
use Rattle.pli_code.specs.Modules.{External, Member, Module}
use Rattle.pli_code.specs.Versions.{written}
use Rattle.pli_program.specs.declared.instruction.Instruction.TheVariants as op

-- what a procedure without parameters takes and gives
abbrev pub nothing : CodedSignature
nothing = record { parameters = []; result = None }

-- the code of a procedure that does nothing, as far as it matters here, with globals of these types
abbrev pub typed_code : CodedSignature → List ParameterType → List CodedGlobal → Code
typed_code signature types globals = record {
  signature = signature;
  descriptions = types;
  templates = record { description = 0; initial = [] } ∷ record { description = 1; initial = [] } ∷ [];
  values = [];
  globals = globals;
  blocks = [];
  instructions = op.Return 0 ∷ [];
}

-- such code, with globals of these descriptions
abbrev pub code_with : CodedSignature → List Description → List CodedGlobal → Code
code_with signature descriptions globals = typed_code signature (map Stated descriptions) globals

-- the code of a procedure without parameters, in a unit without globals
abbrev pub plain : Code
plain = code_with nothing [] []

-- a compiled unit
abbrev pub unit : Name → (procedure : Name) → Bool → Code → Compiled
unit n procedure is_main code =
    as_unit n (record { version = written; name = procedure; is_main = is_main; code = code })

-- a name with its unit
abbrev pub named : Name → (unit : Name) → LinkedName
named n u = record { name = n; unit = u }

-- a unit of a module
abbrev pub linked : Compiled → (links : List ℕ) → Member
linked c links = record { name = c.unit; deck = c.deck; links = links }

-- a STATIC external variable with its first declaration
abbrev pub external : Name → (unit global : ℕ) → External
external name unit global = record { name = name; kind = 2; unit = unit; global = global }

-- a module
abbrev pub linked_to : (main : ℕ) → List External → List Member → Module
linked_to main externals units =
    record { version = written; main = main; externals = externals; units = units }

-- one text in two members
abbrev pub TwoUnits : Type 0
TwoUnits =
    link_of (unit (codes "M") (codes "M") true plain ∷ unit (codes "Q") (codes "M") true plain ∷ [])
    ≡ Err (TwoMainProcedures (named (codes "M") (codes "Q"))
    ∷ DefinedTwice (named (codes "M") (codes "Q")) ∷ [])

-- the main procedure stands in the second of three units
abbrev pub OneOfThree : Type 0
OneOfThree =
    let a = unit (codes "A") (codes "F") false plain in
    let m = unit (codes "M") (codes "M") true plain in
    let q = unit (codes "Q") (codes "G") false plain in
    link_of (a ∷ m ∷ q ∷ []) ≡ Ok (linked_to 1 [] (linked a [] ∷ linked m [] ∷ linked q [] ∷ []))

-- no main procedure, and one name twice
abbrev pub NoneOfTwo : Type 0
NoneOfTwo =
    link_of (unit (codes "A") (codes "F") false plain ∷ unit (codes "Q") (codes "F") false plain ∷ [])
    ≡ Err (NoMainProcedure ∷ DefinedTwice (named (codes "F") (codes "Q")) ∷ [])

-- an entry of a procedure without parameters
abbrev pub entry : Name → CodedGlobal
entry name = EntryPoint name nothing

-- M calls Q, and shares a variable Z of four characters
abbrev pub calling : Code
calling =
    code_with nothing (Character 4 ∷ []) (ExternalVariable (codes "Z") Static 0 ∷ entry (codes "Q") ∷ [])

-- there is no Q
abbrev pub NoneCalled : Type 0
NoneCalled =
    link_of (unit (codes "M") (codes "M") true calling ∷ [])
    ≡ Err (Unresolved (named (codes "Q") (codes "M")) ∷ [])

-- Q has a variable Z of this description
abbrev pub sharing : Description → Code
sharing d = code_with nothing (d ∷ []) (ExternalVariable (codes "Z") Static 0 ∷ [])

-- where it is a number, it is unlike that of M
abbrev pub OtherShared : Type 0
OtherShared =
    link_of (unit (codes "M") (codes "M") true calling
    ∷ unit (codes "Q") (codes "Q") false (sharing (FixedBinary 31)) ∷ [])
    ≡ Err (Mismatch (named (codes "Z") (codes "Q")) ∷ [])

-- where it is of four characters too, both are linked: Z is the external variable 0, and Q the unit 1
abbrev pub SameShared : Type 0
SameShared =
    let m = unit (codes "M") (codes "M") true calling in
    let q = unit (codes "Q") (codes "Q") false (sharing (Character 4)) in
    link_of (m ∷ q ∷ [])
    ≡ Ok (linked_to 0 (external (codes "Z") 0 0 ∷ []) (linked m (0 ∷ 1 ∷ []) ∷ linked q (0 ∷ []) ∷ []))

-- the code of a unit that declares these external variables, alike
abbrev pub declaring : List Name → Code
declaring names = code_with nothing (Bit 1 ∷ []) (map (λ n. ExternalVariable n Static 0) names)

-- Z and A of one unit, A and B of another: in the order of the names, each with its first declaration
abbrev pub ByName : Type 0
ByName =
    let m = unit (codes "M") (codes "M") true (declaring (codes "Z" ∷ codes "A" ∷ [])) in
    let q = unit (codes "Q") (codes "Q") false (declaring (codes "A" ∷ codes "B" ∷ [])) in
    let externals = external (codes "A") 0 1 ∷ external (codes "B") 1 1 ∷ external (codes "Z") 0 0 ∷ [] in
    module_of (m ∷ q ∷ []) 0 ≡ linked_to 0 externals (linked m (2 ∷ 0 ∷ []) ∷ linked q (0 ∷ 1 ∷ []) ∷ [])

-- a unit with one external variable Z, a bit of this kind
abbrev pub with_kind : (unit : Name) → Bool → VariableKind → Compiled
with_kind name is_main kind =
    unit name name is_main (code_with nothing (Bit 1 ∷ []) (ExternalVariable (codes "Z") kind 0 ∷ []))

-- a CONTROLLED variable that two units share is the external variable 0
abbrev pub ControlledShared : Type 0
ControlledShared =
    let m = with_kind (codes "M") true Controlled in
    let q = with_kind (codes "Q") false Controlled in
    link_of (m ∷ q ∷ [])
    ≡ Ok (linked_to 0 (record { name = codes "Z"; kind = 3; unit = 0; global = 0 } ∷ [])
    (linked m (0 ∷ []) ∷ linked q (0 ∷ []) ∷ []))

-- where it is STATIC in the first unit, the CONTROLLED one of the second is unlike it
abbrev pub OtherKind : Type 0
OtherKind =
    link_of (with_kind (codes "M") true Static ∷ with_kind (codes "Q") false Controlled ∷ [])
    ≡ Err (Mismatch (named (codes "Z") (codes "Q")) ∷ [])

-- a procedure that takes a bit
abbrev pub taking : Code
taking = code_with (record { parameters = 0 ∷ []; result = None }) (Bit 1 ∷ []) []

-- such a Q is unlike the entry in M, which says nothing of it
abbrev pub OtherTaken : Type 0
OtherTaken =
    link_of (unit (codes "M") (codes "M") true calling ∷ unit (codes "Q") (codes "Q") false taking ∷ [])
    ≡ Err (Mismatch (named (codes "Q") (codes "M")) ∷ [])

-- what takes the first type, and gives nothing
abbrev pub of_first : CodedSignature
of_first = record { parameters = 0 ∷ []; result = None }

-- M has an entry Q that takes this, and a procedure Q takes that
abbrev pub entry_and_procedure : (entry procedure : ParameterType) → List Compiled
entry_and_procedure t u =
    unit (codes "M") (codes "M") true (typed_code nothing (t ∷ []) (EntryPoint (codes "Q") of_first ∷ []))
    ∷ unit (codes "Q") (codes "Q") false (typed_code of_first (u ∷ []) [])
    ∷ []

-- a string of any length is no string of four characters, and no array of any bounds is one of other
-- dimensions; the same `*` are one type
abbrev pub StarsAreStars : Type 0
StarsAreStars =
    let any = AnyString forms.Character in
    let two = AnyArray 2 any in
    let unlike : Result Module (List LinkFault) = Err (Mismatch (named (codes "Q") (codes "M")) ∷ []) in
    (link_of (entry_and_procedure (Stated (Character 4)) any) ≡ unlike)
    × (link_of (entry_and_procedure any (Stated (Character 4))) ≡ unlike)
    × (link_of (entry_and_procedure two (AnyArray 1 any)) ≡ unlike)
    × (link_of (entry_and_procedure two two) ≡ Ok (module_of (entry_and_procedure two two) 0))

-- X is an entry in M, and variables of two descriptions in Q and R: the entry is unresolved, and the second
-- variable unlike the first
abbrev pub EntryAndVariables : Type 0
EntryAndVariables =
    link_of (unit (codes "M") (codes "M") true (code_with nothing [] (entry (codes "X") ∷ []))
    ∷ unit (codes "Q") (codes "Q") false
    (code_with nothing (Bit 1 ∷ []) (ExternalVariable (codes "X") Static 0 ∷ []))
    ∷ unit (codes "R") (codes "R") false
    (code_with nothing (Bit 2 ∷ []) (ExternalVariable (codes "X") Static 0 ∷ [])) ∷ [])
    ≡ Err (Unresolved (named (codes "X") (codes "M")) ∷ Mismatch (named (codes "X") (codes "R")) ∷ [])

-- a unit declares Z in three ways, of which the second and the third are unlike the first, and a variable of
-- its procedure's name twice: each name is told once
abbrev pub ToldOnce : Type 0
ToldOnce =
    link_of (unit (codes "M") (codes "M") true
    (code_with nothing (Bit 1 ∷ FixedBinary 15 ∷ [])
    (ExternalVariable (codes "Z") Static 0 ∷ ExternalVariable (codes "Z") Static 1
    ∷ ExternalVariable (codes "Z") Static 1 ∷ ExternalVariable (codes "M") Static 0
    ∷ ExternalVariable (codes "M") Static 0 ∷ [])) ∷ [])
    ≡ Err (Mismatch (named (codes "M") (codes "M")) ∷ Mismatch (named (codes "Z") (codes "M")) ∷ [])

-- variables of 1,000,000 bytes each
abbrev pub strings : Description
strings = Array (record { low = pos 1; high = pos 100 } ∷ []) (Character 10000)

-- the unit M with such variables
abbrev pub with_strings : List CodedGlobal → Compiled
with_strings globals = unit (codes "M") (codes "M") true (code_with nothing (strings ∷ []) globals)

-- 17 of a unit's own have more bytes than may live
abbrev pub TooLarge : Type 0
TooLarge = link_of (with_strings (replicate 17 (OwnVariable Static 0)) ∷ []) ≡ Err (ModuleTooLarge ∷ [])

-- 16 of them
abbrev pub many : List CodedGlobal
many = replicate 16 (OwnVariable Static 0)

-- 17 that are CONTROLLED
abbrev pub stacked : List CodedGlobal
stacked = replicate 17 (OwnVariable Controlled 0)

-- they have not, and CONTROLLED ones do not count
abbrev pub NotTooLarge : Type 0
NotTooLarge =
    (link_of (with_strings many ∷ []) ≡ Ok (linked_to 0 [] (linked (with_strings many) [] ∷ [])))
    × (link_of (with_strings stacked ∷ []) ≡ Ok (linked_to 0 [] (linked (with_strings stacked) [] ∷ [])))

-- one variable declared 17 times
abbrev pub shared : List CodedGlobal
shared = replicate 17 (ExternalVariable (codes "Z") Static 0)

-- a variable that several units share, or one unit declares several times, counts once
abbrev pub SharedOnce : Type 0
SharedOnce =
    link_of (with_strings shared ∷ [])
    ≡ Ok (linked_to 0 (external (codes "Z") 0 0 ∷ []) (linked (with_strings shared) (replicate 17 0) ∷ []))
