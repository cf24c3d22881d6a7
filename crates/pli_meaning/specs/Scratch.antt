-- A build from scratch: the diagnostics or the module that members give, and what their program means.
use Rattle.std.specs.Prelude.{◌≡◌, ℕ, nat_lt, Bool, Option, Some, Result, Ok, Err, List, [], ◌∷◌, ◌++◌}
use Rattle.std.specs.Prelude.{map, length, decimal, slice_get, option_map, unwrap_or, if◌then◌else◌}
use Rattle.std.specs.List.{flat_map, filter, enumerate_from}
use Rattle.std.specs.Option.{option_and_then, option_to_list}
use Rattle.std.specs.Result.{result_map_both, result_ok}
use Rattle.pli_base.specs.Name.{Name}
use Rattle.pli_base.specs.Codes.{code_label, code_text}
use Rattle.pli_base.specs.Results.{◌>>=◌}
use Rattle.pli_base.specs.Words.{Tokens}
use Rattle.pli_base.specs.declared.code.Code.{Code}
use Rattle.pli_base.specs.declared.code.Code.TheVariants as code
use Rattle.pli_base.specs.declared.token.Fault.{Fault}
use Rattle.pli_base.specs.declared.token.Origin.{Origin}
use Rattle.pli_include.specs.Expanded.{outcome_of}
use Rattle.pli_include.specs.Expansion.{Outcome as Expansion}
use Rattle.pli_members.specs.Members.{Member}
use Rattle.pli_members.specs.declared.kind.MemberKind.{MemberKind}
use Rattle.pli_members.specs.declared.kind.MemberKind.TheVariants.{Source, Include}
use Rattle.pli_grammar.specs.UnitReading.{unit_of}
use Rattle.pli_base.specs.Statements.{ExternalProcedure}
use Rattle.pli_declarations.specs.Units.{resolution_faults, resolved_unit_of}
use Rattle.pli_link.specs.LinkedModule.{link_of}
use Rattle.pli_link.specs.Units.{Compiled, as_unit}
use Rattle.pli_link.specs.declared.linking.LinkFault.{LinkFault}
use Rattle.pli_link.specs.declared.linking.LinkFault.TheVariants as faults
use Rattle.pli_link.specs.declared.units.LinkedName.{LinkedName}
use Rattle.pli_type_unit.specs.Statements.{typed_unit}
use Rattle.pli_type_tree.specs.TypedTree.{TypedUnit}
use Rattle.pli_machine_step.specs.Outcomes.{Outcome}
use Rattle.pli_code.specs.Decks.{Deck}
use Rattle.pli_code.specs.ModuleParts.{Module}
use Rattle.pli_code.specs.Versions.{written}
use Rattle.pli_deck_write.specs.DeckBytes.{deck_written}
use Rattle.pli_gen_emit.specs.Coding.{code_of}
use Rattle.pli_meaning_tree.specs.ProgramMeaning.{whole_run}
use Rattle.pli_meaning.specs.CodeLimits.{is_too_long}

-- a diagnostic, at a line of a member
pub record Diagnostic : Type 0 where
  pub origin : Origin
  pub code : Code

-- a fault at a token stands where the token does; where a unit's expansion has no token, at the unit's line 1
abbrev pub located : Name → List Origin → Fault → Diagnostic
located unit origins fault = record {
  origin = unwrap_or (slice_get origins fault.at) (record { member = unit; line = 1 });
  code = fault.code;
}

-- one diagnostic
abbrev pub one : Code → Origin → List Diagnostic
one code origin = record { origin = origin; code = code } ∷ []

-- all faults of a unit's declarations and uses, if there are any; else the typed unit, or its faults of types
abbrev pub typed_unless : List Fault → ExternalProcedure → Result TypedUnit (List Fault)
typed_unless [] unit = typed_unit (resolved_unit_of unit)
typed_unless (fault ∷ faults) unit = Err (fault ∷ faults)

-- the typed tree of a unit's tokens, or the faults of the first pass that has any: reading, then the
-- declarations, then types
abbrev pub program_of : Tokens → Result TypedUnit (List Fault)
program_of texts =
    result_map_both (λ u. u) (λ f. f ∷ []) (unit_of texts)
    >>= λ unit. typed_unless (resolution_faults unit) unit

-- the tree of an expansion, or its faults where their tokens stand, or the fault of the expansion
abbrev pub parsed_from : Name → Expansion → Result TypedUnit (List Diagnostic)
parsed_from unit (Err stop) = Err (one stop.fault.code stop.fault.origin)
parsed_from unit (Ok p) = result_map_both (λ u. u) (map (located unit p.origins)) (program_of p.texts)

-- the tree of a unit's expansion, or its diagnostics: the one of the expansion, or those of the first pass
-- over its tokens that has any
unfoldable pub parsed_of : List (Name × Member) → Name → Result TypedUnit (List Diagnostic)
parsed_of entries unit = parsed_from unit (outcome_of entries unit)

-- code is too long, or a deck, at the first token
abbrev pub too_long : Fault
too_long = record { code = code.CodeTooLong; at = 0 }

-- the deck that a tree is compiled to
abbrev pub compiled_tree : TypedUnit → Deck
compiled_tree u = record { version = written; name = u.procedure; is_main = u.is_main; code = code_of u }

-- a deck has more bytes than the four bytes of its length in a module can count (own)
abbrev pub is_long : Deck → Bool
is_long d = nat_lt 4294967295 (length (deck_written d))

-- a deck, if it is not too long
abbrev pub short_deck : Deck → Result Deck (List Fault)
short_deck d = if is_long d then Err (too_long ∷ []) else Ok d

-- the deck of a tree, if neither its code nor the deck is too long
abbrev pub coded : TypedUnit → Result Deck (List Fault)
coded u = if is_too_long (code_of u) then Err (too_long ∷ []) else short_deck (compiled_tree u)

-- the tokens of a unit compiled, or the faults of the first pass that has any: what the tokens say is all
-- that counts, and neither what their member is called nor where they come from
abbrev pub compiled_texts : Tokens → Result Deck (List Fault)
compiled_texts texts = program_of texts >>= coded

-- an expansion compiled: its deck gets the name of its member; or its faults, or that of the expansion
abbrev pub compiled_from : Name → Expansion → Result Compiled (List Diagnostic)
compiled_from unit (Err stop) = Err (one stop.fault.code stop.fault.origin)
compiled_from unit (Ok p) =
    result_map_both (as_unit unit) (map (located unit p.origins)) (compiled_texts p.texts)

-- a unit compiled, or its diagnostics in the order of their tokens; a pass with faults is the last
unfoldable pub compiled_of : List (Name × Member) → Name → Result Compiled (List Diagnostic)
compiled_of entries unit = compiled_from unit (outcome_of entries unit)

-- what a SOURCE member gives; an INCLUDE member is no unit
abbrev pub if_source : {A : Type 0} → MemberKind → List A → List A
if_source Source xs = xs
if_source Include xs = []

-- the units: the source members, in the order of their names
abbrev pub sources : List (Name × Member) → List Name
sources entries = flat_map (λ e. if_source e.1.kind (e.0 ∷ [])) entries

-- `unit member:line code text`
abbrev pub diagnostic_line : Name → Diagnostic → List ℕ
diagnostic_line unit d =
    unit ++ 32 ∷ d.origin.member ++ 58 ∷ decimal d.origin.line ++ 32 ∷ code_label d.code ++ 32
    ∷ code_text d.code ++ 10 ∷ []

-- the lines of a unit's diagnostics
abbrev pub diagnostics_in : Name → Result Compiled (List Diagnostic) → List ℕ
diagnostics_in unit (Ok c) = []
diagnostics_in unit (Err diagnostics) = flat_map (diagnostic_line unit) diagnostics

-- the line of a fault of linking without a name: `code text`
abbrev pub code_line : Code → List ℕ
code_line c = code_label c ++ 32 ∷ code_text c ++ 10 ∷ []

-- that of one with a name: `code text name unit`
abbrev pub name_line : Code → LinkedName → List ℕ
name_line c n = code_label c ++ 32 ∷ code_text c ++ 32 ∷ n.name ++ 32 ∷ n.unit ++ 10 ∷ []

-- the line of a fault of linking
abbrev pub link_line : LinkFault → List ℕ
link_line faults.NoMainProcedure = code_line code.NoMainProcedure
link_line (faults.TwoMainProcedures n) = name_line code.TwoMainProcedures n
link_line (faults.Unresolved n) = name_line code.Unresolved n
link_line (faults.DefinedTwice n) = name_line code.DefinedTwice n
link_line (faults.Mismatch n) = name_line code.Mismatch n
link_line faults.ModuleTooLarge = code_line code.ModuleTooLarge

-- what a build gives: the text of its diagnostics, or a module
pub data Built : Type 0 where
  Diagnosed : (text : List ℕ) → Built
  Made : (made : Module) → Built

-- the module, or the lines of the faults of linking
abbrev pub linked : Result Module (List LinkFault) → Built
linked (Ok m) = Made m
linked (Err faults) = Diagnosed (flat_map link_line faults)

-- the diagnostics of all units, if there are any; else the module, or the faults of linking
abbrev pub built : (text : List ℕ) → List Compiled → Built
built [] units = linked (link_of units)
built (b ∷ text) units = Diagnosed (b ∷ text)

-- a build from scratch of the members: the diagnostics of all units, and the units that were compiled
unfoldable pub scratch : List (Name × Member) → Built
scratch entries =
    built (flat_map (λ e. if_source e.1.kind (diagnostics_in e.0 (compiled_of entries e.0))) entries)
    (flat_map (λ e. if_source e.1.kind (option_to_list (result_ok (compiled_of entries e.0)))) entries)

-- the trees of units, each with the name of its member, if all have one
abbrev pub trees_of : List (Name × Member) → List Name → Option (List TypedUnit)
trees_of entries [] = Some []
trees_of entries (unit ∷ units) =
    option_and_then (λ u. option_map (λ us. record u { name = unit } ∷ us) (trees_of entries units))
    (result_ok (parsed_of entries unit))

-- what the members' program does with so many steps: each source member has a tree, just one of which is a
-- main unit, and the whole run of their program, whose numbers have at most 63 binary digits, has this meaning
pub record Means (entries : List (Name × Member)) (steps : ℕ) (outcome : Outcome) : Type 0 where
  pub units : List TypedUnit
  pub main : ℕ
  pub spelled : trees_of entries (sources entries) ≡ Some units
  pub only : map (λ u. u.0) (filter (λ u. u.1.is_main) (enumerate_from 0 units)) ≡ main ∷ []
  pub run : whole_run (record { units = units; main = main; greatest = 63 }) steps ≡ Some outcome
