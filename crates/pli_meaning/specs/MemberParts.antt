-- What members give to a build, part by part, as proofs go through them.
use Rattle.std.specs.Prelude.{ℕ, Option, Result, List, [], ◌∷◌, map, option_map, unwrap_or}
use Rattle.std.specs.List.{flat_map}
use Rattle.std.specs.Option.{option_and_then, option_to_list}
use Rattle.std.specs.Result.{result_map_both, result_ok}
use Rattle.pli_base.specs.Name.{Name}
use Rattle.pli_base.specs.Results.{◌>>=◌}
use Rattle.pli_base.specs.Statements.{ExternalProcedure}
use Rattle.pli_base.specs.declared.token.Fault.{Fault}
use Rattle.pli_base.specs.declared.token.Origin.{Origin}
use Rattle.pli_code.specs.Decks.{Deck}
use Rattle.pli_declarations.specs.Units.{resolution_faults}
use Rattle.pli_members.specs.Members.{Member}
use Rattle.pli_members.specs.declared.kind.MemberKind.{MemberKind}
use Rattle.pli_link.specs.Units.{Compiled, as_unit}
use Rattle.pli_type_tree.specs.TypedTree.{TypedUnit}
use Rattle.pli_meaning.specs.Programs.{of_member}
use Rattle.pli_meaning.specs.Scratch.{Diagnostic, located, typed_unless, coded, compiled_of, diagnostics_in}
use Rattle.pli_meaning.specs.Scratch.{if_source}

-- the typed tree of a unit that was read
abbrev pub program_from : Result ExternalProcedure Fault → Result TypedUnit (List Fault)
program_from r =
    result_map_both (λ u. u) (λ f. f ∷ []) r >>= λ unit. typed_unless (resolution_faults unit) unit

-- the deck of what was typed
abbrev pub coded_from : Result TypedUnit (List Fault) → Result Deck (List Fault)
coded_from r = r >>= coded

-- what a pass gives, with its faults where their tokens stand
abbrev pub all_located : {A : Type 0} → Name → List Origin → Result A (List Fault)
    → Result A (List Diagnostic)
all_located unit origins r = result_map_both (λ x. x) (map (located unit origins)) r

-- a deck with the name of its member, or its faults where their tokens stand
abbrev pub deck_located : (unit : Name) → List Origin → Result Deck (List Fault)
    → Result Compiled (List Diagnostic)
deck_located unit origins r = result_map_both (as_unit unit) (map (located unit origins)) r

-- the place of a token; where a unit's expansion has no token, the unit's line 1
abbrev pub origin_of : Name → Option Origin → Origin
origin_of unit o = unwrap_or o (record { member = unit; line = 1 })

-- the unit that was compiled, if it was
abbrev pub units_of : Result Compiled (List Diagnostic) → List Compiled
units_of r = option_to_list (result_ok r)

-- a name, where its member is a SOURCE
abbrev pub source_in : Name → MemberKind → List Name
source_in name kind = if_source kind (name ∷ [])

-- the diagnostics of a member among these
abbrev pub text_in : List (Name × Member) → Name → MemberKind → List ℕ
text_in entries name kind = if_source kind (diagnostics_in name (compiled_of entries name))

-- the unit that a member gives, if it has no diagnostics
abbrev pub units_in : List (Name × Member) → Name → MemberKind → List Compiled
units_in entries name kind = if_source kind (units_of (compiled_of entries name))

-- the lines of the diagnostics of all members
abbrev pub all_text : (entries some : List (Name × Member)) → List ℕ
all_text entries some = flat_map (λ e. text_in entries e.0 e.1.kind) some

-- the units that were compiled, of all members
abbrev pub all_units : (entries some : List (Name × Member)) → List Compiled
all_units entries some = flat_map (λ e. units_in entries e.0 e.1.kind) some

-- the tree of one unit more, with the name of its member, if there is one
abbrev pub with_tree : (unit : Name) → Result TypedUnit (List Diagnostic) → Option (List TypedUnit)
    → Option (List TypedUnit)
with_tree unit r us = option_and_then (λ u. option_map (λ us. of_member unit u ∷ us) us) (result_ok r)
