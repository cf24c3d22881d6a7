-- Each fault of a unit stands at a token of its text, and each diagnostic where that token comes from.
use Rattle.std.proofs.Common.{◌≡◌, ℕ, zero, suc, ◌<◌, Bool, true, false, List, [], ◌∷◌, Result, Ok, Err, map, length, slice_get, if◌then◌else◌, refl, sym, ap, subst, ◌∙◌, arith}
use Rattle.std.specs.List.{Contains}
use Rattle.std.proofs.lemmas.List.Elements.{Contains-append_right}
use Rattle.pli_base.specs.Name.{Name}
use Rattle.pli_base.specs.Statements.{ExternalProcedure}
use Rattle.pli_base.specs.Words.{Tokens}
use Rattle.pli_base.specs.FaultPlaces.{StandsAtToken}
use Rattle.pli_base.specs.declared.token.Fault.{Fault}
use Rattle.pli_base.specs.declared.token.Origin.{Origin}
use Rattle.pli_declarations.specs.Units as declarations
use Rattle.pli_declarations.proofs.UnitsAlike.{faults_alike}
use Rattle.pli_declare.specs.Resolution.{resolution_faults}
use Rattle.pli_gen_emit.specs.Coding.{code_of}
use Rattle.pli_meaning.specs.CodeLimits.{is_too_long}
use Rattle.pli_include.specs.Expanded.{look_in}
use Rattle.pli_include.specs.Expansion.{token_limit}
use Rattle.pli_include.proofs.StepsKeep.{texts_have_origins}
use Rattle.pli_meaning.specs.Scratch.{Diagnostic, located, typed_unless, program_of, too_long, compiled_tree, is_long, short_deck, compiled_texts, compiled_from, compiled_of}
use Rattle.pli_meaning.specs.MemberParts.{program_from, coded_from, deck_located, origin_of}
use Rattle.pli_grammar.proofs.UnitsAlike.{unit_same}
use Rattle.pli_parse.proofs.StatementFaultPlaces.{unit_fault_stands}
use Rattle.pli_parse_statement.specs.StatementReading.{unit_of}
use Rattle.pli_declare.specs.ResolvedUnits.{resolved_unit_of}
use Rattle.pli_type_rules.specs.NamedUnits.{named_unit, checked_unit}
use Rattle.pli_type_tree.specs.TypedTree.{TypedUnit}
use Rattle.pli_meaning.proofs.DeclaredUnits.{declared_units}
use Rattle.pli_code.specs.CodeTables.{Deck}
use Rattle.pli_meaning.specs.FaultOrder.{fault_tokens}
use Rattle.pli_meaning.specs.TypeFaultPlaces.{AllStand}
use Rattle.pli_meaning.specs.DiagnosticPlaces.{FaultsHavePlaces, HasPlace, HavePlaces, DiagnosticsHavePlaces}
use Rattle.pli_meaning.proofs.BelowLemmas.{Below, rising_below}
use Rattle.pli_meaning.proofs.DeclarationFaultsRise.{declaration_faults_rise}
use Rattle.pli_meaning.proofs.TypeFaultsStand.{at_token, type_faults_stand_at_tokens}

-- the faults that a result has
abbrev faults_in : {A B : Type 0} → Result A (List B) → List B
faults_in (Ok x) = []
faults_in (Err fs) = fs

below_stand : (ts : Tokens) (fs : List Fault) → Below (length ts) (fault_tokens fs) → AllStand ts fs
below_stand ts [] h = tt
below_stand ts (f ∷ fs) h = (at_token ts f h.0, below_stand ts fs h.1)

types_stand : (ts : Tokens) (u : ExternalProcedure) (fs : List Fault) → unit_of ts ≡ Ok u → checked_unit (resolved_unit_of u) ≡ Err fs → AllStand ts fs
unfolding checked_unit
types_stand ts u fs read e = type_faults_stand_at_tokens ts (named_unit 63 (resolved_unit_of u)) fs read e

unless_stand : (ts : Tokens) (u : ExternalProcedure) (gs fs : List Fault) → unit_of ts ≡ Ok u → resolution_faults u ≡ gs → AllStand ts gs → typed_unless gs u ≡ Err fs → AllStand ts fs
unless_stand ts u [] fs read none h e = types_stand ts u fs read (sym (declared_units u none) ∙ e)
unless_stand ts u (g ∷ gs) fs read some h e = subst (AllStand ts) (ap faults_in e) h

read_stand : (ts : Tokens) (r : Result ExternalProcedure Fault) (fs : List Fault) → unit_of ts ≡ r → program_from r ≡ Err fs → AllStand ts fs
read_stand ts (Ok u) fs read e =
    unless_stand ts u (declarations.resolution_faults u) fs read (sym (faults_alike u))
    (subst (AllStand ts) (sym (faults_alike u))
    (below_stand ts (resolution_faults u) (rising_below (fault_tokens (resolution_faults u)) 0 (length ts) (declaration_faults_rise ts u read)))) e
read_stand ts (Err f) fs read e = subst (AllStand ts) (ap faults_in e) (unit_fault_stands ts f read, tt)

program_stands : (ts : Tokens) (fs : List Fault) → program_of ts ≡ Err fs → AllStand ts fs
program_stands ts fs e = read_stand ts (unit_of ts) fs refl (sym (ap program_from (unit_same ts)) ∙ e)

first_stands : (ts : Tokens) → StandsAtToken ts too_long
first_stands [] = refl
first_stands (t ∷ ts) = omega arith

deck_stands : (ts : Tokens) (b : Bool) (d : Deck) (fs : List Fault) → (if b then Err (too_long ∷ []) else Ok d) ≡ Err fs → AllStand ts fs
deck_stands ts true d fs e = subst (AllStand ts) (ap faults_in e) (first_stands ts, tt)
deck_stands ts false d fs e = absurd (cc)

long_stands : (ts : Tokens) (b : Bool) (d : Deck) (fs : List Fault) → (if b then Err (too_long ∷ []) else short_deck d) ≡ Err fs → AllStand ts fs
long_stands ts true d fs e = subst (AllStand ts) (ap faults_in e) (first_stands ts, tt)
long_stands ts false d fs e = deck_stands ts (is_long d) d fs e

coded_stand : (ts : Tokens) (r : Result TypedUnit (List Fault)) (fs : List Fault) → ((gs : List Fault) → r ≡ Err gs → AllStand ts gs) → coded_from r ≡ Err fs → AllStand ts fs
coded_stand ts (Ok u) fs h e = long_stands ts (is_too_long (code_of u)) (compiled_tree u) fs e
coded_stand ts (Err gs) fs h e = subst (AllStand ts) (ap faults_in e) (h gs refl)

pub faults_have_places : FaultsHavePlaces
faults_have_places ts fs e = coded_stand ts (program_of ts) fs (program_stands ts) e

-- diagnostics

origin_got : (unit : Name) (os : List Origin) (i : ℕ) → i < length os → Contains os (origin_of unit (slice_get os i))
origin_got unit [] i lt = absurd (omega arith)
origin_got unit (o ∷ os) zero lt = (0, omega arith, refl)
origin_got unit (o ∷ os) (suc i) lt = Contains-append_right (o ∷ []) os (origin_of unit (slice_get os i)) (origin_got unit os i (omega arith))

place_of : (unit : Name) (ts : Tokens) (os : List Origin) (f : Fault) → length os ≡ length ts → StandsAtToken ts f → HasPlace unit os (located unit os f)
place_of unit [] [] f same h = refl
place_of unit [] (o ∷ os) f same h = absurd (omega (arith, same))
place_of unit (t ∷ ts) [] f same h = absurd (omega (arith, same))
place_of unit (t ∷ ts) (o ∷ os) f same h = origin_got unit (o ∷ os) f.at (omega (arith, same, h))

places_of : (unit : Name) (ts : Tokens) (os : List Origin) (fs : List Fault) → length os ≡ length ts → AllStand ts fs → HavePlaces unit os (map (located unit os) fs)
places_of unit ts os [] same h = tt
places_of unit ts os (f ∷ fs) same h = (place_of unit ts os f same h.0, places_of unit ts os fs same h.1)

located_places : (unit : Name) (ts : Tokens) (os : List Origin) (r : Result Deck (List Fault)) (ds : List Diagnostic) → length os ≡ length ts
    → ((fs : List Fault) → r ≡ Err fs → AllStand ts fs) → deck_located unit os r ≡ Err ds → HavePlaces unit os ds
located_places unit ts os (Ok c) ds same h e = absurd (cc)
located_places unit ts os (Err fs) ds same h e = subst (HavePlaces unit os) (ap faults_in e) (places_of unit ts os fs same (h fs refl))

pub diagnostics_have_places : DiagnosticsHavePlaces
unfolding compiled_of
diagnostics_have_places entries unit p ds expanded e =
    located_places unit p.texts p.origins (compiled_texts p.texts) ds (texts_have_origins token_limit (look_in entries) unit p expanded).0
    (faults_have_places p.texts) (sym (ap (compiled_from unit) expanded) ∙ e)
