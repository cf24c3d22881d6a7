-- What declarations and names mean is what the passes find.
use Rattle.std.specs.Prelude.{◌≡◌, refl, ℕ, ◌+◌, nat_eq, Bool, true, false, not, Option, Some, None, option_map, option_and_then, List, [], ◌∷◌, ◌++◌, map, length, get_or, slice_get, if◌then◌else◌, cond, is_none, ◌&&◌}
use Rattle.std.specs.List.{flat_map, filter_map, cons_option, fold, zip, enumerate_from, position_or_len, find}
use Rattle.std.specs.Option.{unwrap_or}
use Rattle.std.proofs.Common.{sym, ap, ◌∙◌}
use Rattle.std.proofs.lemmas.List.Folds.{flat_map-map}
use Rattle.pli_base.specs.Name.{Name}
use Rattle.pli_base.specs.Words.{same_name}
use Rattle.pli_base.specs.Statements.{ExternalProcedure}
use Rattle.pli_base.specs.declared.syntax.Identifier.{Identifier}
use Rattle.pli_declare_outline.specs.Outlines.{Mark, Declared, Labelled, Entered, Used, Jumped, PlacedMark}
use Rattle.pli_declare_outline.specs.Outlines as outlines
use Rattle.pli_declare.specs.Completed.{OfVariable, OfEntry, OfBuiltIn}
use Rattle.pli_declare.specs.Tables.{inner_marks}
use Rattle.pli_declare.specs.Declarations.{Declaration, DeclaredKind, OfItem, OfLabel, OfProcedure}
use Rattle.pli_declare.specs.Resolution as faults
use Rattle.pli_declare.specs.Resolved as declare
use Rattle.pli_declare.specs.Resolved.{BlockDeclarations}
use Rattle.pli_declare.specs.declared.block.Use.{Use}
use Rattle.pli_declare.specs.declared.block.Target.{Target}
use Rattle.pli_declare.specs.declared.block.Target.TheVariants.{Name as AName, Function as AFunction}
use Rattle.pli_map.specs.Description as described
use Rattle.pli_map.specs.ParameterTypes.{ParameterType}
use Rattle.pli_declare.specs.BuiltIns as built_ins
use Rattle.pli_declare.specs.ResolvedUnits as old
use Rattle.pli_declare_outline.specs.StatementPlaces as places
use Rattle.pli_declare.specs.Symbols as symbols
use Rattle.pli_declare.specs.Symbols.{SymbolKind, Variable, OpenParameter, Way, ways_of, class_of}
use Rattle.pli_declare.specs.declared.block_numbers.BlockRegion.{BlockRegion}
use Rattle.pli_declare.specs.declared.built_in.BuiltInFunction.{BuiltInFunction}
use Rattle.pli_declare_outline.specs.declared.statement_places.StatementPlace.{StatementPlace}
use Rattle.pli_declare.specs.declared.symbol.NameMeaning.TheVariants as meanings
use Rattle.pli_declare.specs.declared.symbol.SymbolKey.{SymbolKey}
use Rattle.pli_declarations.specs.Blocks.{block_regions, block_numbers}
use Rattle.pli_declarations.specs.Names.{blocks_of, outermost_of, use_at, areas_at, locators_at, all_uses}
use Rattle.pli_declarations.specs.Tables.{last_where}
use Rattle.pli_declarations.specs.Walk.{PlacedStatement, statements_of, outline_of}
use Rattle.pli_declarations.specs.Units.{resolution_faults, last_under, target_at, function_named, block_number, key_in, key_of, declared_by, area_of, locator_of, label_statement, symbol_kind, symbol_of, region_entered, procedures_in, procedures_of, number_declared, block_of, function_at, kind_meaning, target_meaning, meaning_of, block_of_statement, resolved_unit_of}
use Rattle.pli_declarations.proofs.BlocksAlike as blocks
use Rattle.pli_declarations.proofs.FaultsAlike.{outline_alike}
use Rattle.pli_declarations.proofs.NamesAlike as names
use Rattle.pli_declarations.proofs.NamesAlike.{singles}
use Rattle.pli_declarations.proofs.WalkAlike.{place_of, outlines_alike, starts_alike, places_alike}

pub faults_alike : (u : ExternalProcedure) → resolution_faults u ≡ faults.resolution_faults u
unfolding resolution_faults faults.resolution_faults
faults_alike u = λ i. outline_alike (outlines_alike u i) (outlines_alike u i).marks i

-- ---- what is under a number

pick : {A B : Type 0} (f : A → B) (b : Bool) (x : A) (found : Option A) → (if b then Some (f x) else option_map f found) ≡ option_map f (if b then Some x else found)
pick f true x found = refl
pick f false x found = refl

under : {A : Type 0} (n : ℕ) (found : Option (ℕ × A)) (pairs : List (ℕ × A))
    → symbols.found_after (option_map (λ p. p.1) found) pairs n ≡ option_map (λ p. p.1) (fold (λ f p. if nat_eq p.0 n then Some p else f) found pairs)
under n found [] = refl
under n found (p ∷ ps) = ap (λ f. symbols.found_after f ps n) (pick (λ q. q.1) (nat_eq p.0 n) p found) ∙ under n (if nat_eq p.0 n then Some p else found) ps

found_alike : {A : Type 0} (pairs : List (ℕ × A)) (n : ℕ) → last_under pairs n ≡ symbols.found_in pairs n
found_alike pairs n = sym (under n None pairs)

meant : (at : ℕ) (found : Option Use) (uses : List Use)
    → declare.meaning_after (option_map (λ x. x.target) found) uses at ≡ option_map (λ x. x.target) (fold (λ f x. if nat_eq x.at at then Some x else f) found uses)
meant at found [] = refl
meant at found (x ∷ xs) = ap (λ f. declare.meaning_after f xs at) (pick (λ y. y.target) (nat_eq x.at at) x found) ∙ meant at (if nat_eq x.at at then Some x else found) xs

targets_alike : (uses : List Use) (at : ℕ) → target_at uses at ≡ declare.meaning_at uses at
targets_alike uses at = sym (meant at None uses)

standing : (n : ℕ) (found : Option PlacedStatement) (ps : List PlacedStatement)
    → symbols.found_after (option_map (λ p. p.region) found) (map (λ p. (p.number, p.region)) (map place_of ps)) n
    ≡ option_map (λ p. p.region) (fold (λ f p. if nat_eq p.number n then Some p else f) found ps)
standing n found [] = refl
standing n found (p ∷ ps) =
    ap (λ f. symbols.found_after f (map (λ (q : StatementPlace). (q.number, q.region)) (map place_of ps)) n) (pick (λ q. q.region) (nat_eq p.number n) p found)
    ∙ standing n (if nat_eq p.number n then Some p else found) ps

mapped_twice : {A B C : Type 0} (g : B → C) (f : A → B) (o : Option A) → option_map (λ x. g (f x)) o ≡ option_map g (option_map f o)
mapped_twice g f None = refl
mapped_twice g f (Some x) = refl

-- ---- built-in functions

among : (name : Name) (fs : List (Name × BuiltInFunction)) → option_map (λ f. f.1) (find (λ f. same_name name f.0) fs) ≡ built_ins.function_among fs name
among name [] = refl
among name (f ∷ fs) = by (same_name name f.0) (among name fs)
  where
    by : (b : Bool) {y : Option BuiltInFunction} → option_map (λ g. g.1) (find (λ g. same_name name g.0) fs) ≡ y → option_map (λ g. g.1) (cond b (Some f) (find (λ g. same_name name g.0) fs)) ≡ (if b then Some f.1 else y)
    by true e = refl
    by false e = e

named_alike : (name : Name) → function_named name ≡ built_ins.function_named name
unfolding built_ins.function_named
named_alike name = among name built_ins.built_in_functions

functions_alike : (ps : List PlacedMark) → filter_map function_at ps ≡ old.functions_in ps
functions_alike ps = sym (singles (λ p. old.functions_at p.mark) function_at each ps)
  where
    one : (i : Identifier) (o : Option BuiltInFunction) → old.function_at i o ≡ cons_option (option_map (λ f. (i.at, f)) o) []
    one i None = refl
    one i (Some f) = refl

    by : (region : ℕ) (m : Mark) → old.functions_at m ≡ cons_option (function_at (record { region = region; mark = m })) []
    by region (Declared items) = refl
    by region (Labelled label) = refl
    by region (Entered heading inner) = refl
    by region (Used []) = refl
    by region (Used (i ∷ [])) = ap (old.function_at i) (sym (named_alike i.name)) ∙ one i (function_named i.name)
    by region (Used (i ∷ j ∷ js)) = refl
    by region (Jumped label) = refl

    each : (p : PlacedMark) → old.functions_at p.mark ≡ cons_option (function_at p) []
    each p = by p.region p.mark

-- ---- what a unit declares

blocks_found : (u : ExternalProcedure) → blocks_of (outline_of u) ≡ (declare.resolved_of u).blocks
unfolding declare.resolved_of
blocks_found u = λ i. names.blocks_alike (outlines_alike u i) i

outermost_found : (u : ExternalProcedure) → outermost_of (outline_of u) ≡ (declare.resolved_of u).outermost
unfolding declare.resolved_of
outermost_found u = λ i. names.outermost_alike (outlines_alike u i) i

uses_found : (u : ExternalProcedure) → filter_map (λ p. use_at (outline_of u) p.region p.mark) (inner_marks (outline_of u).marks) ≡ (declare.resolved_of u).uses
unfolding declare.resolved_of
uses_found u = λ i. names.uses_alike (outlines_alike u i) i

areas_found : (u : ExternalProcedure) → all_uses areas_at (outline_of u) ≡ (declare.resolved_of u).areas
unfolding declare.resolved_of
areas_found u = λ i. names.areas_alike (outlines_alike u i) i

locators_found : (u : ExternalProcedure) → all_uses locators_at (outline_of u) ≡ (declare.resolved_of u).locators
unfolding declare.resolved_of
locators_found u = λ i. names.locators_alike (outlines_alike u i) i

numbers_alike : (u : ExternalProcedure) → block_numbers (outline_of u).regions ≡ old.numbers_of u
unfolding declare.resolved_of
numbers_alike u = λ i. blocks.numbers_alike (outlines_alike u i).regions i

regions_alike : (u : ExternalProcedure) → block_regions (outline_of u).regions ≡ old.block_regions_of u
unfolding declare.resolved_of
regions_alike u = λ i. blocks.blocks_alike (outlines_alike u i).regions i

marks_alike : (u : ExternalProcedure) → inner_marks (outline_of u).marks ≡ inner_marks (outlines.outline_of u).marks
marks_alike u = λ i. inner_marks (outlines_alike u i).marks

key_alike : (u : ExternalProcedure) (region : Option ℕ) (number : ℕ)
    → key_in u region number ≡ record { block = symbols.block_under (old.numbers_of u) (old.outermost_number u) region; number = number }
key_alike u None number = λ i. record { block = length (regions_alike u i); number = number }
key_alike u (Some region) number = λ i. record { block = get_or (numbers_alike u i) region 0; number = number }

meant_key : (u : ExternalProcedure) (t : Option Target) → key_of u t ≡ symbols.key_of (old.numbers_of u) (old.outermost_number u) t
meant_key u None = refl
meant_key u (Some AFunction) = refl
meant_key u (Some (AName region number)) = ap Some (key_alike u region number)

area_alike : (u : ExternalProcedure) (at : ℕ) → area_of u at ≡ symbols.area_of (old.facts_of u) at
area_alike u at = λ i. meant_key u (targets_alike (areas_found u i) at i) i

locator_alike : (u : ExternalProcedure) (at : ℕ) → locator_of u at ≡ symbols.locator_of (old.facts_of u) at
locator_alike u at = λ i. meant_key u (targets_alike (locators_found u i) at i) i

labels_alike : (u : ExternalProcedure) → filter_map (λ p. option_map (λ l. (l.at, p.number)) p.label) (statements_of u) ≡ flat_map old.label_statement (places.unit_places u)
labels_alike u =
    sym (singles (λ p. old.label_statement (place_of p)) (λ p. option_map (λ l. (l.at, p.number)) p.label) (λ p. by p.number p.region p.label) (statements_of u))
    ∙ sym (flat_map-map old.label_statement place_of (statements_of u)) ∙ ap (flat_map old.label_statement) (places_alike u)
  where
    by : (number region : ℕ) (label : Option Identifier)
        → old.label_statement (record { number = number; region = region; label = label }) ≡ cons_option (option_map (λ l. (l.at, number)) label) []
    by number region None = refl
    by number region (Some l) = refl

label_alike : (u : ExternalProcedure) (at : ℕ) → label_statement u at ≡ symbols.found_in (old.facts_of u).labels at
label_alike u at = λ i. found_alike (labels_alike u i) at i

-- ---- symbols

counted_to : (b : Bool) (x y : ℕ) → x ≡ y → cond (not b) (1 + x) 0 ≡ (if b then 0 else 1 + y)
counted_to true x y e = refl
counted_to false x y e = ap (λ n. 1 + n) e

slot_alike : (name : Name) (names : List Name) → position_or_len (λ n. same_name n name) names ≡ symbols.place_among names name
slot_alike name [] = refl
slot_alike name (n ∷ ns) = counted_to (same_name n name) _ _ (slot_alike name ns)

number_alike : (name : Name) (ds : List Declaration) → number_declared ds name ≡ symbols.number_declared ds name
number_alike name [] = refl
number_alike name (d ∷ ds) = counted_to (is_none d.owner && same_name d.identifier.name name) _ _ (number_alike name ds)

open_alike : (taken : Option ParameterType) (slot : ℕ) (area : Option SymbolKey) (kind : SymbolKind)
    → unwrap_or (option_map (λ type. OpenParameter type slot area) taken) kind ≡ symbols.kind_with taken slot area kind
open_alike None slot area kind = refl
open_alike (Some type) slot area kind = refl

kinds_alike : (u : ExternalProcedure) (parameters : List Name) (w : Way) (name : Identifier) (owner : Option ℕ) (kind : DeclaredKind)
    → symbol_kind u (position_or_len (λ n. same_name n name.name) parameters) w name.at owner kind ≡ symbols.symbol_kind (old.facts_of u) parameters w name owner kind
kinds_alike u parameters w name None (OfItem (OfVariable v) description) =
    open_alike v.taken _ _ _
    ∙ (λ i. let slot = slot_alike name.name parameters i in let area = area_alike u name.at i in
    symbols.kind_with v.taken slot area
    (Variable (unwrap_or description described.Pointer) (class_of v.storage slot (locator_alike u name.at i)) v.scope v.initial area))
kinds_alike u parameters w name (Some owner) (OfItem (OfVariable v) description) = ap (symbols.Member w.root w.path v.initial) (area_alike u name.at)
kinds_alike u parameters w name None (OfItem (OfEntry described returned) description) = ap (symbols.Entry described returned) (area_alike u name.at)
kinds_alike u parameters w name (Some owner) (OfItem (OfEntry described returned) description) = ap (symbols.Entry described returned) (area_alike u name.at)
kinds_alike u parameters w name None (OfItem OfBuiltIn description) = refl
kinds_alike u parameters w name (Some owner) (OfItem OfBuiltIn description) = refl
kinds_alike u parameters w name None (OfLabel region) = ap (λ o. symbols.Label (unwrap_or o 0)) (label_alike u name.at)
kinds_alike u parameters w name (Some owner) (OfLabel region) = ap (λ o. symbols.Label (unwrap_or o 0)) (label_alike u name.at)
kinds_alike u parameters w name None (OfProcedure returned region) = λ i. symbols.Procedure (get_or (numbers_alike u i) region 0) returned (area_alike u name.at i)
kinds_alike u parameters w name (Some owner) (OfProcedure returned region) = λ i. symbols.Procedure (get_or (numbers_alike u i) region 0) returned (area_alike u name.at i)

with_alike : (u : ExternalProcedure) (parameters : List Name) (ws : List Way) (ds : List Declaration)
    → map (λ p. symbol_of u parameters p.0 p.1) (zip ws ds) ≡ symbols.symbols_with (old.facts_of u) parameters ws ds
with_alike u parameters [] [] = refl
with_alike u parameters [] (d ∷ ds) = refl
with_alike u parameters (w ∷ ws) [] = refl
with_alike u parameters (w ∷ ws) (d ∷ ds) =
    λ i. record { identifier = d.identifier; kind = kinds_alike u parameters w d.identifier d.owner d.kind i } ∷ with_alike u parameters ws ds i

-- ---- blocks

entered_alike : (block n : ℕ) (ds : List Declaration)
    → filter_map (λ p. option_map (λ region. (region, record { block = block; number = p.0 })) (region_entered p.1.kind)) (enumerate_from n ds) ≡ old.procedures_from block n ds
entered_alike block n [] = refl
entered_alike block n (d ∷ ds) = by d.kind (entered_alike block (n + 1) ds)
  where
    by : (kind : DeclaredKind) {xs ys : List (ℕ × SymbolKey)} → xs ≡ ys
        → cons_option (option_map (λ region. (region, record { block = block; number = n })) (region_entered kind)) xs ≡ old.procedure_at (record { block = block; number = n }) kind ++ ys
    by (OfItem completed description) e = e
    by (OfLabel region) e = e
    by (OfProcedure returned region) e = ap (λ zs. (region, record { block = block; number = n }) ∷ zs) e

inner_alike : (u : ExternalProcedure) (n : ℕ) (bs : List BlockDeclarations)
    → flat_map (λ p. procedures_in (block_number u p.0) p.1.declarations) (enumerate_from n bs) ≡ old.procedures_of (old.numbers_of u) n bs
inner_alike u n [] = refl
inner_alike u n (b ∷ bs) = λ i. entered_alike (get_or (numbers_alike u i) n 0) 0 b.declarations i ++ inner_alike u (n + 1) bs i

procedures_alike : (u : ExternalProcedure) → procedures_of u ≡ old.procedures_in u
procedures_alike u =
    λ i. entered_alike (length (regions_alike u i)) 0 (outermost_found u i) i ++ inner_alike u 0 (blocks_found u i) i

block_alike : (u : ExternalProcedure) (b : BlockRegion) → block_of u b ≡ old.block_of u b
block_alike u b =
    λ i. let declared = get_or (blocks_found u i) b.region old.no_block in
    record {
      kind = b.kind;
      outer = option_map (λ outer. get_or (numbers_alike u i) outer 0) b.outer;
      statement = get_or (starts_alike u i) b.region 0;
      name = found_alike (procedures_alike u i) b.region i;
      parameters = map (λ name. number_alike name declared.declarations i) declared.parameters;
      symbols = with_alike u declared.parameters (ways_of declared.declarations) declared.declarations i;
    }

-- ---- meanings

kind_meant : (key : SymbolKey) (name : Name) (kind : DeclaredKind) → kind_meaning key name kind ≡ old.kind_meaning key name kind
kind_meant key name (OfItem OfBuiltIn description) = ap (option_map meanings.BuiltIn) (named_alike name)
kind_meant key name (OfItem (OfVariable v) description) = refl
kind_meant key name (OfItem (OfEntry described returned) description) = refl
kind_meant key name (OfLabel region) = refl
kind_meant key name (OfProcedure returned region) = refl

declared_meant : (key : SymbolKey) (o : Option Declaration) → option_and_then (λ d. kind_meaning key d.identifier.name d.kind) o ≡ old.declared_meaning key o
declared_meant key None = refl
declared_meant key (Some d) = kind_meant key d.identifier.name d.kind

declared_alike : (u : ExternalProcedure) (region : Option ℕ) → declared_by u region ≡ old.declared_by (declare.resolved_of u) region
declared_alike u None = λ i. (outermost_found u i)
declared_alike u (Some region) = λ i. (get_or (blocks_found u i) region old.no_block).declarations

target_meant : (u : ExternalProcedure) (function : Option BuiltInFunction) (t : Target) → target_meaning u function t ≡ old.target_meaning u function t
target_meant u function AFunction = refl
target_meant u function (AName region number) = λ i. declared_meant (key_alike u region number i) (slice_get (declared_alike u region i) number) i

meaning_alike : (u : ExternalProcedure) (at : ℕ) → meaning_of u at ≡ old.meaning_of u at
meaning_alike u at =
    λ i. option_and_then (λ t. target_meant u (found_alike (functions_alike (marks_alike u i) i) at i) t i) (targets_alike (uses_found u i) at i)

statement_alike : (u : ExternalProcedure) (n : ℕ) → block_of_statement u n ≡ old.statement_block_of u n
statement_alike u n =
    (λ i. option_map (λ p. get_or (numbers_alike u i) p.region 0) (last_where (λ p. nat_eq p.number n) (statements_of u)))
    ∙ mapped_twice (λ region. get_or (old.numbers_of u) region 0) (λ p. p.region) (last_where (λ p. nat_eq p.number n) (statements_of u))
    ∙ ap (option_map (λ region. get_or (old.numbers_of u) region 0)) (sym (standing n None (statements_of u)))
    ∙ ap (λ ps. option_map (λ region. get_or (old.numbers_of u) region 0) (symbols.found_in (map (λ (p : StatementPlace). (p.number, p.region)) ps) n)) (places_alike u)

pub units_alike : (u : ExternalProcedure) → resolved_unit_of u ≡ old.resolved_unit_of u
units_alike u =
    λ i. record {
      tree = u;
      blocks = map (λ b. block_alike u b i) (regions_alike u i);
      outermost = with_alike u [] (ways_of (outermost_found u i)) (outermost_found u i) i;
      meaning = λ at. meaning_alike u at i;
      statement_block = λ n. statement_alike u n i;
    }
