-- The faults of the declarations of an outline are those that the passes find.
use Rattle.std.specs.Prelude.{◌≡◌, refl, ℕ, ◌+◌, Bool, true, false, not, ◌&&◌, ◌||◌, nat_lt, Option, Some, None, List, [], ◌∷◌, ◌++◌, map, length, get_or, if◌then◌else◌}
use Rattle.std.specs.List.{flat_map, list_any, list_all, enumerate_from}
use Rattle.std.specs.Ordering.{nat_cmp}
use Rattle.std.specs.declared.cmp.Ordering.{Ordering}
use Rattle.std.specs.declared.cmp.Ordering.TheVariants.{Less, Equal, Greater}
use Rattle.std.proofs.Common.{ap, ap₂, ◌∙◌}
use Rattle.std.proofs.lemmas.List.Folds.{list_all-append}
use Rattle.pli_base.specs.Name.{Name}
use Rattle.pli_base.specs.Words.{same_name}
use Rattle.pli_base.specs.Codes.{code_place}
use Rattle.pli_base.specs.declared.code.Code.{Code}
use Rattle.pli_base.specs.declared.code.Code.TheVariants.{NotDeclared, DeclaredTwice, AttributesConflict, AttributesMissing, BadLevel, BadGoto, BadLocatorOrAreaName, TooManyParameters, GenerationTooLarge}
use Rattle.pli_base.specs.declared.syntax.Identifier.{Identifier}
use Rattle.pli_base.specs.Declarations.{SimpleAttribute, DescribedAttribute, ParameterDescription, Plain, AnyEntry, AnyReturns, Fixed, Binary, Character, Bit, Varying, Pointer, Offset, Area, Based, Controlled, Static, Automatic, External, Internal, Builtin, Initial, Attribute, Simple, Entry, Returns}
use Rattle.pli_base.specs.Statements.{Heading}
use Rattle.pli_declare_outline.specs.Outlines.{Mark, Declared, Labelled, Entered, Used, Jumped, PlacedMark, Outline}
use Rattle.pli_declare.specs.Faults as attributes
use Rattle.pli_declare_scopes.specs.declared.found.ReferenceMeaning.{ReferenceMeaning}
use Rattle.pli_declare_scopes.specs.declared.found.ReferenceMeaning.TheVariants.{Item as Means, Ambiguous as Several, NotDeclared as Nothing}
use Rattle.pli_declare_scopes.specs.declared.repeat.Verdict.{Verdict}
use Rattle.pli_declare_scopes.specs.declared.repeat.Verdict.TheVariants.{Counts, Twice, Beneath}
use Rattle.pli_declare.specs.Tables as tables
use Rattle.pli_declare.specs.Tables.{Entity, AsItem, AsLabel, AsProcedure, no_entry}
use Rattle.pli_declare.specs.AttributeNames.{plain_of}
use Rattle.pli_declare.specs.Places as places
use Rattle.pli_declare.specs.Places.{stands_alone}
use Rattle.pli_declare.specs.Declarations.{returned_by}
use Rattle.pli_declare.specs.Descriptions as descriptions
use Rattle.pli_declare.specs.Resolution as old
use Rattle.pli_declare.specs.Resolution.{at_token, is_main, parameters_of}
use Rattle.pli_declarations.specs.Items.{least}
use Rattle.pli_declarations.specs.Regions.{reaches}
use Rattle.pli_declarations.specs.Scopes.{meant}
use Rattle.pli_declarations.specs.Tables.{scope_of, tables_of, entry_at}
use Rattle.pli_declarations.specs.Variables.{is_locator, is_area}
use Rattle.pli_declarations.specs.Faults.{code_if, mean_fitting, is_good, names_no_area, simple_in, twice_code, heading_code, entity_codes, item_code, is_item, parameter_code, parameter_codes, parameter_faults, meaning_code, target_code, is_function, used_faults, mark_faults, faults_after, unit_faults, outline_faults}
use Rattle.pli_declarations.proofs.ItemsAlike.{first_alike, lesser_alike, result_alike}
use Rattle.pli_declarations.proofs.RegionsAlike.{block_alike, reaches_alike}
use Rattle.pli_declarations.proofs.ScopesAlike.{meant_alike}
use Rattle.pli_declarations.proofs.TablesAlike.{of_alike, among_alike, entries_alike, verdicts_alike, scope_alike, tables_alike, entry_alike}
use Rattle.pli_declarations.proofs.VariablesAlike.{built_in_alike, code_alike, locator_alike, area_alike, too_large_alike}

least_alike : (cs : List (Option Code)) → least cs ≡ old.least cs
least_alike [] = refl
least_alike (c ∷ cs) = lesser_alike c (least cs) ∙ ap (attributes.lesser c) (least_alike cs)

-- ---- names in attributes

all_true : (b : Bool) → (b && true) ≡ b
all_true true = refl
all_true false = refl

-- all of some are all of what each of others has
flat_all : {A B : Type 0} (h : B → List A) (p : A → Bool) (q : B → Bool) → ((x : B) → list_all p (h x) ≡ q x) → (xs : List B) → list_all p (flat_map h xs) ≡ list_all q xs
flat_all h p q e [] = refl
flat_all h p q e (x ∷ xs) = list_all-append p (h x) (flat_map h xs) ∙ ap₂ (λ b c. b && c) (e x) (flat_all h p q e xs)

fitting : (o : Outline) (block : ℕ) (fits fits' : List tables.Entry → ℕ → Bool) → ((es : List tables.Entry) (n : ℕ) → fits es n ≡ fits' es n) → (names : List Name)
    → mean_fitting o block fits names ≡ old.is_good o block fits' names
fitting o block fits fits' e names = by (meant (scope_of o block) names) refl ∙ (λ i. old.names_fit o block fits' names (meant_alike (scope_alike o block i) names i))
  where
    by : (m : ReferenceMeaning) → meant (scope_of o block) names ≡ m → mean_fitting o block fits names ≡ old.names_fit o block fits' names (meant (scope_of o block) names)
    by (Means number out) f = rw f (e (get_or (tables_of o block) out []) number ∙ (λ i. fits' (get_or (tables_alike o block i) out []) number))
    by Several f = rw f refl
    by Nothing f = rw f refl

simple_alike : (o : Outline) (block : ℕ) (a : SimpleAttribute) → is_good o block a ≡ old.simple_is_good o block a
simple_alike o block (Offset (Some name)) = fitting o block is_area places.is_area area_alike (name ∷ [])
simple_alike o block (Based (Some names)) = fitting o block is_locator places.is_locator locator_alike names
simple_alike o block (Offset None) = refl
simple_alike o block (Based None) = refl
simple_alike o block (Fixed n) = refl
simple_alike o block (Binary n) = refl
simple_alike o block (Character n) = refl
simple_alike o block (Bit n) = refl
simple_alike o block (Area n) = refl
simple_alike o block Varying = refl
simple_alike o block Pointer = refl
simple_alike o block Controlled = refl
simple_alike o block Static = refl
simple_alike o block Automatic = refl
simple_alike o block External = refl
simple_alike o block Internal = refl
simple_alike o block Builtin = refl
simple_alike o block (Initial values) = refl

described_alike : (o : Outline) (block : ℕ) (a : DescribedAttribute) → list_all (is_good o block) (plain_of a) ≡ old.described_is_good o block a
described_alike o block (Plain a) = all_true (is_good o block a) ∙ simple_alike o block a
described_alike o block AnyEntry = refl
described_alike o block AnyReturns = refl

all_described : (o : Outline) (block : ℕ) (xs : List DescribedAttribute) → list_all (is_good o block) (flat_map plain_of xs) ≡ list_all (old.described_is_good o block) xs
all_described o block xs = flat_all plain_of (is_good o block) (old.described_is_good o block) (described_alike o block) xs

attribute_alike : (o : Outline) (block : ℕ) (a : Attribute) → list_all (is_good o block) (simple_in a) ≡ old.attribute_is_good o block a
attribute_alike o block (Simple a) = all_true (is_good o block a) ∙ simple_alike o block a
attribute_alike o block (Entry None) = refl
attribute_alike o block (Entry (Some ds)) =
    flat_all (λ (d : ParameterDescription). flat_map plain_of d.attributes) (is_good o block) (λ d. list_all (old.described_is_good o block) d.attributes) (λ d. all_described o block d.attributes) ds
attribute_alike o block (Returns xs) = all_described o block xs

no_area_alike : (a : DescribedAttribute) → list_all names_no_area (plain_of a) ≡ old.names_nothing a
no_area_alike (Plain (Offset (Some name))) = refl
no_area_alike (Plain (Offset None)) = refl
no_area_alike (Plain (Based locator)) = refl
no_area_alike (Plain (Fixed n)) = refl
no_area_alike (Plain (Binary n)) = refl
no_area_alike (Plain (Character n)) = refl
no_area_alike (Plain (Bit n)) = refl
no_area_alike (Plain (Area n)) = refl
no_area_alike (Plain Varying) = refl
no_area_alike (Plain Pointer) = refl
no_area_alike (Plain Controlled) = refl
no_area_alike (Plain Static) = refl
no_area_alike (Plain Automatic) = refl
no_area_alike (Plain External) = refl
no_area_alike (Plain Internal) = refl
no_area_alike (Plain Builtin) = refl
no_area_alike (Plain (Initial values)) = refl
no_area_alike AnyEntry = refl
no_area_alike AnyReturns = refl

-- ---- declared names

twice_alike : (v : Verdict) → twice_code v ≡ old.twice_code v
twice_alike Counts = refl
twice_alike Twice = refl
twice_alike Beneath = refl

-- a conflict for one reason or another
conflict : (a b : Bool) (c : Option Code)
    → attributes.lesser (code_if (a || b) AttributesConflict) c
    ≡ attributes.lesser (code_if a AttributesConflict) (attributes.lesser (code_if b AttributesConflict) c)
conflict false b c = again (code_if b AttributesConflict) c
  where
    again : (x y : Option Code) → attributes.lesser x y ≡ attributes.lesser None (attributes.lesser x y)
    again x y = refl
conflict true false c = refl
conflict true true None = refl
conflict true true (Some d) = by (nat_cmp (code_place AttributesConflict) (code_place d)) refl
  where
    by : (o : Ordering) → nat_cmp (code_place AttributesConflict) (code_place d) ≡ o
        → attributes.lesser (Some AttributesConflict) (Some d) ≡ attributes.lesser (Some AttributesConflict) (attributes.lesser (Some AttributesConflict) (Some d))
    by Less e = rw e refl
    by Equal e = rw e refl
    by Greater e = rw e (rw e refl)

heading_alike : (good : SimpleAttribute → Bool) (good' : DescribedAttribute → Bool) → ((a : DescribedAttribute) → list_all good (plain_of a) ≡ good' a)
    → (h : Heading) → heading_code good h ≡ old.heading_code (old.returned_are (list_all good') h) h
heading_alike good good' e h =
    let returned = returned_by h.options in
    let twice = nat_lt 1 (length returned) in
    let main = list_any is_main h.options && (nat_lt 0 (length h.parameters) || nat_lt 0 (length returned)) in
    let rest : List (Option Code) =
    old.least (map attributes.result_fault returned) ∷ code_if (not (list_all (list_all good') returned)) BadLocatorOrAreaName ∷ code_if (nat_lt 64 (length h.parameters)) TooManyParameters ∷ [] in
    (λ i. least_alike (code_if (twice || main) AttributesConflict
    ∷ least_alike (map (λ xs. result_alike xs i) returned) i
    ∷ code_if (not (list_all (λ xs. flat_all plain_of good good' e xs i) returned)) BadLocatorOrAreaName
    ∷ code_if (nat_lt 64 (length h.parameters)) TooManyParameters ∷ []) i)
    ∙ conflict twice main (old.least rest)

codes_alike : (o : Outline) (block number : ℕ) (e : Entity)
    → entity_codes o block number e
    ≡ old.entity_codes o block (places.own_code (tables.entries_in o block) (parameters_of o block) number) (descriptions.is_too_large_variable (tables.entries_in o block) (parameters_of o block) number) e
codes_alike o block number (AsItem item is_bad) =
    let parameters = parameters_of o block in
    λ i. code_alike (entries_alike o block i) parameters number i
    ∷ code_if is_bad BadLevel
    ∷ code_if (not (flat_all simple_in (is_good o block) (old.attribute_is_good o block) (attribute_alike o block) item.attributes i)) BadLocatorOrAreaName
    ∷ code_if (too_large_alike (entries_alike o block i) parameters number i) GenerationTooLarge ∷ []
codes_alike o block number (AsLabel region) = refl
codes_alike o block number (AsProcedure heading region) =
    λ i. heading_alike (is_good o block) (old.described_is_good o block) (described_alike o block) heading i ∷ []

item_alike : (o : Outline) (block number : ℕ) → item_code o block number ≡ old.item_code o block number
item_alike o block number =
    λ i. least_alike (twice_alike (get_or (verdicts_alike o block i) number Counts) i ∷ codes_alike o block number (get_or (entries_alike o block i) number no_entry).entity i) i

numbered_alike : (o : Outline) (block number : ℕ) (es : List tables.Entry)
    → flat_map (λ e. at_token e.1.identifier.at (item_code o block e.0)) (enumerate_from number es) ≡ old.codes_from o block number es
numbered_alike o block number [] = refl
numbered_alike o block number (e ∷ es) = λ i. at_token e.identifier.at (item_alike o block number i) ++ numbered_alike o block (number + 1) es i

is_item_alike : (e : Entity) → is_item e ≡ old.is_item e
is_item_alike (AsItem item is_bad) = refl
is_item_alike (AsLabel region) = refl
is_item_alike (AsProcedure heading region) = refl

parameter_alike : (o : Outline) (block : ℕ) (before : List Name) (name : Name) → parameter_code o block before name ≡ old.parameter_code o block before name
parameter_alike o block before name =
    λ i. first_alike ((list_any (same_name name) before, DeclaredTwice)
    ∷ (not (list_any (λ (e : tables.Entry). same_name e.identifier.name name && stands_alone e && is_item_alike e.entity i) (entries_alike o block i)), AttributesMissing) ∷ []) i

parameters_alike : (o : Outline) (block : ℕ) (before : List Name) (ps : List Identifier) → parameter_codes o block before ps ≡ old.parameter_codes o block before ps
parameters_alike o block before [] = refl
parameters_alike o block before (p ∷ ps) = λ i. at_token p.at (parameter_alike o block before p.name i) ++ parameters_alike o block (before ++ p.name ∷ []) ps i

mark_parameters : (o : Outline) (m : Mark) → parameter_faults o m ≡ old.parameter_faults o m
mark_parameters o (Entered heading region) = parameters_alike o region [] heading.parameters
mark_parameters o (Declared items) = refl
mark_parameters o (Labelled label) = refl
mark_parameters o (Used names) = refl
mark_parameters o (Jumped label) = refl

-- ---- uses

pub function_alike : (names : List Identifier) → is_function names ≡ old.is_function names
function_alike [] = refl
function_alike (i ∷ []) = built_in_alike i.name
function_alike (i ∷ j ∷ more) = refl

code_not : (b : Bool) (c : Code) → code_if (not b) c ≡ (if b then None else Some c)
code_not true c = refl
code_not false c = refl

target_alike : (o : Outline) (here : ℕ) (e : Entity) → target_code o here e ≡ old.target_code o here e
target_alike o here (AsLabel region) = code_not (reaches o.regions here region) BadGoto ∙ (λ i. if reaches_alike o.regions here region i then None else Some BadGoto)
target_alike o here (AsItem item is_bad) = refl
target_alike o here (AsProcedure heading region) = refl

reference_alike : (names : List Identifier) (m : ReferenceMeaning) → meaning_code (λ number block. None) (code_if (not (is_function names)) NotDeclared) m ≡ old.reference_code names m
reference_alike names (Means number block) = refl
reference_alike names Several = refl
reference_alike names Nothing = code_not (is_function names) NotDeclared ∙ (λ i. if function_alike names i then None else Some NotDeclared)

jump_alike : (o : Outline) (here : ℕ) (m : ReferenceMeaning)
    → meaning_code (λ number block. target_code o here (entry_at o here block number).entity) (Some NotDeclared) m ≡ old.jump_code o here m
jump_alike o here (Means number block) = λ i. target_alike o here (entry_alike o here block number i).entity i
jump_alike o here Several = refl
jump_alike o here Nothing = refl

used_alike : (o : Outline) (here : ℕ) (m : Mark) → used_faults o here m ≡ old.used_faults o here m
used_alike o here (Used []) = refl
used_alike o here (Used (x ∷ more)) = λ i. at_token x.at (reference_alike (x ∷ more) (meant_alike (scope_alike o here i) (old.names_of (x ∷ more)) i) i)
used_alike o here (Jumped label) = λ i. at_token label.at (jump_alike o here (meant_alike (scope_alike o here i) (label.name ∷ []) i) i)
used_alike o here (Declared items) = refl
used_alike o here (Labelled label) = refl
used_alike o here (Entered heading region) = refl

-- ---- marks

mark_alike : (o : Outline) (number : ℕ) (p : PlacedMark) → mark_faults o number p ≡ old.mark_faults o number p
mark_alike o number p =
    λ i. numbered_alike o (block_alike o.regions p.region i) number (of_alike number p.region p.mark i) i
    ++ mark_parameters o p.mark i ++ used_alike o p.region p.mark i

after_alike : (o : Outline) (before ps : List PlacedMark) → faults_after o before ps ≡ old.faults_after o before ps
after_alike o before [] = refl
after_alike o before (p ∷ ps) =
    λ i. mark_alike o (length (among_alike o.regions (block_alike o.regions p.region i) before i)) p i ++ after_alike o (before ++ p ∷ []) ps i

unit_alike : (o : Outline) (m : Mark) → unit_faults o m ≡ old.heading_faults m ++ old.parameter_faults o m
unit_alike o (Entered heading region) =
    λ i. at_token heading.name.at (heading_alike names_no_area old.names_nothing no_area_alike heading i) ++ parameters_alike o region [] heading.parameters i
unit_alike o (Declared items) = refl
unit_alike o (Labelled label) = refl
unit_alike o (Used names) = refl
unit_alike o (Jumped label) = refl

pub outline_alike : (o : Outline) (ps : List PlacedMark) → outline_faults o ps ≡ old.outline_faults o ps
outline_alike o [] = refl
outline_alike o (p ∷ ps) = λ i. unit_alike o p.mark i ++ after_alike o [] ps i
