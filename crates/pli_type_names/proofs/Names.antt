-- What names mean, by what is kept of symbols and blocks.
use Rattle.std.proofs.Common.{◌≡◌, ℕ, Bool, true, false, ◌&&◌, Option, Some, None, List, [], option_map, slice_get, get_or}
use Rattle.std.proofs.Common.{refl, sym, ap, ◌∙◌}
use Rattle.std.specs.Option.{option_and_then}
use Rattle.std.specs.Prelude.{if◌then◌else◌}
use Rattle.pli_map.specs.Description.{Description}
use Rattle.pli_map.specs.ParameterTypes.{ParameterType, Stated, AnyString, AnyArray, ArrayOf, StructureOf, stated}
use Rattle.pli_declare.specs.ResolvedUnits.{ResolvedUnit, ResolvedBlock}
use Rattle.pli_declare.specs.Symbols.{Symbol, SymbolKind, Variable, OpenParameter, Member, Label, Procedure, Entry, BuiltIn}
use Rattle.pli_declare.specs.declared.built_in.BuiltInFunction.{BuiltInFunction}
use Rattle.pli_declare.specs.declared.symbol.StorageClass.{StorageClass}
use Rattle.pli_declare.specs.declared.symbol.SymbolKey.{SymbolKey}
use Rattle.pli_type_rules.specs.Names as plain
use Rattle.pli_type_rules.specs.Names.{Begins, AVariable, AFunction, AProcedure, ALabel, Untyped}
use Rattle.pli_type_rules.specs.NamedUnits.{area_named, block_symbols, declared_as, gives_stored, global_number, is_procedure, is_reached}
use Rattle.pli_type_rules.specs.NamedUnits.{named_procedure, returned_area_of, returned_of, stands_around, storage_of}
use Rattle.pli_type_rules.specs.NamedUnits.{in_slot, is_open_parameter, is_parameter, open_root, open_storage, outward_to, parameter_numbers, symbol_meant, variable_at, variable_from}
use Rattle.pli_type_rules.specs.References.{StridedPart, part_on, whole_part}
use Rattle.pli_type_names.specs.BlockEntries.{BlockEntry, entry_at}
use Rattle.pli_type_names.specs.BlockFacts.{facts_of}
use Rattle.pli_type_names.specs.SymbolMeaning.{IsMeantAs, is_way}
use Rattle.pli_type_names.specs.OwnVariables.{begun, own_at, own_variables, place_at}
use Rattle.pli_type_names.specs.Seen.{Seen, SeenVariable, SeenFunction, SeenProcedure, SeenLabel, SeenUntyped, seen}
use Rattle.pli_type_names.specs.Seen.{Kept, KeptVariable, KeptEntry, KeptNothing, area_under, kept_seen, kept_symbols, kind_kept, on_way, open_kept, procedure_seen}
use Rattle.pli_type_names.specs.Seen.{storage_from, variable_seen}
use Rattle.pli_type_rules.specs.declared.beginning.Beginning.{Beginning}
use Rattle.pli_type_names.specs.declared.naming.NamedAs.{NamedAs}
use Rattle.pli_type_names.specs.declared.naming.NamedAs.TheVariants as answers
use Rattle.pli_type_names.specs.declared.place.Location.{Location}
use Rattle.pli_type_names.specs.declared.place.Location.TheVariants.{Passed}
use Rattle.pli_type_names.specs.views.MeaningView.{answer_view, procedure_view}
use Rattle.pli_type_names.proofs.StorageIs.{AreRows, area_is, kept_get, kept_there, own_get, own_there, storage_is}
use Rattle.pli_type_tree.specs.TypedTree.{OfEntry, Root}

-- ---- variables and members

from_storage : (o : Option plain.NamedStorage) (d : Description) (path : List ℕ) (area : Option Beginning)
    → variable_seen o (Stated d) (is_way path) (part_on (whole_part d) path) area ≡ seen (variable_from o (Stated d) path area)
from_storage None d path area = refl
from_storage (Some storage) d path area = refl

module _ (r : ResolvedUnit) (blocks : List ℕ) (entries : List BlockEntry) (rows : List (List Kept)) (are : AreRows r rows) where
  way_seen : (block : ℕ) (o : Option Location) (d : Description) (path : List ℕ) (area : Option SymbolKey)
      → kept_seen rows blocks entries block (on_way (begun o d) path area)
      ≡ seen (variable_from (option_and_then (storage_from rows blocks block) o) (Stated d) path (area_named 63 r blocks area))
  way_seen block None d path area = refl
  way_seen block (Some p) d path area =
      from_storage (storage_from rows blocks block p) d path (area_under rows blocks area)
      ∙ ap (λ x. seen (variable_from (storage_from rows blocks block p) (Stated d) path x)) (area_is r blocks rows are area)

  way_of_class : (key : SymbolKey) (path : List ℕ) (area : Option SymbolKey) (class : StorageClass) (d : Description)
      → kept_seen rows blocks entries key.block (on_way (begun (place_at (facts_of r key.block) key.number class d) d) path area)
      ≡ seen (variable_from (storage_of 63 r blocks key class d) (Stated d) path (area_named 63 r blocks area))
  way_of_class key path area class d =
      way_seen key.block (place_at (facts_of r key.block) key.number class d) d path area
      ∙ ap (λ o. seen (variable_from o (Stated d) path (area_named 63 r blocks area))) (storage_is r blocks rows are key class d)

  way_of_kind : (key : SymbolKey) (path : List ℕ) (area : Option SymbolKey) (s : Symbol) (k : SymbolKind)
      → kept_seen rows blocks entries key.block (on_way (own_at (facts_of r key.block) key.number k) path area)
      ≡ seen (variable_at 63 r blocks key path (area_named 63 r blocks area) (Some (record { identifier = s.identifier; kind = k })))
  way_of_kind key path area s (Variable d class scope initial named) = way_of_class key path area class d
  way_of_kind key path area s (OpenParameter type slot named) = refl
  way_of_kind key path area s (Member root p initial named) = refl
  way_of_kind key path area s (Label statement) = refl
  way_of_kind key path area s (Procedure block returned named) = refl
  way_of_kind key path area s (Entry parameters returned named) = refl
  way_of_kind key path area s BuiltIn = refl

  way_there : (key : SymbolKey) (path : List ℕ) (area : Option SymbolKey) (o : Option Symbol)
      → kept_seen rows blocks entries key.block (on_way (own_there (facts_of r key.block) key.number o) path area)
      ≡ seen (variable_at 63 r blocks key path (area_named 63 r blocks area) o)
  way_there key path area None = refl
  way_there key path area (Some s) = way_of_kind key path area s s.kind

-- ---- procedures

if_named : (named gives around : Bool) (p : plain.NamedProcedure)
    → (if (named && gives) && around then SeenProcedure p else SeenUntyped) ≡ seen (if (named && around) && gives then AProcedure p else Untyped)
if_named true true true p = refl
if_named true true false p = refl
if_named true false true p = refl
if_named true false false p = refl
if_named false gives around p = refl

-- a procedure that gives offsets of this area
abbrev with_area : plain.NamedProcedure → Option Beginning → plain.NamedProcedure
with_area p area = record { callee = p.callee; parameters = p.parameters; returned = p.returned; area = area }

module _ (r : ResolvedUnit) (blocks : List ℕ) (entries : List BlockEntry) (rows : List (List Kept)) (are : AreRows r rows) where
  procedure_there : (block : ℕ) (o : Option ResolvedBlock)
      → procedure_seen rows blocks (option_map (entry_at r block) o) block
      ≡ seen (if is_reached blocks o && gives_stored 63 (returned_of r block) then AProcedure (named_procedure 63 r blocks block) else Untyped)
  procedure_there block None = refl
  procedure_there block (Some b) =
      ap (λ area. if (is_procedure b.kind && gives_stored 63 (returned_of r block)) && stands_around blocks b.outer
      then SeenProcedure (with_area (named_procedure 63 r blocks block) area) else SeenUntyped) (area_is r blocks rows are (returned_area_of r block))
      ∙ if_named (is_procedure b.kind) (gives_stored 63 (returned_of r block)) (stands_around blocks b.outer) (named_procedure 63 r blocks block)

  if_entry : (block number : ℕ) (parameters : List ParameterType) (returned : Option Description) (area : Option SymbolKey) (gives : Bool)
      → kept_seen rows blocks entries block (if gives then KeptEntry number parameters returned area else KeptNothing)
      ≡ seen (if gives
      then AProcedure (record { callee = OfEntry number; parameters = parameters; returned = returned; area = area_named 63 r blocks area })
      else Untyped)
  if_entry block number parameters returned area true =
      ap (λ x. SeenProcedure (record { callee = OfEntry number; parameters = parameters; returned = returned; area = x })) (area_is r blocks rows are area)
  if_entry block number parameters returned area false = refl

-- ---- symbols

-- what is found once for the blocks of a unit
abbrev pub AreAll : ResolvedUnit → List BlockEntry → Type 0
AreAll r entries = (number : ℕ) → slice_get entries number ≡ option_map (entry_at r number) (slice_get r.blocks number)

module _ (r : ResolvedUnit) (blocks : List ℕ) (entries : List BlockEntry) (rows : List (List Kept)) (are : AreRows r rows) where
  -- a parameter in which a `*` stands has no parts
  from_open : (o : Option Root) (t : ParameterType) (area : Option Beginning) → stated t ≡ None
      → variable_seen (option_map (λ root. Begins root true) o) t false None area ≡ seen (variable_from (open_storage o) t [] area)
  from_open None t area h = refl
  from_open (Some root) t area h =
      ap (λ x. SeenVariable (Begins root true) t false x area) (sym (ap (option_and_then (λ d. part_on (whole_part d) [])) h))

  open_placed : (block slot : ℕ) (t : ParameterType) (area : Option SymbolKey) (b : Bool) → stated t ≡ None
      → kept_seen rows blocks entries block (if b then KeptVariable (Passed slot) t false None area else KeptNothing)
      ≡ seen (variable_from (open_storage (if b then in_slot (outward_to blocks block) slot else None)) t [] (area_named 63 r blocks area))
  open_placed block slot t area false h = refl
  open_placed block slot t area true h =
      from_open (in_slot (outward_to blocks block) slot) t (area_under rows blocks area) h
      ∙ ap (λ x. seen (variable_from (open_storage (in_slot (outward_to blocks block) slot)) t [] x)) (area_is r blocks rows are area)

  open_seen : (key : SymbolKey) (slot : ℕ) (t : ParameterType) (area : Option SymbolKey)
      → kept_seen rows blocks entries key.block (open_kept (parameter_numbers r key.block) key.number slot t area)
      ≡ seen (variable_from (open_storage (open_root 63 r blocks key slot t)) t [] (area_named 63 r blocks area))
  open_seen key slot (Stated d) area = refl
  open_seen key slot (AnyString form) area =
      open_placed key.block slot (AnyString form) area (is_open_parameter 63 (AnyString form) && is_parameter (parameter_numbers r key.block) slot key.number) refl
  open_seen key slot (AnyArray k e) area =
      open_placed key.block slot (AnyArray k e) area (is_open_parameter 63 (AnyArray k e) && is_parameter (parameter_numbers r key.block) slot key.number) refl
  open_seen key slot (ArrayOf bs e) area =
      open_placed key.block slot (ArrayOf bs e) area (is_open_parameter 63 (ArrayOf bs e) && is_parameter (parameter_numbers r key.block) slot key.number) refl
  open_seen key slot (StructureOf ts) area = refl

  kind_seen : (key : SymbolKey) (s : Symbol) (k : SymbolKind) → AreAll r entries
      → slice_get (block_symbols r key.block) key.number ≡ Some s → s.kind ≡ k
      → kept_seen rows blocks entries key.block (kind_kept (parameter_numbers r key.block) (own_variables (facts_of r key.block)) key.number (global_number 63 r key) k) ≡ seen (symbol_meant 63 r blocks key k)
  kind_seen key s (Variable d class scope initial area) all e is =
      let f = facts_of r key.block in
      ap (λ o. kept_seen rows blocks entries key.block (on_way o [] area))
      (own_get f key.number ∙ ap (own_there f key.number) e ∙ ap (own_at f key.number) is)
      ∙ way_of_class r blocks entries rows are key [] area class d
  kind_seen key s (OpenParameter type slot area) all e is = open_seen key slot type area
  kind_seen key s (Member root path initial area) all e is =
      ap (λ o. kept_seen rows blocks entries key.block (on_way o path area)) (own_get (facts_of r key.block) root)
      ∙ way_there r blocks entries rows are (record { block = key.block; number = root }) path area (slice_get (block_symbols r key.block) root)
  kind_seen key s (Label statement) all e is = refl
  kind_seen key s (Procedure block returned area) all e is =
      ap (λ o. procedure_seen rows blocks o block) (all block) ∙ procedure_there r blocks entries rows are block (slice_get r.blocks block)
  kind_seen key s (Entry parameters returned area) all e is =
      if_entry r blocks entries rows are key.block (global_number 63 r key) parameters returned area (gives_stored 63 returned)
  kind_seen key s BuiltIn all e is = refl

  symbol_there : (key : SymbolKey) (o : Option Symbol) → AreAll r entries → slice_get (block_symbols r key.block) key.number ≡ o
      → kept_seen rows blocks entries key.block (kept_there r key o) ≡ seen (declared_as 63 r blocks key)
  symbol_there key None all e = rw e refl
  symbol_there key (Some s) all e = rw e (kind_seen key s s.kind all e refl)

  pub declared_seen : (key : SymbolKey) (kept : Kept) → AreAll r entries
      → kept ≡ get_or (kept_symbols (facts_of r key.block)) key.number KeptNothing
      → kept_seen rows blocks entries key.block kept ≡ seen (declared_as 63 r blocks key)
  declared_seen key kept all is =
      ap (kept_seen rows blocks entries key.block) (is ∙ kept_get r key)
      ∙ symbol_there key (slice_get (block_symbols r key.block) key.number) all refl

-- ---- what an answer says

abbrev storage_in : plain.NamedStorage → Seen → plain.NamedStorage
storage_in d (SeenVariable storage whole is_member part area) = storage
storage_in d other = d

abbrev whole_in : ParameterType → Seen → ParameterType
whole_in d (SeenVariable storage whole is_member part area) = whole
whole_in d other = d

abbrev is_member_in : Seen → Bool
is_member_in (SeenVariable storage whole is_member part area) = is_member
is_member_in other = false

abbrev part_in : Seen → Option StridedPart
part_in (SeenVariable storage whole is_member part area) = part
part_in other = None

abbrev area_of : Seen → Option Beginning
area_of (SeenVariable storage whole is_member part area) = area
area_of other = None

abbrev function_in : BuiltInFunction → Seen → BuiltInFunction
function_in d (SeenFunction function) = function
function_in d other = d

abbrev procedure_of : plain.NamedProcedure → Seen → plain.NamedProcedure
procedure_of d (SeenProcedure procedure) = procedure
procedure_of d other = d

abbrev label_in : Seen → ℕ
label_in (SeenLabel statement) = statement
label_in other = 0

pub is_meant : (a : NamedAs) (m : plain.NamedAs) → answer_view a ≡ seen m → IsMeantAs a m
is_meant (answers.Variable v) (AVariable w) e =
    (ap (storage_in w.storage) e, ap (whole_in w.whole) e, ap is_member_in e, ap part_in e, ap area_of e)
is_meant (answers.Variable v) (AFunction g) e = absurd (cc)
is_meant (answers.Variable v) (AProcedure q) e = absurd (cc)
is_meant (answers.Variable v) (ALabel t) e = absurd (cc)
is_meant (answers.Variable v) Untyped e = absurd (cc)
is_meant (answers.Function f) (AVariable w) e = absurd (cc)
is_meant (answers.Function f) (AFunction g) e = ap (function_in f) e
is_meant (answers.Function f) (AProcedure q) e = absurd (cc)
is_meant (answers.Function f) (ALabel t) e = absurd (cc)
is_meant (answers.Function f) Untyped e = absurd (cc)
is_meant (answers.Procedure p) (AVariable w) e = absurd (cc)
is_meant (answers.Procedure p) (AFunction g) e = absurd (cc)
is_meant (answers.Procedure p) (AProcedure q) e =
    let same : procedure_view p ≡ q = ap (procedure_of q) e in
    record {
      callee = ap (λ x. x.callee) same;
      parameters = ap (λ x. x.parameters) same;
      returned = ap (λ x. x.returned) same;
      area = ap (λ x. x.area) same;
    }
is_meant (answers.Procedure p) (ALabel t) e = absurd (cc)
is_meant (answers.Procedure p) Untyped e = absurd (cc)
is_meant (answers.Label s) (AVariable w) e = absurd (cc)
is_meant (answers.Label s) (AFunction g) e = absurd (cc)
is_meant (answers.Label s) (AProcedure q) e = absurd (cc)
is_meant (answers.Label s) (ALabel t) e = ap label_in e
is_meant (answers.Label s) Untyped e = absurd (cc)
is_meant answers.Untyped (AVariable w) e = absurd (cc)
is_meant answers.Untyped (AFunction g) e = absurd (cc)
is_meant answers.Untyped (AProcedure q) e = absurd (cc)
is_meant answers.Untyped (ALabel t) e = absurd (cc)
is_meant answers.Untyped Untyped e = tt
