-- What the names of a unit mean, where what its symbols say is within the limits of the language.
use Rattle.std.specs.Prelude.{◌≡◌, ℕ, zero, suc, ◌+◌, nat_eq, Bool, true, false, not, ◌&&◌, ◌||◌, Option, Some, None, option_map, option_and_then, refl}
use Rattle.std.specs.Prelude.{List, [], ◌∷◌, map, length, slice_get, if◌then◌else◌}
use Rattle.std.specs.List.{AllByRecursion, list_any}
use Rattle.std.specs.Option.{unwrap_or}
use Rattle.std.proofs.Common.{sym, ap, ◌∙◌, subst, arith}
use Rattle.std.proofs.Math.Path.{fun_ext}
use Rattle.std.proofs.lemmas.Bool.{and_from}
use Rattle.std.proofs.lemmas.Option.{same_Some, none-some}
use Rattle.pli_base.specs.declared.declaration.InitialValue.{InitialValue}
use Rattle.pli_base.specs.declared.syntax.Identifier.{Identifier}
use Rattle.pli_declare.specs.declared.completed.ScopeAttribute.{ScopeAttribute}
use Rattle.pli_map.specs.Description.{Description, Area}
use Rattle.pli_map.specs.ParameterTypes.{ParameterType, Stated, AnyString, AnyArray, ArrayOf, StructureOf, stated, is_stated}
use Rattle.pli_declare.specs.ResolvedUnits.{ResolvedUnit, ResolvedBlock, all_symbols, symbol_at}
use Rattle.pli_declare.specs.Symbols.{Symbol, SymbolKind, Variable, OpenParameter, Member, Label, Procedure, Entry, BuiltIn}
use Rattle.pli_declare.specs.declared.block_numbers.ResolvedBlockKind.{ResolvedBlockKind}
use Rattle.pli_declare.specs.declared.block_numbers.ResolvedBlockKind.TheVariants as kinds
use Rattle.pli_declare.specs.declared.symbol.NameMeaning.{NameMeaning}
use Rattle.pli_declare.specs.declared.symbol.NameMeaning.TheVariants as meanings
use Rattle.pli_declare.specs.declared.symbol.StorageClass.{StorageClass}
use Rattle.pli_declare.specs.declared.symbol.StorageClass.TheVariants as classes
use Rattle.pli_declare.specs.declared.symbol.SymbolKey.{SymbolKey}
use Rattle.pli_type_rules.specs.Beginnings.{area_meant}
use Rattle.pli_type_rules.specs.NamedUnits as old
use Rattle.pli_type_rules.specs.Names.{NamedProcedure, NamedAs, AVariable, AProcedure, Untyped, NamedStorage, Begins, IsBased, LocatorVariable}
use Rattle.pli_type_rules.specs.References.{StridedPart, part_on, whole_part, locator_at, reference_to}
use Rattle.pli_type_rules.specs.declared.beginning.Beginning.{Beginning}
use Rattle.pli_type_tree.specs.TypedTree.{OfBlock, OfEntry, Root, InSlot, OfProgram, NewestOf, Whole}
use Rattle.pli_type_unit.specs.UnitNames as new
use Rattle.pli_type_unit.specs.UnitNames.{◌>>=◌, PlainReference, VariableName}
use Rattle.pli_type_unit.proofs.GlobalsAlike.{number_alike}
use Rattle.pli_type_unit.proofs.SymbolsAlike.{IsAlike, AreAlike, AreStored, IsGiven, SameTest, automatic_test, based_test, counted}

-- ---- what a symbol is declared as

abbrev pub kind_of : Option Symbol → SymbolKind
kind_of o = unwrap_or (option_map (λ s. s.kind) o) BuiltIn

type_of_kind : (i : Identifier) (k : SymbolKind) → old.type_in (Some (record { identifier = i; kind = k })) ≡ new.type_in k
type_of_kind i (Variable d class scope initial area) = refl
type_of_kind i (OpenParameter type slot area) = refl
type_of_kind i (Member root path initial area) = refl
type_of_kind i (Label statement) = refl
type_of_kind i (Procedure block returned area) = refl
type_of_kind i (Entry parameters returned area) = refl
type_of_kind i BuiltIn = refl

type_alike : (o : Option Symbol) → old.type_in o ≡ new.type_in (kind_of o)
type_alike None = refl
type_alike (Some s) = type_of_kind s.identifier s.kind

returned_of_kind : (i : Identifier) (k : SymbolKind) → old.returned_by (Some (record { identifier = i; kind = k })) ≡ (new.returns_of k).0
returned_of_kind i (Variable d class scope initial area) = refl
returned_of_kind i (OpenParameter type slot area) = refl
returned_of_kind i (Member root path initial area) = refl
returned_of_kind i (Label statement) = refl
returned_of_kind i (Procedure block returned area) = refl
returned_of_kind i (Entry parameters returned area) = refl
returned_of_kind i BuiltIn = refl

returned_by_alike : (o : Option Symbol) → old.returned_by o ≡ (new.returns_of (kind_of o)).0
returned_by_alike None = refl
returned_by_alike (Some s) = returned_of_kind s.identifier s.kind

area_of_kind : (i : Identifier) (k : SymbolKind) → old.area_returned_by (Some (record { identifier = i; kind = k })) ≡ (new.returns_of k).1
area_of_kind i (Variable d class scope initial area) = refl
area_of_kind i (OpenParameter type slot area) = refl
area_of_kind i (Member root path initial area) = refl
area_of_kind i (Label statement) = refl
area_of_kind i (Procedure block returned area) = refl
area_of_kind i (Entry parameters returned area) = refl
area_of_kind i BuiltIn = refl

area_by_alike : (o : Option Symbol) → old.area_returned_by o ≡ (new.returns_of (kind_of o)).1
area_by_alike None = refl
area_by_alike (Some s) = area_of_kind s.identifier s.kind

given_of_kind : (k : SymbolKind) → IsAlike k → IsGiven (new.returns_of k).0
given_of_kind (Variable d class scope initial area) h = refl
given_of_kind (OpenParameter type slot area) h = refl
given_of_kind (Member root path initial area) h = refl
given_of_kind (Label statement) h = refl
given_of_kind (Procedure block returned area) h = h
given_of_kind (Entry parameters returned area) h = refl
given_of_kind BuiltIn h = refl

-- ---- blocks

procedure_kind : {A : Type 0} (k : ResolvedBlockKind) (b : ResolvedBlock) (part : ResolvedBlock → A) (otherwise : A)
    → (if old.is_procedure k then part b else otherwise) ≡ unwrap_or (option_map part (if new.is_procedure k then Some b else None)) otherwise
procedure_kind kinds.Procedure b part otherwise = refl
procedure_kind kinds.Begin b part otherwise = refl
procedure_kind kinds.OnUnit b part otherwise = refl

outward_alike : (bs : List ℕ) (block : ℕ) → old.outward_to bs block ≡ new.outward_to bs block
outward_alike [] block = refl
outward_alike (b ∷ bs) block = ap (λ o. if nat_eq b block then Some 0 else option_map suc o) (outward_alike bs block)

-- a block stands around
abbrev is_there : Option ℕ → Bool
is_there None = false
is_there (Some n) = true

around_is : (bs : List ℕ) (outer : ℕ) (o : Option ℕ) → old.outward_to bs outer ≡ o → old.stands_around bs (Some outer) ≡ is_there o
around_is bs outer None e = rw e refl
around_is bs outer (Some n) e = rw e refl

there_any : (bs : List ℕ) (outer : ℕ) → is_there (old.outward_to bs outer) ≡ list_any (λ b. nat_eq b outer) bs
there_any [] outer = refl
there_any (b ∷ bs) outer = by (nat_eq b outer) (old.outward_to bs outer) (there_any bs outer)
  where
    by : (c : Bool) (o : Option ℕ) → is_there o ≡ list_any (λ b. nat_eq b outer) bs → is_there (if c then Some 0 else option_map suc o) ≡ c || list_any (λ b. nat_eq b outer) bs
    by true o e = refl
    by false None e = e
    by false (Some n) e = e

around_alike : (bs : List ℕ) (outer : Option ℕ) → old.stands_around bs outer ≡ new.stands_around bs outer
around_alike bs None = refl
around_alike bs (Some outer) = around_is bs outer (old.outward_to bs outer) refl ∙ there_any bs outer

-- ---- choices

same_if : {A : Type 0} (b : Bool) (x y z : A) → (b ≡ true → x ≡ y) → (if b then x else z) ≡ (if b then y else z)
same_if true x y z h = h refl
same_if false x y z h = refl

both_if : {A : Type 0} (a b : Bool) (x z : A) → (if a && b then x else z) ≡ (if a then if b then x else z else z)
both_if true b x z = refl
both_if false b x z = refl

none_if : {A : Type 0} (b : Bool) (x : A) → x ≡ (if b then x else x)
none_if true x = refl
none_if false x = refl

map_if : {A B : Type 0} (f : A → B) (b : Bool) (x : Option A) → option_map f (if b then x else None) ≡ (if b then option_map f x else None)
map_if f true x = refl
map_if f false x = refl

module _ (r : ResolvedUnit) where
  numbers_in : (block : ℕ) (o : Option ResolvedBlock)
      → old.of_block (λ (b : ResolvedBlock). if old.is_procedure b.kind then b.parameters else []) [] o
      ≡ unwrap_or (option_map (λ (b : ResolvedBlock). b.parameters) (o >>= λ (b : ResolvedBlock). if new.is_procedure b.kind then Some b else None)) []
  numbers_in block None = refl
  numbers_in block (Some b) = procedure_kind b.kind b (λ (b : ResolvedBlock). b.parameters) []

  pub numbers_alike : (block : ℕ) → old.parameter_numbers r block ≡ new.parameter_numbers r block
  numbers_alike block = numbers_in block (slice_get r.blocks block)

  pub parameters_alike : (block : ℕ) → old.parameters_of r block ≡ new.parameters_of r block
  parameters_alike block =
      ap (map (λ number. old.type_in (slice_get (old.block_symbols r block) number))) (numbers_alike block)
      ∙ ap (λ f. map f (new.parameter_numbers r block)) (fun_ext (λ number. type_alike (slice_get (old.block_symbols r block) number)))

  named_in : (o : Option ResolvedBlock)
      → old.of_block (λ (b : ResolvedBlock). if old.is_procedure b.kind then b.name else None) None o
      ≡ (o >>= λ (b : ResolvedBlock). if new.is_procedure b.kind then Some b else None) >>= λ (b : ResolvedBlock). b.name
  named_in None = refl
  named_in (Some b) = by b.kind
    where
      by : (k : ResolvedBlockKind) → (if old.is_procedure k then b.name else None) ≡ (if new.is_procedure k then Some b else None) >>= λ (b : ResolvedBlock). b.name
      by kinds.Procedure = refl
      by kinds.Begin = refl
      by kinds.OnUnit = refl

  returned_under : (o : Option SymbolKey) → option_and_then (λ key. old.returned_by (symbol_at r key)) o ≡ (new.returns_of (unwrap_or (option_map (new.kind_at r) o) BuiltIn)).0
  returned_under None = refl
  returned_under (Some key) = returned_by_alike (symbol_at r key)

  pub returned_alike : (block : ℕ) → old.returned_of r block ≡ (new.returns_at r block).0
  returned_alike block =
      ap (option_and_then (λ key. old.returned_by (symbol_at r key))) (named_in (slice_get r.blocks block))
      ∙ returned_under (new.procedure_at r block >>= λ (b : ResolvedBlock). b.name)

  area_under : (o : Option SymbolKey) → option_and_then (λ key. old.area_returned_by (symbol_at r key)) o ≡ (new.returns_of (unwrap_or (option_map (new.kind_at r) o) BuiltIn)).1
  area_under None = refl
  area_under (Some key) = area_by_alike (symbol_at r key)

  pub returned_area_alike : (block : ℕ) → old.returned_area_of r block ≡ (new.returns_at r block).1
  returned_area_alike block =
      ap (option_and_then (λ key. old.area_returned_by (symbol_at r key))) (named_in (slice_get r.blocks block))
      ∙ area_under (new.procedure_at r block >>= λ (b : ResolvedBlock). b.name)

  -- the symbol of a number in a slot
  slot_alike : (numbers : List ℕ) (slot number : ℕ) (o : Option ℕ) → slice_get numbers slot ≡ o → old.is_parameter numbers slot number ≡ new.is_in_slot numbers slot number
  slot_alike numbers slot number None e = rw e refl
  slot_alike numbers slot number (Some n) e = rw e refl

  module _ (alike : (block : ℕ) → AreAlike (new.block_symbols r block)) (globals : AllByRecursion AreAlike (all_symbols r)) where
    -- the symbol under a key
    one_of : (ss : List Symbol) (n : ℕ) (s : Symbol) → AreAlike ss → slice_get ss n ≡ Some s → IsAlike s.kind
    one_of [] n s h e = absurd (none-some s e)
    one_of (t ∷ ss) zero s h e = subst (λ (s : Symbol). IsAlike s.kind) (same_Some t s e) h.0
    one_of (t ∷ ss) (suc n) s h e = one_of ss n s h.1 e

    symbol_alike : (key : SymbolKey) (o : Option Symbol) → symbol_at r key ≡ o → IsAlike (kind_of o)
    symbol_alike key None e = tt
    symbol_alike key (Some s) e = one_of (new.block_symbols r key.block) key.number s (alike key.block) e

    kind_alike : (key : SymbolKey) → IsAlike (new.kind_at r key)
    kind_alike key = symbol_alike key (symbol_at r key) refl

    -- what is declared as something that counts is there
    there : (key : SymbolKey) (k : SymbolKind) → new.kind_at r key ≡ k → (k ≡ BuiltIn → ⊥) → (s : Symbol) × (symbol_at r key ≡ Some s) × (s.kind ≡ k)
    there key k e some = by (symbol_at r key) refl e
      where
        by : (o : Option Symbol) → symbol_at r key ≡ o → kind_of o ≡ k → (s : Symbol) × (symbol_at r key ≡ Some s) × (s.kind ≡ k)
        by None is e = absurd (some (sym e))
        by (Some s) is e = (s, is, e)

    module _ (blocks : List ℕ) where
      slots_alike : (block slot : ℕ) → old.in_slot (old.outward_to blocks block) slot ≡ new.in_slot blocks block slot
      slots_alike block slot = ap (option_map (λ o. InSlot o slot)) (outward_alike blocks block)

      -- where a variable begins
      module _ (key : SymbolKey) (d : Description) (class : StorageClass) (scope : ScopeAttribute) (initial : List InitialValue) (own : Option SymbolKey)
          (is : new.kind_at r key ≡ Variable d class scope initial own) where
        stored : AreStored d
        stored = subst IsAlike is (kind_alike key)

        found : (s : Symbol) × (symbol_at r key ≡ Some s) × (s.kind ≡ Variable d class scope initial own)
        found = there key (Variable d class scope initial own) is (λ e. absurd cc)

        tested : (is_such : StorageClass → Bool) → is_such class ≡ true → new.may_stand class d ≡ true → new.is_variable is_such (found.0).kind ≡ true
        tested is_such such may = ap (new.is_variable is_such) found.2 ∙ and_from _ _ such may

        place : (such : StorageClass → Description → Bool) (is_such : StorageClass → Bool) → SameTest such is_such → is_such class ≡ true → new.may_stand class d ≡ true
            → old.such_before such (new.block_symbols r key.block) key.number ≡ new.count_before key (new.variables_in r is_such key.block)
        place such is_such same of may =
            counted such is_such same key.block key.number (new.block_symbols r key.block) 0 key.number found.0 (alike key.block) (omega arith) found.1 (tested is_such of may)

        number : new.is_lasting class ≡ true → new.may_stand class d ≡ true → old.global_number 63 r key ≡ new.global_number r key
        number of may = number_alike r globals key found.0 found.1 (ap new.is_global found.2 ∙ and_from _ _ of may)

        slotted : (slot : ℕ) → old.is_parameter (old.parameter_numbers r key.block) slot key.number ≡ new.is_in_slot (new.parameter_numbers r key.block) slot key.number
        slotted slot =
            ap (λ ns. old.is_parameter ns slot key.number) (numbers_alike key.block)
            ∙ slot_alike (new.parameter_numbers r key.block) slot key.number (slice_get (new.parameter_numbers r key.block) slot) refl

        automatic_alike : new.is_automatic class ≡ true → new.may_stand class d ≡ true
            → old.in_slot (old.outward_to blocks key.block) (length (old.parameter_numbers r key.block) + old.such_before (old.is_automatic 63) (new.block_symbols r key.block) key.number)
            ≡ new.in_slot blocks key.block (length (new.parameter_numbers r key.block) + new.count_before key (new.variables_in r new.is_automatic key.block))
        automatic_alike of may =
            slots_alike key.block _
            ∙ ap (λ ns. new.in_slot blocks key.block (length ns + old.such_before (old.is_automatic 63) (new.block_symbols r key.block) key.number)) (numbers_alike key.block)
            ∙ ap (λ k. new.in_slot blocks key.block (length (new.parameter_numbers r key.block) + k)) (place (old.is_automatic 63) new.is_automatic automatic_test of may)

        root_by : (c : StorageClass) → class ≡ c → old.root_of 63 r blocks key c d ≡ (if new.may_stand c d then new.root_of r blocks key c else None)
        root_by classes.Automatic e =
            ap (λ b. if b then old.in_slot (old.outward_to blocks key.block) (length (old.parameter_numbers r key.block) + old.such_before (old.is_automatic 63) (new.block_symbols r key.block) key.number) else None) stored.0
            ∙ same_if (new.may_stand classes.Automatic d) _ _ None (λ may. automatic_alike (ap new.is_automatic e) (ap (λ c. new.may_stand c d) e ∙ may))
        root_by (classes.Parameter slot) e =
            let old_slot = old.is_parameter (old.parameter_numbers r key.block) slot key.number in
            let may = new.may_stand (classes.Parameter slot) d in
            ap (λ b. if b && old_slot then old.in_slot (old.outward_to blocks key.block) slot else None) stored.0
            ∙ both_if may old_slot (old.in_slot (old.outward_to blocks key.block) slot) None
            ∙ ap (λ b. if may then if b then old.in_slot (old.outward_to blocks key.block) slot else None else None) (slotted slot)
            ∙ ap (λ x. if may then if new.is_in_slot (new.parameter_numbers r key.block) slot key.number then x else None else None) (slots_alike key.block slot)
        root_by classes.Static e =
            ap (λ b. if b then Some (OfProgram (old.global_number 63 r key)) else None) stored.0
            ∙ same_if (new.may_stand classes.Static d) _ _ None (λ may. ap (λ k. Some (OfProgram k)) (number (ap new.is_lasting e) (ap (λ c. new.may_stand c d) e ∙ may)))
        root_by classes.Controlled e =
            ap (λ b. if b then Some (NewestOf (old.global_number 63 r key)) else None) stored.0
            ∙ same_if (new.may_stand classes.Controlled d) _ _ None (λ may. ap (λ k. Some (NewestOf k)) (number (ap new.is_lasting e) (ap (λ c. new.may_stand c d) e ∙ may)))
        root_by (classes.Based locator) e = none_if (new.may_stand (classes.Based locator) d) None

        pub root_alike : old.root_of 63 r blocks key class d ≡ (if new.may_stand class d then new.root_of r blocks key class else None)
        root_alike = root_by class refl

      -- a reference without subscripts
      abbrev plain : Option VariableName → Option PlainReference
      plain o = do
        v ← o
        d ← stated v.whole
        root ← new.root_of r blocks v.key v.class
        p ← part_on (whole_part d) v.path
        new.where_holds (nat_eq (length p.strides) 0) (record { reference = reference_to root v.path p []; type = Stated p.description; area = v.area })

      abbrev parts : Root → (path : List ℕ) → (area : Option SymbolKey) → Option StridedPart → Option PlainReference
      parts root path area q = do
        p ← q
        new.where_holds (nat_eq (length p.strides) 0) (record { reference = reference_to root path p []; type = Stated p.description; area = area })

      abbrev reference_from : Option Root → Description → (path : List ℕ) → (area : Option SymbolKey) → Option PlainReference
      reference_from o d path area = o >>= λ root. parts root path area (part_on (whole_part d) path)

      abbrev its_area : Option PlainReference → Option Beginning
      its_area o = o >>= λ (p : PlainReference). area_meant p.reference p.type

      abbrev its_locator : Option PlainReference → Option LocatorVariable
      its_locator o = o >>= λ (p : PlainReference). locator_at p.reference p.type (new.area_named r blocks p.area)

      no_area : (path : List ℕ) (d : Description) → old.area_on path d None ≡ None
      no_area [] (Area bytes) = refl
      no_area [] d = refl
      no_area (i ∷ path) d = refl

      whole_area : (root : Root) (d : Description) → old.area_on [] d (Some root) ≡ area_meant (Whole root) (Stated d)
      whole_area root (Area bytes) = refl
      whole_area root d = refl

      member_area : (root : Root) (i : ℕ) (path : List ℕ) (area : Option SymbolKey) (q : Option StridedPart) → None ≡ its_area (parts root (i ∷ path) area q)
      member_area root i path area None = refl
      member_area root i path area (Some p) = by (nat_eq (length p.strides) 0)
        where
          by : (b : Bool) → None ≡ its_area (if b then Some (record { reference = reference_to root (i ∷ path) p []; type = Stated p.description; area = area }) else None)
          by true = refl
          by false = refl

      area_from : (o : Option Root) (d : Description) (path : List ℕ) (area : Option SymbolKey) → old.area_on path d o ≡ its_area (reference_from o d path area)
      area_from None d path area = no_area path d
      area_from (Some root) d [] area = whole_area root d
      area_from (Some root) d (i ∷ path) area = member_area root i path area (part_on (whole_part d) (i ∷ path))

      locator_from : (o : Option Root) (d : Description) (path : List ℕ) (area : Option SymbolKey)
          → old.locator_on o d path (new.area_named r blocks area) ≡ its_locator (reference_from o d path area)
      locator_from None d path area = refl
      locator_from (Some root) d path area = by (part_on (whole_part d) path)
        where
          chosen : (p : StridedPart) (b : Bool)
              → (if b then locator_at (reference_to root path p []) (Stated p.description) (new.area_named r blocks area) else None)
              ≡ its_locator (if b then Some (record { reference = reference_to root path p []; type = Stated p.description; area = area }) else None)
          chosen p true = refl
          chosen p false = refl

          by : (q : Option StridedPart) → old.locator_part root path (new.area_named r blocks area) q ≡ its_locator (parts root path area q)
          by None = refl
          by (Some p) = chosen p (nat_eq (length p.strides) 0)

      named_plain : (key : SymbolKey) (d : Description) (class : StorageClass) (path : List ℕ) (area : Option SymbolKey) (b : Bool)
          → plain (if b then Some (record { key = key; class = class; whole = Stated d; path = path; area = area }) else None)
          ≡ reference_from (if b then new.root_of r blocks key class else None) d path area
      named_plain key d class path area true = refl
      named_plain key d class path area false = refl

      -- the area that a variable is, or a member of it
      variable_area : (key : SymbolKey) (i : Identifier) (k : SymbolKind) (path : List ℕ) (area : Option SymbolKey) → new.kind_at r key ≡ k
          → old.area_in 63 r blocks key path (Some (record { identifier = i; kind = k })) ≡ its_area (plain (new.name_within key path area k))
      variable_area key i (Variable d class scope initial own) path area e =
          ap (old.area_on path d) (root_alike key d class scope initial own e)
          ∙ area_from (if new.may_stand class d then new.root_of r blocks key class else None) d path area
          ∙ ap its_area (sym (named_plain key d class path area (new.may_stand class d)))
      variable_area key i (OpenParameter type slot own) path area e = refl
      variable_area key i (Member root way initial own) path area e = refl
      variable_area key i (Label statement) path area e = refl
      variable_area key i (Procedure block returned own) path area e = refl
      variable_area key i (Entry parameters returned own) path area e = refl
      variable_area key i BuiltIn path area e = refl

      owner_area : (key : SymbolKey) (path : List ℕ) (area : Option SymbolKey) (o : Option Symbol) → symbol_at r key ≡ o
          → old.area_in 63 r blocks key path o ≡ its_area (plain (new.name_within key path area (kind_of o)))
      owner_area key path area None e = refl
      owner_area key path area (Some s) e = variable_area key s.identifier s.kind path area (ap kind_of e)

      open_nowhere : (key : SymbolKey) (type : ParameterType) (slot : ℕ) (area : Option SymbolKey) → plain (new.name_under r key (OpenParameter type slot area)) ≡ None
      open_nowhere key (Stated d) slot area = refl
      open_nowhere key (AnyString form) slot area = refl
      open_nowhere key (AnyArray dimensions element) slot area = refl
      open_nowhere key (ArrayOf bounds element) slot area = refl
      open_nowhere key (StructureOf types) slot area = refl

      kind_area : (key : SymbolKey) (i : Identifier) (k : SymbolKind) → new.kind_at r key ≡ k
          → old.area_at 63 r blocks key (Some (record { identifier = i; kind = k })) ≡ its_area (plain (new.name_under r key k))
      kind_area key i (Variable d class scope initial own) e = variable_area key i (Variable d class scope initial own) [] own e
      kind_area key i (Member root path initial own) e =
          let owner : SymbolKey = record { block = key.block; number = root } in
          owner_area owner path own (symbol_at r owner) refl
      kind_area key i (OpenParameter type slot own) e = ap its_area (sym (open_nowhere key type slot own))
      kind_area key i (Label statement) e = refl
      kind_area key i (Procedure block returned own) e = refl
      kind_area key i (Entry parameters returned own) e = refl
      kind_area key i BuiltIn e = refl

      key_area : (key : SymbolKey) (o : Option Symbol) → symbol_at r key ≡ o → old.area_at 63 r blocks key o ≡ its_area (plain (new.name_under r key (kind_of o)))
      key_area key None e = refl
      key_area key (Some s) e = kind_area key s.identifier s.kind (ap kind_of e)

      pub area_alike : (named : Option SymbolKey) → old.area_named 63 r blocks named ≡ new.area_named r blocks named
      area_alike None = refl
      area_alike (Some key) = key_area key (symbol_at r key) refl

      -- the locator that a variable is, or a member of it
      variable_locator : (key : SymbolKey) (i : Identifier) (k : SymbolKind) (path : List ℕ) (area : Option SymbolKey) → new.kind_at r key ≡ k
          → old.locator_in 63 r blocks key path (old.area_named 63 r blocks area) (Some (record { identifier = i; kind = k })) ≡ its_locator (plain (new.name_within key path area k))
      variable_locator key i (Variable d class scope initial own) path area e =
          ap (λ o. old.locator_on o d path (old.area_named 63 r blocks area)) (root_alike key d class scope initial own e)
          ∙ ap (old.locator_on (if new.may_stand class d then new.root_of r blocks key class else None) d path) (area_alike area)
          ∙ locator_from (if new.may_stand class d then new.root_of r blocks key class else None) d path area
          ∙ ap its_locator (sym (named_plain key d class path area (new.may_stand class d)))
      variable_locator key i (OpenParameter type slot own) path area e = refl
      variable_locator key i (Member root way initial own) path area e = refl
      variable_locator key i (Label statement) path area e = refl
      variable_locator key i (Procedure block returned own) path area e = refl
      variable_locator key i (Entry parameters returned own) path area e = refl
      variable_locator key i BuiltIn path area e = refl

      owner_locator : (key : SymbolKey) (path : List ℕ) (area : Option SymbolKey) (o : Option Symbol) → symbol_at r key ≡ o
          → old.locator_in 63 r blocks key path (old.area_named 63 r blocks area) o ≡ its_locator (plain (new.name_within key path area (kind_of o)))
      owner_locator key path area None e = refl
      owner_locator key path area (Some s) e = variable_locator key s.identifier s.kind path area (ap kind_of e)

      kind_locator : (key : SymbolKey) (i : Identifier) (k : SymbolKind) → new.kind_at r key ≡ k
          → old.locator_meant 63 r blocks key (Some (record { identifier = i; kind = k })) ≡ its_locator (plain (new.name_under r key k))
      kind_locator key i (Variable d class scope initial own) e = variable_locator key i (Variable d class scope initial own) [] own e
      kind_locator key i (Member root path initial own) e =
          let owner : SymbolKey = record { block = key.block; number = root } in
          owner_locator owner path own (symbol_at r owner) refl
      kind_locator key i (OpenParameter type slot own) e = ap its_locator (sym (open_nowhere key type slot own))
      kind_locator key i (Label statement) e = refl
      kind_locator key i (Procedure block returned own) e = refl
      kind_locator key i (Entry parameters returned own) e = refl
      kind_locator key i BuiltIn e = refl

      key_locator : (key : SymbolKey) (o : Option Symbol) → symbol_at r key ≡ o → old.locator_meant 63 r blocks key o ≡ its_locator (plain (new.name_under r key (kind_of o)))
      key_locator key None e = refl
      key_locator key (Some s) e = kind_locator key s.identifier s.kind (ap kind_of e)

      locator_alike : (named : Option SymbolKey) → old.locator_named 63 r blocks named ≡ new.locator_named r blocks named
      locator_alike None = refl
      locator_alike (Some key) = key_locator key (symbol_at r key) refl

      -- ---- storage

      module _ (key : SymbolKey) (d : Description) (class : StorageClass) (scope : ScopeAttribute) (initial : List InitialValue) (own : Option SymbolKey)
          (is : new.kind_at r key ≡ Variable d class scope initial own) where
        abbrev begins : (is_parameter : Bool) → Root → NamedStorage
        begins is_parameter root = Begins root is_parameter

        rooted : (is_parameter : Bool) (c : StorageClass) → class ≡ c
            → option_map (begins is_parameter) (old.root_of 63 r blocks key c d) ≡ (if new.may_stand c d then option_map (begins is_parameter) (new.root_of r blocks key c) else None)
        rooted is_parameter c e =
            ap (option_map (begins is_parameter)) (root_by key d class scope initial own is c e)
            ∙ map_if (begins is_parameter) (new.may_stand c d) (new.root_of r blocks key c)

        storage_by : (c : StorageClass) → class ≡ c → old.storage_of 63 r blocks key c d ≡ (if new.may_stand c d then new.storage_of r blocks key c else None)
        storage_by classes.Automatic e = rooted false classes.Automatic e
        storage_by (classes.Parameter slot) e = rooted true (classes.Parameter slot) e
        storage_by classes.Static e = rooted false classes.Static e
        storage_by classes.Controlled e = rooted false classes.Controlled e
        storage_by (classes.Based locator) e =
            ap (λ b. if b then Some (IsBased key.block (old.such_before (old.is_based 63) (new.block_symbols r key.block) key.number) (old.locator_named 63 r blocks locator)) else None)
            (stored key d class scope initial own is).1
            ∙ same_if (new.may_stand (classes.Based locator) d) _ _ None (λ may.
            ap (λ k. Some (IsBased key.block k (old.locator_named 63 r blocks locator)))
            (place key d class scope initial own is (old.is_based 63) new.is_based based_test (ap new.is_based e) (ap (λ c. new.may_stand c d) e ∙ may))
            ∙ ap (λ l. Some (IsBased key.block (new.count_before key (new.variables_in r new.is_based key.block)) l)) (locator_alike locator))

        storage_alike : old.storage_of 63 r blocks key class d ≡ (if new.may_stand class d then new.storage_of r blocks key class else None)
        storage_alike = storage_by class refl

      -- ---- what names mean

      abbrev shown : Option NamedAs → NamedAs
      shown o = unwrap_or o Untyped

      from_storage : (st : Option NamedStorage) (v : VariableName)
          → old.variable_from st v.whole v.path (new.area_named r blocks v.area)
          ≡ shown (st >>= λ storage. Some (AVariable (record { storage = storage; whole = v.whole; path = v.path; area = new.area_named r blocks v.area })))
      from_storage None v = refl
      from_storage (Some storage) v = refl

      variable_if : (v : VariableName) (b : Bool)
          → old.variable_from (if b then new.storage_of r blocks v.key v.class else None) v.whole v.path (new.area_named r blocks v.area)
          ≡ shown ((if b then Some v else None) >>= new.variable_named r blocks)
      variable_if v true = from_storage (new.storage_of r blocks v.key v.class) v
      variable_if v false = refl

      variable_meant : (key : SymbolKey) (i : Identifier) (k : SymbolKind) (path : List ℕ) (area : Option SymbolKey) → new.kind_at r key ≡ k
          → old.variable_at 63 r blocks key path (old.area_named 63 r blocks area) (Some (record { identifier = i; kind = k })) ≡ shown (new.name_within key path area k >>= new.variable_named r blocks)
      variable_meant key i (Variable d class scope initial own) path area e =
          ap (λ s. old.variable_from s (Stated d) path (old.area_named 63 r blocks area)) (storage_alike key d class scope initial own e)
          ∙ ap (old.variable_from (if new.may_stand class d then new.storage_of r blocks key class else None) (Stated d) path) (area_alike area)
          ∙ variable_if (record { key = key; class = class; whole = Stated d; path = path; area = area }) (new.may_stand class d)
      variable_meant key i (OpenParameter type slot own) path area e = refl
      variable_meant key i (Member root way initial own) path area e = refl
      variable_meant key i (Label statement) path area e = refl
      variable_meant key i (Procedure block returned own) path area e = refl
      variable_meant key i (Entry parameters returned own) path area e = refl
      variable_meant key i BuiltIn path area e = refl

      owner_meant : (key : SymbolKey) (path : List ℕ) (area : Option SymbolKey) (o : Option Symbol) → symbol_at r key ≡ o
          → old.variable_at 63 r blocks key path (old.area_named 63 r blocks area) o ≡ shown (new.name_within key path area (kind_of o) >>= new.variable_named r blocks)
      owner_meant key path area None e = refl
      owner_meant key path area (Some s) e = variable_meant key s.identifier s.kind path area (ap kind_of e)

      -- a parameter in which a `*` stands
      rooted_open : (key : SymbolKey) (type : ParameterType) (slot : ℕ) → old.is_open_parameter 63 type ≡ not (is_stated type)
          → old.open_root 63 r blocks key slot type ≡ (if not (is_stated type) then new.root_of r blocks key (classes.Parameter slot) else None)
      rooted_open key type slot h =
          let old_slot : Bool = old.is_parameter (old.parameter_numbers r key.block) slot key.number in
          ap (λ b. if b && old_slot then old.in_slot (old.outward_to blocks key.block) slot else None) h
          ∙ both_if (not (is_stated type)) old_slot (old.in_slot (old.outward_to blocks key.block) slot) None
          ∙ ap (λ b. if not (is_stated type) then if b then old.in_slot (old.outward_to blocks key.block) slot else None else None)
          (ap (λ ns. old.is_parameter ns slot key.number) (numbers_alike key.block)
          ∙ slot_alike (new.parameter_numbers r key.block) slot key.number (slice_get (new.parameter_numbers r key.block) slot) refl)
          ∙ ap (λ x. if not (is_stated type) then if new.is_in_slot (new.parameter_numbers r key.block) slot key.number then x else None else None) (slots_alike key.block slot)

      open_if : (v : VariableName) (root : Option Root) (b : Bool) → new.storage_of r blocks v.key v.class ≡ option_map (λ root. Begins root true) root
          → old.variable_from (old.open_storage (if not b then root else None)) v.whole v.path (new.area_named r blocks v.area)
          ≡ shown (new.where_holds (not b) v >>= new.variable_named r blocks)
      open_if v root true e = refl
      open_if v root false e =
          ap (λ st. old.variable_from st v.whole v.path (new.area_named r blocks v.area)) (sym e)
          ∙ from_storage (new.storage_of r blocks v.key v.class) v

      open_meant : (key : SymbolKey) (type : ParameterType) (slot : ℕ) (area : Option SymbolKey) → IsAlike (OpenParameter type slot area)
          → old.variable_from (old.open_storage (old.open_root 63 r blocks key slot type)) type [] (old.area_named 63 r blocks area)
          ≡ shown (new.name_under r key (OpenParameter type slot area) >>= new.variable_named r blocks)
      open_meant key type slot area h =
          ap (λ o. old.variable_from (old.open_storage o) type [] (old.area_named 63 r blocks area)) (rooted_open key type slot h)
          ∙ ap (old.variable_from (old.open_storage (if not (is_stated type) then new.root_of r blocks key (classes.Parameter slot) else None)) type []) (area_alike area)
          ∙ open_if (record { key = key; class = classes.Parameter slot; whole = type; path = []; area = area }) (new.root_of r blocks key (classes.Parameter slot)) (is_stated type) refl

      -- procedures
      as_procedure : (b c : Bool) (p q : NamedProcedure) → b ≡ c → p ≡ q
          → (if b then AProcedure p else Untyped) ≡ shown (if c then Some (AProcedure q) else None)
      as_procedure b c p q e f = ap (λ x. if x then AProcedure p else Untyped) e ∙ ap (λ x. if c then AProcedure x else Untyped) f ∙ by c
        where
          by : (c : Bool) → (if c then AProcedure q else Untyped) ≡ shown (if c then Some (AProcedure q) else None)
          by true = refl
          by false = refl

      heading_alike : (block : ℕ) → IsGiven (new.returns_at r block).0
      heading_alike block = by (new.procedure_at r block >>= λ (b : ResolvedBlock). b.name)
        where
          by : (o : Option SymbolKey) → IsGiven (new.returns_of (unwrap_or (option_map (new.kind_at r) o) BuiltIn)).0
          by None = refl
          by (Some key) = given_of_kind (new.kind_at r key) (kind_alike key)

      abbrev procedure_with : (block : ℕ) → List ParameterType → Option Description → Option Beginning → NamedProcedure
      procedure_with block parameters returned area = record { callee = OfBlock block; parameters = parameters; returned = returned; area = area }

      abbrev its_procedure : (block : ℕ) → NamedProcedure
      its_procedure block =
          procedure_with block (new.parameters_of r block) (new.returns_at r block).0 (new.area_named r blocks (new.returns_at r block).1)

      abbrev its_meaning : (block : ℕ) → Option NamedAs
      its_meaning block =
          new.procedure_as (OfBlock block) (new.parameters_of r block) (new.returns_at r block).0 (new.area_named r blocks (new.returns_at r block).1)

      same_procedure : (block : ℕ) → old.named_procedure 63 r blocks block ≡ its_procedure block
      same_procedure block =
          ap (λ ps. procedure_with block ps (old.returned_of r block) (old.area_named 63 r blocks (old.returned_area_of r block))) (parameters_alike block)
          ∙ ap (λ d. procedure_with block (new.parameters_of r block) d (old.area_named 63 r blocks (old.returned_area_of r block))) (returned_alike block)
          ∙ ap (procedure_with block (new.parameters_of r block) (new.returns_at r block).0)
          (area_alike (old.returned_area_of r block) ∙ ap (new.area_named r blocks) (returned_area_alike block))

      given_by_block : (block : ℕ) → old.gives_stored 63 (old.returned_of r block) ≡ unwrap_or (option_map new.is_returned (new.returns_at r block).0) true
      given_by_block block = ap (old.gives_stored 63) (returned_alike block) ∙ heading_alike block

      abbrev as_old : (block : ℕ) → Bool → NamedAs
      as_old block reached = if reached && old.gives_stored 63 (old.returned_of r block) then AProcedure (old.named_procedure 63 r blocks block) else Untyped

      reached : (block : ℕ) (c : ResolvedBlock) (a b : Bool) → a ≡ b → as_old block a ≡ shown (new.where_holds b c >>= λ (b : ResolvedBlock). its_meaning block)
      reached block c true true e =
          as_procedure (old.gives_stored 63 (old.returned_of r block)) (unwrap_or (option_map new.is_returned (new.returns_at r block).0) true)
          (old.named_procedure 63 r blocks block) (its_procedure block) (given_by_block block) (same_procedure block)
      reached block c false false e = refl
      reached block c true false e = absurd cc
      reached block c false true e = absurd cc

      block_of_kind : (block : ℕ) (k : ResolvedBlockKind) (b : ResolvedBlock)
          → as_old block (old.is_procedure k && old.stands_around blocks b.outer)
          ≡ shown (new.where_holds (new.is_procedure k) b >>= λ (b : ResolvedBlock). new.where_holds (new.stands_around blocks b.outer) b >>= λ (b : ResolvedBlock). its_meaning block)
      block_of_kind block kinds.Procedure b = reached block b (old.stands_around blocks b.outer) (new.stands_around blocks b.outer) (around_alike blocks b.outer)
      block_of_kind block kinds.Begin b = refl
      block_of_kind block kinds.OnUnit b = refl

      block_meant : (block : ℕ) (o : Option ResolvedBlock)
          → as_old block (old.is_reached blocks o)
          ≡ shown ((o >>= λ (b : ResolvedBlock). new.where_holds (new.is_procedure b.kind) b) >>= λ (b : ResolvedBlock). new.where_holds (new.stands_around blocks b.outer) b >>= λ (b : ResolvedBlock). its_meaning block)
      block_meant block None = refl
      block_meant block (Some b) = block_of_kind block b.kind b

      procedure_meant : (block : ℕ) → old.procedure_named 63 r blocks block ≡ shown (new.block_named r blocks block)
      procedure_meant block = block_meant block (slice_get r.blocks block)

      entry_meant : (key : SymbolKey) (parameters : List ParameterType) (returned : Option Description) (area : Option SymbolKey)
          → new.kind_at r key ≡ Entry parameters returned area
          → old.entry_named 63 (old.global_number 63 r key) parameters returned (old.area_named 63 r blocks area)
          ≡ shown (new.procedure_as (OfEntry (new.global_number r key)) parameters returned (new.area_named r blocks area))
      entry_meant key parameters returned area e =
          let found = there key (Entry parameters returned area) e (λ is. absurd cc) in
          let given : IsGiven returned = subst IsAlike e (kind_alike key) in
          as_procedure (old.gives_stored 63 returned) _ _ _ given
          (ap (λ k. record { callee = OfEntry k; parameters = parameters; returned = returned; area = old.area_named 63 r blocks area })
          (number_alike r globals key found.0 found.1 (ap new.is_global found.2))
          ∙ ap (λ a. record { callee = OfEntry (new.global_number r key); parameters = parameters; returned = returned; area = a }) (area_alike area))

      kind_meant : (key : SymbolKey) (k : SymbolKind) → new.kind_at r key ≡ k → old.symbol_meant 63 r blocks key k ≡ shown (new.declared_as r blocks key k)
      kind_meant key (Variable d class scope initial own) e =
          variable_meant key (record { name = []; at = 0 }) (Variable d class scope initial own) [] own e
      kind_meant key (OpenParameter type slot own) e = open_meant key type slot own (subst IsAlike e (kind_alike key))
      kind_meant key (Member root path initial own) e =
          let owner : SymbolKey = record { block = key.block; number = root } in
          owner_meant owner path own (symbol_at r owner) refl
      kind_meant key (Label statement) e = refl
      kind_meant key (Procedure block returned own) e = procedure_meant block
      kind_meant key (Entry parameters returned own) e = entry_meant key parameters returned own e
      kind_meant key BuiltIn e = refl

      declared_from : (key : SymbolKey) (o : Option Symbol) → symbol_at r key ≡ o → old.declared_as 63 r blocks key ≡ shown (new.declared_as r blocks key (kind_of o))
      declared_from key None e = opened
        where
          opened : old.declared_as 63 r blocks key ≡ Untyped
          opened = rw e refl
      declared_from key (Some s) e = opened ∙ kind_meant key s.kind (ap kind_of e)
        where
          opened : old.declared_as 63 r blocks key ≡ old.symbol_meant 63 r blocks key s.kind
          opened = rw e refl

      pub named_alike : (o : Option NameMeaning) → old.named_as 63 r blocks o ≡ new.named_as r blocks o
      named_alike None = refl
      named_alike (Some (meanings.BuiltIn function)) = refl
      named_alike (Some (meanings.Symbol key)) = declared_from key (symbol_at r key) refl
