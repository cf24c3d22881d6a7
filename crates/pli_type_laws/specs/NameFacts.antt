-- Facts about the names of a unit (own): where its variables begin, which parts of them references lead to,
-- and which procedures are called.
use Rattle.std.specs.Prelude.{◌≡◌, ℕ, false, IsTrue, Option, Some, None, List, [], ◌∷◌, length, map}
use Rattle.std.specs.Prelude.{slice_get}
use Rattle.std.specs.List.{AllByRecursion}
use Rattle.pli_map.specs.Description.{Description, Pointer, Offset}
use Rattle.pli_map.specs.ParameterTypes.{ParameterType, Stated}
use Rattle.pli_map.specs.Scalars.{is_area}
use Rattle.pli_declare.specs.declared.block_numbers.ResolvedBlockKind.TheVariants as kinds
use Rattle.pli_type_rules.specs.Beginnings.{whole_at}
use Rattle.pli_type_rules.specs.NamedUnits.{is_plain, may_stand, may_be, outward_to, names_based}
use Rattle.pli_type_rules.specs.Names.{NamedUnit, LocatorVariable, OfPointer, OfOffset, NamedStorage, Begins}
use Rattle.pli_type_rules.specs.Names.{IsBased, NamedVariable, AVariable}
use Rattle.pli_type_rules.specs.Names.{NamedProcedure, AProcedure}
use Rattle.pli_type_rules.specs.References.{StridedPart, part_of, with_subscripts, subscripts_at, is_passed}
use Rattle.pli_type_rules.specs.declared.beginning.Beginning.{Beginning}
use Rattle.pli_type_tree.specs.Templates.{Template, variable_of}
use Rattle.pli_type_tree.specs.Globals.{signature_of, templates_in}
use Rattle.pli_type_tree.specs.TypedTree.{Callee, OfBlock, OfEntry, TypedExpression}
use Rattle.pli_type_tree.specs.WellTyped.{IsMade, AreMade, BlockAround, LeadTo, TypingContext, BeginsWhole}
use Rattle.pli_type_tree.specs.WellTyped.{IsRooted, IsPlaced, IsAreaReference}
use Rattle.pli_type_laws.specs.SourceBlocks.{SourceBlock, unit_blocks, innermost, slots_in}

-- blocks of these numbers, with the parameters and the slots that a unit gives them
abbrev pub HaveSlots : NamedUnit → (numbers : List ℕ) → List BlockAround → Type 0
HaveSlots u [] [] = Unit {0}
HaveSlots u (n ∷ ns) (b ∷ bs) =
    (b.number ≡ n) × ((b.parameters ≡ length (u.parameters n)) × (b.slots ≡ slots_in u n))
    × HaveSlots u ns bs
HaveSlots u ns bs = ⊥

-- the area that a declaration names is there, if it names one
abbrev pub IsAreaNamed : (greatest : ℕ) → TypingContext → Option Beginning → Type 0
IsAreaNamed n s None = Unit {0}
IsAreaNamed n s (Some area) = IsAreaReference n s (whole_at area)

-- a variable that leads to BASED ones is there: a POINTER; or an OFFSET, and the area that it names
abbrev pub IsLocatorThere : (greatest : ℕ) → TypingContext → LocatorVariable → Type 0
IsLocatorThere n s (OfPointer reference) = IsPlaced n s reference (Stated Pointer)
IsLocatorThere n s (OfOffset reference area) =
    IsPlaced n s reference (Stated Offset) × IsAreaReference n s (whole_at area)

-- the locator that BASED names is, if it names one
abbrev pub IsImplied : (greatest : ℕ) → TypingContext → Option LocatorVariable → Type 0
IsImplied n s None = Unit {0}
IsImplied n s (Some locator) = IsLocatorThere n s locator

-- storage of a variable of this type is there: it begins where that stands, as a whole generation
-- unless the variable is a parameter; or it is wherever a locator leads
abbrev pub IsStoredIn : (greatest : ℕ) → TypingContext → NamedStorage → ParameterType → Type 0
IsStoredIn n s (Begins root is_parameter) whole =
    IsRooted n s root whole × (is_parameter ≡ false → BeginsWhole s root)
IsStoredIn n s (IsBased block number implied) whole = IsImplied n s implied

-- a variable that a name means is there, wherever these blocks are around, and each reference to a part of
-- what is stated leads to that part; and the area is there that its OFFSET names
pub record VariableFacts (u : NamedUnit) (blocks : List ℕ) (v : NamedVariable) : Type 0 where
  pub begins :
      (greatest : ℕ) (s : TypingContext) → s.globals ≡ u.globals → HaveSlots u blocks s.blocks
      → IsStoredIn greatest s v.storage v.whole
  pub area :
      (greatest : ℕ) (s : TypingContext) → s.globals ≡ u.globals → HaveSlots u blocks s.blocks
      → IsAreaNamed greatest s v.area
  pub plain : IsTrue (may_be 63 v.whole)
  -- a `*` stands in parameters alone
  pub own : is_passed v.storage ≡ false → (d : Description) × (v.whole ≡ Stated d)
  -- with as many subscripts as it has levels, or with none where no level above it has subscripts
  pub leads :
      (d : Description) (p q : StridedPart) (xs : List TypedExpression) → v.whole ≡ Stated d
      → part_of v ≡ Some p → with_subscripts (length xs) p ≡ Some q
      → LeadTo d q.offset (subscripts_at q.strides xs) q.description × IsTrue (may_stand 63 q.description)
  -- without members and subscripts it is the whole variable
  pub whole :
      (d : Description) (p q : StridedPart) → v.whole ≡ Stated d → v.path ≡ [] → part_of v ≡ Some p
      → with_subscripts 0 p ≡ Some q → q.description ≡ d

-- the block with this number stands around, or none is asked for
abbrev pub StandsAround : (blocks : List ℕ) → (number : Option ℕ) → Type 0
StandsAround blocks None = Unit {0}
StandsAround blocks (Some number) = (outward : ℕ) × (outward_to blocks number ≡ Some outward)

-- the block of a procedure of the tree, which stands directly in a block around or in none
pub record BlockCalled (u : NamedUnit) (blocks : List ℕ) (p : NamedProcedure) (number : ℕ) : Type 0 where
  pub block : SourceBlock
  pub there : slice_get (unit_blocks u.tree) number ≡ Some block
  pub kind : block.kind ≡ kinds.Procedure
  pub reached : StandsAround blocks (innermost block.around)
  pub parameters : p.parameters ≡ u.parameters number
  pub returned : p.returned ≡ u.returned number

-- what a call calls: such a block, or an entry among the globals
abbrev pub IsCalled : NamedUnit → (blocks : List ℕ) → NamedProcedure → Callee → Type 0
IsCalled u blocks p (OfBlock number) = BlockCalled u blocks p number
IsCalled u blocks p (OfEntry number) =
    signature_of (slice_get u.globals number)
    ≡ Some (record { parameters = p.parameters; result = p.returned })

-- a procedure that a name means is there; what it gives could be held by a variable, and the area is there
-- that its RETURNS names
pub record ProcedureFacts (u : NamedUnit) (blocks : List ℕ) (p : NamedProcedure) : Type 0 where
  pub called : IsCalled u blocks p p.callee
  pub plain : (d : Description) → p.returned ≡ Some d → IsTrue (is_plain 63 d)
  pub area :
      (greatest : ℕ) (s : TypingContext) → s.globals ≡ u.globals → HaveSlots u blocks s.blocks
      → IsAreaNamed greatest s p.area

-- a BASED variable is made well from this, and it is no area
abbrev pub IsBasedTemplate : Template → Type 0
IsBasedTemplate t = IsMade (variable_of t) × (is_area t.description ≡ false)

-- what names mean is there, in all blocks; variables take no more bytes than they may, and begin with values
-- of their scalars; and procedures alone have parameters
pub record NameFacts (u : NamedUnit) : Type 0 where
  pub variables :
      (blocks : List ℕ) (at : ℕ) (v : NamedVariable) → (u.naming blocks).meaning at ≡ AVariable v
      → VariableFacts u blocks v
  pub procedures :
      (blocks : List ℕ) (at : ℕ) (p : NamedProcedure) → (u.naming blocks).meaning at ≡ AProcedure p
      → ProcedureFacts u blocks p
  -- a BEGIN block and an ON-unit have no parameters
  pub without_parameters :
      (number : ℕ) (b : SourceBlock) → slice_get (unit_blocks u.tree) number ≡ Some b
      → (b.kind ≡ kinds.Procedure → ⊥) → u.parameters number ≡ []
  pub automatic : (block : ℕ) → AreMade (map variable_of (u.automatic block))
  pub globals : AreMade (map variable_of (templates_in u.globals))
  pub based : (blocks : List ℕ) (block : ℕ) → AllByRecursion IsBasedTemplate ((u.naming blocks).based block)
  -- the area that RETURNS of a function names is there
  pub returned_areas :
      (blocks : List ℕ) (block greatest : ℕ) (s : TypingContext) → s.globals ≡ u.globals
      → HaveSlots u blocks s.blocks → IsAreaNamed greatest s ((u.naming blocks).returned_area block)

-- it is known where names of BASED variables stand, whatever blocks are around: ALLOCATE has a temporary for
-- each of them
abbrev pub KnowsBased : NamedUnit → Type 0
KnowsBased u =
    (blocks : List ℕ) (at : ℕ) → names_based ((u.naming blocks).meaning at) ≡ u.is_based at
