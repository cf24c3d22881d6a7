-- Sound worlds (own): what the operations keep, and what they need so that none asks for what is not there.
use Rattle.std.specs.Prelude.{◌≡◌, ◌≢◌, ℕ, zero, suc, ◌+◌, ◌^◌, ◌≤◌, ◌<◌, nat_eq, Bool, true, IsTrue}
use Rattle.std.specs.Prelude.{Option, Some, None, List, [], ◌∷◌, ◌⊎◌, length, slice_get}
use Rattle.std.specs.List.{list_any}
use Rattle.pli_base.specs.declared.statement.Condition.{Condition}
use Rattle.pli_run.specs.declared.ending.Ending.TheVariants as message
use Rattle.pli_map.specs.Description.{Description}
use Rattle.pli_map.specs.ParameterTypes.{ParameterType, Stated, agrees}
use Rattle.pli_map.specs.Scalars.{first_scalar, is_area, scalars_of}
use Rattle.pli_map.specs.Sizes.{size_of}
use Rattle.pli_map.specs.Variables.{byte_limit}
use Rattle.pli_world.specs.Activations.{Activation, on_unit_for}
use Rattle.pli_world.specs.Ends.{RunEnd, told}
use Rattle.pli_world.specs.Storage.{Block, Generation, Place, generation_in, generation_limit, offset_limit}
use Rattle.pli_program.specs.declared.kind.VariableKind.{VariableKind}
use Rattle.pli_program.specs.declared.kind.VariableKind.TheVariants.{Static, Controlled}
use Rattle.pli_world.specs.World.{Standing, Lies, Stacked, Stack, World, Answer, Yields, Raises, Wrong}
use Rattle.pli_world.specs.World.{static_in, error_at}
use Rattle.pli_type_tree.specs.Globals.{described_as}
use Rattle.pli_type_tree.specs.TypedTree.{Global, TypedUnit}
use Rattle.pli_type_tree.specs.WellTyped.{AreHeld, BlockAround, IsMade, IsNarrow, KnownProcedure}
use Rattle.pli_meaning_tree.specs.Effects.{Label}
use Rattle.pli_meaning_tree.specs.Parts.{unit_names}

-- each part of one description is a part of another, so many bytes further
abbrev pub IsPartAt : (whole : Description) → (offset : ℕ) → (part : Description) → Type 0
IsPartAt whole offset part =
    (more : ℕ) (d : Description) (k : ℕ) → first_scalar part more d ≡ Some k
    → (j : ℕ) × (first_scalar whole (offset + more) d ≡ Some j)

-- a description so many bytes after the beginning of a generation: each of its parts begins within the limit
-- of offsets
abbrev pub IsNear : (offset : ℕ) → Description → Type 0
IsNear offset whole =
    (more : ℕ) (d : Description) (k : ℕ) → first_scalar whole more d ≡ Some k → offset + more ≤ offset_limit

-- what a place leads into has such a part so many bytes after its beginning: at position 0 its generation,
-- if that lives; and else a block of the whole description that the place has met, as no other serves it
abbrev pub HasPart : World → Place → (offset : ℕ) → Description → Type 0
HasPart w p offset d =
    (p.position ≡ 0 → (g : Generation) → generation_in w.storage p.generation ≡ Some g
    → IsPartAt g.description offset d)
    × (p.position ≢ 0 → IsPartAt p.whole offset d)

-- a place of a description: its generation was made; what it leads into has such a part there; and each part
-- of it begins within the limit of offsets
pub record IsGood (w : World) (d : Description) (p : Place) : Type 0 where
  pub was_made : p.generation < w.made
  pub described : p.description ≡ d
  pub near : IsNear p.offset d
  pub part : HasPart w p p.offset d

-- a place is that of the whole of what it leads into
pub record IsWhole (w : World) (p : Place) : Type 0 where
  pub begins : p.offset ≡ 0
  pub all :
      p.position ≡ 0 → (g : Generation) → generation_in w.storage p.generation ≡ Some g
      → g.description ≡ p.description
  pub block : p.position ≢ 0 → p.whole ≡ p.description

-- a place of a description, which is that of a whole generation or block
abbrev pub IsOwn : World → Description → Place → Type 0
IsOwn w d p = IsGood w d p × IsWhole w p

-- a place of a description, which is that of a whole generation
abbrev pub IsVariable : World → Description → Place → Type 0
IsVariable w d p = IsOwn w d p × (p.position ≡ 0)

-- a type takes what is of this description: what is stated takes the same, and what is open what agrees with
-- it, whose lengths and bounds are no greater than those of any string or array
abbrev pub Takes : ParameterType → Description → Type 0
Takes (Stated d) e = e ≡ d
Takes type e = IsTrue (agrees type (Stated e)) × IsNarrow (Stated e)

-- a place that is handed over for a parameter of a type; for an area it is that of a whole generation
abbrev pub IsPassed : World → ParameterType → Place → Type 0
IsPassed w type p = (e : Description) × Takes type e × IsGood w e p × (is_area e ≡ true → IsVariable w e p)

-- places that are handed over for parameters of these types, one for one
abbrev pub AreGood : World → List ParameterType → List Place → Type 0
AreGood w [] [] = Unit {0}
AreGood w (t ∷ ts) (p ∷ ps) = IsPassed w t p × AreGood w ts ps
AreGood w ts ps = ⊥

-- the place of a variable, which is stated, is that of a whole generation
abbrev pub IsOwnSlot : World → ParameterType → Place → Type 0
IsOwnSlot w type p = (d : Description) × (type ≡ Stated d) × IsVariable w d p

-- places of these types, one for one; those after so many parameters are those of variables
abbrev pub AreSlots : World → List ParameterType → List Place → (parameters : ℕ) → Type 0
AreSlots w [] [] n = Unit {0}
AreSlots w (t ∷ ts) (p ∷ ps) zero = IsOwnSlot w t p × AreSlots w ts ps zero
AreSlots w (t ∷ ts) (p ∷ ps) (suc n) = IsPassed w t p × AreSlots w ts ps n
AreSlots w ts ps n = ⊥

-- a block holds a value for each of its scalars; each of its parts begins within the limit of offsets; and
-- its position has 32 bits
pub record IsSoundBlock (b : Block) : Type 0 where
  pub values : AreHeld (scalars_of b.description) b.values
  pub near : IsNear 0 b.description
  pub position : b.position < 2 ^ 32

-- each block does
abbrev pub AreSoundBlocks : List Block → Type 0
AreSoundBlocks [] = Unit {0}
AreSoundBlocks (b ∷ bs) = IsSoundBlock b × AreSoundBlocks bs

-- a generation of a number was made, and holds a value for each of its scalars; each of its parts begins
-- within the limit of offsets, its number is within that of generations, and its size within that of bytes;
-- and its blocks are sound
abbrev pub IsHolding : World → (number : ℕ) → Generation → Type 0
IsHolding w number g =
    (number < w.made) × AreHeld (scalars_of g.description) g.values × IsNear 0 g.description
    × (number < generation_limit) × (size_of g.description ≤ byte_limit) × AreSoundBlocks g.blocks

-- what lives is such
abbrev pub HoldsValues : World → Type 0
HoldsValues w =
    (number : ℕ) (g : Generation) → generation_in w.storage number ≡ Some g → IsHolding w number g

-- which labels of which activations, by their height, a jump may lead to
abbrev pub Known : Type 0
Known = (activation : ℕ) → Label → Bool

-- the labels of a unit that have these numbers
abbrev pub AreKnown : (unit : ℕ) → Known → (activation : ℕ) → List ℕ → Type 0
AreKnown unit known h labels =
    (number : ℕ) → IsTrue (list_any (nat_eq number) labels)
    → IsTrue (known h (record { unit = unit; number = number }))

-- what stays of an activation while it runs: its unit and block, its static link, how many parameters it has,
-- and the types of its slots; what is known of the procedures of its unit; and which labels last as
-- long as it runs: those that were known when it began, and those of its block's own list
pub record Shape : Type 0 where
  pub unit : ℕ
  pub block : ℕ
  pub link : ℕ
  pub parameters : ℕ
  pub slots : List ParameterType
  pub procedures : (number : ℕ) → Option KnownProcedure
  pub lasting : Known

-- activations are of these shapes
abbrev pub AreShaped : World → List Shape → List Activation → Type 0
AreShaped w [] [] = Unit {0}
AreShaped w (s ∷ ss) (a ∷ older) =
    (a.unit ≡ s.unit) × (a.block ≡ s.block) × (a.link ≡ s.link) × AreSlots w s.slots a.slots s.parameters
    × AreShaped w ss older
AreShaped w ss stack = ⊥

-- from the activation of a height on, along static links, stand the blocks of a context, which are of a unit
abbrev pub Stand : (unit : ℕ) → Known → List Shape → (height : ℕ) → List BlockAround → Type 0
Stand unit known [] h [] = Unit {0}
Stand unit known [] h (b ∷ bs) = ⊥
Stand unit known (s ∷ older) h [] = Unit {0}
Stand unit known (s ∷ older) h (b ∷ bs) =
    ((h ≤ length older) × Stand unit known older h (b ∷ bs))
    ⊎ ((h ≡ suc (length older)) × (s.block ≡ b.number)
    × ((s.parameters ≡ b.parameters) × (s.slots ≡ b.slots)) × AreKnown unit known h b.labels
    × Stand unit known older s.link bs × (s.unit ≡ unit))

-- a block is an ON-unit that an activation may have: it is known to take nothing and to give nothing, and
-- from the activation on stand the blocks around it, with labels that last
pub record StandsAsOnUnit (s : Shape) (older : List Shape) (block : ℕ) : Type 0 where
  pub procedure : KnownProcedure
  pub found : s.procedures block ≡ Some procedure
  pub parameters : procedure.parameters ≡ []
  pub value : procedure.value ≡ None
  pub stand : Stand s.unit s.lasting (s ∷ older) (suc (length older)) procedure.around

-- so are all ON-units of activations of these shapes
abbrev pub HaveOnUnits : List Shape → List Activation → Type 0
HaveOnUnits [] [] = Unit {0}
HaveOnUnits (s ∷ ss) (a ∷ older) =
    ((c : Condition) (block : ℕ) → on_unit_for c a.on_units ≡ Some block → StandsAsOnUnit s ss block)
    × HaveOnUnits ss older
HaveOnUnits ss stack = ⊥

-- they are of units of a program
abbrev pub AreOfUnits : List TypedUnit → List Shape → Type 0
AreOfUnits units [] = Unit {0}
AreOfUnits units (s ∷ ss) = ((u : TypedUnit) × (slice_get units s.unit ≡ Some u)) × AreOfUnits units ss

-- places of one description, each that of a whole generation
abbrev pub EachGood : World → Description → List Place → Type 0
EachGood w d [] = Unit {0}
EachGood w d (p ∷ ps) = IsVariable w d p × EachGood w d ps

-- of each stack the variable is made well, and each place is one of its description
abbrev pub AreStacksGood : World → Type 0
AreStacksGood w =
    (number : ℕ) (s : Stack) → slice_get w.stacks number ≡ Some s
    → IsMade s.variable × EachGood w s.variable.description s.places

-- a variable of a kind and of a description stands so: a STATIC one lies at a place of it, and a CONTROLLED
-- one has a stack of a variable of it
abbrev pub StandsGood : World → VariableKind → Description → Standing → Type 0
StandsGood w Static d (Lies p) = IsVariable w d p
StandsGood w Static d (Stacked number) = ⊥
StandsGood w Controlled d (Lies p) = ⊥
StandsGood w Controlled d (Stacked number) =
    (s : Stack) × (slice_get w.stacks number ≡ Some s) × (s.variable.description ≡ d)

-- the variables among the globals of the unit of a number, which were there before the program began
abbrev pub AreStatics : (unit : ℕ) → List Global → World → Type 0
AreStatics unit globals w =
    (number : ℕ) (kind : VariableKind) (d : Description)
    → described_as kind (slice_get globals number) ≡ Some d
    → (s : Standing) × (static_in w.statics unit number ≡ Some s) × StandsGood w kind d s

-- a world of a program of these units
pub record IsSound (units : List TypedUnit) (shapes : List Shape) (w : World) : Type 0 where
  pub values : HoldsValues w
  pub stacks : AreStacksGood w
  pub stack : AreShaped w shapes w.activations
  pub of_units : AreOfUnits units shapes
  pub on_units : HaveOnUnits shapes w.activations
  pub made : (i : ℕ) (u : TypedUnit) → slice_get units i ≡ Some u → AreStatics i u.globals w

-- a later world: what lives there and was made before lived before, and is of the same description; each
-- stack is there still, and is of the same variable
pub record IsLater (before after : World) : Type 0 where
  pub more : before.made ≤ after.made
  pub lived :
      (number : ℕ) (g : Generation) → number < before.made → generation_in after.storage number ≡ Some g
      → (old : Generation) × (generation_in before.storage number ≡ Some old)
      × (old.description ≡ g.description)
  pub stacks :
      (number : ℕ) (s : Stack) → slice_get before.stacks number ≡ Some s
      → (t : Stack) × (slice_get after.stacks number ≡ Some t) × (t.variable ≡ s.variable)

-- an end is told as one that the language has
abbrev pub IsTold : List TypedUnit → RunEnd → Type 0
IsTold units e = told (unit_names units) e ≢ message.MachineFault

-- an operation gives what it should, or an error that names a statement of a unit; it is not wrong
abbrev pub Answers : {A : Type 0} → List TypedUnit → (A → World → Type 0) → Answer A → Type 0
Answers units Is (Yields x w) = Is x w
Answers units Is (Raises e w) = IsTold units (error_at e w)
Answers units Is Wrong = ⊥
