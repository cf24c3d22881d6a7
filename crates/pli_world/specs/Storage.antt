-- Storage: a finite map from the numbers of generations to what each is. A generation is the storage of one
-- variable of one activation or allocation, or of an argument that is no variable's (X3.53). Generations are
-- numbered from 0 in the order in which they are made, and no number is used again. A generation that is an
-- area has blocks, which ALLOCATE of a BASED variable places within it.
use Rattle.std.specs.Prelude.{ℕ, ◌+◌, nat_eq, not, Option, Some, None}
use Rattle.std.specs.Prelude.{List, [], ◌∷◌, ◌++◌, length, take, drop, if◌then◌else◌}
use Rattle.std.specs.List.{filter, list_any}
use Rattle.pli_map.specs.Description.{Description}
use Rattle.pli_map.specs.Scalars.{first_scalar}
use Rattle.pli_map.specs.Sizes.{size_of}
use Rattle.pli_value.specs.Value.{Value}

-- how a generation was made
pub data Made : Type 0 where
  Automatic : Made
  Static : Made
  Controlled : Made
  Based : Made
  Dummy : Made

-- a block that lives: where its bytes begin in its area, its whole description, and a value for each scalar
-- of that
pub record Block : Type 0 where
  pub position : ℕ
  pub description : Description
  pub values : List Value

-- a generation that lives; it holds a value for each scalar of its description, in their order. One that is an
-- area has its blocks, in rising positions, in their place
pub record Generation : Type 0 where
  pub number : ℕ
  pub description : Description
  pub made : Made
  pub values : List Value
  pub blocks : List Block

-- where a reference leads: into a generation, there into the block of an area at a position (0 outside
-- areas), so many bytes after its beginning, to a part of this description. The whole description is the one
-- that the generation or the block had when the reference was evaluated
pub record Place : Type 0 where
  pub generation : ℕ
  pub position : ℕ
  pub whole : Description
  pub offset : ℕ
  pub description : Description

-- the whole of what lives at a position of a generation
abbrev pub whole_at : (generation position : ℕ) → Description → Place
whole_at generation position description =
    record {
      generation = generation;
      position = position;
      whole = description;
      offset = 0;
      description = description;
    }

-- the whole of a new generation
abbrev pub whole : (generation : ℕ) → Description → Place
whole generation description = whole_at generation 0 description

-- the generation of a number, if it lives
abbrev pub generation_in : List Generation → (number : ℕ) → Option Generation
generation_in [] number = None
generation_in (g ∷ gs) number = if nat_eq g.number number then Some g else generation_in gs number

-- the part of a place, by a field of a structure: so many bytes further, of this description
abbrev pub field_of : (offset : ℕ) → Description → Place → Place
field_of offset description p = record p { offset = p.offset + offset; description = description }

-- what a place leads into, a generation or a block: its whole description, and a value for each scalar of that
pub record Contents : Type 0 where
  pub description : Description
  pub values : List Value

-- those of a generation
abbrev pub contents_of : Generation → Contents
contents_of g = record { description = g.description; values = g.values }

-- which scalar of these is the first of a place's, if the place is a part of them
abbrev pub scalar_at : Contents → Place → Option ℕ
scalar_at c p = first_scalar c.description p.offset p.description

-- what one generation holds changed
abbrev pub with_values : List Generation → (number : ℕ) → List Value → List Generation
with_values [] number vs = []
with_values (g ∷ gs) number vs =
    if nat_eq g.number number then record g { values = vs } ∷ gs else g ∷ with_values gs number vs

-- the block at a position, if one lives there
abbrev pub block_at : List Block → (position : ℕ) → Option Block
block_at [] position = None
block_at (b ∷ bs) position = if nat_eq b.position position then Some b else block_at bs position

-- what the block at a position holds changed
abbrev pub with_block_values : List Block → (position : ℕ) → List Value → List Block
with_block_values [] position vs = []
with_block_values (b ∷ bs) position vs =
    if nat_eq b.position position
    then record b { values = vs } ∷ bs
    else b ∷ with_block_values bs position vs

-- the blocks of one generation changed
abbrev pub with_blocks : List Generation → (number : ℕ) → (List Block → List Block) → List Generation
with_blocks [] number change = []
with_blocks (g ∷ gs) number change =
    if nat_eq g.number number
    then record g { blocks = change g.blocks } ∷ gs
    else g ∷ with_blocks gs number change

-- what a place leads into changed: at position 0 the generation
abbrev pub with_contents : List Generation → Place → List Value → List Generation
with_contents gs p vs =
    if nat_eq p.position 0
    then with_values gs p.generation vs
    else with_blocks gs p.generation (λ bs. with_block_values bs p.position vs)

-- so many values of a list, from one on
abbrev pub values_from : (first count : ℕ) → List Value → List Value
values_from first count vs = take count (drop first vs)

-- these in the place of those that stand there
abbrev pub with_values_at : (first : ℕ) → (new : List Value) → List Value → List Value
with_values_at first new vs = take first vs ++ new ++ drop (first + length new) vs

-- those that live on where these numbers end
abbrev pub without : (numbers : List ℕ) → List Generation → List Generation
without numbers gs = filter (λ g. not (list_any (nat_eq g.number) numbers)) gs

-- the bytes of what lives, with nothing between
abbrev pub live_bytes : List Generation → ℕ
live_bytes [] = 0
live_bytes (g ∷ gs) = size_of g.description + live_bytes gs

-- how many generations may ever be made (own)
abbrev pub generation_limit : ℕ
generation_limit = 4294967294

-- how many bytes after the beginning a reference leads at most (own)
abbrev pub offset_limit : ℕ
offset_limit = 1000000
