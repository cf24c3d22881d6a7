-- What is asked of a unit for its code to stand: how blocks, statements and temporaries are numbered, how deep
-- loops nest, and which blocks are ON-units.
use Rattle.std.specs.Prelude.{◌≡◌, ℕ, suc, ◌+◌, ◌≤◌, ◌-◌, nat_eq, Bool, true, false, Some, List, [], ◌∷◌}
use Rattle.std.specs.Prelude.{◌++◌, slice_get}
use Rattle.std.specs.List.{flat_map, list_any, AllByRecursion}
use Rattle.pli_program.specs.Program.{OnUnit}
use Rattle.pli_type_tree.specs.Iterations.{temporaries_of, is_iterated}
use Rattle.pli_type_tree.specs.TypedTree.{TypedStatement, Statement, Form, If, Group, While, Iterate, On}
use Rattle.pli_type_tree.specs.TypedTree.{Iteration, OtherWise, NoElse, Else, TypedStatements, NoStatement}
use Rattle.pli_type_tree.specs.TypedTree.{StatementThen, TypedUnit, Allocate, AllocatedItem}
use Rattle.pli_type_tree.specs.TypedTree.{AllocatesControlled, AllocatesBased, AllocatesInArea}
use Rattle.pli_gen_emit.specs.TreeTranslation.{BlockTree, blocks_of_procedure, blocks_of}

-- no number stands twice in a list
abbrev pub AreDistinct : List ℕ → Type 0
AreDistinct [] = Unit {0}
AreDistinct (n ∷ ns) = (list_any (nat_eq n) ns ≡ false) × AreDistinct ns

-- the numbers of statements, those of a BEGIN block apart
abbrev mutual
  pub numbers_in : TypedStatement → List ℕ
  numbers_in (Statement number form) = number ∷ numbers_in_form form

  -- of those inside a form
  pub numbers_in_form : Form → List ℕ
  numbers_in_form (If condition consequence alternative) =
      numbers_in consequence ++ numbers_in_else alternative
  numbers_in_form (Group statements) = numbers_among statements
  numbers_in_form (While condition statements) = numbers_among statements
  numbers_in_form (Iterate iteration statements) = numbers_among statements
  numbers_in_form form = []

  -- of those in an ELSE
  pub numbers_in_else : OtherWise → List ℕ
  numbers_in_else NoElse = []
  numbers_in_else (Else statement) = numbers_in statement

  -- of those of a list
  pub numbers_among : TypedStatements → List ℕ
  numbers_among NoStatement = []
  numbers_among (StatementThen first more) = numbers_in first ++ numbers_among more

-- those of blocks, block after block
abbrev pub numbers_of : List BlockTree → List ℕ
numbers_of bs = flat_map (λ b. numbers_among b.statements) bs

-- in a loop there is one backward jump less for the loops inside it, and it needs two; where there is one
-- turn it needs none
abbrev pub HasTurns : (iterated : Bool) (jumps : ℕ) (inside : ℕ → Type 0) → Type 0
HasTurns true n inside = (2 ≤ n) × inside (n - 1)
HasTurns false n inside = inside n

abbrev mutual
  -- where an activation may make so many backward jumps without a step, the loops in a statement nest less
  -- deep than that
  pub HasRoom : (jumps : ℕ) → TypedStatement → Type 0
  HasRoom n (Statement number form) = HasRoomForm n form

  -- the same of a form
  pub HasRoomForm : (jumps : ℕ) → Form → Type 0
  HasRoomForm n (If condition consequence alternative) = HasRoom n consequence × HasRoomElse n alternative
  HasRoomForm n (Group statements) = HaveRoom n statements
  HasRoomForm n (While condition statements) = (2 ≤ n) × HaveRoom (n - 1) statements
  HasRoomForm n (Iterate iteration statements) =
      HasTurns (is_iterated iteration.range) n (λ n. HaveRoom n statements)
  HasRoomForm n form = Unit {0}

  -- of an ELSE
  pub HasRoomElse : (jumps : ℕ) → OtherWise → Type 0
  HasRoomElse n NoElse = Unit {0}
  HasRoomElse n (Else statement) = HasRoom n statement

  -- of each statement of a list
  pub HaveRoom : (jumps : ℕ) → TypedStatements → Type 0
  HaveRoom n NoStatement = Unit {0}
  HaveRoom n (StatementThen first more) = HasRoom n first × HaveRoom n more

-- the temporary after those of an iteration
abbrev pub next_temporary : Iteration → ℕ
next_temporary i = i.temporary + temporaries_of i.range

-- where so many of a block's temporaries are in use, an item of ALLOCATE that has one has another, and the
-- block has it
abbrev pub KeepsTemporary : (used size : ℕ) → AllocatedItem → Type 0
KeepsTemporary used size (AllocatesControlled number) = Unit {0}
KeepsTemporary used size (AllocatesBased template temporary target) =
    (used ≤ temporary) × (suc temporary ≤ size)
KeepsTemporary used size (AllocatesInArea area template temporary target conversion) =
    (used ≤ temporary) × (suc temporary ≤ size)

-- where so many of a block's temporaries are in use, iterations and items of ALLOCATE have others, and the
-- block has them; in the list of an iteration its own are in use
abbrev mutual
  pub KeepsApart : (used size : ℕ) → TypedStatement → Type 0
  KeepsApart used size (Statement number form) = KeepsApartForm used size form

  -- the same of a form
  pub KeepsApartForm : (used size : ℕ) → Form → Type 0
  KeepsApartForm used size (If condition consequence alternative) =
      KeepsApart used size consequence × KeepsApartElse used size alternative
  KeepsApartForm used size (Group statements) = KeepApart used size statements
  KeepsApartForm used size (While condition statements) = KeepApart used size statements
  KeepsApartForm used size (Iterate iteration statements) =
      (used ≤ iteration.temporary) × (next_temporary iteration ≤ size)
      × KeepApart (next_temporary iteration) size statements
  KeepsApartForm used size (Allocate items) = AllByRecursion (KeepsTemporary used size) items
  KeepsApartForm used size form = Unit {0}

  -- of an ELSE
  pub KeepsApartElse : (used size : ℕ) → OtherWise → Type 0
  KeepsApartElse used size NoElse = Unit {0}
  KeepsApartElse used size (Else statement) = KeepsApart used size statement

  -- of each statement of a list
  pub KeepApart : (used size : ℕ) → TypedStatements → Type 0
  KeepApart used size NoStatement = Unit {0}
  KeepApart used size (StatementThen first more) = KeepsApart used size first × KeepApart used size more

-- among these blocks, that of a number is an ON-unit without parameters, whose ON stands in a block
pub record IsOnUnitIn (bs : List BlockTree) (block number : ℕ) : Type 0 where
  pub tree : BlockTree
  pub there : slice_get bs number ≡ Some tree
  pub kind : tree.kind ≡ OnUnit
  pub parent : tree.parent ≡ Some block
  pub parameters : tree.parameters ≡ 0

abbrev mutual
  -- each ON in a statement of a block names an ON-unit there
  pub NamesOnUnits : (bs : List BlockTree) (block : ℕ) → TypedStatement → Type 0
  NamesOnUnits bs block (Statement number form) = NamesUnitsForm bs block form

  -- the same of a form
  pub NamesUnitsForm : (bs : List BlockTree) (block : ℕ) → Form → Type 0
  NamesUnitsForm bs block (If condition consequence alternative) =
      NamesOnUnits bs block consequence × NamesUnitsElse bs block alternative
  NamesUnitsForm bs block (Group statements) = NameUnits bs block statements
  NamesUnitsForm bs block (While condition statements) = NameUnits bs block statements
  NamesUnitsForm bs block (Iterate iteration statements) = NameUnits bs block statements
  NamesUnitsForm bs block (On condition number) = IsOnUnitIn bs block number
  NamesUnitsForm bs block form = Unit {0}

  -- of an ELSE
  pub NamesUnitsElse : (bs : List BlockTree) (block : ℕ) → OtherWise → Type 0
  NamesUnitsElse bs block NoElse = Unit {0}
  NamesUnitsElse bs block (Else statement) = NamesOnUnits bs block statement

  -- of each statement of a list
  pub NameUnits : (bs : List BlockTree) (block : ℕ) → TypedStatements → Type 0
  NameUnits bs block NoStatement = Unit {0}
  NameUnits bs block (StatementThen first more) = NamesOnUnits bs block first × NameUnits bs block more

-- the blocks of a unit are numbered from 0, each once; its statements have different numbers; loops nest less
-- than 64 deep in each block; an iteration's temporaries, and those of ALLOCATE's items, are apart from those
-- of the ones around it; and each ON names an ON-unit of its block
pub record IsWellNumbered (t : TypedUnit) : Type 0 where
  pub blocks : AllByRecursion (λ b. slice_get (blocks_of t) b.head.number ≡ Some b)
      (flat_map blocks_of_procedure t.procedures)
  pub statements : AreDistinct (numbers_of (blocks_of t))
  pub loops : AllByRecursion (λ b. HaveRoom 64 b.statements) (flat_map blocks_of_procedure t.procedures)
  pub temporaries : AllByRecursion (λ b. KeepApart 0 b.head.temporaries b.statements)
      (flat_map blocks_of_procedure t.procedures)
  pub units : AllByRecursion (λ b. NameUnits (blocks_of t) b.head.number b.statements)
      (flat_map blocks_of_procedure t.procedures)
