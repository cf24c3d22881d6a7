-- The blocks of a source tree, as its statements know them: which lists they stand in, and which labels these
-- have.
use Rattle.std.specs.Prelude.{ℕ, suc, ◌+◌, true, false, Option, Some, None, option_and_then}
use Rattle.std.specs.Prelude.{List, [], ◌∷◌, ◌++◌, length, map, slice_get}
use Rattle.pli_base.specs.Statements as tree
use Rattle.pli_base.specs.Statements.{Statement, Numbered, Body, Statements, Ended, Before, Alternative}
use Rattle.pli_base.specs.Statements.{NoElse, Else, ExternalProcedure}
use Rattle.pli_map.specs.ParameterTypes.{ParameterType, Stated}
use Rattle.pli_declare.specs.declared.block_numbers.ResolvedBlockKind.{ResolvedBlockKind}
use Rattle.pli_declare.specs.declared.block_numbers.ResolvedBlockKind.TheVariants as kinds
use Rattle.pli_type_rules.specs.Names.{NamedUnit}
use Rattle.pli_type_rules.specs.StatementTyping.{Enclosing, enclosing, labels_of, lasting_alone, only}
use Rattle.pli_type_rules.specs.StatementTyping.{with_labels}
use Rattle.pli_declare.specs.TreeBlocks as blocks
use Rattle.pli_type_tree.specs.WellTyped.{BlockAround, KnownProcedure}

-- a block: its PROCEDURE, BEGIN or ON; the blocks around it, the innermost first, each with the labels of its
-- lists that are known in the block; and the labels of its own list
pub record SourceBlock : Type 0 where
  pub kind : ResolvedBlockKind
  pub statement : ℕ
  pub around : List Enclosing
  pub labels : List ℕ

-- the blocks that begin in a statement, in the order of the text; the first of them has the next number
abbrev mutual
  pub begun_in : (around : List Enclosing) → (next : ℕ) → Statement → List SourceBlock
  begun_in around x (Numbered number label at body) = begun_by around x number body

  -- those of what a statement is: itself, if it is one, and those inside it
  pub begun_by : (around : List Enclosing) → (next number : ℕ) → Body → List SourceBlock
  begun_by around x number (tree.Procedure heading statements end) =
      record { kind = kinds.Procedure; statement = number; around = around; labels = labels_of statements }
      ∷ begun_among (enclosing x statements ∷ around) (suc x) statements
  begun_by around x number (tree.Begin statements end) =
      record { kind = kinds.Begin; statement = number; around = around; labels = labels_of statements }
      ∷ begun_among (enclosing x statements ∷ around) (suc x) statements
  begun_by around x number (tree.Do control statements end) =
      begun_among (with_labels (labels_of statements) around) x statements
  begun_by around x number (tree.If condition consequence alternative) =
      begun_in around x consequence ++ begun_after around (x + blocks.blocks_in consequence) alternative
  begun_by around x number (tree.On condition unit) =
      record {
        kind = kinds.OnUnit;
        statement = number;
        around = lasting_alone around;
        labels = labels_of (only unit);
      } ∷ begun_in (enclosing x (only unit) ∷ lasting_alone around) (suc x) unit
  begun_by around x number body = []

  -- those of the statements of a list
  pub begun_among : (around : List Enclosing) → (next : ℕ) → Statements → List SourceBlock
  begun_among around x Ended = []
  begun_among around x (Before first more) =
      begun_in around x first ++ begun_among around (x + blocks.blocks_in first) more

  -- those of an ELSE
  pub begun_after : (around : List Enclosing) → (next : ℕ) → Alternative → List SourceBlock
  begun_after around x NoElse = []
  begun_after around x (Else statement) = begun_in around x statement

-- the blocks of a unit, each under its number
abbrev pub unit_blocks : ExternalProcedure → List SourceBlock
unit_blocks u =
    record {
      kind = kinds.Procedure;
      statement = u.heading.number;
      around = [];
      labels = labels_of u.statements;
    } ∷ begun_among (enclosing 0 u.statements ∷ []) 1 u.statements

-- the number of the innermost block
abbrev pub innermost : List Enclosing → Option ℕ
innermost [] = None
innermost (b ∷ bs) = Some b.number

-- the slots of a block: its parameters, and its AUTOMATIC variables after them
abbrev pub slots_in : NamedUnit → (block : ℕ) → List ParameterType
slots_in u block = u.parameters block ++ map (λ t. Stated t.description) (u.automatic block)

-- blocks around as typed trees know them
abbrev pub known_blocks : NamedUnit → List Enclosing → List BlockAround
known_blocks u [] = []
known_blocks u (b ∷ bs) =
    record {
      number = b.number;
      parameters = length (u.parameters b.number);
      slots = slots_in u b.number;
      labels = b.labels;
      lasting = b.lasting;
    } ∷ known_blocks u bs

-- a procedure or an ON-unit of a unit, by its block
abbrev pub procedure_known : NamedUnit → (number : ℕ) → SourceBlock → Option KnownProcedure
procedure_known u number b = of_kind b.kind
  where
    of_kind : ResolvedBlockKind → Option KnownProcedure
    of_kind kinds.Procedure = Some (record {
      is_on_unit = false;
      parent = innermost b.around;
      around = known_blocks u b.around;
      parameters = u.parameters number;
      value = u.returned number;
    })
    of_kind kinds.OnUnit = Some (record {
      is_on_unit = true;
      parent = innermost b.around;
      around = known_blocks u b.around;
      parameters = [];
      value = None;
    })
    of_kind kinds.Begin = None

-- the procedures and the ON-units of a unit, each by the number of its block
abbrev pub known_procedures : NamedUnit → (number : ℕ) → Option KnownProcedure
known_procedures u number = option_and_then (procedure_known u number) (slice_get (unit_blocks u.tree) number)
