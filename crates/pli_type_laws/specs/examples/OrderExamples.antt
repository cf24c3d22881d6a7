-- A worked example of globals in the order of the text: a resolved unit as types see it.
--
--     M: PROC OPTIONS(MAIN); BEGIN; DCL Z BIT EXT; END; DCL Z CHAR EXT; END;
--
-- The inner Z stands at token 11, and the outer one at token 18. The tree leaves out what is declared.
use Rattle.std.specs.Prelude.{◌≡◌, ℕ, false, Some, None, [], ◌∷◌, codes}
use Rattle.pli_base.specs.Statements.{Main, Numbered, Declare, Begin, Ended, Before}
use Rattle.pli_declare.specs.declared.completed.ScopeAttribute.TheVariants as scopes
use Rattle.pli_map.specs.ParameterTypes.{Stated}
use Rattle.pli_map.specs.Description.{Description, Character, Bit}
use Rattle.pli_program.specs.declared.kind.VariableKind.TheVariants.{Static}
use Rattle.pli_declare.specs.ResolvedUnits.{ResolvedUnit}
use Rattle.pli_declare.specs.Symbols.{Symbol, Variable, Procedure}
use Rattle.pli_declare.specs.declared.block_numbers.ResolvedBlockKind.TheVariants as kinds
use Rattle.pli_declare.specs.declared.symbol.StorageClass.TheVariants as classes
use Rattle.pli_type_rules.specs.NamedUnits.{declared_as, named_unit}
use Rattle.pli_type_rules.specs.Names.{Begins, NamedAs, AVariable}
use Rattle.pli_type_rules.specs.TextOrder.{text_order, text_places}
use Rattle.pli_type_laws.specs.examples.ExampleTrees.{called}
use Rattle.pli_type_laws.specs.examples.NameExamples.{symbol}
use Rattle.pli_type_tree.specs.TypedTree.{ExternalVariable, OfProgram}

-- Z, EXTERNAL, whose name stands at a token
abbrev pub shared : (at : ℕ) → Description → Symbol
shared at d =
    record { identifier = called (codes "Z") at; kind = Variable d classes.Static scopes.External [] None }

-- the unit, resolved
abbrev pub nested : ResolvedUnit
nested = record {
  tree = record {
    heading = record { name = called (codes "M") 0; number = 1; parameters = []; options = Main ∷ [] };
    statements =
        Before (Numbered 2 None 8 (Begin (Before (Numbered 3 None 10 (Declare [])) Ended) 4))
        (Before (Numbered 5 None 17 (Declare [])) Ended);
    end = 6;
  };
  blocks =
      record {
        kind = kinds.Procedure;
        outer = None;
        statement = 1;
        name = Some (record { block = 2; number = 0 });
        parameters = [];
        symbols = shared 18 (Character 1) ∷ [];
      }
      ∷ record {
        kind = kinds.Begin;
        outer = Some 0;
        statement = 2;
        name = None;
        parameters = [];
        symbols = shared 11 (Bit 1) ∷ [];
      } ∷ [];
  outermost = symbol (codes "M") (Procedure 0 None None) ∷ [];
  meaning = λ at. None;
  statement_block = λ statement. None;
}

-- what the Z of a block is inside of both
abbrev pub shared_in : (block : ℕ) → NamedAs
shared_in block = declared_as 63 nested (1 ∷ 0 ∷ []) (record { block = block; number = 0 })

-- the inner Z comes first, as its name does; inside both blocks each of them means its own global
abbrev pub GlobalsOfUnit : Type 0
GlobalsOfUnit =
    ((named_unit 63 nested).globals
    ≡ ExternalVariable (codes "Z") Static (record { description = Bit 1; initial = [] })
    ∷ ExternalVariable (codes "Z") Static (record { description = Character 1; initial = [] }) ∷ [])
    × (shared_in 0
    ≡ AVariable (record {
      storage = Begins (OfProgram 1) false;
      whole = Stated (Character 1);
      path = [];
      area = None;
    }))
    × (shared_in 1
    ≡ AVariable (record {
      storage = Begins (OfProgram 0) false;
      whole = Stated (Bit 1);
      path = [];
      area = None;
    }))

-- by numbers alone: the tokens 30, 10, 20 and 10
abbrev pub TokensInOrder : Type 0
TokensInOrder =
    (text_order (30 ∷ 10 ∷ 20 ∷ 10 ∷ []) ≡ 1 ∷ 3 ∷ 2 ∷ 0 ∷ [])
    × (text_places (30 ∷ 10 ∷ 20 ∷ 10 ∷ []) ≡ 3 ∷ 0 ∷ 2 ∷ 1 ∷ [])
