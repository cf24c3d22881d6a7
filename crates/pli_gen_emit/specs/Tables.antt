-- The tables of a unit (own): descriptions, templates and values are numbered by first use, and equal ones
-- once. Types of parameters with a `*` are numbered among the descriptions.
use Rattle.std.specs.Prelude.{ℕ, suc, Bool, option_map, List, [], ◌∷◌, ◌++◌, map, if◌then◌else◌}
use Rattle.std.specs.List.{flat_map, list_any}
use Rattle.pli_map.specs.Description.{Description}
use Rattle.pli_map.specs.ParameterTypes.{ParameterType, Stated, same_type}
use Rattle.pli_value.specs.Value.{Value}
use Rattle.pli_type_tree.specs.Templates.{Template}
use Rattle.pli_type_tree.specs.TypedTree.{Signature, Global, OwnVariable, ExternalVariable, EntryPoint}
use Rattle.pli_type_keys.specs.Same.{same_template}
use Rattle.pli_code.specs.Decks as plain
use Rattle.pli_code.specs.Decks.{CodedTemplate, CodedBlock, CodedSignature, CodedGlobal, there}
use Rattle.pli_gen_emit.specs.BlockTrees.{BlockTree}

-- a table, with each further one that it has not got put at its end
abbrev pub numbered : {X : Type 0} → (alike : X → X → Bool) → (table : List X) → List X → List X
numbered alike table [] = table
numbered alike table (x ∷ xs) =
    numbered alike (if list_any (alike x) table then table else table ++ x ∷ []) xs

-- the number of an entry
abbrev pub number_in : {X : Type 0} → (alike : X → X → Bool) → List X → X → ℕ
number_in alike [] x = 0
number_in alike (y ∷ ys) x = if alike x y then 0 else suc (number_in alike ys x)

-- what a signature names: its parameters, then its result
abbrev pub signature_descriptions : Signature → List ParameterType
signature_descriptions s = s.parameters ++ map Stated (there s.result)

-- the descriptions that a global names
abbrev pub global_descriptions : Global → List ParameterType
global_descriptions (OwnVariable kind t) = Stated t.description ∷ []
global_descriptions (ExternalVariable name kind t) = Stated t.description ∷ []
global_descriptions (EntryPoint name signature) = signature_descriptions signature

-- the templates that it names
abbrev pub global_templates : Global → List Template
global_templates (OwnVariable kind t) = t ∷ []
global_templates (ExternalVariable name kind t) = t ∷ []
global_templates (EntryPoint name signature) = []

-- the templates of the variables of blocks
abbrev pub block_templates : List BlockTree → List Template
block_templates bs = flat_map (λ b. b.head.variables) bs

-- the entries of tables
pub record NumberedTables : Type 0 where
  pub descriptions : List ParameterType
  pub templates : List Template
  pub values : List Value

-- with these tables
module _ (tables : NumberedTables) where
  -- the number of a type among the descriptions
  abbrev pub description_number : ParameterType → ℕ
  description_number t = number_in same_type tables.descriptions t

  -- the number of a description
  abbrev pub stated_number : Description → ℕ
  stated_number d = description_number (Stated d)

  -- the number of a template
  abbrev pub template_number : Template → ℕ
  template_number t = number_in same_template tables.templates t

  -- a template with its description's number
  abbrev pub template_code : Template → CodedTemplate
  template_code t =
      record { description = stated_number t.description; initial = t.initial }

  -- a signature with the numbers of its descriptions
  abbrev pub signature_code : Signature → CodedSignature
  signature_code s = record {
    parameters = map description_number s.parameters;
    result = option_map stated_number s.result;
  }

  -- a global with the numbers of what it names
  abbrev pub global_code : Global → CodedGlobal
  global_code (OwnVariable kind t) = plain.OwnVariable kind (template_number t)
  global_code (ExternalVariable name kind t) = plain.ExternalVariable name kind (template_number t)
  global_code (EntryPoint name signature) = plain.EntryPoint name (signature_code signature)

  -- a block with its first instruction
  abbrev pub coded_block : BlockTree → (entry : ℕ) → CodedBlock
  coded_block b p = record {
    kind = b.kind;
    parent = b.parent;
    parameters = b.parameters;
    variables = map template_number b.head.variables;
    temporaries = b.head.temporaries;
    entry = p;
    statement = b.head.statement;
  }
