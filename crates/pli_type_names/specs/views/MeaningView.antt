-- What meanings of names say, apart from where they lie in memory.
use Rattle.std.specs.Prelude.{◌≡◌, ℕ, List, [], Vec, get_or, map, option_map}
use Rattle.std.specs.Global.{Global}
use Rattle.pli_base.specs.declared.statement.Procedure.{Procedure}
use Rattle.pli_base.specs.views.StatementView.{unit_view}
use Rattle.pli_map.specs.views.DescriptionView.{description_view}
use Rattle.pli_map.specs.views.ParameterView.{type_seen}
use Rattle.pli_declare.specs.ResolvedUnits.{resolved_unit_of}
use Rattle.pli_type_rules.specs.Names as plain
use Rattle.pli_type_names.specs.BlockFacts.{facts_of}
use Rattle.pli_type_names.specs.Seen.{Seen, SeenVariable, SeenFunction, SeenProcedure, SeenLabel, SeenUntyped}
use Rattle.pli_type_names.specs.Seen.{Kept, KeptVariable, KeptProcedure, KeptEntry, KeptLabel, KeptNothing}
use Rattle.pli_type_names.specs.Seen.{kept_symbols}
use Rattle.pli_type_names.specs.declared.meanings.SymbolMeaning.{SymbolMeaning}
use Rattle.pli_type_names.specs.declared.meanings.SymbolMeaning.TheVariants as meanings
use Rattle.pli_type_names.specs.declared.naming.NamedAs.{NamedAs}
use Rattle.pli_type_names.specs.declared.naming.NamedAs.TheVariants as answers
use Rattle.pli_type_names.specs.declared.naming.NamedProcedure.{NamedProcedure}
use Rattle.pli_type_names.specs.views.NameView.{part_view}
use Rattle.pli_type_names.specs.views.StorageView.{storage_view}
use Rattle.pli_type_tree.specs.views.TypedView.{callee_view}

-- a procedure that a name means
abbrev pub procedure_view : NamedProcedure → plain.NamedProcedure
procedure_view p = record {
  callee = callee_view p.callee;
  parameters = map type_seen p.parameters.now;
  returned = option_map (λ d. description_view d.now) p.returned;
  area = p.area;
}

-- what a name means where it is used
abbrev pub answer_view : NamedAs → Seen
answer_view (answers.Variable v) =
    SeenVariable (storage_view v.storage) (type_seen v.whole) v.is_member (option_map part_view v.part.now)
    v.area
answer_view (answers.Function f) = SeenFunction f
answer_view (answers.Procedure p) = SeenProcedure (procedure_view p)
answer_view (answers.Label statement) = SeenLabel statement
answer_view answers.Untyped = SeenUntyped

-- what a name means wherever it is used
abbrev pub meant_view : SymbolMeaning → Kept
meant_view (meanings.Variable begins whole is_member part area) =
    KeptVariable begins (type_seen whole) is_member (option_map part_view part) area
meant_view (meanings.Procedure block) = KeptProcedure block
meant_view (meanings.Entry number parameters returned area) =
    KeptEntry number (map type_seen parameters.items) (option_map (λ d. description_view d.now) returned) area
meant_view (meanings.Label statement) = KeptLabel statement
meant_view meanings.Untyped = KeptNothing

-- what the names of a block mean
abbrev pub row_view : Vec SymbolMeaning Global → List Kept
row_view v = map meant_view v.items

-- under each block's number what its symbols mean
pub record AreMeanings (rows : List (Vec SymbolMeaning Global)) (u : Procedure) : Type 0 where
  pub found : (block : ℕ) → get_or (map row_view rows) block []
      ≡ kept_symbols (facts_of (resolved_unit_of (unit_view u)) block)
