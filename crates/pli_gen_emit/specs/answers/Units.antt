-- What is emitted for a unit.
use Rattle.std.specs.Prelude.{◌≡◌, ◌++◌, false, List, [], map}
use Rattle.std.specs.List.{flat_map}
use Rattle.pli_map.specs.ParameterTypes.{Stated, same_type}
use Rattle.pli_type_keys.specs.Same.{same_template}
use Rattle.pli_type_tree.specs.TypedTree.{TypedUnit}
use Rattle.pli_gen_emit.specs.Encoding.{numbered, signature_descriptions, global_descriptions}
use Rattle.pli_gen_emit.specs.Encoding.{global_templates, block_templates}
use Rattle.pli_gen_emit.specs.TreeTranslation.{BlockTree, blocks_of, blocks_code}
use Rattle.pli_gen_emit.specs.answers.Emitting.{Emission, emission, extended}
use Rattle.pli_gen_emit.specs.answers.Pieces.{entries_of}
use Rattle.pli_gen_emit.specs.declared.emitting.Emitted.{Emitted}
use Rattle.pli_gen_emit.specs.views.BlockView.{block_trees}

-- before the first instruction: what the signature, the globals and the variables of blocks name is numbered
abbrev pub before_code : TypedUnit → List BlockTree → Emission
before_code u bs = record {
  tables = record {
    descriptions =
        numbered same_type []
        (signature_descriptions u.signature ++ flat_map global_descriptions u.globals
        ++ map (λ t. Stated t.description) (block_templates bs));
    templates = numbered same_template [] (flat_map global_templates u.globals ++ block_templates bs);
    values = [];
  };
  code = [];
  gotos = [];
  is_wide = false;
}

-- the blocks of a unit by their numbers, the places of their code, and that with its tables
pub record IsEmitted (u : TypedUnit) (e : Emitted) : Type 0 where
  pub blocks : block_trees e.blocks.items ≡ blocks_of u
  pub entries : e.entries.items ≡ entries_of (block_trees e.blocks.items) 0
  pub code : emission e.emitter
      ≡ extended (before_code u (block_trees e.blocks.items)) (blocks_code (block_trees e.blocks.items) 0)
