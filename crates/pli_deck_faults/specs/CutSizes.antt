-- Sizes of descriptions, up to a number of bytes that stands for every greater one.
use Rattle.std.specs.Prelude.{ℕ, List, map, min}
use Rattle.pli_map.specs.ParameterTypes.{stated}
use Rattle.pli_map.specs.declared.parameter.ParameterType.{ParameterType}
use Rattle.pli_map.specs.views.ParameterView.{type_view}
use Rattle.pli_code.specs.declared.module.Member.{Member}
use Rattle.pli_deck_write.specs.ModuleSpelling.{description_bytes}

-- the size of a description, 2^32 standing for every greater one; 0 of a type in which a `*` stands
abbrev pub cut_size : ParameterType → ℕ
cut_size t = min (description_bytes (stated (type_view t))) 4294967296

-- those of descriptions and types
abbrev pub cut_sizes : List ParameterType → List ℕ
cut_sizes ts = map cut_size ts

-- those of a unit's descriptions
abbrev pub unit_sizes : Member → List ℕ
unit_sizes u = cut_sizes u.deck.code.descriptions.items
