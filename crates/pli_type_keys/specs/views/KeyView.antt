-- What entries of tables are, apart from where they lie in memory.
use Rattle.std.specs.Prelude.{map}
use Rattle.pli_map.specs.ParameterTypes.{ParameterType}
use Rattle.pli_map.specs.views.DescriptionView.{description_view}
use Rattle.pli_map.specs.views.ParameterView.{type_seen}
use Rattle.pli_value.specs.Value.{Value, value_view}
use Rattle.pli_type_tree.specs.Templates.{Template}
use Rattle.pli_type_tree.specs.views.TemplateView.{initial_view}
use Rattle.pli_type_keys.specs.declared.key.DescriptionKey.{DescriptionKey}
use Rattle.pli_type_keys.specs.declared.key.TemplateKey.{TemplateKey}
use Rattle.pli_type_keys.specs.declared.key.ValueKey.{ValueKey}

-- a description, or a type with a `*`, as an entry
abbrev pub described : DescriptionKey → ParameterType
described k = type_seen k.of

-- what a variable is made from, as an entry
abbrev pub templated : TemplateKey → Template
templated k = record {
  description = description_view k.description.now;
  initial = map initial_view k.initial.now;
}

-- a value, as an entry
abbrev pub valued : ValueKey → Value
valued k = value_view k.value.now
