-- What a stack of the program says.
use Rattle.std.specs.Prelude.{List, map, reverse}
use Rattle.pli_map.specs.Description.{Description}
use Rattle.pli_map.specs.views.DescriptionView.{description_view}
use Rattle.pli_type_tree.specs.Templates.{Template, variable_of}
use Rattle.pli_type_tree.specs.views.TemplateView.{initial_view}
use Rattle.pli_world.specs.Storage as plain
use Rattle.pli_world.specs.World as world
use Rattle.pli_store.specs.declared.kind.Handle.{Handle}
use Rattle.pli_store.specs.declared.storage.Storage.{Storage}
use Rattle.pli_store.specs.views.StorageView.{made_count}
use Rattle.pli_stacks.specs.declared.stack.Stack.{Stack}

-- the places of generations of a description, the newest first; the program keeps the newest last
abbrev pub places_view : Description → List Handle → List plain.Place
places_view d generations = map (λ h. plain.whole h.number d) (reverse generations)

-- what its generations are made from
abbrev pub template_of : Stack → Template
template_of s =
    record { description = description_view s.kind.description.now; initial = map initial_view s.initial.now }

-- a stack
abbrev pub stack_view : Stack → world.Stack
stack_view s = record { variable = variable_of (template_of s); places = places_view (template_of s).description s.generations.items }

-- the place that the next generation of a stack's variable gets
abbrev pub next_of : world.Stack → Storage → plain.Place
next_of s storage = plain.whole (made_count storage) s.variable.description
