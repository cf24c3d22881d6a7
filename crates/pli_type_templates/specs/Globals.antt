-- Globals that stand in one group.
use Rattle.std.specs.Prelude.{◌≡◌, Option, Some, None, List}
use Rattle.std.specs.List.{flat_map}
use Rattle.std.specs.Option.{option_to_list}
use Rattle.pli_base.specs.Name.{Name}
use Rattle.pli_type_tree.specs.TypedTree.{Global, OwnVariable, ExternalVariable, EntryPoint}

-- globals of one kind that are made from one template, or take and give the same
abbrev pub IsLike : Global → Global → Type 0
IsLike (OwnVariable kind template) (OwnVariable other further) = (other ≡ kind) × (further ≡ template)
IsLike (ExternalVariable name kind template) (ExternalVariable name_after other further) =
    (other ≡ kind) × (further ≡ template)
IsLike (EntryPoint name signature) (EntryPoint further other) = other ≡ signature
IsLike first global = ⊥

-- the name of a global that has one beyond its unit
abbrev pub name_in : Global → Option Name
name_in (OwnVariable kind template) = None
name_in (ExternalVariable name kind template) = Some name
name_in (EntryPoint name signature) = Some name

-- the names of globals
abbrev pub names_in : List Global → List Name
names_in gs = flat_map (λ g. option_to_list (name_in g)) gs
