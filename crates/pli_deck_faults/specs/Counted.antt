-- What counts of the templates of code towards its limits.
use Rattle.std.specs.Prelude.{ℕ, nat_le, Bool, ◌&&◌, List, Option, Some, None}
use Rattle.std.specs.Prelude.{if◌then◌else◌}
use Rattle.std.specs.List.{list_all, sum_by}
use Rattle.pli_map.specs.Description.{Description}
use Rattle.pli_type_tree.specs.Templates.{InitialScalar}
use Rattle.pli_code.specs.CodeTables.{CodedTemplate, Code, stated_at}
use Rattle.pli_deck_write.specs.DeckFaults.{is_good_template, initial_bytes}

-- the bytes of a good template that has initial values; none where it is not good
abbrev pub counted_of : Option Description → List InitialScalar → Option ℕ
counted_of d initial = if is_good_template d initial then Some (initial_bytes d initial) else None

-- all templates are good, and those with initial values take at most so many bytes
abbrev pub keep_limits : Code → List CodedTemplate → (limit : ℕ) → Bool
keep_limits c ts limit =
    list_all (λ t. is_good_template (stated_at c t.description) t.initial) ts
    && nat_le (sum_by (λ t. initial_bytes (stated_at c t.description) t.initial) ts) limit
