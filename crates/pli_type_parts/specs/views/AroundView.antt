-- What a walk keeps of where it is, apart from where that lies in memory.
use Rattle.std.specs.Prelude.{List, map, option_map}
use Rattle.pli_map.specs.views.DescriptionView.{description_view}
use Rattle.pli_type_parts.specs.Around.{Listing, Around}
use Rattle.pli_type_parts.specs.declared.labels.ListLabels.{ListLabels}
use Rattle.pli_type_parts.specs.declared.surroundings.Surroundings.{Surroundings}

-- a list with its labels
abbrev pub listing_view : ListLabels → Listing
listing_view l = record { block = l.block; is_on_unit = l.is_on_unit; labels = l.labels.items }

-- the lists round a place
abbrev pub lists_view : List ListLabels → List Listing
lists_view ls = map listing_view ls

-- where the walk is
abbrev pub around_view : Surroundings → Around
around_view s =
    record {
      lists = lists_view s.lists.items;
      begins = s.begins;
      value = option_map (λ d. description_view d.now) s.value;
    }
