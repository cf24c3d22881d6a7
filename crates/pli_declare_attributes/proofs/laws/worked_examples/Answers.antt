use Rattle.pli_declare_attributes.proofs.WorkedExamples.{defaults, storage_classes, arrays, structures, entries, asterisks, bad_length_stars, bad_bound_stars, types_conflict, storage_conflicts, other_conflicts, missing, bad_numbers, bad_initials, bad_areas, parts_of_entries}
use Rattle.pli_declare_attributes.proofs.laws.worked_examples.Goals as goal

pub returns : goal.returns
returns c =
    record {
      defaults = defaults;
      storage_classes = storage_classes;
      arrays = arrays;
      structures = structures;
      entries = entries;
      asterisks = asterisks;
      bad_length_stars = bad_length_stars;
      bad_bound_stars = bad_bound_stars;
      types_conflict = types_conflict;
      storage_conflicts = storage_conflicts;
      other_conflicts = other_conflicts;
      missing = missing;
      bad_numbers = bad_numbers;
      bad_initials = bad_initials;
      bad_areas = bad_areas;
      parts_of_entries = parts_of_entries;
    }
