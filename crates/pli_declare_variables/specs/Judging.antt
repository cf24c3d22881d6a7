-- What is known of the items of a block.
use Rattle.std.specs.Prelude.{ℕ, List, map, length}
use Rattle.pli_base.specs.Name.{Name}
use Rattle.pli_declare.specs.Tables.{Entry, numbers_from}
use Rattle.pli_declare.specs.Places.{own_code, is_locator, is_area}
use Rattle.pli_declare.specs.Descriptions.{is_too_large_variable}
use Rattle.pli_declare_variables.specs.answers.Walks.{cut_place_in}
use Rattle.pli_declare_variables.specs.declared.judged.Judged.{Judged}

-- what is judged of one entry
abbrev pub judged_at : List Entry → (parameters : List Name) → ℕ → Judged
judged_at entries parameters n =
    record {
      place = cut_place_in entries parameters n;
      code = own_code entries parameters n;
      is_too_large = is_too_large_variable entries parameters n;
      is_locator = is_locator entries n;
      is_area = is_area entries n;
    }

-- what is judged of all of them
abbrev pub all_judged : List Entry → (parameters : List Name) → List Judged
all_judged entries parameters = map (judged_at entries parameters) (numbers_from 0 (length entries))
