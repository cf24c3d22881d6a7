-- Counts of elements as the program has them: up to a limit that no list of values exceeds.
use Rattle.std.specs.Prelude.{ℕ, ◌^◌, min, Option, option_map}
use Rattle.pli_declare.specs.declared.place.ItemPlace.{ItemPlace}

-- 2 ^ 128 - 1: the values of one INITIAL are for no more elements
abbrev pub most_elements : ℕ
most_elements = 340282366920938463463374607431768211455

-- a count up to the limit
abbrev pub cut : Option ℕ → Option ℕ
cut = option_map (λ count. min count most_elements)

-- a place with its count of elements up to the limit
abbrev pub cut_place : ItemPlace → ItemPlace
cut_place p =
    record {
      position = p.position;
      has_members = p.has_members;
      in_array = p.in_array;
      elements_above = cut p.elements_above;
      built_in_name = p.built_in_name;
    }
