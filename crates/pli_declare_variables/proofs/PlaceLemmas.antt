-- Where an item stands, by what is known of it.
use Rattle.std.proofs.Common.{◌≡◌, ℕ, ◌<◌, Bool, List, length, get_or, map, sym, ap, ◌∙◌}
use Rattle.std.specs.List.{list_any}
use Rattle.pli_base.specs.Name.{Name}
use Rattle.pli_base.specs.Words.{same_name}
use Rattle.pli_declare.specs.declared.place.ItemPlace.{ItemPlace}
use Rattle.pli_declare_tables.specs.views.TableView.{entry_view, entries_view}
use Rattle.pli_declare.specs.Tables as plain
use Rattle.pli_declare.specs.Tables.{numbers_from}
use Rattle.pli_declare_tables.specs.declared.entry.Entry.{Entry}
use Rattle.pli_declare.specs.Places.{is_bad_level, stands_alone, position_of, is_built_in}
use Rattle.pli_declare_variables.specs.answers.Walks.{has_members_at, above_at, placed, cut_place_in}
use Rattle.pli_declare_variables.specs.declared.places.LevelsAbove.{LevelsAbove}
use Rattle.pli_declare_variables.proofs.LevelLemmas.{view_at}
use Rattle.pli_declare_variables.proofs.NumberLemmas.{mapped_at}

-- the same, where it is known whether the name is that of a parameter
abbrev known : plain.Entry → (is_named has_members : Bool) → LevelsAbove → ItemPlace
known entry is_named has_members above =
    record {
      position = position_of (stands_alone entry) is_named (is_bad_level entry.entity);
      has_members = has_members;
      in_array = above.in_array;
      elements_above = above.elements;
      built_in_name = is_built_in entry.identifier.name;
    }

pub placed_at : (entries : List Entry) (n : ℕ) (e : Entry) → n < length entries → e ≡ get_or entries n e
    → (names keys : List Name) → ((q : Name) → list_any (same_name q) keys ≡ list_any (same_name q) names)
    → (mark : Bool) → mark ≡ has_members_at (entries_view entries) n → (above : LevelsAbove) → above ≡ above_at (entries_view entries) n
    → placed (entry_view e) keys mark above ≡ cut_place_in (entries_view entries) names n
placed_at entries n e lt is names keys found mark marked above is_above =
    let x = entry_view e in
    ap (λ (b : Bool). known x b mark above) (found x.identifier.name)
    ∙ ap (λ (b : Bool). placed x names b above) marked
    ∙ ap (placed x names (has_members_at (entries_view entries) n)) is_above
    ∙ ap (λ (y : plain.Entry). placed y names (has_members_at (entries_view entries) n) (above_at (entries_view entries) n)) (sym (view_at entries n e lt is))

-- an element of what was made of each number
pub element_at : {X : Type 0} (f : ℕ → X) (xs : List X) (count n : ℕ) (x : X) → xs ≡ map f (numbers_from 0 count) → n < count → x ≡ get_or xs n x → x ≡ f n
element_at {X} f xs count n x made lt is = is ∙ ap (λ (ys : List X). get_or ys n x) made ∙ mapped_at f count n x lt
