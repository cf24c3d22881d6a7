-- Where places lead.
use Rattle.std.proofs.Common.{◌≡◌, ◌≢◌, ℕ, ◌<◌, ◌≤◌, true, false, List, length, map, Option, Some, None, slice_get, refl, sym, ap, ◌∙◌, arith}
use Rattle.std.specs.Option.{is_some, unwrap_or}
use Rattle.std.proofs.lemmas.Option.{slice_get_within}
use Rattle.std.proofs.lemmas.List.{length-map}
use Rattle.pli_map.specs.Description.{Description, FixedBinary, Character, Varying, Bit, Pointer, Offset, Area, Array, Structure}
use Rattle.pli_map.specs.Scalars.{first_scalar}
use Rattle.pli_world.specs.Storage.{Place, generation_in}
use Rattle.pli_store.specs.answers.Found.{StandsAt, LeadsTo, LeadsNowhere}
use Rattle.pli_store.specs.answers.Kinds.{are_pointers, digits_in}
use Rattle.pli_store.specs.declared.generation.Generation.{Generation}
use Rattle.pli_store.specs.views.GenerationView.{generation_view}
use Rattle.pli_store.proofs.Searches.{stands_in_view}

pub within_store : (items : List Generation) (number at : ℕ) → StandsAt (map generation_view items) number at → at < length items
within_store items number at s =
    let inside = slice_get_within (map generation_view items) at s.generation s.stands in
    let same = length-map items generation_view in
    omega (arith, inside, same)

-- the generation that stands in the store
pub stored_one : (items : List Generation) (number at : ℕ) (g : Generation) → StandsAt (map generation_view items) number at → slice_get items at ≡ Some g → generation_in (map generation_view items) number ≡ Some (generation_view g)
stored_one items number at g s h = s.found ∙ sym s.stands ∙ stands_in_view items at g h

-- one item stands there
pub one_there : {X : Type 0} (xs : List X) (at : ℕ) (x y : X) → slice_get xs at ≡ Some x → slice_get xs at ≡ Some y → x ≡ y
one_there xs at x y h k = ap (λ o. unwrap_or o x) (sym h ∙ k)

-- none stands past the last
pub none_there : {X : Type 0} (xs : List X) (at : ℕ) (x : X) → length xs ≤ at → slice_get xs at ≡ Some x → ⊥
none_there xs at x past h = let within = slice_get_within xs at x h in absurd (omega (arith, past, within))

pub nothing_found : (o : Option ℕ) → is_some o ≡ false → o ≡ None
nothing_found None e = refl
nothing_found (Some k) e = cc

pub something_found : (o : Option ℕ) → is_some o ≡ true → (k : ℕ) × (o ≡ Some k)
something_found None e = cc
something_found (Some k) e = (k, refl)

module _ (items : List Generation) (p : Place) (at : ℕ) (s : StandsAt (map generation_view items) p.generation at) (whole : p.position ≡ 0) (g : Generation) (here : slice_get items at ≡ Some g) where
  pub leads_to : is_some (first_scalar (generation_view g).description p.offset p.description) ≡ true → LeadsTo (map generation_view items) p (record { at = at; offset = p.offset })
  leads_to e =
      let found = something_found (first_scalar (generation_view g).description p.offset p.description) e in
      record {
        there = record {
          generation = generation_view g;
          scalar = found.0;
          stands = stands_in_view items at g here;
          first = found.1;
        };
        found = stored_one items p.generation at g s here;
        first = found.1;
        outside = whole;
      }

  pub leads_nowhere : is_some (first_scalar (generation_view g).description p.offset p.description) ≡ false → LeadsNowhere (map generation_view items) p
  leads_nowhere e = record {
    generation = generation_view g;
    found = stored_one items p.generation at g s here;
    nowhere = nothing_found (first_scalar (generation_view g).description p.offset p.description) e;
    outside = whole;
  }

-- a description with binary digits is of a number of as many
pub is_number : (d : Description) (digits : ℕ) → digits ≢ 0 → digits ≡ digits_in d → d ≡ FixedBinary digits
is_number (FixedBinary precision) digits some is = ap FixedBinary (sym is)
is_number (Character n) digits some is = absurd (some is)
is_number (Varying n) digits some is = absurd (some is)
is_number (Bit n) digits some is = absurd (some is)
is_number Pointer digits some is = absurd (some is)
is_number Offset digits some is = absurd (some is)
is_number (Area n) digits some is = absurd (some is)
is_number (Array bs d) digits some is = absurd (some is)
is_number (Structure ds) digits some is = absurd (some is)

-- a description of pointers is that
pub is_pointer : (d : Description) → are_pointers d ≡ true → d ≡ Pointer
is_pointer Pointer is = refl
is_pointer (FixedBinary precision) is = cc
is_pointer (Character n) is = cc
is_pointer (Varying n) is = cc
is_pointer (Bit n) is = cc
is_pointer Offset is = cc
is_pointer (Area n) is = cc
is_pointer (Array bs d) is = cc
is_pointer (Structure ds) is = cc
