-- What a name without a fault is declared as, by what was found for its number.
use Rattle.std.proofs.Common.{◌≡◌, ℕ, Option, List, length, get_or, map, refl, sym, ap, subst, ◌∙◌}
use Rattle.std.proofs.lemmas.List.{length-map}
use Rattle.pli_base.specs.Name.{Name}
use Rattle.pli_base.specs.declared.code.Code.{Code}
use Rattle.pli_map.specs.Description.{Description}
use Rattle.pli_declare.specs.Faults.{item_fault}
use Rattle.pli_declare.specs.declared.place.ItemPlace.{ItemPlace}
use Rattle.pli_declare.specs.Tables.{Entity, AsItem, AsLabel, AsProcedure, Entry, no_entry, numbers_from}
use Rattle.pli_declare_tables.specs.views.TableView.{entry_view, entries_view}
use Rattle.pli_declare_tables.specs.declared.entry.Entry as program
use Rattle.pli_declare.specs.Places.{item_in, place_in, own_code}
use Rattle.pli_declare.specs.Descriptions.{own_codes}
use Rattle.pli_declare.specs.Declarations.{DeclaredKind, OfItem, whole_description, kind_of, IsGood}
use Rattle.pli_declare_variables.specs.answers.Declaring.{kind_with, whole_at, IsFaultless, IsFaultlessCut}
use Rattle.pli_declare_variables.specs.answers.Walks.{cut_place_in}
use Rattle.pli_declare_attributes.proofs.CutLemmas.{cut_completed}

-- the codes of all entries
pub all_codes : (entries : List program.Entry) (names : List Name) (codes : List (Option Code))
    → codes ≡ map (own_code (entries_view entries) names) (numbers_from 0 (length entries)) → codes ≡ own_codes (entries_view entries) names
all_codes entries names codes made = made ∙ ap (λ (n : ℕ). map (own_code (entries_view entries) names) (numbers_from 0 n)) (sym (length-map entries entry_view))

-- an entry of a good block has no fault where it stands
pub without : (entries : List Entry) (names : List Name) (n : ℕ) (entity : Entity) → (get_or entries n no_entry).entity ≡ entity → IsGood entries names n entity
    → IsFaultless (place_in entries names n) entity
without entries names n (AsItem item is_bad) is good = (good.0, ap (λ x. item_fault (place_in entries names n) (item_in x)) (sym is) ∙ good.1)
without entries names n (AsLabel region) is good = tt
without entries names n (AsProcedure heading region) is good = good

-- an entry of a good block has no fault at its place
pub faultless : (entries : List Entry) (names : List Name) (n : ℕ) (e : Entry) (place : ItemPlace) → get_or entries n no_entry ≡ e → place ≡ cut_place_in entries names n
    → IsGood entries names n (get_or entries n no_entry).entity → IsFaultlessCut place e.entity
faultless entries names n e place view is good = (
  place_in entries names n,
  is,
  without entries names n e.entity (ap (λ (x : Entry). x.entity) view) (subst (λ (x : Entry). IsGood entries names n x.entity) view good),
)

-- the description of a variable of its own, by the codes of all entries
pub whole : (entries : List Entry) (names : List Name) (bound : ℕ) (codes : List (Option Code)) (n : ℕ) → bound ≡ length entries → codes ≡ own_codes entries names
    → whole_at bound entries codes n ≡ whole_description entries names n
whole entries names bound codes n counted same = ap (λ b. whole_at b entries codes n) counted ∙ ap (λ cs. whole_at (length entries) entries cs n) same

standing : (entries : List Entry) (names : List Name) (n : ℕ) (entity : Entity) → kind_with (cut_place_in entries names n) (whole_description entries names n) entity ≡ kind_of entries names n entity
standing entries names n (AsItem item is_bad) = ap (λ completed. OfItem completed (whole_description entries names n)) (cut_completed (place_in entries names n) item)
standing entries names n (AsLabel region) = refl
standing entries names n (AsProcedure heading region) = refl

-- what an entry is declared as
pub kind_at : (entries : List Entry) (names : List Name) (n : ℕ) (e : Entry) (place : ItemPlace) (description : Option Description) (kind : DeclaredKind)
    → get_or entries n no_entry ≡ e → place ≡ cut_place_in entries names n → description ≡ whole_description entries names n → kind ≡ kind_with place description e.entity
    → kind ≡ kind_of entries names n (get_or entries n no_entry).entity
kind_at entries names n e place description kind view placed described made =
    made ∙ ap (λ p. kind_with p description e.entity) placed ∙ ap (λ d. kind_with (cut_place_in entries names n) d e.entity) described
    ∙ standing entries names n e.entity ∙ ap (λ (x : Entry). kind_of entries names n x.entity) (sym view)
