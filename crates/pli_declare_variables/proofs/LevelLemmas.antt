-- What the levels above an item make, by what is known of its owner.
use Rattle.std.proofs.Common.{◌≡◌, ℕ, ◌<◌, ◌||◌, Option, Some, None, List, ◌∷◌, length, get_or, map, sym, ap, subst, ◌∙◌, arith}
use Rattle.std.proofs.lemmas.List.{get_or-map, length-map}
use Rattle.pli_declare.specs.Extents.{is_array}
use Rattle.pli_declare.specs.Initials.{elements_inside}
use Rattle.pli_declare_attributes.specs.answers.Cuts.{cut}
use Rattle.pli_declare_attributes.proofs.CutLemmas.{cut_inside}
use Rattle.pli_declare.specs.answers.Owners.{AreAfterOwners}
use Rattle.pli_declare_tables.specs.views.TableView.{entry_view, entries_view}
use Rattle.pli_declare.specs.Tables as plain
use Rattle.pli_declare.specs.Tables.{no_entry, numbers_from}
use Rattle.pli_declare_tables.specs.declared.entry.Entry.{Entry}
use Rattle.pli_declare.specs.Places.{item_of, owners_of, elements_through}
use Rattle.pli_declare_variables.specs.answers.Walks.{made_by, above_at, above_owner, nothing_above}
use Rattle.pli_declare_variables.specs.declared.places.LevelsAbove.{LevelsAbove}
use Rattle.pli_declare_variables.proofs.NumberLemmas.{mapped_at}
use Rattle.pli_declare.proofs.OwnerLemmas.{Below, owner_below, owners_next, owners_none}

-- an entry of the program, as it is seen
pub view_at : (entries : List Entry) (i : ℕ) (e : Entry) → i < length entries → e ≡ get_or entries i e → get_or (entries_view entries) i no_entry ≡ entry_view e
view_at entries i e lt is = get_or-map entry_view entries i e no_entry lt ∙ ap entry_view (sym is)

-- its owner stands before it
pub owner_before : (entries : List Entry) → AreAfterOwners (entries_view entries) → (i : ℕ) (e : Entry) → i < length entries → e ≡ get_or entries i e → Below e.owner i
owner_before entries after i e lt is =
    subst (λ (x : plain.Entry). Below x.owner i) (view_at entries i e lt is) (owner_below (entries_view entries) after i (omega (arith, length-map entries entry_view)))

-- a level more
abbrev with_level : List plain.Entry → ℕ → LevelsAbove → LevelsAbove
with_level entries o above =
    let dimensions = (item_of entries o).dimensions in
    record { in_array = is_array dimensions || above.in_array; elements = cut (elements_inside above.elements dimensions) }

-- the count below is the whole one, cut
one_level : (entries : List plain.Entry) (o : ℕ) (ns : List ℕ) → with_level entries o (made_by entries ns) ≡ made_by entries (o ∷ ns)
one_level entries o ns =
    let dimensions = (item_of entries o).dimensions in
    ap (λ (count : Option ℕ). record { in_array = (made_by entries (o ∷ ns)).in_array; elements = count }) (cut_inside (elements_through entries ns) dimensions)

one_above : (entries : List plain.Entry) → AreAfterOwners entries → (i : ℕ) → i < length entries → (aboves : List LevelsAbove)
    → aboves ≡ map (above_at entries) (numbers_from 0 i) → (owner : Option ℕ) → (get_or entries i no_entry).owner ≡ owner → Below owner i
    → above_owner aboves entries owner ≡ above_at entries i
one_above entries after i lt aboves known None is below = ap (made_by entries) (sym (owners_none entries i is))
one_above entries after i lt aboves known (Some o) is below =
    let here : get_or aboves o nothing_above ≡ above_at entries o = ap (λ (as_known : List LevelsAbove). get_or as_known o nothing_above) known ∙ mapped_at (above_at entries) i o nothing_above below in
    ap (with_level entries o) here ∙ one_level entries o (owners_of entries o) ∙ ap (made_by entries) (sym (owners_next entries after i o (omega arith) is))

-- what is above an entry of the program
pub above_more : (entries : List Entry) → AreAfterOwners (entries_view entries) → (i : ℕ) (e : Entry) → i < length entries → e ≡ get_or entries i e
    → (aboves : List LevelsAbove) → aboves ≡ map (above_at (entries_view entries)) (numbers_from 0 i)
    → above_owner aboves (entries_view entries) e.owner ≡ above_at (entries_view entries) i
above_more entries after i e lt is aboves known =
    one_above (entries_view entries) after i (omega (arith, length-map entries entry_view)) aboves known e.owner
    (ap (λ (x : plain.Entry). x.owner) (view_at entries i e lt is)) (owner_before entries after i e lt is)
