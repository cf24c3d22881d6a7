-- What an item and those that it is a member of are, by what is known of its owner.
use Rattle.std.proofs.Common.{◌≡◌, ℕ, ◌<◌, ◌&&◌, ◌||◌, Bool, Option, Some, None, List, length, get_or, map, sym, ap, ◌∙◌, arith}
use Rattle.std.proofs.lemmas.List.{length-map}
use Rattle.pli_declare.specs.Sets.{set_of, has, outermost, area, pointer, offset}
use Rattle.pli_declare_attributes.specs.declared.named.Named.{Named}
use Rattle.pli_declare.specs.answers.Owners.{AreAfterOwners}
use Rattle.pli_declare_tables.specs.views.TableView.{entry_view, entries_view}
use Rattle.pli_declare.specs.Tables as plain
use Rattle.pli_declare.specs.Tables.{no_entry, numbers_from}
use Rattle.pli_declare_tables.specs.declared.entry.Entry.{Entry}
use Rattle.pli_declare.specs.Places.{owners_of, item_in, is_variable}
use Rattle.pli_declare_variables.specs.answers.Walks.{chain_of, chain_at, chain_above, chain_with, no_chain, nameable_at}
use Rattle.pli_declare_variables.specs.declared.locators.Chain.{Chain}
use Rattle.pli_declare_variables.specs.declared.locators.Nameable.{Nameable}
use Rattle.pli_declare_variables.proofs.LevelLemmas.{view_at, owner_before}
use Rattle.pli_declare_variables.proofs.NumberLemmas.{mapped_at}
use Rattle.pli_declare.proofs.OwnerLemmas.{Below, owners_next, owners_none}

one_above : (entries : List plain.Entry) → AreAfterOwners entries → (i : ℕ) → i < length entries → (chains : List Chain)
    → chains ≡ map (chain_at entries) (numbers_from 0 i) → (owner : Option ℕ) → (get_or entries i no_entry).owner ≡ owner → Below owner i
    → chain_above chains owner ≡ chain_of entries (owners_of entries i)
one_above entries after i lt chains known None is below = ap (chain_of entries) (sym (owners_none entries i is))
one_above entries after i lt chains known (Some o) is below =
    ap (λ (cs : List Chain). get_or cs o no_chain) known ∙ mapped_at (chain_at entries) i o no_chain below
    ∙ ap (chain_of entries) (sym (owners_next entries after i o (omega arith) is))

pub chain_more : (entries : List Entry) → AreAfterOwners (entries_view entries) → (i : ℕ) (e : Entry) → i < length entries → e ≡ get_or entries i e
    → (chains : List Chain) → chains ≡ map (chain_at (entries_view entries)) (numbers_from 0 i)
    → chain_with (item_in (entry_view e).entity) (chain_above chains e.owner) ≡ chain_at (entries_view entries) i
chain_more entries after i e lt is chains known =
    let view = view_at entries i e lt is in
    ap (chain_with (item_in (entry_view e).entity))
    (one_above (entries_view entries) after i (omega (arith, length-map entries entry_view)) chains known e.owner
    (ap (λ (x : plain.Entry). x.owner) view) (owner_before entries after i e lt is))
    ∙ ap (λ (x : plain.Entry). chain_with (item_in x.entity) (chain_of (entries_view entries) (owners_of (entries_view entries) i))) (sym view)

four : (a x b y c z d w : Bool) → a ≡ x → b ≡ y → c ≡ z → d ≡ w → (a && b && c && d) ≡ (x && y && z && w)
four a x b y c z d w p q r s = rw (p, q, r, s)

three : (a x b y c z : Bool) → a ≡ x → b ≡ y → c ≡ z → (a && b && c) ≡ (x && y && z)
three a x b y c z p q r = rw (p, q, r)

abbrev set_at : plain.Entry → ℕ
set_at x = set_of (map outermost (item_in x.entity).attributes)

pub nameable_more : (entries : List Entry) (i : ℕ) (e : Entry) → i < length entries → e ≡ get_or entries i e → (named : Named) (chain : Chain) (all : Nameable)
    → named.is_variable ≡ is_variable (entry_view e).entity
    → named.is_locator ≡ (has (set_at (entry_view e)) pointer || has (set_at (entry_view e)) offset)
    → named.is_area ≡ has (set_at (entry_view e)) area
    → chain ≡ chain_at (entries_view entries) i
    → all.is_locator ≡ (named.is_variable && named.is_locator && chain.is_unsubscripted && chain.is_not_based)
    → all.is_area ≡ (named.is_variable && named.is_area && chain.is_unsubscripted)
    → all ≡ nameable_at (entries_view entries) i
nameable_more entries i e lt is named chain all variable locator is_area known p q =
    let view = sym (view_at entries i e lt is) in
    let x = get_or (entries_view entries) i no_entry in
    let v : named.is_variable ≡ is_variable x.entity = variable ∙ ap (λ (y : plain.Entry). is_variable y.entity) view in
    let l : named.is_locator ≡ (has (set_at x) pointer || has (set_at x) offset) = locator ∙ ap (λ (y : plain.Entry). has (set_at y) pointer || has (set_at y) offset) view in
    let a : named.is_area ≡ has (set_at x) area = is_area ∙ ap (λ (y : plain.Entry). has (set_at y) area) view in
    let u = ap (λ (c : Chain). c.is_unsubscripted) known in
    let n = ap (λ (c : Chain). c.is_not_based) known in
    let first : all.is_locator ≡ (nameable_at (entries_view entries) i).is_locator = p ∙ four _ _ _ _ _ _ _ _ v l u n in
    let second : all.is_area ≡ (nameable_at (entries_view entries) i).is_area = q ∙ three _ _ _ _ _ _ v a u in
    λ k. record { is_locator = first k; is_area = second k }
