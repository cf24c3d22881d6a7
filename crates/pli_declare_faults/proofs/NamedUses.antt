-- What names mean, as uses at the names that are declared with them.
use Rattle.std.proofs.Common.{◌≡◌, ℕ, ◌+◌, ◌<◌, List, [], ◌∷◌, ◌++◌, length, map, get_or, drop, sym, ap, ◌∙◌, refl}
use Rattle.std.proofs.lemmas.List.{append_assoc, drop_more}
use Rattle.std.specs.List.{flat_map, slice_get}
use Rattle.pli_base.specs.Name.{Name}
use Rattle.pli_base.specs.Declarations.{Item, SimpleAttribute, DescribedAttribute}
use Rattle.pli_base.specs.declared.syntax.Identifier.{Identifier}
use Rattle.pli_declare_outline.specs.Outlines.{Outline, Mark, Declared, Labelled, Entered, Used, Jumped}
use Rattle.pli_declare_constructs.specs.Regions.{blocks_round}
use Rattle.pli_declare_scopes.specs.Scopes.{meant}
use Rattle.pli_declare_scopes.specs.declared.found.ReferenceMeaning.{ReferenceMeaning}
use Rattle.pli_declare_scopes.specs.declared.found.ReferenceMeaning.TheVariants.{Item as Means, Ambiguous as Several, NotDeclared as Nothing}
use Rattle.pli_declare.specs.Tables.{block_in, unit_block, scope_of}
use Rattle.pli_declare.specs.AttributeNames.{plain_of, simple_of, area_in, locator_in}
use Rattle.pli_declare.specs.Declarations.{returned_by}
use Rattle.pli_declare.specs.Resolved.{use_of, used_as, named_at, item_names, areas_at, locators_at}
use Rattle.pli_declare.specs.declared.block.Use.{Use}

-- what names mean depends on the blocks round a region alone
module _ (o : Outline) (here block : ℕ) (e : blocks_round o.regions block ≡ blocks_round o.regions here) where
  same_uses : (at : ℕ) (m : ReferenceMeaning) → used_as o block at [] m ≡ used_as o here at [] m
  same_uses at (Means number out) = ap (λ bs. use_of at (slice_get bs out) number ∷ []) e
  same_uses at Several = refl
  same_uses at Nothing = refl

  same_names : (names : List Name) (i : Identifier) → named_at o block names i ≡ named_at o here names i
  same_names names i =
      ap (λ bs. used_as o block i.at [] (meant (map (block_in o) bs ++ unit_block o ∷ []) names)) e
      ∙ same_uses i.at (meant (scope_of o here) names)

  same_items : (names_in : List SimpleAttribute → List Name) (items : List Item) → flat_map (item_names o block names_in) items ≡ flat_map (item_names o here names_in) items
  same_items names_in items = λ k. flat_map (λ item. flat_map (λ i. same_names (names_in (flat_map simple_of item.attributes)) i k) item.names) items

  pub same_areas : (mark : Mark) → areas_at o block mark ≡ areas_at o here mark
  same_areas (Declared items) = same_items area_in items
  same_areas (Entered heading region) = same_names (area_in (flat_map plain_of (flat_map (λ (attributes : List DescribedAttribute). attributes) (returned_by heading.options)))) heading.name
  same_areas (Labelled label) = refl
  same_areas (Used names) = refl
  same_areas (Jumped label) = refl

  pub same_locators : (mark : Mark) → locators_at o block mark ≡ locators_at o here mark
  same_locators (Declared items) = same_items locator_in items
  same_locators (Entered heading region) = refl
  same_locators (Labelled label) = refl
  same_locators (Used names) = refl
  same_locators (Jumped label) = refl

-- what was put so far with what one more gives
pub passed : {W V A : Type 0} (view : W → V) (gives : V → List A) (all : List W) (n : ℕ) (x : W) (before after whole : List A) → n < length all → x ≡ get_or all n x
    → after ≡ before ++ gives (view x) → before ++ flat_map gives (map view (drop n all)) ≡ whole → after ++ flat_map gives (map view (drop (n + 1) all)) ≡ whole
passed view gives all n x before after whole lt read found so_far =
    let rest = flat_map gives (map view (drop (n + 1) all)) in
    ap (λ us. us ++ rest) found ∙ append_assoc before (gives (view x)) rest
    ∙ sym (ap (λ ps. before ++ flat_map gives (map view ps)) (drop_more all n x lt ∙ ap (λ y. y ∷ drop (n + 1) all) (sym read))) ∙ so_far
