-- What is met in attributes: where nothing is named, one after another, and in all.
use Rattle.std.proofs.Common.{◌≡◌, ℕ, ◌+◌, ◌<◌, ◌≤◌, Bool, true, false, ◌&&◌, Option, Some, None, List, [], ◌∷◌, ◌++◌, length, get_or, map, drop, refl, sym, ap, subst, ◌∙◌, append_assoc, Vec, Global}
use Rattle.std.specs.List.{flat_map, list_all}
use Rattle.std.proofs.lemmas.List.{drop_more, drop_all, append-nil}
use Rattle.pli_base.specs.Name.{Name}
use Rattle.std.proofs.lemmas.Grind.{flat_map-append}
use Rattle.pli_base.specs.Declarations.{SimpleAttribute}
use Rattle.pli_base.specs.Statements.{Heading}
use Rattle.pli_base.specs.declared.declaration.Attribute.{Attribute}
use Rattle.pli_base.specs.declared.declaration.DescribedAttribute.{DescribedAttribute}
use Rattle.pli_base.specs.declared.statement.ProcedureOption.{ProcedureOption}
use Rattle.pli_base.specs.declared.statement.ProcedureOption.TheVariants.{Main, Returns, Recursive}
use Rattle.pli_base.specs.views.DeclarationView.{described_view, attribute_view}
use Rattle.pli_base.specs.views.StatementView.{option_view}
use Rattle.pli_declare_outline.specs.Outlines.{Outline}
use Rattle.pli_declare_scopes.specs.Scopes.{meant}
use Rattle.pli_declare.specs.Tables.{scope_of}
use Rattle.pli_declare.specs.AttributeNames.{plain_of, simple_of, area_in, locator_in}
use Rattle.pli_declare.specs.Declarations.{returned_by}
use Rattle.pli_declare.specs.Resolution.{described_is_good, attribute_is_good}
use Rattle.pli_declare.specs.Resolved.{used_as, use_of}
use Rattle.pli_declare.proofs.LookUpLemmas.{no_names}
use Rattle.pli_declare_faults.specs.answers.Meeting.{IsFirst, Meets, nothing_met, first_target}
use Rattle.pli_declare_faults.specs.answers.Targets.{target_uses}
use Rattle.pli_declare_faults.specs.declared.look_up.Looked.{Looked}
use Rattle.pli_declare_faults.specs.declared.look_up.Looked.TheVariants.{Found, Ambiguous, NotDeclared}
use Rattle.pli_declare_faults.specs.declared.met.Met.{Met}

and_grouped : (a b c : Bool) → ((a && b) && c) ≡ (a && (b && c))
and_grouped true b c = refl
and_grouped false b c = refl

and_true : (a : Bool) → a ≡ (a && true)
and_true true = refl
and_true false = refl

module _ (o : Outline) (block : ℕ) where
  -- where nothing is named
  pub none_met : (met : Met) (good : Bool) → good ≡ true → Meets met met o block good []
  none_met met good e = record {
    goods = and_true met.are_good ∙ ap (λ b. met.are_good && b) (sym e);
    areas = λ first more h. h;
    locators = λ first more h. h;
  }

  -- what is met in one part and then in another
  then_met : (before mid after : Met) (g h : Bool) (xs ys : List SimpleAttribute) → Meets before mid o block g xs → Meets mid after o block h ys → Meets before after o block (g && h) (xs ++ ys)
  then_met before mid after g h xs ys a b = record {
    goods = b.goods ∙ ap (λ t. t && h) a.goods ∙ and_grouped before.are_good g h;
    areas = λ first more f. b.areas first more (a.areas first (ys ++ more) (subst (λ ss. IsFirst before.area o block first (area_in ss)) (append_assoc xs ys more) f));
    locators = λ first more f. b.locators first more (a.locators first (ys ++ more) (subst (λ ss. IsFirst before.locator o block first (locator_in ss)) (append_assoc xs ys more) f));
  }

  -- a walk over attributes, of each list of which it is known whether their names are good and which simple attributes they are
  module _ {W : Type 0} (good : List W → Bool) (simple : List W → List SimpleAttribute) where
    -- what is met in those that are left makes of what was met so far what is met in all
    abbrev pub Leaves : (first before : Met) (all left : List W) → Type 0
    Leaves first before all left = (after : Met) → Meets before after o block (good left) (simple left) → Meets first after o block (good all) (simple all)

    pub one_met : (first before mid : Met) (all : List W) (n : ℕ) (x : W) (g : Bool) (ss : List SimpleAttribute) → n < length all → x ≡ get_or all n x
        → good (x ∷ drop (n + 1) all) ≡ (g && good (drop (n + 1) all)) → simple (x ∷ drop (n + 1) all) ≡ ss ++ simple (drop (n + 1) all)
        → Meets before mid o block g ss → Leaves first before all (drop n all) → Leaves first mid all (drop (n + 1) all)
    one_met first before mid all n x g ss lt read goods simples m left after more =
        left after
        (subst (λ xs. Meets before after o block (good xs) (simple xs)) (sym (drop_more all n x lt ∙ ap (λ y. y ∷ drop (n + 1) all) (sym read)))
        (subst (λ b. Meets before after o block b (simple (x ∷ drop (n + 1) all))) (sym goods)
        (subst (λ xs. Meets before after o block (g && good (drop (n + 1) all)) xs) (sym simples)
        (then_met before mid after g (good (drop (n + 1) all)) ss (simple (drop (n + 1) all)) m more))))

    pub all_met : (first before : Met) (all : List W) (n : ℕ) → length all ≤ n → good [] ≡ true → simple [] ≡ []
        → Leaves first before all (drop n all) → Meets first before o block (good all) (simple all)
    all_met first before all n over goods simples left =
        left before
        (subst (λ xs. Meets before before o block (good xs) (simple xs)) (sym (drop_all n all over))
        (subst (Meets before before o block (good [])) (sym simples) (none_met before (good []) goods)))

  -- the first of all, at the end
  module _ (met : Met) (good : Bool) (ss : List SimpleAttribute) (m : Meets nothing_met met o block good ss) where
    pub first_area : IsFirst met.area o block (area_in ss) []
    first_area = m.areas (area_in ss) [] (ap area_in (sym (append-nil ss)))

    pub first_locator : IsFirst met.locator o block (locator_in ss) []
    first_locator = m.locators (locator_in ss) [] (ap locator_in (sym (append-nil ss)))

  -- what it means at a name
  pub first_means : (first : Option Looked) (names : List Name) → IsFirst first o block names []
      → (at : ℕ) → target_uses at (first_target first) ≡ used_as o block at [] (meant (scope_of o block) names)
  first_means None names none at = sym (ap (used_as o block at []) (ap (meant (scope_of o block)) none ∙ no_names (scope_of o block) 0))
  first_means (Some (Found b number)) names f at = ap (λ p. use_of at p number ∷ []) f.place ∙ sym (ap (used_as o block at []) f.meant)
  first_means (Some Ambiguous) names f at = sym (ap (used_as o block at []) f)
  first_means (Some NotDeclared) names f at = sym (ap (used_as o block at []) f)

-- the simple attributes in the RETURNS of a heading
abbrev pub heading_simple : Heading → List SimpleAttribute
heading_simple heading = flat_map plain_of (flat_map (λ attributes. attributes) (returned_by heading.options))

-- the walks: over the attributes of a description, those of an item, and the options of a heading
module _ (o : Outline) (block : ℕ) where
  abbrev pub described_good : List DescribedAttribute → Bool
  described_good as' = list_all (described_is_good o block) (map described_view as')

  abbrev pub described_simple : List DescribedAttribute → List SimpleAttribute
  described_simple as' = flat_map plain_of (map described_view as')

  abbrev pub item_good : List Attribute → Bool
  item_good as' = list_all (attribute_is_good o block) (map attribute_view as')

  abbrev pub item_simple : List Attribute → List SimpleAttribute
  item_simple as' = flat_map simple_of (map attribute_view as')

  abbrev pub options_good : List ProcedureOption → Bool
  options_good os = list_all (list_all (described_is_good o block)) (returned_by (map option_view os))

  abbrev pub options_simple : List ProcedureOption → List SimpleAttribute
  options_simple os = flat_map plain_of (flat_map (λ attributes. attributes) (returned_by (map option_view os)))

  -- an option that is RETURNS, and any other
  pub returns_simple : (attributes : Vec DescribedAttribute Global) (os : List ProcedureOption) → options_simple (Returns attributes ∷ os) ≡ described_simple attributes.items ++ options_simple os
  returns_simple attributes os = flat_map-append plain_of (map described_view attributes.items) (flat_map (λ attributes. attributes) (returned_by (map option_view os)))

  pub other_good : (option : ProcedureOption) (os : List ProcedureOption) → ((x : Vec DescribedAttribute Global) → option ≡ Returns x → ⊥) → options_good (option ∷ os) ≡ (true && options_good os)
  other_good Main os h = refl
  other_good (Returns attributes) os h = absurd (h attributes refl)
  other_good Recursive os h = refl

  pub other_simple : (option : ProcedureOption) (os : List ProcedureOption) → ((x : Vec DescribedAttribute Global) → option ≡ Returns x → ⊥) → options_simple (option ∷ os) ≡ options_simple os
  other_simple Main os h = refl
  other_simple (Returns attributes) os h = absurd (h attributes refl)
  other_simple Recursive os h = refl
