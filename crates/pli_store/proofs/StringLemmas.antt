-- Dummy arguments for strings, and their descriptions.
use Rattle.std.proofs.Common.{◌≡◌, ◌≤◌, ◌<◌, ℕ, suc, max, Bool, true, false, ℤ, Some, None, Err, List, [], ◌∷◌, ◌++◌, length, slice_get, if◌then◌else◌, refl, sym, ap, ◌∙◌, arith}
use Rattle.std.proofs.lemmas.Bool.{le-leb, lt-leb}
use Rattle.std.proofs.lemmas.Option.{none-some}
use Rattle.pli_map.specs.Description as tree
use Rattle.pli_map.specs.ParameterTypes.{string_of}
use Rattle.pli_map.specs.Same.{same}
use Rattle.pli_map.specs.declared.description.Description.{Description}
use Rattle.pli_map.specs.declared.parameter.StringForm.{StringForm}
use Rattle.pli_map.specs.declared.parameter.StringForm.TheVariants as forms
use Rattle.pli_map.specs.laws.SameLaws.{same_decides}
use Rattle.pli_map.specs.views.DescriptionView.{description_view}
use Rattle.pli_value.specs.Strings.{fitted}
use Rattle.pli_value.specs.Value.{Value, Number, Characters, Bits, Located, value_view}
use Rattle.pli_value.specs.declared.locator.Locator.{Locator}
use Rattle.pli_world.specs.Storage.{Place}
use Rattle.pli_world.specs.Strings.{StringDummy, dummy_with, unless_long, string_dummy, made_dummy, string_dummy_of}
use Rattle.pli_world.specs.World.{World, dummy_of}
use Rattle.pli_store.specs.answers.Answered.{Answered}
use Rattle.pli_store.specs.answers.StringLists.{AreStrings}
use Rattle.pli_store.specs.answers.Strings.{IsDummyLength, IsDummyString, DummyMade}
use Rattle.pli_store.specs.declared.fault.StoreFault.{StoreFault}
use Rattle.pli_store.specs.declared.fault.StoreFault.TheVariants.{Raised, NoRule, OutOfMemory}
use Rattle.pli_store.specs.declared.strings.DummyString.{DummyString}
use Rattle.pli_store.proofs.OneMore.{each_more}

-- descriptions

pub no_strings : (form : StringForm) → AreStrings form []
no_strings form n d is = absurd (none-some d is)

-- one more, which is as long as they are many, and one longer
pub one_more_string : (form : StringForm) (ds : List Description) (d : Description) → AreStrings form ds
    → description_view d ≡ string_of form (suc (length ds)) → AreStrings form (ds ++ d ∷ [])
one_more_string form ds d strings is =
    each_more (λ n d. same (description_view d) (string_of form (suc n)) ≡ true) ds d strings
    ((same_decides (description_view d) (string_of form (suc (length ds)))).1 is)

-- the one of a place
pub string_at : (form : StringForm) (ds : List Description) (n : ℕ) (d : Description) → AreStrings form ds → slice_get ds n ≡ Some d
    → description_view d ≡ string_of form (suc n)
string_at form ds n d strings is = (same_decides (description_view d) (string_of form (suc n))).0 (strings n d is)

-- lengths

pub length_of_dummy : (n k : ℕ) → k ≡ max n 1 → n ≤ 32767 → IsDummyLength n k
length_of_dummy n k e few = record {
  is = omega (arith, e);
  some = omega (arith, e);
  few = omega (arith, e, few);
  fits = few;
}

not_long : (n : ℕ) (d : StringDummy) → n ≤ 32767 → unless_long n d ≡ Some d
not_long n d few = ap (λ b. if b then Some d else None) (le-leb n 32767 few)

too_long : (n : ℕ) (d : StringDummy) → 32767 < n → unless_long n d ≡ None
too_long n d many = ap (λ b. if b then Some d else None) (lt-leb n 32767 many)

-- values

pub fixed_made : (s : List ℕ) (d : DummyString) → IsDummyLength (length s) d.length
    → value_view d.value ≡ Characters (fitted 32 d.length s) → IsDummyString forms.Character (Characters s) d
fixed_made s d is filled = record {
  is =
      not_long (length s) _ is.fits
      ∙ ap (λ n. Some (dummy_with (tree.Character n) (Characters (fitted 32 n s)))) (sym is.is)
      ∙ ap (λ v. Some (dummy_with (tree.Character d.length) v)) (sym filled);
  some = is.some;
  few = is.few;
}

pub fixed_too_long : (s : List ℕ) → 32767 < length s → string_dummy forms.Character (Characters s) ≡ None
fixed_too_long s many = too_long (length s) _ many

pub varying_made : (s : List ℕ) (d : DummyString) → IsDummyLength (length s) d.length
    → value_view d.value ≡ Characters s → IsDummyString forms.Varying (Characters s) d
varying_made s d is same = record {
  is =
      not_long (length s) _ is.fits
      ∙ ap (λ n. Some (dummy_with (tree.Varying n) (Characters s))) (sym is.is)
      ∙ ap (λ v. Some (dummy_with (tree.Varying d.length) v)) (sym same);
  some = is.some;
  few = is.few;
}

pub varying_too_long : (s : List ℕ) → 32767 < length s → string_dummy forms.Varying (Characters s) ≡ None
varying_too_long s many = too_long (length s) _ many

pub bits_made : (s : List Bool) (d : DummyString) → IsDummyLength (length s) d.length
    → value_view d.value ≡ Bits (fitted false d.length s) → IsDummyString forms.Bit (Bits s) d
bits_made s d is filled = record {
  is =
      not_long (length s) _ is.fits
      ∙ ap (λ n. Some (dummy_with (tree.Bit n) (Bits (fitted false n s)))) (sym is.is)
      ∙ ap (λ v. Some (dummy_with (tree.Bit d.length) v)) (sym filled);
  some = is.some;
  few = is.few;
}

pub bits_too_long : (s : List Bool) → 32767 < length s → string_dummy forms.Bit (Bits s) ≡ None
bits_too_long s many = too_long (length s) _ many

-- what is no string makes none
pub no_number_made : (form : StringForm) (x : ℤ) → string_dummy form (Number x) ≡ None
no_number_made forms.Character x = refl
no_number_made forms.Varying x = refl
no_number_made forms.Bit x = refl

pub no_locator_made : (form : StringForm) (l : Locator) → string_dummy form (Located l) ≡ None
no_locator_made forms.Character l = refl
no_locator_made forms.Varying l = refl
no_locator_made forms.Bit l = refl

-- answers

-- what a string makes is a dummy argument of a description
pub string_dummy_is : (form : StringForm) (v x : Value) (d : tree.Description) (w : World) → string_dummy form v ≡ Some (dummy_with d x)
    → string_dummy_of form v w ≡ dummy_of d x w
unfolding string_dummy_of
string_dummy_is form v x d w is = ap (λ o. made_dummy o w) is

-- or it makes none
pub no_string_dummy : {T : Type 0} (view : T → Place) (form : StringForm) (v : Value) (fault : StoreFault) (before after : World)
    → DummyMade form v (Err fault) → Answered view (Err fault) before after (string_dummy_of form v before)
unfolding string_dummy_of
no_string_dummy view form v (Raised e) before after none = absurd none
no_string_dummy view form v NoRule before after none = ap (λ o. made_dummy o before) none
no_string_dummy view form v OutOfMemory before after none = tt
