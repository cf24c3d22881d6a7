-- Dummy arguments for strings of any length, and the descriptions that they have.
use Rattle.std.specs.Prelude.{◌≡◌, ◌≤◌, ◌==◌, ℕ, Bool, Some, None, Result, Ok, Err, List, length}
use Rattle.pli_map.specs.ParameterTypes.{string_of}
use Rattle.pli_map.specs.declared.description.Description.{Description}
use Rattle.pli_map.specs.declared.parameter.StringForm.{StringForm}
use Rattle.pli_map.specs.declared.parameter.StringForm.TheVariants as forms
use Rattle.pli_value.specs.Value.{Value, value_view}
use Rattle.pli_world.specs.Strings.{dummy_length, dummy_with, string_dummy}
use Rattle.pli_store.specs.answers.StringLists.{AreStrings}
use Rattle.pli_store.specs.declared.fault.StoreFault.{StoreFault}
use Rattle.pli_store.specs.declared.fault.StoreFault.TheVariants.{Raised, NoRule, OutOfMemory}
use Rattle.pli_store.specs.declared.string_descriptions.StringDescriptions.{StringDescriptions}
use Rattle.pli_store.specs.declared.strings.DummyString.{DummyString}
use Rattle.pli_store.specs.declared.strings.StringForms.{StringForms}

-- a form is one of these
abbrev pub asks_for : StringForms → StringForm → Bool
asks_for f forms.Character = f.characters
asks_for f forms.Varying = f.varying
asks_for f forms.Bit = f.bits

-- the descriptions of a form
abbrev pub listed : StringDescriptions → StringForm → List Description
listed s forms.Character = s.characters.items
listed s forms.Varying = s.varying.items
listed s forms.Bit = s.bits.items

-- there is one for each length of a form, from 1 to 32,767
abbrev pub has_form : StringDescriptions → StringForm → Bool
has_form s form = length (listed s form) == 32767

-- all of a form
pub record AreAllStrings (form : StringForm) (ds : List Description) : Type 0 where
  pub strings : AreStrings form ds
  pub all : length ds ≡ 32767

-- so long is a dummy argument for so many elements, which a string may have
pub record IsDummyLength (elements length : ℕ) : Type 0 where
  pub is : length ≡ dummy_length elements
  pub some : 1 ≤ length
  pub few : length ≤ 32767
  pub fits : elements ≤ 32767

-- so long is the dummy argument for a value, and it holds this
pub record IsDummyString (form : StringForm) (v : Value) (d : DummyString) : Type 0 where
  pub is : string_dummy form v ≡ Some (dummy_with (string_of form d.length) (value_view d.value))
  pub some : 1 ≤ d.length
  pub few : d.length ≤ 32767

-- the dummy argument for a value, or there is none
abbrev pub DummyMade : StringForm → Value → Result DummyString StoreFault → Type 0
DummyMade form v (Ok d) = IsDummyString form v d
DummyMade form v (Err (Raised e)) = ⊥
DummyMade form v (Err NoRule) = string_dummy form v ≡ None
DummyMade form v (Err OutOfMemory) = Unit {0}
