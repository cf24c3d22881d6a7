use Rattle.std.proofs.Common.{length, eq-eqb}
use Rattle.pli_map.specs.declared.parameter.StringForm.{StringForm}
use Rattle.pli_map.specs.declared.parameter.StringForm.TheVariants as forms
use Rattle.pli_store.proofs.string_descriptions.StringDescriptions.new.Goals as goal

pub invariant_of-descriptions : goal.invariant_of-descriptions
invariant_of-descriptions c = record {
  of_characters = c.in_ok-characters.ensures.strings;
  of_varying = c.in_ok-varying.ensures.strings;
  of_bits = c.in_ok-bits.ensures.strings;
}

-- what holds of each form
each_form : (P : StringForm → Type 0) → P forms.Character → P forms.Varying → P forms.Bit → (form : StringForm) → P form
each_form P characters varying bits forms.Character = characters
each_form P characters varying bits forms.Varying = varying
each_form P characters varying bits forms.Bit = bits

pub returns : goal.returns
returns c =
    each_form _
    (λ asked. eq-eqb (length c.in_ok-characters.characters.items) 32767 (c.in_ok-characters.ensures.all asked))
    (λ asked. eq-eqb (length c.in_ok-varying.varying.items) 32767 (c.in_ok-varying.ensures.all asked))
    (λ asked. eq-eqb (length c.in_ok-bits.bits.items) 32767 (c.in_ok-bits.ensures.all asked))
