use Rattle.std.proofs.Common.{sym, subst}
use Rattle.pli_map.specs.declared.parameter.StringForm.{StringForm}
use Rattle.pli_store.specs.answers.StringLists.{AreStrings}
use Rattle.pli_store.proofs.string_descriptions.StringDescriptions.of_form.Goals as goal

pub returns-in-Character-clause-strings : goal.returns-in-Character-clause-strings
returns-in-Character-clause-strings c =
    subst (AreStrings c.args.form) (sym c.deref.ensures.value)
    (subst (λ (f : StringForm). AreStrings f c.args.self.now.characters.items) (sym c.in-Character.is) c.args.self.now.of_characters)

pub returns-in-Varying-clause-strings : goal.returns-in-Varying-clause-strings
returns-in-Varying-clause-strings c =
    subst (AreStrings c.args.form) (sym c.deref-in-Varying.ensures.value)
    (subst (λ (f : StringForm). AreStrings f c.args.self.now.varying.items) (sym c.in-Varying.is) c.args.self.now.of_varying)

pub returns-in-Bit-clause-strings : goal.returns-in-Bit-clause-strings
returns-in-Bit-clause-strings c =
    subst (AreStrings c.args.form) (sym c.deref-in-Bit.ensures.value)
    (subst (λ (f : StringForm). AreStrings f c.args.self.now.bits.items) (sym c.in-Bit.is) c.args.self.now.of_bits)
