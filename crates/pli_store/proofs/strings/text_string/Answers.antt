use Rattle.std.proofs.Common.{sym, subst}
use Rattle.pli_map.specs.declared.parameter.StringForm.{StringForm}
use Rattle.pli_value.specs.Value.{Characters}
use Rattle.pli_store.specs.answers.Strings.{DummyMade}
use Rattle.pli_store.proofs.strings.text_string.Goals as goal

pub returns-in-Character : goal.returns-in-Character
returns-in-Character c =
    subst (λ (f : StringForm). DummyMade f (Characters c.args.text.items) c.fixed_string.result) (sym c.in-Character.is) c.fixed_string.ensures

pub returns-in-Varying : goal.returns-in-Varying
returns-in-Varying c =
    subst (λ (f : StringForm). DummyMade f (Characters c.args.text.items) c.varying_string.result) (sym c.in-Varying.is) c.varying_string.ensures
