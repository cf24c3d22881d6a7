use Rattle.std.proofs.Common.{sym, subst}
use Rattle.pli_map.specs.declared.parameter.StringForm.{StringForm}
use Rattle.pli_value.specs.Value.{Bits}
use Rattle.pli_store.specs.answers.Strings.{DummyMade}
use Rattle.pli_store.proofs.strings.bits_of_form.Goals as goal

pub returns-in-Bit : goal.returns-in-Bit
returns-in-Bit c =
    subst (λ (f : StringForm). DummyMade f (Bits c.args.bits.now) c.bit_string.result) (sym c.in-Bit.is) c.bit_string.ensures
