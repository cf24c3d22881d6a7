use Rattle.std.proofs.Common.{◌∙◌, ap, sym, arith}
use Rattle.std.specs.Option.{option_copied}
use Rattle.pli_base.specs.Words.{same_name}
use Rattle.pli_link.proofs.MeantFirst.{small_found}
use Rattle.pli_link.proofs.links.unit_in.Goals as goal

pub overflow_cast-result : goal.overflow_cast-result
overflow_cast-result c =
    omega (
      arith,
      small_found (same_name c.args.name.now) c.args.procedures.now.entries c.in-Some.number.now c.requires
          (sym c.get.ensures.value ∙ ap option_copied c.in-Some.is),
    )
