-- The worked unit with an ON-unit is numbered well.
use Rattle.std.proofs.Common.{refl}
use Rattle.pli_gen.specs.examples.TranslationExamples.{taking, UnitsNumbered}
use Rattle.pli_gen_emit.specs.TreeTranslation.{procedure_block}

pub units_numbered : UnitsNumbered
units_numbered = record {
  blocks = (refl, (refl, (refl, tt)));
  statements = (refl, (refl, (refl, (refl, (refl, (refl, tt))))));
  loops = ((tt, (tt, (tt, tt))), ((tt, tt), ((tt, (tt, tt)), tt)));
  temporaries = ((tt, (tt, (tt, tt))), ((tt, tt), ((tt, (tt, tt)), tt)));
  units = (
    (record { tree = procedure_block taking; there = refl; kind = refl; parent = refl; parameters = refl }, (tt, (tt, tt))),
    ((tt, tt), ((tt, (tt, tt)), tt)),
  );
}
