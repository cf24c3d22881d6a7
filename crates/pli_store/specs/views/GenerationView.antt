-- What generations of the program say.
use Rattle.pli_bytes.specs.Contents.{values_of}
use Rattle.pli_map.specs.views.DescriptionView.{description_view}
use Rattle.pli_world.specs.Storage as plain
use Rattle.pli_store.specs.answers.Inhabited.{blocks_in}
use Rattle.pli_store.specs.declared.generation.Generation.{Generation}
use Rattle.pli_store.specs.declared.generation.Made.{Made}
use Rattle.pli_store.specs.declared.generation.Made.TheVariants as made

-- how a generation was made
abbrev pub made_view : Made → plain.Made
made_view made.Automatic = plain.Automatic
made_view made.Static = plain.Static
made_view made.Controlled = plain.Controlled
made_view made.Based = plain.Based
made_view made.Dummy = plain.Dummy

-- a generation, with what its bytes hold and its blocks
abbrev pub generation_view : Generation → plain.Generation
generation_view g =
    record {
      number = g.number;
      description = description_view g.description.now;
      made = made_view g.made;
      values = values_of (description_view g.description.now) g.bytes.items;
      blocks = blocks_in g.area;
    }
