use Rattle.std.proofs.Common.{◌≡◌, map, drop}
use Rattle.pli_link.specs.Names.{first_declared, all_shared, externals}
use Rattle.pli_link.specs.answers.Classes.{AreClassed, known_in}
use Rattle.pli_link.specs.views.NameView.{externals_view}
use Rattle.pli_link.specs.views.UnitView.{compiled_view}
use Rattle.pli_link.proofs.names.externals.Given as goal

-- the variables so far, with those of the units that are left, are those of all, and they have their classes
abbrev pub invariant-loop-number : goal.invariant-loop-number
invariant-loop-number l = record {
  first : first_declared (externals_view l.found.entries) (all_shared l.number (map compiled_view (drop l.number l.units)))
      ≡ externals (map compiled_view l.units);
  classed : AreClassed (known_in l.known.keys) l.found.entries;
}
