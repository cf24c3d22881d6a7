use Rattle.std.proofs.Common.{◌≡◌, map, drop}
use Rattle.pli_link.specs.Names.{first_declared, shared_from}
use Rattle.pli_link.specs.answers.Classes.{AreClassed, known_in}
use Rattle.pli_link.specs.views.NameView.{externals_view}
use Rattle.pli_code.specs.views.CodeView.{code_view, global_view}
use Rattle.pli_link.proofs.names.note_shared.Given as goal

-- the variables so far, with those of the globals that are left, are those of all, and they have their classes
abbrev pub invariant-loop-number : goal.invariant-loop-number
invariant-loop-number l = record {
  first : first_declared (externals_view l.externals.entries) (shared_from (code_view l.code) l.unit l.number (map global_view (drop l.number l.globals)))
      ≡ first_declared (externals_view l.initial.externals.entries) (shared_from (code_view l.code) l.unit 0 (map global_view l.globals));
  classed : AreClassed (known_in l.initial.known.keys) l.initial.externals.entries → AreClassed (known_in l.known.keys) l.externals.entries;
}
