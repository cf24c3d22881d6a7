use Rattle.std.proofs.Common.{◌≡◌, ◌++◌, map}
use Rattle.pli_code.specs.views.CodeView.{external_view}
use Rattle.pli_link.specs.Links.{external_of}
use Rattle.pli_link.specs.views.NameView.{externals_view}
use Rattle.pli_link.proofs.links.externals_in.Given as goal

abbrev pub invariant-loop-name : goal.invariant-loop-name
invariant-loop-name l =
    map external_view l.made.items ++ map external_of (externals_view l.name-iterator) ≡ map external_of (externals_view l.externals.entries)
