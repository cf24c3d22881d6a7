use Rattle.std.proofs.Common.{subst, sym, map}
use Rattle.pli_link.specs.answers.Linking.{Links}
use Rattle.pli_link.specs.views.UnitView.{compiled_view}
use Rattle.pli_link.proofs.LinkAlike.{links_alike}
use Rattle.pli_link.proofs.linking.link.Goals as goal

pub returns : goal.returns
returns c = subst (Links _) (sym (links_alike (map compiled_view c.args.units.now))) c.link_by.ensures
