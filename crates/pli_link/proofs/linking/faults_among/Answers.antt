use Rattle.pli_link.proofs.ClassLemmas.{classed_stay}
use Rattle.pli_link.proofs.linking.faults_among.Goals as goal

pub faulty_names-requires-2-clause-classes : goal.faulty_names-requires-2-clause-classes
faulty_names-requires-2-clause-classes c =
    classed_stay c.args.known.now.keys c.faulty_names.new.known.keys c.args.names.now.externals.now.entries c.in_ok-unresolved.ensures.grows c.requires.classes
