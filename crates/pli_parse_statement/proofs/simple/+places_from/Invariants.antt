use Rattle.pli_parse_statement.proofs.simple.+places_from.Given as goal

abbrev pub decreases-places_from : goal.decreases-places_from
decreases-places_from l = l.bound
