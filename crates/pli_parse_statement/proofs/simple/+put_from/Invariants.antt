use Rattle.pli_parse_statement.proofs.simple.+put_from.Given as goal

abbrev pub decreases-put_from : goal.decreases-put_from
decreases-put_from l = l.bound
