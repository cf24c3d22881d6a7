use Rattle.pli_deck_write.proofs.ModuleLaws.{read_module_is_spelled}
use Rattle.pli_deck_write.proofs.laws.modules_both_ways.Goals as goal

pub returns-clause-read : goal.returns-clause-read
returns-clause-read c = read_module_is_spelled
