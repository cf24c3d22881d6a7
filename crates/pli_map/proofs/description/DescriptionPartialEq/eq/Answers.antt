use Rattle.pli_map.specs.laws.SameLaws.{same_answer}
use Rattle.pli_map.proofs.description.DescriptionPartialEq.eq.Goals as goal

pub returns : goal.returns
returns c = same_answer _ _ _ c.equals.ensures
