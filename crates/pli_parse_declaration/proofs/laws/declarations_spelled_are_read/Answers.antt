use Rattle.pli_parse_declaration.proofs.DeclarationItemsAgain.{items_again, declaration_again, returned_again}
use Rattle.pli_parse_declaration.proofs.laws.declarations_spelled_are_read.Goals as goal

pub returns : goal.returns
returns c =
    record {
      items = items_again;
      declaration = λ p ts more items spelled. declaration_again p ts more items spelled tt;
      returned = λ p ts more attributes spelled. returned_again p ts more attributes spelled tt;
    }
