use Rattle.pli_parse_declaration.proofs.DeclarationItemsRead.{items_reads, declaration_reads, returned_reads}
use Rattle.pli_parse_declaration.proofs.laws.declarations_read_are_spelled.Goals as goal

pub returns : goal.returns
returns c = record { items = items_reads; declaration = declaration_reads; returned = returned_reads }
