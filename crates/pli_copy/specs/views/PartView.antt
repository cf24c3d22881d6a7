-- What a part of a reference says that is joined to others, as a list of the tree that has it alone.
use Rattle.pli_base.specs.Syntax.{JoinedParts, Alone, Joined}
use Rattle.pli_base.specs.views.SyntaxView.{arguments_view}
use Rattle.pli_base.specs.declared.syntax.JoinedPart.{JoinedPart}

-- the part alone, with what joins it
abbrev pub part_view : JoinedPart → JoinedParts
part_view x = Joined x.joining x.part.name (arguments_view x.part.arguments) Alone
