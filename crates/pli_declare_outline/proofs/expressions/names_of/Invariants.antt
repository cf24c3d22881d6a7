use Rattle.std.proofs.Common.{◌≡◌, ◌++◌, ◌∷◌, drop}
use Rattle.pli_base.specs.views.SyntaxView.{joined_view}
use Rattle.pli_declare_outline.specs.Outlines.{member_names}
use Rattle.pli_declare_outline.proofs.expressions.names_of.Given as goal

-- the names so far, and those of what is left
abbrev pub invariant-loop-part : goal.invariant-loop-part
invariant-loop-part l = l.names.items ++ member_names (joined_view (drop l.part-index l.joined)) ≡ l.fn.name ∷ member_names (joined_view l.joined)
