-- Statements with statements in them.
use Rattle.std.specs.Prelude.{Bool, true, false}
use Rattle.pli_base.specs.Statements as tree

-- a statement with statements in it
abbrev pub is_compound : tree.Body → Bool
is_compound (tree.Procedure heading statements end) = true
is_compound (tree.Begin statements end) = true
is_compound (tree.Do control statements end) = true
is_compound (tree.If condition consequence alternative) = true
is_compound (tree.On condition unit) = true
is_compound other = false
