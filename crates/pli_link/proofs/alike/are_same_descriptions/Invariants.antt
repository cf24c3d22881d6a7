use Rattle.std.proofs.Common.{◌≡◌, map, drop, length}
use Rattle.std.specs.Cmp.Lexicographic.{pointwise}
use Rattle.pli_link.specs.Alike.{description_at, same_found}
use Rattle.pli_code.specs.views.CodeView.{code_view}
use Rattle.pli_link.proofs.alike.are_same_descriptions.Given as goal

abbrev pub invariant-loop-i : goal.invariant-loop-i
invariant-loop-i l =
    (pointwise same_found (map (description_at (code_view l.left)) (drop l.i l.left_numbers)) (map (description_at (code_view l.right)) (drop l.i l.right_numbers))
    ≡ pointwise same_found (map (description_at (code_view l.left)) l.left_numbers) (map (description_at (code_view l.right)) l.right_numbers))
    × (length l.left_numbers ≡ length l.right_numbers)
