-- What an iteration keeps while it turns: its start, then TO and BY in the order of the text.
use Rattle.std.specs.Prelude.{ℕ, suc, pos, Bool, true, false, Option, Some, None, List, [], ◌∷◌, length}
use Rattle.pli_value.specs.Value.{Number}
use Rattle.pli_type_tree.specs.TypedTree.{TypedExpression, Literal, TypedRange, Once, ToBy, ByTo, Repeated}
use Rattle.pli_type_tree.specs.TypedTree.{RepeatedString}

-- what is kept after the start: TO and BY in the order of the text; the step is 1 where TO stands without BY
abbrev pub kept_by : TypedRange → List TypedExpression
kept_by Once = []
kept_by (ToBy to None) = to ∷ Literal (Number (pos 1)) ∷ []
kept_by (ToBy to (Some by)) = to ∷ by ∷ []
kept_by (ByTo by None) = by ∷ []
kept_by (ByTo by (Some to)) = by ∷ to ∷ []
kept_by (Repeated next) = []
kept_by (RepeatedString next) = []

-- how many values are kept, the start with them
abbrev pub temporaries_of : TypedRange → ℕ
temporaries_of range = suc (length (kept_by range))

-- the number of the limit among what is kept, where there is one, the start being 0
abbrev pub limit_number : TypedRange → Option ℕ
limit_number Once = None
limit_number (ToBy to by) = Some 1
limit_number (ByTo by None) = None
limit_number (ByTo by (Some to)) = Some 2
limit_number (Repeated next) = None
limit_number (RepeatedString next) = None

-- the number of the step among what is kept, where there is one
abbrev pub step_number : TypedRange → ℕ
step_number Once = 0
step_number (ToBy to by) = 2
step_number (ByTo by to) = 1
step_number (Repeated next) = 0
step_number (RepeatedString next) = 0

-- there may be more than one turn
abbrev pub is_iterated : TypedRange → Bool
is_iterated Once = false
is_iterated (ToBy to by) = true
is_iterated (ByTo by to) = true
is_iterated (Repeated next) = true
is_iterated (RepeatedString next) = true
