-- Worked examples of changes of lines, and of what is refused first.
use Rattle.std.specs.Prelude.{◌≡◌, ℕ, List, [], ◌∷◌, codes, replicate, Some, None}
use Rattle.pli_members.specs.Members.{Insert, Replace, Remove, changed_lines}
use Rattle.pli_members.specs.Refusals.{refusal_of_lines}
use Rattle.pli_members.specs.declared.refusal.Refusal.TheVariants.{NoSuchLine, LineTooLong, BadByte}

-- a member of the lines A, B and C
abbrev three : List (List ℕ)
three = codes "A" ∷ codes "B" ∷ codes "C" ∷ []

-- a line after the first
abbrev pub LinePut : Type 0
LinePut = changed_lines (Insert 1 (codes "X")) three ≡ codes "A" ∷ codes "X" ∷ codes "B" ∷ codes "C" ∷ []

-- the first line is line 1
abbrev pub FirstLineReplaced : Type 0
FirstLineReplaced = changed_lines (Replace 1 (codes "X")) three ≡ codes "X" ∷ codes "B" ∷ codes "C" ∷ []

-- a removal takes its first line, its last, and all between
abbrev pub LastLinesRemoved : Type 0
LastLinesRemoved = changed_lines (Remove 2 3) three ≡ codes "A" ∷ []

-- one line is removed
abbrev pub OneLineRemoved : Type 0
OneLineRemoved = changed_lines (Remove 2 2) three ≡ codes "A" ∷ codes "C" ∷ []

-- no line 0 can be replaced, nor removed
abbrev pub NoLineZero : Type 0
NoLineZero =
    (refusal_of_lines (Replace 0 []) three ≡ Some NoSuchLine)
    × (refusal_of_lines (Remove 0 1) three ≡ Some NoSuchLine)

-- the last line may be removed, and none after it; the first of the lines may not stand after the last
abbrev pub RemovalsInRange : Type 0
RemovalsInRange =
    (refusal_of_lines (Remove 1 3) three ≡ None) × (refusal_of_lines (Remove 1 4) three ≡ Some NoSuchLine)
    × (refusal_of_lines (Remove 3 2) three ≡ Some NoSuchLine)

-- a line that is not there comes before a text that is too long, and that before a bad byte
abbrev pub RefusedInOrder : Type 0
RefusedInOrder =
    (refusal_of_lines (Insert 5 (replicate 121 65)) [] ≡ Some NoSuchLine)
    × (refusal_of_lines (Insert 0 (replicate 121 127)) [] ≡ Some LineTooLong)
    × (refusal_of_lines (Insert 0 (replicate 120 127)) [] ≡ Some BadByte)
    × (refusal_of_lines (Replace 3 (replicate 120 126)) three ≡ None)
