-- The lines of an input (own).
use Rattle.std.specs.Prelude.{◌≡◌, ℕ, nat_eq, Bool, List, [], ◌∷◌, ◌++◌, if◌then◌else◌, refl}

-- what ends a line
abbrev pub is_line_feed : ℕ → Bool
is_line_feed c = nat_eq c 10

-- what may stand before that, and is no part of the line
abbrev pub is_carriage_return : ℕ → Bool
is_carriage_return c = nat_eq c 13

-- the text before a line feed, without the carriage return at its end
abbrev pub without_return : List ℕ → List ℕ
without_return [] = []
without_return (c ∷ []) = if is_carriage_return c then [] else c ∷ []
without_return (c ∷ d ∷ text) = c ∷ without_return (d ∷ text)

-- the lines that line feeds end, where the first of them has begun before these bytes
abbrev pub complete_from : (begun : List ℕ) → List ℕ → List (List ℕ)
complete_from begun [] = []
complete_from begun (c ∷ bytes) =
    if is_line_feed c then without_return begun ∷ complete_from [] bytes
    else complete_from (begun ++ c ∷ []) bytes

-- the line that no line feed has ended yet
abbrev pub pending_from : (begun : List ℕ) → List ℕ → List ℕ
pending_from begun [] = begun
pending_from begun (c ∷ bytes) =
    if is_line_feed c then pending_from [] bytes else pending_from (begun ++ c ∷ []) bytes

-- the lines that line feeds end
abbrev pub complete_lines : List ℕ → List (List ℕ)
complete_lines bytes = complete_from [] bytes

-- what stands after the last line feed
abbrev pub pending_line : List ℕ → List ℕ
pending_line bytes = pending_from [] bytes

-- a last line without a line feed counts where it is not empty
abbrev pub last_line : List ℕ → List (List ℕ)
last_line [] = []
last_line (c ∷ text) = (c ∷ text) ∷ []

-- all lines of an input
abbrev pub input_lines : List ℕ → List (List ℕ)
input_lines bytes = complete_lines bytes ++ last_line (pending_line bytes)

lines_of_both_kinds : input_lines (65 ∷ 13 ∷ 10 ∷ 10 ∷ 66 ∷ 13 ∷ []) ≡ (65 ∷ []) ∷ [] ∷ (66 ∷ 13 ∷ []) ∷ []
lines_of_both_kinds = refl

no_lines : input_lines [] ≡ []
no_lines = refl

lines_ended : input_lines (65 ∷ 13 ∷ 13 ∷ 10 ∷ []) ≡ (65 ∷ 13 ∷ []) ∷ []
lines_ended = refl
