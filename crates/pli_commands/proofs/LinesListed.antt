-- The parts of a listing's lines.
use Rattle.std.specs.Prelude.{◌≡◌, ℕ, ◌+◌, ◌<◌, List, [], ◌∷◌, ◌++◌, length, decimal, drop, get_or}
use Rattle.std.specs.List.{flat_map}
use Rattle.std.proofs.Common.{sym, ap, ◌∙◌, append_assoc}
use Rattle.std.proofs.lemmas.List.{drop_more}
use Rattle.pli_base.specs.Name.{Name}
use Rattle.pli_members.specs.Members.{Member}
use Rattle.pli_commands.specs.AnswerLines.{line, numbered_lines, kind_word, member_line}

-- a line of a member, after its number
abbrev pub numbered_line : ℕ → List ℕ → List ℕ
numbered_line number text = line (decimal number ++ 32 ∷ text)

-- the lines from one on
pub lines_from : (lines : List (List ℕ)) (i : ℕ) (d : List ℕ) → i < length lines
    → numbered_lines (i + 1) (drop i lines) ≡ numbered_line (i + 1) (get_or lines i d) ++ numbered_lines (i + 1 + 1) (drop (i + 1) lines)
lines_from lines i d h = ap (numbered_lines (i + 1)) (drop_more lines i d h)

-- the members from one on
pub members_from : (entries : List (Name × Member)) (i : ℕ) (d : Name × Member) → i < length entries
    → flat_map member_line (drop i entries) ≡ member_line (get_or entries i d) ++ flat_map member_line (drop (i + 1) entries)
members_from entries i d h = ap (flat_map member_line) (drop_more entries i d h)

-- the parts of a line with its number
pub line_parts : (number : ℕ) (line digits text : List ℕ) → digits ≡ decimal number → text ≡ line → numbered_line number line ≡ digits ++ 32 ∷ (text ++ 10 ∷ [])
line_parts number line digits text d t =
    append_assoc (decimal number) (32 ∷ line) (10 ∷ []) ∙ ap (λ n. n ++ 32 ∷ (line ++ 10 ∷ [])) (sym d) ∙ ap (λ l. digits ++ 32 ∷ (l ++ 10 ∷ [])) (sym t)

-- the parts of a member's line
pub member_parts : (entry : Name × Member) (name word digits : List ℕ) → name ≡ entry.0 → word ≡ kind_word entry.1.kind → digits ≡ decimal (length entry.1.lines)
    → member_line entry ≡ name ++ 32 ∷ (word ++ 32 ∷ (digits ++ 10 ∷ []))
member_parts entry name word digits n w d = rw (n, w, d) (simp append_assoc)
