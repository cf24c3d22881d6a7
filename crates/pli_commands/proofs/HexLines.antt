-- The parts of what is shown of bytes.
use Rattle.std.proofs.Common.{◌≡◌, ℕ, ◌+◌, ◌<◌, ◌≤◌, List, [], ◌++◌, length, drop, get_or, sym, ap, ◌∙◌, append_assoc, append-nil}
use Rattle.std.proofs.lemmas.List.{drop_all, drop_more}
use Rattle.pli_commands.specs.Dumps.{digits_of, end_at, next_column, hex_from}

-- a byte and its line's end
pub byte_parts : (digits end : List ℕ) → digits ++ end ≡ digits ++ (end ++ [])
byte_parts digits end = ap (λ l. digits ++ l) (sym (append-nil end))

-- the bytes from one on
pub hex_more : (column next : ℕ) (bytes : List ℕ) (i : ℕ) (d : ℕ) → i < length bytes → next ≡ next_column column
    → hex_from column (drop i bytes) ≡ (digits_of (get_or bytes i d) ++ end_at column) ++ hex_from next (drop (i + 1) bytes)
hex_more column next bytes i d within is =
    let left = drop (i + 1) bytes in
    let digits = digits_of (get_or bytes i d) in
    ap (hex_from column) (drop_more bytes i d within)
    ∙ sym (append_assoc digits (end_at column) (hex_from (next_column column) left))
    ∙ ap (λ n. (digits ++ end_at column) ++ hex_from n left) (sym is)

-- no byte is left
pub hex_done : (column : ℕ) (bytes : List ℕ) (i : ℕ) (last : List ℕ) → length bytes ≤ i → last ≡ hex_from column [] → hex_from column (drop i bytes) ≡ last ++ []
hex_done column bytes i last past is = ap (hex_from column) (drop_all i bytes past) ∙ sym is ∙ sym (append-nil last)
