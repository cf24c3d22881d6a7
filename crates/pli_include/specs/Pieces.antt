-- Directives: what a member's tokens are, before any member is included (own; the form is that of X3.74's
-- preprocessor).
use Rattle.std.specs.Prelude.{◌≡◌, ℕ, zero, suc, Bool, true, false, ◌&&◌, List, [], ◌∷◌, Option, None, Some, codes}
use Rattle.std.specs.Prelude.{if◌then◌else◌}
use Rattle.pli_base.specs.Name.{Name, name_of}
use Rattle.pli_base.specs.Words.{is_word, is_semicolon}
use Rattle.pli_base.specs.declared.token.Sign.TheVariants.{Percent}
use Rattle.pli_base.specs.declared.token.Token.{Token}
use Rattle.pli_base.specs.declared.token.TokenText.{TokenText}
use Rattle.pli_base.specs.declared.token.TokenText.TheVariants.{Word, Characters, Sign}

-- a token that stays; a directive, that is four tokens, and the name of the member that it includes; or a `%`
-- that begins no directive
pub data Piece : Type 0 where
  Plain : (token : Token) → Piece
  Directive : (percent word named semicolon : Token) (name : Name) → Piece
  Misplaced : (percent : Token) → Piece

-- the token is `%`
abbrev pub is_percent : TokenText → Bool
is_percent (Sign Percent) = true
is_percent _ = false

-- the token is another one
abbrev pub IsPlain : Token → Type 0
IsPlain t = is_percent t.text ≡ false

-- the token is the word INCLUDE, which is not reserved
abbrev pub is_include : TokenText → Bool
is_include text = is_word (codes "INCLUDE") text

-- the member that a token names: by its name, or by a character constant that spells one
abbrev pub name_in : TokenText → Option Name
name_in (Word name) = Some name
name_in (Characters text) = name_of text
name_in others = None

-- the member that a directive names, if these are the tokens after its `%`
abbrev pub named_by : (word named semicolon : TokenText) → Option Name
named_by word named semicolon = if is_include word && is_semicolon semicolon then name_in named else None

-- four tokens as a directive, where they name a member
abbrev pub directive : Option Name → (percent word named semicolon : Token) → Piece
directive (Some name) percent word named semicolon = Directive percent word named semicolon name
directive None percent word named semicolon = Misplaced percent

-- `%INCLUDE name;` or `%INCLUDE 'name';`, all of it in one member
abbrev pub begun : Token → List Token → Piece
begun percent (word ∷ named ∷ semicolon ∷ rest) =
    directive (named_by word.text named.text semicolon.text) percent word named semicolon
begun percent others = Misplaced percent

-- the piece that a token begins, with these tokens after it
abbrev pub piece_at : Token → List Token → Piece
piece_at t rest = if is_percent t.text then begun t rest else Plain t

-- how many tokens a piece has after its first
abbrev pub further : Piece → ℕ
further (Directive percent word named semicolon name) = 3
further others = 0

-- the pieces of tokens, the first so many of which belong to a piece before
unfoldable pub pieces_after : ℕ → List Token → List Piece
pieces_after n [] = []
pieces_after (suc n) (t ∷ ts) = pieces_after n ts
pieces_after zero (t ∷ ts) = let piece = piece_at t ts in piece ∷ pieces_after (further piece) ts

-- the pieces of a member's tokens
abbrev pub pieces_of : List Token → List Piece
pieces_of tokens = pieces_after 0 tokens
