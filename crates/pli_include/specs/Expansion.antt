-- The expansion of a member: its tokens with each directive replaced by the expansion of the member that it
-- names, or the first fault.
use Rattle.std.specs.Prelude.{ℕ, zero, suc, ◌+◌, ◌-◌, List, [], ◌∷◌, ◌++◌, length, map, slice_get, Option}
use Rattle.std.specs.Prelude.{None, Some, Result, Ok, Err, if◌then◌else◌}
use Rattle.pli_base.specs.Name.{Name}
use Rattle.pli_base.specs.Words.{is_among}
use Rattle.pli_base.specs.declared.code.Code.{Code}
use Rattle.pli_base.specs.declared.code.Code.TheVariants.{NoSuchMember, RecursiveInclude, TooManyTokens}
use Rattle.pli_base.specs.declared.code.Code.TheVariants.{BadInclude}
use Rattle.pli_base.specs.declared.token.Origin.{Origin}
use Rattle.pli_base.specs.declared.token.Token.{Token}
use Rattle.pli_base.specs.declared.token.TokenText.{TokenText}
use Rattle.pli_lex.specs.declared.answer.LexFault.{LexFault}
use Rattle.pli_include.specs.declared.expansion.ExpansionFault.{ExpansionFault}
use Rattle.pli_include.specs.Pieces.{Piece, Plain, Directive, Misplaced, pieces_of}

-- what stands under a name: no member, or a member, which is read whole: its tokens or its fault
abbrev pub Look : Type 0
Look = Name → Option (Result (List Token) LexFault)

-- how far an expansion has come: how many tokens were read, those of directives among them; the texts of the
-- tokens that stay, each with its origin in the other list; and the names that were looked up, in the order
-- in which each came first
pub record Progress : Type 0 where
  pub read : ℕ
  pub texts : List TokenText
  pub origins : List Origin
  pub looked : List Name

-- an expansion that stops: the names that were looked up until then, and the fault
pub record Stop : Type 0 where
  pub looked : List Name
  pub fault : ExpansionFault

-- what an expansion comes to: how far it has come, or where it stopped
abbrev pub Outcome : Type 0
Outcome = Result Progress Stop

infixl 10 ◌then◌
-- one thing after another, unless the first stops
abbrev pub ◌then◌ : Outcome → (Progress → Outcome) → Outcome
(Ok s) then next = next s
(Err stop) then next = Err stop

-- the fault stands at this place
abbrev pub stopped : Code → Origin → Progress → Outcome
stopped code at s = Err (record { looked = s.looked; fault = record { code = code; origin = at } })

-- the name is looked up
abbrev pub looking : Name → Progress → Progress
looking name s = record s { looked = if is_among name s.looked then s.looked else s.looked ++ name ∷ [] }

-- the place of a token of member m
abbrev pub origin_of : Name → Token → Origin
origin_of m t = record { member = m; line = t.line }

-- the token stays
abbrev pub kept : Name → Token → Progress → Progress
kept m t s =
    record {
      read = s.read + 1;
      texts = s.texts ++ t.text ∷ [];
      origins = s.origins ++ origin_of m t ∷ [];
      looked = s.looked;
    }

-- the text of a token
abbrev pub text_of : Token → TokenText
text_of t = t.text

-- the tokens stay, one after another
abbrev pub all_kept : Name → List Token → Progress → Progress
all_kept m ts s =
    record {
      read = s.read + length ts;
      texts = s.texts ++ map text_of ts;
      origins = s.origins ++ map (origin_of m) ts;
      looked = s.looked;
    }

-- the four tokens of a directive are read
abbrev pub directed : Progress → Progress
directed s = record s { read = s.read + 4 }

-- the first token beyond the limit, if there is one among those that are read now
abbrev pub too_many : ℕ → List Token → Progress → Option Token
too_many limit tokens s = slice_get tokens (limit - s.read)

-- goes on, unless there is a token too many, which is of member m
abbrev pub unless : Name → Option Token → Progress → (Progress → Outcome) → Outcome
unless m (Some t) s next = stopped TooManyTokens (origin_of m t) s
unless m None s next = next s

-- what comes of a directive at this place that names this member
abbrev pub Include : Type 0
Include = Origin → Name → Progress → Outcome

module _ (limit : ℕ) (include : Include) (m : Name) where
  -- a piece of member m is read. The fault of a bad `%` comes first, then the limit of tokens.
  abbrev pub read_piece : Piece → Progress → Outcome
  read_piece (Plain t) s = unless m (too_many limit (t ∷ []) s) s (λ s. Ok (kept m t s))
  read_piece (Directive percent word named semicolon name) s =
      unless m (too_many limit (percent ∷ word ∷ named ∷ semicolon ∷ []) s) s
      (λ s. include (origin_of m percent) name (directed s))
  read_piece (Misplaced percent) s = stopped BadInclude (origin_of m percent) s

  -- and so are the pieces of member m, one after another
  unfoldable pub read_pieces : List Piece → Progress → Outcome
  read_pieces [] s = Ok s
  read_pieces (piece ∷ pieces) s = read_piece piece s then read_pieces pieces

  -- the member is entered: it has no piece where the lexer met a fault
  abbrev pub entered : Result (List Token) LexFault → Progress → Outcome
  entered (Ok tokens) s = read_pieces (pieces_of tokens) s
  entered (Err fault) s = stopped fault.code (record { member = m; line = fault.line }) s

-- what comes of a directive at a place, by what stands under the name: nothing, or a member that is entered
abbrev pub found : ℕ → Include → Origin → Name → Option (Result (List Token) LexFault) → Progress → Outcome
found limit include at name None s = stopped NoSuchMember at s
found limit include at name (Some reading) s = entered limit include name reading s

-- A directive at a place names a member, and these are the members on the way to it. The recursion is founded
-- on the tokens that may still be read: a directive is read before its member is entered. So the level is
-- never met, as long as it is over the number of these tokens.
unfoldable pub included : (level limit : ℕ) → Look → (path : List Name) → Include
included zero limit look path at name s = stopped TooManyTokens at s
included (suc level) limit look path at name s =
    if is_among name path then stopped RecursiveInclude at s
    else found limit (included level limit look (path ++ name ∷ [])) at name (look name) (looking name s)

-- nothing is read yet
abbrev pub started : Progress
started = record { read = 0; texts = []; origins = []; looked = [] }

-- the expansion of member u, in which at most so many tokens are read
unfoldable pub expanded_within : ℕ → Look → Name → Outcome
expanded_within limit look u = included (suc limit) limit look [] (record { member = u; line = 1 }) u started

-- the greatest number of tokens that an expansion reads (own)
abbrev pub token_limit : ℕ
token_limit = 200000
