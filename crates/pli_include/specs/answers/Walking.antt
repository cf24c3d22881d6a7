-- An expansion under way: which members are open, and how it goes on.
use Rattle.std.specs.Prelude.{◌≡◌, ℕ, suc, ◌+◌, ◌-◌, ◌*◌, ◌≤◌, List, [], ◌∷◌, ◌++◌, map, drop, length}
use Rattle.std.specs.Prelude.{slice_get, Option, None, Some, Result, Ok, Err}
use Rattle.std.specs.List.{All}
use Rattle.pli_base.specs.Name.{Name}
use Rattle.pli_base.specs.declared.token.Token.{Token}
use Rattle.pli_lex.specs.declared.answer.LexFault.{LexFault}
use Rattle.pli_include.specs.declared.expansion.ExpansionFault.{ExpansionFault}
use Rattle.pli_include.specs.declared.library.Membership.{Membership}
use Rattle.pli_include.specs.declared.library.Membership.TheVariants.{Absent, Faulty, At}
use Rattle.pli_include.specs.declared.walk.OpenMember.{OpenMember}
use Rattle.pli_include.specs.declared.walk.ExpansionWalk.{ExpansionWalk}
use Rattle.pli_include.specs.Pieces.{pieces_of}
use Rattle.pli_include.specs.Expansion.{Look, Progress, Outcome, Include, included, read_pieces, started}
use Rattle.pli_include.specs.Expansion.{◌then◌}

-- each name that was looked up has the tokens of its member
pub record HoldsTexts (look : Look) (looked : List Name) (texts : List (List Token)) : Type 0 where
  pub count : length texts ≡ length looked
  pub held : (i : ℕ) (name : Name) (tokens : List Token)
      → slice_get looked i ≡ Some name → slice_get texts i ≡ Some tokens → look name ≡ Some (Ok tokens)

-- what a look-up has found
abbrev pub Finds : Look → Name → Membership → List Name → List (List Token) → Type 0
Finds look name Absent looked texts = look name ≡ None
Finds look name (Faulty fault) looked texts = look name ≡ Some (Err fault)
Finds look name (At slot) looked texts = HoldsTexts look looked texts × (slice_get looked slot ≡ Some name)

-- the tokens of a member that was read without a fault
abbrev pub tokens_in : Option (Result (List Token) LexFault) → List Token
tokens_in (Some (Ok tokens)) = tokens
tokens_in (Some (Err fault)) = []
tokens_in None = []

-- a directive, where these members are open
abbrev pub include_from : ℕ → Look → List Name → Include
include_from limit look path = included (suc limit) limit look path

-- the tokens that an open member has left
abbrev pub rest_of : Look → OpenMember → List Token
rest_of look f = drop f.next (tokens_in (look f.name))

-- the open members, from the unit on, each go on from where they paused, the innermost first
unfoldable pub going : ℕ → Look → (path : List Name) → List OpenMember → Progress → Outcome
going limit look path [] s = Ok s
going limit look path (f ∷ fs) s =
    going limit look (path ++ f.name ∷ []) fs s then
    read_pieces limit (include_from limit look (path ++ f.name ∷ [])) f.name (pieces_of (rest_of look f))

-- the expansion ends
abbrev pub ended : Option ExpansionFault → Progress → Outcome
ended None s = Ok s
ended (Some fault) s = Err (record { looked = s.looked; fault = fault })

-- the expansion goes on, unless it has a fault
abbrev pub goes_on : ℕ → Look → Option ExpansionFault → Progress → List OpenMember → Outcome
goes_on limit look None s frames = going limit look [] frames s
goes_on limit look (Some fault) s frames = ended (Some fault) s

-- the texts of members are held, and the path is that of the open ones
pub record IsUnderWay (look : Look) (looked : List Name) (texts : List (List Token))
    (path : List Name) (frames : List OpenMember) : Type 0 where
  pub texts_held : HoldsTexts look looked texts
  pub path_is : path ≡ map (λ f. f.name) frames
  pub slots : All (λ f. slice_get looked f.slot ≡ Some f.name) frames

-- no member is open, and none was looked up
pub record IsFresh (w : ExpansionWalk) : Type 0 where
  pub progress : w.progress ≡ started
  pub texts : w.texts.items ≡ []
  pub path : w.path.keys ≡ []
  pub frames : w.frames.items ≡ []

-- each text has its origin, and there are not too many
pub record IsEven (s : Progress) : Type 0 where
  pub origins : length s.origins ≡ length s.texts
  pub few : length s.texts ≤ 200000

-- what becomes less with each piece of a walk
abbrev pub work_left : Progress → List OpenMember → ℕ
work_left s frames = 2 * (200000 - s.read) + length frames
