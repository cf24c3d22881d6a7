-- Where the reading of a member's tokens pauses, and how it goes on from there.
use Rattle.std.specs.Prelude.{◌≡◌, ℕ, ◌+◌, ◌-◌, ◌≤◌, List, drop, Ok, Err}
use Rattle.pli_base.specs.Name.{Name}
use Rattle.pli_base.specs.declared.token.Token.{Token}
use Rattle.pli_include.specs.declared.reading.Pause.{Pause}
use Rattle.pli_include.specs.declared.reading.Pause.TheVariants as at
use Rattle.pli_include.specs.Pieces.{pieces_of}
use Rattle.pli_include.specs.Expansion.{Progress, Outcome, Include, read_pieces, ◌then◌}

-- the tokens end, or a fault ends the expansion, or a member is included and then the tokens after the
-- directive are read
abbrev pub resumed : ℕ → Include → Name → List Token → Pause → Progress → Outcome
resumed limit include m tokens at.End s = Ok s
resumed limit include m tokens (at.Fault fault) s = Err (record { looked = s.looked; fault = fault })
resumed limit include m tokens (at.Include request) s =
    include request.at request.name s then read_pieces limit include m (pieces_of (drop request.next tokens))

-- how many tokens a pause itself has read
abbrev pub width_of : Pause → ℕ
width_of (at.Include request) = 4
width_of others = 0

-- member m's tokens from a place on were read up to a pause: going on from there is to read them
pub record Reads (limit : ℕ) (m : Name) (tokens : List Token) (start : ℕ)
    (old : Progress) (pause : Pause) (new : Progress) : Type 0 where
  pub same : (include : Include)
      → read_pieces limit include m (pieces_of (drop start tokens)) old
      ≡ resumed limit include m tokens pause new
  pub looked : new.looked ≡ old.looked
  pub left : limit - new.read + width_of pause ≤ limit - old.read
