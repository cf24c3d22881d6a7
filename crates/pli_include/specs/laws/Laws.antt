-- Laws of expansion: its recursion is well founded, and it rests on the names that it looked up, and on
-- nothing else.
use Rattle.std.specs.Prelude.{◌≡◌, ℕ, suc, ◌≤◌, List, [], ◌∷◌, ◌++◌, length, Contains, Ok, if◌then◌else◌}
use Rattle.pli_base.specs.Name.{Name}
use Rattle.pli_base.specs.declared.code.Code.TheVariants.{RecursiveInclude}
use Rattle.pli_base.specs.declared.token.Origin.{Origin}
use Rattle.pli_members.specs.Members.{Store, lines_of, version_of}
use Rattle.pli_base.specs.Words.{is_among}
use Rattle.pli_include.specs.Expansion.{Look, Progress, included, expanded_within, stopped}
use Rattle.pli_include.specs.Expansion.{found, looking}
use Rattle.pli_include.specs.Expanded.{expansion_of, outcome_of}
pub use Rattle.pli_include.specs.LookedIn.{looked_in}

-- The level is never met: where no more tokens were read than may be, a directive is what its definition
-- says, with the same level for the directives of the member that it names.
abbrev pub LevelIsNeverMet : Type 0
LevelIsNeverMet =
    (limit : ℕ) (look : Look) (path : List Name) (at : Origin) (name : Name) (s : Progress) → s.read ≤ limit
    → included (suc limit) limit look path at name s
    ≡ (if is_among name path then stopped RecursiveInclude at s
    else found limit (included (suc limit) limit look (path ++ name ∷ []))
    at name (look name) (looking name s))

-- the two have the same under each of the names
abbrev pub Agree : Look → Look → List Name → Type 0
Agree a b names = (name : Name) → Contains names name → a name ≡ b name

-- where the names that an expansion looked up have the same under them, the expansion is the same, and so are
-- the names
abbrev pub TraceDecides : Type 0
TraceDecides =
    (limit : ℕ) (a b : Look) (u : Name) → Agree a b (looked_in (expanded_within limit a u))
    → expanded_within limit b u ≡ expanded_within limit a u

-- each text has its origin, and there are no more texts than tokens may be read
abbrev pub TextsHaveOrigins : Type 0
TextsHaveOrigins =
    (limit : ℕ) (look : Look) (u : Name) (s : Progress) → expanded_within limit look u ≡ Ok s
    → (length s.origins ≡ length s.texts) × (length s.texts ≤ limit)

-- the two stores answer a name alike: the same version and the same lines, or no member
pub record AnswersAlike (s t : Store) (name : Name) : Type 0 where
  pub version : version_of t name ≡ version_of s name
  pub lines : lines_of t name ≡ lines_of s name

-- a store that answers each name of an expansion's trace as another does has that expansion, with that trace
abbrev pub ExpansionStays : Type 0
ExpansionStays =
    (s t : Store) (u : Name)
    → ((name : Name) → Contains (looked_in (outcome_of s.entries u)) name → AnswersAlike s t name)
    → expansion_of t u ≡ expansion_of s u
