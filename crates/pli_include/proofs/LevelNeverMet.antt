-- An expansion reads on and on, up to the limit, so that its level is never met.
use Rattle.std.specs.Prelude.{◌≡◌, ℕ, zero, suc, ◌+◌, ◌-◌, ◌<◌, ◌≤◌, Bool, true, false, List, [], ◌∷◌, ◌++◌, length, slice_get, Option, None, Some, Result, Ok, Err, if◌then◌else◌, refl}
use Rattle.std.proofs.Common.{arith, ap, ◌∙◌}
use Rattle.pli_base.specs.Name.{Name}
use Rattle.pli_base.specs.declared.code.Code.TheVariants.{RecursiveInclude}
use Rattle.pli_base.specs.declared.token.Origin.{Origin}
use Rattle.pli_base.specs.declared.token.Token.{Token}
use Rattle.pli_lex.specs.declared.answer.LexFault.{LexFault}
use Rattle.pli_include.specs.Pieces.{Piece, Plain, Directive, Misplaced, pieces_of}
use Rattle.pli_base.specs.Words.{is_among}
use Rattle.pli_include.specs.Expansion.{Look, Progress, Outcome, Include, included, stopped, found, looking, entered, read_piece, read_pieces, unless, too_many, kept, directed, origin_of, ◌then◌}
use Rattle.pli_include.specs.laws.Laws.{LevelIsNeverMet}

-- more is read, and no more than the limit
pub record IsLater (limit least : ℕ) (s : Progress) : Type 0 where
  pub from : least ≤ s.read
  pub within : s.read ≤ limit

abbrev pub Rises : (limit least : ℕ) → Outcome → Type 0
Rises limit least (Ok s) = IsLater limit least s
Rises limit least (Err stop) = Unit {0}

abbrev pub IncludeRises : ℕ → Include → Type 0
IncludeRises limit include = (at : Origin) (name : Name) (s : Progress) → s.read ≤ limit → Rises limit s.read (include at name s)

-- it is enough to come later
rises_more : (limit a b : ℕ) (o : Outcome) → a ≤ b → Rises limit b o → Rises limit a o
rises_more limit a b (Ok s) le h = record { from = omega (arith, h.from); within = h.within }
rises_more limit a b (Err stop) le h = tt

pub past_end : {A : Type 0} (xs : List A) (i : ℕ) → slice_get xs i ≡ None → length xs ≤ i
past_end [] i e = omega arith
past_end (x ∷ xs) zero e = let bad : ⊥ = cc in absurd bad
past_end (x ∷ xs) (suc i) e = let h = past_end xs i e in omega arith

-- where none of the tokens is one too many, there is room for all
pub room : {A : Type 0} (xs : List A) (limit n : ℕ) → slice_get xs (limit - n) ≡ None → n ≤ limit → n + length xs ≤ limit
room xs limit n none le = let h = past_end xs (limit - n) none in omega arith

module _ (limit : ℕ) (include : Include) (m : Name) (rises : IncludeRises limit include) where
  plain_rises : (t : Token) (s : Progress) (r : Option Token) → too_many limit (t ∷ []) s ≡ r → s.read ≤ limit
      → Rises limit s.read (unless m r s (λ s. Ok (kept m t s)))
  plain_rises t s None e le = record { from = omega arith; within = room (t ∷ []) limit s.read e le }
  plain_rises t s (Some x) e le = tt

  directive_rises : (p w n c : Token) (name : Name) (s : Progress) (r : Option Token) → too_many limit (p ∷ w ∷ n ∷ c ∷ []) s ≡ r → s.read ≤ limit
      → Rises limit s.read (unless m r s (λ s. include (origin_of m p) name (directed s)))
  directive_rises p w n c name s None e le =
      let h : s.read + 4 ≤ limit = room (p ∷ w ∷ n ∷ c ∷ []) limit s.read e le in
      rises_more limit s.read (s.read + 4) _ (omega arith) (rises (origin_of m p) name (directed s) h)
  directive_rises p w n c name s (Some x) e le = tt

  piece_rises : (piece : Piece) (s : Progress) → s.read ≤ limit → Rises limit s.read (read_piece limit include m piece s)
  piece_rises (Plain t) s le = plain_rises t s _ refl le
  piece_rises (Directive p w n c name) s le = directive_rises p w n c name s _ refl le
  piece_rises (Misplaced p) s le = tt

  then_rises : (least : ℕ) (o : Outcome) (next : Progress → Outcome) → Rises limit least o
      → ((s : Progress) → s.read ≤ limit → Rises limit s.read (next s)) → Rises limit least (o then next)
  then_rises least (Ok s) next h more = rises_more limit least s.read _ h.from (more s h.within)
  then_rises least (Err stop) next h more = tt

  pub pieces_rise : (pieces : List Piece) (s : Progress) → s.read ≤ limit → Rises limit s.read (read_pieces limit include m pieces s)
  unfolding read_pieces
  pieces_rise [] s le = record { from = omega arith; within = le }
  pieces_rise (piece ∷ pieces) s le = then_rises s.read (read_piece limit include m piece s) _ (piece_rises piece s le) (pieces_rise pieces)

  entered_rises : (r : Result (List Token) LexFault) (s : Progress) → s.read ≤ limit → Rises limit s.read (entered limit include m r s)
  entered_rises (Ok tokens) s le = pieces_rise (pieces_of tokens) s le
  entered_rises (Err fault) s le = tt

found_rises : (limit : ℕ) (include : Include) → IncludeRises limit include → (at : Origin) (name : Name) (r : Option (Result (List Token) LexFault)) (s : Progress)
    → s.read ≤ limit → Rises limit s.read (found limit include at name r s)
found_rises limit include rises at name None s le = tt
found_rises limit include rises at name (Some reading) s le = entered_rises limit include name rises reading s le

chosen_rises : (limit least : ℕ) (b : Bool) (x y : Outcome) → Rises limit least x → Rises limit least y → Rises limit least (if b then x else y)
chosen_rises limit least true x y h k = h
chosen_rises limit least false x y h k = k

pub included_rises : (level limit : ℕ) (look : Look) (path : List Name) → IncludeRises limit (included level limit look path)
unfolding included
included_rises zero limit look path at name s le = tt
included_rises (suc level) limit look path at name s le =
    chosen_rises limit s.read (is_among name path) _ _ tt
    (found_rises limit (included level limit look (path ++ name ∷ [])) (included_rises level limit look (path ++ name ∷ [])) at name (look name) (looking name s) le)

-- the two do the same where at least so many tokens were read, and no more than the limit
abbrev SameFrom : (limit least : ℕ) → Include → Include → Type 0
SameFrom limit least f g = (at : Origin) (name : Name) (s : Progress) → least ≤ s.read → s.read ≤ limit → f at name s ≡ g at name s

module _ (limit least : ℕ) (f g : Include) (m : Name) (rises : IncludeRises limit f) (same : SameFrom limit (least + 4) f g) where
  directive_same : (p w n c : Token) (name : Name) (s : Progress) (r : Option Token) → too_many limit (p ∷ w ∷ n ∷ c ∷ []) s ≡ r → least ≤ s.read → s.read ≤ limit
      → unless m r s (λ s. f (origin_of m p) name (directed s)) ≡ unless m r s (λ s. g (origin_of m p) name (directed s))
  directive_same p w n c name s None e ge le =
      same (origin_of m p) name (directed s) (omega arith) (room (p ∷ w ∷ n ∷ c ∷ []) limit s.read e le)
  directive_same p w n c name s (Some x) e ge le = refl

  piece_same : (piece : Piece) (s : Progress) → least ≤ s.read → s.read ≤ limit → read_piece limit f m piece s ≡ read_piece limit g m piece s
  piece_same (Plain t) s ge le = refl
  piece_same (Directive p w n c name) s ge le = directive_same p w n c name s _ refl ge le
  piece_same (Misplaced p) s ge le = refl

  then_same : (from : ℕ) (o : Outcome) (f g : Progress → Outcome) → Rises limit from o → least ≤ from
      → ((s : Progress) → least ≤ s.read → s.read ≤ limit → f s ≡ g s) → (o then f) ≡ (o then g)
  then_same from (Ok s) f g h ge more = more s (omega (arith, h.from)) h.within
  then_same from (Err stop) f g h ge more = refl

  pieces_same : (pieces : List Piece) (s : Progress) → least ≤ s.read → s.read ≤ limit → read_pieces limit f m pieces s ≡ read_pieces limit g m pieces s
  unfolding read_pieces
  pieces_same [] s ge le = refl
  pieces_same (piece ∷ pieces) s ge le =
      then_same s.read (read_piece limit f m piece s) (read_pieces limit f m pieces) (read_pieces limit g m pieces) (piece_rises limit f m rises piece s le) ge (pieces_same pieces)
      ∙ ap (λ o. o then read_pieces limit g m pieces) (piece_same piece s ge le)

  entered_same : (r : Result (List Token) LexFault) (s : Progress) → least ≤ s.read → s.read ≤ limit → entered limit f m r s ≡ entered limit g m r s
  entered_same (Ok tokens) s ge le = pieces_same (pieces_of tokens) s ge le
  entered_same (Err fault) s ge le = refl

found_same : (limit least : ℕ) (f g : Include) → IncludeRises limit f → SameFrom limit (least + 4) f g
    → (at : Origin) (name : Name) (r : Option (Result (List Token) LexFault)) (s : Progress) → least ≤ s.read → s.read ≤ limit
    → found limit f at name r s ≡ found limit g at name r s
found_same limit least f g rises same at name None s ge le = refl
found_same limit least f g rises same at name (Some reading) s ge le = entered_same limit least f g name rises same reading s ge le

-- two levels that are high enough
pub same_level : (n k limit : ℕ) (look : Look) (path : List Name) (at : Origin) (name : Name) (s : Progress) → s.read ≤ limit → limit < s.read + n → limit < s.read + k
    → included n limit look path at name s ≡ included k limit look path at name s
unfolding included
same_level zero k limit look path at name s le a b = absurd (omega arith)
same_level (suc n) zero limit look path at name s le a b = absurd (omega arith)
same_level (suc n) (suc k) limit look path at name s le a b =
    ap (λ o. if is_among name path then stopped RecursiveInclude at s else o)
    (found_same limit s.read (included n limit look (path ++ name ∷ [])) (included k limit look (path ++ name ∷ []))
    (included_rises n limit look (path ++ name ∷ []))
    (λ at inner t ge inside. same_level n k limit look (path ++ name ∷ []) at inner t inside (omega arith) (omega arith))
    at name (look name) (looking name s) (omega arith) le)

-- the level's own equation
deeper : (limit : ℕ) (look : Look) (path : List Name) (at : Origin) (name : Name) (s : Progress)
    → included (suc (suc limit)) limit look path at name s
    ≡ (if is_among name path then stopped RecursiveInclude at s
    else found limit (included (suc limit) limit look (path ++ name ∷ [])) at name (look name) (looking name s))
unfolding included
deeper limit look path at name s = refl

pub level_is_never_met : LevelIsNeverMet
level_is_never_met limit look path at name s le =
    same_level (suc limit) (suc (suc limit)) limit look path at name s le (omega arith) (omega arith) ∙ deeper limit look path at name s
