-- An expansion rests on what stands under the names that it looked up.
use Rattle.std.specs.Prelude.{◌≡◌, ℕ, zero, suc, Bool, true, false, List, [], ◌∷◌, ◌++◌, map, Option, None, Some, Result, Ok, Err, Contains, if◌then◌else◌, refl}
use Rattle.std.proofs.Common.{option_map, arith, sym, ap, ◌∙◌}
use Rattle.std.proofs.lemmas.List.Elements.{Contains-append_left, Contains-get_or, Contains-append_right}
use Rattle.indexmap.proofs.CallerLemmas.{Contains-insert_key}
use Rattle.pli_base.specs.Name.{Name}
use Rattle.pli_base.specs.laws.NameLaws.{equal_from_pointwise}
use Rattle.pli_base.specs.Words.{same_name, is_among}
use Rattle.pli_base.specs.declared.code.Code.TheVariants.{RecursiveInclude}
use Rattle.pli_base.specs.declared.token.Origin.{Origin}
use Rattle.pli_base.specs.declared.token.Token.{Token}
use Rattle.pli_lex.specs.Reading.{lexed}
use Rattle.pli_lex.specs.declared.answer.LexFault.{LexFault}
use Rattle.pli_members.specs.Members.{Store}
use Rattle.pli_include.specs.Pieces.{Piece, Plain, Directive, Misplaced, pieces_of}
use Rattle.pli_include.specs.Expansion.{Look, Progress, Outcome, Include, included, stopped, found, looking, entered, read_piece, read_pieces, unless, too_many, kept, directed, origin_of, started, expanded_within, token_limit, ◌then◌}
use Rattle.pli_include.specs.Expanded.{look_in, outcome_of, answered, told, expansion_of}
use Rattle.pli_include.specs.laws.Laws.{looked_in, Agree, TraceDecides, AnswersAlike, ExpansionStays}

-- each of the names is among those that were looked up in the end
abbrev Keeps : List Name → Outcome → Type 0
Keeps names o = (n : Name) → Contains names n → Contains (looked_in o) n

abbrev IncludeKeeps : Include → Type 0
IncludeKeeps include = (at : Origin) (name : Name) (s : Progress) → Keeps s.looked (include at name s)

-- a name that is looked up comes to those that were
looks_at : (name : Name) (s : Progress) → Contains (looking name s).looked name
looks_at name s = Contains-insert_key same_name (λ x y. equal_from_pointwise x y) s.looked name

looks_more : (name : Name) (names : List Name) (b : Bool) (n : Name) → Contains names n → Contains (if b then names else names ++ name ∷ []) n
looks_more name names true n h = h
looks_more name names false n h = Contains-append_left names (name ∷ []) n h

module _ (limit : ℕ) (include : Include) (m : Name) (keeps : IncludeKeeps include) where
  plain_keeps : (t : Token) (s : Progress) (r : Option Token) → Keeps s.looked (unless m r s (λ s. Ok (kept m t s)))
  plain_keeps t s None n h = h
  plain_keeps t s (Some x) n h = h

  directive_keeps : (p : Token) (name : Name) (s : Progress) (r : Option Token) → Keeps s.looked (unless m r s (λ s. include (origin_of m p) name (directed s)))
  directive_keeps p name s None n h = keeps (origin_of m p) name (directed s) n h
  directive_keeps p name s (Some x) n h = h

  piece_keeps : (piece : Piece) (s : Progress) → Keeps s.looked (read_piece limit include m piece s)
  piece_keeps (Plain t) s n h = plain_keeps t s (too_many limit (t ∷ []) s) n h
  piece_keeps (Directive p w x c name) s n h = directive_keeps p name s (too_many limit (p ∷ w ∷ x ∷ c ∷ []) s) n h
  piece_keeps (Misplaced p) s n h = h

  then_keeps : (names : List Name) (o : Outcome) (next : Progress → Outcome) → Keeps names o → ((s : Progress) → Keeps s.looked (next s)) → Keeps names (o then next)
  then_keeps names (Ok s) next h more n there = more s n (h n there)
  then_keeps names (Err stop) next h more n there = h n there

  pieces_keep : (pieces : List Piece) (s : Progress) → Keeps s.looked (read_pieces limit include m pieces s)
  unfolding read_pieces
  pieces_keep [] s n h = h
  pieces_keep (piece ∷ pieces) s n h = then_keeps s.looked (read_piece limit include m piece s) (read_pieces limit include m pieces) (piece_keeps piece s) (pieces_keep pieces) n h

  entered_keeps : (r : Result (List Token) LexFault) (s : Progress) → Keeps s.looked (entered limit include m r s)
  entered_keeps (Ok tokens) s n h = pieces_keep (pieces_of tokens) s n h
  entered_keeps (Err fault) s n h = h

found_keeps : (limit : ℕ) (include : Include) → IncludeKeeps include → (at : Origin) (name : Name) (r : Option (Result (List Token) LexFault)) (s : Progress)
    → Keeps s.looked (found limit include at name r s)
found_keeps limit include keeps at name None s n h = h
found_keeps limit include keeps at name (Some reading) s n h = entered_keeps limit include name keeps reading s n h

chosen_keeps : (names : List Name) (b : Bool) (x y : Outcome) → Keeps names x → Keeps names y → Keeps names (if b then x else y)
chosen_keeps names true x y h k n there = h n there
chosen_keeps names false x y h k n there = k n there

included_keeps : (level limit : ℕ) (look : Look) (path : List Name) → IncludeKeeps (included level limit look path)
unfolding included
included_keeps zero limit look path at name s n h = h
included_keeps (suc level) limit look path at name s n h =
    chosen_keeps s.looked (is_among name path) _ _ (λ n h. h)
    (λ n h. found_keeps limit (included level limit look (path ++ name ∷ [])) (included_keeps level limit look (path ++ name ∷ [])) at name (look name) (looking name s)
    n (looks_more name s.looked (is_among name s.looked) n h))
    n h

module _ (a b : Look) where
  -- the second does what the first does, where the two looks agree on the names that the first looked up
  abbrev SameOn : Outcome → Outcome → Type 0
  SameOn first second = Agree a b (looked_in first) → second ≡ first

  abbrev SameInclude : Include → Include → Type 0
  SameInclude f g = (at : Origin) (name : Name) (s : Progress) → SameOn (f at name s) (g at name s)

  module _ (limit : ℕ) (f g : Include) (m : Name) (keeps : IncludeKeeps f) (same : SameInclude f g) where
    directive_same : (p : Token) (name : Name) (s : Progress) (r : Option Token)
        → SameOn (unless m r s (λ s. f (origin_of m p) name (directed s))) (unless m r s (λ s. g (origin_of m p) name (directed s)))
    directive_same p name s None agree = same (origin_of m p) name (directed s) agree
    directive_same p name s (Some x) agree = refl

    piece_same : (piece : Piece) (s : Progress) → SameOn (read_piece limit f m piece s) (read_piece limit g m piece s)
    piece_same (Plain t) s agree = refl
    piece_same (Directive p w x c name) s agree = directive_same p name s (too_many limit (p ∷ w ∷ x ∷ c ∷ []) s) agree
    piece_same (Misplaced p) s agree = refl

    then_same : (o p : Outcome) (f g : Progress → Outcome) → SameOn o p → ((s : Progress) → Keeps s.looked (f s)) → ((s : Progress) → SameOn (f s) (g s))
        → SameOn (o then f) (p then g)
    then_same (Ok s) p f g first keeps more agree = ap (λ q. q then g) (first (λ n h. agree n (keeps s n h))) ∙ more s agree
    then_same (Err stop) p f g first keeps more agree = ap (λ q. q then g) (first agree)

    pieces_same : (pieces : List Piece) (s : Progress) → SameOn (read_pieces limit f m pieces s) (read_pieces limit g m pieces s)
    unfolding read_pieces
    pieces_same [] s agree = refl
    pieces_same (piece ∷ pieces) s agree =
        then_same (read_piece limit f m piece s) (read_piece limit g m piece s) (read_pieces limit f m pieces) (read_pieces limit g m pieces)
        (piece_same piece s) (pieces_keep limit f m keeps pieces) (pieces_same pieces) agree

    entered_same : (r : Result (List Token) LexFault) (s : Progress) → SameOn (entered limit f m r s) (entered limit g m r s)
    entered_same (Ok tokens) s agree = pieces_same (pieces_of tokens) s agree
    entered_same (Err fault) s agree = refl

  found_same : (limit : ℕ) (f g : Include) → IncludeKeeps f → SameInclude f g → (at : Origin) (name : Name) (r : Option (Result (List Token) LexFault)) (s : Progress)
      → SameOn (found limit f at name r s) (found limit g at name r s)
  found_same limit f g keeps same at name None s agree = refl
  found_same limit f g keeps same at name (Some reading) s agree = entered_same limit f g name keeps same reading s agree

  chosen_same : (c : Bool) (x y z : Outcome) → SameOn y z → SameOn (if c then x else y) (if c then x else z)
  chosen_same true x y z h agree = refl
  chosen_same false x y z h agree = h agree

  included_same : (level limit : ℕ) (path : List Name) → SameInclude (included level limit a path) (included level limit b path)
  unfolding included
  included_same zero limit path at name s agree = refl
  included_same (suc level) limit path at name s agree =
      let inner = path ++ name ∷ [] in
      chosen_same (is_among name path) (stopped RecursiveInclude at s)
      (found limit (included level limit a inner) at name (a name) (looking name s))
      (found limit (included level limit b inner) at name (b name) (looking name s))
      (λ agree.
      let keeps = included_keeps level limit a inner in
      let here : a name ≡ b name = agree name (found_keeps limit (included level limit a inner) keeps at name (a name) (looking name s) name (looks_at name s)) in
      ap (λ r. found limit (included level limit b inner) at name r (looking name s)) (sym here)
      ∙ found_same limit (included level limit a inner) (included level limit b inner) keeps (included_same level limit inner) at name (a name) (looking name s) agree)
      agree

pub trace_decides : TraceDecides
unfolding expanded_within
trace_decides limit a b u agree = included_same a b (suc limit) limit [] (record { member = u; line = 1 }) u started agree

-- the versions of names that the stores answer alike
same_answers : (s t : Store) (names : List Name) → ((name : Name) → Contains names name → AnswersAlike s t name) → map (answered t) names ≡ map (answered s) names
same_answers s t [] alike = refl
same_answers s t (n ∷ ns) alike =
    let first : Contains (n ∷ ns) n = Contains-get_or (n ∷ ns) 0 n (omega arith) in
    ap (λ v. record { name = n; version = v } ∷ map (answered t) ns) ((alike n first).version)
    ∙ ap (λ xs. answered s n ∷ xs) (same_answers s t ns (λ name h. alike name (Contains-append_right (n ∷ []) ns name h)))

same_told : (s t : Store) (o : Outcome) → ((name : Name) → Contains (looked_in o) name → AnswersAlike s t name) → told t o ≡ told s o
same_told s t (Ok p) alike = ap (λ xs. record { trace = xs; texts = p.texts; origins = p.origins; fault = None }) (same_answers s t p.looked alike)
same_told s t (Err stop) alike = ap (λ xs. record { trace = xs; texts = []; origins = []; fault = Some stop.fault }) (same_answers s t stop.looked alike)

pub expansion_stays : ExpansionStays
unfolding expansion_of
expansion_stays s t u alike =
    let same : outcome_of t.entries u ≡ outcome_of s.entries u =
    trace_decides token_limit (look_in s.entries) (look_in t.entries) u (λ name h. ap (λ lines. option_map lexed lines) (sym ((alike name h).lines))) in
    ap (told t) same ∙ same_told s t (outcome_of s.entries u) alike
