-- What holds of an expansion if each of its steps keeps it.
use Rattle.std.specs.Prelude.{◌≡◌, ℕ, zero, suc, ◌+◌, ◌-◌, ◌<◌, ◌≤◌, Bool, true, false, List, [], ◌∷◌, ◌++◌, length, Option, None, Some, Result, Ok, Err, if◌then◌else◌, refl}
use Rattle.std.proofs.Common.{arith, ap, sym, subst, ◌∙◌}
use Rattle.std.proofs.lemmas.List.{length_push}
use Rattle.pli_base.specs.Name.{Name}
use Rattle.pli_base.specs.declared.code.Code.TheVariants.{RecursiveInclude}
use Rattle.pli_base.specs.declared.token.Origin.{Origin}
use Rattle.pli_base.specs.declared.token.Token.{Token}
use Rattle.pli_base.specs.declared.token.TokenText.{TokenText}
use Rattle.pli_lex.specs.declared.answer.LexFault.{LexFault}
use Rattle.pli_include.specs.Pieces.{Piece, Plain, Directive, Misplaced, piece_at, pieces_after, pieces_of, begun, directive, named_by, is_percent, further}
use Rattle.pli_base.specs.Words.{is_among}
use Rattle.pli_include.specs.Expansion.{Look, Progress, Outcome, Include, included, expanded_within, started, stopped, found, looking, read_piece, read_pieces, unless, too_many, kept, directed, origin_of, ◌then◌}
use Rattle.pli_include.specs.laws.Laws.{TextsHaveOrigins}
use Rattle.pli_include.proofs.LevelNeverMet.{past_end}

-- each token's text is of a kind
abbrev pub EachText : (TokenText → Type 0) → List Token → Type 0
EachText P [] = Unit {0}
EachText P (t ∷ ts) = P t.text × EachText P ts

abbrev pub Holds : (Progress → Type 0) → Outcome → Type 0
Holds Q (Ok s) = Q s
Holds Q (Err stop) = Unit {0}

abbrev IsPiece : (TokenText → Type 0) → Piece → Type 0
IsPiece P (Plain t) = P t.text
IsPiece P others = Unit {0}

abbrev EachPiece : (TokenText → Type 0) → List Piece → Type 0
EachPiece P [] = Unit {0}
EachPiece P (p ∷ ps) = IsPiece P p × EachPiece P ps

-- P of the texts of each member, and Q of the progress
module _ (P : TokenText → Type 0) where
  directive_is : (name : Option Name) (p w n s : Token) → IsPiece P (directive name p w n s)
  directive_is (Some name) p w n s = tt
  directive_is None p w n s = tt

  begun_is : (p : Token) (ts : List Token) → IsPiece P (begun p ts)
  begun_is p [] = tt
  begun_is p (w ∷ []) = tt
  begun_is p (w ∷ n ∷ []) = tt
  begun_is p (w ∷ n ∷ s ∷ ts) = directive_is (named_by w.text n.text s.text) p w n s

  chosen_is : (b : Bool) (t : Token) (ts : List Token) → P t.text → IsPiece P (if b then begun t ts else Plain t)
  chosen_is true t ts h = begun_is t ts
  chosen_is false t ts h = h

  pieces_are : (n : ℕ) (ts : List Token) → EachText P ts → EachPiece P (pieces_after n ts)
  unfolding pieces_after
  pieces_are zero [] h = tt
  pieces_are (suc n) [] h = tt
  pieces_are zero (t ∷ ts) h = (chosen_is (is_percent t.text) t ts h.0, pieces_are (further (piece_at t ts)) ts h.1)
  pieces_are (suc n) (t ∷ ts) h = pieces_are n ts h.1

  module _ (Q : Progress → Type 0) (limit : ℕ)
      (keep : (m : Name) (t : Token) (s : Progress) → P t.text → s.read < limit → Q s → Q (kept m t s))
      (direct : (s : Progress) → s.read + 4 ≤ limit → Q s → Q (directed s))
      (see : (name : Name) (s : Progress) → Q s → Q (looking name s)) where
    abbrev IncludeHolds : Include → Type 0
    IncludeHolds include = (at : Origin) (name : Name) (s : Progress) → Q s → Holds Q (include at name s)

    module _ (include : Include) (m : Name) (holds : IncludeHolds include) where
      plain_holds : (t : Token) (s : Progress) (r : Option Token) → too_many limit (t ∷ []) s ≡ r → P t.text → Q s → Holds Q (unless m r s (λ s. Ok (kept m t s)))
      plain_holds t s None e p q = keep m t s p (omega (arith, past_end (t ∷ []) (limit - s.read) e)) q
      plain_holds t s (Some x) e p q = tt

      directive_holds : (p w n c : Token) (name : Name) (s : Progress) (r : Option Token) → too_many limit (p ∷ w ∷ n ∷ c ∷ []) s ≡ r → Q s
          → Holds Q (unless m r s (λ s. include (origin_of m p) name (directed s)))
      directive_holds p w n c name s None e q =
          holds (origin_of m p) name (directed s) (direct s (omega (arith, past_end (p ∷ w ∷ n ∷ c ∷ []) (limit - s.read) e)) q)
      directive_holds p w n c name s (Some x) e q = tt

      piece_holds : (piece : Piece) (s : Progress) → IsPiece P piece → Q s → Holds Q (read_piece limit include m piece s)
      piece_holds (Plain t) s p q = plain_holds t s _ refl p q
      piece_holds (Directive p w n c name) s h q = directive_holds p w n c name s _ refl q
      piece_holds (Misplaced p) s h q = tt

      then_holds : (o : Outcome) (next : Progress → Outcome) → Holds Q o → ((s : Progress) → Q s → Holds Q (next s)) → Holds Q (o then next)
      then_holds (Ok s) next h more = more s h
      then_holds (Err stop) next h more = tt

      pieces_hold : (pieces : List Piece) (s : Progress) → EachPiece P pieces → Q s → Holds Q (read_pieces limit include m pieces s)
      unfolding read_pieces
      pieces_hold [] s p q = q
      pieces_hold (piece ∷ pieces) s p q =
          then_holds (read_piece limit include m piece s) (read_pieces limit include m pieces) (piece_holds piece s p.0 q) (λ s q. pieces_hold pieces s p.1 q)

    found_holds : (include : Include) → IncludeHolds include → (at : Origin) (name : Name) (r : Option (Result (List Token) LexFault)) (s : Progress)
        → ((tokens : List Token) → r ≡ Some (Ok tokens) → EachText P tokens) → Q s → Holds Q (found limit include at name r s)
    found_holds include holds at name None s p q = tt
    found_holds include holds at name (Some (Ok tokens)) s p q = pieces_hold include name holds (pieces_of tokens) s (pieces_are 0 tokens (p tokens refl)) q
    found_holds include holds at name (Some (Err fault)) s p q = tt

    either_holds : (b : Bool) (x y : Outcome) → Holds Q x → Holds Q y → Holds Q (if b then x else y)
    either_holds true x y h k = h
    either_holds false x y h k = k

    -- each member's texts are of the kind
    abbrev pub EachLook : Look → Type 0
    EachLook look = (name : Name) (tokens : List Token) → look name ≡ Some (Ok tokens) → EachText P tokens

    included_holds : (level : ℕ) (look : Look) (path : List Name) → EachLook look → IncludeHolds (included level limit look path)
    unfolding included
    included_holds zero look path p at name s q = tt
    included_holds (suc level) look path p at name s q =
        either_holds (is_among name path) (stopped RecursiveInclude at s) _ tt
        (found_holds (included level limit look (path ++ name ∷ [])) (included_holds level look (path ++ name ∷ []) p) at name (look name) (looking name s) (p name) (see name s q))

    -- what holds at the start holds at the end
    pub expanded_holds : (look : Look) (u : Name) → EachLook look → Q started → Holds Q (expanded_within limit look u)
    unfolding expanded_within
    expanded_holds look u p q = included_holds (suc limit) look [] p (record { member = u; line = 1 }) u started q

-- every text
abbrev Any : TokenText → Type 0
Any t = Unit {0}

any_each : (ts : List Token) → EachText Any ts
any_each [] = tt
any_each (t ∷ ts) = (tt, any_each ts)

-- each text has an origin, and no more texts stay than tokens were read
record IsEvenWithin (limit : ℕ) (s : Progress) : Type 0 where
  origins : length s.origins ≡ length s.texts
  few : length s.texts ≤ s.read
  within : s.read ≤ limit

even_kept : (limit : ℕ) (m : Name) (t : Token) (s : Progress) → s.read < limit → IsEvenWithin limit s → IsEvenWithin limit (kept m t s)
even_kept limit m t s lt h = record {
  origins = length_push s.origins (origin_of m t) ∙ ap (λ n. n + 1) h.origins ∙ sym (length_push s.texts t.text);
  few = omega (arith, h.few, length_push s.texts t.text);
  within = omega (arith, lt);
}

even_directed : (limit : ℕ) (s : Progress) → s.read + 4 ≤ limit → IsEvenWithin limit s → IsEvenWithin limit (directed s)
even_directed limit s le h = record { origins = h.origins; few = omega (arith, h.few); within = le }

ends_even : (limit : ℕ) (o : Outcome) (s : Progress) → Holds (IsEvenWithin limit) o → o ≡ Ok s → (length s.origins ≡ length s.texts) × (length s.texts ≤ limit)
ends_even limit (Ok t) s h e = let same : t ≡ s = cc in subst (λ s. (length s.origins ≡ length s.texts) × (length s.texts ≤ limit)) same (h.origins, omega (arith, h.few, h.within))
ends_even limit (Err stop) s h e = let bad : ⊥ = cc in absurd bad

pub texts_have_origins : TextsHaveOrigins
texts_have_origins limit look u s e =
    ends_even limit (expanded_within limit look u) s
    (expanded_holds Any (IsEvenWithin limit) limit (λ m t s p lt q. even_kept limit m t s lt q) (even_directed limit) (λ name s q. record { origins = q.origins; few = q.few; within = q.within })
    look u (λ name tokens r. any_each tokens) (record { origins = refl; few = omega arith; within = omega arith }))
    e
