-- Reading a piece at a place of a member's tokens.
use Rattle.std.specs.Prelude.{◌≡◌, ℕ, zero, suc, ◌+◌, ◌-◌, ◌<◌, ◌≤◌, true, false, List, [], ◌∷◌, ◌++◌, length, take, drop, get_or, slice_get, None, Some, Ok, if◌then◌else◌, refl}
use Rattle.std.proofs.Common.{arith, map, sym, ap, subst, ◌∙◌, take_all, length-drop}
use Rattle.std.specs.List.{All}
use Rattle.std.proofs.Math.Nat.{add-zero}
use Rattle.std.proofs.lemmas.List.{append-nil, append_assoc, drop-drop, take-append-drop}
use Rattle.std.proofs.lemmas.List.Elements.{All-tail}
use Rattle.std.proofs.Math.ListN.{drop_of_length-le}
use Rattle.std.proofs.Math.Seq.{drop-cons}
use Rattle.std.proofs.lemmas.Option.{slice_get_past, slice_get_within, get_or_from_slice_get}
use Rattle.pli_base.specs.Name.{Name}
use Rattle.pli_base.specs.declared.code.Code.{Code}
use Rattle.pli_base.specs.declared.code.Code.TheVariants.{TooManyTokens, BadInclude}
use Rattle.pli_base.specs.declared.token.Token.{Token}
use Rattle.pli_include.specs.declared.reading.Pause.{Pause}
use Rattle.pli_include.specs.declared.reading.Pause.TheVariants as at
use Rattle.pli_include.specs.Pieces.{IsPlain, Piece, Plain, Directive, Misplaced, pieces_after, pieces_of, piece_at, is_percent, begun, directive, named_by, further}
use Rattle.pli_include.specs.Expansion.{Progress, Include, stopped, read_piece, read_pieces, unless, kept, all_kept, text_of, directed, origin_of, ◌then◌}
use Rattle.pli_include.specs.answers.Pausing.{Reads}
use Rattle.pli_include.proofs.LevelNeverMet.{past_end}

-- the tokens of a piece before are passed over
pieces_skip : (n : ℕ) (ts : List Token) → pieces_after n ts ≡ pieces_after 0 (drop n ts)
unfolding pieces_after
pieces_skip zero [] = refl
pieces_skip (suc n) [] = refl
pieces_skip zero (t ∷ ts) = refl
pieces_skip (suc n) (t ∷ ts) = pieces_skip n ts

pieces_at : (t : Token) (ts : List Token) (piece : Piece) → piece_at t ts ≡ piece → pieces_of (t ∷ ts) ≡ piece ∷ pieces_of (drop (further piece) ts)
unfolding pieces_after
pieces_at t ts piece e = ap (λ p. p ∷ pieces_after (further p) ts) e ∙ ap (λ l. piece ∷ l) (pieces_skip (further piece) ts)

first_read : (limit : ℕ) (include : Include) (m : Name) (piece : Piece) (pieces : List Piece) (s : Progress)
    → read_pieces limit include m (piece ∷ pieces) s ≡ (read_piece limit include m piece s then read_pieces limit include m pieces)
unfolding read_pieces
first_read limit include m piece pieces s = refl

none_read : (limit : ℕ) (include : Include) (m : Name) (s : Progress) → read_pieces limit include m (pieces_of []) s ≡ Ok s
unfolding read_pieces pieces_after
none_read limit include m s = refl

-- the piece at the front of tokens is read, and then the others
reads_at : (limit : ℕ) (include : Include) (m : Name) (t : Token) (ts : List Token) (piece : Piece) (s : Progress) → piece_at t ts ≡ piece
    → read_pieces limit include m (pieces_of (t ∷ ts)) s ≡ (read_piece limit include m piece s then read_pieces limit include m (pieces_of (drop (further piece) ts)))
reads_at limit include m t ts piece s e =
    ap (λ ps. read_pieces limit include m ps s) (pieces_at t ts piece e) ∙ first_read limit include m piece (pieces_of (drop (further piece) ts)) s

plain_piece : (t : Token) (ts : List Token) → is_percent t.text ≡ false → piece_at t ts ≡ Plain t
plain_piece t ts e = ap (λ b. if b then begun t ts else Plain t) e

percent_piece : (t : Token) (ts : List Token) → is_percent t.text ≡ true → piece_at t ts ≡ begun t ts
percent_piece t ts e = ap (λ b. if b then begun t ts else Plain t) e

-- the tokens from a place on, and the next ones
pub from_place : (tokens : List Token) (place : ℕ) (t : Token) → place < length tokens → t ≡ get_or tokens place t → drop place tokens ≡ t ∷ drop (place + 1) tokens
from_place tokens place t lt e =
    let plus : suc place ≡ place + 1 = omega arith in
    drop-cons tokens place t lt ∙ ap (λ x. x ∷ drop (suc place) tokens) (sym e) ∙ ap (λ n. t ∷ drop n tokens) plus

-- a slice to the end is all of them
pub rest_is : (tokens : List Token) (place : ℕ) → place ≤ length tokens → take (length tokens - place) (drop place tokens) ≡ drop place tokens
rest_is tokens place le = take_all (length tokens - place) (drop place tokens) (simp length-drop (omega arith))

none_kept : (m : Name) (s : Progress) → s ≡ all_kept m [] s
none_kept m s =
    ap (λ n. record { read = n; texts = s.texts; origins = s.origins; looked = s.looked }) (sym (add-zero s.read))
    ∙ ap (λ xs. record { read = s.read + 0; texts = xs; origins = s.origins; looked = s.looked }) (sym (append-nil s.texts))
    ∙ ap (λ os. record { read = s.read + 0; texts = s.texts ++ []; origins = os; looked = s.looked })
    (sym (append-nil s.origins))

more_kept : (m : Name) (t : Token) (ts : List Token) (s : Progress) → all_kept m ts (kept m t s) ≡ all_kept m (t ∷ ts) s
more_kept m t ts s =
    let count : s.read + 1 + length ts ≡ s.read + length (t ∷ ts) = omega arith in
    ap (λ n. record {
      read = n;
      texts = s.texts ++ t.text ∷ [] ++ map text_of ts;
      origins = s.origins ++ origin_of m t ∷ [] ++ map (origin_of m) ts;
      looked = s.looked;
    }) count
    ∙ ap (λ xs. record {
      read = s.read + length (t ∷ ts);
      texts = xs;
      origins = s.origins ++ origin_of m t ∷ [] ++ map (origin_of m) ts;
      looked = s.looked;
    }) (append_assoc s.texts (t.text ∷ []) (map text_of ts))
    ∙ ap (λ os. record {
      read = s.read + length (t ∷ ts);
      texts = s.texts ++ map text_of (t ∷ ts);
      origins = os;
      looked = s.looked;
    }) (append_assoc s.origins (origin_of m t ∷ []) (map (origin_of m) ts))

-- tokens that stay
all_stay : (limit : ℕ) (include : Include) (m : Name) (ts rest : List Token) (s : Progress) → All IsPlain ts
    → s.read + length ts ≤ limit
    → read_pieces limit include m (pieces_of (ts ++ rest)) s ≡ read_pieces limit include m (pieces_of rest) (all_kept m ts s)
all_stay limit include m [] rest s plain room = ap (read_pieces limit include m (pieces_of rest)) (none_kept m s)
all_stay limit include m (t ∷ ts) rest s plain room =
    let fits : slice_get (t ∷ []) (limit - s.read) ≡ None = slice_get_past (t ∷ []) (limit - s.read) (omega (arith, room)) in
    let stays : is_percent t.text ≡ false = plain 0 t (omega arith) in
    let later : s.read + 1 + length ts ≤ limit = omega (arith, room) in
    reads_at limit include m t (ts ++ rest) (Plain t) s (plain_piece t (ts ++ rest) stays)
    ∙ ap (λ r. unless m r s (λ s. Ok (kept m t s)) then read_pieces limit include m (pieces_of (ts ++ rest))) fits
    ∙ all_stay limit include m ts rest (kept m t s) (All-tail IsPlain t ts plain) later
    ∙ ap (read_pieces limit include m (pieces_of rest)) (more_kept m t ts s)

module _ (limit : ℕ) (m : Name) (tokens : List Token) (start count : ℕ) (s : Progress)
    (plain : All IsPlain (take count (drop start tokens))) (room : s.read + length (take count (drop start tokens)) ≤ limit) where
  -- so many tokens from a place on stay
  keeps : (include : Include) → read_pieces limit include m (pieces_of (drop start tokens)) s
      ≡ read_pieces limit include m (pieces_of (drop (start + count) tokens)) (all_kept m (take count (drop start tokens)) s)
  keeps include =
      ap (λ ts. read_pieces limit include m (pieces_of ts) s) (sym (take-append-drop count (drop start tokens)))
      ∙ all_stay limit include m (take count (drop start tokens)) (drop count (drop start tokens)) s plain room
      ∙ ap (λ ts. read_pieces limit include m (pieces_of ts) (all_kept m (take count (drop start tokens)) s))
      (drop-drop count start tokens)

  -- they stay, and then reading goes on
  pub reads_after : (pause : Pause) (later new : Progress) → later ≡ all_kept m (take count (drop start tokens)) s
      → Reads limit m tokens (start + count) later pause new → Reads limit m tokens start s pause new
  reads_after pause later new is h = record {
    same = λ include. keeps include ∙ ap (read_pieces limit include m (pieces_of (drop (start + count) tokens))) (sym is) ∙ h.same include;
    looked = h.looked ∙ ap (λ (p : Progress). p.looked) is;
    left = let more : later.read ≡ s.read + length (take count (drop start tokens)) = ap (λ (p : Progress). p.read) is in
        omega (arith, h.left, more);
  }

-- a token that is one too many
pub too_many_plain : (limit : ℕ) (include : Include) (m : Name) (tokens : List Token) (place : ℕ) (t : Token) (s : Progress)
    → place < length tokens → t ≡ get_or tokens place t → is_percent t.text ≡ false → limit - s.read ≡ 0
    → read_pieces limit include m (pieces_of (drop place tokens)) s ≡ stopped TooManyTokens (origin_of m t) s
too_many_plain limit include m tokens place t s lt is plain full =
    let over : slice_get (t ∷ []) (limit - s.read) ≡ Some t = ap (λ n. slice_get (t ∷ []) n) full in
    ap (λ ts. read_pieces limit include m (pieces_of ts) s) (from_place tokens place t lt is)
    ∙ reads_at limit include m t (drop (place + 1) tokens) (Plain t) s (plain_piece t (drop (place + 1) tokens) plain)
    ∙ ap (λ r. unless m r s (λ s. Ok (kept m t s)) then read_pieces limit include m (pieces_of (drop (place + 1) tokens))) over

-- a fault at a token
abbrev pub fault_at : Code → Name → Token → Pause
fault_at code m t = at.Fault (record { code = code; origin = record { member = m; line = t.line } })

-- a `%` that begins no directive
pub reads_misplaced : (limit : ℕ) (m : Name) (tokens : List Token) (place : ℕ) (p : Token) (ts : List Token) (s : Progress)
    → drop place tokens ≡ p ∷ ts → is_percent p.text ≡ true → begun p ts ≡ Misplaced p → Reads limit m tokens place s (fault_at BadInclude m p) s
reads_misplaced limit m tokens place p ts s from percent bad = record {
  same = λ include. ap (λ xs. read_pieces limit include m (pieces_of xs) s) from ∙ reads_at limit include m p ts (Misplaced p) s (percent_piece p ts percent ∙ bad);
  looked = refl;
  left = omega arith;
}

heads : (p x : Token) (ps xs : List Token) → p ∷ ps ≡ x ∷ xs → p ≡ x
heads p x ps xs e = cc

-- the first token from a place on stands there
pub percent_at : (tokens : List Token) (place : ℕ) (p x : Token) (ts : List Token) → drop place tokens ≡ p ∷ ts → slice_get tokens place ≡ Some x
    → is_percent x.text ≡ true → is_percent p.text ≡ true
percent_at tokens place p x ts from at e =
    let lt = slice_get_within tokens place x at in
    let same : p ≡ x = heads p x _ _ (sym from ∙ from_place tokens place x lt (sym (get_or_from_slice_get tokens place x x at))) in
    subst (λ t. is_percent t.text ≡ true) (sym same) e

-- fewer than four tokens are no directive
pub short_is_misplaced : (p : Token) (ts : List Token) → length (p ∷ ts) < 4 → begun p ts ≡ Misplaced p
short_is_misplaced p [] lt = refl
short_is_misplaced p (a ∷ []) lt = refl
short_is_misplaced p (a ∷ b ∷ []) lt = refl
short_is_misplaced p (a ∷ b ∷ c ∷ ts) lt = absurd (omega arith)

-- the first four tokens
pub four_are : (ts : List Token) (p w n c : Token) → 4 ≤ length ts → p ≡ get_or ts 0 p → w ≡ get_or ts 1 w → n ≡ get_or ts 2 n → c ≡ get_or ts 3 c
    → ts ≡ p ∷ w ∷ n ∷ c ∷ drop 4 ts
four_are [] p w n c le a b d e = absurd (omega arith)
four_are (x ∷ []) p w n c le a b d e = absurd (omega arith)
four_are (x ∷ y ∷ []) p w n c le a b d e = absurd (omega arith)
four_are (x ∷ y ∷ z ∷ []) p w n c le a b d e = absurd (omega arith)
four_are (x ∷ y ∷ z ∷ u ∷ ts) p w n c le a b d e = cc

-- a directive of which a token is one too many
pub reads_over : (limit : ℕ) (m : Name) (tokens : List Token) (place : ℕ) (p w n c x : Token) (name : Name) (ts : List Token) (s : Progress)
    → drop place tokens ≡ p ∷ w ∷ n ∷ c ∷ ts → is_percent p.text ≡ true → named_by w.text n.text c.text ≡ Some name
    → slice_get (p ∷ w ∷ n ∷ c ∷ []) (limit - s.read) ≡ Some x → Reads limit m tokens place s (fault_at TooManyTokens m x) s
reads_over limit m tokens place p w n c x name ts s from percent named over = record {
  same = λ include.
      ap (λ xs. read_pieces limit include m (pieces_of xs) s) from
      ∙ reads_at limit include m p (w ∷ n ∷ c ∷ ts) (Directive p w n c name) s (percent_piece p (w ∷ n ∷ c ∷ ts) percent ∙ ap (λ r. directive r p w n c) named)
      ∙ ap (λ r. unless m r s (λ s. include (origin_of m p) name (directed s)) then read_pieces limit include m (pieces_of ts)) over;
  looked = refl;
  left = omega arith;
}

-- a directive
pub reads_directive : (limit : ℕ) (m : Name) (tokens : List Token) (place : ℕ) (p w n c : Token) (name : Name) (s : Progress)
    → drop place tokens ≡ p ∷ w ∷ n ∷ c ∷ drop 4 (drop place tokens) → is_percent p.text ≡ true → named_by w.text n.text c.text ≡ Some name
    → slice_get (p ∷ w ∷ n ∷ c ∷ []) (limit - s.read) ≡ None
    → Reads limit m tokens place s (at.Include (record { name = name; at = record { member = m; line = p.line }; next = place + 4 })) (directed s)
reads_directive limit m tokens place p w n c name s from percent named fits =
    let ts : List Token = drop 4 (drop place tokens) in
    record {
      same = λ include.
          ap (λ xs. read_pieces limit include m (pieces_of xs) s) from
          ∙ reads_at limit include m p (w ∷ n ∷ c ∷ ts) (Directive p w n c name) s (percent_piece p (w ∷ n ∷ c ∷ ts) percent ∙ ap (λ r. directive r p w n c) named)
          ∙ ap (λ r. unless m r s (λ s. include (origin_of m p) name (directed s)) then read_pieces limit include m (pieces_of ts)) fits
          ∙ ap (λ xs. include (origin_of m p) name (directed s) then read_pieces limit include m (pieces_of xs)) (drop-drop 4 place tokens);
      looked = refl;
      left = omega (arith, past_end (p ∷ w ∷ n ∷ c ∷ []) (limit - s.read) fits);
    }

-- a token too many ends what was read
pub reads_too_many : (limit : ℕ) (m : Name) (tokens : List Token) (place : ℕ) (t : Token) (s : Progress)
    → place < length tokens → t ≡ get_or tokens place t → is_percent t.text ≡ false → limit - s.read ≡ 0
    → Reads limit m tokens place s (fault_at TooManyTokens m t) s
reads_too_many limit m tokens place t s lt is plain full = record {
  same = λ include. too_many_plain limit include m tokens place t s lt is plain full;
  looked = refl;
  left = omega arith;
}

-- the end of the tokens
pub reads_end : (limit : ℕ) (m : Name) (tokens : List Token) (place : ℕ) (s : Progress) → length tokens ≤ place → Reads limit m tokens place s at.End s
reads_end limit m tokens place s le = record {
  same = λ include. ap (λ ts. read_pieces limit include m (pieces_of ts) s) (drop_of_length-le tokens le) ∙ none_read limit include m s;
  looked = refl;
  left = omega arith;
}
