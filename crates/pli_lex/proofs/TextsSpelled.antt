-- What is read in a text is spelled so, what is spelled so is read, and the fault that is met stands where nothing can.
use Rattle.std.proofs.Common.{◌≡◌, ℕ, zero, suc, ◌+◌, ◌-◌, ◌<◌, cond, List, [], ◌∷◌, ◌++◌, length, take, drop, Option, Some, None, Result, Ok, Err, refl, sym, ap, subst, ◌∙◌, append_assoc, arith}
use Rattle.std.specs.List.{concat}
use Rattle.std.proofs.lemmas.List.{take_at, drop_at}
use Rattle.std.proofs.lemmas.List.Sums.{sum_by-append}
use Rattle.pli_base.specs.declared.code.Code.{Code}
use Rattle.pli_base.specs.declared.token.TokenText.{TokenText}
use Rattle.pli_base.specs.declared.token.Token.{Token}
use Rattle.pli_lex.specs.declared.answer.LexFault.{LexFault}
use Rattle.pli_lex.specs.Characters.{line_ends, is_line_end}
use Rattle.pli_lex.specs.Tokens.{IsSeparator, AreSeparators, IsGap, SpellsUpTo}
use Rattle.pli_lex.specs.Faults.{NothingStands, IsCodeOf}
use Rattle.pli_base.specs.Results.{◌>>=◌}
use Rattle.pli_lex.specs.Reading.{Piece, piece_at, at_line, with_front, tokens_in, tokens_after}
use Rattle.pli_lex.proofs.FrontStands.{PieceStands, piece_stands, token_piece, separator_piece, separator_some, token_some, nothing_stands, piece_code}

-- ---- line ends

pub line_ends-append : (front rest : List ℕ) → line_ends (front ++ rest) ≡ line_ends front + line_ends rest
line_ends-append front rest = sum_by-append (λ c. cond (is_line_end c) 1 0) front rest

-- ---- what is read

-- what is read of a text that begins on a line is so
abbrev pub Tells : ℕ → List ℕ → Result (List Token) LexFault → Type 0
Tells number text (Ok tokens) = (last : ℕ) × SpellsUpTo number text tokens last []
Tells number text (Err fault) = (tokens : List Token) × (rest : List ℕ) × SpellsUpTo number text tokens fault.line rest × NothingStands rest × IsCodeOf rest fault.code

-- a separator before a text
separated : (number : ℕ) (run after : List ℕ) (tokens : List Token) (last : ℕ) (rest : List ℕ) → IsSeparator run → SpellsUpTo (number + line_ends run) after tokens last rest → SpellsUpTo number (run ++ after) tokens last rest
separated number run after [] last rest is (gap, whole, (runs, joined, all), ends) =
    (run ++ gap, ap (λ (l : List ℕ). run ++ l) whole ∙ sym (append_assoc run gap rest), (run ∷ runs, ap (λ (l : List ℕ). run ++ l) joined, (is, all)), omega (arith, ends, line_ends-append run gap))
separated number run after (t ∷ ts) last rest is (gap, token, beyond, whole, (runs, joined, all), ends, says, stops, more) =
    (run ++ gap, token, beyond, ap (λ (l : List ℕ). run ++ l) whole ∙ sym (append_assoc run gap (token ++ beyond)), (run ∷ runs, ap (λ (l : List ℕ). run ++ l) joined, (is, all)), omega (arith, ends, line_ends-append run gap), says, stops, more)

-- a piece before a text
in_front : (number : ℕ) (text : List ℕ) (token : Option TokenText) (width : ℕ) (tokens : List Token) (last : ℕ) (rest : List ℕ) → PieceStands text (token, width)
    → SpellsUpTo (number + line_ends (take width text)) (drop width text) tokens last rest → SpellsUpTo number text (tokens_in number token ++ tokens) last rest
in_front number text None width tokens last rest (run, after, whole, long, is) spelled =
    let front : take width text ≡ run = ap (take width) whole ∙ take_at run after width (sym long) in
    let back : drop width text ≡ after = ap (drop width) whole ∙ drop_at run after width (sym long) in
    let beyond : SpellsUpTo (number + line_ends run) after tokens last rest = rw (front, back) at spelled in
    subst (λ (l : List ℕ). SpellsUpTo number l tokens last rest) (sym whole) (separated number run after tokens last rest is beyond)
in_front number text (Some t) width tokens last rest (run, after, whole, long, is, ends) spelled =
    let front : take width text ≡ run = ap (take width) whole ∙ take_at run after width (sym long) in
    let back : drop width text ≡ after = ap (drop width) whole ∙ drop_at run after width (sym long) in
    let beyond : SpellsUpTo (number + line_ends run) after tokens last rest = rw (front, back) at spelled in
    ([], run, after, whole, ([], refl, tt), omega arith, is, ends, beyond)

front_tells : (number : ℕ) (text : List ℕ) (token : Option TokenText) (width : ℕ) (read : Result (List Token) LexFault) → PieceStands text (token, width)
    → Tells (number + line_ends (take width text)) (drop width text) read → Tells number text (with_front (tokens_in number token) read)
front_tells number text token width (Ok tokens) stands tells = (tells.0, in_front number text token width tokens tells.0 [] stands tells.1)
front_tells number text token width (Err fault) stands tells =
    (tokens_in number token ++ tells.0, tells.1, in_front number text token width tells.0 fault.line tells.1 stands tells.2, tells.3, tells.4)

piece_some : (text : List ℕ) (token : Option TokenText) (width : ℕ) → PieceStands text (token, width) → 0 < width
piece_some text None width (run, after, whole, long, is) = let some = separator_some run is in omega arith
piece_some text (Some t) width (run, after, whole, long, is, ends) = let some = token_some run t is in omega arith

-- what is read after a piece
abbrev read_after : ℕ → ℕ → List ℕ → ℕ → Result (List Token) LexFault
read_after number c cs width = tokens_after (width - 1) (number + line_ends (c ∷ [])) cs

first_tells : (number c : ℕ) (cs : List ℕ) (read : Result Piece Code) → piece_at (c ∷ cs) ≡ read
    → ((n : ℕ) → Tells (number + line_ends (c ∷ []) + line_ends (take n cs)) (drop n cs) (tokens_after n (number + line_ends (c ∷ [])) cs))
    → Tells number (c ∷ cs) (at_line number read >>= λ piece. with_front (tokens_in number piece.0) (read_after number c cs piece.1))
first_tells number c cs (Err code) found beyond = ([], c ∷ cs, ([], refl, ([], refl, tt), omega arith), nothing_stands (c ∷ cs) code found, piece_code c cs code found)
first_tells number c cs (Ok (token, zero)) found beyond = absurd (let some = piece_some (c ∷ cs) token zero (piece_stands (c ∷ cs) (token, zero) found) in omega arith)
first_tells number c cs (Ok (token, suc n)) found beyond =
    let stands = piece_stands (c ∷ cs) (token, suc n) found in
    let less : n ≡ suc n - 1 = omega arith in
    let lines : number + line_ends (c ∷ []) + line_ends (take n cs) ≡ number + line_ends (take (suc n) (c ∷ cs)) = omega (arith, line_ends-append (c ∷ []) (take n cs)) in
    let tells = subst (λ (m : ℕ). Tells m (drop n cs) (tokens_after n (number + line_ends (c ∷ [])) cs)) lines (beyond n) in
    front_tells number (c ∷ cs) token (suc n) (read_after number c cs (suc n)) stands
    (subst (λ (m : ℕ). Tells (number + line_ends (take (suc n) (c ∷ cs))) (drop n cs) (tokens_after m (number + line_ends (c ∷ [])) cs)) less tells)

nothing_told : (number : ℕ) → Tells number [] (Ok [])
nothing_told number = (number, ([], refl, ([], refl, tt), omega arith))

after_tells : (n number : ℕ) (text : List ℕ) → Tells (number + line_ends (take n text)) (drop n text) (tokens_after n number text)
unfolding tokens_after
after_tells zero number [] = nothing_told (number + line_ends [])
after_tells (suc n) number [] = nothing_told (number + line_ends [])
after_tells (suc n) number (c ∷ cs) =
    let lines : number + line_ends (c ∷ []) + line_ends (take n cs) ≡ number + line_ends (take (suc n) (c ∷ cs)) = omega (arith, line_ends-append (c ∷ []) (take n cs)) in
    subst (λ (m : ℕ). Tells m (drop n cs) (tokens_after n (number + line_ends (c ∷ [])) cs)) lines (after_tells n (number + line_ends (c ∷ [])) cs)
after_tells zero number (c ∷ cs) =
    let lines : number ≡ number + line_ends [] = omega arith in
    subst (λ (m : ℕ). Tells m (c ∷ cs) (tokens_after zero number (c ∷ cs))) lines
    (first_tells number c cs (piece_at (c ∷ cs)) refl (λ n. after_tells n (number + line_ends (c ∷ [])) cs))

pub text_tells : (number : ℕ) (text : List ℕ) → Tells number text (tokens_after 0 number text)
text_tells number text =
    let lines : number + line_ends [] ≡ number = omega arith in
    subst (λ (m : ℕ). Tells m text (tokens_after 0 number text)) lines (after_tells 0 number text)

-- ---- what is spelled

pub nothing_before : (read : Result (List Token) LexFault) → with_front [] read ≡ read
nothing_before (Ok tokens) = refl
nothing_before (Err fault) = refl

-- two fronts are one
pub front_twice : (first second : List Token) (read : Result (List Token) LexFault) → with_front first (with_front second read) ≡ with_front (first ++ second) read
front_twice first second (Ok others) = ap (λ ts. Ok ts) (sym (append_assoc first second others))
front_twice first second (Err e) = refl

-- characters of a piece that is read are passed over
pub passed_by : (run rest : List ℕ) (number more : ℕ) → tokens_after (length run + more) number (run ++ rest) ≡ tokens_after more (number + line_ends run) rest
unfolding tokens_after
passed_by [] rest number more =
    let none : length {A = ℕ} [] + more ≡ more = omega arith in
    let lines : number ≡ number + line_ends [] = omega arith in
    ap (λ (n : ℕ). tokens_after n number rest) none ∙ ap (λ (n : ℕ). tokens_after more n rest) lines
passed_by (c ∷ cs) rest number more =
    let long : length (c ∷ cs) + more ≡ suc (length cs + more) = omega arith in
    let lines : number + line_ends (c ∷ []) + line_ends cs ≡ number + line_ends (c ∷ cs) = omega (arith, line_ends-append (c ∷ []) cs) in
    ap (λ (n : ℕ). tokens_after n number (c ∷ (cs ++ rest))) long ∙ passed_by cs rest (number + line_ends (c ∷ [])) more ∙ ap (λ (n : ℕ). tokens_after more n rest) lines

pub passed_over : (run rest : List ℕ) (number : ℕ) → tokens_after (length run) number (run ++ rest) ≡ tokens_after 0 (number + line_ends run) rest
passed_over run rest number =
    let none : length run ≡ length run + 0 = omega arith in
    ap (λ (n : ℕ). tokens_after n number (run ++ rest)) none ∙ passed_by run rest number 0

pub one_piece : (number : ℕ) (run rest : List ℕ) (token : Option TokenText) → piece_at (run ++ rest) ≡ Ok (token, length run) → 0 < length run
    → tokens_after 0 number (run ++ rest) ≡ with_front (tokens_in number token) (tokens_after 0 (number + line_ends run) rest)
unfolding tokens_after
one_piece number [] rest token found some = absurd (omega arith)
one_piece number (c ∷ cs) rest token found some =
    let less : length (c ∷ cs) - 1 ≡ length cs = omega arith in
    let lines : number + line_ends (c ∷ []) + line_ends cs ≡ number + line_ends (c ∷ cs) = omega (arith, line_ends-append (c ∷ []) cs) in
    rw (found, less, passed_over cs rest (number + line_ends (c ∷ [])), lines) refl

separators_pass : (runs : List (List ℕ)) (number : ℕ) (text : List ℕ) → AreSeparators runs → tokens_after 0 number (concat runs ++ text) ≡ tokens_after 0 (number + line_ends (concat runs)) text
separators_pass [] number text all = ap (λ (n : ℕ). tokens_after 0 n text) (omega arith)
separators_pass (run ∷ runs) number text (is, all) =
    let lines : number + line_ends run + line_ends (concat runs) ≡ number + line_ends (run ++ concat runs) = omega (arith, line_ends-append run (concat runs)) in
    ap (tokens_after 0 number) (append_assoc run (concat runs) text)
    ∙ one_piece number run (concat runs ++ text) None (separator_piece run (concat runs ++ text) is) (separator_some run is)
    ∙ nothing_before (tokens_after 0 (number + line_ends run) (concat runs ++ text))
    ∙ separators_pass runs (number + line_ends run) text all ∙ ap (λ (n : ℕ). tokens_after 0 n text) lines

gap_passes : (gap : List ℕ) (number : ℕ) (text : List ℕ) → IsGap gap → tokens_after 0 number (gap ++ text) ≡ tokens_after 0 (number + line_ends gap) text
gap_passes gap number text (runs, joined, all) =
    ap (λ (l : List ℕ). tokens_after 0 number (l ++ text)) joined ∙ separators_pass runs number text all ∙ ap (λ (l : List ℕ). tokens_after 0 (number + line_ends l) text) (sym joined)

pub spelled_again : (tokens : List Token) (number : ℕ) (text : List ℕ) (last : ℕ) (rest : List ℕ) → SpellsUpTo number text tokens last rest → tokens_after 0 number text ≡ with_front tokens (tokens_after 0 last rest)
spelled_again [] number text last rest (gap, whole, is, ends) =
    ap (tokens_after 0 number) whole ∙ gap_passes gap number rest is ∙ ap (λ (n : ℕ). tokens_after 0 n rest) (sym ends) ∙ sym (nothing_before (tokens_after 0 last rest))
spelled_again (token ∷ tokens) number text last rest (gap, run, after, whole, is_gap, line, is, ends, more) =
    ap (tokens_after 0 number) whole ∙ gap_passes gap number (run ++ after) is_gap ∙ ap (λ (n : ℕ). tokens_after 0 n (run ++ after)) (sym line)
    ∙ one_piece token.line run after (Some token.text) (token_piece run after token.text is ends) (token_some run token.text is)
    ∙ ap (with_front (token ∷ [])) (spelled_again tokens (token.line + line_ends run) after last rest more) ∙ front_twice (token ∷ []) tokens (tokens_after 0 last rest)
