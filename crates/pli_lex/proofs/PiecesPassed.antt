-- Reading lines piece by piece, as the loops do.
use Rattle.std.proofs.Common.{◌≡◌, ℕ, suc, ◌+◌, ◌-◌, ◌≤◌, ◌<◌, Bool, true, false, List, [], ◌∷◌, ◌++◌, length, length-append, get_or, take, drop, Option, Some, None, Result, Ok, Err, refl, sym, ap, ◌∙◌, append_assoc, arith}
use Rattle.std.specs.Option.{is_some, option_map}
use Rattle.std.proofs.lemmas.Bool.Decides.{nat_tests}
use Rattle.std.proofs.lemmas.List.{append-nil, take-append-drop, length-take-le, drop_all, drop_more}
use Rattle.pli_base.specs.declared.code.Code.{Code}
use Rattle.pli_base.specs.declared.code.Code.TheVariants.{UnendedComment}
use Rattle.pli_base.specs.declared.token.TokenText.{TokenText}
use Rattle.pli_base.specs.declared.token.Token.{Token}
use Rattle.pli_lex.specs.declared.answer.LexFault.{LexFault}
use Rattle.pli_base.specs.declared.failure.Failure.{Failure}
use Rattle.pli_base.specs.declared.failure.Failure.TheVariants as errors
use Rattle.pli_lex.specs.Characters.{line_end, is_line_end, text_of, line_ends, is_blank, begins_with, begins_comment}
use Rattle.pli_base.specs.answers.FailureAnswers.{Fails}
use Rattle.pli_lex.specs.answers.Answers.{in_comment, reads}
use Rattle.pli_lex.specs.Reading.{token_at, closing_width, comment, piece, piece_at, with_front, tokens_after, lexed}
use Rattle.pli_lex.proofs.CommentsEnd.{closes_on_line, closes_later, closes_within}
use Rattle.pli_lex.proofs.FoundStands.{token_stands}
use Rattle.pli_lex.proofs.FrontStands.{comment_split, token_some}
use Rattle.pli_lex.proofs.FoundOnLine.{piece_on_line}
use Rattle.pli_lex.proofs.TextsSpelled.{line_ends-append, nothing_before, front_twice, passed_by, passed_over, one_piece}

-- ---- bytes are no line ends

no_end : (c : ℕ) → c < 256 → line_ends (c ∷ []) ≡ 0
no_end c byte = let other : is_line_end c ≡ false = grind (arith, nat_tests) in rw other refl

pub bytes_on_line : (text : List ℕ) → ((i : ℕ) → i < length text → get_or text i 0 < 256) → line_ends text ≡ 0
bytes_on_line [] bytes = refl
bytes_on_line (c ∷ cs) bytes =
    let first : c < 256 = bytes 0 (omega arith) in
    let here : line_ends (c ∷ []) ≡ 0 = no_end c first in
    let beyond = bytes_on_line cs (λ i lt. bytes (suc i) (omega arith)) in
    omega (arith, line_ends-append (c ∷ []) cs)

front_on_line : (n : ℕ) (text : List ℕ) → line_ends text ≡ 0 → line_ends (take n text) ≡ 0
front_on_line n text none =
    let both : line_ends text ≡ line_ends (take n text) + line_ends (drop n text) = ap line_ends (sym (take-append-drop n text)) ∙ line_ends-append (take n text) (drop n text) in
    omega arith

-- a text of a line that is cut, with what comes after the line
cut : (n : ℕ) (text tail : List ℕ) → text ++ tail ≡ take n text ++ (drop n text ++ tail)
cut n text tail = ap (λ (l : List ℕ). l ++ tail) (sym (take-append-drop n text)) ∙ append_assoc (take n text) (drop n text) tail

-- ---- the line's end

comment_line_end : (began number : ℕ) (more : List ℕ) (o : Option ℕ) → in_comment began number (line_end ∷ more) (option_map (λ width. width + 1) o) ≡ in_comment began (number + 1) more o
unfolding tokens_after
comment_line_end began number more None = refl
comment_line_end began number more (Some width) = let next : width + 1 ≡ suc width = omega arith in ap (λ (n : ℕ). tokens_after n number (line_end ∷ more)) next

pub line_ends_here : (began : Option ℕ) (number : ℕ) (more : List ℕ) → reads began number (line_end ∷ more) ≡ reads began (number + 1) more
unfolding tokens_after piece_at closing_width
line_ends_here None number more = nothing_before (tokens_after 0 (number + 1) more)
line_ends_here (Some began) number more = comment_line_end began number more (closing_width more)

-- ---- in a comment

pub comment_closes : (began number width : ℕ) (text more : List ℕ) → line_ends text ≡ 0 → closing_width text ≡ Some width
    → reads (Some began) number (text ++ line_end ∷ more) ≡ reads None number (drop width text ++ line_end ∷ more)
comment_closes began number width text more none closes =
    let tail = line_end ∷ more in
    let within = closes_within text width closes in
    let long : length (take width text) ≡ width = length-take-le width text within.1 in
    let lines : number + line_ends (take width text) ≡ number = omega (arith, front_on_line width text none) in
    ap (in_comment began number (text ++ tail)) (closes_on_line text more width closes)
    ∙ ap (tokens_after width number) (cut width text tail) ∙ ap (λ (n : ℕ). tokens_after n number (take width text ++ (drop width text ++ tail))) (sym long)
    ∙ passed_over (take width text) (drop width text ++ tail) number ∙ ap (λ (n : ℕ). tokens_after 0 n (drop width text ++ tail)) lines

still_open : (began number : ℕ) (text more : List ℕ) (o : Option ℕ) → line_ends text ≡ 0
    → in_comment began number (text ++ line_end ∷ more) (option_map (λ width. width + (length text + 1)) o) ≡ in_comment began number (line_end ∷ more) (option_map (λ width. width + 1) o)
still_open began number text more None none = refl
still_open began number text more (Some width) none =
    let long : width + (length text + 1) ≡ length text + (width + 1) = omega arith in
    let lines : number + line_ends text ≡ number = omega arith in
    ap (λ (n : ℕ). tokens_after n number (text ++ line_end ∷ more)) long ∙ passed_by text (line_end ∷ more) number (width + 1) ∙ ap (λ (n : ℕ). tokens_after (width + 1) n (line_end ∷ more)) lines

pub comment_goes_on : (began number : ℕ) (text more : List ℕ) → line_ends text ≡ 0 → closing_width text ≡ None
    → reads (Some began) number (text ++ line_end ∷ more) ≡ reads (Some began) number (drop (length text) text ++ line_end ∷ more)
unfolding closing_width
comment_goes_on began number text more none goes_on =
    let nothing : line_end ∷ more ≡ drop (length text) text ++ line_end ∷ more = ap (λ (l : List ℕ). l ++ line_end ∷ more) (sym (drop_all (length text) text (omega arith))) in
    ap (in_comment began number (text ++ line_end ∷ more)) (closes_later text more goes_on) ∙ still_open began number text more (closing_width more) none
    ∙ ap (reads (Some began) number) nothing

-- ---- not in a comment

pub blank_passes : (number : ℕ) (text more : List ℕ) → line_ends text ≡ 0 → begins_with is_blank text ≡ true → reads None number (text ++ line_end ∷ more) ≡ reads None number (drop 1 text ++ line_end ∷ more)
unfolding tokens_after piece_at
blank_passes number [] more none blank = absurd cc
blank_passes number (c ∷ cs) more none blank =
    let lines : number + line_ends (c ∷ []) ≡ number = omega (arith, front_on_line 1 (c ∷ cs) none) in
    rw (blank, lines) (nothing_before (tokens_after 0 number (cs ++ line_end ∷ more)))

comment_opens : (number : ℕ) (text : List ℕ) (o : Option ℕ) → closing_width text ≡ o → tokens_after 0 number (47 ∷ 42 ∷ text) ≡ in_comment number number text o
unfolding tokens_after piece_at
comment_opens number text None closes = rw closes refl
comment_opens number text (Some width) closes =
    let less : width + 2 - 1 ≡ suc width = omega arith in
    let lines : number + 0 + 0 ≡ number = omega arith in
    rw (closes, less, lines) (nothing_before (tokens_after width number text))

pub comment_begins : (number : ℕ) (text more : List ℕ) → begins_comment text ≡ true → reads None number (text ++ line_end ∷ more) ≡ reads (Some number) number (drop 2 text ++ line_end ∷ more)
comment_begins number text more begins =
    let split = comment_split text begins in
    let tail = line_end ∷ more in
    ap (λ (l : List ℕ). tokens_after 0 number (l ++ tail)) split.1 ∙ comment_opens number (split.0 ++ tail) (closing_width (split.0 ++ tail)) refl
    ∙ ap (λ (l : List ℕ). reads (Some number) number (drop 2 l ++ tail)) (sym split.1)

pub token_passes : (number : ℕ) (text more : List ℕ) (t : TokenText) (width : ℕ) → line_ends text ≡ 0 → begins_with is_blank text ≡ false → begins_comment text ≡ false → token_at text ≡ Ok (t, width)
    → reads None number (text ++ line_end ∷ more) ≡ with_front (record { text = t; line = number } ∷ []) (reads None number (drop width text ++ line_end ∷ more))
token_passes number text more t width none blank comment found =
    let stands = token_stands text (t, width) found in
    let run = stands.0 in
    let tail = line_end ∷ more in
    let some = token_some run t stands.4 in
    let text_long : length text ≡ length run + length stands.1 = ap length stands.2 ∙ length-append run stands.1 in
    let within : width ≤ length text = omega (arith, stands.3) in
    let long : length (take width text) ≡ width = length-take-le width text within in
    let piece_is : piece_at (take width text ++ (drop width text ++ tail)) ≡ Ok (Some t, length (take width text)) =
    ap piece_at (sym (cut width text tail)) ∙ piece_on_line text more (omega (arith, stands.3)) blank comment ∙ ap piece found ∙ ap (λ (n : ℕ). Ok (Some t, n)) (sym long) in
    let lines : number + line_ends (take width text) ≡ number = omega (arith, front_on_line width text none) in
    ap (tokens_after 0 number) (cut width text tail) ∙ one_piece number (take width text) (drop width text ++ tail) (Some t) piece_is (omega (arith, stands.3))
    ∙ ap (λ (n : ℕ). with_front (record { text = t; line = number } ∷ []) (tokens_after 0 n (drop width text ++ tail))) lines

pub token_within : (text : List ℕ) (t : TokenText) (width : ℕ) → token_at text ≡ Ok (t, width) → (1 ≤ width) × (width ≤ length text)
token_within text t width found =
    let stands = token_stands text (t, width) found in
    let some = token_some stands.0 t stands.4 in
    let text_long : length text ≡ length stands.0 + length stands.1 = ap length stands.2 ∙ length-append stands.0 stands.1 in
    (omega (arith, stands.3), omega (arith, stands.3))

pub fault_first : (number c : ℕ) (cs : List ℕ) (code : Code) → piece_at (c ∷ cs) ≡ Err code → tokens_after 0 number (c ∷ cs) ≡ Err (record { code = code; line = number })
unfolding tokens_after
fault_first number c cs code found = rw found refl

pub token_fails : (number : ℕ) (text more : List ℕ) (code : Code) → 1 ≤ length text → begins_with is_blank text ≡ false → begins_comment text ≡ false → token_at text ≡ Err code
    → reads None number (text ++ line_end ∷ more) ≡ Err (record { code = code; line = number })
token_fails number [] more code some blank comment fails = absurd (omega arith)
token_fails number (c ∷ cs) more code some blank comment fails =
    fault_first number c (cs ++ line_end ∷ more) code (piece_on_line (c ∷ cs) more some blank comment ∙ ap piece fails)

-- ---- fronts and failures

front_fails : (front : List Token) (read : Result (List Token) LexFault) (fault : LexFault) → with_front front read ≡ Err fault → read ≡ Err fault
front_fails front (Ok others) fault e = absurd cc
front_fails front (Err other) fault e = cc

-- what fails after some tokens fails where they were read
pub fails_so_far : (e : Failure LexFault) (now before : List Token) (read total : Result (List Token) LexFault) → with_front now read ≡ with_front before total → Fails e read → Fails e total
fails_so_far errors.OutOfMemory now before read total so_far fails = tt
fails_so_far (errors.Fault fault) now before read total so_far fails = front_fails before total fault (sym so_far ∙ ap (with_front now) fails)

-- ---- for the step of the loop over a line

-- what a line has at its front is passed, so that these tokens were read after those
abbrev Steps : List Token → List Token → Option ℕ → Option ℕ → ℕ → ℕ → List ℕ → Type 0
Steps before after began left number width text =
    (more : List ℕ) → with_front before (reads began number (text ++ line_end ∷ more)) ≡ with_front after (reads left number (drop width text ++ line_end ∷ more))

pub first_is : (p : ℕ → Bool) (text : List ℕ) (b : Bool) → 1 ≤ length text → p (get_or text 0 0) ≡ b → begins_with p text ≡ b
first_is p [] b some is = absurd (omega arith)
first_is p (c ∷ cs) b some is = is

pub passes_open : (before : List Token) (began : Option ℕ) (number : ℕ) (text : List ℕ) → is_some began ≡ true → line_ends text ≡ 0 → closing_width text ≡ None → Steps before before began began number (length text) text
passes_open before None number text opened none closes = absurd cc
passes_open before (Some b) number text opened none closes = λ more. ap (with_front before) (comment_goes_on b number text more none closes)

pub passes_closed : (before : List Token) (began : Option ℕ) (number width : ℕ) (text : List ℕ) → is_some began ≡ true → line_ends text ≡ 0 → closing_width text ≡ Some width → Steps before before began None number width text
passes_closed before None number width text opened none closes = absurd cc
passes_closed before (Some b) number width text opened none closes = λ more. ap (with_front before) (comment_closes b number width text more none closes)

pub passes_blank : (before : List Token) (began : Option ℕ) (number : ℕ) (text : List ℕ) → is_some began ≡ false → line_ends text ≡ 0 → begins_with is_blank text ≡ true → Steps before before began None number 1 text
passes_blank before None number text opened none blank = λ more. ap (with_front before) (blank_passes number text more none blank)
passes_blank before (Some b) number text opened none blank = absurd cc

pub passes_comment : (before : List Token) (began : Option ℕ) (number : ℕ) (text : List ℕ) → is_some began ≡ false → begins_comment text ≡ true → Steps before before began (Some number) number 2 text
passes_comment before None number text opened begins = λ more. ap (with_front before) (comment_begins number text more begins)
passes_comment before (Some b) number text opened begins = absurd cc

pub passes_token : (before after : List Token) (began : Option ℕ) (number width : ℕ) (text : List ℕ) (t : TokenText) → is_some began ≡ false → line_ends text ≡ 0 → begins_with is_blank text ≡ false
    → begins_comment text ≡ false → token_at text ≡ Ok (t, width) → after ≡ before ++ record { text = t; line = number } ∷ [] → Steps before after began None number width text
passes_token before after None number width text t opened none blank comment found adds =
    let token : Token = record { text = t; line = number } in
    λ more.
    ap (with_front before) (token_passes number text more t width none blank comment found) ∙ front_twice before (token ∷ []) (reads None number (drop width text ++ line_end ∷ more))
    ∙ ap (λ (l : List Token). with_front l (reads None number (drop width text ++ line_end ∷ more))) (sym adds)
passes_token before after (Some b) number width text t opened none blank comment found adds = absurd cc

pub fails_token : (began : Option ℕ) (number : ℕ) (text : List ℕ) (code : Code) → is_some began ≡ false → 1 ≤ length text → begins_with is_blank text ≡ false → begins_comment text ≡ false → token_at text ≡ Err code
    → (more : List ℕ) → reads began number (text ++ line_end ∷ more) ≡ Err (record { code = code; line = number })
fails_token None number text code opened some blank comment fails = λ more. token_fails number text more code some blank comment fails
fails_token (Some b) number text code opened some blank comment fails = absurd cc

-- ---- for the loop over lines

pub line_passes : (lines : List (List ℕ)) (i number : ℕ) (line : List ℕ) (began left : Option ℕ) (now after : List Token) (total : Result (List Token) LexFault) → i < length lines → line ≡ get_or lines i line
    → with_front now (reads began number (text_of (drop i lines))) ≡ total
    → ((more : List ℕ) → with_front now (reads began number (line ++ line_end ∷ more)) ≡ with_front after (reads left (number + 1) more))
    → with_front after (reads left (number + 1) (text_of (drop (i + 1) lines))) ≡ total
line_passes lines i number line began left now after total lt is so_far passes =
    let rest = text_of (drop (i + 1) lines) in
    let split : text_of (drop i lines) ≡ line ++ line_end ∷ rest = ap text_of (drop_more lines i line lt) ∙ ap (λ (l : List ℕ). l ++ line_end ∷ rest) (sym is) in
    sym (passes rest) ∙ ap (λ (l : List ℕ). with_front now (reads began number l)) (sym split) ∙ so_far

pub line_fails : (e : Failure LexFault) (lines : List (List ℕ)) (i number : ℕ) (line : List ℕ) (began : Option ℕ) (now : List Token) (total : Result (List Token) LexFault) → i < length lines → line ≡ get_or lines i line
    → with_front now (reads began number (text_of (drop i lines))) ≡ total → ((more : List ℕ) → Fails e (reads began number (line ++ line_end ∷ more))) → Fails e total
line_fails e lines i number line began now total lt is so_far fails =
    let rest = text_of (drop (i + 1) lines) in
    let split : text_of (drop i lines) ≡ line ++ line_end ∷ rest = ap text_of (drop_more lines i line lt) ∙ ap (λ (l : List ℕ). l ++ line_end ∷ rest) (sym is) in
    fails_so_far e now [] (reads began number (line ++ line_end ∷ rest)) total (ap (λ (l : List ℕ). with_front now (reads began number l)) (sym split) ∙ so_far ∙ sym (nothing_before total)) (fails rest)

pub lines_begin : (lines : List (List ℕ)) → with_front [] (reads None 1 (text_of lines)) ≡ lexed lines
lines_begin lines = nothing_before (lexed lines)

pub lines_end : (lines : List (List ℕ)) (i number : ℕ) (began : Option ℕ) (now : List Token) (total : Result (List Token) LexFault) → length lines ≤ i → with_front now (reads began number (text_of (drop i lines))) ≡ total → began ≡ None → total ≡ Ok now
unfolding tokens_after
lines_end lines i number began now total past so_far closed =
    sym so_far ∙ ap (λ (ls : List (List ℕ)). with_front now (reads began number (text_of ls))) (drop_all i lines past) ∙ ap (λ (o : Option ℕ). with_front now (reads o number [])) closed ∙ ap (λ (l : List Token). Ok l) (append-nil now)

pub lines_end_open : (lines : List (List ℕ)) (i number began : ℕ) (left : Option ℕ) (now : List Token) (total : Result (List Token) LexFault) → length lines ≤ i → with_front now (reads left number (text_of (drop i lines))) ≡ total → left ≡ Some began
    → total ≡ Err (record { code = UnendedComment; line = began })
unfolding closing_width
lines_end_open lines i number began left now total past so_far opened =
    sym so_far ∙ ap (λ (ls : List (List ℕ)). with_front now (reads left number (text_of ls))) (drop_all i lines past) ∙ ap (λ (o : Option ℕ). with_front now (reads o number [])) opened

pub line_is_passed : (now before : List Token) (began began_first : Option ℕ) (number : ℕ) (rest text : List ℕ) → length rest ≡ 0
    → ((more : List ℕ) → with_front now (reads began number (rest ++ line_end ∷ more)) ≡ with_front before (reads began_first number (text ++ line_end ∷ more)))
    → (more : List ℕ) → with_front before (reads began_first number (text ++ line_end ∷ more)) ≡ with_front now (reads began (number + 1) more)
line_is_passed now before began began_first number [] text none so_far more = sym (so_far more) ∙ ap (with_front now) (line_ends_here began number more)
line_is_passed now before began began_first number (c ∷ cs) text none so_far more = absurd (omega arith)
