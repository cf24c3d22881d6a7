-- What is spelled so is read: the heading of a procedure, and the end of a block.
use Rattle.std.proofs.Common.{◌≡◌, ◌+◌, ◌<◌, ℕ, suc, zero, List, [], ◌∷◌, ◌++◌, Option, Some, None, Result, length, codes, refl, ap, ◌∙◌, sym, subst, arith, append_assoc, length-append}
use Rattle.pli_base.specs.Name.{Name}
use Rattle.pli_base.specs.Words.{Tokens, is_open, rest_after, SpellsIdentifier}
use Rattle.pli_base.specs.Results.{◌>>=◌}
use Rattle.pli_base.specs.Reading.{Front, read_as, mapped, taken, if_open, or_none}
use Rattle.pli_base.specs.declared.syntax.Identifier.{Identifier}
use Rattle.pli_base.specs.declared.token.Fault.{Fault}
use Rattle.pli_base.specs.declared.token.Sign.TheVariants.{Semicolon, OpenParenthesis, CloseParenthesis}
use Rattle.pli_base.specs.declared.token.TokenText.TheVariants.{Word, Sign}
use Rattle.pli_parse_declaration.specs.DeclarationGrammar.{SpellsListed}
use Rattle.pli_parse_declaration.specs.DeclarationReading.{list_at, identifier_at}
use Rattle.pli_parse_declaration.proofs.DeclarationReadAgain.{Anyhow, NoOpen, ListEnds, placed, open_after, no_open_word, enclosed_again, commas_close, identifier_again}
use Rattle.pli_parse_declaration.proofs.DeclarationItemsAgain.{returned_again}
use Rattle.pli_base.specs.Statements.{ProcedureOption, Main, Returns, Recursive, Heading}
use Rattle.pli_parse_statement.specs.StatementGrammar.{SpellsParameters, SpellsOption, SpellsOptions, SpellsHeading}
use Rattle.pli_parse_statement.specs.StatementReading.{stopped, parenthesized, option_word, option_first, main_at, options_by, options_from, heading_at, named_end, ending_at}
use Rattle.pli_parse.proofs.StatementSpelledTools.{same_again}
use Rattle.pli_parse.proofs.StatementSpelledParts.{commas_again, stopped_again}
use Rattle.pli_parse_declaration.specs.declared.list.Separator.TheVariants.{Commas}

-- parameters, or none
parameters_again : (p : ℕ) (ts more : Tokens) (is : List Identifier) → SpellsParameters p ts is → NoOpen more
    → (o : Option (List Identifier)) × (or_none o ≡ is) × (if_open (list_at Commas identifier_at) p (ts ++ more) (rest_after is_open (ts ++ more)) ≡ read_as o (p + length ts) more)
parameters_again p ts more [] shape stops = (
  None,
  refl,
  ap (λ us. if_open (list_at Commas identifier_at) p (us ++ more) (rest_after is_open (us ++ more))) shape
      ∙ ap (λ o. if_open (list_at Commas identifier_at) p more o) stops
      ∙ placed None p (p + length ts) more (omega (arith, ap length shape)),
)
parameters_again p ts more (i ∷ is) (us, shape, spelled) stops = (
  Some (i ∷ is),
  refl,
  ap (λ vs. if_open (list_at Commas identifier_at) p (vs ++ more) (rest_after is_open (vs ++ more))) shape
      ∙ ap (λ o. if_open (list_at Commas identifier_at) p ((Sign OpenParenthesis ∷ us ++ Sign CloseParenthesis ∷ []) ++ more) o) (open_after ((us ++ Sign CloseParenthesis ∷ []) ++ more))
      ∙ ap (λ r. mapped Some r)
      (enclosed_again (list_at Commas identifier_at) (SpellsListed Commas SpellsIdentifier) (ListEnds Commas Anyhow)
      (commas_again identifier_at SpellsIdentifier Anyhow identifier_again (λ zs. tt) (λ q vs x s. omega (arith, ap length s.0))) (λ zs. (commas_close zs, tt)) p us more (i ∷ is) spelled)
      ∙ placed (Some (i ∷ is)) (p + length (Sign OpenParenthesis ∷ us ++ Sign CloseParenthesis ∷ [])) (p + length ts) more (ap (λ (vs : Tokens). p + length vs) (sym shape)),
)

no_option : (more : Tokens) → option_first (Sign Semicolon ∷ more) ≡ None
unfolding option_first
no_option more = refl

main_read : (p : ℕ) (more : Tokens) → main_at p (Sign OpenParenthesis ∷ Word (codes "MAIN") ∷ Sign CloseParenthesis ∷ more) ≡ read_as Main (p + 1 + 1 + 1) more
unfolding main_at parenthesized taken rest_after
main_read p more = refl

-- one option, and what more reads
one_option : (more : ℕ → Tokens → Result (Front (List ProcedureOption)) Fault) (p : ℕ) (o : ProcedureOption) (ts rest : Tokens) → SpellsOption ts o
    → options_by more p (ts ++ rest) (option_first (ts ++ rest)) ≡ mapped (λ xs. o ∷ xs) (more (p + length ts) rest)
unfolding option_first option_word
one_option more p Main ts rest shape =
    let place : p + 1 + 1 + 1 + 1 ≡ p + length ts = omega (arith, ap length shape) in
    ap (λ us. options_by more p (us ++ rest) (option_first (us ++ rest))) shape
    ∙ ap (λ r. r >>= λ x. mapped (λ xs. x.value ∷ xs) (more x.next x.rest)) (main_read (p + 1) rest)
    ∙ ap (λ q. mapped (λ xs. Main ∷ xs) (more q rest)) place
one_option more p (Returns attributes) ts rest (us, shape, spelled) =
    let place : p + 1 + length us ≡ p + length ts = omega (arith, ap length shape) in
    ap (λ vs. options_by more p (vs ++ rest) (option_first (vs ++ rest))) shape
    ∙ ap (λ r. r >>= λ x. mapped (λ xs. Returns x.value ∷ xs) (more x.next x.rest)) (returned_again (p + 1) us rest attributes spelled tt)
    ∙ ap (λ q. mapped (λ xs. Returns attributes ∷ xs) (more q rest)) place
one_option more p Recursive ts rest shape =
    let place : p + 1 ≡ p + length ts = omega (arith, ap length shape) in
    ap (λ us. options_by more p (us ++ rest) (option_first (us ++ rest))) shape
    ∙ ap (λ q. mapped (λ xs. Recursive ∷ xs) (more q rest)) place

-- an option begins with a word
option_word_first : (ts : Tokens) (o : ProcedureOption) → SpellsOption ts o → (n : Name) × (us : Tokens) × (ts ≡ Word n ∷ us)
option_word_first ts Main shape = (codes "OPTIONS", _, shape)
option_word_first ts (Returns attributes) (us, shape, spelled) = (codes "RETURNS", us, shape)
option_word_first ts Recursive shape = (codes "RECURSIVE", [], shape)

-- before a `;`
options_again : (os : List ProcedureOption) (bound p : ℕ) (ts more : Tokens) → SpellsOptions ts os → length (ts ++ Sign Semicolon ∷ more) < bound
    → options_from bound p (ts ++ Sign Semicolon ∷ more) ≡ read_as os (p + length ts) (Sign Semicolon ∷ more)
unfolding options_from
options_again os zero p ts more spelled small = absurd (omega arith)
options_again [] (suc bound) p ts more shape small =
    ap (λ us. options_from (suc bound) p (us ++ Sign Semicolon ∷ more)) shape ∙ ap (options_by (options_from bound) p (Sign Semicolon ∷ more)) (no_option more) ∙ placed [] p (p + length ts) (Sign Semicolon ∷ more) (omega (arith, ap length shape))
options_again (o ∷ os) (suc bound) p ts more (front, rest, shape, spelled, later) small =
    let tail : Tokens = Sign Semicolon ∷ more in
    let whole : ts ++ tail ≡ front ++ (rest ++ tail) = ap (λ us. us ++ tail) shape ∙ append_assoc front rest tail in
    let first = option_word_first front o spelled in
    let less : length (rest ++ tail) < bound = omega (arith, small, ap length whole, length-append front (rest ++ tail), ap length first.2) in
    ap (options_from (suc bound) p) whole
    ∙ one_option (options_from bound) p o front (rest ++ tail) spelled
    ∙ ap (mapped (λ xs. o ∷ xs)) (options_again os bound (p + length front) rest more later less)
    ∙ placed (o ∷ os) (p + length front + length rest) (p + length ts) tail (omega (arith, ap length shape, length-append front rest))

pub no_open_semicolon : (zs : Tokens) → NoOpen (Sign Semicolon ∷ zs)
unfolding rest_after
no_open_semicolon zs = refl

options_no_open : (os : List ProcedureOption) (ts more : Tokens) → SpellsOptions ts os → NoOpen (ts ++ Sign Semicolon ∷ more)
options_no_open [] ts more shape = subst (λ us. NoOpen (us ++ Sign Semicolon ∷ more)) (sym shape) (no_open_semicolon more)
options_no_open (o ∷ os) ts more (front, rest, shape, spelled, later) =
    let first = option_word_first front o spelled in
    subst (λ us. NoOpen (us ++ Sign Semicolon ∷ more)) (sym (shape ∙ ap (λ us. us ++ rest) first.2)) (no_open_word first.0 ((first.1 ++ rest) ++ Sign Semicolon ∷ more))

abbrev heading_with : Heading → List Identifier → List ProcedureOption → Heading
heading_with h is os = record { name = h.name; number = h.number; parameters = is; options = os }

-- with its `;`
pub heading_again : (p : ℕ) (ts more : Tokens) (h : Heading) → SpellsHeading p ts h → heading_at h.name h.number p (ts ++ Sign Semicolon ∷ more) ≡ read_as h (p + length ts + 1) more
unfolding heading_at
heading_again p ts more h (ps, os, shape, parameters, options) =
    let tail : Tokens = Sign Semicolon ∷ more in
    let whole : ts ++ tail ≡ ps ++ (os ++ tail) = ap (λ us. us ++ tail) shape ∙ append_assoc ps os tail in
    let read = parameters_again p ps (os ++ tail) h.parameters parameters (options_no_open h.options os more options) in
    ap (heading_at h.name h.number p) whole
    ∙ ap (λ r. r >>= λ x. options_from (length x.rest + 1) x.next x.rest >>= λ y. stopped (heading_with h (or_none x.value) y.value) y.next y.rest) read.2
    ∙ ap (λ (is : List Identifier). options_from (length (os ++ tail) + 1) (p + length ps) (os ++ tail) >>= λ y. stopped (heading_with h is y.value) y.next y.rest) read.1
    ∙ ap (λ r. r >>= λ y. stopped (heading_with h h.parameters y.value) y.next y.rest)
    (options_again h.options (length (os ++ tail) + 1) (p + length ps) os more options (omega arith))
    ∙ stopped_again h (p + length ps + length os) more
    ∙ placed h (p + length ps + length os + 1) (p + length ts + 1) more (omega (arith, ap length shape, length-append ps os))

pub end_alone : (label : Option Identifier) (p : ℕ) (more : Tokens) → ending_at label p (Sign Semicolon ∷ more) ≡ read_as tt (p + 1) more
unfolding ending_at
end_alone label p more = stopped_again tt p more

pub end_named : (l : Identifier) (p : ℕ) (more : Tokens) → ending_at (Some l) p (Word l.name ∷ Sign Semicolon ∷ more) ≡ read_as tt (p + 1 + 1) more
unfolding ending_at
end_named l p more = ap (λ b. named_end b p (Sign Semicolon ∷ more)) (same_again l.name) ∙ stopped_again tt (p + 1) more
