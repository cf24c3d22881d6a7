-- The parts of statements are read the same.
use Rattle.std.specs.Prelude.{◌≡◌, ℕ, zero, suc, ◌+◌, Bool, true, false, Option, Some, None, Result, Ok, Err, List, [], ◌∷◌, length, codes, refl, is_some}
use Rattle.std.proofs.Common.{ap, ◌∙◌}
use Rattle.std.proofs.Math.Path.{fun_ext}
use Rattle.std.specs.List.{list_any}
use Rattle.pli_base.specs.Name.{Name}
use Rattle.pli_base.specs.Words.{Tokens, same_name, is_word}
use Rattle.pli_base.specs.Results.{◌>>=◌}
use Rattle.pli_base.specs.Reading.{Front, expected, misfit, read_as, mapped, taken, or_none}
use Rattle.pli_base.specs.Syntax.{Expression, Reference}
use Rattle.pli_base.specs.declared.syntax.Identifier.{Identifier}
use Rattle.pli_base.specs.declared.code.Code.TheVariants.{NotAStatement, BadDo, BadCondition, BadOption}
use Rattle.pli_base.specs.declared.token.Fault.{Fault}
use Rattle.pli_base.specs.declared.token.Sign.TheVariants.{OpenParenthesis}
use Rattle.pli_base.specs.declared.token.Sign.TheVariants as signs
use Rattle.pli_base.specs.declared.token.TokenText.TheVariants.{Word, Decimal, Binary, Characters, Bits, Sign}
use Rattle.pli_base.specs.declared.statement.Condition.{Condition}
use Rattle.pli_base.specs.Statements.{ProcedureOption, Main, Returns, Recursive, Range, Repeat, Control, While, Iterate, Allocation, Body}
use Rattle.pli_base.specs.Statements as body
use Rattle.pli_parse_declaration.specs.DeclarationReading.{list_at, identifier_at}
use Rattle.pli_parse_declaration.specs.declared.list.Separator.TheVariants.{Commas}
use Rattle.pli_parse_statement.specs.StatementReading as old
use Rattle.pli_parse_statement.specs.StatementReading.{is_equals, paired, expression_in, reference_in, RangeWord}
use Rattle.pli_parse_statement.specs.StatementWords.{condition_of}
use Rattle.pli_grammar.specs.Readers as new
use Rattle.pli_grammar.specs.Readers.{◌>>=◌ as ◌then◌}
use Rattle.pli_grammar.specs.Readers.{fails, part_then, parts_from, Reader, token, optional, by_meaning, meaning_in}
use Rattle.pli_grammar.specs.StatementParts as parts
use Rattle.pli_grammar.specs.Declarations.{returned, described}
use Rattle.pli_grammar.proofs.ExpressionsAlike.{expression_read, reference_read, arguments_read}
use Rattle.pli_grammar.proofs.DeclarationsAlike.{returned_same}
use Rattle.pli_grammar.proofs.ReadersAlike.{grouped, after, both, alike, token_then, stopped_same, parenthesized_same, opened_same, list_of_same, optional_same, words_same, row, row_of_two}

-- conditions

pub condition_same : (p : ℕ) (ts : Tokens) → parts.condition p ts ≡ old.condition_at p ts
unfolding old.condition_at condition_of misfit
condition_same p [] = refl
condition_same p (Word n ∷ us) =
    let f : Option Condition → Result (Front Condition) Fault = λ o. by_meaning read_as (expected BadCondition) p (Word n ∷ us) (paired us o) in
    let g : Option Condition → Result (Front Condition) Fault = old.condition_from p us in
    row_of_two f g (same_name n (codes "FIXEDOVERFLOW")) (same_name n (codes "FOFL")) refl
    (row_of_two f g (same_name n (codes "ZERODIVIDE")) (same_name n (codes "ZDIV")) refl
    (row f g (same_name n (codes "AREA")) refl refl))
condition_same p (Decimal v d ∷ us) = refl
condition_same p (Binary v d ∷ us) = refl
condition_same p (Characters s ∷ us) = refl
condition_same p (Bits s ∷ us) = refl
condition_same p (Sign s ∷ us) = refl

module _ (levels : ℕ) where
  pub expression_same : (p : ℕ) (ts : Tokens) → parts.expression levels p ts ≡ expression_in levels p ts
  unfolding expression_in
  expression_same = expression_read levels

  pub reference_same : (p : ℕ) (ts : Tokens) → parts.reference levels p ts ≡ reference_in levels p ts
  unfolding reference_in
  reference_same = reference_read levels

  in_parentheses_same : {A : Type 0} {read was : Reader A} → ((p : ℕ) (ts : Tokens) → read p ts ≡ was p ts) → (p : ℕ) (ts : Tokens) → new.parenthesized read p ts ≡ old.parenthesized was p ts
  in_parentheses_same {read = read} same p ts = parenthesized_same read p ts ∙ ap (λ (r : Reader _). old.parenthesized r p ts) (alike same)

  after_word_read : (w : Name) (p : ℕ) (ts : Tokens) → optional (is_word w) (parts.expression levels) p ts ≡ old.optional_at w (expression_in levels) p ts
  after_word_read w p ts = optional_same w (parts.expression levels) p ts ∙ ap (λ (read : Reader Expression). old.optional_at w read p ts) (alike expression_same)

  pub assignment_same : (p : ℕ) (ts : Tokens) → parts.assignment levels p ts ≡ old.assignment_at levels p ts
  unfolding old.assignment_at
  assignment_same p ts = both (reference_same p ts) (λ target.
      token_then is_equals NotAStatement (λ equals. parts.expression levels then λ value. parts.stopped (body.Assign target.value equals value)) target.next target.rest
      ∙ after (taken is_equals NotAStatement target.next target.rest) _ _ (λ us.
      both (expression_same (target.next + 1) us) (λ value. stopped_same (body.Assign target.value target.next value.value) value.next value.rest)))

  range_word_same : (p : ℕ) (ts us : Tokens) (n : Name)
      → by_meaning (λ (read : Reader (Option Range)). read) (read_as None) p ts (paired us (meaning_in (parts.ranges levels) n))
      ≡ old.range_from levels p ts (paired us (old.range_word n))
  unfolding old.range_word
  range_word_same p ts us n =
      let f : Option (Reader (Option Range)) → Result (Front (Option Range)) Fault = λ o. by_meaning (λ (read : Reader (Option Range)). read) (read_as None) p ts (paired us o) in
      let g : Option RangeWord → Result (Front (Option Range)) Fault = λ o. old.range_from levels p ts (paired us o) in
      row f g (same_name n (codes "TO"))
      (both (expression_same (p + 1) us) (λ to. both (after_word_read (codes "BY") to.next to.rest) (λ by. refl)))
      (row f g (same_name n (codes "BY"))
      (both (expression_same (p + 1) us) (λ by. both (after_word_read (codes "TO") by.next by.rest) (λ to. refl)))
      (row f g (same_name n (codes "REPEAT")) (ap (mapped (λ next. Some (Repeat next))) (expression_same (p + 1) us)) refl))

  pub range_same : (p : ℕ) (ts : Tokens) → parts.range levels p ts ≡ old.range_at levels p ts
  unfolding old.range_at old.range_first
  range_same p ts =
      words_same (meaning_in (parts.ranges levels)) old.range_word (by_meaning (λ (read : Reader (Option Range)). read) (read_as None) p ts) (old.range_from levels p ts)
      refl (λ n us. range_word_same p ts us n) ts

  iteration_same : (p : ℕ) (ts : Tokens) → parts.iteration levels p ts ≡ old.control_from levels p ts old.Iterated
  iteration_same p ts = both (reference_same p ts) (λ variable.
      token_then is_equals BadDo (λ equals. parts.expression levels then λ first. parts.range levels then λ range.
      optional (is_word (codes "WHILE")) (new.parenthesized (parts.expression levels)) then λ condition.
      read_as (Some (Iterate variable.value equals first range condition))) variable.next variable.rest
      ∙ after (taken is_equals BadDo variable.next variable.rest) _ _ (λ us.
      both (expression_same (variable.next + 1) us) (λ first.
      both (range_same first.next first.rest) (λ range.
      both (optional_same (codes "WHILE") (new.parenthesized (parts.expression levels)) range.next range.rest
      ∙ ap (λ (read : Reader Expression). old.optional_at (codes "WHILE") read range.next range.rest) (alike (in_parentheses_same expression_same))) (λ condition. refl)))))

  pub control_same : (p : ℕ) (ts : Tokens) → parts.control levels p ts ≡ old.control_at levels p ts
  unfolding old.control_at old.specified
  control_same p [] = refl
  control_same p (Decimal v d ∷ us) = refl
  control_same p (Binary v d ∷ us) = refl
  control_same p (Characters s ∷ us) = refl
  control_same p (Bits s ∷ us) = refl
  control_same p (Sign s ∷ us) = refl
  control_same p (Word n ∷ []) = iteration_same p (Word n ∷ [])
  control_same p (Word n ∷ Word m ∷ us) = iteration_same p (Word n ∷ Word m ∷ us)
  control_same p (Word n ∷ Decimal v d ∷ us) = iteration_same p (Word n ∷ Decimal v d ∷ us)
  control_same p (Word n ∷ Binary v d ∷ us) = iteration_same p (Word n ∷ Binary v d ∷ us)
  control_same p (Word n ∷ Characters s ∷ us) = iteration_same p (Word n ∷ Characters s ∷ us)
  control_same p (Word n ∷ Bits s ∷ us) = iteration_same p (Word n ∷ Bits s ∷ us)
  control_same p (Word n ∷ Sign OpenParenthesis ∷ us) =
      row (λ (r : Result (Front (Option Control)) Fault). r) (old.control_from levels p (Word n ∷ Sign OpenParenthesis ∷ us)) (same_name n (codes "WHILE"))
      (ap (mapped (λ c. Some (While c))) (in_parentheses_same expression_same (p + 1) (Sign OpenParenthesis ∷ us)))
      (iteration_same p (Word n ∷ Sign OpenParenthesis ∷ us))
  control_same p (Word n ∷ Sign signs.Plus ∷ us) = iteration_same p (Word n ∷ Sign signs.Plus ∷ us)
  control_same p (Word n ∷ Sign signs.Minus ∷ us) = iteration_same p (Word n ∷ Sign signs.Minus ∷ us)
  control_same p (Word n ∷ Sign signs.Times ∷ us) = iteration_same p (Word n ∷ Sign signs.Times ∷ us)
  control_same p (Word n ∷ Sign signs.CloseParenthesis ∷ us) = iteration_same p (Word n ∷ Sign signs.CloseParenthesis ∷ us)
  control_same p (Word n ∷ Sign signs.Comma ∷ us) = iteration_same p (Word n ∷ Sign signs.Comma ∷ us)
  control_same p (Word n ∷ Sign signs.Period ∷ us) = iteration_same p (Word n ∷ Sign signs.Period ∷ us)
  control_same p (Word n ∷ Sign signs.Semicolon ∷ us) = iteration_same p (Word n ∷ Sign signs.Semicolon ∷ us)
  control_same p (Word n ∷ Sign signs.Colon ∷ us) = iteration_same p (Word n ∷ Sign signs.Colon ∷ us)
  control_same p (Word n ∷ Sign signs.Equals ∷ us) = iteration_same p (Word n ∷ Sign signs.Equals ∷ us)
  control_same p (Word n ∷ Sign signs.NotEqual ∷ us) = iteration_same p (Word n ∷ Sign signs.NotEqual ∷ us)
  control_same p (Word n ∷ Sign signs.Less ∷ us) = iteration_same p (Word n ∷ Sign signs.Less ∷ us)
  control_same p (Word n ∷ Sign signs.LessOrEqual ∷ us) = iteration_same p (Word n ∷ Sign signs.LessOrEqual ∷ us)
  control_same p (Word n ∷ Sign signs.Greater ∷ us) = iteration_same p (Word n ∷ Sign signs.Greater ∷ us)
  control_same p (Word n ∷ Sign signs.GreaterOrEqual ∷ us) = iteration_same p (Word n ∷ Sign signs.GreaterOrEqual ∷ us)
  control_same p (Word n ∷ Sign signs.And ∷ us) = iteration_same p (Word n ∷ Sign signs.And ∷ us)
  control_same p (Word n ∷ Sign signs.Or ∷ us) = iteration_same p (Word n ∷ Sign signs.Or ∷ us)
  control_same p (Word n ∷ Sign signs.Not ∷ us) = iteration_same p (Word n ∷ Sign signs.Not ∷ us)
  control_same p (Word n ∷ Sign signs.Percent ∷ us) = iteration_same p (Word n ∷ Sign signs.Percent ∷ us)
  control_same p (Word n ∷ Sign signs.Arrow ∷ us) = iteration_same p (Word n ∷ Sign signs.Arrow ∷ us)
  control_same p (Word n ∷ Sign signs.Concatenate ∷ us) = iteration_same p (Word n ∷ Sign signs.Concatenate ∷ us)

  -- ALLOCATE

  abbrev PlacesSame : ℕ → Type 0
  PlacesSame bound = (x : Allocation) (p : ℕ) (ts : Tokens) → parts_from (parts.places levels) BadOption bound x p ts ≡ old.places_from levels bound x p ts

  places_in : (bound : ℕ) → PlacesSame bound → (p : ℕ) (us ts : Tokens) (name : Identifier) (area target : Option Reference)
      → part_then (parts.unless (is_some area) (new.made (λ r. record { name = name; area = Some r; target = target }) (new.parenthesized (parts.reference levels)))) (fails BadOption p) (parts_from (parts.places levels) BadOption bound) (p + 1) us
      ≡ old.placed_by levels (old.places_from levels bound) (record { name = name; area = area; target = target }) p ts (Some (old.InWord, us)) area target
  places_in bound more p us ts name (Some a) target = refl
  places_in bound more p us ts name None target =
      grouped (new.parenthesized (parts.reference levels) (p + 1) us) _ _
      ∙ both (in_parentheses_same reference_same (p + 1) us) (λ r. more (record { name = name; area = Some r.value; target = target }) r.next r.rest)

  places_set : (bound : ℕ) → PlacesSame bound → (p : ℕ) (us ts : Tokens) (name : Identifier) (area target : Option Reference)
      → part_then (parts.unless (is_some target) (new.made (λ r. record { name = name; area = area; target = Some r }) (new.parenthesized (parts.reference levels)))) (fails BadOption p) (parts_from (parts.places levels) BadOption bound) (p + 1) us
      ≡ old.placed_by levels (old.places_from levels bound) (record { name = name; area = area; target = target }) p ts (Some (old.SetWord, us)) area target
  places_set bound more p us ts name area (Some a) = refl
  places_set bound more p us ts name area None =
      grouped (new.parenthesized (parts.reference levels) (p + 1) us) _ _
      ∙ both (in_parentheses_same reference_same (p + 1) us) (λ r. more (record { name = name; area = area; target = Some r.value }) r.next r.rest)

  pub places_same : (bound : ℕ) → PlacesSame bound
  unfolding parts_from old.places_from old.place_first old.place_word
  places_same zero x p ts = refl
  places_same (suc bound) x p ts =
      let read : Option (Reader Allocation) → Reader Allocation = λ part. part_then part (fails BadOption p) (parts_from (parts.places levels) BadOption bound) in
      let f : Option (Option (Reader Allocation) × Tokens) → Result (Front Allocation) Fault = by_meaning read (read_as x) p ts in
      let g : Option (old.PlaceWord × Tokens) → Result (Front Allocation) Fault = λ o. old.placed_by levels (old.places_from levels bound) x p ts o x.area x.target in
      words_same (meaning_in (parts.places levels x)) old.place_word f g refl (λ n us.
      let h : Option (Option (Reader Allocation)) → Result (Front Allocation) Fault = λ o. f (paired us o) in
      let k : Option old.PlaceWord → Result (Front Allocation) Fault = λ o. g (paired us o) in
      row h k (same_name n (codes "IN")) (places_in bound (places_same bound) p us ts x.name x.area x.target)
      (row h k (same_name n (codes "SET")) (places_set bound (places_same bound) p us ts x.name x.area x.target) refl)) ts

  pub allocation_same : (p : ℕ) (ts : Tokens) → parts.allocation levels p ts ≡ old.allocation_at levels p ts
  unfolding old.allocation_at
  allocation_same p ts = after (identifier_at p ts) _ _ (λ n. places_same 3 (record { name = n.value; area = None; target = None }) n.next n.rest)

  -- PUT

  abbrev put_body : Bool × List Expression → Body
  put_body x = body.Put x.0 x.1

  abbrev PutSame : ℕ → Type 0
  PutSame bound = (skip : Bool) (items : List Expression) (p : ℕ) (ts : Tokens)
      → new.made put_body (parts_from (parts.put_parts levels) BadOption bound (skip, items)) p ts ≡ old.put_from levels bound skip items p ts

  abbrev put_next : ℕ → ℕ → Option (Reader (Bool × List Expression)) → Reader Body
  put_next bound p part = new.made put_body (part_then part (fails BadOption p) (parts_from (parts.put_parts levels) BadOption bound))

  put_skip : (bound : ℕ) → PutSame bound → (p : ℕ) (us ts : Tokens) (skip : Bool) (items : List Expression)
      → put_next bound p (parts.unless skip (read_as (true, items))) (p + 1) us
      ≡ old.put_by levels (old.put_from levels bound) skip items p ts (Some (old.SkipWord, us))
  put_skip bound more p us ts true [] = refl
  put_skip bound more p us ts true (e ∷ es) = refl
  put_skip bound more p us ts false items = more true items (p + 1) us

  put_listed : (bound : ℕ) → PutSame bound → (skip : Bool) (r : Result (Front (List Expression)) Fault)
      → mapped put_body (mapped (λ items. (skip, items)) r >>= λ x. parts_from (parts.put_parts levels) BadOption bound x.value x.next x.rest)
      ≡ (r >>= λ x. old.put_from levels bound skip x.value x.next x.rest)
  put_listed bound more skip (Ok x) = more skip x.value x.next x.rest
  put_listed bound more skip (Err e) = refl

  items_same : (p : ℕ) (ts : Tokens) → new.parenthesized (new.list_of (parts.expression levels)) p ts ≡ old.parenthesized (list_at Commas (expression_in levels)) p ts
  items_same = in_parentheses_same (list_of_same expression_same)

  put_list : (bound : ℕ) → PutSame bound → (p : ℕ) (us ts : Tokens) (skip : Bool) (items : List Expression)
      → put_next bound p (parts.unless (list_any (λ item. true) items) (new.made (λ es. (skip, es)) (new.parenthesized (new.list_of (parts.expression levels))))) (p + 1) us
      ≡ old.put_by levels (old.put_from levels bound) skip items p ts (Some (old.ListWord, us))
  put_list bound more p us ts true (e ∷ es) = refl
  put_list bound more p us ts false (e ∷ es) = refl
  put_list bound more p us ts true [] =
      put_listed bound more true (new.parenthesized (new.list_of (parts.expression levels)) (p + 1) us)
      ∙ both (items_same (p + 1) us) (λ x. refl)
  put_list bound more p us ts false [] =
      put_listed bound more false (new.parenthesized (new.list_of (parts.expression levels)) (p + 1) us)
      ∙ both (items_same (p + 1) us) (λ x. refl)

  put_from_same : (bound : ℕ) → PutSame bound
  unfolding parts_from old.put_from old.put_first old.put_word
  put_from_same zero skip items p ts = refl
  put_from_same (suc bound) skip items p ts =
      let read : Option (Reader (Bool × List Expression)) → Reader (Bool × List Expression) = λ part. part_then part (fails BadOption p) (parts_from (parts.put_parts levels) BadOption bound) in
      let f : Option (Option (Reader (Bool × List Expression)) × Tokens) → Result (Front Body) Fault = λ o. mapped put_body (by_meaning read (read_as (skip, items)) p ts o) in
      let g : Option (old.PutWord × Tokens) → Result (Front Body) Fault = old.put_by levels (old.put_from levels bound) skip items p ts in
      words_same (meaning_in (parts.put_parts levels (skip, items))) old.put_word f g refl (λ n us.
      let h : Option (Option (Reader (Bool × List Expression))) → Result (Front Body) Fault = λ o. f (paired us o) in
      let k : Option old.PutWord → Result (Front Body) Fault = λ o. g (paired us o) in
      row h k (same_name n (codes "SKIP")) (put_skip bound (put_from_same bound) p us ts skip items)
      (row h k (same_name n (codes "LIST")) (put_list bound (put_from_same bound) p us ts skip items) refl)) ts

  pub put_same : (p : ℕ) (ts : Tokens) → parts.put levels p ts ≡ old.put_at levels p ts
  unfolding old.put_at old.put_first old.put_word
  put_same p ts =
      let f : Option (Option (Reader (Bool × List Expression)) × Tokens) → Result (Front Body) Fault = by_meaning (λ part q us. new.made put_body (parts_from (parts.put_parts levels) BadOption 3 (false, [])) p ts) (expected BadOption) p ts in
      let g : Option (old.PutWord × Tokens) → Result (Front Body) Fault = old.put_begun levels p ts in
      words_same (meaning_in (parts.put_parts levels (false, []))) old.put_word f g refl (λ n us.
      let h : Option (Option (Reader (Bool × List Expression))) → Result (Front Body) Fault = λ o. f (paired us o) in
      let k : Option old.PutWord → Result (Front Body) Fault = λ o. g (paired us o) in
      row h k (same_name n (codes "SKIP")) (put_from_same 3 false [] p ts)
      (row h k (same_name n (codes "LIST")) (put_from_same 3 false [] p ts) refl)) ts

  pub call_same : (p : ℕ) (ts : Tokens) → parts.call levels p ts ≡ old.call_at levels p ts
  unfolding old.call_at
  call_same p ts = after (identifier_at p ts) _ _ (λ name. both (arguments_read levels name.next name.rest) (λ x. refl))

-- headings

main_same : (p : ℕ) (ts : Tokens) → parts.main_option p ts ≡ old.main_at p ts
unfolding old.main_at
main_same p ts =
    parenthesized_same (token (is_word (codes "MAIN")) BadOption then λ _. read_as Main) p ts
    ∙ ap (λ (read : Reader ProcedureOption). old.parenthesized read p ts) (fun_ext (λ q. fun_ext (λ us. token_then (is_word (codes "MAIN")) BadOption (λ _. read_as Main) q us)))

pub options_same : (bound p : ℕ) (ts : Tokens) → parts.options_from bound p ts ≡ old.options_from bound p ts
unfolding parts.options_from old.options_from old.option_first old.option_word
options_same zero p ts = refl
options_same (suc bound) p ts =
    let read : Reader ProcedureOption → Reader (List ProcedureOption) = λ read. read then λ option. new.made (λ others. option ∷ others) (parts.options_from bound) in
    let f : Option (Reader ProcedureOption × Tokens) → Result (Front (List ProcedureOption)) Fault = by_meaning read (read_as []) p ts in
    let g : Option (old.OptionWord × Tokens) → Result (Front (List ProcedureOption)) Fault = old.options_by (old.options_from bound) p ts in
    words_same (meaning_in parts.options) old.option_word f g refl (λ n us.
    let h : Option (Reader ProcedureOption) → Result (Front (List ProcedureOption)) Fault = λ o. f (paired us o) in
    let k : Option old.OptionWord → Result (Front (List ProcedureOption)) Fault = λ o. g (paired us o) in
    row h k (same_name n (codes "OPTIONS")) (both (main_same (p + 1) us) (λ x. ap (mapped (λ xs. x.value ∷ xs)) (options_same bound x.next x.rest)))
    (row h k (same_name n (codes "RETURNS")) (grouped (returned described (p + 1) us) _ _ ∙ both (returned_same (p + 1) us) (λ x. ap (mapped (λ xs. Returns x.value ∷ xs)) (options_same bound x.next x.rest)))
    (row h k (same_name n (codes "RECURSIVE")) (ap (mapped (λ xs. Recursive ∷ xs)) (options_same bound (p + 1) us)) refl))) ts

pub heading_same : (name : Identifier) (number p : ℕ) (ts : Tokens) → parts.heading name number p ts ≡ old.heading_at name number p ts
unfolding old.heading_at
heading_same name number p ts = both (opened_same (list_of_same {one = identifier_at} {was = identifier_at} (λ q us. refl)) p ts) (λ parameters.
    both (options_same (length parameters.rest + 1) parameters.next parameters.rest) (λ options.
    stopped_same (record { name = name; number = number; parameters = or_none parameters.value; options = options.value }) options.next options.rest))
