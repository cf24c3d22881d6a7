-- Regions of a tree: how many they are, and the block that each is or stands in.
use Rattle.std.proofs.Common.{◌≡◌, ℕ, suc, ◌+◌, ◌<◌, Option, Some, None, List, [], ◌∷◌, ◌++◌, length, get_or, refl, sym, ap, ◌∙◌, append_assoc, append-nil, length-append, arith}
use Rattle.std.proofs.lemmas.List.{get_or_append_left, get_or_push, length_push}
use Rattle.pli_base.specs.Statements.{Heading, Statement, Numbered, Body, Procedure, Begin, Do, If, On, Statements, Ended, Before, Alternative, NoElse, Else}
use Rattle.pli_declare_outline.specs.Outlines.{Region, regions_in, regions_of, regions_among, regions_else, statement_regions, body_regions, statements_regions, alternative_regions}
use Rattle.pli_declare.specs.BlockNumbers.{numbers_after}
use Rattle.pli_declare_outline.specs.StatementPlaces.{statement_starts, body_starts, statements_starts, alternative_starts}
use Rattle.pli_declare.specs.TreeBlocks.{blocks_in, blocks_of, blocks_among, blocks_in_else}

-- the number of the block that each region is or stands in
abbrev mutual
  pub statement_numbers : (outer next : ℕ) → Statement → List ℕ
  statement_numbers outer next (Numbered number label at body) = body_numbers outer next body

  pub body_numbers : (outer next : ℕ) → Body → List ℕ
  body_numbers outer next (Procedure heading statements end) = next ∷ statements_numbers next (suc next) statements
  body_numbers outer next (Begin statements end) = next ∷ statements_numbers next (suc next) statements
  body_numbers outer next (Do control statements end) = outer ∷ statements_numbers outer next statements
  body_numbers outer next (If condition consequence alternative) =
      statement_numbers outer next consequence ++ alternative_numbers outer (next + blocks_in consequence) alternative
  body_numbers outer next (On condition unit) = next ∷ statement_numbers next (suc next) unit
  body_numbers outer next other = []

  pub statements_numbers : (outer next : ℕ) → Statements → List ℕ
  statements_numbers outer next Ended = []
  statements_numbers outer next (Before first more) =
      statement_numbers outer next first ++ statements_numbers outer (next + blocks_in first) more

  pub alternative_numbers : (outer next : ℕ) → Alternative → List ℕ
  alternative_numbers outer next NoElse = []
  alternative_numbers outer next (Else statement) = statement_numbers outer next statement

-- the heading of each region that is a procedure
abbrev mutual
  pub statement_headings : Statement → List (Option Heading)
  statement_headings (Numbered number label at body) = body_headings body

  pub body_headings : Body → List (Option Heading)
  body_headings (Procedure heading statements end) = Some heading ∷ statements_headings statements
  body_headings (Begin statements end) = None ∷ statements_headings statements
  body_headings (Do control statements end) = None ∷ statements_headings statements
  body_headings (If condition consequence alternative) = statement_headings consequence ++ alternative_headings alternative
  body_headings (On condition unit) = None ∷ statement_headings unit
  body_headings other = []

  pub statements_headings : Statements → List (Option Heading)
  statements_headings Ended = []
  statements_headings (Before first more) = statement_headings first ++ statements_headings more

  pub alternative_headings : Alternative → List (Option Heading)
  alternative_headings NoElse = []
  alternative_headings (Else statement) = statement_headings statement

-- one more, and two parts
one_more : (m n : ℕ) → m ≡ n → suc m ≡ 1 + n
one_more m n e = omega (arith, e)

both : {A : Type 0} (xs ys : List A) (m n : ℕ) → length xs ≡ m → length ys ≡ n → length (xs ++ ys) ≡ m + n
both xs ys m n e f = omega (arith, length-append xs ys, e, f)

mutual
  pub regions_counted : (s : Statement) (here next : ℕ) → length (statement_regions here next s) ≡ regions_in s
  regions_counted (Numbered number label at body) here next = body_regions_counted body here next

  body_regions_counted : (b : Body) (here next : ℕ) → length (body_regions here next b) ≡ regions_of b
  body_regions_counted (Procedure heading statements end) here next = one_more _ _ (list_regions_counted statements next (next + 1))
  body_regions_counted (Begin statements end) here next = one_more _ _ (list_regions_counted statements next (next + 1))
  body_regions_counted (Do control statements end) here next = one_more _ _ (list_regions_counted statements next (next + 1))
  body_regions_counted (If condition consequence alternative) here next =
      both (statement_regions here next consequence) (alternative_regions here (next + regions_in consequence) alternative) (regions_in consequence) (regions_else alternative)
      (regions_counted consequence here next) (else_regions_counted alternative here (next + regions_in consequence))
  body_regions_counted (On condition unit) here next = one_more _ _ (regions_counted unit next (next + 1))
  body_regions_counted other here next = refl

  pub list_regions_counted : (ss : Statements) (here next : ℕ) → length (statements_regions here next ss) ≡ regions_among ss
  list_regions_counted Ended here next = refl
  list_regions_counted (Before first more) here next =
      both (statement_regions here next first) (statements_regions here (next + regions_in first) more) (regions_in first) (regions_among more)
      (regions_counted first here next) (list_regions_counted more here (next + regions_in first))

  else_regions_counted : (a : Alternative) (here next : ℕ) → length (alternative_regions here next a) ≡ regions_else a
  else_regions_counted NoElse here next = refl
  else_regions_counted (Else statement) here next = regions_counted statement here next

mutual
  pub starts_counted : (s : Statement) → length (statement_starts s) ≡ regions_in s
  starts_counted (Numbered number label at body) = body_starts_counted number body

  body_starts_counted : (number : ℕ) (b : Body) → length (body_starts number b) ≡ regions_of b
  body_starts_counted number (Procedure heading statements end) = one_more _ _ (list_starts_counted statements)
  body_starts_counted number (Begin statements end) = one_more _ _ (list_starts_counted statements)
  body_starts_counted number (Do control statements end) = one_more _ _ (list_starts_counted statements)
  body_starts_counted number (If condition consequence alternative) =
      both (statement_starts consequence) (alternative_starts alternative) (regions_in consequence) (regions_else alternative)
      (starts_counted consequence) (else_starts_counted alternative)
  body_starts_counted number (On condition unit) = one_more _ _ (starts_counted unit)
  body_starts_counted number other = refl

  pub list_starts_counted : (ss : Statements) → length (statements_starts ss) ≡ regions_among ss
  list_starts_counted Ended = refl
  list_starts_counted (Before first more) =
      both (statement_starts first) (statements_starts more) (regions_in first) (regions_among more) (starts_counted first) (list_starts_counted more)

  else_starts_counted : (a : Alternative) → length (alternative_starts a) ≡ regions_else a
  else_starts_counted NoElse = refl
  else_starts_counted (Else statement) = starts_counted statement

mutual
  pub headings_counted : (s : Statement) → length (statement_headings s) ≡ regions_in s
  headings_counted (Numbered number label at body) = body_headings_counted body

  body_headings_counted : (b : Body) → length (body_headings b) ≡ regions_of b
  body_headings_counted (Procedure heading statements end) = one_more _ _ (list_headings_counted statements)
  body_headings_counted (Begin statements end) = one_more _ _ (list_headings_counted statements)
  body_headings_counted (Do control statements end) = one_more _ _ (list_headings_counted statements)
  body_headings_counted (If condition consequence alternative) =
      both (statement_headings consequence) (alternative_headings alternative) (regions_in consequence) (regions_else alternative)
      (headings_counted consequence) (else_headings_counted alternative)
  body_headings_counted (On condition unit) = one_more _ _ (headings_counted unit)
  body_headings_counted other = refl

  pub list_headings_counted : (ss : Statements) → length (statements_headings ss) ≡ regions_among ss
  list_headings_counted Ended = refl
  list_headings_counted (Before first more) =
      both (statement_headings first) (statements_headings more) (regions_in first) (regions_among more) (headings_counted first) (list_headings_counted more)

  else_headings_counted : (a : Alternative) → length (alternative_headings a) ≡ regions_else a
  else_headings_counted NoElse = refl
  else_headings_counted (Else statement) = headings_counted statement

mutual
  pub numbers_counted : (s : Statement) (outer block : ℕ) → length (statement_numbers outer block s) ≡ regions_in s
  numbers_counted (Numbered number label at body) outer block = body_numbers_counted body outer block

  body_numbers_counted : (b : Body) (outer block : ℕ) → length (body_numbers outer block b) ≡ regions_of b
  body_numbers_counted (Procedure heading statements end) outer block = one_more _ _ (list_numbers_counted statements block (suc block))
  body_numbers_counted (Begin statements end) outer block = one_more _ _ (list_numbers_counted statements block (suc block))
  body_numbers_counted (Do control statements end) outer block = one_more _ _ (list_numbers_counted statements outer block)
  body_numbers_counted (If condition consequence alternative) outer block =
      both (statement_numbers outer block consequence) (alternative_numbers outer (block + blocks_in consequence) alternative) (regions_in consequence) (regions_else alternative)
      (numbers_counted consequence outer block) (else_numbers_counted alternative outer (block + blocks_in consequence))
  body_numbers_counted (On condition unit) outer block = one_more _ _ (numbers_counted unit block (suc block))
  body_numbers_counted other outer block = refl

  pub list_numbers_counted : (ss : Statements) (outer block : ℕ) → length (statements_numbers outer block ss) ≡ regions_among ss
  list_numbers_counted Ended outer block = refl
  list_numbers_counted (Before first more) outer block =
      both (statement_numbers outer block first) (statements_numbers outer (block + blocks_in first) more) (regions_in first) (regions_among more)
      (numbers_counted first outer block) (list_numbers_counted more outer (block + blocks_in first))

  else_numbers_counted : (a : Alternative) (outer block : ℕ) → length (alternative_numbers outer block a) ≡ regions_else a
  else_numbers_counted NoElse outer block = refl
  else_numbers_counted (Else statement) outer block = numbers_counted statement outer block

-- the numbers of regions are those

-- a region that begins a block, and one that begins none
begun : (ns inner : List ℕ) (block count : ℕ) (rs rest : List Region)
    → numbers_after (ns ++ block ∷ []) (suc block) (rs ++ rest) ≡ numbers_after ((ns ++ block ∷ []) ++ inner) (suc block + count) rest
    → numbers_after (ns ++ block ∷ []) (block + 1) (rs ++ rest) ≡ numbers_after (ns ++ block ∷ inner) (block + suc count) rest
begun ns inner block count rs rest ih =
    let one : block + 1 ≡ suc block = omega arith in
    let all : suc block + count ≡ block + suc count = omega arith in
    ap (λ n. numbers_after (ns ++ block ∷ []) n (rs ++ rest)) one ∙ ih
    ∙ ap (λ ms. numbers_after ms (suc block + count) rest) (append_assoc ns (block ∷ []) inner)
    ∙ ap (λ n. numbers_after (ns ++ block ∷ inner) n rest) all

passed : (ns inner : List ℕ) (found outer block count : ℕ) (rs rest : List Region) → found ≡ outer
    → numbers_after (ns ++ outer ∷ []) block (rs ++ rest) ≡ numbers_after ((ns ++ outer ∷ []) ++ inner) (block + count) rest
    → numbers_after (ns ++ found ∷ []) (block + 0) (rs ++ rest) ≡ numbers_after (ns ++ outer ∷ inner) (block + count) rest
passed ns inner found outer block count rs rest e ih =
    let none : block + 0 ≡ block = omega arith in
    ap (λ n. numbers_after (ns ++ found ∷ []) n (rs ++ rest)) none ∙ ap (λ k. numbers_after (ns ++ k ∷ []) block (rs ++ rest)) e ∙ ih
    ∙ ap (λ ms. numbers_after ms (block + count) rest) (append_assoc ns (outer ∷ []) inner)

-- two parts, one after the other
after : (ns xs ys : List ℕ) (block m n : ℕ) (rs ss rest : List Region)
    → numbers_after ns block (rs ++ (ss ++ rest)) ≡ numbers_after (ns ++ xs) (block + m) (ss ++ rest)
    → numbers_after (ns ++ xs) (block + m) (ss ++ rest) ≡ numbers_after ((ns ++ xs) ++ ys) ((block + m) + n) rest
    → numbers_after ns block ((rs ++ ss) ++ rest) ≡ numbers_after (ns ++ (xs ++ ys)) (block + (m + n)) rest
after ns xs ys block m n rs ss rest first second =
    let all : (block + m) + n ≡ block + (m + n) = omega arith in
    ap (numbers_after ns block) (append_assoc rs ss rest) ∙ first ∙ second
    ∙ ap (λ ms. numbers_after ms ((block + m) + n) rest) (append_assoc ns xs ys)
    ∙ ap (λ k. numbers_after (ns ++ (xs ++ ys)) k rest) all

none_passed : (ns : List ℕ) (block : ℕ) (rest : List Region) → numbers_after ns block rest ≡ numbers_after (ns ++ []) (block + 0) rest
none_passed ns block rest =
    let same : block ≡ block + 0 = omega arith in
    ap (λ ms. numbers_after ms block rest) (sym (append-nil ns)) ∙ ap (λ k. numbers_after (ns ++ []) k rest) same

-- what is known after one more number
there : (ns : List ℕ) (x next : ℕ) → next ≡ length ns → get_or (ns ++ x ∷ []) next 0 ≡ x
there ns x next e = get_or_push ns x 0 next (sym e)

within : (ns : List ℕ) (x next : ℕ) → next ≡ length ns → next < length (ns ++ x ∷ [])
within ns x next e = omega (arith, e, length_push ns x)

counted : (ns : List ℕ) (x next : ℕ) → next ≡ length ns → next + 1 ≡ length (ns ++ x ∷ [])
counted ns x next e = omega (arith, e, length_push ns x)

mutual
  pub numbered : (s : Statement) (here next outer block : ℕ) (ns : List ℕ) (rest : List Region) → here < length ns → get_or ns here 0 ≡ outer → next ≡ length ns
      → numbers_after ns block (statement_regions here next s ++ rest) ≡ numbers_after (ns ++ statement_numbers outer block s) (block + blocks_in s) rest
  numbered (Numbered number label at body) here next outer block ns rest h o l = numbered_body body here next outer block ns rest h o l

  numbered_body : (b : Body) (here next outer block : ℕ) (ns : List ℕ) (rest : List Region) → here < length ns → get_or ns here 0 ≡ outer → next ≡ length ns
      → numbers_after ns block (body_regions here next b ++ rest) ≡ numbers_after (ns ++ body_numbers outer block b) (block + blocks_of b) rest
  numbered_body (Procedure heading statements end) here next outer block ns rest h o l =
      begun ns (statements_numbers block (suc block) statements) block (blocks_among statements) (statements_regions next (next + 1) statements) rest
      (numbered_list statements next (next + 1) block (suc block) (ns ++ block ∷ []) rest (within ns block next l) (there ns block next l) (counted ns block next l))
  numbered_body (Begin statements end) here next outer block ns rest h o l =
      begun ns (statements_numbers block (suc block) statements) block (blocks_among statements) (statements_regions next (next + 1) statements) rest
      (numbered_list statements next (next + 1) block (suc block) (ns ++ block ∷ []) rest (within ns block next l) (there ns block next l) (counted ns block next l))
  numbered_body (Do control statements end) here next outer block ns rest h o l =
      passed ns (statements_numbers outer block statements) (get_or ns here 0) outer block (blocks_among statements) (statements_regions next (next + 1) statements) rest o
      (numbered_list statements next (next + 1) outer block (ns ++ outer ∷ []) rest (within ns outer next l) (there ns outer next l) (counted ns outer next l))
  numbered_body (If condition consequence alternative) here next outer block ns rest h o l =
      let xs = statement_numbers outer block consequence in
      let middle = next + regions_in consequence in
      after ns xs (alternative_numbers outer (block + blocks_in consequence) alternative) block (blocks_in consequence) (blocks_in_else alternative)
      (statement_regions here next consequence) (alternative_regions here middle alternative) rest
      (numbered consequence here next outer block ns (alternative_regions here middle alternative ++ rest) h o l)
      (numbered_else alternative here middle outer (block + blocks_in consequence) (ns ++ xs) rest
      (omega (arith, h, length-append ns xs)) (get_or_append_left ns xs 0 here h ∙ o)
      (omega (arith, l, length-append ns xs, numbers_counted consequence outer block)))
  numbered_body (On condition unit) here next outer block ns rest h o l =
      begun ns (statement_numbers block (suc block) unit) block (blocks_in unit) (statement_regions next (next + 1) unit) rest
      (numbered unit next (next + 1) block (suc block) (ns ++ block ∷ []) rest (within ns block next l) (there ns block next l) (counted ns block next l))
  numbered_body other here next outer block ns rest h o l = none_passed ns block rest

  pub numbered_list : (ss : Statements) (here next outer block : ℕ) (ns : List ℕ) (rest : List Region) → here < length ns → get_or ns here 0 ≡ outer → next ≡ length ns
      → numbers_after ns block (statements_regions here next ss ++ rest) ≡ numbers_after (ns ++ statements_numbers outer block ss) (block + blocks_among ss) rest
  numbered_list Ended here next outer block ns rest h o l = none_passed ns block rest
  numbered_list (Before first more) here next outer block ns rest h o l =
      let xs = statement_numbers outer block first in
      let middle = next + regions_in first in
      after ns xs (statements_numbers outer (block + blocks_in first) more) block (blocks_in first) (blocks_among more)
      (statement_regions here next first) (statements_regions here middle more) rest
      (numbered first here next outer block ns (statements_regions here middle more ++ rest) h o l)
      (numbered_list more here middle outer (block + blocks_in first) (ns ++ xs) rest
      (omega (arith, h, length-append ns xs)) (get_or_append_left ns xs 0 here h ∙ o)
      (omega (arith, l, length-append ns xs, numbers_counted first outer block)))

  numbered_else : (a : Alternative) (here next outer block : ℕ) (ns : List ℕ) (rest : List Region) → here < length ns → get_or ns here 0 ≡ outer → next ≡ length ns
      → numbers_after ns block (alternative_regions here next a ++ rest) ≡ numbers_after (ns ++ alternative_numbers outer block a) (block + blocks_in_else a) rest
  numbered_else NoElse here next outer block ns rest h o l = none_passed ns block rest
  numbered_else (Else statement) here next outer block ns rest h o l = numbered statement here next outer block ns rest h o l
