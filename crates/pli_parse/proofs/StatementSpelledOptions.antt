-- What is spelled so is read: the parts of ALLOCATE, PUT and CALL.
use Rattle.std.proofs.Common.{⊎_elim, ◌⊎◌, inl, inr, ◌≡◌, ◌+◌, ◌<◌, ◌≤◌, ℕ, suc, zero, Bool, true, false, List, [], ◌∷◌, ◌++◌, Option, Some, None, Result, Ok, option_map, length, codes, refl, ap, ◌∙◌, sym, arith, append_assoc, length-append}
use Rattle.std.proofs.lemmas.List.{append-nil}
use Rattle.pli_base.specs.Name.{Name}
use Rattle.pli_base.specs.Words.{Tokens, name_first}
use Rattle.pli_base.specs.Results.{◌>>=◌}
use Rattle.pli_base.specs.Reading.{Front, read_as}
use Rattle.pli_parse_expression.specs.declared.counted.Counted.{Counted}
use Rattle.pli_base.specs.Syntax.{Expression, Reference, Named, JoinedParts, Alone, Joined, Arguments}
use Rattle.pli_base.specs.declared.syntax.Identifier.{Identifier}
use Rattle.pli_base.specs.declared.syntax.Joining.{Joining}
use Rattle.pli_base.specs.declared.code.Code.TheVariants.{NameExpected}
use Rattle.pli_base.specs.declared.token.Fault.{Fault}
use Rattle.pli_base.specs.declared.token.Sign.TheVariants.{Comma, Semicolon}
use Rattle.pli_base.specs.declared.token.TokenText.TheVariants.{Word, Sign}
use Rattle.pli_parse_expression.specs.Expressions.{SpellsReferenceAlone, EndsReference}
use Rattle.pli_parse_expression.specs.Operators.{joining_at}
use Rattle.pli_parse_expression.specs.Reading as expressions
use Rattle.pli_parse_expression.specs.Reading.{counted, Reader, arguments_at, argument_of, joined_from, parts_after, part_after, reference_of, reference_at}
use Rattle.pli_parse_expression.proofs.SpelledIsRead.{reference_is_read}
use Rattle.pli_parse_expression.proofs.ReadingTools as tools
use Rattle.pli_parse_fault.proofs.StepLemmas as steps
use Rattle.pli_parse_declaration.specs.DeclarationReading.{list_at, identifier_at, name_at}
use Rattle.pli_parse_declaration.proofs.DeclarationReadAgain.{placed}
use Rattle.pli_base.specs.Statements.{Allocation, Body}
use Rattle.pli_base.specs.Statements as body
use Rattle.pli_parse_statement.specs.StatementGrammar.{SpellsOptional, SpellsEnclosed, SpellsPlaced, SpellsAllocation, SpellsSkip, SpellsItems, SpellsPut, SpellsCall}
use Rattle.pli_parse_statement.specs.StatementReading.{expression_in, reference_in, parenthesized, uncounted, PlaceWord, InWord, SetWord, place_first, placed_by, places_from, allocation_at, PutWord, SkipWord, ListWord, put_first, put_by, put_from, put_begun, put_at, call_at}
use Rattle.pli_parse.proofs.StatementSpelledParts.{enclosed_reference, expressions_again}
use Rattle.pli_parse.proofs.WordsFirst.{place_spelling, place_there, put_there}
use Rattle.pli_parse_declaration.specs.declared.list.Separator.TheVariants.{Commas}

abbrev InSpelled : (levels p : ℕ) → Tokens → Option Reference → Type 0
InSpelled levels = SpellsOptional (codes "IN") (SpellsEnclosed (SpellsReferenceAlone levels))

abbrev SetSpelled : (levels p : ℕ) → Tokens → Option Reference → Type 0
SetSpelled levels = SpellsOptional (codes "SET") (SpellsEnclosed (SpellsReferenceAlone levels))

abbrev allocated : Identifier → Option Reference → Option Reference → Allocation
allocated n area target = record { name = n; area = area; target = target }

-- no IN or SET comes
abbrev pub NoPlace : Tokens → Type 0
NoPlace more = place_first more ≡ None

module _ (levels : ℕ) (n : Identifier) where
  -- at the end
  none_placed : (bound p : ℕ) (area target : Option Reference) (more : Tokens) → NoPlace more → places_from levels (suc bound) (allocated n area target) p more ≡ read_as (allocated n area target) p more
  unfolding places_from
  none_placed bound p area target more none = ap (λ o. placed_by levels (places_from levels bound) (allocated n area target) p more o area target) none

  -- where no part stands
  nothing_placed : (bound p : ℕ) (x : Allocation) (ts more : Tokens) → ts ≡ []
      → (b : ℕ) × (bound ≤ b)
      × (places_from levels (suc bound) x p (ts ++ more) ≡ places_from levels b x (p + length ts) more)
  nothing_placed bound p x ts more shape =
      let place : p ≡ p + length ts = omega (arith, ap length shape) in
      let gone = ap (λ us. places_from levels (suc bound) x p (us ++ more)) shape in
      (suc bound, omega arith, gone ∙ ap (λ q. places_from levels (suc bound) x q more) place)

  -- where a part stands after its word
  part_placed : (bound p : ℕ) (w : PlaceWord) (x : Allocation) (made : Reference → Allocation) (r : Reference)
      (ts us more : Tokens) → ts ≡ Word (place_spelling w) ∷ us
      → SpellsEnclosed (SpellsReferenceAlone levels) (p + 1) us r
      → ((vs : Tokens) → places_from levels (suc bound) x p (Word (place_spelling w) ∷ vs)
      ≡ (parenthesized (reference_in levels) (p + 1) vs
      >>= λ y. places_from levels bound (made y.value) y.next y.rest))
      → (b : ℕ) × (bound ≤ b)
      × (places_from levels (suc bound) x p (ts ++ more) ≡ places_from levels b (made r) (p + length ts) more)
  part_placed bound p w x made r ts us more shape spelled step =
      let place : p + 1 + length us ≡ p + length ts = omega (arith, ap length shape) in (
        bound,
        omega arith,
        ap (λ vs. places_from levels (suc bound) x p (vs ++ more)) shape ∙ step (us ++ more)
            ∙ ap (λ o. o >>= λ y. places_from levels bound (made y.value) y.next y.rest)
            (enclosed_reference levels (p + 1) us more r spelled tt)
            ∙ ap (λ q. places_from levels bound (made r) q more) place,
      )

  -- where an IN part may stand
  in_placed : (bound p : ℕ) (area target : Option Reference) (ts more : Tokens) → InSpelled levels p ts area
      → (b : ℕ) × (bound ≤ b) × (places_from levels (suc bound) (allocated n None target) p (ts ++ more) ≡ places_from levels b (allocated n area target) (p + length ts) more)
  unfolding places_from
  in_placed bound p None target ts more shape = nothing_placed bound p (allocated n None target) ts more shape
  in_placed bound p (Some r) target ts more (us, shape, spelled) =
      part_placed bound p InWord (allocated n None target)
      (λ x. allocated n (Some x) target) r ts us more shape spelled
      (λ vs.
      ap (λ o. placed_by levels (places_from levels bound) (allocated n None target) p (Word (codes "IN") ∷ vs) o None target)
      (place_there InWord vs))

  -- where a SET part may stand
  set_placed : (bound p : ℕ) (area target : Option Reference) (ts more : Tokens) → SetSpelled levels p ts target
      → (b : ℕ) × (bound ≤ b) × (places_from levels (suc bound) (allocated n area None) p (ts ++ more) ≡ places_from levels b (allocated n area target) (p + length ts) more)
  unfolding places_from
  set_placed bound p area None ts more shape = nothing_placed bound p (allocated n area None) ts more shape
  set_placed bound p area (Some r) ts more (us, shape, spelled) =
      part_placed bound p SetWord (allocated n area None)
      (λ x. allocated n area (Some x)) r ts us more shape spelled
      (λ vs.
      ap (λ o. placed_by levels (places_from levels bound) (allocated n area None) p (Word (codes "SET") ∷ vs) o area None)
      (place_there SetWord vs))

  ends_placed : (bound p : ℕ) (area target : Option Reference) (more : Tokens) → 1 ≤ bound → NoPlace more → places_from levels bound (allocated n area target) p more ≡ read_as (allocated n area target) p more
  ends_placed zero p area target more some none = absurd (omega arith)
  ends_placed (suc bound) p area target more some none = none_placed bound p area target more none

  second_in : (bound p : ℕ) (area target : Option Reference) (ts more : Tokens) → 2 ≤ bound → InSpelled levels p ts area → NoPlace more → places_from levels bound (allocated n None target) p (ts ++ more) ≡ read_as (allocated n area target) (p + length ts) more
  second_in zero p area target ts more two spelled none = absurd (omega arith)
  second_in (suc bound) p area target ts more two spelled none = let i = in_placed bound p area target ts more spelled in i.2 ∙ ends_placed i.0 (p + length ts) area target more (omega (arith, i.1)) none

  second_set : (bound p : ℕ) (area target : Option Reference) (ts more : Tokens) → 2 ≤ bound → SetSpelled levels p ts target → NoPlace more → places_from levels bound (allocated n area None) p (ts ++ more) ≡ read_as (allocated n area target) (p + length ts) more
  second_set zero p area target ts more two spelled none = absurd (omega arith)
  second_set (suc bound) p area target ts more two spelled none = let i = set_placed bound p area target ts more spelled in i.2 ∙ ends_placed i.0 (p + length ts) area target more (omega (arith, i.1)) none

  places_again : (p : ℕ) (area target : Option Reference) (ts more : Tokens) → SpellsPlaced levels p ts area target → NoPlace more → places_from levels 3 (allocated n None None) p (ts ++ more) ≡ read_as (allocated n area target) (p + length ts) more
  places_again p area target ts more (front, rest, shape, either) none =
      let whole : ts ++ more ≡ front ++ (rest ++ more) = ap (λ us. us ++ more) shape ∙ append_assoc front rest more in
      let place : p + length front + length rest ≡ p + length ts = omega (arith, ap length shape, length-append front rest) in
      ap (places_from levels 3 (allocated n None None) p) whole
      ∙ ⊎_elim (λ (s : InSpelled levels p front area × SetSpelled levels (p + length front) rest target). let i = in_placed 2 p area None front (rest ++ more) s.0 in i.2 ∙ second_set i.0 (p + length front) area target rest more i.1 s.1 none)
      (λ (s : SetSpelled levels p front target × InSpelled levels (p + length front) rest area). let i = set_placed 2 p None target front (rest ++ more) s.0 in i.2 ∙ second_in i.0 (p + length front) area target rest more i.1 s.1 none) either
      ∙ placed (allocated n area target) (p + length front + length rest) (p + length ts) more place

pub no_place_comma : (zs : Tokens) → place_first (Sign Comma ∷ zs) ≡ None
unfolding place_first
no_place_comma zs = refl

pub no_place_semicolon : (zs : Tokens) → place_first (Sign Semicolon ∷ zs) ≡ None
unfolding place_first
no_place_semicolon zs = refl

identifier_there : (p : ℕ) (n : Name) (us : Tokens) → identifier_at p (Word n ∷ us) ≡ read_as (record { name = n; at = p }) (p + 1) us
unfolding identifier_at name_at name_first
identifier_there p n us = refl

pub allocation_again : (levels p : ℕ) (ts more : Tokens) (a : Allocation) → SpellsAllocation levels p ts a → NoPlace more → allocation_at levels p (ts ++ more) ≡ read_as a (p + length ts) more
unfolding allocation_at
allocation_again levels p ts more a (us, shape, at, spelled) none =
    ap (λ vs. allocation_at levels p (vs ++ more)) shape
    ∙ ap (λ r. r >>= λ n. places_from levels 3 (allocated n.value None None) n.next n.rest) (identifier_there p a.name.name (us ++ more))
    ∙ places_again levels (record { name = a.name.name; at = p }) (p + 1) a.area a.target us more spelled none
    ∙ ap (λ (q : ℕ). read_as (allocated (record { name = a.name.name; at = q }) a.area a.target) (p + 1 + length us) more) (sym at)
    ∙ placed a (p + 1 + length us) (p + length ts) more (omega (arith, ap length shape))

pub allocation_some : (levels p : ℕ) (ts : Tokens) (a : Allocation) → SpellsAllocation levels p ts a → 0 < length ts
allocation_some levels p ts a spelled = omega (arith, ap length spelled.1)

-- the arguments of CALL: a reference of one name has them too
joined_alone : (j : Joining) (n : Identifier) (a : Arguments) (m : JoinedParts) (count q : ℕ) (ts : Tokens) (y : Front (Counted JoinedParts))
    → ◌≡◌ {A = Result (Front (Counted JoinedParts)) Fault} (counted (Joined j n a m) count q ts) (Ok y) → y.value.tree ≡ Alone → ⊥
joined_alone j n a m count q ts y h alone = differs (ap (λ (z : Front (Counted JoinedParts)). z.value.tree) (steps.same_ok h) ∙ alone)
  where
    differs : Joined j n a m ≡ Alone → ⊥
    differs e = cc

joined_ends : (one : Option Reader) (bound count p : ℕ) (ts : Tokens) (y : Front (Counted JoinedParts)) → joined_from one (suc bound) count p ts ≡ Ok y → y.value.tree ≡ Alone → (y.next ≡ p) × (y.rest ≡ ts)
unfolding joined_from
joined_ends one bound count p ts y h alone = by (joining_at ts) h
  where
    by : (o : Option (Joining × Tokens)) → parts_after one (joined_from one bound) count p ts o ≡ Ok y → (y.next ≡ p) × (y.rest ≡ ts)
    by None g = let e = steps.same_ok g in (sym (ap (λ (z : Front (Counted JoinedParts)). z.next) e), sym (ap (λ (z : Front (Counted JoinedParts)). z.rest) e))
    by (Some x) g = part (name_first x.1) g
      where
        part : (o : Option (Name × Tokens)) → part_after one (joined_from one bound) x.0 count (p + 1) x.1 o ≡ Ok y → (y.next ≡ p) × (y.rest ≡ ts)
        part None g = absurd (tools.wanted_none NameExpected (p + 1) x.1 y g)
        part (Some n) g =
            let f = steps.bind_ok (arguments_at one count (p + 1 + 1) n.1) _ y g in
            let e = steps.bind_ok (joined_from one bound f.0.value.count f.0.next f.0.rest) _ y f.2 in
            absurd (joined_alone x.0 (record { name = n.0; at = p + 1 }) f.0.value.tree e.0.value.tree e.0.value.count e.0.next e.0.rest y e.2 alone)

named_same : (m n : Identifier) (a b : Arguments) (k l : JoinedParts) → Named m a k ≡ Named n b l → (a ≡ b) × (k ≡ l)
named_same m n a b k l h = (cc, cc)

-- the arguments of a reference of one name are read again
alone_again : (one : Option Reader) (p : ℕ) (n : Name) (name : Identifier) (ts more : Tokens) (a : Arguments) (q : ℕ)
    → reference_of one 0 p (Word n ∷ ts) ≡ counted (Named name a Alone) 0 q more
    → uncounted (arguments_at one 0 (p + 1) ts) ≡ read_as a q more
unfolding reference_of name_first
alone_again one p n name ts more a q h =
    let f = steps.bind_ok (arguments_at one 0 (p + 1) ts) _ _ h in
    let g = steps.bind_ok (joined_from one (length f.0.rest + 1) f.0.value.count f.0.next f.0.rest) _ _ f.2 in
    let e = steps.same_ok g.2 in
    let names = named_same (record { name = n; at = p }) name f.0.value.tree a g.0.value.tree Alone (ap (λ (z : Front (Counted Reference)). z.value.tree) e) in
    let bound : length f.0.rest + 1 ≡ suc (length f.0.rest) = omega arith in
    let ends = joined_ends one (length f.0.rest) f.0.value.count f.0.next f.0.rest g.0 (ap (λ b. joined_from one b f.0.value.count f.0.next f.0.rest) (sym bound) ∙ g.1) names.1 in
    let next : f.0.next ≡ q = sym ends.0 ∙ ap (λ (z : Front (Counted Reference)). z.next) e in
    let rest : f.0.rest ≡ more = sym ends.1 ∙ ap (λ (z : Front (Counted Reference)). z.rest) e in
    ap uncounted f.1
    ∙ ap (λ (v : Arguments). read_as v f.0.next f.0.rest) names.0
    ∙ ap (λ (m : ℕ). read_as a m f.0.rest) next
    ∙ ap (λ (us : Tokens). read_as a q us) rest

of_reference : (levels p : ℕ) (ts : Tokens) (r : Result (Front (Counted Reference)) Fault) → reference_at levels p ts ≡ r → reference_of (option_map (argument_of true) (expressions.inside levels)) 0 p ts ≡ r
unfolding reference_at
of_reference levels p ts r h = h

pub call_again : (levels p : ℕ) (ts more : Tokens) (name : Identifier) (a : Arguments) → SpellsCall levels p ts name a → EndsReference more
    → call_at levels p (ts ++ more) ≡ read_as (body.Call name a) (p + length ts) more
unfolding call_at
call_again levels p ts more name a (us, shape, at, spelled, fits) ends =
    let one : Option Reader = option_map (argument_of true) (expressions.inside levels) in
    let whole : Word name.name ∷ us ≡ Word name.name ∷ us ++ [] = ap (λ vs. Word name.name ∷ vs) (sym (append-nil us)) in
    let read = reference_is_read levels p (Word name.name ∷ us) more (Named name a Alone) ((us, [], whole, at, spelled, refl), (fits, tt)) ends in
    ap (λ vs. call_at levels p (vs ++ more)) shape
    ∙ ap (λ r. r >>= λ n. uncounted (arguments_at one 0 n.next n.rest) >>= λ x. read_as (body.Call n.value x.value) x.next x.rest) (identifier_there p name.name (us ++ more))
    ∙ ap (λ r. r >>= λ x. read_as (body.Call (record { name = name.name; at = p }) x.value) x.next x.rest) (alone_again one p name.name name (us ++ more) more a (p + length (Word name.name ∷ us)) (of_reference levels p (Word name.name ∷ (us ++ more)) _ read))
    ∙ ap (λ (q : ℕ). read_as (body.Call (record { name = name.name; at = q }) a) (p + length (Word name.name ∷ us)) more) (sym at)
    ∙ placed (body.Call name a) (p + length (Word name.name ∷ us)) (p + length ts) more (ap (λ (vs : Tokens). p + length vs) (sym shape))

-- SKIP and LIST
no_put : (more : Tokens) → put_first (Sign Semicolon ∷ more) ≡ None
unfolding put_first
no_put more = refl

list_step : (levels : ℕ) (more : Bool → List Expression → ℕ → Tokens → Result (Front Body) Fault) (skip : Bool) (p : ℕ) (ts us : Tokens)
    → put_by levels more skip [] p ts (Some (ListWord, us)) ≡ (parenthesized (list_at Commas (expression_in levels)) (p + 1) us >>= λ x. more skip x.value x.next x.rest)
list_step levels more true p ts us = refl
list_step levels more false p ts us = refl

module _ (levels : ℕ) where
  skip_put : (bound p : ℕ) (skip : Bool) (items : List Expression) (ts more : Tokens) → SpellsSkip ts skip
      → (b : ℕ) × (bound ≤ b) × (put_from levels (suc bound) false items p (ts ++ more) ≡ put_from levels b skip items (p + length ts) more)
  unfolding put_from
  skip_put bound p false items ts more shape =
      let place : p ≡ p + length ts = omega (arith, ap length shape) in
      (suc bound, omega arith, ap (λ us. put_from levels (suc bound) false items p (us ++ more)) shape ∙ ap (λ q. put_from levels (suc bound) false items q more) place)
  skip_put bound p true items ts more shape =
      let place : p + 1 ≡ p + length ts = omega (arith, ap length shape) in (
        bound,
        omega arith,
        ap (λ us. put_from levels (suc bound) false items p (us ++ more)) shape
            ∙ ap (λ o. put_by levels (put_from levels bound) false items p (Word (codes "SKIP") ∷ more) o) (put_there SkipWord more)
            ∙ ap (λ q. put_from levels bound true items q more) place,
      )

  items_put : (bound p : ℕ) (skip : Bool) (items : List Expression) (ts more : Tokens) → SpellsItems levels p ts items
      → (b : ℕ) × (bound ≤ b) × (put_from levels (suc bound) skip [] p (ts ++ more) ≡ put_from levels b skip items (p + length ts) more)
  unfolding put_from
  items_put bound p skip [] ts more shape =
      let place : p ≡ p + length ts = omega (arith, ap length shape) in
      (suc bound, omega arith, ap (λ us. put_from levels (suc bound) skip [] p (us ++ more)) shape ∙ ap (λ q. put_from levels (suc bound) skip [] q more) place)
  items_put bound p skip (e ∷ es) ts more (us, shape, spelled) =
      let place : p + 1 + length us ≡ p + length ts = omega (arith, ap length shape) in (
        bound,
        omega arith,
        ap (λ vs. put_from levels (suc bound) skip [] p (vs ++ more)) shape
            ∙ ap (λ o. put_by levels (put_from levels bound) skip [] p (Word (codes "LIST") ∷ (us ++ more)) o) (put_there ListWord (us ++ more))
            ∙ list_step levels (put_from levels bound) skip p (Word (codes "LIST") ∷ (us ++ more)) (us ++ more)
            ∙ ap (λ r. r >>= λ x. put_from levels bound skip x.value x.next x.rest) (expressions_again levels (p + 1) us more (e ∷ es) spelled tt)
            ∙ ap (λ q. put_from levels bound skip (e ∷ es) q more) place,
      )

  ends_put : (bound p : ℕ) (skip : Bool) (items : List Expression) (more : Tokens) → 1 ≤ bound → put_first more ≡ None → put_from levels bound skip items p more ≡ read_as (body.Put skip items) p more
  unfolding put_from
  ends_put zero p skip items more some none = absurd (omega arith)
  ends_put (suc bound) p skip items more some none = ap (λ o. put_by levels (put_from levels bound) skip items p more o) none

  second_skip : (bound p : ℕ) (skip : Bool) (items : List Expression) (ts more : Tokens) → 2 ≤ bound → SpellsSkip ts skip → put_first more ≡ None → put_from levels bound false items p (ts ++ more) ≡ read_as (body.Put skip items) (p + length ts) more
  second_skip zero p skip items ts more two spelled none = absurd (omega arith)
  second_skip (suc bound) p skip items ts more two spelled none = let i = skip_put bound p skip items ts more spelled in i.2 ∙ ends_put i.0 (p + length ts) skip items more (omega (arith, i.1)) none

  second_items : (bound p : ℕ) (skip : Bool) (items : List Expression) (ts more : Tokens) → 2 ≤ bound → SpellsItems levels p ts items → put_first more ≡ None → put_from levels bound skip [] p (ts ++ more) ≡ read_as (body.Put skip items) (p + length ts) more
  second_items zero p skip items ts more two spelled none = absurd (omega arith)
  second_items (suc bound) p skip items ts more two spelled none = let i = items_put bound p skip items ts more spelled in i.2 ∙ ends_put i.0 (p + length ts) skip items more (omega (arith, i.1)) none

  -- one of them stands there
  abbrev PutBegins : Tokens → Type 0
  PutBegins ts = (ts ≡ []) ⊎ ((w : PutWord) × (us : Tokens) × ((more : Tokens) → put_first (ts ++ more) ≡ Some (w, us ++ more)))

  skip_begins : (skip : Bool) (ts : Tokens) → SpellsSkip ts skip → PutBegins ts
  skip_begins false ts shape = inl shape
  skip_begins true ts shape = inr (SkipWord, [], λ more. ap (λ us. put_first (us ++ more)) shape ∙ put_there SkipWord more)

  items_begin : (p : ℕ) (items : List Expression) (ts : Tokens) → SpellsItems levels p ts items → PutBegins ts
  items_begin p [] ts shape = inl shape
  items_begin p (e ∷ es) ts spelled = inr (ListWord, spelled.0, λ more. ap (λ us. put_first (us ++ more)) spelled.1 ∙ put_there ListWord (spelled.0 ++ more))

  both_begin : (ts front rest : Tokens) → ts ≡ front ++ rest → (ts ≡ [] → ⊥) → PutBegins front → PutBegins rest → (more : Tokens) → (w : PutWord) × (us : Tokens) × (put_first (ts ++ more) ≡ Some (w, us))
  both_begin ts front rest shape some first second more =
      ⊎_elim
      (λ e. let whole : ts ≡ rest = shape ∙ ap (λ us. us ++ rest) e in
      ⊎_elim (λ f. absurd (some (whole ∙ f))) (λ s. (s.0, s.1 ++ more, ap (λ us. put_first (us ++ more)) whole ∙ s.2 more)) second)
      (λ s. (s.0, s.1 ++ (rest ++ more), ap put_first (ap (λ us. us ++ more) shape ∙ append_assoc front rest more) ∙ s.2 (rest ++ more))) first

  put_read : (p : ℕ) (skip : Bool) (items : List Expression) (ts more : Tokens) → SpellsPut levels p ts skip items → put_first more ≡ None → put_from levels 3 false [] p (ts ++ more) ≡ read_as (body.Put skip items) (p + length ts) more
  put_read p skip items ts more (front, rest, shape, some, either) none =
      let whole : ts ++ more ≡ front ++ (rest ++ more) = ap (λ us. us ++ more) shape ∙ append_assoc front rest more in
      let place : p + length front + length rest ≡ p + length ts = omega (arith, ap length shape, length-append front rest) in
      ap (put_from levels 3 false [] p) whole
      ∙ ⊎_elim (λ (s : SpellsSkip front skip × SpellsItems levels (p + length front) rest items). let i = skip_put 2 p skip [] front (rest ++ more) s.0 in i.2 ∙ second_items i.0 (p + length front) skip items rest more i.1 s.1 none)
      (λ (s : SpellsItems levels p front items × SpellsSkip rest skip). let i = items_put 2 p false items front (rest ++ more) s.0 in i.2 ∙ second_skip i.0 (p + length front) skip items rest more i.1 s.1 none) either
      ∙ placed (body.Put skip items) (p + length front + length rest) (p + length ts) more place

  -- before a `;`
  pub put_again : (p : ℕ) (skip : Bool) (items : List Expression) (ts more : Tokens) → SpellsPut levels p ts skip items → put_at levels p (ts ++ Sign Semicolon ∷ more) ≡ read_as (body.Put skip items) (p + length ts) (Sign Semicolon ∷ more)
  unfolding put_at
  put_again p skip items ts more spelled =
      let begins = ⊎_elim (λ (s : SpellsSkip spelled.0 skip × SpellsItems levels (p + length spelled.0) spelled.1 items). both_begin ts spelled.0 spelled.1 spelled.2 spelled.3 (skip_begins skip spelled.0 s.0) (items_begin (p + length spelled.0) items spelled.1 s.1) (Sign Semicolon ∷ more))
      (λ (s : SpellsItems levels p spelled.0 items × SpellsSkip spelled.1 skip). both_begin ts spelled.0 spelled.1 spelled.2 spelled.3 (items_begin p items spelled.0 s.0) (skip_begins skip spelled.1 s.1) (Sign Semicolon ∷ more)) spelled.4 in
      ap (put_begun levels p (ts ++ Sign Semicolon ∷ more)) begins.2 ∙ put_read p skip items ts (Sign Semicolon ∷ more) spelled (no_put more)
