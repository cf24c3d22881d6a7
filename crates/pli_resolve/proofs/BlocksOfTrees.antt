-- The blocks of a resolved unit are those of its tree.
use Rattle.std.proofs.Common.{◌≡◌, ℕ, zero, suc, ◌+◌, ◌<◌, Option, Some, None, option_map, List, [], ◌∷◌, ◌++◌, map, length, get_or, refl, sym, ap, ◌∙◌, subst, inl, inr, append_assoc, append-nil, length-append, arith}
use Rattle.std.specs.List.{flat_map}
use Rattle.std.proofs.lemmas.Bool.{cases_lt}
use Rattle.std.proofs.lemmas.List.{get_or_past, length-map}
use Rattle.pli_base.specs.Name.{Name}
use Rattle.pli_base.specs.Statements.{Heading, Statement, Numbered, Body, Procedure, Begin, Do, If, On, Statements, Ended, Before, Alternative, NoElse, Else, ExternalProcedure}
use Rattle.pli_declare_outline.specs.Outlines.{Region, Mark, Declared, Labelled, Entered, Used, Jumped, PlacedMark, outline_of, regions_in, regions_of, regions_among, regions_else, statement_regions, body_regions, statements_regions, alternative_regions}
use Rattle.pli_declare.specs.Resolved as declare
use Rattle.pli_declare.specs.Resolved.{resolved_of, block_at}
use Rattle.pli_declare.specs.Resolution.{headed}
use Rattle.pli_declare.proofs.ListsByNumber.{made_at, made_length}
use Rattle.pli_declare.proofs.ParametersOfBlocks.{gathered, headed_here, headed_elsewhere}
use Rattle.pli_declare.specs.BlockNumbers.{block_begun, block_kind, blocks_after, numbers_after}
use Rattle.pli_declare_outline.specs.StatementPlaces.{statement_starts, body_starts, statements_starts, alternative_starts, unit_starts}
use Rattle.pli_declare.specs.Symbols.{number_declared}
use Rattle.pli_declare.specs.ResolvedUnits.{block_of, block_regions_of, numbers_of, region_block, no_block}
use Rattle.pli_declare.specs.TreeBlocks.{TreeBlock, inner_block, blocks_in, blocks_of, blocks_among, blocks_in_else, statement_blocks, body_blocks, statements_blocks, alternative_blocks}
use Rattle.pli_resolve.specs.laws.BlockLaws.{in_tree, BlocksAreOfTheTree}
use Rattle.pli_declare.specs.declared.block_numbers.BlockRegion.{BlockRegion}
use Rattle.pli_declare.specs.declared.block_numbers.ResolvedBlockKind.{ResolvedBlockKind}
use Rattle.pli_declare.specs.declared.block_numbers.ResolvedBlockKind.TheVariants as kinds
use Rattle.pli_resolve.proofs.EnteredRegions.{entered, entered_in, headed_from, entered_among}
use Rattle.pli_resolve.proofs.RegionWalks.{statement_numbers, body_numbers, statements_numbers, alternative_numbers, statement_headings, body_headings, statements_headings, alternative_headings, list_regions_counted, starts_counted, headings_counted, list_headings_counted, numbers_counted, numbered_list}

-- how many blocks there are
mutual
  pub blocks_counted : (s : Statement) (outer next : ℕ) → length (statement_blocks outer next s) ≡ blocks_in s
  blocks_counted (Numbered number label at body) outer next = body_blocks_counted body outer next number

  pub body_blocks_counted : (b : Body) (outer next number : ℕ) → length (body_blocks outer next number b) ≡ blocks_of b
  body_blocks_counted (Procedure heading statements end) outer next number = ap suc (list_blocks_counted statements next (suc next))
  body_blocks_counted (Begin statements end) outer next number = ap suc (list_blocks_counted statements next (suc next))
  body_blocks_counted (Do control statements end) outer next number = list_blocks_counted statements outer next
  body_blocks_counted (If condition consequence alternative) outer next number =
      omega (
        arith,
        length-append (statement_blocks outer next consequence) (alternative_blocks outer (next + blocks_in consequence) alternative),
        blocks_counted consequence outer next,
        else_blocks_counted alternative outer (next + blocks_in consequence),
      )
  body_blocks_counted (On condition unit) outer next number = ap suc (blocks_counted unit next (suc next))
  body_blocks_counted other outer next number = refl

  pub list_blocks_counted : (ss : Statements) (outer next : ℕ) → length (statements_blocks outer next ss) ≡ blocks_among ss
  list_blocks_counted Ended outer next = refl
  list_blocks_counted (Before first more) outer next =
      omega (
        arith,
        length-append (statement_blocks outer next first) (statements_blocks outer (next + blocks_in first) more),
        blocks_counted first outer next,
        list_blocks_counted more outer (next + blocks_in first),
      )

  pub else_blocks_counted : (a : Alternative) (outer next : ℕ) → length (alternative_blocks outer next a) ≡ blocks_in_else a
  else_blocks_counted NoElse outer next = refl
  else_blocks_counted (Else statement) outer next = blocks_counted statement outer next

-- the values of a function from a number on
abbrev Stand : {A : Type 0} → (f : ℕ → A) → (first : ℕ) → List A → Type 0
Stand f n [] = Unit {0}
Stand f n (x ∷ xs) = (f n ≡ x) × Stand f (n + 1) xs

left : {A : Type 0} (f : ℕ → A) (n : ℕ) (xs ys : List A) → Stand f n (xs ++ ys) → Stand f n xs
left f n [] ys h = tt
left f n (x ∷ xs) ys h = (h.0, left f (n + 1) xs ys h.1)

right : {A : Type 0} (f : ℕ → A) (n k : ℕ) (xs ys : List A) → n + length xs ≡ k → Stand f n (xs ++ ys) → Stand f k ys
right f n k [] ys e h = let same : n ≡ k = omega (arith, e) in subst (λ m. Stand f m ys) same h
right f n k (x ∷ xs) ys e h = right f (n + 1) k xs ys (omega (arith, e)) h.1

later : {A : Type 0} (d y : A) (ys : List A) (n : ℕ) (xs : List A) → Stand (λ i. get_or ys i d) n xs → Stand (λ i. get_or (y ∷ ys) i d) (n + 1) xs
later d y ys n [] h = tt
later d y ys n (x ∷ xs) h =
    let more : n + 1 ≡ suc n = omega arith in
    (ap (λ k. get_or (y ∷ ys) k d) more ∙ h.0, later d y ys (n + 1) xs h.1)

whole : {A : Type 0} (d : A) (xs : List A) → Stand (λ i. get_or xs i d) 0 xs
whole d [] = tt
whole d (x ∷ xs) = (refl, later d x xs 0 xs (whole d xs))

-- blocks among regions, without those before
abbrev pub among : (number : ℕ) → List Region → List BlockRegion
among n [] = []
among n (r ∷ rs) = block_begun n r (block_kind r.kind) ++ among (n + 1) rs

pub after_those : (bs : List BlockRegion) (n : ℕ) (rs : List Region) → blocks_after bs n rs ≡ bs ++ among n rs
after_those bs n [] = sym (append-nil bs)
after_those bs n (r ∷ rs) =
    after_those (bs ++ block_begun n r (block_kind r.kind)) (n + 1) rs ∙ append_assoc bs (block_begun n r (block_kind r.kind)) (among (n + 1) rs)

-- how many parameters a heading has
abbrev count_of : Option Heading → ℕ
count_of None = 0
count_of (Some heading) = length heading.parameters

module _ (numbers starts : ℕ → ℕ) (headings : ℕ → Option Heading) where
  abbrev seen : BlockRegion → TreeBlock
  seen b = record { kind = b.kind; outer = option_map numbers b.outer; statement = starts b.region; parameters = count_of (headings b.region) }

  abbrev told : (number : ℕ) → List Region → List TreeBlock
  told n rs = map seen (among n rs)

  one : (kind : ResolvedBlockKind) (here next outer number : ℕ) (heading : Option Heading) (xs ys : List TreeBlock)
      → numbers here ≡ outer → starts next ≡ number → headings next ≡ heading → xs ≡ ys
      → inner_block kind (numbers here) (starts next) (count_of (headings next)) ∷ xs ≡ inner_block kind outer number (count_of heading) ∷ ys
  one kind here next outer number heading xs ys o s h e =
      ap (λ x. inner_block kind x (starts next) (count_of (headings next)) ∷ xs) o
      ∙ ap (λ x. inner_block kind outer x (count_of (headings next)) ∷ xs) s
      ∙ ap (λ x. inner_block kind outer number (count_of x) ∷ xs) h
      ∙ ap (λ zs. inner_block kind outer number (count_of heading) ∷ zs) e

  joined : (n m k : ℕ) (inner : List TreeBlock) (xs : List TreeBlock) (rest : List Region) → n + m ≡ k
      → xs ≡ inner ++ told (n + m) rest → xs ≡ inner ++ told k rest
  joined n m k inner xs rest e h = h ∙ ap (λ i. inner ++ told i rest) e

  in_parts : (n m k : ℕ) (bs cs : List TreeBlock) (rs ss rest : List Region)
      → told n (rs ++ (ss ++ rest)) ≡ bs ++ told m (ss ++ rest) → told m (ss ++ rest) ≡ cs ++ told k rest
      → told n ((rs ++ ss) ++ rest) ≡ (bs ++ cs) ++ told k rest
  in_parts n m k bs cs rs ss rest first second =
      ap (told n) (append_assoc rs ss rest) ∙ first ∙ ap (λ xs. bs ++ xs) second ∙ sym (append_assoc bs cs (told k rest))

  nothing : (n : ℕ) (rest : List Region) → told n rest ≡ told (n + 0) rest
  nothing n rest = let same : n ≡ n + 0 = omega arith in ap (λ k. told k rest) same

  mutual
    shown : (s : Statement) (here next outer block : ℕ) (rest : List Region) → numbers here ≡ outer
        → Stand numbers next (statement_numbers outer block s) → Stand starts next (statement_starts s) → Stand headings next (statement_headings s)
        → told next (statement_regions here next s ++ rest) ≡ statement_blocks outer block s ++ told (next + regions_in s) rest
    shown (Numbered number label at body) here next outer block rest o ns ss hs = shown_body body here next outer block number rest o ns ss hs

    shown_body : (b : Body) (here next outer block number : ℕ) (rest : List Region) → numbers here ≡ outer
        → Stand numbers next (body_numbers outer block b) → Stand starts next (body_starts number b) → Stand headings next (body_headings b)
        → told next (body_regions here next b ++ rest) ≡ body_blocks outer block number b ++ told (next + regions_of b) rest
    shown_body (Procedure heading statements end) here next outer block number rest o ns ss hs =
        one kinds.Procedure here next outer number (Some heading) _ _ o ss.0 hs.0
        (joined (next + 1) (regions_among statements) (next + (1 + regions_among statements)) (statements_blocks block (suc block) statements) _ rest (omega arith)
        (shown_list statements next (next + 1) block (suc block) rest ns.0 ns.1 ss.1 hs.1))
    shown_body (Begin statements end) here next outer block number rest o ns ss hs =
        one kinds.Begin here next outer number None _ _ o ss.0 hs.0
        (joined (next + 1) (regions_among statements) (next + (1 + regions_among statements)) (statements_blocks block (suc block) statements) _ rest (omega arith)
        (shown_list statements next (next + 1) block (suc block) rest ns.0 ns.1 ss.1 hs.1))
    shown_body (Do control statements end) here next outer block number rest o ns ss hs =
        joined (next + 1) (regions_among statements) (next + (1 + regions_among statements)) (statements_blocks outer block statements) _ rest (omega arith)
        (shown_list statements next (next + 1) outer block rest ns.0 ns.1 ss.1 hs.1)
    shown_body (If condition consequence alternative) here next outer block number rest o ns ss hs =
        let middle = next + regions_in consequence in
        let xs = statement_numbers outer block consequence in
        let ys = alternative_numbers outer (block + blocks_in consequence) alternative in
        let all : middle + regions_else alternative ≡ next + (regions_in consequence + regions_else alternative) = omega arith in
        in_parts next middle (next + (regions_in consequence + regions_else alternative)) (statement_blocks outer block consequence)
        (alternative_blocks outer (block + blocks_in consequence) alternative) (statement_regions here next consequence) (alternative_regions here middle alternative) rest
        (shown consequence here next outer block (alternative_regions here middle alternative ++ rest) o (left numbers next xs ys ns)
        (left starts next (statement_starts consequence) (alternative_starts alternative) ss)
        (left headings next (statement_headings consequence) (alternative_headings alternative) hs))
        (joined middle (regions_else alternative) (next + (regions_in consequence + regions_else alternative))
        (alternative_blocks outer (block + blocks_in consequence) alternative) _ rest all
        (shown_else alternative here middle outer (block + blocks_in consequence) rest o
        (right numbers next middle xs ys (omega (arith, numbers_counted consequence outer block)) ns)
        (right starts next middle (statement_starts consequence) (alternative_starts alternative) (omega (arith, starts_counted consequence)) ss)
        (right headings next middle (statement_headings consequence) (alternative_headings alternative) (omega (arith, headings_counted consequence)) hs)))
    shown_body (On condition unit) here next outer block number rest o ns ss hs =
        one kinds.OnUnit here next outer number None _ _ o ss.0 hs.0
        (joined (next + 1) (regions_in unit) (next + (1 + regions_in unit)) (statement_blocks block (suc block) unit) _ rest (omega arith)
        (shown unit next (next + 1) block (suc block) rest ns.0 ns.1 ss.1 hs.1))
    shown_body other here next outer block number rest o ns ss hs = nothing next rest

    shown_list : (list : Statements) (here next outer block : ℕ) (rest : List Region) → numbers here ≡ outer
        → Stand numbers next (statements_numbers outer block list) → Stand starts next (statements_starts list) → Stand headings next (statements_headings list)
        → told next (statements_regions here next list ++ rest) ≡ statements_blocks outer block list ++ told (next + regions_among list) rest
    shown_list Ended here next outer block rest o ns ss hs = nothing next rest
    shown_list (Before first more) here next outer block rest o ns ss hs =
        let middle = next + regions_in first in
        let xs = statement_numbers outer block first in
        let ys = statements_numbers outer (block + blocks_in first) more in
        let all : middle + regions_among more ≡ next + (regions_in first + regions_among more) = omega arith in
        in_parts next middle (next + (regions_in first + regions_among more)) (statement_blocks outer block first)
        (statements_blocks outer (block + blocks_in first) more) (statement_regions here next first) (statements_regions here middle more) rest
        (shown first here next outer block (statements_regions here middle more ++ rest) o (left numbers next xs ys ns)
        (left starts next (statement_starts first) (statements_starts more) ss)
        (left headings next (statement_headings first) (statements_headings more) hs))
        (joined middle (regions_among more) (next + (regions_in first + regions_among more)) (statements_blocks outer (block + blocks_in first) more) _ rest all
        (shown_list more here middle outer (block + blocks_in first) rest o
        (right numbers next middle xs ys (omega (arith, numbers_counted first outer block)) ns)
        (right starts next middle (statement_starts first) (statements_starts more) (omega (arith, starts_counted first)) ss)
        (right headings next middle (statement_headings first) (statements_headings more) (omega (arith, headings_counted first)) hs)))

    shown_else : (a : Alternative) (here next outer block : ℕ) (rest : List Region) → numbers here ≡ outer
        → Stand numbers next (alternative_numbers outer block a) → Stand starts next (alternative_starts a) → Stand headings next (alternative_headings a)
        → told next (alternative_regions here next a ++ rest) ≡ alternative_blocks outer block a ++ told (next + regions_else a) rest
    shown_else NoElse here next outer block rest o ns ss hs = nothing next rest
    shown_else (Else statement) here next outer block rest o ns ss hs = shown statement here next outer block rest o ns ss hs

-- the parameters of a region, by the procedures that marks enter
abbrev of_entered : (region : ℕ) → List (Heading × ℕ) → List Name
of_entered n hs = flat_map (λ h. headed n (Entered h.0 h.1)) hs

of_mark : (n : ℕ) (m : Mark) (ns : List Name) (hs : List (Heading × ℕ)) → ns ≡ of_entered n hs → headed n m ++ ns ≡ of_entered n (entered m ++ hs)
of_mark n (Entered heading region) ns hs e = ap (λ xs. headed n (Entered heading region) ++ xs) e
of_mark n (Declared items) ns hs e = e
of_mark n (Labelled label) ns hs e = e
of_mark n (Used names) ns hs e = e
of_mark n (Jumped label) ns hs e = e

gathered_by : (n : ℕ) (ps : List PlacedMark) → gathered ps n ≡ of_entered n (entered_in ps)
gathered_by n [] = refl
gathered_by n (p ∷ ps) = of_mark n p.mark (gathered ps n) (entered_in ps) (gathered_by n ps)

none_before : (n k : ℕ) (hs : List (Option Heading)) → n < k → of_entered n (headed_from k hs) ≡ []
none_before n k [] h = refl
none_before n k (Some heading ∷ hs) h =
    ap (λ ns. ns ++ of_entered n (headed_from (k + 1) hs)) (headed_elsewhere heading k n (λ e. omega (arith, h, e)))
    ∙ none_before n (k + 1) hs (omega (arith, h))
none_before n k (None ∷ hs) h = none_before n (k + 1) hs (omega (arith, h))

entered_there : (hs : List (Option Heading)) (n k i : ℕ) → n ≡ k + i → length (of_entered n (headed_from k hs)) ≡ count_of (get_or hs i None)
entered_there [] n k i e = refl
entered_there (Some heading ∷ hs) n k zero e =
    let same : k ≡ n = omega (arith, e) in
    ap (λ ns. length (headed n (Entered heading k) ++ ns)) (none_before n (k + 1) hs (omega (arith, e)))
    ∙ ap length (append-nil (headed n (Entered heading k))) ∙ ap (λ m. length (headed m (Entered heading k))) (sym same)
    ∙ ap length (headed_here heading k) ∙ length-map heading.parameters (λ i. i.name)
entered_there (Some heading ∷ hs) n k (suc i) e =
    ap (λ ns. length (ns ++ of_entered n (headed_from (k + 1) hs))) (headed_elsewhere heading k n (λ s. omega (arith, e, s)))
    ∙ entered_there hs n (k + 1) i (omega (arith, e))
entered_there (None ∷ hs) n k zero e = ap length (none_before n (k + 1) hs (omega (arith, e)))
entered_there (None ∷ hs) n k (suc i) e = entered_there hs n (k + 1) i (omega (arith, e))

-- of a unit
abbrev unit_headings : ExternalProcedure → List (Option Heading)
unit_headings u = Some u.heading ∷ statements_headings u.statements

abbrev inner_regions : ExternalProcedure → List Region
inner_regions u = statements_regions 0 1 u.statements

parameters_there : (u : ExternalProcedure) (n : ℕ) → length (region_block u n).parameters ≡ count_of (get_or (unit_headings u) n None)
unfolding resolved_of outline_of
parameters_there u n = elim (cases_lt n (length (outline_of u).regions)) [
  | inl inside ↦
      ap (λ (b : declare.BlockDeclarations). length b.parameters) (made_at (block_at (outline_of u)) (length (outline_of u).regions) n no_block inside)
      ∙ ap length (gathered_by n (outline_of u).marks)
      ∙ ap (λ hs. length (of_entered n ((u.heading, 0) ∷ hs))) (entered_among u.statements 0 1)
      ∙ entered_there (unit_headings u) n 0 n (omega arith)
  | inr outside ↦
      ap (λ (b : declare.BlockDeclarations). length b.parameters)
      (get_or_past (resolved_of u).blocks n no_block (omega (arith, outside, made_length (block_at (outline_of u)) (length (outline_of u).regions))))
      ∙ ap count_of (sym (get_or_past (unit_headings u) n None
      (omega (arith, outside, list_headings_counted u.statements, list_regions_counted u.statements 0 1))))
]

numbers_are : (u : ExternalProcedure) → numbers_of u ≡ 0 ∷ statements_numbers 0 1 u.statements
unfolding resolved_of outline_of
numbers_are u =
    ap (numbers_after (0 ∷ []) 1) (sym (append-nil (inner_regions u)))
    ∙ numbered_list u.statements 0 1 0 1 (0 ∷ []) [] (omega arith) refl refl

abbrev first_region : BlockRegion
first_region = record { region = 0; kind = kinds.Procedure; outer = None }

regions_are : (u : ExternalProcedure) → block_regions_of u ≡ first_region ∷ among 1 (inner_regions u)
unfolding resolved_of outline_of
regions_are u = after_those (first_region ∷ []) 1 (inner_regions u)

abbrev number_of_region : ExternalProcedure → ℕ → ℕ
number_of_region u n = get_or (numbers_of u) n 0

abbrev start_of_region : ExternalProcedure → ℕ → ℕ
start_of_region u n = get_or (unit_starts u) n 0

abbrev heading_of_region : ExternalProcedure → ℕ → Option Heading
heading_of_region u n = get_or (unit_headings u) n None

abbrev seen_in : ExternalProcedure → BlockRegion → TreeBlock
seen_in u = seen (number_of_region u) (start_of_region u) (heading_of_region u)

-- what a block shows
shows : (u : ExternalProcedure) (b : BlockRegion) → in_tree (block_of u b) ≡ seen_in u b
shows u b =
    ap (λ n. record {
      kind = b.kind;
      outer = option_map (number_of_region u) b.outer;
      statement = start_of_region u b.region;
      parameters = n;
    })
    (length-map (region_block u b.region).parameters (number_declared (region_block u b.region).declarations) ∙ parameters_there u b.region)

all_show : (u : ExternalProcedure) (bs : List BlockRegion) → map in_tree (map (block_of u) bs) ≡ map (seen_in u) bs
all_show u [] = refl
all_show u (b ∷ bs) = ap (λ x. x ∷ map in_tree (map (block_of u) bs)) (shows u b) ∙ ap (λ xs. seen_in u b ∷ xs) (all_show u bs)

inner_shown : (u : ExternalProcedure) → map (seen_in u) (among 1 (inner_regions u)) ≡ statements_blocks 0 1 u.statements
unfolding unit_starts
inner_shown u =
    let list = u.statements in
    let ns = statements_numbers 0 1 list in
    ap (λ rs. map (seen_in u) (among 1 rs)) (sym (append-nil (inner_regions u)))
    ∙ shown_list (number_of_region u) (start_of_region u) (heading_of_region u) list 0 1 0 1 []
    (ap (λ xs. get_or xs 0 0) (numbers_are u))
    (subst (λ xs. Stand (λ i. get_or xs i 0) 1 ns) (sym (numbers_are u)) (later 0 0 ns 0 ns (whole 0 ns)))
    (later 0 u.heading.number (statements_starts list) 0 (statements_starts list) (whole 0 (statements_starts list)))
    (later None (Some u.heading) (statements_headings list) 0 (statements_headings list) (whole None (statements_headings list)))
    ∙ append-nil (statements_blocks 0 1 list)

first_shown : (u : ExternalProcedure) → seen_in u first_region
    ≡ record { kind = kinds.Procedure; outer = None; statement = u.heading.number; parameters = length u.heading.parameters }
unfolding unit_starts
first_shown u = refl

pub blocks_of_the_tree : BlocksAreOfTheTree
blocks_of_the_tree u =
    all_show u (block_regions_of u) ∙ ap (map (seen_in u)) (regions_are u)
    ∙ ap (λ x. x ∷ map (seen_in u) (among 1 (inner_regions u))) (first_shown u)
    ∙ ap (λ xs. record { kind = kinds.Procedure; outer = None; statement = u.heading.number; parameters = length u.heading.parameters } ∷ xs) (inner_shown u)
