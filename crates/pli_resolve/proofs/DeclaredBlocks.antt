-- Blocks under the numbers of their regions, and what they declare under its numbers.
use Rattle.std.proofs.Common.{◌≡◌, ℕ, zero, suc, ◌+◌, ◌<◌, Bool, true, false, nat_lt, if◌then◌else◌, Option, Some, None, List, [], ◌∷◌, ◌++◌, length, get_or, slice_get, option_map, option_and_then, inl, inr, refl, sym, ap, ◌∙◌, subst, arith}
use Rattle.std.proofs.lemmas.Bool.{ltb-true, cases_lt}
use Rattle.std.proofs.lemmas.List.{get_or_append_left, get_or_push, length-append, length_push}
use Rattle.std.proofs.lemmas.Option.{slice_get-get_or, slice_get_within}
use Rattle.pli_base.specs.Name.{Name}
use Rattle.pli_base.specs.Statements.{ExternalProcedure}
use Rattle.pli_declare_outline.specs.Outlines.{Region}
use Rattle.pli_declare_outline.specs.declared.region.RegionKind.{RegionKind}
use Rattle.pli_declare_outline.specs.declared.region.RegionKind.TheVariants as regions
use Rattle.pli_declare_constructs.specs.Regions.{is_block, kind_at, outside, blocks_round}
use Rattle.pli_declare_constructs.proofs.BlocksAround.{beyond, blocks_step, blocks_past}
use Rattle.pli_declare.specs.Resolved.{resolved_of}
use Rattle.pli_declare.specs.Declarations.{Declaration}
use Rattle.pli_declare.specs.BlockNumbers.{block_begun, block_kind, begun_by, number_with, blocks_after, numbers_after}
use Rattle.pli_declare.specs.Symbols.{Symbol, SymbolFacts, Way, no_way, way_with, counted, ways_after, ways_of, symbol_of, symbols_of, block_under}
use Rattle.pli_declare.specs.ResolvedUnits.{resolved_unit_of, symbol_at, block_regions_of, numbers_of, outermost_number, facts_of, region_block, declared_by}
use Rattle.pli_declare.specs.declared.block_numbers.BlockRegion.{BlockRegion}
use Rattle.pli_declare.specs.declared.block_numbers.ResolvedBlockKind.{ResolvedBlockKind}
use Rattle.pli_declare.specs.declared.block_numbers.ResolvedBlockKind.TheVariants as kinds
use Rattle.pli_declare.specs.declared.symbol.SymbolKey.{SymbolKey}
use Rattle.pli_resolve.proofs.BlocksOfTrees.{among, after_those}
use Rattle.pli_resolve.proofs.SymbolsAt.{symbols_at, symbol_inside, symbol_outside}

-- lists with others after them
front : {A : Type 0} (xs ys : List A) (i : ℕ) (x : A) → slice_get xs i ≡ Some x → slice_get (xs ++ ys) i ≡ Some x
front [] ys i x h = cc
front (z ∷ xs) ys zero x h = h
front (z ∷ xs) ys (suc i) x h = front xs ys i x h

seam : {A : Type 0} (xs : List A) (y : A) (i : ℕ) → length xs ≡ i → slice_get (xs ++ y ∷ []) i ≡ Some y
seam [] y zero e = refl
seam [] y (suc i) e = absurd (omega (arith, e))
seam (x ∷ xs) y zero e = absurd (omega (arith, e))
seam (x ∷ xs) y (suc i) e = seam xs y i (omega (arith, e))

kept : (bs : List BlockRegion) (n : ℕ) (rs : List Region) (i : ℕ) (b : BlockRegion) → slice_get bs i ≡ Some b → slice_get (blocks_after bs n rs) i ≡ Some b
kept bs n rs i b h = ap (λ cs. slice_get cs i) (after_those bs n rs) ∙ front bs (among n rs) i b h

stays : (ns : List ℕ) (next : ℕ) (rs : List Region) (i : ℕ) → i < length ns → get_or (numbers_after ns next rs) i 0 ≡ get_or ns i 0
stays ns next [] i lt = refl
stays ns next (r ∷ rs) i lt =
    let x = number_with ns next r.outer (block_kind r.kind) in
    stays (ns ++ x ∷ []) (next + begun_by (block_kind r.kind)) rs i (omega (arith, lt, length_push ns x)) ∙ get_or_append_left ns (x ∷ []) 0 i lt

begun_length : (bs : List BlockRegion) (n next : ℕ) (r : Region) (k : Option ResolvedBlockKind) → length bs ≡ next → length (bs ++ block_begun n r k) ≡ next + begun_by k
begun_length bs n next r None e = omega (arith, e, length-append bs (block_begun n r None))
begun_length bs n next r (Some kind) e = omega (arith, e, length-append bs (block_begun n r (Some kind)))

-- a region that is a block has the number under which the block stands
numbered_block : (rs : List Region) (ns : List ℕ) (bs : List BlockRegion) (next n i m : ℕ) (kind : ResolvedBlockKind) → length ns ≡ n → length bs ≡ next → i < length rs → m ≡ n + i
    → block_kind (get_or rs i outside).kind ≡ Some kind
    → slice_get (blocks_after bs n rs) (get_or (numbers_after ns next rs) m 0) ≡ Some (record { region = m; kind = kind; outer = (get_or rs i outside).outer })
numbered_block [] ns bs next n i m kind l k lt e is = absurd (omega (arith, lt))
numbered_block (r ∷ rs) ns bs next n zero m kind l k lt e is =
    let here : n ≡ m = omega (arith, e) in
    let x = number_with ns next r.outer (block_kind r.kind) in
    let number : get_or (numbers_after ns next (r ∷ rs)) m 0 ≡ next =
    stays (ns ++ x ∷ []) (next + begun_by (block_kind r.kind)) rs m (omega (arith, l, here, length_push ns x))
    ∙ get_or_push ns x 0 m (l ∙ here) ∙ ap (number_with ns next r.outer) is in
    let block : BlockRegion = record { region = n; kind = kind; outer = r.outer } in
    ap (slice_get (blocks_after bs n (r ∷ rs))) number
    ∙ kept (bs ++ block_begun n r (block_kind r.kind)) (n + 1) rs next block
    (ap (λ o. slice_get (bs ++ block_begun n r o) next) is ∙ seam bs block next k)
    ∙ ap (λ j. Some (record { region = j; kind = kind; outer = r.outer })) here
numbered_block (r ∷ rs) ns bs next n (suc i) m kind l k lt e is =
    let x = number_with ns next r.outer (block_kind r.kind) in
    numbered_block rs (ns ++ x ∷ []) (bs ++ block_begun n r (block_kind r.kind)) (next + begun_by (block_kind r.kind)) (n + 1) i m kind
    (omega (arith, l, length_push ns x)) (begun_length bs n next r (block_kind r.kind) k) (omega (arith, lt)) (omega (arith, e)) is

kind_of_block : (k : RegionKind) → is_block k ≡ true → (kind : ResolvedBlockKind) × (block_kind k ≡ Some kind)
kind_of_block regions.Procedure h = (kinds.Procedure, refl)
kind_of_block regions.Begin h = (kinds.Begin, refl)
kind_of_block regions.Group h = cc
kind_of_block regions.OnUnit h = cc

-- the blocks round a place are regions that are blocks
abbrev pub AreBlocks : List Region → List ℕ → Type 0
AreBlocks rs [] = Unit {0}
AreBlocks rs (n ∷ ns) = (n < length rs) × (is_block (kind_at rs n) ≡ true) × AreBlocks rs ns

pub each_is : (rs : List Region) (ns : List ℕ) (i b : ℕ) → AreBlocks rs ns → slice_get ns i ≡ Some b → (b < length rs) × (is_block (kind_at rs b) ≡ true)
each_is rs [] i b h e = cc
each_is rs (n ∷ ns) zero b h e =
    let same : n ≡ b = cc in
    (subst (λ k. k < length rs) same h.0, ap (λ k. is_block (kind_at rs k)) (sym same) ∙ h.1)
each_is rs (n ∷ ns) (suc i) b h e = each_is rs ns i b h.2 e

module _ (rs : List Region) (n : ℕ) (inner : (o : ℕ) → o < n → AreBlocks rs (blocks_round rs o)) where
  before_that : (o : ℕ) (b : Bool) → nat_lt o n ≡ b → AreBlocks rs (if b then blocks_round rs o else [])
  before_that o true e = inner o (ltb-true o n e)
  before_that o false e = tt

  beyond_that : (outer : Option ℕ) → AreBlocks rs (beyond rs n outer)
  beyond_that None = tt
  beyond_that (Some o) = before_that o (nat_lt o n) refl

  with_that : (b : Bool) → n < length rs → is_block (kind_at rs n) ≡ b → (ns : List ℕ) → AreBlocks rs ns → AreBlocks rs (if b then n ∷ ns else ns)
  with_that true lt e ns h = (lt, e, h)
  with_that false lt e ns h = h

  one_round : AreBlocks rs (blocks_round rs n)
  one_round = elim (cases_lt n (length rs)) [
    | inl lt ↦ subst (AreBlocks rs) (sym (blocks_step rs n lt ∙ same (is_block (kind_at rs n))))
        (with_that (is_block (kind_at rs n)) lt refl (beyond rs n (get_or rs n outside).outer) (beyond_that (get_or rs n outside).outer))
    | inr past ↦ subst (AreBlocks rs) (sym (blocks_past rs n past)) tt
  ]
    where
      same : (b : Bool) → (if b then n ∷ beyond rs n (get_or rs n outside).outer else beyond rs n (get_or rs n outside).outer)
          ≡ (if b then n ∷ beyond rs n (get_or rs n outside).outer else beyond rs n (get_or rs n outside).outer)
      same b = refl

round_below : (rs : List Region) (m n : ℕ) → n < m → AreBlocks rs (blocks_round rs n)
round_below rs zero n lt = absurd (omega (arith, lt))
round_below rs (suc m) n lt = one_round rs n (λ o less. round_below rs m o (omega (arith, lt, less)))

pub round_are_blocks : (rs : List Region) (n : ℕ) → AreBlocks rs (blocks_round rs n)
round_are_blocks rs n = round_below rs (suc n) n (omega arith)

-- symbols of what is declared
ways_length : (ws : List Way) (cs : List ℕ) (ds : List Declaration) → length (ways_after ws cs ds) ≡ length ws + length ds
ways_length ws cs [] = omega arith
ways_length ws cs (d ∷ ds) =
    let w = way_with ws cs d.owner in
    omega (arith, length_push ws w, ways_length (ws ++ w ∷ []) (counted cs d.owner ++ 0 ∷ []) ds)

-- a symbol of a declared name
abbrev pub HasSymbol : SymbolFacts → Declaration → Option Symbol → Type 0
HasSymbol f d found = (ps : List Name) × (w : Way) × (found ≡ Some (symbol_of f ps w d))

pub symbol_by : (f : SymbolFacts) (ps : List Name) (ds : List Declaration) (n : ℕ) (d : Declaration) → slice_get ds n ≡ Some d
    → slice_get (symbols_of f ps ds) n ≡ Some (symbol_of f ps (get_or (ways_of ds) n no_way) d)
symbol_by f ps ds n d h =
    let ws = ways_of ds in
    let within : n < length ws = omega (arith, ways_length [] [] ds, slice_get_within ds n d h) in
    symbols_at f ps ws ds n ∙ ap (λ o. option_and_then (λ w. option_map (symbol_of f ps w) (slice_get ds n)) o) (slice_get-get_or ws n no_way within)
    ∙ ap (option_map (symbol_of f ps (get_or ws n no_way))) h

pub symbol_among : (f : SymbolFacts) (ps : List Name) (ds : List Declaration) (n : ℕ) (d : Declaration) → slice_get ds n ≡ Some d → HasSymbol f d (slice_get (symbols_of f ps ds) n)
symbol_among f ps ds n d h = (ps, get_or (ways_of ds) n no_way, symbol_by f ps ds n d h)

-- the symbol under the key of a declared name
abbrev pub key_in : ExternalProcedure → (region : Option ℕ) → (number : ℕ) → SymbolKey
key_in u region number = record { block = block_under (numbers_of u) (outermost_number u) region; number = number }

abbrev pub IsRegion : List Region → Option ℕ → Type 0
IsRegion rs None = Unit {0}
IsRegion rs (Some b) = (b < length rs) × (is_block (kind_at rs b) ≡ true)

-- the block of a region that is one
pub block_there : (u : ExternalProcedure) (b number : ℕ) → IsRegion (resolved_of u).regions (Some b)
    → (kind : ResolvedBlockKind) × (slice_get (block_regions_of u) (key_in u (Some b) number).block ≡ Some (record { region = b; kind = kind; outer = (get_or (resolved_of u).regions b outside).outer }))
block_there u b number good =
    let rs = (resolved_of u).regions in
    let kind = kind_of_block (kind_at rs b) good.1 in
    (kind.0, numbered_block rs [] [] 0 0 b b kind.0 refl refl good.0 (omega arith) kind.1)

pub declared_symbol : (u : ExternalProcedure) (region : Option ℕ) (number : ℕ) (d : Declaration) → IsRegion (resolved_of u).regions region
    → slice_get (declared_by (resolved_of u) region) number ≡ Some d → HasSymbol (facts_of u) d (symbol_at (resolved_unit_of u) (key_in u region number))
declared_symbol u None number d good h =
    subst (HasSymbol (facts_of u) d) (sym (symbol_outside u (key_in u None number) refl)) (symbol_among (facts_of u) [] (resolved_of u).outermost number d h)
declared_symbol u (Some b) number d good h =
    let at = block_there u b number good in
    subst (HasSymbol (facts_of u) d) (sym (symbol_inside u (key_in u (Some b) number) _ at.1))
    (symbol_among (facts_of u) (region_block u b).parameters (region_block u b).declarations number d h)
