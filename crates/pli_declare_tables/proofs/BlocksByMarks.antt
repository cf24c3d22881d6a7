-- What blocks declare, one mark after another.
use Rattle.std.proofs.Common.{◌≡◌, ◌≢◌, ℕ, suc, ◌+◌, ◌<◌, ◌==◌, Bool, true, false, List, [], ◌∷◌, ◌++◌, length, map, get_or, set, append-nil, Option, None, Some, IfSome, if◌then◌else◌, Vec, Global, refl, sym, ap, ◌∙◌, arith}
use Rattle.std.specs.Option.{unwrap_or}
use Rattle.std.proofs.lemmas.Bool.Decides.{nat_tests}
use Rattle.std.proofs.lemmas.List.{length-map, map-set, get_or-map, get_or-set_same, get_or-set_other}
use Rattle.pli_declare_outline.specs.Outlines.{Region, PlacedMark}
use Rattle.pli_declare_constructs.specs.Regions.{first_or_unit, block_of}
use Rattle.pli_declare.specs.Tables.{Entry, entries_of, entries_after, numbers_from}
use Rattle.pli_declare_tables.specs.views.TableView.{entries_view, blocks_view}
use Rattle.pli_declare_tables.specs.declared.entry.Entry as declared

-- more is declared in one block
pub put_back : (blocks : List (Vec declared.Entry Global)) (block : ℕ) (old new : Vec declared.Entry Global) (more : ℕ → List Entry) → block < length blocks
    → old ≡ get_or blocks block old → entries_view new.items ≡ entries_view old.items ++ more (length old.items)
    → blocks_view (set blocks block new) ≡ set (blocks_view blocks) block (get_or (blocks_view blocks) block [] ++ more (length (get_or (blocks_view blocks) block [])))
put_back blocks block old new more lt is made =
    let here : entries_view old.items ≡ get_or (blocks_view blocks) block [] =
    ap (λ (b : Vec declared.Entry Global). entries_view b.items) is ∙ sym (get_or-map (λ (b : Vec declared.Entry Global). entries_view b.items) blocks block old [] lt) in
    map-set (λ (b : Vec declared.Entry Global). entries_view b.items) blocks block new
    ∙ ap (set (blocks_view blocks) block)
    (made ∙ ap (λ n. entries_view old.items ++ more n) (sym (length-map old.items _)) ∙ ap (λ es. es ++ more (length es)) here)

-- the block in which a mark declares
pub block_is : (o : Option ℕ) → unwrap_or o 0 ≡ first_or_unit o
block_is None = refl
block_is (Some b) = refl

pub block_within : (o : Option ℕ) (n m : ℕ) → IfSome o (λ b. b < n) → n < m → unwrap_or o 0 < m
block_within None n m h lt = omega arith
block_within (Some b) n m h lt = omega (arith, h)

-- one more mark
pub mark_more : (regions : List Region) (blocks next : List (List Entry)) (p : PlacedMark) (ps : List PlacedMark) (block : ℕ) → block ≡ block_of regions p.region → block < length blocks
    → next ≡ set blocks block (get_or blocks block [] ++ entries_of (length (get_or blocks block [])) p.region p.mark)
    → (b : ℕ) → entries_after regions b (get_or next b []) ps ≡ entries_after regions b (get_or blocks b []) (p ∷ ps)
mark_more regions blocks next p ps block is lt made b = ap (λ es. entries_after regions b es ps) (by (block_of regions p.region == b) refl)
  where
    all : List Entry
    all = get_or blocks block [] ++ entries_of (length (get_or blocks block [])) p.region p.mark

    by : (t : Bool) → (block_of regions p.region == b) ≡ t
        → get_or next b [] ≡ get_or blocks b [] ++ (if block_of regions p.region == b then entries_of (length (get_or blocks b [])) p.region p.mark else [])
    by true e =
        let same : block ≡ b = is ∙ grind (arith, nat_tests) in
        ap (λ bs. get_or bs b []) made
        ∙ ap (λ k. get_or (set blocks block all) k []) (sym same)
        ∙ get_or-set_same blocks block all [] lt
        ∙ ap (λ k. get_or blocks k [] ++ entries_of (length (get_or blocks k [])) p.region p.mark) same
        ∙ ap (λ t. get_or blocks b [] ++ (if t then entries_of (length (get_or blocks b [])) p.region p.mark else [])) (sym e)
    by false e =
        let other : b ≢ block = λ h. (let same : block_of regions p.region ≡ b = sym is ∙ sym h in grind (arith, nat_tests)) in
        ap (λ bs. get_or bs b []) made ∙ get_or-set_other blocks block b all [] other ∙ sym (append-nil (get_or blocks b []))
        ∙ ap (λ t. get_or blocks b [] ++ (if t then entries_of (length (get_or blocks b [])) p.region p.mark else [])) (sym e)

tabulated : (f : ℕ → List Entry) (blocks : List (List Entry)) (first : ℕ) → ((b : ℕ) → b < length blocks → get_or blocks b [] ≡ f (first + b))
    → blocks ≡ map f (numbers_from first (length blocks))
tabulated f [] first each = refl
tabulated f (x ∷ xs) first each =
    let here : x ≡ f first = each 0 (omega arith) ∙ ap f (let e : first + 0 ≡ first = omega arith in e) in
    ap (λ y. y ∷ xs) here ∙ ap (λ ys. f first ∷ ys) (tabulated f xs (first + 1) (λ b lt. each (suc b) (omega arith) ∙ ap f (let e : first + suc b ≡ (first + 1) + b = omega arith in e)))

-- a list of blocks, from what each declares
pub all_blocks : (f : ℕ → List Entry) (blocks : List (List Entry)) (n : ℕ) → length blocks ≡ n → ((b : ℕ) → b < n → get_or blocks b [] ≡ f b)
    → blocks ≡ map f (numbers_from 0 n)
all_blocks f blocks n count each =
    tabulated f blocks 0 (λ b lt. each b (omega (arith, lt)) ∙ ap f (let e : b ≡ 0 + b = omega arith in e)) ∙ ap (λ k. map f (numbers_from 0 k)) count
