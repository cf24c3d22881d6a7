-- Blocks in lists by their numbers.
use Rattle.std.proofs.Common.{◌≡◌, ℕ, zero, suc, ◌+◌, ◌<◌, false, cond, nat_eq, List, [], ◌∷◌, ◌++◌, map, filter, length, get_or, set, take, replicate, refl, sym, ap, ◌∙◌, zero-add, Vec, Global, arith}
use Rattle.std.specs.List.{flat_map, range_with_len}
use Rattle.std.proofs.lemmas.Bool.{eq-eqb}
use Rattle.std.proofs.lemmas.Bool.Decides.{nat_tests}
use Rattle.std.proofs.lemmas.List.{take_more, map-append, map-set, get_or-map, append-nil, length-map}
use Rattle.std.proofs.lemmas.List.Elements.{filter-append}
use Rattle.pli_gen_emit.specs.TreeTranslation.{BlockTree, has_number}
use Rattle.pli_gen_emit.specs.views.BlockView.{block_tree, block_trees}
use Rattle.pli_gen_emit.specs.declared.block.BlockSource.{BlockSource}

-- the blocks of each number
abbrev pub lists : (first count : ℕ) → List BlockTree → List (List BlockTree)
lists a count bs = map (λ n. filter (has_number n) bs) (range_with_len a count)

hit : (a : ℕ) (bs : List BlockTree) (b : BlockTree) → b.head.number ≡ a → filter (has_number a) (bs ++ b ∷ []) ≡ filter (has_number a) bs ++ b ∷ []
hit a bs b e =
    filter-append (has_number a) bs (b ∷ [])
    ∙ ap (λ t. filter (has_number a) bs ++ cond t (b ∷ []) []) (eq-eqb b.head.number a e)

other_number : (m n : ℕ) → (m ≡ n → ⊥) → nat_eq m n ≡ false
other_number m n h = grind (arith, nat_tests)

miss : (a : ℕ) (bs : List BlockTree) (b : BlockTree) → (b.head.number ≡ a → ⊥) → filter (has_number a) bs ≡ filter (has_number a) (bs ++ b ∷ [])
miss a bs b e =
    sym (filter-append (has_number a) bs (b ∷ [])
    ∙ ap (λ t. filter (has_number a) bs ++ cond t (b ∷ []) []) (other_number b.head.number a e)
    ∙ append-nil (filter (has_number a) bs))

elsewhere : (a n : ℕ) (bs : List BlockTree) (b : BlockTree) → b.head.number < a → lists a n bs ≡ lists a n (bs ++ b ∷ [])
elsewhere a zero bs b lt = refl
elsewhere a (suc n) bs b lt =
    ap (λ xs. xs ∷ lists (a + 1) n bs) (miss a bs b (λ e. omega (arith, e, lt)))
    ∙ ap (λ xs. filter (has_number a) (bs ++ b ∷ []) ∷ xs) (elsewhere (a + 1) n bs b (omega (arith, lt)))

-- a block more
put : (a n i : ℕ) (bs : List BlockTree) (b : BlockTree) → a + i ≡ b.head.number
    → set (lists a n bs) i (get_or (lists a n bs) i [] ++ b ∷ []) ≡ lists a n (bs ++ b ∷ [])
put a zero i bs b e = refl
put a (suc n) zero bs b e =
    ap (λ xs. xs ∷ lists (a + 1) n bs) (sym (hit a bs b (omega (arith, e))))
    ∙ ap (λ xs. filter (has_number a) (bs ++ b ∷ []) ∷ xs) (elsewhere (a + 1) n bs b (omega (arith, e)))
put a (suc n) (suc i) bs b e =
    ap (λ xs. xs ∷ set (lists (a + 1) n bs) i (get_or (lists (a + 1) n bs) i [] ++ b ∷ [])) (miss a bs b (λ f. omega (arith, e, f)))
    ∙ ap (λ xs. filter (has_number a) (bs ++ b ∷ []) ∷ xs) (put (a + 1) n i bs b (omega (arith, e)))

pub none_listed : (a n : ℕ) → replicate n [] ≡ lists a n []
none_listed a zero = refl
none_listed a (suc n) = ap (λ xs. [] ∷ xs) (none_listed (a + 1) n)

pub block_put : (blocks : List BlockSource) (i : ℕ) (d : BlockSource) (before after : List (List BlockTree)) → i < length blocks → d ≡ get_or blocks i d
    → before ≡ lists 0 (length (block_trees blocks)) (take i (block_trees blocks))
    → after ≡ set before (block_tree d).head.number (get_or before (block_tree d).head.number [] ++ block_tree d ∷ [])
    → after ≡ lists 0 (length (block_trees blocks)) (take (i + 1) (block_trees blocks))
block_put blocks i d before after lt read was is =
    let trees = block_trees blocks in
    let n = length trees in
    let k = (block_tree d).head.number in
    let within : i < length trees = omega (arith, lt, length-map blocks block_tree) in
    let more : take (i + 1) trees ≡ take i trees ++ block_tree d ∷ [] =
    take_more trees i (block_tree d) within
    ∙ ap (λ t. take i trees ++ t ∷ []) (get_or-map block_tree blocks i d (block_tree d) lt ∙ ap block_tree (sym read)) in
    is ∙ ap (λ b. set b k (get_or b k [] ++ block_tree d ∷ [])) was ∙ put 0 n k (take i trees) (block_tree d) (zero-add k) ∙ ap (lists 0 n) (sym more)

-- lists, one after the other
pub all_flat : (f : ℕ → List BlockTree) (ns : List ℕ) → flat_map (λ trees. trees) (map f ns) ≡ flat_map f ns
all_flat f [] = refl
all_flat f (n ∷ ns) = ap (λ bs. f n ++ bs) (all_flat f ns)

-- a block after those of one list
pub put_after : (all : List (Vec BlockSource Global)) (n : ℕ) (old new : Vec BlockSource Global) (b : BlockSource) → n < length all → old ≡ get_or all n old
    → new.items ≡ old.items ++ b ∷ []
    → map (λ list. block_trees list.items) (set all n new)
    ≡ set (map (λ list. block_trees list.items) all) n (get_or (map (λ list. block_trees list.items) all) n [] ++ block_tree b ∷ [])
put_after all n old new b lt read more =
    let trees : Vec BlockSource Global → List BlockTree = λ list. block_trees list.items in
    map-set trees all n new
    ∙ ap (set (map trees all) n)
    (ap block_trees more ∙ map-append block_tree old.items (b ∷ []) ∙ ap (λ ts. ts ++ block_tree b ∷ []) (ap trees read ∙ sym (get_or-map trees all n old [] lt)))
