-- What is found block by block.
use Rattle.std.proofs.Common.{◌≡◌, ℕ, zero, suc, ◌+◌, ◌<◌, ◌≤◌, Option, Some, None, List, [], ◌∷◌, ◌++◌, take, length, map, replicate, option_map, slice_get, get_or}
use Rattle.std.proofs.Common.{refl, ap, sym, ◌∙◌, arith}
use Rattle.std.specs.Option.{unwrap_or}
use Rattle.std.proofs.lemmas.List.{length-append, length-map, length-replicate, take_all}
use Rattle.std.proofs.lemmas.Option.{slice_get-get_or, unwrap_or-slice_get}
use Rattle.pli_declare.specs.ResolvedUnits.{ResolvedUnit, ResolvedBlock, all_symbols}
use Rattle.pli_declare.specs.Symbols.{Symbol}
use Rattle.pli_resolve.specs.views.UnitView.{without_symbols}
use Rattle.pli_type_rules.specs.NamedUnits.{all_tokens, block_symbols, global_tokens, globals_before, globals_in, one_global}
use Rattle.pli_type_rules.specs.TextOrder.{numbers_from, place_from, text_order, text_places}
use Rattle.pli_type_rules.proofs.TextNumbers.{numbers_counted}
use Rattle.pli_type_names.specs.BlockEntries.{BlockEntry, entry_at}
use Rattle.pli_type_names.specs.BlockFacts.{facts_of}
use Rattle.pli_type_names.specs.Numbered.{each_from}
use Rattle.pli_type_names.specs.Seen.{Kept, kept_symbols}
use Rattle.pli_type_names.proofs.ListLemmas.{each_at, each_counted, each_get, take_one_more, take_whole}

-- ---- entries

abbrev pub entries_of : ResolvedUnit → List BlockEntry
entries_of r = each_from (entry_at r) 0 r.blocks

pub entry_there : (r : ResolvedUnit) (n : ℕ) → slice_get (entries_of r) n ≡ option_map (entry_at r n) (slice_get r.blocks n)
entry_there r n = each_at (entry_at r) r.blocks 0 n n (omega arith)

bare_entry : (r : ResolvedUnit) (n : ℕ) (o : Option ResolvedBlock) → option_map (entry_at r n) o ≡ option_map (entry_at r n) (option_map without_symbols o)
bare_entry r n None = refl
bare_entry r n (Some b) = refl

-- by a block apart from its symbols
pub entry_bare : (r : ResolvedUnit) (n : ℕ) (o : Option ResolvedBlock) → o ≡ option_map without_symbols (slice_get r.blocks n)
    → slice_get (entries_of r) n ≡ option_map (entry_at r n) o
entry_bare r n o e = entry_there r n ∙ bare_entry r n (slice_get r.blocks n) ∙ ap (option_map (entry_at r n)) (sym e)

-- all of them
pub all_entries : (r : ResolvedUnit) (n : ℕ) (es : List BlockEntry) → None ≡ option_map without_symbols (slice_get r.blocks n)
    → es ≡ take n (entries_of r) → (k : ℕ) → slice_get es k ≡ option_map (entry_at r k) (slice_get r.blocks k)
all_entries r n es e is k = ap (λ xs. slice_get xs k) (is ∙ take_whole (entries_of r) n (entry_bare r n None e)) ∙ entry_there r k

-- ---- meanings

abbrev pub rows_of : ResolvedUnit → List (List Kept)
rows_of r = each_from (λ block (ss : List Symbol). kept_symbols (facts_of r block)) 0 (all_symbols r)

-- how many blocks have symbols
pub all_counted : (r : ResolvedUnit) → length (all_symbols r) ≡ length r.blocks + 1
all_counted r = length-append (map (λ b. b.symbols) r.blocks) (r.outermost ∷ []) ∙ ap (λ n. n + 1) (length-map r.blocks (λ b. b.symbols))

pub symbols_there : (r : ResolvedUnit) (n : ℕ) → n < length r.blocks + 1 → slice_get (all_symbols r) n ≡ Some (block_symbols r n)
symbols_there r n h = slice_get-get_or (all_symbols r) n [] (omega (arith, h, all_counted r))

pub row_there : (r : ResolvedUnit) (n : ℕ) → n < length r.blocks + 1 → slice_get (rows_of r) n ≡ Some (kept_symbols (facts_of r n))
row_there r n h =
    each_at (λ block (ss : List Symbol). kept_symbols (facts_of r block)) (all_symbols r) 0 n n (omega arith)
    ∙ ap (option_map (λ (ss : List Symbol). kept_symbols (facts_of r n))) (symbols_there r n h)

no_rows : (r : ResolvedUnit) (n : ℕ) (o : Option (List Symbol)) → slice_get (all_symbols r) n ≡ o
    → unwrap_or (option_map (λ (ss : List Symbol). kept_symbols (facts_of r n)) o) [] ≡ kept_symbols (facts_of r n)
no_rows r n None e =
    let none : block_symbols r n ≡ [] = sym (unwrap_or-slice_get (all_symbols r) n []) ∙ ap (λ o. unwrap_or o []) e in
    let f = facts_of r n in
    ap (λ ss. kept_symbols (record { parameters = f.parameters; places = f.places; globals = f.globals; symbols = ss })) (sym none)
no_rows r n (Some ss) e = refl

pub all_rows : (r : ResolvedUnit) (n : ℕ) (rows : List (List Kept)) → length r.blocks + 1 ≤ n → rows ≡ take n (rows_of r)
    → (block : ℕ) → get_or rows block [] ≡ kept_symbols (facts_of r block)
all_rows r n rows h is block =
    let f : ℕ → List Symbol → List Kept = λ b ss. kept_symbols (facts_of r b) in
    let long : length (rows_of r) ≤ n = omega (arith, h, all_counted r, each_counted f 0 (all_symbols r)) in
    ap (λ xs. get_or xs block []) (is ∙ take_all n (rows_of r) long)
    ∙ each_get f (all_symbols r) 0 block block [] (omega arith)
    ∙ no_rows r block (slice_get (all_symbols r) block) refl

-- ---- globals

globals_after : (xss : List (List Symbol)) (xs : List Symbol) → globals_in 63 (xss ++ xs ∷ []) ≡ globals_in 63 xss + globals_before 63 xs (length xs)
globals_after [] xs = omega arith
globals_after (ys ∷ xss) xs = omega (arith, globals_after xss xs)

pub globals_more : (xss : List (List Symbol)) (n : ℕ) (xs : List Symbol) → slice_get xss n ≡ Some xs
    → globals_in 63 (take (n + 1) xss) ≡ globals_in 63 (take n xss) + globals_before 63 xs (length xs)
globals_more xss n xs e = ap (globals_in 63) (take_one_more xss n xs e) ∙ globals_after (take n xss) xs

tokens_counted : (ss : List Symbol) → length (global_tokens 63 ss) ≡ globals_before 63 ss (length ss)
tokens_counted [] = refl
tokens_counted (s ∷ ss) =
    omega (
      arith,
      length-append (replicate (one_global 63 s.kind) s.identifier.at) (global_tokens 63 ss),
      length-replicate (one_global 63 s.kind) s.identifier.at,
      tokens_counted ss,
    )

all_tokens_counted : (xss : List (List Symbol)) → length (all_tokens 63 xss) ≡ globals_in 63 xss
all_tokens_counted [] = refl
all_tokens_counted (xs ∷ xss) =
    omega (arith, length-append (global_tokens 63 xs) (all_tokens 63 xss), tokens_counted xs, all_tokens_counted xss)

globals_among : (xss : List (List Symbol)) (n : ℕ) → globals_in 63 (take n xss) ≤ globals_in 63 xss
globals_among [] zero = omega arith
globals_among [] (suc n) = omega arith
globals_among (xs ∷ xss) zero = omega arith
globals_among (xs ∷ xss) (suc n) = omega (arith, globals_among xss n)

-- each has a place in the order of the text
pub globals_placed : (xss : List (List Symbol)) (n : ℕ) → globals_in 63 (take n xss) ≤ length (text_places (all_tokens 63 xss))
globals_placed xss n =
    let tokens = all_tokens 63 xss in
    omega (
      arith,
      globals_among xss n,
      all_tokens_counted xss,
      length-map (numbers_from 0 (length tokens)) (λ number. place_from 0 number (text_order tokens)),
      numbers_counted 0 (length tokens),
    )
