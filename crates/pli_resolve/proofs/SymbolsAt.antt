-- Symbols at their numbers.
use Rattle.std.proofs.Common.{◌≡◌, ℕ, zero, suc, Option, Some, None, List, [], ◌∷◌, ◌++◌, map, length, option_map}
use Rattle.std.proofs.Common.{option_and_then, slice_get, get_or, refl, sym, ◌<◌, arith, ap, ◌∙◌}
use Rattle.std.specs.Option.{unwrap_or}
use Rattle.std.proofs.lemmas.Option.{slice_get_within}
use Rattle.pli_base.specs.Name.{Name}
use Rattle.pli_base.specs.Statements.{ExternalProcedure}
use Rattle.pli_declare.specs.Declarations.{Declaration}
use Rattle.pli_declare.specs.Symbols.{Symbol, SymbolFacts, Way, symbol_of, symbols_with}
use Rattle.pli_declare.specs.ResolvedUnits.{ResolvedBlock, resolved_unit_of, all_symbols, symbol_at, block_of, block_regions_of}
use Rattle.pli_declare.specs.declared.block_numbers.BlockRegion.{BlockRegion}
use Rattle.pli_declare.specs.declared.symbol.SymbolKey.{SymbolKey}

none_by : {A : Type 0} (f : Way → Option A) (o : Option Way) → ((w : Way) → f w ≡ None) → None ≡ option_and_then f o
none_by f None h = refl
none_by f (Some w) h = sym (h w)

-- the symbol of a number
pub symbols_at : (f : SymbolFacts) (ps : List Name) (ws : List Way) (ds : List Declaration) (n : ℕ)
    → slice_get (symbols_with f ps ws ds) n ≡ option_and_then (λ w. option_map (symbol_of f ps w) (slice_get ds n)) (slice_get ws n)
symbols_at f ps ws [] n = none_by (λ w. None) (slice_get ws n) (λ w. refl)
symbols_at f ps [] (d ∷ ds) n = refl
symbols_at f ps (w ∷ ws) (d ∷ ds) zero = refl
symbols_at f ps (w ∷ ws) (d ∷ ds) (suc n) = symbols_at f ps ws ds n

-- in a list with one more after it
after : {A B : Type 0} (f : A → List B) (xs : List A) (o : List B) (n : ℕ) → (n ≡ length xs → ⊥)
    → get_or (map f xs ++ o ∷ []) n [] ≡ unwrap_or (option_map f (slice_get xs n)) []
after f [] o zero h = absurd (h refl)
after f [] o (suc n) h = refl
after f (x ∷ xs) o zero h = refl
after f (x ∷ xs) o (suc n) h = after f xs o n (λ e. h (ap suc e))

at_end : {A B : Type 0} (f : A → List B) (xs : List A) (o : List B) → get_or (map f xs ++ o ∷ []) (length xs) [] ≡ o
at_end f [] o = refl
at_end f (x ∷ xs) o = at_end f xs o

abbrev pub symbols_in : (u : ExternalProcedure) → BlockRegion → List Symbol
symbols_in u b = (block_of u b).symbols

-- the symbols of blocks
pub twice : (u : ExternalProcedure) (bs : List BlockRegion) → map (λ (b : ResolvedBlock). b.symbols) (map (block_of u) bs) ≡ map (symbols_in u) bs
twice u [] = refl
twice u (b ∷ bs) = ap (λ xs. (block_of u b).symbols ∷ xs) (twice u bs)

-- all symbols of a unit
listed : (u : ExternalProcedure) (n : ℕ) → get_or (all_symbols (resolved_unit_of u)) n []
    ≡ get_or (map (symbols_in u) (block_regions_of u) ++ (resolved_unit_of u).outermost ∷ []) n []
listed u n = ap (λ xs. get_or (xs ++ (resolved_unit_of u).outermost ∷ []) n []) (twice u (block_regions_of u))

-- the symbols of a block, and of the outermost one
pub symbol_inside : (u : ExternalProcedure) (key : SymbolKey) (b : BlockRegion) → slice_get (block_regions_of u) key.block ≡ Some b
    → symbol_at (resolved_unit_of u) key ≡ slice_get (block_of u b).symbols key.number
symbol_inside u key b found =
    let within : key.block < length (block_regions_of u) = slice_get_within (block_regions_of u) key.block b found in
    ap (λ xs. slice_get xs key.number)
    (listed u key.block
    ∙ after (symbols_in u) (block_regions_of u) (resolved_unit_of u).outermost key.block (λ e. absurd (omega (arith, within, e)))
    ∙ ap (λ o. unwrap_or (option_map (symbols_in u) o) []) found)

pub symbol_beyond : (u : ExternalProcedure) (key : SymbolKey) → slice_get (block_regions_of u) key.block ≡ None
    → (key.block ≡ length (block_regions_of u) → ⊥) → symbol_at (resolved_unit_of u) key ≡ None
symbol_beyond u key found h =
    ap (λ xs. slice_get xs key.number)
    (listed u key.block ∙ after (symbols_in u) (block_regions_of u) (resolved_unit_of u).outermost key.block h
    ∙ ap (λ o. unwrap_or (option_map (symbols_in u) o) []) found)

pub symbol_outside : (u : ExternalProcedure) (key : SymbolKey) → key.block ≡ length (block_regions_of u)
    → symbol_at (resolved_unit_of u) key ≡ slice_get (resolved_unit_of u).outermost key.number
symbol_outside u key e =
    ap (λ xs. slice_get xs key.number)
    (listed u key.block ∙ ap (λ n. get_or (map (symbols_in u) (block_regions_of u) ++ (resolved_unit_of u).outermost ∷ []) n []) e
    ∙ at_end (symbols_in u) (block_regions_of u) (resolved_unit_of u).outermost)
