-- What blocks declare is what the passes find.
use Rattle.std.specs.Prelude.{◌≡◌, refl, ℕ, ◌+◌, Bool, true, false, ◌==◌, nat_lt, Option, None, Some, option_map, List, [], ◌∷◌, ◌++◌, map, length, get_or, if◌then◌else◌}
use Rattle.std.specs.List.{flat_map, list_any, fold, zip, enumerate_from}
use Rattle.std.specs.Option.{unwrap_or}
use Rattle.std.proofs.Common.{sym, ap, ◌∙◌, arith, length-append}
use Rattle.std.proofs.lemmas.List.{map-append}
use Rattle.pli_base.specs.declared.syntax.Identifier.{Identifier}
use Rattle.pli_base.specs.Declarations.{Item}
use Rattle.pli_declare_outline.specs.Outlines.{Region, Mark, Declared, Labelled, Entered, Used, Jumped, PlacedMark, Outline}
use Rattle.pli_declare_scopes.specs.Levels as levels
use Rattle.pli_declare_scopes.specs.Repeats as twice
use Rattle.pli_declare_scopes.specs.Repeats.{is_counting}
use Rattle.pli_declare_scopes.specs.declared.level.ItemStanding.{ItemStanding}
use Rattle.pli_declare_scopes.specs.declared.level.Numbered.{Numbered}
use Rattle.pli_declare_scopes.specs.declared.repeat.Verdict.{Verdict}
use Rattle.pli_declare_scopes.specs.declared.repeat.Verdict.TheVariants.{Counts, Twice, Beneath}
use Rattle.pli_declare_constructs.specs.Regions.{blocks_round}
use Rattle.pli_declare.specs.Tables as old
use Rattle.pli_declare.specs.Tables.{Entry, no_entry, item_entry, inner_marks, unit_entries, unit_block}
use Rattle.pli_declarations.specs.Regions.{block_of}
use Rattle.pli_declarations.specs.Tables.{standing, standings_after, declared_entries, entries_of, entries_among, entries_in, repeats, verdicts_after, verdicts_in, block_in, scope_of, tables_of, entry_at}
use Rattle.pli_declarations.proofs.RegionsAlike as regions_alike
use Rattle.pli_declarations.proofs.ScopesAlike.{mapped}

-- ---- levels

abbrev numbered : ℕ × ℕ → Numbered
numbered p = record { number = p.0; level = p.1 }

one_more : (a : ℕ) (xs : List ℕ) (x : ℕ) → enumerate_from a (xs ++ x ∷ []) ≡ enumerate_from a xs ++ (a + length xs, x) ∷ []
one_more a [] x = let e : a ≡ a + 0 = omega arith in ap (λ n. (n, x) ∷ []) e
one_more a (y ∷ ys) x =
    let e : a + 1 + length ys ≡ a + length (y ∷ ys) = omega arith in
    ap (λ ps. (a, y) ∷ ps) (one_more (a + 1) ys x ∙ ap (λ n. enumerate_from (a + 1) ys ++ (n, x) ∷ []) e)

pick : (b : Bool) (p : ℕ × ℕ) (found : Option (ℕ × ℕ)) → (if b then Some p.0 else option_map (λ q. q.0) found) ≡ option_map (λ q. q.0) (if b then Some p else found)
pick true p found = refl
pick false p found = refl

nearest_alike : (level : ℕ) (found : Option (ℕ × ℕ)) (ps : List (ℕ × ℕ))
    → levels.nearest_after (option_map (λ p. p.0) found) level (map numbered ps) ≡ option_map (λ p. p.0) (fold (λ f p. if nat_lt p.1 level then Some p else f) found ps)
nearest_alike level found [] = refl
nearest_alike level found (p ∷ ps) =
    ap (λ f. levels.nearest_after f level (map numbered ps)) (pick (nat_lt p.1 level) p found) ∙ nearest_alike level (if nat_lt p.1 level then Some p else found) ps

standing_alike : (before : List ℕ) (level : ℕ) → standing before level ≡ levels.standing level (levels.nearest level (map numbered (enumerate_from 0 before)))
standing_alike before level = λ i. levels.standing level (sym (nearest_alike level None (enumerate_from 0 before)) i)

standings_alike : (before : List ℕ) (number : ℕ) → number ≡ 0 + length before → (ls : List ℕ)
    → standings_after before ls ≡ levels.standings_after (map numbered (enumerate_from 0 before)) number ls
standings_alike before number e [] = refl
standings_alike before number e (l ∷ ls) =
    let later : number + 1 ≡ 0 + length (before ++ l ∷ []) = omega (arith, e, length-append before (l ∷ [])) in
    let more = ap (map numbered) (one_more 0 before l) ∙ map-append numbered (enumerate_from 0 before) ((0 + length before, l) ∷ []) ∙ ap (λ n. map numbered (enumerate_from 0 before) ++ record { number = n; level = l } ∷ []) (sym e) in
    λ i. standing_alike before l i ∷ (standings_alike (before ++ l ∷ []) (number + 1) later ls ∙ ap (λ ps. levels.standings_after ps (number + 1) ls) more) i

-- ---- entries

zipped : (base : ℕ) (xs : List (Identifier × Item)) (ss : List ItemStanding) → map (λ p. item_entry base p.0 p.1) (zip xs ss) ≡ old.item_entries base xs ss
zipped base [] [] = refl
zipped base [] (s ∷ ss) = refl
zipped base (x ∷ xs) [] = refl
zipped base (x ∷ xs) (s ∷ ss) = ap (λ es. item_entry base x s ∷ es) (zipped base xs ss)

levels_alike : (names : List (Identifier × Item)) → map (λ x. unwrap_or x.1.level 1) names ≡ map levels.level_of (map (λ x. x.1.level) names)
levels_alike [] = refl
levels_alike (x ∷ xs) = ap (λ ls. unwrap_or x.1.level 1 ∷ ls) (levels_alike xs)

declared_alike : (base : ℕ) (names : List (Identifier × Item)) → declared_entries base names ≡ old.declared_entries base names
declared_alike base names =
    zipped base names _
    ∙ (λ i. old.item_entries base names (standings_alike [] 0 refl (levels_alike names i) i))

pub of_alike : (base here : ℕ) (m : Mark) → entries_of base here m ≡ old.entries_of base here m
of_alike base here (Declared items) = declared_alike base (flat_map old.named items)
of_alike base here (Labelled label) = refl
of_alike base here (Entered heading region) = refl
of_alike base here (Used names) = refl
of_alike base here (Jumped label) = refl

folded : (regions : List Region) (block : ℕ) (es : List Entry) (ps : List PlacedMark)
    → fold (λ fs p. fs ++ (if block_of regions p.region == block then entries_of (length fs) p.region p.mark else [])) es ps ≡ old.entries_after regions block es ps
folded regions block es [] = refl
folded regions block es (p ∷ ps) =
    folded regions block (es ++ (if block_of regions p.region == block then entries_of (length es) p.region p.mark else [])) ps
    ∙ (λ i. old.entries_after regions block (es ++ (if regions_alike.block_alike regions p.region i == block then of_alike (length es) p.region p.mark i else [])) ps)

pub among_alike : (regions : List Region) (block : ℕ) (ps : List PlacedMark) → entries_among regions block ps ≡ old.entries_after regions block [] ps
among_alike regions block ps = folded regions block [] ps

pub entries_alike : (o : Outline) (block : ℕ) → entries_in o block ≡ old.entries_in o block
entries_alike o block = among_alike o.regions block (inner_marks o.marks)

-- ---- declared twice

above_alike : (vs : List Verdict) (owner : Option ℕ) → unwrap_or (option_map (λ n. is_counting (get_or vs n Beneath)) owner) true ≡ twice.counts_above vs owner
above_alike vs None = refl
above_alike vs (Some n) = refl

judged_alike : (before : List Entry) (vs : List Verdict) (es : List Entry) → verdicts_after before vs es ≡ twice.verdicts_after (map old.written before) vs (map old.written es)
judged_alike before vs [] = refl
judged_alike before vs (e ∷ es) =
    judged_alike (before ++ e ∷ []) (vs ++ (if unwrap_or (option_map (λ n. is_counting (get_or vs n Beneath)) e.owner) true then (if list_any (repeats e) before then Twice else Counts) else Beneath) ∷ []) es
    ∙ (λ i. twice.verdicts_after (map-append old.written before (e ∷ []) i)
    (vs ++ twice.judged (above_alike vs e.owner i) (sym (mapped (twice.repeats (old.written e)) old.written before) i) ∷ []) (map old.written es))

pub verdicts_alike : (o : Outline) (block : ℕ) → verdicts_in o block ≡ old.verdicts_in o block
verdicts_alike o block = judged_alike [] [] (entries_in o block) ∙ (λ i. twice.verdicts_of (map old.written (entries_alike o block i)))

-- ---- look-up

seen : (es : List Entry) (vs : List Verdict) → map (λ p. record { name = p.0.identifier.name; owner = p.0.owner; counts = is_counting p.1 }) (zip es vs) ≡ old.with_verdicts es vs
seen [] [] = refl
seen [] (v ∷ vs) = refl
seen (e ∷ es) [] = refl
seen (e ∷ es) (v ∷ vs) = ap (λ is. record { name = e.identifier.name; owner = e.owner; counts = is_counting v } ∷ is) (seen es vs)

block_alike : (o : Outline) (block : ℕ) → block_in o block ≡ old.block_in o block
block_alike o block = λ i. seen (entries_alike o block i) (verdicts_alike o block i) i

pub scope_alike : (o : Outline) (region : ℕ) → scope_of o region ≡ old.scope_of o region
scope_alike o region = λ i. map (λ b. block_alike o b i) (blocks_round o.regions region) ++ unit_block o ∷ []

pub tables_alike : (o : Outline) (region : ℕ) → tables_of o region ≡ old.tables_of o region
tables_alike o region = λ i. map (λ b. entries_alike o b i) (blocks_round o.regions region) ++ unit_entries o.marks ∷ []

pub entry_alike : (o : Outline) (region out number : ℕ) → entry_at o region out number ≡ old.entry_at o region out number
entry_alike o region out number = λ i. get_or (get_or (tables_alike o region i) out []) number no_entry
