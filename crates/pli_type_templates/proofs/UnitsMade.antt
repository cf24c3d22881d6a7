-- The templates of blocks, one block after another.
use Rattle.std.proofs.Common.{◌≡◌, ℕ, ◌<◌, Bool, List, [], ◌∷◌, length, map, get_or, refl, ap, subst, sym, ◌∙◌, arith}
use Rattle.std.specs.List.{All}
use Rattle.std.proofs.Math.ListN as lists
use Rattle.std.proofs.lemmas.List.{get_or-map, length-map}
use Rattle.std.proofs.lemmas.List.Elements.{All-get_or}
use Rattle.pli_map.specs.Description.{Description}
use Rattle.pli_declare.specs.ResolvedUnits.{ResolvedUnit, all_symbols}
use Rattle.pli_declare.specs.declared.symbol.StorageClass.{StorageClass}
use Rattle.pli_type_rules.specs.NamedUnits as units
use Rattle.pli_type_rules.specs.NamedUnits.{block_symbols, templates_of}
use Rattle.pli_type_templates.specs.declared.placed_globals.PlacedGlobal.{PlacedGlobal}
use Rattle.pli_type_templates.specs.views.PlacedView.{global_view, placed_view}
use Rattle.pli_type_tree.specs.Templates.{Template}

-- what the variables of such a class of each block are made from
pub rows_found : (r : ResolvedUnit) (is_such : StorageClass → Description → Bool) (rows : List (List Template))
    → rows ≡ map (templates_of is_such) (all_symbols r)
    → (block : ℕ) → get_or rows block [] ≡ templates_of is_such (block_symbols r block)
rows_found r is_such rows is block =
    ap (λ xs. get_or xs block []) is ∙ lists.get_or-map (templates_of is_such) (all_symbols r) block []

-- globals without the tokens of their names
pub globals_alone : (gs : List PlacedGlobal)
    → map global_view gs ≡ map (λ (p : units.PlacedGlobal). p.global) (map placed_view gs)
globals_alone [] = refl
globals_alone (g ∷ gs) = ap (λ others. global_view g ∷ others) (globals_alone gs)

-- what holds of each of what is given holds of the one of a number
pub all_mapped : {A B : Type 0} (P : B → Type 0) (f : A → B) (xs : List A) (i : ℕ) (x : A) → i < length xs → x ≡ get_or xs i x → All P (map f xs) → P (f x)
all_mapped P f xs i x lt is h =
    subst P (get_or-map f xs i x (f x) lt ∙ ap f (sym is)) (All-get_or P (map f xs) i (f x) (omega (arith, lt, length-map xs f)) h)
