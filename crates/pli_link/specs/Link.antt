-- Linking (own): a module of the units, or the faults.
use Rattle.std.specs.Prelude.{ℕ, Bool, Option, Some, Result, Ok, Err, List, [], ◌∷◌, ◌++◌, map, position}
use Rattle.std.specs.Prelude.{if◌then◌else◌}
use Rattle.std.specs.Cmp.Lexicographic.{slice_cmp}
use Rattle.std.specs.List.{filter}
use Rattle.std.specs.Ordering.{nat_cmp}
use Rattle.pli_base.specs.Name.{Name}
use Rattle.pli_base.specs.Words.{is_among}
use Rattle.pli_sort.specs.Sorting as sorting
use Rattle.pli_code.specs.ModuleParts.{Module}
use Rattle.pli_link.specs.Links.{module_of}
use Rattle.pli_link.specs.Mismatches.{faulty_linked}
use Rattle.pli_link.specs.ModuleSize.{is_too_large}
use Rattle.pli_link.specs.Names.{with_name}
use Rattle.pli_link.specs.Units.{Compiled, procedure_of}
use Rattle.pli_link.specs.declared.global_fault.GlobalFault.TheVariants as globals
use Rattle.pli_link.specs.declared.linking.LinkFault.{LinkFault}
use Rattle.pli_link.specs.declared.linking.LinkFault.TheVariants.{NoMainProcedure, TwoMainProcedures}
use Rattle.pli_link.specs.declared.linking.LinkFault.TheVariants.{Unresolved, DefinedTwice, Mismatch}
use Rattle.pli_link.specs.declared.linking.LinkFault.TheVariants.{ModuleTooLarge}
use Rattle.pli_link.specs.declared.units.LinkedName.{LinkedName}

-- the name without its unit
abbrev pub name_alone : LinkedName → Name
name_alone n = n.name

-- in the order of names; those that are equal as they stood, which is by unit
abbrev pub in_order : List LinkedName → List LinkedName
in_order = sorting.in_order name_alone (slice_cmp nat_cmp)

-- the units whose procedure has the name of one before
abbrev pub defined_again : (before : List Name) → List Compiled → List LinkedName
defined_again before [] = []
defined_again before (c ∷ cs) =
    (if is_among c.deck.name before then procedure_of c ∷ [] else [])
    ++ defined_again (with_name before c.deck.name) cs

-- the units whose procedure is a main procedure
abbrev pub mains : List Compiled → List Compiled
mains = filter (λ c. c.deck.is_main)

-- every one but the first
abbrev pub later : {A : Type 0} → List A → List A
later [] = []
later (x ∷ xs) = xs

-- that there is none among the main procedures
abbrev pub none_among : List Compiled → List LinkFault
none_among [] = NoMainProcedure ∷ []
none_among (c ∷ cs) = []

-- that the module is too large
abbrev pub too_large_if : Bool → List LinkFault
too_large_if large = if large then ModuleTooLarge ∷ [] else []

-- the faults of units in the order of their names, by code, name and unit
abbrev pub link_faults : List Compiled → List LinkFault
link_faults cs =
    none_among (mains cs) ++ map TwoMainProcedures (in_order (map procedure_of (later (mains cs))))
    ++ map Unresolved (in_order (faulty_linked cs globals.Unresolved cs))
    ++ map DefinedTwice (in_order (defined_again [] cs))
    ++ map Mismatch (in_order (faulty_linked cs globals.Mismatch cs)) ++ too_large_if (is_too_large cs)

-- the module, where there are no faults and a main procedure
abbrev pub module_or : List LinkFault → (main : Option ℕ) → List Compiled → Result Module (List LinkFault)
module_or [] (Some main) cs = Ok (module_of cs main)
module_or faults main cs = Err faults

-- from units in the order of their names: the module of all, with the first one that has a main procedure as
-- its main unit, or the faults
abbrev pub link_of : List Compiled → Result Module (List LinkFault)
link_of cs = module_or (link_faults cs) (position (λ c. c.deck.is_main) cs) cs
