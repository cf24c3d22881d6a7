-- Where no fault of a global is told, each entry has its unit, and each external variable is of the kind of its first
-- declaration.
use Rattle.std.proofs.Common.{◌≡◌, Bool, true, false, not, ◌&&◌, Option, Some, None, is_none, List, [], ◌∷◌, ◌++◌, refl, if◌then◌else◌}
use Rattle.std.specs.Option.{option_eq}
use Rattle.std.specs.List.{AllByRecursion}
use Rattle.pli_base.specs.Name.{Name}
use Rattle.pli_base.specs.Words.{is_among}
use Rattle.pli_program.specs.declared.kind.VariableKind.{VariableKind}
use Rattle.pli_type_tree.specs.Templates.{Template}
use Rattle.pli_type_keys.specs.Same.{same_template}
use Rattle.pli_code.specs.CodeTables.{CodedGlobal, OwnVariable, ExternalVariable, EntryPoint, template_at}
use Rattle.pli_link.specs.Alike.{same_kind}
use Rattle.pli_link.specs.Mismatches.{is_unlike, each_once, faulty_in, faulty_names, faulty_in_unit, faulty_linked}
use Rattle.pli_link.specs.Names.{Declaration, meant, procedures, externals, unit_named}
use Rattle.pli_link.specs.Units.{Compiled}
use Rattle.pli_link.specs.declared.global_fault.GlobalFault.TheVariants.{Unresolved, Mismatch}
use Rattle.pli_link.proofs.Faultless.{front_empty, back_empty, map_empty}

-- names, each once, are none where there are none
once_filled : (before : Name) (more ns : List Name) → each_once (before ∷ more) ns ≡ [] → ⊥
once_filled before more [] e = cc
once_filled before more (n ∷ ns) e = by (is_among n (before ∷ more)) e (λ rest h. once_filled before rest ns h)
  where
    by : (b : Bool) → each_once (if b then before ∷ more else before ∷ (more ++ n ∷ [])) ns ≡ [] → ((rest : List Name) → each_once (before ∷ rest) ns ≡ [] → ⊥) → ⊥
    by true h filled = filled more h
    by false h filled = filled (more ++ n ∷ []) h

once_empty : (ns : List Name) → each_once [] ns ≡ [] → ns ≡ []
once_empty [] e = refl
once_empty (n ∷ ns) e = absurd (once_filled n [] ns e)

-- a first declaration is there, and of this kind
abbrev pub is_first_kind : VariableKind → Option Declaration → Bool
is_first_kind kind None = false
is_first_kind kind (Some d) = same_kind d.kind kind

-- an entry whose procedure is there, or a variable of the kind of its first declaration
module _ (cs : List Compiled) (ds : List (Name × Declaration)) where
  abbrev pub IsResolved : CodedGlobal → Type 0
  IsResolved (OwnVariable kind t) = Unit {0}
  IsResolved (ExternalVariable n kind t) = is_first_kind kind (meant ds n) ≡ true
  IsResolved (EntryPoint n s) = is_none (meant (procedures cs) n) ≡ false

  abbrev pub AreResolved : Compiled → Type 0
  AreResolved c = AllByRecursion IsResolved c.deck.code.globals

of_first_kind : (n : Name) (kind : VariableKind) (t : Option Template) (p : Option Compiled) (o : Option Declaration) → (if is_unlike kind t p o then n ∷ [] else []) ≡ []
    → is_first_kind kind o ≡ true
of_first_kind n kind t (Some c) o h = cc
of_first_kind n kind t None None h = cc
of_first_kind n kind t None (Some d) h = by (same_kind d.kind kind) (option_eq same_template d.template t) h
  where
    by : (a b : Bool) → (if not (a && b) then n ∷ [] else []) ≡ [] → a ≡ true
    by true b e = refl
    by false b e = cc

module _ (cs : List Compiled) where
  one_resolved : (c : Compiled) (g : CodedGlobal) → faulty_in cs Unresolved c.deck.code g ≡ [] → faulty_in cs Mismatch c.deck.code g ≡ [] → IsResolved cs (externals cs) g
  one_resolved c (OwnVariable kind t) e h = tt
  one_resolved c (ExternalVariable n kind t) e h = of_first_kind n kind (template_at c.deck.code t) (unit_named cs n) (meant (externals cs) n) h
  one_resolved c (EntryPoint n s) e h = by (is_none (meant (procedures cs) n)) e
    where
      by : (b : Bool) → (if b then n ∷ [] else []) ≡ [] → b ≡ false
      by true k = cc
      by false k = refl

  globals_resolved : (c : Compiled) (gs : List CodedGlobal) → faulty_names cs Unresolved c.deck.code gs ≡ [] → faulty_names cs Mismatch c.deck.code gs ≡ []
      → AllByRecursion (IsResolved cs (externals cs)) gs
  globals_resolved c [] e h = tt
  globals_resolved c (g ∷ gs) e h =
      let none = faulty_in cs Unresolved c.deck.code g in
      let unlike = faulty_in cs Mismatch c.deck.code g in
      let none_left = faulty_names cs Unresolved c.deck.code gs in
      let unlike_left = faulty_names cs Mismatch c.deck.code gs in (
        one_resolved c g (front_empty none none_left e) (front_empty unlike unlike_left h),
        globals_resolved c gs (back_empty none none_left e) (back_empty unlike unlike_left h),
      )

  pub units_resolved : (some : List Compiled) → faulty_linked cs Unresolved some ≡ [] → faulty_linked cs Mismatch some ≡ [] → AllByRecursion (AreResolved cs (externals cs)) some
  units_resolved [] e h = tt
  units_resolved (c ∷ some) e h = (
    globals_resolved c c.deck.code.globals (once_empty _ (map_empty _ _ (front_empty (faulty_in_unit cs Unresolved c) (faulty_linked cs Unresolved some) e)))
        (once_empty _ (map_empty _ _ (front_empty (faulty_in_unit cs Mismatch c) (faulty_linked cs Mismatch some) h))),
    units_resolved some (back_empty (faulty_in_unit cs Unresolved c) (faulty_linked cs Unresolved some) e)
        (back_empty (faulty_in_unit cs Mismatch c) (faulty_linked cs Mismatch some) h),
  )
