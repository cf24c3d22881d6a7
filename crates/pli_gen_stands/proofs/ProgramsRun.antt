-- The module of a well-typed program does what the program means.
use Rattle.std.specs.Prelude.{◌≡◌, ℕ, suc, ◌+◌, Option, Some, None, List, [], ◌∷◌, map, slice_get, refl}
use Rattle.std.proofs.Common.{ap, ◌∙◌, sym, subst, arith}
use Rattle.pli_machine_step.proofs.OutcomesAreOne.{one_outcome}
use Rattle.pli_type_tree.specs.TypedTree.{TypedUnit}
use Rattle.pli_code.specs.CodeTables as tables
use Rattle.pli_base.specs.Name.{Name}
use Rattle.pli_code.specs.Modules.{Member, unit_of, program_of}
use Rattle.pli_gen_emit.specs.TreeTranslation.{blocks_of, places_of, statement_place, unit_code}
use Rattle.pli_gen_emit.specs.Encoding.{code_of}
use Rattle.pli_gen.proofs.TablesLookUp.{looked_up_is_unit_code}
use Rattle.pli_meaning_simulation.specs.CodeStands.{UnitStands, UnitsStand}
use Rattle.pli_meaning_simulation.proofs.ProgramsSimulate.{simulation}
use Rattle.pli_meaning_tree.specs.Effects.{Label}
use Rattle.pli_meaning_typed.proofs.ProgramsMean.{always_meant}
use Rattle.pli_gen_stands.specs.Laws.{AreWellNumbered, CodeStands, ProgramsRunAsMeant}
use Rattle.pli_gen_stands.specs.Linked.{external_names, IsUnitOf, AreUnitsOf}
use Rattle.pli_gen_stands.proofs.TranslationStands.{Lead, unit_stands}

-- a unit of the module is the code of the unit
is_code : (program : List TypedUnit) (names : List Name) (t : TypedUnit) (m : Member) → IsUnitOf program names t m → unit_of m ≡ unit_code t m.links
is_code program names t m is =
    ap (λ c. tables.program_of c m.name m.links) is.code
    ∙ ap (λ n. tables.program_of (code_of t) n m.links) is.name
    ∙ looked_up_is_unit_code t m.links

-- the place of a label: that of its statement in the code of the unit of its number
abbrev place_in : Option TypedUnit → (number : ℕ) → ℕ
place_in None number = 0
place_in (Some t) number = statement_place (places_of (blocks_of t) 0) number

abbrev label_place : List TypedUnit → Label → ℕ
label_place ts label = place_in (slice_get ts label.unit) label.number

-- the labels of units, numbered from one on, lead to the places of their statements
abbrev LeadIn : (at : Label → ℕ) → (from : ℕ) → List TypedUnit → Type 0
LeadIn at from ts = (n : ℕ) (t : TypedUnit) → slice_get ts n ≡ Some t → Lead at (from + n) (places_of (blocks_of t) 0)

units_stand : (program : List TypedUnit) (names : List Name) (at : Label → ℕ) (from : ℕ) (ts : List TypedUnit) (ms : List Member) → AreWellNumbered ts → LeadIn at from ts
    → AreUnitsOf program names ts ms → UnitsStand program names at from ts (map unit_of ms)
units_stand program names at from [] [] numbered lead linked = tt
units_stand program names at from [] (m ∷ ms) numbered lead linked = absurd linked
units_stand program names at from (t ∷ ts) [] numbered lead linked = absurd linked
units_stand program names at from (t ∷ ts) (m ∷ ms) numbered lead linked =
    let first : from + 0 ≡ from = omega arith in
    let next : (n : ℕ) → from + suc n ≡ suc from + n = λ n. omega arith in (
      subst (UnitStands program names at from t) (sym (is_code program names t m linked.0))
          (unit_stands program names at from t m.links numbered.0 linked.0.links (subst (λ k. Lead at k (places_of (blocks_of t) 0)) first (lead 0 t refl))),
      units_stand program names at (suc from) ts ms numbered.1 (λ n v e. subst (λ k. Lead at k (places_of (blocks_of v) 0)) (next n) (lead (suc n) v e)) linked.1,
    )

labels_lead : (ts : List TypedUnit) → LeadIn (label_place ts) 0 ts
labels_lead ts n t e number =
    let at : 0 + n ≡ n = omega arith in
    ap (λ o. place_in o number) (ap (slice_get ts) at ∙ e)

pub code_stands : CodeStands
code_stands t m numbered linked =
    record {
      names = external_names m;
      at = label_place t.units;
      units = units_stand t.units (external_names m) (label_place t.units) 0 t.units m.units numbered (labels_lead t.units) linked.units;
      main = linked.main;
      greatest = linked.greatest;
    }

pub programs_run : ProgramsRunAsMeant
programs_run t m typed numbered linked steps =
    let meant = always_meant t typed steps in
    let p = program_of m in
    let runs = simulation t p (code_stands t m numbered linked) steps meant.0 meant.1 in
    record {
      outcome = meant.0;
      meant = meant.1;
      runs = runs;
      only = λ other run. one_outcome p steps other meant.0 run runs;
    }
