-- Where the walk over a unit begins, and what it has done at its end.
use Rattle.std.proofs.Common.{◌≡◌, ◌≤◌, ◌∷◌, [], ℕ, List, Option, map}
use Rattle.std.proofs.Common.{ap, sym, ◌∙◌, refl, subst, arith}
use Rattle.pli_base.specs.declared.statement.Procedure.{Procedure, out-Procedure}
use Rattle.pli_base.specs.declared.statement.Statement.{Statement}
use Rattle.pli_base.specs.Statements as tree
use Rattle.pli_base.specs.laws.StatementLaws.{unit_out}
use Rattle.pli_base.specs.views.StatementView.{statements_view, unit_view}
use Rattle.pli_map.specs.Description.{Description}
use Rattle.pli_declare.specs.ResolvedUnits.{resolved_unit_of}
use Rattle.pli_type_rules.specs.Checked.{first_inside, in_unit}
use Rattle.pli_type_rules.specs.NamedUnits.{block_symbols, is_based, named_unit, templates_of}
use Rattle.pli_type_rules.specs.StatementTyping.{Enclosing, labels_of, statements_typed}
use Rattle.pli_type_names.specs.UnitNaming.{Names, inside}
use Rattle.pli_type_templates.specs.declared.unit_templates.UnitTemplates.{UnitTemplates}
use Rattle.pli_type_templates.specs.views.UnitView.{automatic_at, based_at}
use Rattle.pli_type_tree.specs.TypedTree.{Global, TypedStatements}
use Rattle.pli_type_parts.specs.Around.{outermost, surroundings_of}
use Rattle.pli_type_parts.specs.Parts.{after_list, unit_named}
use Rattle.pli_type_walk.specs.Walking.{IsDeep, IsPlaced, Walks, WalksList, around, based_names, next_at, unit_at}
use Rattle.pli_type_walk.specs.declared.walk.TypingWalk.{TypingWalk}
use Rattle.pli_type_parts.specs.views.AroundView.{around_view}
use Rattle.pli_type_walk.proofs.Blocks.{same_templates}
use Rattle.pli_type_walk.proofs.Units.{typed_list}
use Rattle.pli_type_walk.proofs.WalkLemmas.{as_typed}

-- a unit's name and the numbers of its PROCEDURE and END, by the parts of its tree
pub unit_named_so : (u : Procedure) → ((unit_view u).heading.name.name ≡ (out-Procedure u).name.name)
    × ((unit_view u).heading.number ≡ (out-Procedure u).number) × ((unit_view u).end ≡ (out-Procedure u).end)
unit_named_so u = (
  ap (λ (v : tree.ExternalProcedure). v.heading.name.name) (unit_out u),
  ap (λ (v : tree.ExternalProcedure). v.heading.number) (unit_out u),
  ap (λ (v : tree.ExternalProcedure). v.end) (unit_out u),
)

-- in the external procedure of a unit
abbrev pub first_names : Procedure → Names
first_names u = record { unit = u; blocks = 0 ∷ [] }

pub first_entered : (u : Procedure) (old new : Names) → old ≡ record { unit = u; blocks = [] } → new ≡ inside old 0
    → new ≡ first_names u
first_entered u old new same enters = enters ∙ ap (λ n. inside n 0) same

not_first : (k : ℕ) → 1 ≤ k → k ≡ 0 → ⊥
not_first k le is = omega (arith, le, is)

-- what the variables of its blocks are made from
abbrev pub Templates : Procedure → UnitTemplates → Type 0
Templates u t =
    (block : ℕ) → automatic_at t block ≡ (named_unit 63 (resolved_unit_of (unit_view u))).automatic block

pub templates_first : (u : Procedure) (t : UnitTemplates) → Templates u t
    → (block : ℕ) → automatic_at t block ≡ (unit_named u).automatic block
unfolding unit_named
templates_first u t automatic block = automatic block

-- and what the BASED ones are
abbrev pub BasedTemplates : Procedure → UnitTemplates → Type 0
BasedTemplates u t =
    (block : ℕ) → based_at t block ≡ templates_of (is_based 63) (block_symbols (resolved_unit_of (unit_view u)) block)

based_first : (u : Procedure) (t : UnitTemplates) → BasedTemplates u t
    → (block : ℕ) → based_at t block ≡ ((unit_named u).naming []).based block
unfolding unit_named
based_first u t based block = based block

pub globals_first : (u : Procedure) (globals : List Global)
    → globals ≡ (named_unit 63 (resolved_unit_of (unit_view u))).globals → globals ≡ (unit_named u).globals
unfolding unit_named
globals_first u globals is = is

pub placed_first : (u : Procedure) (w : TypingWalk) (labels : List ℕ) (value : Option Description) (t : UnitTemplates)
    → w.naming ≡ first_names u → around_view w.surroundings ≡ outermost labels value → w.next.block ≡ 1
    → Templates u t → ((k : ℕ) → (k ≡ 0 → ⊥) → automatic_at w.templates k ≡ automatic_at t k)
    → BasedTemplates u t → w.templates.based ≡ t.based
    → IsPlaced w
placed_first u w labels value t named is first automatic others based same = record {
  blocks = ap (λ (n : Names). n.blocks) named
      ∙ sym (ap (λ a. map (λ (b : Enclosing). b.number) (surroundings_of a).blocks) is);
  templates = λ k le. others k (not_first k (subst (λ n. n ≤ k) first le))
      ∙ templates_first u t automatic k
      ∙ sym (ap (λ (n : Names). (unit_named n.unit).automatic k) named);
  based = λ k. same_templates w.templates t k same ∙ based_first u t based k
      ∙ sym (ap (λ (n : Names). ((unit_named n.unit).naming []).based k) named);
  deep = subst IsDeep (sym is) (omega arith);
}

-- its statements
abbrev pub all_of : Procedure → tree.Statements
all_of u = statements_view (out-Procedure u).statements.items

-- the walk over all of them
pub whole_walked : (u : Procedure) (old new : TypingWalk) (ss : List Statement) (list : Option TypedStatements) (value : Option Description)
    → old.naming ≡ first_names u → around_view old.surroundings ≡ outermost (labels_of (statements_view ss)) value
    → value ≡ (unit_named u).returned 0
    → next_at old ≡ first_inside → ss ≡ (out-Procedure u).statements.items
    → WalksList old new (around old) (statements_view ss) list
    → Walks TypedStatements old new (after_list (unit_named u).is_based first_inside (all_of u)) (typed_list u (all_of u)) list
whole_walked u old new ss list value named is gives next same w =
    let ts = statements_view ss in
    let f = (unit_named u).is_based in
    as_typed old new (after_list (based_names old) (next_at old) ts) (after_list f first_inside (all_of u))
    (statements_typed (unit_at old) (around old) (next_at old) ts) (typed_list u (all_of u)) list list
    (ap (λ (n : Names). after_list (unit_named n.unit).is_based (next_at old) ts) named
    ∙ ap (λ x. after_list f x ts) next ∙ ap (λ xs. after_list f first_inside (statements_view xs)) same)
    (ap (λ (n : Names). statements_typed (unit_named n.unit) (around old) (next_at old) ts) named
    ∙ ap (λ a. statements_typed (unit_named u) (surroundings_of a) (next_at old) ts) is
    ∙ ap (λ v. statements_typed (unit_named u) (in_unit v ts) (next_at old) ts) gives
    ∙ ap (λ x. statements_typed (unit_named u) (in_unit ((unit_named u).returned 0) ts) x ts) next
    ∙ ap (λ xs. typed_list u (statements_view xs)) same)
    refl w
