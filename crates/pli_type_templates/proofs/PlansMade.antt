-- Plans that are put together member by member, and their members.
use Rattle.std.proofs.Common.{◌≡◌, ℕ, zero, suc, Some, None, List, [], ◌∷◌, ◌++◌, Vec, refl, ap, sym, ◌∙◌}
use Rattle.std.specs.Prelude.{slice_get}
use Rattle.std.specs.Global.{Global, Box}
use Rattle.std.proofs.lemmas.Option.{same_Some, none-some}
use Rattle.pli_type_templates.specs.Plans.{Plan, OfArray, OfStructure, Plans, NoPlans, PlanThen, leaf_in, leaf_in_member, levels_in, levels_in_member}
use Rattle.pli_type_templates.specs.declared.plan.ArrayLevel.{ArrayLevel}
use Rattle.pli_type_templates.specs.declared.plan.Plan as program
use Rattle.pli_type_templates.specs.declared.plan.Plan.TheVariants as made
use Rattle.pli_type_templates.specs.declared.plan.Plan.TheFolds as folds
use Rattle.pli_type_templates.specs.views.PlanView as view
use Rattle.pli_type_templates.specs.views.PlanView.{plans_of}

-- plans in front of others
abbrev pub before : List Plan → Plans → Plans
before [] others = others
before (p ∷ ps) others = PlanThen p (before ps others)

pub before_more : (ps : List Plan) (p : Plan) (others : Plans) → before (ps ++ p ∷ []) others ≡ before ps (PlanThen p others)
before_more [] p others = refl
before_more (q ∷ ps) p others = ap (λ x. PlanThen q x) (before_more ps p others)

pub before_none : (ps : List Plan) → before ps NoPlans ≡ plans_of ps
before_none [] = refl
before_none (p ∷ ps) = ap (λ x. PlanThen p x) (before_none ps)

-- the plan of an array
pub array_view : (p : program.Plan) (level : ArrayLevel) (element : Box program.Plan) → p ≡ made.Array level element
    → view.plan_view p ≡ OfArray level (view.plan_view element.value)
array_view p level element e = ap view.plan_view (e ∙ sym (made.rolls-Array level element)) ∙ folds.fold-roll-Plan Plan view.level_view (program.Plan-F.Array level element)

-- the plan of a structure
pub structure_view : (p : program.Plan) (v : Vec program.Plan Global) → p ≡ made.Structure v → view.plan_view p ≡ OfStructure (view.plans_view v.items)
structure_view p v e = ap view.plan_view (e ∙ sym (made.rolls-Structure v)) ∙ folds.fold-roll-Plan Plan view.level_view (program.Plan-F.Structure v)

-- what a way leads to that begins at a member
leaf_at : (ps : List program.Plan) (i : ℕ) (path : List ℕ) (p : program.Plan) → slice_get ps i ≡ Some p
    → leaf_in_member (view.plans_view ps) i path ≡ leaf_in (view.plan_view p) path
leaf_at [] i path p e = absurd (none-some p e)
leaf_at (q ∷ ps) zero path p e = ap (λ x. leaf_in (view.plan_view x) path) (same_Some q p e)
leaf_at (q ∷ ps) (suc i) path p e = leaf_at ps i path p e

levels_at : (ps : List program.Plan) (i : ℕ) (path : List ℕ) (p : program.Plan) → slice_get ps i ≡ Some p
    → levels_in_member (view.plans_view ps) i path ≡ levels_in (view.plan_view p) path
levels_at [] i path p e = absurd (none-some p e)
levels_at (q ∷ ps) zero path p e = ap (λ x. levels_in (view.plan_view x) path) (same_Some q p e)
levels_at (q ∷ ps) (suc i) path p e = levels_at ps i path p e

no_leaf_at : (ps : List program.Plan) (i : ℕ) (path : List ℕ) → slice_get ps i ≡ None → leaf_in_member (view.plans_view ps) i path ≡ None
no_leaf_at [] i path e = refl
no_leaf_at (q ∷ ps) zero path e = absurd (none-some q (sym e))
no_leaf_at (q ∷ ps) (suc i) path e = no_leaf_at ps i path e

no_levels_at : (ps : List program.Plan) (i : ℕ) (path : List ℕ) → slice_get ps i ≡ None → levels_in_member (view.plans_view ps) i path ≡ []
no_levels_at [] i path e = refl
no_levels_at (q ∷ ps) zero path e = absurd (none-some q (sym e))
no_levels_at (q ∷ ps) (suc i) path e = no_levels_at ps i path e

-- a way through a structure: the plan says it is one, and the way begins with this number
pub leaf_through : (p : Plan) (ps : List program.Plan) (path : List ℕ) (i : ℕ) (inner : List ℕ) (q : program.Plan)
    → p ≡ OfStructure (view.plans_view ps) → path ≡ i ∷ inner → slice_get ps i ≡ Some q
    → leaf_in (view.plan_view q) inner ≡ leaf_in p path
leaf_through p ps path i inner q is way found = sym (ap (λ x. leaf_in x path) is ∙ ap (leaf_in (OfStructure (view.plans_view ps))) way ∙ leaf_at ps i inner q found)

pub levels_through : (p : Plan) (ps : List program.Plan) (path : List ℕ) (i : ℕ) (inner : List ℕ) (q : program.Plan)
    → p ≡ OfStructure (view.plans_view ps) → path ≡ i ∷ inner → slice_get ps i ≡ Some q
    → levels_in (view.plan_view q) inner ≡ levels_in p path
levels_through p ps path i inner q is way found =
    sym (ap (λ x. levels_in x path) is ∙ ap (levels_in (OfStructure (view.plans_view ps))) way ∙ levels_at ps i inner q found)

pub leaf_nowhere : (p : Plan) (ps : List program.Plan) (path : List ℕ) (i : ℕ) (inner : List ℕ)
    → p ≡ OfStructure (view.plans_view ps) → path ≡ i ∷ inner → slice_get ps i ≡ None → None ≡ leaf_in p path
leaf_nowhere p ps path i inner is way found = sym (ap (λ x. leaf_in x path) is ∙ ap (leaf_in (OfStructure (view.plans_view ps))) way ∙ no_leaf_at ps i inner found)

pub levels_nowhere : (p : Plan) (ps : List program.Plan) (path : List ℕ) (i : ℕ) (inner : List ℕ)
    → p ≡ OfStructure (view.plans_view ps) → path ≡ i ∷ inner → slice_get ps i ≡ None → [] ≡ levels_in p path
levels_nowhere p ps path i inner is way found =
    sym (ap (λ x. levels_in x path) is ∙ ap (levels_in (OfStructure (view.plans_view ps))) way ∙ no_levels_at ps i inner found)
