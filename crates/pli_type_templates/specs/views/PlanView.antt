-- What plans of the program say, apart from where they lie in memory.
use Rattle.std.specs.Prelude.{List, [], ◌∷◌, map}
use Rattle.pli_map.specs.views.DescriptionView.{description_view}
use Rattle.pli_type_templates.specs.Plans as plain
use Rattle.pli_type_templates.specs.declared.plan.Leaf.{Leaf}
use Rattle.pli_type_templates.specs.declared.plan.Plan.{Plan}
use Rattle.pli_type_templates.specs.declared.plan.Plan.TheOpen.{Plan-F}
use Rattle.pli_type_templates.specs.declared.plan.Plan.TheFolds.{fold-Plan}

-- a scalar with its byte
abbrev pub leaf_view : Leaf → plain.Leaf
leaf_view l = record { first = l.first; description = description_view l.description.now }

-- a list of plans as those of the members of a structure
abbrev pub plans_of : List plain.Plan → plain.Plans
plans_of [] = plain.NoPlans
plans_of (p ∷ ps) = plain.PlanThen p (plans_of ps)

-- one level, with what each plan inside says in its place
abbrev pub level_view : Plan-F plain.Plan → plain.Plan
level_view (Plan-F.Scalar leaf) = plain.OfScalar (leaf_view leaf)
level_view (Plan-F.Array level element) = plain.OfArray level element.value
level_view (Plan-F.Structure members) = plain.OfStructure (plans_of members.items)

-- a plan
abbrev pub plan_view : Plan → plain.Plan
plan_view = fold-Plan plain.Plan level_view

-- what the plans of members say
abbrev pub plans_view : List Plan → plain.Plans
plans_view ps = plans_of (map plan_view ps)
