use Rattle.pli_meaning_typed.proofs.ExamplesAreTyped as law
use Rattle.pli_meaning_typed.proofs.laws.worked_examples.Goals as goal

pub returns-clause-program : goal.returns-clause-program
returns-clause-program c = law.example_is

pub returns-clause-groups : goal.returns-clause-groups
returns-clause-groups c = law.groups_are

pub returns-clause-stack : goal.returns-clause-stack
returns-clause-stack c = law.stack_is

pub returns-clause-pointers : goal.returns-clause-pointers
returns-clause-pointers c = law.pointers_are

pub returns-clause-units : goal.returns-clause-units
returns-clause-units c = law.units_are

pub returns-clause-areas : goal.returns-clause-areas
returns-clause-areas c = law.areas_are

pub returns-clause-conditions : goal.returns-clause-conditions
returns-clause-conditions c = law.conditions_are

pub returns-clause-stars : goal.returns-clause-stars
returns-clause-stars c = law.stars_are
