use Rattle.pli_world.specs.laws.OperationLaws as law
use Rattle.pli_world.proofs.laws.operations_keep.Goals as goal

pub returns-clause-making : goal.returns-clause-making
returns-clause-making c = law.making_keeps

pub returns-clause-loading : goal.returns-clause-loading
returns-clause-loading c = law.loading_keeps

pub returns-clause-storing : goal.returns-clause-storing
returns-clause-storing c = law.storing_keeps

pub returns-clause-walking : goal.returns-clause-walking
returns-clause-walking c = law.walking_keeps

pub returns-clause-slot : goal.returns-clause-slot
returns-clause-slot c = law.slot_keeps

pub returns-clause-dummy : goal.returns-clause-dummy
returns-clause-dummy c = law.dummy_keeps

pub returns-clause-entering : goal.returns-clause-entering
returns-clause-entering c = law.entering_adds

pub returns-clause-leaving : goal.returns-clause-leaving
returns-clause-leaving c = law.leaving_takes

pub returns-clause-clearing : goal.returns-clause-clearing
returns-clause-clearing c = law.clearing_keeps

pub returns-clause-statement : goal.returns-clause-statement
returns-clause-statement c = law.statement_keeps

pub returns-clause-printing : goal.returns-clause-printing
returns-clause-printing c = law.printing_keeps

pub returns-clause-stepping : goal.returns-clause-stepping
returns-clause-stepping c = law.stepping_counts

pub returns-clause-parts_held : goal.returns-clause-parts_held
returns-clause-parts_held c = law.parts_held_keep

pub returns-clause-parts_stored : goal.returns-clause-parts_stored
returns-clause-parts_stored c = law.parts_stored_keep

pub returns-clause-copying : goal.returns-clause-copying
returns-clause-copying c = law.copying_keeps

pub returns-clause-leading : goal.returns-clause-leading
returns-clause-leading c = law.leading_keeps

pub returns-clause-subscript : goal.returns-clause-subscript
returns-clause-subscript c = law.subscript_keeps

pub returns-clause-calculating : goal.returns-clause-calculating
returns-clause-calculating c = law.calculating_keeps

pub returns-clause-one_static : goal.returns-clause-one_static
returns-clause-one_static c = law.static_keeps

pub returns-clause-statics_by_number : goal.returns-clause-statics_by_number
returns-clause-statics_by_number c = law.statics_keep _

pub returns-clause-statics_by_name : goal.returns-clause-statics_by_name
returns-clause-statics_by_name c = law.statics_keep _

pub returns-clause-stacking : goal.returns-clause-stacking
returns-clause-stacking c = law.stacking_keeps

pub returns-clause-unstacking : goal.returns-clause-unstacking
returns-clause-unstacking c = law.unstacking_keeps

pub returns-clause-counting : goal.returns-clause-counting
returns-clause-counting c = law.counting_keeps

pub returns-clause-based : goal.returns-clause-based
returns-clause-based c = law.based_keeps

pub returns-clause-allocating : goal.returns-clause-allocating
returns-clause-allocating c = law.allocating_keeps

pub returns-clause-freeing : goal.returns-clause-freeing
returns-clause-freeing c = law.freeing_keeps

pub returns-clause-address : goal.returns-clause-address
returns-clause-address c = law.address_keeps

pub returns-clause-block : goal.returns-clause-block
returns-clause-block c = law.block_keeps

pub returns-clause-offset : goal.returns-clause-offset
returns-clause-offset c = law.offset_keeps

pub returns-clause-pointer : goal.returns-clause-pointer
returns-clause-pointer c = law.pointer_keeps

pub returns-clause-assigning : goal.returns-clause-assigning
returns-clause-assigning c = law.assigning_keeps

pub returns-clause-emptying : goal.returns-clause-emptying
returns-clause-emptying c = law.emptying_keeps

pub returns-clause-establishing : goal.returns-clause-establishing
returns-clause-establishing c = law.establishing_keeps

pub returns-clause-signalling : goal.returns-clause-signalling
returns-clause-signalling c = law.signalling_keeps

pub returns-clause-reverting : goal.returns-clause-reverting
returns-clause-reverting c = law.reverting_keeps

pub returns-clause-line : goal.returns-clause-line
returns-clause-line c = law.line_keeps

pub returns-clause-dimension : goal.returns-clause-dimension
returns-clause-dimension c = law.dimension_keeps

pub returns-clause-bound : goal.returns-clause-bound
returns-clause-bound c = law.bound_keeps

pub returns-clause-fitting : goal.returns-clause-fitting
returns-clause-fitting c = law.fitting_keeps

pub returns-clause-string_dummy : goal.returns-clause-string_dummy
returns-clause-string_dummy c = law.string_dummy_keeps
