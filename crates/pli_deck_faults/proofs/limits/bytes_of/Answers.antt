use Rattle.std.proofs.Common.{◌≤◌, length, map, Some, ap, sym, ◌∙◌, arith}
use Rattle.std.specs.Option.{option_and_then}
use Rattle.pli_map.specs.ParameterTypes.{stated}
use Rattle.pli_type_tree.specs.views.TemplateView.{initial_view}
use Rattle.pli_code.specs.CodeTables.{stated_at}
use Rattle.pli_code.specs.views.CodeView.{code_view}
use Rattle.pli_deck_faults.specs.Counted.{counted_of}
use Rattle.pli_deck_faults.proofs.FoundPlaces.{found_at, none_at, places_there, some_there, none_there}
use Rattle.pli_deck_faults.proofs.limits.bytes_of.Goals as goal

pub returns-then-number-placed : goal.returns-then-number-placed
returns-then-number-placed c = λ e.
    let initial = map initial_view c.args.template.now.initial.items in
    let past : length c.args.placed.now ≤ c.args.template.now.description = omega (arith, c.from-number.ensures, c.if-number-placed.true) in
    sym (ap (λ o. counted_of (option_and_then stated o) initial) (none_at c.args.placed.now (code_view c.args.code.now).descriptions c.args.template.now.description e past))

pub returns-then-not-has_description : goal.returns-then-not-has_description
returns-then-not-has_description c = λ e.
    let initial = map initial_view c.args.template.now.initial.items in
    let none = none_there (stated_at (code_view c.args.code.now) c.args.template.now.description) (sym c.has_description.ensures ∙ c.if-not-has_description.true) in
    sym (ap (λ o. counted_of o initial) none)

pub returns : goal.returns
returns c = λ e.
    let initial = map initial_view c.args.template.now.initial.items in
    let code = code_view c.args.code.now in
    let k = c.from-number.result in
    let found = some_there (stated_at code c.args.template.now.description) (sym c.has_description.ensures ∙ c.if-not-has_description.false) in
    let there = ap (stated_at code) c.from-number.ensures ∙ found.1 in
    let f = found_at c.args.placed.now code.descriptions k c.index-placed-number.result e c.if-number-placed.false c.index-placed-number.is in
    c.counted.ensures found.0 (places_there code.descriptions k _ found.0 f there)
    ∙ ap (λ xs. counted_of (Some found.0) (map initial_view xs)) c.deref.ensures.value
    ∙ ap (λ o. counted_of o initial) (sym found.1)
