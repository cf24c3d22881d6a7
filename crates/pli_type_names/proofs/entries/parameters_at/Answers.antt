use Rattle.std.proofs.Common.{◌≡◌, Some, length, map, option_map, slice_get, refl, ap, sym, ◌∙◌}
use Rattle.std.proofs.lemmas.Option.{slice_get-map, slice_get_past, slice_get_read}
use Rattle.pli_map.specs.views.ParameterView.{type_seen}
use Rattle.pli_type_names.specs.BlockEntries.{parameters_in}
use Rattle.pli_type_names.specs.views.EntryView.{entry_view}
use Rattle.pli_type_names.proofs.ListLemmas.{none_mapped}
use Rattle.pli_type_names.proofs.entries.parameters_at.Goals as goal

pub returns-in_default : goal.returns-in_default
returns-in_default c =
    let es = c.args.entries.now in
    let past = slice_get_past es c.args.block c.in_default.ensures.lookup.3 in
    none_mapped type_seen c.args.none.now c.requires
    ∙ sym (ap parameters_in (slice_get-map entry_view es c.args.block ∙ ap (option_map entry_view) past))

pub returns : goal.returns
returns c =
    let es = c.args.entries.now in
    let entry = c.in-Some.entry.now in
    let there : slice_get es c.args.block ≡ Some entry =
    slice_get_read es (length es) c.args.block entry refl c.in-Some.ensures.lookup.3.0 c.in-Some.ensures.lookup.1 in
    ap (map type_seen) c.deref.ensures.value
    ∙ sym (ap parameters_in (slice_get-map entry_view es c.args.block ∙ ap (option_map entry_view) there))
