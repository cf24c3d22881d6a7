use Rattle.std.proofs.Common.{min, map, slice_get, ap, sym, ◌∙◌}
use Rattle.pli_deck_write.specs.ModuleSpelling.{bytes_in_unit}
use Rattle.pli_code.specs.views.CodeView.{member_view}
use Rattle.pli_deck_faults.proofs.UnitSizes.{sizes_at, unit_there}
use Rattle.pli_deck_faults.proofs.extent.external_bytes.Goals as goal

pub declared_bytes-requires : goal.declared_bytes-requires
declared_bytes-requires c =
    c.deref.ensures.value
    ∙ sizes_at c.args.all.now c.args.units.now c.from-place.result c.index-all-place.result c.index-units-place.result c.requires c.if-place-units.false c.index-all-place.is

pub returns : goal.returns
returns c =
    let units = c.args.units.now in
    let k = c.from-place.result in
    let number = c.args.external.now.global in
    c.declared_bytes.ensures
    ∙ ap (λ u. min (bytes_in_unit u number) 4294967296) (sym (unit_there units k c.index-units-place.result c.if-place-units.false))
    ∙ ap (λ n. min (bytes_in_unit (slice_get (map member_view units) n) number) 4294967296) c.from-place.ensures
