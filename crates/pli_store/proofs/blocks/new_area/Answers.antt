use Rattle.std.proofs.Common.{◌≡◌, ◌%◌, ap, arith}
use Rattle.std.specs.Int.{next_multiple_of}
use Rattle.pli_bytes.proofs.DescriptionTrees.{area_view}
use Rattle.pli_map.specs.Sizes.{size_of}
use Rattle.pli_map.specs.views.DescriptionView.{description_view}
use Rattle.pli_store.proofs.blocks.new_area.Goals as goal

pub boxed_area-requires : goal.boxed_area-requires
boxed_area-requires c =
    let d = c.args.description.now in
    let size : size_of (description_view d) ≡ next_multiple_of c.in-Area._bytes 8 = ap size_of (area_view d c.in-Area._bytes c.in-Area.is) in
    let even : next_multiple_of c.in-Area._bytes 8 % 8 ≡ 0 = omega arith in
    let measured = c.far_size.ensures in
    let small = c.requires in
    omega (arith, size, even, measured, small)
