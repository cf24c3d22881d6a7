use Rattle.std.proofs.Common.{◌≡◌, None, sym, subst, arith}
use Rattle.std.proofs.Math.Nat.{min-le_left}
use Rattle.std.proofs.lemmas.Result.{err_from_is_err_and}
use Rattle.pli_map.specs.Sizes.{size_of}
use Rattle.pli_map.specs.views.DescriptionView.{description_view}
use Rattle.pli_value.specs.declared.locator.Locator.{Locator}
use Rattle.pli_world.specs.Areas.{place_in}
use Rattle.pli_world.specs.Storage.{Generation}
use Rattle.pli_store.specs.views.StorageView.{place_view, with_storage}
use Rattle.pli_store.proofs.AreaAnswers.{allocated_full, allocated_refused}
use Rattle.pli_store.proofs.ChangedBlocks.{area_described, area_inside, area_is}
use Rattle.pli_store.proofs.storage.Storage.refuse_in.Goals as goal

pub returns-in_err-at : goal.returns-in_err-at
returns-in_err-at c = λ w vs held.
    let p = err_from_is_err_and c.from_residual.result c.from_residual.ensures.1 in
    let d = description_view c.args.description.now in
    let before = with_storage c.args.self.now w in
    rw (p.1, p.2) (allocated_refused (place_view c.args.area) before d vs held {T = Locator} (λ l. l) before c.in_err-at.field-0.0 (c.in_err-at.ensures w))

pub index-requires : goal.index-requires
index-requires c =
    let inside = area_inside c.args.self.now.generations.items (place_view c.args.area) c.in_ok-at.at c.in_ok-at.ensures in
    omega (arith, inside)

pub is_exceeded-requires : goal.is_exceeded-requires
is_exceeded-requires c =
    area_described c.args.self.now.generations.items (place_view c.args.area) c.in_ok-at.at c.in_ok-at.ensures c.index.result.now c.index.ensures

pub returns-then-is_exceeded : goal.returns-then-is_exceeded
returns-then-is_exceeded c = λ w vs held.
    let items = c.args.self.now.generations.items in
    let p = place_view c.args.area in
    let s = c.in_ok-at.ensures in
    let d = description_view c.args.description.now in
    let least = min-le_left (size_of d) 4294967296 in
    let full : place_in (size_of s.generation.description) s.generation.blocks (size_of d) ≡ None =
    subst (λ (x : Generation). place_in (size_of x.description) x.blocks (size_of d) ≡ None)
    (sym (area_is items p c.in_ok-at.at s c.index.result.now c.index.ensures))
    (c.is_exceeded.ensures c.if-is_exceeded.true (size_of d) (omega (arith, c.far_size.ensures, least))) in
    allocated_full p (with_storage c.args.self.now w) d vs held c.in_ok-at.at s full
