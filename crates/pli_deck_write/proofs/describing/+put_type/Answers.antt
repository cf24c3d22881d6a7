use Rattle.std.proofs.Common.{◌≡◌, ◌<◌, ◌-◌, ◌++◌, ◌∷◌, [], length, map, refl, ap, sym, ◌∙◌, arith}
use Rattle.std.specs.List.{flat_map}
use Rattle.byteorder.specs.Endian.{big_bytes}
use Rattle.std.proofs.lemmas.Result.{on_ok_weaker}
use Rattle.pli_map.specs.ParameterTypes.{Stated}
use Rattle.pli_map.specs.views.DescriptionView.{description_view}
use Rattle.pli_map.specs.views.ParameterView.{type_view}
use Rattle.pli_code.specs.Versions.{written}
use Rattle.pli_code.proofs.PutLemmas.{then_put}
use Rattle.pli_deck_write.specs.Descriptions.{any_string_tag, dimensions, description_within}
use Rattle.pli_deck_write.proofs.DescriptionPuts.{too_deep_bytes, stated_bytes, any_string_bytes, any_array_bytes, array_of_bytes, structure_of_bytes}
use Rattle.pli_deck_write.proofs.describing.+put_type.Goals as goal

pub put_type-returns-then-levels-eq0 : goal.put_type-returns-then-levels-eq0
put_type-returns-then-levels-eq0 t c =
    on_ok_weaker c.put_byte.result (λ e. e ∙ ap (λ bs. c.args.out.now.items ++ bs) (sym (too_deep_bytes c.args.levels (type_view c.args.value.now) (omega (arith, c.if-levels-eq0.true))))) c.put_byte.ensures

pub put_type-returns-in-Stated : goal.put_type-returns-in-Stated
put_type-returns-in-Stated t c =
    on_ok_weaker c.put_within.result (λ e. e ∙ ap (λ bs. c.args.out.now.items ++ bs) (sym (stated_bytes c.args.levels c.args.value.now c.in-Stated.description c.in-Stated.is))) c.put_within.ensures

pub put_type-returns-in-AnyString : goal.put_type-returns-in-AnyString
put_type-returns-in-AnyString t c =
    on_ok_weaker c.put_byte-in-AnyString.result
    (λ e. e ∙ ap (λ n. c.args.out.now.items ++ n ∷ []) c.any_string_tag.ensures
    ∙ ap (λ bs. c.args.out.now.items ++ bs) (sym (any_string_bytes c.args.levels c.args.value.now c.in-AnyString.form (omega (arith, c.if-levels-eq0.false)) c.in-AnyString.is)))
    c.put_byte-in-AnyString.ensures

pub put_type-returns-in_ok-put_with_byte-in-AnyArray : goal.put_type-returns-in_ok-put_with_byte-in-AnyArray
put_type-returns-in_ok-put_with_byte-in-AnyArray t c =
    let k = c.in-AnyArray.dimensions in
    let element = c.in-AnyArray.element in
    let tagged = c.put_with_byte.new.out.items in
    let some : 0 < c.args.levels = omega (arith, c.if-levels-eq0.false) in
    on_ok_weaker c.put_type.result
    (λ e. then_put _ _ _ (13 ∷ k ∷ []) _ _ c.in_ok-put_with_byte-in-AnyArray.ensures (any_array_bytes c.args.levels c.args.value.now k element some c.in-AnyArray.is)
    (e ∙ ap (λ u. tagged ++ (description_within written (c.args.levels - 1)).bytes_of (type_view u)) c.deref.ensures))
    c.put_type.ensures

pub put_type-returns-in_ok-put_dimensions-in-ArrayOf : goal.put_type-returns-in_ok-put_dimensions-in-ArrayOf
put_type-returns-in_ok-put_dimensions-in-ArrayOf t c =
    let bounds = c.in-ArrayOf.bounds in
    let element = c.in-ArrayOf.element in
    let tagged = c.put_byte-in-ArrayOf.new.out.items in
    let sized = c.put_dimensions.new.out.items in
    let some : 0 < c.args.levels = omega (arith, c.if-levels-eq0.false) in
    let first = then_put c.args.out.now.items tagged sized (8 ∷ []) (dimensions.bytes_of bounds.items) (8 ∷ dimensions.bytes_of bounds.items) c.in_ok-put_byte-in-ArrayOf.ensures refl
    (c.in_ok-put_dimensions-in-ArrayOf.ensures ∙ ap (λ bs. tagged ++ dimensions.bytes_of bs) c.deref-in-ArrayOf.ensures.value) in
    on_ok_weaker c.put_type-in-ArrayOf.result
    (λ e. then_put _ _ _ _ _ _ first (array_of_bytes c.args.levels c.args.value.now bounds element some c.in-ArrayOf.is)
    (e ∙ ap (λ u. sized ++ (description_within written (c.args.levels - 1)).bytes_of (type_view u)) c.deref-in-ArrayOf-2.ensures))
    c.put_type-in-ArrayOf.ensures

pub put_type-returns-in_ok-put_count-in-StructureOf : goal.put_type-returns-in_ok-put_count-in-StructureOf
put_type-returns-in_ok-put_count-in-StructureOf t c =
    let members = c.in-StructureOf.members in
    let tagged = c.put_byte-in-StructureOf.new.out.items in
    let counted = c.put_count.new.out.items in
    let some : 0 < c.args.levels = omega (arith, c.if-levels-eq0.false) in
    let count = big_bytes 2 (length members.items) in
    let long : c.len.result ≡ length members.items = omega (arith, c.len.ensures, members.ok) in
    let first = then_put c.args.out.now.items tagged counted (9 ∷ []) count (9 ∷ count) c.in_ok-put_byte-in-StructureOf.ensures refl
    (c.in_ok-put_count-in-StructureOf.ensures ∙ ap (λ n. tagged ++ big_bytes 2 n) long) in
    on_ok_weaker c.put_types.result
    (λ e. then_put _ _ _ _ _ _ first (structure_of_bytes c.args.levels c.args.value.now members some c.in-StructureOf.is)
    (e ∙ ap (λ ts. counted ++ flat_map (description_within written (c.args.levels - 1)).bytes_of (map type_view ts)) c.deref-in-StructureOf.ensures.value))
    c.put_types.ensures
