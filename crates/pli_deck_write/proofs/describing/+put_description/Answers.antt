use Rattle.std.proofs.Common.{◌≡◌, ◌<◌, ◌-◌, ◌++◌, ◌∷◌, [], length, map, refl, ap, sym, ◌∙◌, arith}
use Rattle.std.specs.List.{flat_map}
use Rattle.byteorder.specs.Endian.{big_bytes}
use Rattle.pli_code.specs.Versions.{written}
use Rattle.pli_deck_write.specs.Descriptions.{dimensions, description_within}
use Rattle.std.proofs.lemmas.Result.{on_ok_weaker}
use Rattle.pli_deck_write.proofs.DescriptionPuts.{too_deep_bytes, fixed_bytes, character_bytes, varying_bytes, bit_bytes, pointer_bytes, offset_bytes, area_bytes, array_bytes, structure_bytes}
use Rattle.pli_map.specs.ParameterTypes.{Stated}
use Rattle.pli_map.specs.views.DescriptionView.{description_view}
use Rattle.pli_code.proofs.PutLemmas.{then_put}
use Rattle.pli_deck_write.proofs.describing.+put_description.Goals as goal

pub put_within-returns-then-levels-eq0 : goal.put_within-returns-then-levels-eq0
put_within-returns-then-levels-eq0 t c =
    on_ok_weaker c.put_byte.result (λ e. e ∙ ap (λ bs. c.args.out.now.items ++ bs) (sym (too_deep_bytes c.args.levels (Stated (description_view c.args.value.now)) (omega (arith, c.if-levels-eq0.true))))) c.put_byte.ensures

pub put_within-returns-in-FixedBinary : goal.put_within-returns-in-FixedBinary
put_within-returns-in-FixedBinary t c =
    on_ok_weaker c.put_with_byte.result (λ e. e ∙ ap (λ bs. c.args.out.now.items ++ bs) (sym (fixed_bytes c.args.levels c.args.value.now c.in-FixedBinary.precision (omega (arith, c.if-levels-eq0.false)) c.in-FixedBinary.is))) c.put_with_byte.ensures

pub put_within-returns-in-Character : goal.put_within-returns-in-Character
put_within-returns-in-Character t c =
    on_ok_weaker c.put_with_short.result (λ e. e ∙ ap (λ bs. c.args.out.now.items ++ bs) (sym (character_bytes c.args.levels c.args.value.now c.in-Character.length (omega (arith, c.if-levels-eq0.false)) c.in-Character.is))) c.put_with_short.ensures

pub put_within-returns-in-Varying : goal.put_within-returns-in-Varying
put_within-returns-in-Varying t c =
    on_ok_weaker c.put_with_short-in-Varying.result (λ e. e ∙ ap (λ bs. c.args.out.now.items ++ bs) (sym (varying_bytes c.args.levels c.args.value.now c.in-Varying.length (omega (arith, c.if-levels-eq0.false)) c.in-Varying.is))) c.put_with_short-in-Varying.ensures

pub put_within-returns-in-Bit : goal.put_within-returns-in-Bit
put_within-returns-in-Bit t c =
    on_ok_weaker c.put_with_short-in-Bit.result (λ e. e ∙ ap (λ bs. c.args.out.now.items ++ bs) (sym (bit_bytes c.args.levels c.args.value.now c.in-Bit.length (omega (arith, c.if-levels-eq0.false)) c.in-Bit.is))) c.put_with_short-in-Bit.ensures

pub put_within-returns-in_ok-put_byte-in-Area : goal.put_within-returns-in_ok-put_byte-in-Area
put_within-returns-in_ok-put_byte-in-Area t c =
    on_ok_weaker c.put_area_size.result (then_put _ _ _ _ _ _ c.in_ok-put_byte-in-Area.ensures (area_bytes c.args.levels c.args.value.now c.in-Area.bytes (omega (arith, c.if-levels-eq0.false)) c.in-Area.is)) c.put_area_size.ensures

pub put_within-returns-in-Pointer : goal.put_within-returns-in-Pointer
put_within-returns-in-Pointer t c =
    on_ok_weaker c.put_byte-in-Pointer.result (λ e. e ∙ ap (λ bs. c.args.out.now.items ++ bs) (sym (pointer_bytes c.args.levels c.args.value.now (omega (arith, c.if-levels-eq0.false)) c.in-Pointer.is))) c.put_byte-in-Pointer.ensures

pub put_within-returns-in-Offset : goal.put_within-returns-in-Offset
put_within-returns-in-Offset t c =
    on_ok_weaker c.put_byte-in-Offset.result (λ e. e ∙ ap (λ bs. c.args.out.now.items ++ bs) (sym (offset_bytes c.args.levels c.args.value.now (omega (arith, c.if-levels-eq0.false)) c.in-Offset.is))) c.put_byte-in-Offset.ensures

pub put_within-returns-in_ok-put_dimensions-in-Array : goal.put_within-returns-in_ok-put_dimensions-in-Array
put_within-returns-in_ok-put_dimensions-in-Array t c =
    let bounds = c.in-Array.bounds in
    let element = c.in-Array.element in
    let tagged = c.put_byte-in-Array.new.out.items in
    let sized = c.put_dimensions.new.out.items in
    let some : 0 < c.args.levels = omega (arith, c.if-levels-eq0.false) in
    let first = then_put c.args.out.now.items tagged sized (8 ∷ []) (dimensions.bytes_of bounds.items) (8 ∷ dimensions.bytes_of bounds.items) c.in_ok-put_byte-in-Array.ensures refl
    (c.in_ok-put_dimensions-in-Array.ensures ∙ ap (λ bs. tagged ++ dimensions.bytes_of bs) c.deref.ensures.value) in
    on_ok_weaker c.put_within.result
    (λ e. then_put _ _ _ _ _ _ first (array_bytes c.args.levels c.args.value.now bounds element some c.in-Array.is)
    (e ∙ ap (λ d. sized ++ (description_within written (c.args.levels - 1)).bytes_of (Stated (description_view d))) c.deref-in-Array.ensures))
    c.put_within.ensures

pub put_within-returns-in_ok-put_count-in-Structure : goal.put_within-returns-in_ok-put_count-in-Structure
put_within-returns-in_ok-put_count-in-Structure t c =
    let members = c.in-Structure.members in
    let tagged = c.put_byte-in-Structure.new.out.items in
    let counted = c.put_count.new.out.items in
    let some : 0 < c.args.levels = omega (arith, c.if-levels-eq0.false) in
    let count = big_bytes 2 (length members.items) in
    let long : c.len.result ≡ length members.items = omega (arith, c.len.ensures, members.ok) in
    let first = then_put c.args.out.now.items tagged counted (9 ∷ []) count (9 ∷ count) c.in_ok-put_byte-in-Structure.ensures refl
    (c.in_ok-put_count-in-Structure.ensures ∙ ap (λ n. tagged ++ big_bytes 2 n) long) in
    on_ok_weaker c.put_members.result
    (λ e. then_put _ _ _ _ _ _ first (structure_bytes c.args.levels c.args.value.now members some c.in-Structure.is)
    (e ∙ ap (λ ds. counted ++ flat_map (λ d. (description_within written (c.args.levels - 1)).bytes_of (Stated d)) (map description_view ds)) c.deref-in-Structure.ensures.value))
    c.put_members.ensures
