use Rattle.std.proofs.Common.{◌≡◌, ◌<◌, ◌%◌, ◌-◌, length, get_or, map, nat_lt, ap, sym, ◌∙◌, arith}
use Rattle.std.proofs.lemmas.Bool.{lt-ltb}
use Rattle.std.proofs.lemmas.List.{length-map, get_or_default}
use Rattle.pli_deck_write.specs.DeckFaults as faults
use Rattle.pli_deck_faults.specs.Places.{Elements, places_of, places_view}
use Rattle.pli_deck_faults.proofs.PlacesFound.{in_array, in_bytes, no_start, no_member, before_member, in_it, mapped_item}
use Rattle.pli_deck_faults.proofs.PlacesViews.{elements_said, among_form}
use Rattle.pli_deck_faults.proofs.places.+scalar_at.Goals as goal
use Rattle.pli_deck_faults.proofs.places.+scalar_at.Goals.{then-number-len-via-then-number-len, then-number-len-via-else-number-len+then-number-len-2}

pub returns-then-number-len : goal.returns-then-number-len
returns-then-number-len t c = λ d e.
    let form = among_form c.in-Among.starts c.in-Among.ends c.in-Among.members c.args.places.now (places_of d) c.in-Among.is e in
    let s = c.in-Among.starts.items in
    let ends = c.in-Among.ends.items in
    let ps = map places_view c.in-Among.members.items in
    let over = c.first_over-number.ensures in
    let seen = c.deref-in-Among.result.now in
    let seen_is = c.deref-in-Among.ensures.value in
    let k = c.first_over-number.result in
    let o = c.args.offset in
    elim c.then-number-len.branch [
      | then-number-len-via-then-number-len w ↦
          no_start d s ends seen ps o k form seen_is over.bound over.before over.here (omega (arith, w.if-number-len.true, c.len.ensures))
      | then-number-len-via-else-number-len+then-number-len-2 w ↦
          no_member d s ends seen ps o k form seen_is over.bound over.before over.here
          (omega (arith, w.if-number-len-2.true, w.len-else-number-len.ensures, length-map c.in-Among.members.items places_view))
    ]

pub returns-then-offset-start : goal.returns-then-offset-start
returns-then-offset-start t c = λ d e.
    let form = among_form c.in-Among.starts c.in-Among.ends c.in-Among.members c.args.places.now (places_of d) c.in-Among.is e in
    let over = c.first_over-number.ensures in
    let start_is : c.index-start.result.now ≡ get_or c.in-Among.starts.items c.first_over-number.result 0 =
    c.index-start.ensures ∙ get_or_default c.in-Among.starts.items c.first_over-number.result c.index-start.result.now 0 (omega (arith, c.if-number-len.false, c.len.ensures)) in
    before_member d c.in-Among.starts.items c.in-Among.ends.items c.deref-in-Among.result.now (map places_view c.in-Among.members.items) c.args.offset c.first_over-number.result form
    c.deref-in-Among.ensures.value over.bound over.before over.here (omega (arith, c.if-offset-start.true, start_is))

pub returns-then-offset-bytes : goal.returns-then-offset-bytes
returns-then-offset-bytes t c = λ d e.
    let element = places_view c.in-Elements.element.value in
    let bytes = c.in-Elements.bytes in
    let stride = c.in-Elements.stride in
    let form : Elements bytes stride element ≡ places_of d =
    sym (elements_said bytes stride c.in-Elements.element) ∙ ap places_view (sym c.in-Elements.is) ∙ e in
    let a = in_array d bytes stride element form in
    c.scalar_at.ensures a.inner (ap places_view c.deref.ensures ∙ a.inner_is)
    ∙ ap (faults.scalar_at a.inner) c.left_over.ensures
    ∙ sym (in_bytes (nat_lt c.args.offset bytes) (faults.scalar_at a.inner (c.args.offset % stride)) (lt-ltb _ _ c.if-offset-bytes.true)) ∙ a.found c.args.offset

pub returns-else-offset-start : goal.returns-else-offset-start
returns-else-offset-start t c = λ d e.
    let form = among_form c.in-Among.starts c.in-Among.ends c.in-Among.members c.args.places.now (places_of d) c.in-Among.is e in
    let over = c.first_over-number.ensures in
    let start_is : c.index-start.result.now ≡ get_or c.in-Among.starts.items c.first_over-number.result 0 =
    c.index-start.ensures ∙ get_or_default c.in-Among.starts.items c.first_over-number.result c.index-start.result.now 0 (omega (arith, c.if-number-len.false, c.len.ensures)) in
    let k = c.first_over-number.result in
    let ps = map places_view c.in-Among.members.items in
    let some : k < length ps = omega (arith, c.if-number-len-2.false, c.len-else-number-len.ensures, length-map c.in-Among.members.items places_view) in
    let p = places_view c.index.result.now in
    in_it d c.in-Among.starts.items c.in-Among.ends.items c.deref-in-Among.result.now ps c.args.offset k form c.deref-in-Among.ensures.value over.bound over.before over.here
    p p (c.args.offset - c.index-start.result.now) _ some (mapped_item places_view c.in-Among.members.items k c.index.result.now c.index.ensures)
    (omega (arith, c.if-offset-start.false, start_is)) (ap (λ n. c.args.offset - n) start_is) c.scalar_at-in-Among.ensures
