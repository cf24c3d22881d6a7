use Rattle.std.proofs.Common.{◌≡◌, ◌<◌, ◌∷◌, [], ◌++◌, length, sym, ap, ◌∙◌, arith}
use Rattle.pli_value.proofs.PackingLaws.{bits_counted, HasRoom, IsPushed, room_is, room_made, room_there, set_is, with_one, with_none}
use Rattle.pli_value.proofs.bit.Bits.push.Goals as goal
use Rattle.pli_value.proofs.bit.Bits.push.Goals.{then-shift-eq7+in_ok-push, else-shift-eq7, then-bit, else-bit}

pub invariant_of-self-2 : goal.invariant_of-self-2
invariant_of-self-2 c =
    let n = c.self.inside.count in
    let bytes = c.self.inside.bytes.items in
    let counted : length c.args.self.now ≡ n = sym (ap length c.self.view_is) ∙ bits_counted n bytes in
    let limit : n < 32767 = omega arith in
    let room = c.if-shift-eq7.self-inside in
    let has : HasRoom n bytes room.bytes.items =
    elim c.if-shift-eq7.branch [
      | then-shift-eq7+in_ok-push w ↦ room_made n bytes _ c.self.invariant w.if-shift-eq7.true (ap (λ s. s.bytes.items) w.self-inside-is ∙ w.in_ok-push.ensures.items)
      | else-shift-eq7 w ↦ room_there n bytes _ c.self.invariant w.if-shift-eq7.false (ap (λ s. s.bytes.items) w.self-inside-is)
    ] in
    let same : room.count ≡ n =
    elim c.if-shift-eq7.branch [
      | then-shift-eq7+in_ok-push w ↦ ap (λ s. s.count) w.self-inside-is
      | else-shift-eq7 w ↦ ap (λ s. s.count) w.self-inside-is
    ] in
    let after = c.if-bit.self-inside in
    let made : IsPushed n bytes c.args.bit after.count after.bytes.items =
    elim c.if-bit.branch [
      | then-bit w ↦ with_one n after.count bytes room.bytes.items after.bytes.items c.args.bit c.self.invariant limit has (ap (λ s. s.count) w.self-inside-is ∙ same) w.if-bit.true (set_is room.bytes.items after.bytes.items n room.count w.index_mut.result.now same (room_is n bytes room.bytes.items has) w.index_mut.ensures.value (ap (λ s. s.bytes.items) w.self-inside-is))
      | else-bit w ↦ with_none n after.count bytes room.bytes.items after.bytes.items c.args.bit c.self.invariant limit has (ap (λ s. s.count) w.self-inside-is ∙ same) w.if-bit.false (ap (λ s. s.bytes.items) w.self-inside-is)
    ] in
    made.packed

pub returns-clause-pushed : goal.returns-clause-pushed
returns-clause-pushed c =
    let n = c.self.inside.count in
    let bytes = c.self.inside.bytes.items in
    let counted : length c.args.self.now ≡ n = sym (ap length c.self.view_is) ∙ bits_counted n bytes in
    let limit : n < 32767 = omega arith in
    let room = c.if-shift-eq7.self-inside in
    let has : HasRoom n bytes room.bytes.items =
    elim c.if-shift-eq7.branch [
      | then-shift-eq7+in_ok-push w ↦ room_made n bytes _ c.self.invariant w.if-shift-eq7.true (ap (λ s. s.bytes.items) w.self-inside-is ∙ w.in_ok-push.ensures.items)
      | else-shift-eq7 w ↦ room_there n bytes _ c.self.invariant w.if-shift-eq7.false (ap (λ s. s.bytes.items) w.self-inside-is)
    ] in
    let same : room.count ≡ n =
    elim c.if-shift-eq7.branch [
      | then-shift-eq7+in_ok-push w ↦ ap (λ s. s.count) w.self-inside-is
      | else-shift-eq7 w ↦ ap (λ s. s.count) w.self-inside-is
    ] in
    let after = c.if-bit.self-inside in
    let made : IsPushed n bytes c.args.bit after.count after.bytes.items =
    elim c.if-bit.branch [
      | then-bit w ↦ with_one n after.count bytes room.bytes.items after.bytes.items c.args.bit c.self.invariant limit has (ap (λ s. s.count) w.self-inside-is ∙ same) w.if-bit.true (set_is room.bytes.items after.bytes.items n room.count w.index_mut.result.now same (room_is n bytes room.bytes.items has) w.index_mut.ensures.value (ap (λ s. s.bytes.items) w.self-inside-is))
      | else-bit w ↦ with_none n after.count bytes room.bytes.items after.bytes.items c.args.bit c.self.invariant limit has (ap (λ s. s.count) w.self-inside-is ∙ same) w.if-bit.false (ap (λ s. s.bytes.items) w.self-inside-is)
    ] in
    made.pushed ∙ ap (λ s. s ++ c.args.bit ∷ []) c.self.view_is
