use Rattle.std.proofs.Common.{suc, nat_lt, nat_le, arith}
use Rattle.std.proofs.lemmas.Bool.{leb-true, leb-false}
use Rattle.pli_store.specs.views.StorageView.{with_storage}
use Rattle.pli_store.proofs.MakingLemmas.{made_too_often, made_too_large, room_told}
use Rattle.pli_store.proofs.storage.Storage.has_room_for.Goals as goal

pub returns-then-self-lt-GENERATION_LIMIT : goal.returns-then-self-lt-GENERATION_LIMIT
returns-then-self-lt-GENERATION_LIMIT c = λ d measured.
    let s = c.args.self.now in
    let size = c.args.size in
    let room = c.from-room.result in
    room_told s d (nat_le size room)
    (λ e. (omega (arith, c.if-self-lt-GENERATION_LIMIT.true), omega (arith, leb-true size room e, measured, c.from-room.ensures, s.counted, s.limited)))
    (λ e w how vs. made_too_large d how vs (with_storage s w) (omega (arith, leb-false size room e, measured, c.from-room.ensures, s.counted, s.limited)))

pub returns-else-self-lt-GENERATION_LIMIT : goal.returns-else-self-lt-GENERATION_LIMIT
returns-else-self-lt-GENERATION_LIMIT c = λ d measured.
    let s = c.args.self.now in
    let many = c.if-self-lt-GENERATION_LIMIT.false in
    room_told s d (nat_lt s.made 4294967294)
    (λ e. absurd (omega (arith, leb-true (suc s.made) 4294967294 e, many)))
    (λ e w how vs. made_too_often d how vs (with_storage s w) (omega (arith, many)))
