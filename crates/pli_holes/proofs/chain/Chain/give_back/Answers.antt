use Rattle.std.proofs.Common.{◌≡◌, ◌+◌, List, arith, subst}
use Rattle.pli_holes.specs.declared.hole.Hole.{Hole}
use Rattle.pli_holes.specs.Holes.{Spells, ChangesWithin, given, hole_given}
use Rattle.pli_holes.proofs.TakeLemmas.{if_some}
use Rattle.pli_holes.proofs.GiveLemmas.{one_list, between, room_within, before_ends, given_alone, given_joined}
use Rattle.pli_holes.proofs.chain.Chain.give_back.Goals as goal

pub touching-more-requires-clause-within : goal.touching-more-requires-clause-within
touching-more-requires-clause-within c = λ below.
    let b = between _ _ _ _ _ _ _ _ c.requires (c.pass-stop.ensures c.requires.holes c.requires.spelled) (omega (arith, c.len-end.ensures, c.len-end.type_inv)) in
    let r = b.reached (omega (arith, below, c.len-end.ensures)) in omega (arith, r, c.len-end.ensures)

pub overflow_add-room : goal.overflow_add-room
overflow_add-room c =
    let b = between _ _ _ _ _ _ _ _ c.requires (c.pass-stop.ensures c.requires.holes c.requires.spelled) (omega (arith, c.len-end.ensures, c.len-end.type_inv)) in
    let r = room_within b c.requires.aligned c.requires.some c.touching-more.ensures in omega (arith, r, c.len-end.ensures, c.len-end.type_inv)

pub touched-requires : goal.touched-requires
touched-requires c = if_some _ _ (λ h e.
    let b = between _ _ _ _ _ _ _ _ c.requires (c.pass-stop.ensures c.requires.holes c.requires.spelled) (omega (arith, c.len-end.ensures, c.len-end.type_inv)) in
    (before_ends b h e).0)

pub lead-self-requires-clause-within : goal.lead-self-requires-clause-within
lead-self-requires-clause-within c = if_some _ _ (λ h e.
    let b = between _ _ _ _ _ _ _ _ c.requires (c.pass-stop.ensures c.requires.holes c.requires.spelled) (omega (arith, c.len-end.ensures, c.len-end.type_inv)) in
    let r = before_ends b h e in
    let low = r.0 in
    let some = r.1 in
    omega (arith, low, some, c.requires.within, c.put_hole.ensures.changes.count))

pub returns-in_default-clause-spelled : goal.returns-in_default-clause-spelled
returns-in_default-clause-spelled c = λ holes s.
    let b = between _ _ _ _ _ _ _ _ c.requires (c.pass-stop.ensures c.requires.holes c.requires.spelled) (omega (arith, c.len-end.ensures, c.len-end.type_inv)) in
    let r = given_alone c.args.region.now c.put_hole.new.region c.lead-self.new.region _ _ _ _ _ _ _ _ _ b c.requires.aligned c.requires.some c.touching-more.ensures c.in_default.ensures c.put_hole.ensures c.lead-self.ensures in
    subst (λ (xs : List Hole). Spells c.lead-self.new.region c.lead-self.result (given c.args.start c.args.room xs)) (one_list _ _ c.requires.holes holes c.requires.spelled s) r.spelled

pub returns-in_default-clause-hole : goal.returns-in_default-clause-hole
returns-in_default-clause-hole c = λ holes s.
    let b = between _ _ _ _ _ _ _ _ c.requires (c.pass-stop.ensures c.requires.holes c.requires.spelled) (omega (arith, c.len-end.ensures, c.len-end.type_inv)) in
    let r = given_alone c.args.region.now c.put_hole.new.region c.lead-self.new.region _ _ _ _ _ _ _ _ _ b c.requires.aligned c.requires.some c.touching-more.ensures c.in_default.ensures c.put_hole.ensures c.lead-self.ensures in
    subst (λ (xs : List Hole). let x : Hole = record { start = c.args.start; room = c.args.room + c.touching-more.result.0 } in x ≡ hole_given c.args.start c.args.room xs) (one_list _ _ c.requires.holes holes c.requires.spelled s) r.joined

pub returns-in_default-clause-kept : goal.returns-in_default-clause-kept
returns-in_default-clause-kept c = λ holes s.
    let b = between _ _ _ _ _ _ _ _ c.requires (c.pass-stop.ensures c.requires.holes c.requires.spelled) (omega (arith, c.len-end.ensures, c.len-end.type_inv)) in
    let r = given_alone c.args.region.now c.put_hole.new.region c.lead-self.new.region _ _ _ _ _ _ _ _ _ b c.requires.aligned c.requires.some c.touching-more.ensures c.in_default.ensures c.put_hole.ensures c.lead-self.ensures in
    subst (λ (xs : List Hole). ChangesWithin (given c.args.start c.args.room xs) c.args.region.now c.lead-self.new.region) (one_list _ _ c.requires.holes holes c.requires.spelled s) r.kept

pub overflow_add-hole : goal.overflow_add-hole
overflow_add-hole c =
    let b = between _ _ _ _ _ _ _ _ c.requires (c.pass-stop.ensures c.requires.holes c.requires.spelled) (omega (arith, c.len-end.ensures, c.len-end.type_inv)) in
    let r = room_within b c.requires.aligned c.requires.some c.touching-more.ensures in
    let touch = c.in-Some.ensures.1 in
    omega (arith, r, touch, c.len-end.ensures, c.len-end.type_inv)

pub returns-clause-spelled : goal.returns-clause-spelled
returns-clause-spelled c = λ holes s.
    let b = between _ _ _ _ _ _ _ _ c.requires (c.pass-stop.ensures c.requires.holes c.requires.spelled) (omega (arith, c.len-end.ensures, c.len-end.type_inv)) in
    let r = given_joined c.args.region.now c.put_hole-2.new.region _ _ _ _ _ _ _ _ _ b c.requires.aligned c.requires.some c.touching-more.ensures c.in-Some.ensures c.put_hole-2.ensures in
    subst (λ (xs : List Hole). Spells c.put_hole-2.new.region c.args.self.now.first (given c.args.start c.args.room xs)) (one_list _ _ c.requires.holes holes c.requires.spelled s) r.spelled

pub returns-clause-hole : goal.returns-clause-hole
returns-clause-hole c = λ holes s.
    let b = between _ _ _ _ _ _ _ _ c.requires (c.pass-stop.ensures c.requires.holes c.requires.spelled) (omega (arith, c.len-end.ensures, c.len-end.type_inv)) in
    let r = given_joined c.args.region.now c.put_hole-2.new.region _ _ _ _ _ _ _ _ _ b c.requires.aligned c.requires.some c.touching-more.ensures c.in-Some.ensures c.put_hole-2.ensures in
    subst (λ (xs : List Hole). let x : Hole = record { start = c.in-Some.before.start; room = c.in-Some.before.room + (c.args.room + c.touching-more.result.0) } in x ≡ hole_given c.args.start c.args.room xs) (one_list _ _ c.requires.holes holes c.requires.spelled s) r.joined

pub returns-clause-kept : goal.returns-clause-kept
returns-clause-kept c = λ holes s.
    let b = between _ _ _ _ _ _ _ _ c.requires (c.pass-stop.ensures c.requires.holes c.requires.spelled) (omega (arith, c.len-end.ensures, c.len-end.type_inv)) in
    let r = given_joined c.args.region.now c.put_hole-2.new.region _ _ _ _ _ _ _ _ _ b c.requires.aligned c.requires.some c.touching-more.ensures c.in-Some.ensures c.put_hole-2.ensures in
    subst (λ (xs : List Hole). ChangesWithin (given c.args.start c.args.room xs) c.args.region.now c.put_hole-2.new.region) (one_list _ _ c.requires.holes holes c.requires.spelled s) r.kept
