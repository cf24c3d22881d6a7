use Rattle.std.proofs.Common.{ℕ, ◌≡◌, ◌++◌, ◌∷◌, [], ◌&&◌, true, false, length, get_or, set, Some, option_map, if◌then◌else◌, IfSome, ◌<◌, refl, sym, ap, subst, ◌∙◌, arith, rules}
use Rattle.indexmap.specs.IndexMap.{get}
use Rattle.pli_base.specs.Words.{same_name}
use Rattle.std.specs.Cmp.Lexicographic.{same_text}
use Rattle.pli_declare_scopes.specs.declared.found.Found.TheVariants.{Nothing}
use Rattle.pli_declare_scopes.specs.Repeats.{is_counting, judged}
use Rattle.pli_declare_scopes.specs.Scopes.{BlockItems, with_number, is_named, found_in}
use Rattle.pli_declare_scopes.specs.declared.block.Declared.{Declared}
use Rattle.pli_declare_scopes.specs.answers.Indexes.{IsIndexed, last_below}
use Rattle.pli_declare_scopes.specs.answers.Judged.{counts_over, is_found, is_taken}
use Rattle.pli_declare_scopes.specs.answers.Leaps.{AreLeaps}
use Rattle.pli_declare_scopes.specs.answers.Paths.{step_at}
use Rattle.pli_declare_scopes.specs.answers.Reaches.{AreReaching}
use Rattle.pli_declare_scopes.specs.answers.Remembered.{AreRemembered, found_fitting}
use Rattle.pli_declare_scopes.proofs.IndexKept.{indexed_more, indexed_still}
use Rattle.pli_declare_scopes.proofs.PathsKept.{path_more}
use Rattle.std.proofs.lemmas.List.{get_or_default}
use Rattle.pli_declare_scopes.proofs.ReachesKept.{noted_within}
use Rattle.pli_declare_scopes.proofs.TakenPaths.{counts_so, verdict_is}
use Rattle.pli_declare_scopes.proofs.block.BlockItems.declare.Goals as goal

-- where there is no memory the lists have what they had
pub invariant_of-self : goal.invariant_of-self
invariant_of-self c =
    let room = c.make_room.ensures in
    let inv = c.self.invariant in (
      rw room.items (rw room.earlier inv.0),
      rw room.items (rw room.paths inv.1),
      rw room.items (rw room.leaps inv.2),
      rw room.items (rw room.lasts (rw room.tops inv.3)),
      rw room.items inv.4,
      rw room.items inv.5,
    )

pub invariant_of-self-in_err-path : goal.invariant_of-self-in_err-path
invariant_of-self-in_err-path c =
    let room = c.make_room.ensures in
    let inv = c.self.invariant in
    let kept = c.path_of.ensures.kept c.self.inside.items.items c.self.inside.paths.items inv.1 in (
      rw room.items (rw room.earlier inv.0),
      rw room.items (rw room.paths kept),
      rw room.items (rw room.leaps inv.2),
      rw room.items (rw room.lasts (rw room.tops inv.3)),
      rw room.items inv.4,
      rw room.items inv.5,
    )

pub invariant_of-self-in_err-before : goal.invariant_of-self-in_err-before
invariant_of-self-in_err-before c =
    let items = c.self.inside.items.items in
    let room = c.make_room.ensures in
    let inv = c.self.invariant in
    let kept = c.path_of.ensures.kept items c.self.inside.paths.items inv.1 in
    let index = indexed_still items c.self.inside.earlier.items c.self.inside.latest c.note.new.latest c.in_err-before.ensures.err inv.0 in (
      rw room.items (rw room.earlier index),
      rw room.items (rw room.paths kept),
      rw room.items (rw room.leaps inv.2),
      rw room.items (rw room.lasts (rw room.tops inv.3)),
      rw room.items inv.4,
      rw room.items inv.5,
    )

pub invariant_of-self-2 : goal.invariant_of-self-2
invariant_of-self-2 c =
    let items = c.self.inside.items.items in
    let earlier = c.self.inside.earlier.items in
    let latest = c.self.inside.latest in
    let paths = c.self.inside.paths.items in
    let steps = c.path_of.new.steps.keys in
    let ended = c.path_of.new.ended.items in
    let written = c.args.written in
    let item = c.declared_as-item.result in
    let before = c.in_ok-before.before in
    let p = c.in_ok-path.path in
    let room = c.make_room.ensures in
    let number : c.len-number.result ≡ length items = search rules in
    let owned : IfSome item.owner (λ o. o < length items) =
    subst (λ (j : Declared). IfSome j.owner (λ o. o < length items)) (sym c.declared_as-item.ensures)
    (subst (λ block. IfSome written.owner (λ o. o < length block)) (sym c.self.view_is) c.requires) in
    let index : IsIndexed (items ++ item ∷ []) (earlier ++ before ∷ []) c.note.new.latest =
    indexed_more items earlier latest c.note.new.latest c.self.invariant.0 item before owned
    c.in_ok-before.ensures.before
    (λ name. c.in_ok-before.ensures.found name ∙ ap (λ n. if item.counts && same_name item.name name then Some n else get same_name latest name) number)
    (items ++ item ∷ []) (earlier ++ before ∷ []) refl refl in
    let there = c.in_ok-path.ensures.there in
    let above : c.path_above.result ≡ option_map (λ o. get_or paths o 0) written.owner =
    c.path_above.ensures ∙ ap (λ ps. option_map (λ o. get_or ps o 0) written.owner) (c.deref.ensures.value ∙ room.paths) in
    let kept = c.in_ok-path.ensures.kept items paths c.self.invariant.1 in
    let step : step_at steps p ≡ record { name = item.name; above = option_map (λ o. get_or paths o 0) item.owner } =
    there.1 ∙ ap (λ a. record { name = written.name; above = a }) above
    ∙ ap (λ (j : Declared). record { name = j.name; above = option_map (λ o. get_or paths o 0) j.owner }) (sym c.declared_as-item.ensures) in
    let found : get_or ended p c.index.result.now ≡ get_or ended p Nothing = get_or_default ended p c.index.result.now Nothing (omega (arith, there.0, kept.count)) in
    let verdict : c.judge-verdict.result ≡ judged (counts_over items written.owner) (is_found (get_or ended p Nothing)) =
    c.judge-verdict.ensures ∙ ap (λ (is : BlockItems). judged (counts_over is written.owner) (is_found c.index.result.now)) (c.deref-2.ensures.value ∙ room.items)
    ∙ ap (λ f. judged (counts_over items written.owner) (is_found f)) (c.index.ensures ∙ found) in
    let so : item.counts ≡ true → (counts_over items written.owner ≡ true) × (is_found (get_or ended p Nothing) ≡ false) =
    λ e. counts_so (counts_over items written.owner) (is_found (get_or ended p Nothing))
    (ap is_counting (sym verdict) ∙ ap (λ (j : Declared). j.counts) (sym c.declared_as-item.ensures) ∙ e) in
    let made = path_more items steps paths ended item p index.owners owned there.0 step
    (λ e. ap (λ (j : Declared). counts_over items j.owner) c.declared_as-item.ensures ∙ (so e).0) (λ e. (so e).1) kept in
    let all : c.push_within-3.new.list.items ≡ items ++ item ∷ [] = c.push_within-3.ensures ∙ ap (λ is. is ++ item ∷ []) room.items in
    let links : c.push_within.new.list.items ≡ earlier ++ before ∷ [] = c.push_within.ensures ∙ ap (λ is. is ++ before ∷ []) room.earlier in
    let ways : c.push_within-2.new.list.items ≡ paths ++ p ∷ [] = c.push_within-2.ensures ∙ ap (λ is. is ++ p ∷ []) room.paths in
    let ends : c.note_end.new.ended.items ≡ (if item.counts then set ended p (with_number (length items) (get_or ended p Nothing)) else ended) =
    c.note_end.ensures ∙ ap (λ n. if item.counts then set ended p (with_number n (get_or ended p Nothing)) else ended) number in
    let leapt : AreLeaps (items ++ item ∷ []) c.leap_on.new.leaps.items =
    c.leap_on.ensures items item (subst (AreLeaps items) (sym room.leaps) c.self.invariant.2)
    (λ e name same. c.in_ok-before.ensures.before e ∙ c.self.invariant.0.last item.name ∙ ap (λ n. last_below (is_named items n) (length items)) (same_text item.name name (sym same))) in
    let reaching : AreReaching (items ++ item ∷ []) c.reach_on-self-inside.new.lasts.items c.reach_on-self-inside.new.tops.items c.reach_on-self-inside.result =
    subst (λ is. AreReaching (is ++ item ∷ []) c.reach_on-self-inside.new.lasts.items c.reach_on-self-inside.new.tops.items c.reach_on-self-inside.result)
    (c.deref-3.ensures.value ∙ room.items) c.reach_on-self-inside.ensures in
    let fresh : AreRemembered (found_in (items ++ item ∷ [])) c.forget.new.remembered.entries = c.forget.ensures (found_in (items ++ item ∷ [])) in
    let none : AreRemembered (found_fitting (items ++ item ∷ [])) c.forget-2.new.remembered.entries = c.forget-2.ensures (found_fitting (items ++ item ∷ [])) in
    (rw all (rw links index), rw all (rw ways (rw ends made)), rw all leapt, rw all reaching, rw all fresh, rw all none)

pub leap_on-requires-clause-within : goal.leap_on-requires-clause-within
leap_on-requires-clause-within c =
    let items = c.self.inside.items.items in
    let item = c.declared_as-item.result in
    let within : IfSome c.in_ok-before.before (λ b. b < length items) =
    noted_within items item c.in_ok-before.before (λ e. c.in_ok-before.ensures.before e ∙ c.self.invariant.0.last item.name) c.in_ok-before.ensures.none in
    subst (λ (n : ℕ). IfSome c.in_ok-before.before (λ b. b < n)) (sym c.self.invariant.2.all ∙ sym (ap length c.make_room.ensures.leaps)) within

pub returns-clause-judged : goal.returns-clause-judged
returns-clause-judged c =
    let items = c.self.inside.items.items in
    let paths = c.self.inside.paths.items in
    let steps = c.path_of.new.steps.keys in
    let ended = c.path_of.new.ended.items in
    let written = c.args.written in
    let p = c.in_ok-path.path in
    let room = c.make_room.ensures in
    let there = c.in_ok-path.ensures.there in
    let kept = c.in_ok-path.ensures.kept items paths c.self.invariant.1 in
    let above : c.path_above.result ≡ option_map (λ o. get_or paths o 0) written.owner =
    c.path_above.ensures ∙ ap (λ ps. option_map (λ o. get_or ps o 0) written.owner) (c.deref.ensures.value ∙ room.paths) in
    let owned : IfSome written.owner (λ o. o < length items) = subst (λ block. IfSome written.owner (λ o. o < length block)) (sym c.self.view_is) c.requires in
    let found : get_or ended p c.index.result.now ≡ get_or ended p Nothing = get_or_default ended p c.index.result.now Nothing (omega (arith, there.0, kept.count)) in
    c.judge-verdict.ensures ∙ ap (λ (is : BlockItems). judged (counts_over is written.owner) (is_found c.index.result.now)) (c.deref-2.ensures.value ∙ room.items)
    ∙ ap (λ f. judged (counts_over items written.owner) (is_found f)) (c.index.ensures ∙ found)
    ∙ verdict_is items steps paths ended c.self.invariant.0.owners kept written p there.0 (there.1 ∙ ap (λ a. record { name = written.name; above = a }) above) owned
    ∙ ap (λ (is : BlockItems). judged (counts_over is written.owner) (is_taken is written)) c.self.view_is
