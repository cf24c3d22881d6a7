use Rattle.std.proofs.Common.{◌≡◌, ℕ, ◌<◌, ◌≤◌, List, [], ◌∷◌, ◌++◌, ◌+◌, length, get_or, Some, Ok, Err, true, sym, ap, subst, ◌∙◌, refl, arith}
use Rattle.std.specs.Option.{is_some}
use Rattle.std.specs.Prelude.{Result, Option, IfOk}
use Rattle.std.specs.declared.alloc.AllocError.{AllocError}
use Rattle.std.proofs.lemmas.List.{length_push}
use Rattle.pli_base.specs.Name.{Name}
use Rattle.pli_base.specs.declared.token.Token.{Token}
use Rattle.pli_include.specs.declared.expansion.ExpansionFault.{ExpansionFault}
use Rattle.pli_include.specs.declared.walk.OpenMember.{OpenMember}
use Rattle.pli_include.specs.Expanded.{look_in}
use Rattle.pli_include.specs.Expansion.{Look, Progress, Outcome, ◌then◌}
use Rattle.pli_include.specs.answers.Pausing.{Reads}
use Rattle.pli_include.specs.answers.Walking.{IsUnderWay, going, goes_on, include_from}
use Rattle.pli_include.proofs.TextsHeld.{held_at}
use Rattle.pli_include.proofs.WalkGoesOn.{names_of, names_push, slot_of, steps_end, steps_fault, steps_into, pops, under_way_pop, under_way_on}
use Rattle.pli_include.proofs.walk.ExpansionWalk.step.Goals as goal

-- the tokens that are read are those of the open member
tokens_are : (look : Look) (looked : List Name) (texts : List (List Token)) (path : List Name) (fs : List OpenMember) (f : OpenMember) (item tokens : List Token)
    → IsUnderWay look looked texts path (fs ++ f ∷ []) → item ≡ get_or texts f.slot item → tokens ≡ item → look f.name ≡ Some (Ok tokens)
tokens_are look looked texts path fs f item tokens way at is =
    held_at look looked texts f.slot f.name item way.texts_held (slot_of look looked texts path fs f way) ∙ ap (λ ts. Some (Ok ts)) (sym at ∙ sym is)

-- the names that were looked up stay while tokens are read
way_stays : (look : Look) (a b : List Name) (texts : List (List Token)) (path : List Name) (fs : List OpenMember) → b ≡ a → IsUnderWay look a texts path fs → IsUnderWay look b texts path fs
way_stays look a b texts path fs e way = subst (λ l. IsUnderWay look l texts path fs) (sym e) way

-- a path with an open member has a last name
has_last : (path : List Name) (fs : List OpenMember) (f : OpenMember) → path ≡ names_of (fs ++ f ∷ []) → 0 < length path
has_last path fs f e = subst (λ p. 0 < length p) (sym (e ∙ names_push fs f)) (let h = length_push (names_of fs) f.name in omega arith)

-- an answer that is the same as one is the same as another that this is
passes : (limit : ℕ) (look : Look) (r : Result (Option ExpansionFault) AllocError) (s : Progress) (fs : List OpenMember) (x y : Outcome) → IfOk r (λ fault. goes_on limit look fault s fs ≡ x) → x ≡ y
    → IfOk r (λ fault. goes_on limit look fault s fs ≡ y)
passes limit look (Ok fault) s fs x y h e = h ∙ e
passes limit look (Err error) s fs x y h e = tt

-- what follows from two parts of an answer is part of it
both_parts : {X E : Type 0} (r : Result X E) (a b x y : ℕ) (P : Type 0) → IfOk r (λ v. a ≡ b) → IfOk r (λ v. x ≤ y) → (a ≡ b → x ≤ y → P) → IfOk r (λ v. P)
both_parts (Ok v) a b x y P h k more = more h k
both_parts (Err error) a b x y P h k more = tt

pub enter-requires-clause-under_way : goal.enter-requires-clause-under_way
enter-requires-clause-under_way c =
    let look = look_in c.args.members.now.entries in
    let reads = c.in_ok-read_tokens.ensures in
    rw c.in_ok-push-in-Include.ensures.items
    (way_stays look c.args.self.now.progress.looked c.read_tokens.new.progress.looked c.args.self.now.texts.items c.args.self.now.path.keys _ reads.looked
    (under_way_on look c.args.self.now.progress.looked c.args.self.now.texts.items c.args.self.now.path.keys c.args.self.now.frames.items c.args.frame
    (record { name = c.args.frame.name; slot = c.args.frame.slot; next = c.in-Include.request.next }) c.requires.under_way refl refl))

pub returns-in-End-clause-same : goal.returns-in-End-clause-same
returns-in-End-clause-same c =
    let look = look_in c.args.members.now.entries in
    let s = c.args.self.now in
    let tokens = c.tokens-tokens.result.now in
    steps_end 200000 look s.frames.items c.args.frame tokens s.progress c.read_tokens.new.progress
    (tokens_are look s.progress.looked s.texts.items s.path.keys s.frames.items c.args.frame c.index.result.now tokens c.requires.under_way c.index.ensures c.tokens-tokens.ensures)
    (subst (λ p. Reads 200000 c.args.frame.name tokens c.args.frame.next s.progress p c.read_tokens.new.progress) c.in-End.is c.in_ok-read_tokens.ensures)

pub returns-in-End-clause-under_way : goal.returns-in-End-clause-under_way
returns-in-End-clause-under_way c =
    let look = look_in c.args.members.now.entries in
    let s = c.args.self.now in
    let some : is_some c.pop.result ≡ true = c.pop.ensures.found.1 (has_last s.path.keys s.frames.items c.args.frame c.requires.under_way.path_is) in
    λ none.
    way_stays look s.progress.looked c.read_tokens.new.progress.looked s.texts.items c.pop.new.self.keys s.frames.items c.in_ok-read_tokens.ensures.looked
    (under_way_pop look s.progress.looked s.texts.items s.path.keys c.pop.new.self.keys s.frames.items c.args.frame c.requires.under_way
    (pops s.path.keys c.pop.new.self.keys c.pop.result s.frames.items c.args.frame c.pop.ensures.keys some c.requires.under_way.path_is))

pub returns-in-Fault-clause-same : goal.returns-in-Fault-clause-same
returns-in-Fault-clause-same c =
    let look = look_in c.args.members.now.entries in
    let s = c.args.self.now in
    let tokens = c.tokens-tokens.result.now in
    steps_fault 200000 look s.frames.items c.args.frame tokens s.progress c.read_tokens.new.progress
    (tokens_are look s.progress.looked s.texts.items s.path.keys s.frames.items c.args.frame c.index.result.now tokens c.requires.under_way c.index.ensures c.tokens-tokens.ensures)
    c.in-Fault.fault
    (subst (λ p. Reads 200000 c.args.frame.name tokens c.args.frame.next s.progress p c.read_tokens.new.progress) c.in-Fault.is c.in_ok-read_tokens.ensures)

pub returns-in_ok-push-in-Include-clause-same : goal.returns-in_ok-push-in-Include-clause-same
returns-in_ok-push-in-Include-clause-same c =
    let look = look_in c.args.members.now.entries in
    let s = c.args.self.now in
    let tokens = c.tokens-tokens.result.now in
    let t = c.read_tokens.new.progress in
    let r = c.in-Include.request in
    let g : OpenMember = record { name = c.args.frame.name; slot = c.args.frame.slot; next = r.next } in
    passes 200000 look c.enter.result c.enter.new.self.progress c.enter.new.self.frames.items
    (include_from 200000 look s.path.keys r.at r.name t then going 200000 look [] c.push.new.self.items) _ c.enter.ensures.same
    (ap (λ fs. include_from 200000 look s.path.keys r.at r.name t then going 200000 look [] fs) c.in_ok-push-in-Include.ensures.items
    ∙ ap (λ p. include_from 200000 look p r.at r.name t then going 200000 look [] (s.frames.items ++ g ∷ [])) (c.requires.under_way.path_is ∙ names_push s.frames.items c.args.frame)
    ∙ steps_into 200000 look s.frames.items c.args.frame tokens s.progress t
    (tokens_are look s.progress.looked s.texts.items s.path.keys s.frames.items c.args.frame c.index.result.now tokens c.requires.under_way c.index.ensures c.tokens-tokens.ensures)
    r g refl refl
    (subst (λ p. Reads 200000 c.args.frame.name tokens c.args.frame.next s.progress p t) c.in-Include.is c.in_ok-read_tokens.ensures))

pub returns-in-End-clause-less : goal.returns-in-End-clause-less
returns-in-End-clause-less c =
    omega (arith, length_push c.args.self.now.frames.items c.args.frame, c.in_ok-read_tokens.ensures.left)

pub returns-in-Fault-clause-less : goal.returns-in-Fault-clause-less
returns-in-Fault-clause-less c =
    omega (arith, length_push c.args.self.now.frames.items c.args.frame, c.in_ok-read_tokens.ensures.left)

pub returns-in_ok-push-in-Include-clause-less : goal.returns-in_ok-push-in-Include-clause-less
returns-in_ok-push-in-Include-clause-less c =
    let frames = c.args.self.now.frames.items in
    let on : OpenMember = record { name = c.args.frame.name; slot = c.args.frame.slot; next = c.in-Include.request.next } in
    let left = subst (λ p. Reads 200000 c.args.frame.name c.tokens-tokens.result.now c.args.frame.next c.args.self.now.progress p c.read_tokens.new.progress)
    c.in-Include.is c.in_ok-read_tokens.ensures in
    let opened : length c.push.new.self.items ≡ length frames + 1 = ap length c.in_ok-push-in-Include.ensures.items ∙ length_push frames on in
    both_parts c.enter.result _ _ _ _ _ c.enter.ensures.read c.enter.ensures.frames
    (λ same longer. omega (arith, length_push frames c.args.frame, left.left, opened, same, longer))
