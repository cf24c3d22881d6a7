use Rattle.std.proofs.Common.{◌≡◌, List, [], ◌∷◌, ◌++◌, get_or, sym, ap, subst, ◌∙◌, if◌then◌else◌}
use Rattle.pli_base.specs.declared.token.Token.{Token}
use Rattle.pli_include.specs.Expanded.{look_in}
use Rattle.pli_include.specs.answers.Walking.{Finds, going}
use Rattle.pli_include.proofs.TextsHeld.{held_at}
use Rattle.pli_include.proofs.WalkGoesOn.{enters_open, enters_none, enters_faulty, enters, under_way_push}
use Rattle.pli_include.proofs.walk.ExpansionWalk.enter.Goals as goal

pub returns-then-contains-clause-same : goal.returns-then-contains-clause-same
returns-then-contains-clause-same c =
    let look = look_in c.args.members.now.entries in
    enters_open 200000 look c.args.self.now.path.keys c.args.at c.args.name c.args.self.now.progress (going 200000 look [] c.args.self.now.frames.items) (sym c.if-contains.ensures)

pub returns-in-Absent-clause-same : goal.returns-in-Absent-clause-same
returns-in-Absent-clause-same c =
    let look = look_in c.args.members.now.entries in
    enters_none 200000 look c.args.self.now.path.keys c.args.at c.args.name c.args.self.now.progress c.look.new.progress (going 200000 look [] c.args.self.now.frames.items)
    c.in_ok-look.ensures.within (sym c.if-contains.ensures) c.in_ok-look.ensures.looked
    (subst (λ f. Finds look c.args.name f c.look.new.progress.looked c.look.new.texts.items) c.in-Absent.is c.in_ok-look.ensures.found)

pub returns-in-Faulty-clause-same : goal.returns-in-Faulty-clause-same
returns-in-Faulty-clause-same c =
    let look = look_in c.args.members.now.entries in
    enters_faulty 200000 look c.args.self.now.path.keys c.args.at c.args.name c.args.self.now.progress c.look.new.progress (going 200000 look [] c.args.self.now.frames.items) c.in-Faulty.fault
    c.in_ok-look.ensures.within (sym c.if-contains.ensures) c.in_ok-look.ensures.looked
    (subst (λ f. Finds look c.args.name f c.look.new.progress.looked c.look.new.texts.items) c.in-Faulty.is c.in_ok-look.ensures.found)

pub returns-in_ok-push-in-At-clause-same : goal.returns-in_ok-push-in-At-clause-same
returns-in_ok-push-in-At-clause-same c =
    let look = look_in c.args.members.now.entries in
    let found = subst (λ f. Finds look c.args.name f c.look.new.progress.looked c.look.new.texts.items) c.in-At.is c.in_ok-look.ensures.found in
    let none : List Token = [] in
    ap (λ fs. going 200000 look [] fs c.look.new.progress) c.in_ok-push-in-At.ensures.items
    ∙ enters 200000 look c.args.self.now.path.keys c.args.self.now.frames.items c.in-At.slot c.args.at c.args.name c.args.self.now.progress c.look.new.progress
    (get_or c.look.new.texts.items c.in-At.slot none) c.in_ok-look.ensures.within c.requires.under_way.path_is (sym c.if-contains.ensures) c.in_ok-look.ensures.looked
    (held_at look c.look.new.progress.looked c.look.new.texts.items c.in-At.slot c.args.name none found.0 found.1)

pub returns-in_ok-push-in-At-clause-under_way : goal.returns-in_ok-push-in-At-clause-under_way
returns-in_ok-push-in-At-clause-under_way c =
    let look = look_in c.args.members.now.entries in
    let found = subst (λ f. Finds look c.args.name f c.look.new.progress.looked c.look.new.texts.items) c.in-At.is c.in_ok-look.ensures.found in
    let path : c.insert.new.self.keys ≡ c.args.self.now.path.keys ++ c.args.name ∷ [] =
    c.in_ok-insert-in-At.ensures.keys ∙ ap (λ b. if b then c.args.self.now.path.keys else c.args.self.now.path.keys ++ c.args.name ∷ []) (sym c.if-contains.ensures) in
    λ none. rw c.in_ok-push-in-At.ensures.items
    (under_way_push look c.args.self.now.progress c.look.new.progress c.look.new.texts.items c.args.self.now.path.keys c.insert.new.self.keys c.args.self.now.frames.items
    (record { name = c.args.name; slot = c.in-At.slot; next = 0 }) c.in_ok-look.ensures.looked c.requires.under_way.slots c.requires.under_way.path_is path found.0 found.1)
