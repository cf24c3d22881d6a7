use Rattle.std.proofs.Common.{◌+◌, ◌<◌, length, get_or, ap, sym, ◌∙◌, subst}
use Rattle.std.proofs.lemmas.List.{length-map}
use Rattle.pli_declare_outline.specs.views.OutlineView.{outline_view, region_view}
use Rattle.pli_declare.specs.Tables.{entries_in}
use Rattle.pli_declare_variables.specs.Judging.{all_judged, judged_at}
use Rattle.pli_declare.specs.Resolution.{parameters_of}
use Rattle.pli_declare.proofs.ListsByNumber.{made_length, made_at, seen_length, seen_at}
use Rattle.pli_declare_faults.proofs.known.Known.judged.Goals as goal

pub index-requires : goal.index-requires
index-requires c =
    let k = c.args.self.now in
    let o = outline_view k.scopes.outline.now in
    subst (λ n. c.args.block < n)
    (sym (k.judged.now.ok.0 ∙ seen_length (λ v. v.items) (λ b. all_judged (entries_in o b) (parameters_of o b)) k.judged.now.items (length o.regions + 1) k.known ∙ ap (λ n. n + 1) (length-map k.scopes.outline.now.regions.items region_view)))
    c.requires.block

pub index-requires-2 : goal.index-requires-2
index-requires-2 c =
    let k = c.args.self.now in
    let o = outline_view k.scopes.outline.now in
    let entries = entries_in o c.args.block in
    let within = subst (λ n. c.args.block < n + 1) (sym (length-map k.scopes.outline.now.regions.items region_view)) c.requires.block in
    let found = c.index.result.now in
    let row = seen_at (λ v. v.items) (λ b. all_judged (entries_in o b) (parameters_of o b)) k.judged.now.items (length o.regions + 1) c.args.block found k.known within in
    subst (λ n. c.args.number < n)
    (sym (found.ok.0 ∙ ap (λ v. length v.items) c.index.ensures ∙ ap length row ∙ made_length (judged_at entries (parameters_of o c.args.block)) (length entries)))
    c.requires.number

pub returns : goal.returns
returns c =
    let k = c.args.self.now in
    let o = outline_view k.scopes.outline.now in
    let entries = entries_in o c.args.block in
    let within = subst (λ n. c.args.block < n + 1) (sym (length-map k.scopes.outline.now.regions.items region_view)) c.requires.block in
    let found = c.index.result.now in
    let row = seen_at (λ v. v.items) (λ b. all_judged (entries_in o b) (parameters_of o b)) k.judged.now.items (length o.regions + 1) c.args.block found k.known within in
    c.index-2.ensures ∙ ap (λ items. get_or items c.args.number c.index-2.result.now) (ap (λ v. v.items) c.index.ensures ∙ row)
    ∙ made_at (judged_at entries (parameters_of o c.args.block)) (length entries) c.args.number c.index-2.result.now c.requires.number
