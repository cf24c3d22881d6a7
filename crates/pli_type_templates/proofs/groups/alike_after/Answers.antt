use Rattle.std.proofs.Common.{◌≡◌, subst, sym, ap, ◌∙◌}
use Rattle.std.proofs.lemmas.List.Elements.{All-get_or, All-more}
use Rattle.pli_type_templates.specs.declared.made_variable.MadeVariable.{MadeVariable}
use Rattle.pli_type_templates.specs.views.ItemView.{HasMadeItem, made_template}
use Rattle.pli_type_templates.specs.views.NumberView.{marks_of}
use Rattle.pli_type_templates.proofs.groups.alike_after.Goals as goal

pub loop-count-preserved : goal.loop-count-preserved
loop-count-preserved c = λ first all.
    let l = c.loop-count in
    let more = c.args.more.now in
    let x = c.index-more-count.result in
    let within = c.loop-count-test.true in
    let has = All-get_or (HasMadeItem (marks_of c.args.items.now)) more l.count x within all in
    let alike = c.is_made_alike.ensures c.if-not-is_made_alike.false first (subst (HasMadeItem (marks_of c.args.items.now)) (sym c.index-more-count.is) has) in
    All-more (λ (m : MadeVariable). made_template m ≡ made_template c.args.first.now) more l.count x within (l.invariant first all)
    (sym (alike ∙ ap made_template c.index-more-count.is))
