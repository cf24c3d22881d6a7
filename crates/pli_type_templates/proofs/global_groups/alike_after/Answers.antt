use Rattle.std.proofs.Common.{subst, sym}
use Rattle.std.proofs.lemmas.List.Elements.{All-get_or, All-more}
use Rattle.pli_type_templates.specs.Globals.{IsLike}
use Rattle.pli_type_templates.specs.declared.placed_globals.PlacedGlobal.{PlacedGlobal}
use Rattle.pli_type_templates.specs.views.NumberView.{marks_of}
use Rattle.pli_type_templates.specs.views.PlacedView.{HasGlobalItem, global_view}
use Rattle.pli_type_templates.proofs.global_groups.alike_after.Goals as goal

pub loop-count-preserved : goal.loop-count-preserved
loop-count-preserved c = λ first all.
    let l = c.loop-count in
    let more = c.args.more.now in
    let x = c.index-more-count.result in
    let within = c.loop-count-test.true in
    let has = All-get_or (HasGlobalItem (marks_of c.args.items.now)) more l.count x within all in
    let alike = c.is_alike.ensures c.if-not-is_alike.false first (subst (HasGlobalItem (marks_of c.args.items.now)) (sym c.index-more-count.is) has) in
    All-more (λ (p : PlacedGlobal). IsLike (global_view c.args.first.now) (global_view p)) more l.count x within (l.invariant first all)
    (subst (λ (p : PlacedGlobal). IsLike (global_view c.args.first.now) (global_view p)) c.index-more-count.is alike)
