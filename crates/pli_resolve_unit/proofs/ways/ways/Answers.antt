use Rattle.std.proofs.Common.{◌+◌, ◌∷◌, drop, map, ap, ◌∙◌, sym}
use Rattle.std.proofs.lemmas.List.{drop_more, map_push}
use Rattle.pli_declare.specs.views.DeclarationView.{declaration_view}
use Rattle.pli_declare.specs.Symbols.{way_with}
use Rattle.pli_resolve.specs.views.TableView.{way_view}
use Rattle.pli_resolve_unit.proofs.WaysMade.{one_more, few_more}
use Rattle.pli_resolve_unit.proofs.ways.ways.Goals as goal

pub loop-declaration-preserved : goal.loop-declaration-preserved
loop-declaration-preserved c =
    let l = c.loop-declaration in
    let d = c.declaration-item.result in
    let all = c.args.declarations.now in
    let left = drop_more all l.declaration-index d c.loop-declaration-test.true
    ∙ ap (λ y. y ∷ drop (l.declaration-index + 1) all) (sym c.declaration-item.is) in
    let way = c.in_ok-way.ensures ∙ ap (λ ws. way_with (map way_view ws) c.deref-in-loop-declaration.result.now d.owner) c.deref.ensures.value
    ∙ ap (λ cs. way_with (map way_view l.ways.items) cs d.owner) c.deref-in-loop-declaration.ensures.value in
    record {
      ways = one_more (map way_view l.ways.items) (map way_view c.push-in-loop-declaration.new.self.items) l.counts.items c.count_member.new.counts.items c.push.new.self.items (way_view c.in_ok-way.way) (declaration_view d) _ _ _
          (ap (map declaration_view) left) way (ap (map way_view) c.in_ok-push-2.ensures.items ∙ map_push way_view l.ways.items c.in_ok-way.way) c.count_member.ensures c.in_ok-push.ensures.items l.invariant.ways;
      few = few_more l.counts.items c.count_member.new.counts.items c.push.new.self.items d.owner c.count_member.ensures c.in_ok-push.ensures.items l.invariant.few;
    }
