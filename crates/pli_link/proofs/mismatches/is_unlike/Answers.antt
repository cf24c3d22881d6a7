use Rattle.std.proofs.Common.{◌∙◌, ap, not, sym, subst, option_map, None}
use Rattle.pli_link.specs.Mismatches.{is_unlike}
use Rattle.pli_link.specs.answers.Classes.{IsFirstClassed}
use Rattle.pli_link.specs.views.NameView.{declaration_view}
use Rattle.pli_link.specs.views.UnitView.{compiled_view}
use Rattle.pli_link.proofs.mismatches.is_unlike.Goals as goal

pub returns-in-None-Some : goal.returns-in-None-Some
returns-in-None-Some c = λ known t class first.
    ap not (c.is_like_first.ensures known t class (subst (IsFirstClassed known) c.in-None-Some.is-1 first))
    ∙ sym (ap (λ p. is_unlike c.args.kind t (option_map (λ u. compiled_view u.now) p) (option_map (λ e. declaration_view e.now) c.args.first)) c.in-None-Some.is-0
    ∙ ap (λ f. is_unlike c.args.kind t None (option_map (λ e. declaration_view e.now) f)) c.in-None-Some.is-1)
