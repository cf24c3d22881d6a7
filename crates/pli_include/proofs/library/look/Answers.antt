use Rattle.std.proofs.Common.{◌≡◌, List, ◌++◌, ◌∷◌, [], Some, Ok, Bool, true, false, sym, ap, subst, ◌∙◌, refl}
use Rattle.std.specs.Option.{option_map}
use Rattle.std.specs.Prelude.{not}
use Rattle.pli_base.specs.declared.token.Token.{Token}
use Rattle.pli_lex.specs.Reading.{lexed}
use Rattle.pli_include.specs.Expanded.{look_in}
use Rattle.pli_base.specs.Words.{is_among}
use Rattle.pli_include.specs.answers.Walking.{HoldsTexts}
use Rattle.pli_include.proofs.TextsHeld.{lines_are_few, holds_more, comes_last}
use Rattle.pli_include.proofs.library.look.Goals as goal

pub lex-requires : goal.lex-requires
lex-requires c = lines_are_few c.args.members.now c.args.name c.in-Some.lines.now c.requires.kept c.in-Some.ensures

not_true : (b : Bool) → not b ≡ true → b ≡ false
not_true true e = sym e
not_true false e = refl

pub returns-in_ok-push-in-Ok-clause-found : goal.returns-in_ok-push-in-Ok-clause-found
returns-in_ok-push-in-Ok-clause-found c =
    let look = look_in c.args.members.now.entries in
    let name = c.args.name in
    let s = c.args.progress.now in
    let tokens : List Token = c.in-Ok.tokens.items in
    let last : is_among name s.looked ≡ false = not_true (is_among name s.looked) (sym c.in_ok-slot.ensures.first ∙ c.if-not-is_first.false) in
    let names : c.look.new.self.looked ≡ s.looked ++ name ∷ [] = ap (λ p. p.looked) c.in_ok-slot.ensures.looked ∙ comes_last name s last in
    let texts : c.push.new.self.items ≡ c.args.texts.now.items ++ tokens ∷ [] = c.in_ok-push-in-Ok.ensures.items ∙ ap (λ t. c.args.texts.now.items ++ t ∷ []) c.new.ensures in
    let reads : look name ≡ Some (Ok tokens) = ap (λ lines. option_map lexed lines) (sym c.in-Some.ensures) ∙ ap Some c.in-Ok.ensures in (
      subst (λ l. HoldsTexts look l c.push.new.self.items) (sym names)
          (subst (λ t. HoldsTexts look (s.looked ++ name ∷ []) t) (sym texts) (holds_more look s.looked c.args.texts.now.items name tokens c.requires.held reads)),
      c.in_ok-slot.ensures.place,
    )
