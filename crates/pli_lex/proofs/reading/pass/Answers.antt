use Rattle.std.proofs.Common.{◌≡◌, ◌∙◌, true, false, sym, arith}
use Rattle.pli_lex.specs.Characters.{is_blank, begins_with}
use Rattle.pli_lex.proofs.CommentsEnd.{closes_within}
use Rattle.pli_lex.proofs.PiecesPassed.{bytes_on_line, first_is, passes_open, passes_closed, passes_blank, passes_comment, passes_token, fails_token, token_within}
use Rattle.pli_lex.proofs.reading.pass.Goals as goal

pub returns-in-None-clause-exact : goal.returns-in-None-clause-exact
returns-in-None-clause-exact c =
    let none = bytes_on_line c.args.text.now (λ i lt. omega (arith, c.type_inv.text i)) in
    passes_open c.args.tokens.now.items c.args.began c.args.number c.args.text.now (sym c.is_some.ensures ∙ c.if-is_some.true) none (sym c.closing_width.ensures ∙ c.in-None.is)

pub returns-in-Some-clause-exact : goal.returns-in-Some-clause-exact
returns-in-Some-clause-exact c =
    let none = bytes_on_line c.args.text.now (λ i lt. omega (arith, c.type_inv.text i)) in
    passes_closed c.args.tokens.now.items c.args.began c.args.number c.in-Some.width c.args.text.now (sym c.is_some.ensures ∙ c.if-is_some.true) none (sym c.closing_width.ensures ∙ c.in-Some.is)

pub returns-in-Some-clause-width : goal.returns-in-Some-clause-width
returns-in-Some-clause-width c = closes_within c.args.text.now c.in-Some.width (sym c.closing_width.ensures ∙ c.in-Some.is)

pub returns-then-is_blank-clause-exact : goal.returns-then-is_blank-clause-exact
returns-then-is_blank-clause-exact c =
    let none = bytes_on_line c.args.text.now (λ i lt. omega (arith, c.type_inv.text i)) in
    let blank : begins_with is_blank c.args.text.now ≡ true = first_is is_blank c.args.text.now true c.requires (sym c.is_blank.ensures ∙ c.if-is_blank.true) in
    passes_blank c.args.tokens.now.items c.args.began c.args.number c.args.text.now (sym c.is_some.ensures ∙ c.if-is_some.false) none blank

pub returns-then-begins_comment-clause-exact : goal.returns-then-begins_comment-clause-exact
returns-then-begins_comment-clause-exact c =
    passes_comment c.args.tokens.now.items c.args.began c.args.number c.args.text.now (sym c.is_some.ensures ∙ c.if-is_some.false) (sym c.begins_comment.ensures ∙ c.if-begins_comment.true)

pub returns-in-Err-clause-exact : goal.returns-in-Err-clause-exact
returns-in-Err-clause-exact c =
    let blank : begins_with is_blank c.args.text.now ≡ false = first_is is_blank c.args.text.now false c.requires (sym c.is_blank.ensures ∙ c.if-is_blank.false) in
    fails_token c.args.began c.args.number c.args.text.now c.in-Err.code (sym c.is_some.ensures ∙ c.if-is_some.false) c.requires blank (sym c.begins_comment.ensures ∙ c.if-begins_comment.false) (sym c.in_ok-code.ensures ∙ c.in-Err.is)

pub returns-in_ok-push-in-Ok-clause-exact : goal.returns-in_ok-push-in-Ok-clause-exact
returns-in_ok-push-in-Ok-clause-exact c =
    let none = bytes_on_line c.args.text.now (λ i lt. omega (arith, c.type_inv.text i)) in
    let blank : begins_with is_blank c.args.text.now ≡ false = first_is is_blank c.args.text.now false c.requires (sym c.is_blank.ensures ∙ c.if-is_blank.false) in
    passes_token c.args.tokens.now.items c.push.new.self.items c.args.began c.args.number c.in-Ok.width c.args.text.now c.in-Ok.text (sym c.is_some.ensures ∙ c.if-is_some.false) none blank
    (sym c.begins_comment.ensures ∙ c.if-begins_comment.false) (sym c.in_ok-code.ensures ∙ c.in-Ok.is) c.in_ok-push-in-Ok.ensures.items

pub returns-in_ok-push-in-Ok-clause-width : goal.returns-in_ok-push-in-Ok-clause-width
returns-in_ok-push-in-Ok-clause-width c = token_within c.args.text.now c.in-Ok.text c.in-Ok.width (sym c.in_ok-code.ensures ∙ c.in-Ok.is)
