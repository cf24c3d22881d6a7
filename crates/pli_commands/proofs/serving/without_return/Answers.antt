use Rattle.std.proofs.Common.{◌≡◌, ℕ, List, [], ◌∷◌, ◌++◌, Bool, true, false, sym, ap, ◌∙◌, rules, if◌then◌else◌}
use Rattle.pli_commands.specs.Lines.{is_carriage_return, without_return}
use Rattle.pli_commands.proofs.LinesOfBytes.{without_return-push}
use Rattle.pli_commands.proofs.serving.without_return.Goals as goal

dropped : (text front : List ℕ) (c : ℕ) → text ≡ front ++ c ∷ [] → (v : Bool) → is_carriage_return c ≡ v → (if v then front else text) ≡ without_return text
dropped text front c is v h =
    ap (λ (b : Bool). if b then front else text) (sym h) ∙ ap (λ l. if is_carriage_return c then front else l) is ∙ sym (without_return-push front c) ∙ ap without_return (sym is)

pub returns-then-last-eq13 : goal.returns-then-last-eq13
returns-then-last-eq13 c = dropped c.args.text.now c.in-Some.front.now c.in-Some.last.now c.in-Some.ensures.cases.0 true (search (rules, c.if-last-eq13.true))

pub returns-else-last-eq13 : goal.returns-else-last-eq13
returns-else-last-eq13 c = dropped c.args.text.now c.in-Some.front.now c.in-Some.last.now c.in-Some.ensures.cases.0 false (search (rules, c.if-last-eq13.false))
