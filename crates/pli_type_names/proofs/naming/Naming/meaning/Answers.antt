use Rattle.std.proofs.Common.{◌≡◌, Some, ap, ◌∙◌}
use Rattle.pli_base.specs.views.StatementView.{unit_view}
use Rattle.pli_declare.specs.ResolvedUnits.{meaning_at, resolved_unit_of}
use Rattle.pli_declare.specs.declared.symbol.NameMeaning.TheVariants as meanings
use Rattle.pli_type_names.proofs.AnswersSay.{untyped_meant, function_meant, declared_meant}
use Rattle.pli_type_names.proofs.naming.Naming.meaning.Goals as goal

pub returns-in-None : goal.returns-in-None
returns-in-None c =
    let same : c.self.inside.resolved.now ≡ c.args.self.now.unit = ap (λ n. n.unit) c.self.view_is in
    untyped_meant c.args.self.now c.args.at
    (c.in-None.ensures ∙ ap (λ u. meaning_at (resolved_unit_of (unit_view u)) c.args.at) same)

pub returns-in-Some-BuiltIn : goal.returns-in-Some-BuiltIn
returns-in-Some-BuiltIn c =
    let same : c.self.inside.resolved.now ≡ c.args.self.now.unit = ap (λ n. n.unit) c.self.view_is in
    let is : Some (meanings.BuiltIn c.in-Some-BuiltIn.function) ≡ meaning_at (resolved_unit_of (unit_view c.self.inside.resolved.now)) c.args.at =
    rw c.in-Some-BuiltIn.field-0-is at c.in-Some-BuiltIn.ensures in
    function_meant c.args.self.now c.args.at c.in-Some-BuiltIn.function
    (is ∙ ap (λ u. meaning_at (resolved_unit_of (unit_view u)) c.args.at) same)

pub returns-in-Some-Symbol : goal.returns-in-Some-Symbol
returns-in-Some-Symbol c =
    let same : c.self.inside.resolved.now ≡ c.args.self.now.unit = ap (λ n. n.unit) c.self.view_is in
    let is : Some (meanings.Symbol c.in-Some-Symbol.key) ≡ meaning_at (resolved_unit_of (unit_view c.self.inside.resolved.now)) c.args.at =
    rw c.in-Some-Symbol.field-0-is at c.in-Some-Symbol.ensures in
    declared_meant c.args.self.now c.args.at c.in-Some-Symbol.key c.declared.result
    (is ∙ ap (λ u. meaning_at (resolved_unit_of (unit_view u)) c.args.at) same) c.declared.ensures
