use Rattle.std.proofs.Common.{◌≡◌, ◌∙◌, ap, Option, Some, None, option_map, refl}
use Rattle.std.specs.BTreeMap.{is_at}
use Rattle.std.specs.Cmp.Lexicographic.{slice_cmp}
use Rattle.std.specs.Option.{option_copied}
use Rattle.std.specs.Ordering.{nat_cmp}
use denote.Ref.{Bor}
use Rattle.pli_link.specs.Mismatches.{is_unlike}
use Rattle.pli_link.specs.Names.{meant, unit_named}
use Rattle.pli_link.specs.answers.Classes.{known_in}
use Rattle.pli_link.specs.answers.Tables.{units_in}
use Rattle.pli_link.specs.declared.names.KnownExternal.{KnownExternal}
use Rattle.pli_link.specs.views.NameView.{declaration_view}
use Rattle.pli_code.specs.CodeTables.{template_at}
use Rattle.pli_link.proofs.ClassLemmas.{classed_found}
use Rattle.pli_link.proofs.Tables.{meant_external}
use Rattle.pli_link.proofs.mismatches.is_unlike_variable.Goals as goal

copied_shown : (found : Option (Bor KnownExternal)) → option_map (λ e. declaration_view e.now) found ≡ option_map declaration_view (option_copied found)
copied_shown None = refl
copied_shown (Some e) = refl

pub returns : goal.returns
returns c = λ code number known have class.
    let names = c.args.names.now in
    let name = c.args.name.now in
    let kind = c.args.kind in
    let template = template_at code number in
    let first = copied_shown c.get.result ∙ ap (option_map declaration_view) c.get.ensures.value
    ∙ meant_external names.externals.now.entries name ∙ ap (λ es. meant es name) c.requires.1 in
    c.is_unlike.ensures (known_in known) template class
    (classed_found (known_in known) (is_at (slice_cmp nat_cmp name)) names.externals.now.entries c.get.result have c.get.ensures.value)
    ∙ ap (λ p. is_unlike kind template p (option_map (λ e. declaration_view e.now) c.get.result)) c.unit_named.ensures
    ∙ ap (is_unlike kind template (unit_named (units_in names) name)) first
