use Rattle.std.proofs.Common.{◌≡◌, ◌+◌, ◌-◌, ◌<◌, cond, Some, length, map, ap, sym, ◌∙◌, arith}
use Rattle.std.proofs.lemmas.List.{drop_all}
use Rattle.std.specs.Map.{lookup}
use Rattle.pli_base.specs.Words.{same_name}
use Rattle.pli_code.specs.declared.module.External.{External}
use Rattle.pli_link.specs.Links.{number_of}
use Rattle.pli_link.specs.answers.Tables.{external_name}
use Rattle.pli_link.proofs.ExternalNumbers.{number_more}
use Rattle.pli_link.proofs.links.numbers_of.Goals as goal

pub loop-number-init : goal.loop-number-init
loop-number-init c = λ name.
    let externals = c.args.externals.now in
    ap (lookup (same_name name)) c.new-numbers.ensures.empty
    ∙ sym (ap (λ es. number_of (length externals) (map external_name es) name) (drop_all (length externals) externals (omega arith)))

pub loop-number-preserved : goal.loop-number-preserved
loop-number-preserved c = λ name.
    let externals = c.args.externals.now in
    let at = c.loop-number.number - 1 in
    let e = c.index-externals-number.result in
    let within : at < length externals = omega arith in
    let next : at + 1 ≡ c.loop-number.number = omega arith in
    let others = lookup (same_name name) c.loop-number.numbers.entries in
    let found = c.in_ok-insert.ensures.updates.0 name
    ∙ ap (λ (x : External). cond (same_name x.name name) (Some c.short.result) others) (sym c.index-externals-number.is)
    ∙ ap (λ n. cond (same_name e.name name) (Some n) others) c.short.ensures in
    number_more at c.loop-number.number externals e name c.loop-number.numbers.entries _ next within c.index-externals-number.is found (c.loop-number.invariant name)
