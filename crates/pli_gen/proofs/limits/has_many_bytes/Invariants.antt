use Rattle.std.proofs.Common.{◌≡◌, ◌+◌, ◌≤◌, map, drop}
use Rattle.std.specs.List.{sum_by}
use Rattle.std.specs.Prelude.{fold}
use Rattle.pli_gen.specs.answers.Pieces.{template_bytes}
use Rattle.pli_type_keys.specs.views.KeyView.{templated}
use Rattle.pli_gen.proofs.limits.has_many_bytes.Given as goal

-- the bytes so far and those of the templates that are left
abbrev pub invariant-loop-template : goal.invariant-loop-template
invariant-loop-template l = record {
  all : fold (λ sum t. sum + template_bytes t) l.bytes (map templated (drop l.template-index l.template-items))
      ≡ sum_by template_bytes (map templated l.tables.templates.keys);
  few : l.bytes ≤ 16777216;
}
