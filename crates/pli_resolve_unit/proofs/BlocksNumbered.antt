-- The numbers of blocks, with one more region.
use Rattle.std.proofs.Common.{◌≡◌, ℕ, ◌+◌, ◌<◌, Option, List, [], ◌∷◌, ◌++◌, length, get_or, drop, sym, ap, ◌∙◌}
use Rattle.std.proofs.lemmas.List.{drop_more}
use Rattle.pli_declare_outline.specs.declared.region.Region.{Region}
use Rattle.pli_declare_outline.specs.views.OutlineView.{regions_view}
use Rattle.pli_declare.specs.declared.block_numbers.ResolvedBlockKind.{ResolvedBlockKind}
use Rattle.pli_declare.specs.BlockNumbers as spec

pub number_passed : (regions : List Region) (n : ℕ) (d : Region) (before read after all : List ℕ) (next number begun : ℕ) (kind : Option ResolvedBlockKind)
    → n < length regions → read ≡ before → kind ≡ spec.block_kind (get_or regions n d).kind
    → number ≡ spec.number_with read next (get_or regions n d).outer kind → after ≡ before ++ number ∷ [] → begun ≡ spec.begun_by kind
    → spec.numbers_after before next (regions_view (drop n regions)) ≡ all
    → spec.numbers_after after (next + begun) (regions_view (drop (n + 1) regions)) ≡ all
number_passed regions n d before read after all next number begun kind lt same kind_is number_is after_is begun_is so_far =
    let r : Region = get_or regions n d in
    let rest = regions_view (drop (n + 1) regions) in
    let told : number ≡ spec.number_with before next r.outer (spec.block_kind r.kind) =
    number_is ∙ ap (λ ns. spec.number_with ns next r.outer kind) same ∙ ap (spec.number_with before next r.outer) kind_is in
    ap (λ ns. spec.numbers_after ns (next + begun) rest) (after_is ∙ ap (λ m. before ++ m ∷ []) told)
    ∙ ap (λ b. spec.numbers_after (before ++ spec.number_with before next r.outer (spec.block_kind r.kind) ∷ []) (next + b) rest) (begun_is ∙ ap spec.begun_by kind_is)
    ∙ sym (ap (λ rs. spec.numbers_after before next (regions_view rs)) (drop_more regions n d lt)) ∙ so_far
