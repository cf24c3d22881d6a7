-- What is told of units by what is kept after a build is what a build from scratch tells.
use Rattle.std.proofs.Common.{◌≡◌, ℕ, List, [], ◌∷◌, ◌++◌, Ok, Err, refl, ap, ◌∙◌}
use Rattle.std.proofs.lemmas.List.Concat.{flat_map-cons}
use Rattle.pli_base.specs.Name.{Name}
use Rattle.pli_include.specs.Expanded.{expansion_of, outcome_of, told as expanded}
use Rattle.pli_include.specs.Expansion.{Outcome as Expansion}
use Rattle.pli_link.specs.Units.{Compiled}
use Rattle.pli_members.specs.Members.{Member, Store}
use Rattle.pli_members.specs.declared.kind.MemberKind.{MemberKind}
use Rattle.pli_members.specs.declared.kind.MemberKind.TheVariants.{Source, Include}
use Rattle.pli_meaning.specs.MemberParts.{all_text, all_units, source_in, text_in, units_in, units_of}
use Rattle.pli_meaning.specs.Scratch.{compiled_from, compiled_of, diagnostics_in, sources}
use Rattle.pli_ledger.specs.Kept.{Kept, Units, kept_of}
use Rattle.pli_ledger.specs.Told.{kept_text, kept_units, told}
use Rattle.pli_ledger.specs.Work.{after, kept_after}
use Rattle.pli_ledger.proofs.StagesMixed.{staged}

told_from : (s : Store) (unit : Name) (before : Kept) (o : Expansion) → told (unit, kept_after (expanded s o) before) ≡ compiled_from unit o
told_from s unit before (Ok p) = refl
told_from s unit before (Err stop) = refl

told_after : (s : Store) (unit : Name) (before : Kept) → told (unit, kept_after (expansion_of s unit) before) ≡ compiled_of s.entries unit
unfolding expansion_of compiled_of
told_after s unit before = told_from s unit before (outcome_of s.entries unit)

module _ (entries : List (Name × Member)) (f : Name → Kept) (is : (name : Name) → told (name, f name) ≡ compiled_of entries name) where
  text_staged : (es : List (Name × Member)) → kept_text (staged f (sources es)) ≡ all_text entries es
  text_staged [] = refl
  text_staged (e ∷ es) = of_kind e.1.kind (text_staged es)
    where
      of_kind : (kind : MemberKind) → kept_text (staged f (sources es)) ≡ all_text entries es → kept_text (staged f (source_in e.0 kind ++ sources es)) ≡ text_in entries e.0 kind ++ all_text entries es
      of_kind Source others =
          flat_map-cons (λ (u : Name × Kept). diagnostics_in u.0 (told u)) (e.0, f e.0) (staged f (sources es))
          ∙ ap (λ r. diagnostics_in e.0 r ++ kept_text (staged f (sources es))) (is e.0) ∙ ap (λ (t : List ℕ). diagnostics_in e.0 (compiled_of entries e.0) ++ t) others
      of_kind Include others = others

  units_staged : (es : List (Name × Member)) → kept_units (staged f (sources es)) ≡ all_units entries es
  units_staged [] = refl
  units_staged (e ∷ es) = of_kind e.1.kind (units_staged es)
    where
      of_kind : (kind : MemberKind) → kept_units (staged f (sources es)) ≡ all_units entries es → kept_units (staged f (source_in e.0 kind ++ sources es)) ≡ units_in entries e.0 kind ++ all_units entries es
      of_kind Source others =
          flat_map-cons (λ (u : Name × Kept). units_of (told u)) (e.0, f e.0) (staged f (sources es))
          ∙ ap (λ r. units_of r ++ kept_units (staged f (sources es))) (is e.0) ∙ ap (λ (t : List Compiled). units_of (compiled_of entries e.0) ++ t) others
      of_kind Include others = others

pub text_after : (units new : Units) (s : Store) → new ≡ after units s → kept_text new ≡ all_text s.entries s.entries
text_after units new s is = ap kept_text is ∙ text_staged s.entries (λ name. kept_after (expansion_of s name) (kept_of units name)) (λ name. told_after s name (kept_of units name)) s.entries

pub units_after : (units new : Units) (s : Store) → new ≡ after units s → kept_units new ≡ all_units s.entries s.entries
units_after units new s is = ap kept_units is ∙ units_staged s.entries (λ name. kept_after (expansion_of s name) (kept_of units name)) (λ name. told_after s name (kept_of units name)) s.entries
