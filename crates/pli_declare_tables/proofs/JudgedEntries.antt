-- Entries that are declared one after another.
use Rattle.std.proofs.Common.{◌≡◌, ℕ, ◌+◌, ◌<◌, ◌≤◌, List, [], ◌∷◌, ◌++◌, length, map, get_or, take, None, IfSome, refl, sym, ap, subst, ◌∙◌, arith}
use Rattle.std.proofs.lemmas.List.{get_or-map, get_or-take, length-map, length-take-le, take_all, take_more}
use Rattle.pli_declare_scopes.specs.Repeats.{judged, verdicts_of}
use Rattle.pli_declare_scopes.specs.Scopes.{BlockItems}
use Rattle.pli_declare_scopes.specs.answers.Judged.{declared_as, declared_with, counts_over, is_taken}
use Rattle.pli_declare_scopes.specs.declared.repeat.Written.{Written}
use Rattle.pli_declare_scopes.specs.declared.repeat.Verdict.{Verdict}
use Rattle.pli_declare_scopes.specs.laws.RepeatLaws.{OwnersFirst}
use Rattle.pli_declare_scopes.proofs.JudgedItems.{block_count, block_more}
use Rattle.pli_declare.specs.Tables.{Entry as Declared, written, with_verdicts}
use Rattle.pli_declare.specs.answers.Owners.{AreAfterOwners}
use Rattle.pli_declare_tables.specs.declared.entry.Entry.{Entry}
use Rattle.pli_declare_tables.specs.views.TableView.{entry_view, entries_view}

-- entries as the rule on names that are declared twice sees them
abbrev pub written_all : List Entry → List Written
written_all entries = map written (entries_view entries)

-- entries as look-up sees them
pub looked_up : (es : List Declared) (vs : List Verdict) → declared_with (map written es) vs ≡ with_verdicts es vs
looked_up [] vs = refl
looked_up (e ∷ es) [] = refl
looked_up (e ∷ es) (v ∷ vs) = ap (λ is. declared_as (written e) v ∷ is) (looked_up es vs)

written_count : (entries : List Entry) → length (written_all entries) ≡ length entries
written_count entries = length-map (entries_view entries) written ∙ length-map entries entry_view

pub all_written : (entries : List Entry) (n : ℕ) → length entries ≤ n → take n (written_all entries) ≡ written_all entries
all_written entries n over = take_all n (written_all entries) (let same = written_count entries in omega (arith, over, same))

module _ (entries : List Entry) (after : AreAfterOwners (entries_view entries)) (n : ℕ) (x : Entry) (lt : n < length entries) (read : x ≡ get_or entries n x) where
  abbrev all : List Written
  all = written_all entries

  abbrev next : Written
  next = written (entry_view x)

  within : n < length all
  within = let same = written_count entries in omega (arith, lt, same)

  there : (d : Written) → get_or all n d ≡ next
  there d =
      get_or-map written (entries_view entries) n (entry_view x) d (let same = length-map entries entry_view in omega (arith, lt, same))
      ∙ ap written (get_or-map entry_view entries n x (entry_view x) lt ∙ ap entry_view (sym read))

  front : take (n + 1) all ≡ take n all ++ next ∷ []
  front = take_more all n next within ∙ ap (λ w. take n all ++ w ∷ []) (there next)

  count : length (take n all) ≡ n
  count = length-take-le n all (omega (arith, within))

  owners : OwnersFirst (take n all)
  owners k short =
      let before : k < n = omega (arith, short, count) in
      subst (λ (w : Written). IfSome w.owner (λ o. o < k)) (sym (get_or-take n all k (record { name = []; owner = None }) before)) (after k (omega (arith, before, within)))

  module _ (vs : List Verdict) (items : BlockItems) (told : vs ≡ verdicts_of (take n all)) (is : items ≡ declared_with (take n all) vs) where
    pub owner_before : IfSome x.owner (λ o. o < length items)
    owner_before =
        let long : length items ≡ n = block_count (take n all) vs items told is ∙ count in
        subst (λ (k : ℕ). IfSome x.owner (λ o. o < k)) (sym long)
        (subst (λ (w : Written). IfSome w.owner (λ o. o < n)) (there (record { name = []; owner = None })) (after n within))

    pub entry_more : (v : Verdict) (more : BlockItems) (grown : List Verdict) → v ≡ judged (counts_over items x.owner) (is_taken items next)
        → more ≡ items ++ declared_as next v ∷ [] → grown ≡ vs ++ v ∷ []
        → (grown ≡ verdicts_of (take (n + 1) all)) × (more ≡ declared_with (take (n + 1) all) grown)
    entry_more v more grown said made added =
        let both = block_more (take n all) next v items more vs grown owners owner_before told is said made added in
        (both.0 ∙ ap verdicts_of (sym front), both.1 ∙ ap (λ ws. declared_with ws grown) (sym front))
