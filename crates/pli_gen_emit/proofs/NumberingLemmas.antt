-- Entries that were numbered, unless memory was wanting.
use Rattle.std.proofs.Common.{◌≡◌, ℕ, ◌+◌, ◌<◌, ◌++◌, ◌∷◌, [], List, false, length, get_or, drop, ap, ◌∙◌, sym}
use Rattle.pli_map.specs.ParameterTypes.{ParameterType, same_type}
use Rattle.pli_type_tree.specs.Templates.{Template}
use Rattle.pli_value.specs.Value.{Value}
use Rattle.pli_gen_emit.specs.Encoding.{numbered}
use Rattle.pli_type_keys.specs.Same.{same_template, same_value}
use Rattle.pli_gen_emit.specs.answers.Numbering.{Numbers}
use Rattle.pli_gen_emit.specs.declared.table.NumberedTables.{NumberedTables}
use Rattle.pli_gen_emit.specs.views.TableView.{tables_view}
use Rattle.pli_gen_emit.proofs.KeyLemmas.{numbered_more, numbered_after}

-- some after others
pub numbers_both : (old mid new : NumberedTables) (ds ds2 : List ParameterType) (ts ts2 : List Template) (vs vs2 : List Value)
    → Numbers old mid ds ts vs → Numbers mid new ds2 ts2 vs2 → Numbers old new (ds ++ ds2) (ts ++ ts2) (vs ++ vs2)
numbers_both old mid new ds ds2 ts ts2 vs vs2 a b = record {
  memory = λ h. a.memory (b.memory h);
  descriptions = λ h. b.descriptions h ∙ ap (λ t. numbered same_type t ds2) (a.descriptions (b.memory h)) ∙ sym (numbered_after same_type (tables_view old).descriptions ds ds2);
  templates = λ h. b.templates h ∙ ap (λ t. numbered same_template t ts2) (a.templates (b.memory h)) ∙ sym (numbered_after same_template (tables_view old).templates ts ts2);
  values = λ h. b.values h ∙ ap (λ t. numbered same_value t vs2) (a.values (b.memory h)) ∙ sym (numbered_after same_value (tables_view old).values vs vs2);
}

-- in a loop: what was numbered so far and what is left come to the whole
abbrev pub IsNumbering : (initial now : NumberedTables) → (ds : List ParameterType) → (ts : List Template) → (vs : List Value)
    → (all_ds : List ParameterType) → (all_ts : List Template) → (all_vs : List Value) → Type 0
IsNumbering initial now ds ts vs all_ds all_ts all_vs = record {
  memory : now.lacks_memory ≡ false → initial.lacks_memory ≡ false;
  descriptions : now.lacks_memory ≡ false → numbered same_type (tables_view now).descriptions ds ≡ numbered same_type (tables_view initial).descriptions all_ds;
  templates : now.lacks_memory ≡ false → numbered same_template (tables_view now).templates ts ≡ numbered same_template (tables_view initial).templates all_ts;
  values : now.lacks_memory ≡ false → numbered same_value (tables_view now).values vs ≡ numbered same_value (tables_view initial).values all_vs;
}

-- and the next element
module _ {X : Type 0} (ds : List X → List ParameterType) (ts : List X → List Template) (vs : List X → List Value)
    (d : X → List ParameterType) (t : X → List Template) (v : X → List Value)
    (d_splits : (x : X) (xs : List X) → ds (x ∷ xs) ≡ d x ++ ds xs) (t_splits : (x : X) (xs : List X) → ts (x ∷ xs) ≡ t x ++ ts xs)
    (v_splits : (x : X) (xs : List X) → vs (x ∷ xs) ≡ v x ++ vs xs) where
  pub numbering_next : (initial now new : NumberedTables) (xs : List X) (i : ℕ) (x : X) → i < length xs → x ≡ get_or xs i x → Numbers now new (d x) (t x) (v x)
      → IsNumbering initial now (ds (drop i xs)) (ts (drop i xs)) (vs (drop i xs)) (ds xs) (ts xs) (vs xs)
      → IsNumbering initial new (ds (drop (i + 1) xs)) (ts (drop (i + 1) xs)) (vs (drop (i + 1) xs)) (ds xs) (ts xs) (vs xs)
  numbering_next initial now new xs i x lt read e was = record {
    memory = λ h. was.memory (e.memory h);
    descriptions = λ h. numbered_more same_type ds d d_splits xs i x _ _ _ lt (e.descriptions h ∙ ap (λ y. numbered same_type (tables_view now).descriptions (d y)) read) (was.descriptions (e.memory h));
    templates = λ h. numbered_more same_template ts t t_splits xs i x _ _ _ lt (e.templates h ∙ ap (λ y. numbered same_template (tables_view now).templates (t y)) read) (was.templates (e.memory h));
    values = λ h. numbered_more same_value vs v v_splits xs i x _ _ _ lt (e.values h ∙ ap (λ y. numbered same_value (tables_view now).values (v y)) read) (was.values (e.memory h));
  }

-- entries that come to the same
pub numbers_like : (old new : NumberedTables) (ds ds2 : List ParameterType) (ts ts2 : List Template) → Numbers old new ds ts []
    → ((table : List ParameterType) → numbered same_type table ds ≡ numbered same_type table ds2)
    → ((table : List Template) → numbered same_template table ts ≡ numbered same_template table ts2) → Numbers old new ds2 ts2 []
numbers_like old new ds ds2 ts ts2 n d t = record {
  memory = n.memory;
  descriptions = λ h. n.descriptions h ∙ d (tables_view old).descriptions;
  templates = λ h. n.templates h ∙ t (tables_view old).templates;
  values = n.values;
}
