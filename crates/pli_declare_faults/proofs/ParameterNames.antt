-- The names of parameters, and their faults.
use Rattle.std.proofs.Common.{◌≡◌, ℕ, ◌+◌, ◌<◌, Bool, not, List, [], ◌∷◌, ◌++◌, map, length, get_or, take, drop, sym, ap, ◌∙◌, append_assoc}
use Rattle.std.specs.List.{list_any}
use Rattle.std.proofs.Math.Bool.{not-not}
use Rattle.std.proofs.lemmas.List.{take_more, drop_more, map-append}
use Rattle.pli_base.specs.Name.{Name}
use Rattle.pli_base.specs.Words.{same_name}
use Rattle.pli_base.specs.declared.syntax.Identifier.{Identifier}
use Rattle.pli_base.specs.declared.token.Fault.{Fault}
use Rattle.pli_declare_outline.specs.Outlines.{Outline}
use Rattle.pli_declare.specs.Tables.{entries_in}
use Rattle.pli_declare.specs.Resolution.{at_token, is_item_named, parameter_code, parameter_codes}
use Rattle.pli_declare_faults.specs.answers.Walks.{code_of_parameter}

-- under a name that a tactic can name
pub not_not : (b : Bool) → not (not b) ≡ b
not_not = not-not

abbrev pub names_to : List Identifier → ℕ → List Name
names_to parameters n = map (λ i. i.name) (take n parameters)

pub names_more : (parameters : List Identifier) (n : ℕ) (x : Identifier) → n < length parameters → x ≡ get_or parameters n x
    → names_to parameters (n + 1) ≡ names_to parameters n ++ x.name ∷ []
names_more parameters n x lt read =
    ap (map (λ i. i.name)) (take_more parameters n x lt) ∙ map-append (λ i. i.name) (take n parameters) (get_or parameters n x ∷ [])
    ∙ ap (λ (y : Identifier). names_to parameters n ++ y.name ∷ []) (sym read)

-- one more parameter
pub told_more : (o : Outline) (region : ℕ) (parameters : List Identifier) (n : ℕ) (x : Identifier) → n < length parameters → x ≡ get_or parameters n x
    → (keys items : List Name) → ((i : Name) → list_any (same_name i) keys ≡ list_any (same_name i) (names_to parameters n))
    → ((i : Name) → list_any (same_name i) items ≡ list_any (is_item_named i) (entries_in o region))
    → (faults next all : List Fault) → next ≡ faults ++ at_token x.at (code_of_parameter (list_any (same_name x.name) keys) (list_any (same_name x.name) items))
    → faults ++ parameter_codes o region (names_to parameters n) (drop n parameters) ≡ all
    → next ++ parameter_codes o region (names_to parameters (n + 1)) (drop (n + 1) parameters) ≡ all
told_more o region parameters n x lt read keys items seen listed faults next all e so_far =
    let names = names_to parameters n in
    let rest = drop (n + 1) parameters in
    let is_item = list_any (same_name x.name) items in
    let one : code_of_parameter (list_any (same_name x.name) keys) is_item ≡ parameter_code o region names x.name =
    ap (λ b. code_of_parameter b is_item) (seen x.name) ∙ ap (code_of_parameter (list_any (same_name x.name) names)) (listed x.name) in
    let back : drop n parameters ≡ x ∷ rest = drop_more parameters n x lt ∙ ap (λ y. y ∷ rest) (sym read) in
    ap (λ fs. fs ++ parameter_codes o region (names_to parameters (n + 1)) rest) (e ∙ ap (λ k. faults ++ at_token x.at k) one)
    ∙ ap (λ ns. (faults ++ at_token x.at (parameter_code o region names x.name)) ++ parameter_codes o region ns rest) (names_more parameters n x lt read)
    ∙ append_assoc faults (at_token x.at (parameter_code o region names x.name)) (parameter_codes o region (names ++ x.name ∷ []) rest)
    ∙ sym (ap (λ ps. faults ++ parameter_codes o region names ps) back) ∙ so_far
