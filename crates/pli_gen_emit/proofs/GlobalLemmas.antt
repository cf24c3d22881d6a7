-- Globals of groups: what they name, and their code.
use Rattle.std.proofs.Common.{◌≡◌, ℕ, zero, suc, ◌==◌, Bool, false, List, [], ◌∷◌, map, length, replicate, refl, sym, ap, ◌∙◌, true≢false, arith}
use Rattle.std.specs.List.{flat_map, AllByRecursion}
use Rattle.pli_base.specs.Name.{Name}
use Rattle.pli_map.specs.ParameterTypes.{ParameterType, Stated, same_type}
use Rattle.pli_map.specs.laws.ParameterLaws.{same_type_decides}
use Rattle.pli_program.specs.declared.kind.VariableKind.{VariableKind}
use Rattle.pli_type_tree.specs.Templates.{Template}
use Rattle.pli_type_tree.specs.TypedTree.{Signature, Global, OwnVariable, ExternalVariable, EntryPoint}
use Rattle.pli_code.specs.CodeTables as plain
use Rattle.pli_gen_emit.specs.Encoding.{NumberedTables, numbered, signature_descriptions, global_descriptions, global_templates, template_number, signature_code, global_code}
use Rattle.pli_type_keys.specs.Same.{same_template}
use Rattle.pli_gen_emit.proofs.KeyLemmas.{numbered_after, all_there}
use Rattle.pli_gen_emit.proofs.TableNumbers.{Has, has_all}

-- where a list is not empty
pub not_none : {X : Type 0} (xs : List X) (b : Bool) → b ≡ (length xs == 0) → b ≡ false → length xs ≡ 0 → ⊥
not_none [] b is some e = true≢false (sym is ∙ some)
not_none (x ∷ xs) b is some e = omega (arith, e)

-- variables of a unit's own
pub own_described : (kind : VariableKind) (ts : List Template) → map (λ t. Stated t.description) ts ≡ flat_map global_descriptions (map (OwnVariable kind) ts)
own_described kind [] = refl
own_described kind (t ∷ ts) = ap (λ ds. Stated t.description ∷ ds) (own_described kind ts)

pub own_templated : (kind : VariableKind) (ts : List Template) → ts ≡ flat_map global_templates (map (OwnVariable kind) ts)
own_templated kind [] = refl
own_templated kind (t ∷ ts) = ap (λ ts. t ∷ ts) (own_templated kind ts)

-- external variables of one template
abbrev pub external : VariableKind → Template → List Name → List Global
external kind t names = map (λ name. ExternalVariable name kind t) names

pub external_described : (kind : VariableKind) (t : Template) (names : List Name)
    → map (λ t. Stated t.description) (replicate (length names) t) ≡ flat_map global_descriptions (external kind t names)
external_described kind t [] = refl
external_described kind t (n ∷ ns) = ap (λ ds. Stated t.description ∷ ds) (external_described kind t ns)

pub external_templated : (kind : VariableKind) (t : Template) (names : List Name) → replicate (length names) t ≡ flat_map global_templates (external kind t names)
external_templated kind t [] = refl
external_templated kind t (n ∷ ns) = ap (λ ts. t ∷ ts) (external_templated kind t ns)

-- entries of one signature
abbrev entries : Signature → List Name → List Global
entries s names = map (λ name. EntryPoint name s) names

entries_again : (s : Signature) (names : List Name) (table : List ParameterType) → AllByRecursion (Has same_type same_type_decides table) (signature_descriptions s)
    → numbered same_type table (flat_map global_descriptions (entries s names)) ≡ table
entries_again s [] table h = refl
entries_again s (n ∷ ns) table h =
    let rest = flat_map global_descriptions (entries s ns) in
    numbered_after same_type table (signature_descriptions s) rest
    ∙ ap (λ t. numbered same_type t rest) (all_there same_type same_type_decides (signature_descriptions s) table h) ∙ entries_again s ns table h

pub entries_described : (s : Signature) (names : List Name) → (length names ≡ 0 → ⊥) → (table : List ParameterType)
    → numbered same_type table (signature_descriptions s) ≡ numbered same_type table (flat_map global_descriptions (entries s names))
entries_described s [] some table = absurd (some refl)
entries_described s (n ∷ ns) some table =
    let ds = signature_descriptions s in
    let rest = flat_map global_descriptions (entries s ns) in
    sym (numbered_after same_type table ds rest ∙ entries_again s ns (numbered same_type table ds) (has_all same_type same_type_decides ds table))

pub entries_templated : (s : Signature) (names : List Name) (table : List Template) → table ≡ numbered same_template table (flat_map global_templates (entries s names))
entries_templated s [] table = refl
entries_templated s (n ∷ ns) table = entries_templated s ns table

-- the code of each
module _ (t : NumberedTables) where
  pub own_coded : (kind : VariableKind) (n : ℕ) (x : Template) → replicate n (plain.OwnVariable kind (template_number t x)) ≡ map (global_code t) (map (OwnVariable kind) (replicate n x))
  own_coded kind zero x = refl
  own_coded kind (suc n) x = ap (λ gs. plain.OwnVariable kind (template_number t x) ∷ gs) (own_coded kind n x)

  pub external_coded : (kind : VariableKind) (x : Template) (names : List Name)
      → map (λ name. plain.ExternalVariable name kind (template_number t x)) names ≡ map (global_code t) (external kind x names)
  external_coded kind x [] = refl
  external_coded kind x (n ∷ ns) = ap (λ gs. plain.ExternalVariable n kind (template_number t x) ∷ gs) (external_coded kind x ns)

  pub entries_coded : (s : Signature) (names : List Name) → map (λ name. plain.EntryPoint name (signature_code t s)) names ≡ map (global_code t) (entries s names)
  entries_coded s [] = refl
  entries_coded s (n ∷ ns) = ap (λ gs. plain.EntryPoint n (signature_code t s) ∷ gs) (entries_coded s ns)
