-- Templates of external variables, of equal ones one, by which these templates have numbers.
use Rattle.std.specs.Prelude.{◌≡◌, ℕ, suc, Option, Some, None, option_map, List, [], ◌∷◌, ◌++◌, map}
use Rattle.std.specs.Prelude.{if◌then◌else◌}
use Rattle.std.specs.List.{AllByRecursion}
use denote.Ref.{Bor}
use Rattle.pli_base.specs.Name.{Name}
use Rattle.pli_type_tree.specs.Templates.{Template}
use Rattle.pli_code.specs.CodeTables.{Code, CodedGlobal, OwnVariable, ExternalVariable, EntryPoint}
use Rattle.pli_code.specs.CodeTables.{template_at}
use Rattle.pli_type_keys.specs.Same.{same_template}
use Rattle.pli_type_keys.specs.views.KeyView.{templated}
use Rattle.pli_type_keys.specs.declared.key.TemplateKey.{TemplateKey}
use Rattle.pli_link.specs.declared.global_fault.GlobalFault.{GlobalFault}
use Rattle.pli_link.specs.declared.global_fault.GlobalFault.TheVariants.{Unresolved, Mismatch}
use Rattle.pli_link.specs.declared.names.KnownExternal.{KnownExternal}

-- where the first template stands that is equal to one
abbrev pub place_of : Template → (known : List Template) → Option ℕ
place_of t [] = None
place_of t (k ∷ known) = if same_template t k then Some 0 else option_map suc (place_of t known)

-- a template that a table may lack has this class
abbrev pub IsClass : (known : List Template) → Option Template → (class : Option ℕ) → Type 0
IsClass known None None = Unit {0}
IsClass known None (Some k) = ⊥
IsClass known (Some t) None = ⊥
IsClass known (Some t) (Some k) = place_of t known ≡ Some k

-- the templates that are known
abbrev pub known_in : List TemplateKey → List Template
known_in ts = map templated ts

-- others may have come after those that were known
pub record Grows (old new : List TemplateKey) : Type 0 where
  pub more : List TemplateKey
  pub is : new ≡ old ++ more

-- the template of an external variable has this class, where a fault is looked for that classes tell: a mismatch
abbrev pub IsClassFor : GlobalFault → (known : List Template) → Code → CodedGlobal → (class : Option ℕ)
    → Type 0
IsClassFor Unresolved known code g class = Unit {0}
IsClassFor Mismatch known code (OwnVariable kind t) class = Unit {0}
IsClassFor Mismatch known code (ExternalVariable name kind t) class = IsClass known (template_at code t) class
IsClassFor Mismatch known code (EntryPoint name s) class = Unit {0}

-- external variables have the classes of their templates
abbrev pub AreClassed : (known : List Template) → List (Name × KnownExternal) → Type 0
AreClassed known es = AllByRecursion (λ e. IsClass known (option_map templated e.1.template) e.1.class) es

-- so has a first one that was found
abbrev pub IsFirstClassed : (known : List Template) → Option (Bor KnownExternal) → Type 0
IsFirstClassed known None = Unit {0}
IsFirstClassed known (Some e) = IsClass known (option_map templated e.now.template) e.now.class
