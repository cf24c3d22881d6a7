-- What a global is that is described as a variable of a kind.
use Rattle.std.specs.Prelude.{◌≡◌, Option, Some, None, if◌then◌else◌, refl}
use Rattle.std.proofs.Common.{ap, ◌∙◌}
use Rattle.pli_map.specs.Description.{Description}
use Rattle.pli_program.specs.declared.kind.VariableKind.{VariableKind}
use Rattle.pli_program.specs.declared.kind.VariableKind.TheVariants.{Static, Controlled}
use Rattle.pli_type_tree.specs.Globals.{kind_of, description_of, is_kind, described_as}
use Rattle.pli_type_tree.specs.TypedTree.{Global, OwnVariable, ExternalVariable, EntryPoint}

none_some : {A : Type 0} {x : A} → None ≡ Some x → ⊥
none_some e = absurd (cc)

in_parts : (kind : VariableKind) (o : Option VariableKind) (p : Option Description) (d : Description)
    → (if is_kind kind o then p else None) ≡ Some d → (o ≡ Some kind) × (p ≡ Some d)
in_parts Static (Some Static) p d e = (refl, e)
in_parts Static (Some Controlled) p d e = absurd (none_some e)
in_parts Static None p d e = absurd (none_some e)
in_parts Controlled (Some Static) p d e = absurd (none_some e)
in_parts Controlled (Some Controlled) p d e = (refl, e)
in_parts Controlled None p d e = absurd (none_some e)

-- it is of that kind, and of that description
pub described_parts : (kind : VariableKind) (g : Option Global) (d : Description)
    → described_as kind g ≡ Some d → (kind_of g ≡ Some kind) × (description_of g ≡ Some d)
described_parts kind g d e = in_parts kind (kind_of g) (description_of g) d e

of_kind : (kind : VariableKind) (p : Option Description) → (if is_kind kind (Some kind) then p else None) ≡ p
of_kind Static p = refl
of_kind Controlled p = refl

-- and so it is described
pub described_of : (kind : VariableKind) (g : Option Global) (d : Description) → kind_of g ≡ Some kind
    → description_of g ≡ Some d → described_as kind g ≡ Some d
described_of kind g d e f =
    ap (λ o. if is_kind kind o then description_of g else None) e ∙ of_kind kind (description_of g) ∙ f

-- what has a kind has a description
pub kind_described : (kind : VariableKind) (g : Option Global) → kind_of g ≡ Some kind
    → (d : Description) × (described_as kind g ≡ Some d)
kind_described kind None e = absurd (none_some e)
kind_described kind (Some (OwnVariable k t)) e =
    (t.description, described_of kind (Some (OwnVariable k t)) t.description e refl)
kind_described kind (Some (ExternalVariable name k t)) e =
    (t.description, described_of kind (Some (ExternalVariable name k t)) t.description e refl)
kind_described kind (Some (EntryPoint name signature)) e = absurd (none_some e)
