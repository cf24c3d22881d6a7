-- What a deck that has a spelling says of its globals, and what templates take in bytes.
use Rattle.std.proofs.Common.{◌≡◌, ℕ, ◌≤◌, Bool, true, ◌&&◌, Option, Some, None, List, [], ◌∷◌, length, slice_get, refl, arith, ltb-true}
use Rattle.std.specs.List.{list_all}
use Rattle.pli_base.specs.Name.{Name}
use Rattle.pli_map.specs.Description.{Description}
use Rattle.pli_map.specs.Sizes.{size_of}
use Rattle.pli_type_tree.specs.Templates.{InitialScalar, Template}
use Rattle.pli_code.specs.CodeTables.{CodedTemplate, CodedGlobal, OwnVariable, ExternalVariable, EntryPoint, Code, Deck, there, stated_at, described, with_description, template_at}
use Rattle.pli_program.specs.declared.kind.VariableKind.{VariableKind}
use Rattle.pli_program.specs.declared.kind.VariableKind.TheVariants.{Static, Controlled}
use Rattle.pli_link.specs.ModuleSize.{made_of, own_of}
use Rattle.pli_code.specs.Fields.{u2, list}
use Rattle.pli_deck_write.specs.Descriptions.{description}
use Rattle.pli_code.specs.Instructions.{instruction_in}
use Rattle.pli_deck_write.specs.DeckFields.{name, flag, constant, template, signature, global, block, code, contents, deck, deck_in_versions}
use Rattle.pli_deck_write.specs.ModuleSpelling.{description_bytes, bytes_by_template, template_bytes, static_bytes}
use Rattle.pli_link_laws.proofs.Sums.{total, total_joined, both_of}

pub short_of : (n : ℕ) → u2.fits n ≡ true → n ≤ 65535
short_of n h = let l = ltb-true n 65536 h in omega (arith, l)

pub record GlobalsFit (d : Deck) : Type 0 where
  pub few : length d.code.globals ≤ 65535
  pub each : list_all global.fits d.code.globals ≡ true

second_of : (a b : Bool) → (a && b) ≡ true → b ≡ true
second_of a b h = (both_of a b h).1

pub globals_fit : (d : Deck) → deck.fits d ≡ true → GlobalsFit d
unfolding deck_in_versions contents code
globals_fit d h =
    let v = d.version in
    let ds = (list (description v)).fits d.code.descriptions in
    let ts = (list (template v)).fits d.code.templates in
    let vs = (list (constant v)).fits d.code.values in
    let gs = (list global).fits d.code.globals in
    let rest = (list block).fits d.code.blocks && (list (instruction_in v)).fits d.code.instructions in
    let tail = ds && (ts && (vs && (gs && rest))) in
    let after_name = second_of (name.fits d.name) (flag.fits d.is_main && (signature.fits d.code.signature && tail)) h in
    let after_flag = second_of (flag.fits d.is_main) (signature.fits d.code.signature && tail) after_name in
    let all = second_of (signature.fits d.code.signature) tail after_flag in
    let after_descriptions = second_of ds (ts && (vs && (gs && rest))) all in
    let after_templates = second_of ts (vs && (gs && rest)) after_descriptions in
    let after_values = second_of vs (gs && rest) after_templates in
    let parts = both_of (u2.fits (length d.code.globals)) (list_all global.fits d.code.globals) (both_of gs rest after_values).0 in
    record { few = short_of (length d.code.globals) parts.0; each = parts.1 }

pub name_fits : (n : Name) (kind : VariableKind) (t : ℕ) → global.fits (ExternalVariable n kind t) ≡ true → name.fits n ≡ true
unfolding global
name_fits n Static t h = (both_of (name.fits n) (u2.fits t) h).0
name_fits n Controlled t h = (both_of (name.fits n) (u2.fits t) h).0

-- ---- bytes of templates

abbrev pub bytes_of : Option Template → ℕ
bytes_of None = 0
bytes_of (Some t) = size_of t.description

abbrev pub size_in : Template → ℕ
size_in t = size_of t.description

pub template_same : (c : Code) (t : ℕ) → template_bytes c t ≡ bytes_of (template_at c t)
template_same c t = by (slice_get c.templates t)
  where
    named : (initial : List InitialScalar) (o : Option Description) → description_bytes o ≡ bytes_of (described c initial o)
    named initial None = refl
    named initial (Some d) = refl

    by : (o : Option CodedTemplate) → bytes_by_template c o ≡ bytes_of (with_description c o)
    by None = refl
    by (Some t) = named t.initial (stated_at c t.description)

pub there_bytes : (o : Option Template) → total size_in (there o) ≡ bytes_of o
there_bytes None = refl
there_bytes (Some t) = omega arith

-- what is made of a template before the program begins takes its bytes, if it is made of a STATIC variable's
abbrev pub bytes_made : VariableKind → Option Template → ℕ
bytes_made Static t = bytes_of t
bytes_made Controlled t = 0

pub made_bytes : (kind : VariableKind) (t : Option Template) → total size_in (made_of kind t) ≡ bytes_made kind t
made_bytes Static t = there_bytes t
made_bytes Controlled t = refl

-- the variables that a unit has for itself take the same bytes in its deck
pub own_bytes : (c : Code) (gs : List CodedGlobal) → total (static_bytes c) gs ≡ total size_in (own_of c gs)
own_bytes c [] = refl
own_bytes c (OwnVariable Static t ∷ gs) =
    omega (arith, own_bytes c gs, template_same c t, there_bytes (template_at c t), total_joined size_in (there (template_at c t)) (own_of c gs))
own_bytes c (OwnVariable Controlled t ∷ gs) = omega (arith, own_bytes c gs)
own_bytes c (ExternalVariable n kind t ∷ gs) = omega (arith, own_bytes c gs)
own_bytes c (EntryPoint n s ∷ gs) = omega (arith, own_bytes c gs)
