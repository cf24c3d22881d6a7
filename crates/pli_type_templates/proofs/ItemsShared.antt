-- What names of one item have in common.
use Rattle.std.proofs.Common.{◌≡◌, ℕ, Option, List, [], ◌∷◌, map, option_map, sym, ap, ◌∙◌}
use Rattle.pli_base.specs.Declarations.{Item}
use Rattle.pli_base.specs.Name.{Name}
use Rattle.pli_base.specs.declared.declaration.InitialValue.{InitialValue}
use Rattle.pli_declare.specs.Faults.{described_scalar, parameter_of, parameters_in, returned_in}
use Rattle.pli_declare.specs.Initials.{values_in}
use Rattle.pli_declare_outline.specs.Outlines.{PlacedMark}
use Rattle.pli_map.specs.Description.{Description}
use Rattle.pli_map.specs.ParameterTypes.{ParameterType}
use Rattle.pli_type_rules.specs.InitialScalars.{InitialItem, template_of}
use Rattle.pli_type_templates.specs.Globals.{IsLike}
use Rattle.pli_type_templates.specs.Groups.{MadeVariable, template_with}
use Rattle.pli_type_templates.specs.ItemNames.{HasEntry, HasValues}
use Rattle.pli_type_templates.specs.NotedNames.{AreOfOne}
use Rattle.pli_type_tree.specs.Templates.{Template}
use Rattle.pli_type_tree.specs.TypedTree.{EntryPoint, Signature}

pub same_values : (marks : List PlacedMark) (left right : ℕ) (vs ws : List InitialValue) → AreOfOne marks left right
    → HasValues marks left vs → HasValues marks right ws → vs ≡ ws
same_values marks left right vs ws one h g =
    h.said ∙ ap (λ (i : Item). values_in i.attributes) (one h.number g.number h.item g.item h.name g.name) ∙ sym g.said

pub like_entries : (marks : List PlacedMark) (left right : ℕ) (name further : Name) (ds es : List ParameterType) (r q : Option Description) → AreOfOne marks left right
    → HasEntry marks left ds r → HasEntry marks right es q
    → IsLike (EntryPoint name (record { parameters = ds; result = r })) (EntryPoint further (record { parameters = es; result = q }))
like_entries marks left right name further ds es r q one h g =
    let same = sym (one h.number g.number h.item g.item h.name g.name) in
    let taken : es ≡ ds = g.taken ∙ ap (λ (i : Item). map parameter_of (parameters_in i.attributes)) same ∙ sym h.taken in
    let given : q ≡ r = g.given ∙ ap (λ (i : Item). option_map described_scalar (returned_in i.attributes)) same ∙ sym h.given in
    let signature : List ParameterType → Option Description → Signature = λ ps o. record { parameters = ps; result = o } in
    ap (λ ps. signature ps q) taken ∙ ap (signature ds) given

-- variables without members that have initial values
pub same_template : (left right : MadeVariable) → left.members ≡ [] → right.members ≡ [] → left.values ≡ right.values → left.description ≡ right.description
    → template_with left ≡ template_with right
same_template left right none no_other values description =
    let made : Description → List InitialValue → List InitialItem → Template = λ d vs ms. template_of d (record { path = []; values = vs } ∷ ms) in
    ap (λ d. made d left.values left.members) description
    ∙ ap (λ vs. made right.description vs left.members) values
    ∙ ap (made right.description right.values) (none ∙ sym no_other)
