-- Reading descriptions and types level by level.
use Rattle.std.proofs.Common.{◌≡◌, ℕ, zero, suc, ◌-◌, ◌<◌, true, false, List, [], get_or, Result, Ok, Err, ◌⊎◌, inl, inr, refl, sym, ap, ◌∙◌, arith}
use Rattle.std.proofs.lemmas.List.{get_or_past}
use Rattle.pli_map.specs.ParameterTypes.{ParameterType, AnyString, AnyArray}
use Rattle.pli_map.specs.declared.parameter.StringForm.{StringForm}
use Rattle.pli_map.specs.declared.parameter.StringForm.TheVariants as forms
use Rattle.pli_code.specs.declared.fault.DeckFault.{DeckFault}
use Rattle.pli_code.specs.declared.fault.DeckFault.TheVariants.{OutOfRange}
use Rattle.pli_base.specs.Results.{◌>>=◌}
use Rattle.pli_code.specs.Fields.{Field, Reader, ◌⊗◌, made, byte_at, unknown}
use Rattle.pli_code.specs.Instructions.{dimension_number}
use Rattle.pli_code.specs.Versions.{has_stars}
use Rattle.pli_code.specs.declared.version.Version.{Version}
use Rattle.pli_code.specs.declared.version.Version.TheVariants.{First, Second, Third}
use Rattle.pli_deck_write.specs.Descriptions.{any_string_tag, element_of, type_readers, described, description_within}

abbrev by_tag : List (Reader ParameterType) → ℕ × List ℕ → Result (ParameterType × List ℕ) DeckFault
by_tag readers t = get_or readers t.0 unknown t.1

-- no tag
pub without_tag : (v : Version) (levels : ℕ) (bytes : List ℕ) (f : DeckFault) → byte_at bytes ≡ Err f → (description_within v levels).read bytes ≡ Err f
unfolding description_within
without_tag v zero bytes f h = ap (λ r. r >>= by_tag []) h
without_tag v (suc n) bytes f h = ap (λ r. r >>= by_tag (type_readers v (description_within v n))) h

-- a level too many
pub below_all : (v : Version) (levels : ℕ) (bytes : List ℕ) (tag : ℕ) (rest : List ℕ) → levels ≡ 0 → byte_at bytes ≡ Ok (tag, rest) → (description_within v levels).read bytes ≡ Err OutOfRange
unfolding description_within
below_all v zero bytes tag rest none h = ap (λ r. r >>= by_tag []) h
below_all v (suc n) bytes tag rest none h = absurd (omega (arith, none))

-- what stands after the tag is in one level less
pub after_tag : (v : Version) (levels : ℕ) (bytes : List ℕ) (tag : ℕ) (rest : List ℕ) → 0 < levels → byte_at bytes ≡ Ok (tag, rest)
    → (description_within v levels).read bytes ≡ described v (description_within v (levels - 1)) tag rest
unfolding description_within described
after_tag v zero bytes tag rest some h = absurd (omega (arith, some))
after_tag v (suc n) bytes tag rest some h =
    let one_less : suc n - 1 ≡ n = omega arith in
    ap (λ r. r >>= by_tag (type_readers v (description_within v n))) h ∙ ap (λ m. described v (description_within v m) tag rest) (sym one_less)

-- no form has the tag 0, or one over 13
pub no_form : (v : Version) (inner : Field ParameterType) (tag : ℕ) (bytes : List ℕ) → (tag ≡ 0) ⊎ (13 < tag) → described v inner tag bytes ≡ Err OutOfRange
unfolding described
no_form v inner tag bytes (inl none) = ap (λ n. get_or (type_readers v inner) n unknown bytes) none
no_form First inner tag bytes (inr over) = ap (λ (r : Reader ParameterType). r bytes) (get_or_past (type_readers First inner) tag unknown (omega arith))
no_form Second inner tag bytes (inr over) = ap (λ (r : Reader ParameterType). r bytes) (get_or_past (type_readers Second inner) tag unknown (omega arith))
no_form Third inner tag bytes (inr over) = ap (λ (r : Reader ParameterType). r bytes) (get_or_past (type_readers Third inner) tag unknown (omega arith))

-- and none over 9 in a version that has no `*`
pub no_open_form : (v : Version) (inner : Field ParameterType) (tag : ℕ) (bytes : List ℕ) → has_stars v ≡ false → 9 < tag → described v inner tag bytes ≡ Err OutOfRange
unfolding described
no_open_form First inner tag bytes h over = ap (λ (r : Reader ParameterType). r bytes) (get_or_past (type_readers First inner) tag unknown (omega arith))
no_open_form Second inner tag bytes h over = ap (λ (r : Reader ParameterType). r bytes) (get_or_past (type_readers Second inner) tag unknown (omega arith))
no_open_form Third inner tag bytes h over = absurd cc

pub tag_over : (f : StringForm) → 9 < any_string_tag f
tag_over forms.Character = omega arith
tag_over forms.Varying = omega arith
tag_over forms.Bit = omega arith

-- a string of any length is its tag alone
pub any_string_read : (v : Version) (inner : Field ParameterType) (f : StringForm) (bytes : List ℕ) → has_stars v ≡ true → described v inner (any_string_tag f) bytes ≡ Ok (AnyString f, bytes)
unfolding described
any_string_read First inner f bytes h = absurd cc
any_string_read Second inner f bytes h = absurd cc
any_string_read Third inner forms.Character bytes h = refl
any_string_read Third inner forms.Varying bytes h = refl
any_string_read Third inner forms.Bit bytes h = refl

-- an array whose bounds are `*` has its dimensions and its element after the tag
pub any_array_read : (v : Version) (inner : Field ParameterType) (bytes : List ℕ) → has_stars v ≡ true
    → described v inner 13 bytes ≡ made (λ p. AnyArray p.0 p.1) (dimension_number ⊗ element_of inner) bytes
unfolding described
any_array_read First inner bytes h = absurd cc
any_array_read Second inner bytes h = absurd cc
any_array_read Third inner bytes h = refl
