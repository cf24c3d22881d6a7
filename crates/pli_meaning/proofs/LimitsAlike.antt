-- Which code is too long, as the generator finds it.
use Rattle.std.specs.Prelude.{◌≡◌, ℕ, suc, ◌+◌, nat_lt, Bool, true, false, cond, ◌||◌, Option, Some, None, List, [], ◌∷◌, length, map, slice_get, refl}
use Rattle.std.specs.List.{cons_option, filter, filter_map, fold, list_any}
use Rattle.std.specs.Option.{option_and_then}
use Rattle.std.proofs.Common.{ap, ◌∙◌, arith}
use Rattle.std.proofs.lemmas.Bool.Decides.{nat_tests}
use Rattle.pli_map.specs.Description.{Description, FixedBinary, Character, Varying, Bit, Pointer, Offset, Area, Array, Structure, Members, NoMembers, MemberThen, listed}
use Rattle.pli_map.specs.ParameterTypes.{ParameterType, Stated, AnyString, AnyArray, ArrayOf, StructureOf, stated}
use Rattle.pli_map.specs.Sizes.{size_of}
use Rattle.pli_code.specs.CodeTables.{Code, CodedBlock, CodedTemplate}
use Rattle.pli_gen.specs.Limits as found
use Rattle.pli_type_tree.specs.Templates.{InitialScalar}
use Rattle.pli_meaning.specs.CodeLimits.{has_many_members, one_has_many, has_many_types, initial_bytes, is_too_long}

-- ---- members

counts_alike : (ms : Members) → length (listed ms) ≡ found.member_count ms
counts_alike NoMembers = refl
counts_alike (MemberThen d ds) = ap suc (counts_alike ds)

mutual
  members_alike : (d : Description) → has_many_members d ≡ found.has_many_members d
  members_alike (FixedBinary p) = refl
  members_alike (Character n) = refl
  members_alike (Varying n) = refl
  members_alike (Bit n) = refl
  members_alike Pointer = refl
  members_alike Offset = refl
  members_alike (Area n) = refl
  members_alike (Array bounds element) = members_alike element
  members_alike (Structure ms) = λ i. nat_lt 65535 (counts_alike ms i) || one_alike ms i

  one_alike : (ms : Members) → one_has_many ms ≡ found.one_has_many ms
  one_alike NoMembers = refl
  one_alike (MemberThen d ds) = λ i. members_alike d i || one_alike ds i

types_alike : (t : ParameterType) → has_many_types t ≡ found.has_many_types t
types_alike (Stated d) = members_alike d
types_alike (AnyString form) = refl
types_alike (AnyArray dimensions element) = types_alike element
types_alike (ArrayOf bounds element) = types_alike element
types_alike (StructureOf members) = refl

-- ---- bytes

abbrev bytes_after : ℕ → List Description → ℕ
bytes_after n ds = fold (λ a d. a + size_of d) n ds

nothing_more : (n : ℕ) → n ≡ n + 0
nothing_more n = omega arith

some_there : (n : ℕ) → nat_lt 0 (suc n) ≡ true
some_there n = grind (arith, nat_tests)

module _ (types : List ParameterType) where
  abbrev description_of : CodedTemplate → Option Description
  description_of t = option_and_then stated (slice_get types t.description)

  abbrev with_initial : List CodedTemplate → List Description
  with_initial ts = filter_map description_of (filter (λ t. nat_lt 0 (length t.initial)) ts)

  one_more : (n : ℕ) (o : Option Description) (ds : List Description) → bytes_after n (cons_option o ds) ≡ bytes_after (n + found.bytes_of o) ds
  one_more n None ds = ap (λ k. bytes_after k ds) (nothing_more n)
  one_more n (Some d) ds = refl

  first_alike : (n description : ℕ) (initial : List InitialScalar) (ts : List CodedTemplate)
      → bytes_after n (with_initial (record { description = description; initial = initial } ∷ ts))
      ≡ bytes_after (n + found.initial_bytes_of types (record { description = description; initial = initial })) (with_initial ts)
  first_alike n description [] ts = ap (λ k. bytes_after k (with_initial ts)) (nothing_more n)
  first_alike n description (i ∷ is) ts =
      let t : CodedTemplate = record { description = description; initial = i ∷ is } in
      ap (λ b. bytes_after n (filter_map description_of (cond b (t ∷ filter (λ u. nat_lt 0 (length u.initial)) ts) (filter (λ u. nat_lt 0 (length u.initial)) ts)))) (some_there (length is))
      ∙ one_more n (description_of t) (with_initial ts)

  bytes_alike : (n : ℕ) (ts : List CodedTemplate) → bytes_after n (with_initial ts) ≡ fold (λ a t. a + found.initial_bytes_of types t) n ts
  bytes_alike n [] = refl
  bytes_alike n (t ∷ ts) = first_alike n t.description t.initial ts ∙ bytes_alike (n + found.initial_bytes_of types t) ts

-- ---- all limits

slots_alike : (bs : List CodedBlock) → list_any (nat_lt 65535) (map (λ (b : CodedBlock). b.parameters + length b.variables) bs) ≡ list_any found.has_many_slots bs
slots_alike [] = refl
slots_alike (b ∷ bs) = ap (λ t. found.has_many_slots b || t) (slots_alike bs)

grouped : (a b c d e f g : Bool) → (a || (b || (c || (d || (e || (f || g)))))) ≡ a || b || c || d || e || f || g
grouped true b c d e f g = refl
grouped false true c d e f g = refl
grouped false false true d e f g = refl
grouped false false false true e f g = refl
grouped false false false false true f g = refl
grouped false false false false false true g = refl
grouped false false false false false false g = refl

pub limits_alike : (c : Code) → is_too_long c ≡ found.is_too_long c
limits_alike c =
    (λ i. (found.is_over c.descriptions || (found.is_over c.templates || (found.is_over c.values || (found.is_over c.globals
    || (found.is_over c.blocks || (found.is_over c.instructions || slots_alike c.blocks i))))))
    || list_any (λ t. types_alike t i) c.descriptions || nat_lt 16777216 (bytes_alike c.descriptions 0 c.templates i) || found.has_wide_number c)
    ∙ ap (λ b. b || list_any found.has_many_types c.descriptions || nat_lt 16777216 (found.initial_bytes c) || found.has_wide_number c)
    (grouped (found.is_over c.descriptions) (found.is_over c.templates) (found.is_over c.values) (found.is_over c.globals) (found.is_over c.blocks) (found.is_over c.instructions)
    (list_any found.has_many_slots c.blocks))
