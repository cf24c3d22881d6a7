-- What is read in the bytes of the store is what places hold.
use Rattle.std.specs.Prelude.{⊤, IsSome}
use Rattle.std.proofs.Common.{◌≡◌, ◌≢◌, ℕ, ◌+◌, ◌≤◌, true, List, [], ◌∷◌, length, get_or, Option, None, Some, IfSome, MatchOption, Bor, refl, sym, ap, ◌∙◌, arith}
use Rattle.pli_bytes.specs.Contents.{bytes_from, value_in}
use Rattle.pli_map.specs.Description.{Description}
use Rattle.pli_map.specs.Scalars.{is_scalar}
use Rattle.pli_map.specs.Sizes.{size_of}
use Rattle.pli_value.specs.Value.{Value, Characters}
use Rattle.pli_world.specs.Storage as plain
use Rattle.pli_world.specs.World.{World, Yields, held}
use Rattle.pli_store.specs.answers.Found.{LeadsTo, LeadsToNone}
use Rattle.pli_store.specs.answers.Kinds.{are_characters}
use Rattle.pli_store.specs.declared.generation.Generation.{Generation}
use Rattle.pli_store.specs.declared.part.GenerationPart.{GenerationPart}
use Rattle.pli_store.specs.declared.storage.Storage.{Storage}
use Rattle.pli_store.specs.views.StorageView.{storage_view, with_storage}
use Rattle.pli_store.proofs.HeldScalars.{characters_of, scalar_of_text}
use Rattle.pli_store.proofs.PartAnswers.{held_scalar}
use Rattle.pli_store.proofs.StandingParts.{bytes_within, read_there, held_there}

-- where nothing is found, another reason follows
pub otherwise : {X : Type 0} (r : Option X) (Found : X → Type 0) {P Q : Type 0} → (P → Q) → MatchOption r P Found → MatchOption r Q Found
otherwise None Found f h = f h
otherwise (Some x) Found f h = h

-- what is known of what is found, where nothing is known of the rest
pub if_found : {X : Type 0} (r : Option X) (Found : X → Type 0) → MatchOption r ⊤ Found → IfSome r Found
if_found None Found h = tt
if_found (Some x) Found h = h

-- something is found where nothing can't be
pub must_be : {X : Type 0} (r : Option X) (Found : X → Type 0) → MatchOption r ⊥ Found → IsSome r
must_be None Found h = absurd h
must_be (Some x) Found h = refl

module _ (s : Storage) (p : plain.Place) (part : GenerationPart) (l : LeadsTo (storage_view s) p part)
    (g : Generation) (read : g ≡ get_or s.generations.items part.at g) (bytes : List ℕ) (same : bytes ≡ g.bytes.items) where
  pub value_read : (v : Value) → is_scalar p.description ≡ true → value_in bytes (record { offset = part.offset; description = p.description }) ≡ v
      → (w : World) → held p (with_storage s w) ≡ Yields v (with_storage s w)
  value_read v scalar value w =
      held_scalar p (with_storage s w) part l v scalar
      (held_there s.generations.items part p.description l.there g (read_there s.generations.items part p.description l.there g read) scalar
      ∙ ap (λ b. value_in b (record { offset = part.offset; description = p.description }) ∷ []) (sym same)
      ∙ ap (λ (u : Value). u ∷ []) value)

  pub within : (d : Description) → p.description ≡ d → part.offset + size_of d ≤ length bytes
  within d is =
      let there = read_there s.generations.items part p.description l.there g read in
      omega (arith, bytes_within s.generations.items part p.description l.there g there, ap size_of is, ap length same)

  -- a scalar of a description is read
  pub known_read : (d : Description) → p.description ≡ d → is_scalar d ≡ true → (v : Value)
      → value_in bytes (record { offset = part.offset; description = d }) ≡ v → (w : World) → held p (with_storage s w) ≡ Yields v (with_storage s w)
  known_read d is scalar v found =
      value_read v (ap is_scalar is ∙ scalar) (ap (λ (e : Description). value_in bytes (record { offset = part.offset; description = e })) is ∙ found)

  -- a scalar of a description is read, and what is found follows from what its place holds
  pub scalar_read : {X : Type 0} (d : Description) → p.description ≡ d → is_scalar d ≡ true → (r : Option X) (value : X → Value)
      {short none : Type 0} {Found : X → Type 0} → (part.offset + size_of d ≤ length bytes → short → none)
      → ((x : X) → ((w : World) → held p (with_storage s w) ≡ Yields (value x) (with_storage s w)) → Found x)
      → MatchOption r short (λ x. value_in bytes (record { offset = part.offset; description = d }) ≡ value x) → MatchOption r none Found
  scalar_read d is scalar None value not so short = not (within d is) short
  scalar_read d is scalar (Some x) value not so found = so x (known_read d is scalar (value x) found)

  pub text_read : (r : Option (Bor (List ℕ)))
      → MatchOption r (part.offset + size_of p.description ≤ length bytes → (text : List ℕ) → value_in bytes (record { offset = part.offset; description = p.description }) ≢ Characters text)
      (λ text. value_in bytes (record { offset = part.offset; description = p.description }) ≡ Characters text.now)
      → (w : World) → MatchOption r (are_characters p.description ≡ true → LeadsToNone (storage_view s) p) (λ text. held p (with_storage s w) ≡ Yields (Characters text.now) (with_storage s w))
  text_read None found w = λ are.
      let held = characters_of p.description are (bytes_from part.offset (size_of p.description) bytes) in
      absurd (found (within p.description refl) held.0 held.1)
  text_read (Some text) found w = value_read (Characters text.now) (scalar_of_text p.description _ text.now found) found w
