-- What is put into the bytes of a generation of the store is put into what the store says.
use Rattle.std.proofs.Common.{◌≡◌, ℕ, ◌≤◌, Bool, true, false, List, [], ◌∷◌, ◌++◌, length, map, take, drop, set, get_or, Some, slice_get, refl, sym, ap, ◌∙◌, subst, arith, length-drop}
use Rattle.std.specs.Option.{is_some}
use Rattle.std.specs.Vec.{with_items}
use Rattle.std.proofs.lemmas.List.{map-set, with_items_is, length-take}
use Rattle.pli_bytes.specs.Changes.{IsPut, PutOrSame, AppendedOrSame}
use Rattle.pli_bytes.specs.Contents.{value_of, value_in, values_of, bytes_from, with_bytes_at}
use Rattle.pli_bytes.proofs.PartsOfBytes.{scalar_put, part_copied, part_put}
use Rattle.pli_map.specs.Description.{Description, Varying}
use Rattle.pli_map.specs.Marks.{HasElements, HasMark}
use Rattle.pli_map.specs.Scalars.{is_area, is_scalar, scalars_in}
use Rattle.pli_map.specs.Sizes.{size_of}
use Rattle.pli_map.specs.views.DescriptionView.{description_view}
use Rattle.pli_value.specs.Value.{Value, Characters}
use Rattle.pli_world.specs.Storage as plain
use Rattle.pli_world.specs.Storage.{values_from, with_values_at}
use Rattle.pli_store.specs.answers.Found.{PartStands}
use Rattle.pli_store.specs.answers.Inhabited.{capacity_in}
use Rattle.pli_store.specs.answers.Kinds.{digits_in}
use Rattle.pli_store.specs.answers.Puts.{BytesCopied, BytesPut, ValuesPut, ValuesPutOrSame, LengthenedOrSame}
use Rattle.pli_store.specs.declared.generation.Generation.{Generation}
use Rattle.pli_store.specs.declared.part.GenerationPart.{GenerationPart}
use Rattle.pli_store.specs.views.GenerationView.{generation_view}
use Rattle.pli_store.proofs.Searches.{set_same, stands_in_view}
use Rattle.pli_store.proofs.StandingParts.{read_there, generation_is, first_is, held_there}

-- a generation of which others hold these values
abbrev holding : plain.Generation → List Value → plain.Generation
holding g vs = record g { values = vs }

module _ (items : List Generation) (part : GenerationPart) (d : Description) (s : PartStands (map generation_view items) part d)
    (g changed : Generation) (here : slice_get items part.at ≡ Some g) where
  values_put : (vs : List Value) → generation_view changed ≡ holding (generation_view g) (with_values_at s.scalar vs (generation_view g).values)
      → ValuesPut (map generation_view items) (map generation_view (set items part.at changed)) part d vs
  values_put vs e = record {
    there = s;
    changed =
        map-set generation_view items part.at changed
        ∙ ap (set (map generation_view items) part.at)
        (e ∙ ap (λ (x : plain.Generation). holding x (with_values_at s.scalar vs x.values)) (sym (generation_is items part d s g here)));
  }

  nothing_put : generation_view changed ≡ generation_view g → map generation_view (set items part.at changed) ≡ map generation_view items
  nothing_put e =
      map-set generation_view items part.at changed ∙ ap (set (map generation_view items) part.at) e
      ∙ set_same (map generation_view items) part.at (generation_view g) (stands_in_view items part.at g here)

  -- its bytes are put there
  pub bytes_are_put : (bytes : List ℕ) → length bytes ≡ size_of d → BytesPut g changed part.offset bytes
      → ValuesPut (map generation_view items) (map generation_view (set items part.at changed)) part d (values_of d bytes)
  bytes_are_put bytes size put =
      let whole = (generation_view g).description in
      values_put (values_of d bytes)
      (put.others ∙ ap (λ (b : List ℕ). holding (generation_view g) (values_of whole b)) put.put
      ∙ ap (holding (generation_view g)) (part_put whole part.offset d s.scalar bytes g.bytes.items (first_is items part d s g here) size g.sized))

-- a part copied to another of an equal description
module _ (items new : List Generation) (from to : GenerationPart) (d : Description)
    (source : PartStands (map generation_view items) from d) (target : PartStands (map generation_view items) to d)
    (size : ℕ) (size_is : size ≡ size_of d) (copied : BytesCopied items new from to size) where
  pub part_is_copied : ValuesPut (map generation_view items) (map generation_view new) to d (values_from source.scalar (scalars_in d) source.generation.values)
  part_is_copied =
      let whole = generation_view copied.target in
      let read = first_is items from d source copied.source copied.read in
      let written = first_is items to d target copied.target copied.written in
      let says : generation_view copied.changed ≡ holding whole (with_values_at target.scalar (values_from source.scalar (scalars_in d) source.generation.values) whole.values) =
      copied.put.others
      ∙ ap (λ (b : List ℕ). holding whole (values_of whole.description b)) copied.put.put
      ∙ ap (λ n. holding whole (values_of whole.description (with_bytes_at to.offset (bytes_from from.offset n copied.source.bytes.items) copied.target.bytes.items))) size_is
      ∙ ap (holding whole)
      (part_copied (generation_view copied.source).description from.offset whole.description to.offset d source.scalar target.scalar
      copied.source.bytes.items copied.target.bytes.items read written copied.source.sized copied.target.sized
      ∙ ap (λ (x : plain.Generation). with_values_at target.scalar (values_from source.scalar (scalars_in d) x.values) whole.values) (sym (generation_is items from d source copied.source copied.read))) in
      subst (λ l. ValuesPut (map generation_view items) (map generation_view l) to d (values_from source.scalar (scalars_in d) source.generation.values))
      (sym copied.new_is) (values_put items to d target copied.target copied.changed copied.written (values_from source.scalar (scalars_in d) source.generation.values) says)

some_taken : (count : ℕ) (bytes text : List ℕ) → Characters (take count bytes) ≡ Characters text → length text ≤ length bytes
some_taken count bytes text e =
    let is : take count bytes ≡ text = cc in
    omega (arith, ap length is, length-take count bytes)

-- a string of CHARACTER VARYING is no longer than its description says
varying_short : (greatest : ℕ) (bytes text : List ℕ) → length bytes ≡ size_of (Varying greatest) → value_of (Varying greatest) bytes ≡ Characters text → length text ≤ greatest
varying_short greatest bytes text size held = omega (arith, some_taken _ (drop 2 bytes) text held, length-drop 2 bytes, size)

-- the generation that was read there, with these bytes
module _ (items : List Generation) (part : GenerationPart) (d : Description) (s : PartStands (map generation_view items) part d)
    (g : Generation) (read : g ≡ get_or items part.at g) (was new : List ℕ) (value : was ≡ g.bytes.items) (len : length new ≡ length was)
    (sized : length (with_items g.bytes new).items ≡ size_of (description_view g.description.now)) (inhabited : is_some g.area ≡ is_area (description_view g.description.now))
    (alone : g.digits ≡ digits_in (description_view g.description.now)) (marked : HasMark (description_view g.description.now) g.mark) (alike : HasElements (description_view g.description.now) g.elements) (roomy : is_area (description_view g.description.now) ≡ true → capacity_in g.area ≡ size_of (description_view g.description.now)) where
  abbrev changed : Generation
  changed = record g { bytes = with_items g.bytes new; sized = sized; inhabited = inhabited; alone = alone; marked = marked; alike = alike; roomy = roomy }

  here : slice_get items part.at ≡ Some g
  here = read_there items part d s g read

  bytes_are : changed.bytes.items ≡ new
  bytes_are = with_items_is g.bytes new (omega (arith, len, ap length value, g.bytes.ok.0))

  pub scalar_is_put : (v : Value) → is_scalar d ≡ true → IsPut d v part.offset was new
      → ValuesPut (map generation_view items) (map generation_view (set items part.at changed)) part d (v ∷ [])
  scalar_is_put v scalar put =
      let first = first_is items part d s g here in
      let now = subst (λ l. IsPut d v part.offset l new) value put in
      values_put items part d s g changed here (v ∷ [])
      (ap (λ b. holding (generation_view g) (values_of (generation_view g).description b)) bytes_are
      ∙ ap (holding (generation_view g)) (scalar_put (generation_view g).description part.offset d s.scalar v g.bytes.items new scalar first now g.sized).0)

  same_is_left : new ≡ was → map generation_view (set items part.at changed) ≡ map generation_view items
  same_is_left same =
      nothing_put items part d s g changed here
      (ap (λ b. holding (generation_view g) (values_of (generation_view g).description b)) (bytes_are ∙ same ∙ value))

  -- only where something is put, a scalar has to stand there
  pub put_or_same_where : (b : Bool) (v : Value) → (b ≡ true → is_scalar d ≡ true) → PutOrSame b d v part.offset was new
      → ValuesPutOrSame b (map generation_view items) (map generation_view (set items part.at changed)) part d (v ∷ [])
  put_or_same_where true v scalar put = scalar_is_put v (scalar refl) put
  put_or_same_where false v scalar same = same_is_left same

  pub put_or_same : (b : Bool) (v : Value) → is_scalar d ≡ true → PutOrSame b d v part.offset was new
      → ValuesPutOrSame b (map generation_view items) (map generation_view (set items part.at changed)) part d (v ∷ [])
  put_or_same b v scalar put = put_or_same_where b v (λ e. scalar) put

-- characters put after those of the string that was read there
module _ (items : List Generation) (part : GenerationPart) (greatest : ℕ) (s : PartStands (map generation_view items) part (Varying greatest))
    (g : Generation) (read : g ≡ get_or items part.at g) (was new : List ℕ) (value : was ≡ g.bytes.items) (len : length new ≡ length was)
    (sized : length (with_items g.bytes new).items ≡ size_of (description_view g.description.now)) (inhabited : is_some g.area ≡ is_area (description_view g.description.now))
    (alone : g.digits ≡ digits_in (description_view g.description.now)) (marked : HasMark (description_view g.description.now) g.mark) (alike : HasElements (description_view g.description.now) g.elements) (roomy : is_area (description_view g.description.now) ≡ true → capacity_in g.area ≡ size_of (description_view g.description.now)) where
  pub lengthened_or_same : (b : Bool) (more : List ℕ) (room : ℕ) → AppendedOrSame b greatest part.offset more room was new
      → LengthenedOrSame b (map generation_view items) (map generation_view (set items part.at (record g { bytes = with_items g.bytes new; sized = sized; inhabited = inhabited; alone = alone; marked = marked; alike = alike; roomy = roomy }))) part greatest more room
  lengthened_or_same true more room a = record {
    text = a.text;
    puts = scalar_is_put items part (Varying greatest) s g read was new value len sized inhabited alone marked alike roomy (Characters (a.text ++ more)) refl a.put;
    was = λ there.
        held_there items part (Varying greatest) there g (read_there items part (Varying greatest) s g read) refl
        ∙ ap (λ l. value_in l (record { offset = part.offset; description = Varying greatest }) ∷ []) (sym value)
        ∙ ap (λ (v : Value). v ∷ []) a.was;
    short = varying_short greatest a.put.bytes (a.text ++ more) a.put.size a.put.hold;
    fits = a.fits;
  }
  lengthened_or_same false more room a = same_is_left items part (Varying greatest) s g read was new value len sized inhabited alone marked alike roomy a
