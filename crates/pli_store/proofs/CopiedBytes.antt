-- Bytes copied from one generation of a list to another, piece by piece.
use Rattle.std.proofs.Common.{◌≡◌, ◌≢◌, ℕ, ◌+◌, ◌≤◌, List, [], ◌++◌, length, set, get_or, take, drop, Some, slice_get, refl, sym, ap, ◌∙◌, arith, append_assoc, length-append, length-drop, set-set}
use Rattle.std.proofs.Math.Seq.{take-add}
use Rattle.std.proofs.lemmas.List.{take_at, drop-drop, length-take-le, take-append-drop, get_or-set_other, get_or-set_same}
use Rattle.std.proofs.lemmas.Option.{get_or_from_slice_get, same_Some, slice_get_within}
use Rattle.pli_bytes.specs.Contents.{bytes_from, values_of, with_bytes_at}
use Rattle.pli_bytes.proofs.PutBytes.{after_put}
use Rattle.pli_map.specs.Sizes.{size_of}
use Rattle.pli_map.specs.views.DescriptionView.{description_view}
use Rattle.pli_world.specs.Storage as plain
use Rattle.pli_store.specs.answers.Puts.{BytesCopied, BytesPut, BytesStand}
use Rattle.pli_store.specs.declared.generation.Generation.{Generation}
use Rattle.pli_store.specs.declared.part.GenerationPart.{GenerationPart}
use Rattle.pli_store.specs.views.GenerationView.{generation_view}
use Rattle.pli_store.proofs.Searches.{set_same}

-- a piece put after another
pub put_both : (first : ℕ) (one two bytes : List ℕ) → first + length one ≤ length bytes → with_bytes_at (first + length one) two (with_bytes_at first one bytes) ≡ with_bytes_at first (one ++ two) bytes
put_both first one two bytes inside =
    let at = first + length one in
    let whole = with_bytes_at first one bytes in
    let front = take first bytes in
    let front_size : length front ≡ first = length-take-le first bytes (omega (arith, inside)) in
    let before : take at whole ≡ front ++ one =
    ap (take at) (sym (append_assoc front one (drop at bytes))) ∙ take_at (front ++ one) (drop at bytes) at (omega (arith, length-append front one, front_size)) in
    let after : drop (at + length two) whole ≡ drop (first + length (one ++ two)) bytes =
    sym (drop-drop (length two) at whole) ∙ ap (drop (length two)) (after_put first one bytes (omega (arith, inside))) ∙ drop-drop (length two) at bytes
    ∙ ap (λ n. drop n bytes) (omega (arith, length-append one two)) in
    ap (λ l. l ++ (two ++ drop (at + length two) whole)) before
    ∙ ap (λ l. (front ++ one) ++ (two ++ l)) after
    ∙ append_assoc front one (two ++ drop (first + length (one ++ two)) bytes)
    ∙ ap (λ l. front ++ l) (sym (append_assoc one two (drop (first + length (one ++ two)) bytes)))

-- a piece and the one after it
pub taken_both : (first one two : ℕ) (bytes : List ℕ) → bytes_from first one bytes ++ bytes_from (first + one) two bytes ≡ bytes_from first (one + two) bytes
taken_both first one two bytes =
    ap (λ l. bytes_from first one bytes ++ take two l) (sym (drop-drop one first bytes)) ∙ sym (take-add one two (drop first bytes))

nothing_taken : (first : ℕ) (bytes : List ℕ) → with_bytes_at first [] bytes ≡ bytes
nothing_taken first bytes = ap (λ n. take first bytes ++ drop n bytes) (omega arith) ∙ take-append-drop first bytes

-- a generation that says what another says but for its values
abbrev holding : plain.Generation → List ℕ → plain.Generation
holding g bytes = record g { values = values_of g.description bytes }

module _ (gs : List Generation) (from to : GenerationPart) where
  -- what is read in a list is what stands there
  pub read_is : (at : ℕ) (x g : Generation) → slice_get gs at ≡ Some x → g ≡ get_or gs at g → g ≡ x
  read_is at x g stands read = read ∙ get_or_from_slice_get gs at x g stands

  pub nothing_copied : (size : ℕ) → BytesStand gs from size → BytesStand gs to size → BytesCopied gs gs from to 0
  nothing_copied size here there = record {
    source = here.generation;
    target = there.generation;
    changed = there.generation;
    read = here.stands;
    written = there.stands;
    put = record { put = sym (nothing_taken to.offset there.generation.bytes.items); others = refl };
    new_is = sym (set_same gs to.at there.generation there.stands);
  }

  pub all_copied : (size : ℕ) → BytesStand gs to size → from.at ≡ to.at → (g changed : Generation) → g ≡ get_or gs to.at g
      → BytesPut g changed to.offset (bytes_from from.offset size g.bytes.items) → BytesCopied gs (set gs to.at changed) from to size
  all_copied size there same g changed read put =
      let stands : slice_get gs to.at ≡ Some g = there.stands ∙ ap Some (sym (read_is to.at there.generation g there.stands read)) in
      record {
        source = g;
        target = g;
        changed = changed;
        read = ap (slice_get gs) same ∙ stands;
        written = stands;
        put = put;
        new_is = refl;
      }

  -- a piece more
  module _ (now new : List Generation) (done : ℕ) (b : BytesCopied gs now from to done) (apart : from.at ≢ to.at) where
    source_is : (source : Generation) → source ≡ get_or now from.at source → source ≡ b.source
    source_is source read =
        read ∙ ap (λ l. get_or l from.at source) b.new_is ∙ get_or-set_other gs to.at from.at b.changed source apart
        ∙ get_or_from_slice_get gs from.at b.source source b.read

    target_is : (target : Generation) → target ≡ get_or now to.at target → target ≡ b.changed
    target_is target read =
        read ∙ ap (λ l. get_or l to.at target) b.new_is
        ∙ get_or-set_same gs to.at b.changed target (slice_get_within gs to.at b.target b.written)

    pub source_within : (size : ℕ) → BytesStand gs from size → (source : Generation) → source ≡ get_or now from.at source → from.offset + size ≤ length source.bytes.items
    source_within size here source read =
        let same : here.generation ≡ source = same_Some here.generation source (sym here.stands ∙ b.read ∙ ap Some (sym (source_is source read))) in
        omega (arith, here.within, ap (λ (g : Generation). length g.bytes.items) same)

    pub target_within : (size : ℕ) → BytesStand gs to size → (target : Generation) → target ≡ get_or now to.at target → to.offset + size ≤ length target.bytes.items
    target_within size there target read =
        let same : there.generation ≡ b.target = same_Some there.generation b.target (sym there.stands ∙ b.written) in
        let kept : size_of (description_view b.changed.description.now) ≡ size_of (description_view b.target.description.now) = ap (λ (g : plain.Generation). size_of g.description) b.put.others in
        omega (
          arith,
          there.within,
          ap (λ (g : Generation). length g.bytes.items) same,
          ap (λ (g : Generation). length g.bytes.items) (target_is target read),
          b.target.sized,
          b.changed.sized,
          kept,
        )

    pub more_copied : (size count : ℕ) → BytesStand gs from size → BytesStand gs to size → done + count ≤ size → (source target changed : Generation)
        → source ≡ get_or now from.at source → target ≡ get_or now to.at target
        → BytesPut target changed (to.offset + done) (bytes_from (from.offset + done) count source.bytes.items) → new ≡ set now to.at changed
        → BytesCopied gs new from to (done + count)
    more_copied size count here there within source target changed read written put new_is =
        let bytes = b.source.bytes.items in
        let one = bytes_from from.offset done bytes in
        let two = bytes_from (from.offset + done) count bytes in
        let before = b.target.bytes.items in
        let same_source : here.generation ≡ b.source = same_Some here.generation b.source (sym here.stands ∙ b.read) in
        let same_target : there.generation ≡ b.target = same_Some there.generation b.target (sym there.stands ∙ b.written) in
        let source_size = ap (λ (g : Generation). length g.bytes.items) same_source in
        let target_size = ap (λ (g : Generation). length g.bytes.items) same_target in
        let left : done ≤ length (drop from.offset bytes) = omega (arith, here.within, within, source_size, length-drop from.offset bytes) in
        let one_size : length one ≡ done = length-take-le done (drop from.offset bytes) left in
        let room : to.offset + length one ≤ length before = omega (arith, there.within, within, target_size, one_size) in
        record {
          source = b.source;
          target = b.target;
          changed = changed;
          read = b.read;
          written = b.written;
          put = record {
            put =
                put.put
                ∙ ap (λ (g : Generation). with_bytes_at (to.offset + done) (bytes_from (from.offset + done) count source.bytes.items) g.bytes.items) (target_is target written)
                ∙ ap (λ (g : Generation). with_bytes_at (to.offset + done) (bytes_from (from.offset + done) count g.bytes.items) b.changed.bytes.items) (source_is source read)
                ∙ ap (λ l. with_bytes_at (to.offset + done) two l) b.put.put
                ∙ ap (λ n. with_bytes_at (to.offset + n) two (with_bytes_at to.offset one before)) (sym one_size)
                ∙ put_both to.offset one two before room
                ∙ ap (λ l. with_bytes_at to.offset l before) (taken_both from.offset done count bytes);
            others = put.others ∙ ap (λ (g : plain.Generation). holding g changed.bytes.items) (ap generation_view (target_is target written) ∙ b.put.others);
          };
          new_is = new_is ∙ ap (λ l. set l to.at changed) b.new_is ∙ set-set gs to.at b.changed changed;
        }
