-- What copying from place to place answers.
use Rattle.std.proofs.Common.{◌≡◌, true, false, ℕ, List, Err, Option, Some, None, refl, sym, ap, ◌∙◌}
use Rattle.std.specs.Option.{is_some}
use Rattle.pli_map.specs.Description.{Description}
use Rattle.pli_map.specs.Same.{same}
use Rattle.pli_map.specs.Scalars.{first_scalar, is_area, scalars_in}
use Rattle.pli_world.specs.Storage.{Contents, Generation, Place, scalar_at, values_from}
use Rattle.pli_world.specs.World.{World, Yields, Wrong, copied, further, parts_held, parts_stored, used}
use Rattle.pli_store.specs.answers.Answered.{Answered}
use Rattle.pli_store.specs.answers.Blocks.{WholeUsed}
use Rattle.pli_store.specs.answers.Found.{LeadsTo, Leads}
use Rattle.pli_store.specs.answers.Kept.{rise}
use Rattle.pli_store.specs.answers.Puts.{ValuesPut}
use Rattle.pli_store.specs.declared.fault.StoreFault.{StoreFault}
use Rattle.pli_store.specs.declared.fault.StoreFault.TheVariants.{Raised, NoRule, OutOfMemory}
use Rattle.pli_store.specs.declared.part.GenerationPart.{GenerationPart}
use Rattle.pli_store.proofs.PartAnswers.{put_there, parts_held_there, parts_stored_there}

pub copied_from_none : {T : Type 0} (view : T → Unit {0}) (source target : Place) (w after : World) → source.position ≡ 0 → (fault : StoreFault)
    → Leads w.storage source (Err fault) → Answered view (Err fault) w after (copied source target w)
unfolding copied parts_held
copied_from_none view source target w after outside (Raised e) l = rw (l.1, l.0) refl
copied_from_none view source target w after outside NoRule l = let m = l outside in rw (m.found, m.outside, m.nowhere) refl
copied_from_none view source target w after outside OutOfMemory l = tt

module _ (source target : Place) (w : World) (n : is_area source.description ≡ false) (s : same source.description target.description ≡ true) (from : GenerationPart)
    (l : LeadsTo w.storage source from) where
  copied_on : copied source target w ≡ parts_stored target (values_from l.there.scalar (scalars_in source.description) l.there.generation.values) w
  unfolding copied
  copied_on = rw (parts_held_there source w from l) (rw (n, s) refl)

  pub copied_to_none : {T : Type 0} (view : T → Unit {0}) (after : World) → target.position ≡ 0 → (fault : StoreFault) → Leads w.storage target (Err fault) → Answered view (Err fault) w after (copied source target w)
  unfolding parts_stored
  copied_to_none view after outside (Raised e) m = copied_on ∙ rw (m.1, m.0) refl
  copied_to_none view after outside NoRule m = let o = m outside in copied_on ∙ rw (o.found, o.outside, o.nowhere) refl
  copied_to_none view after outside OutOfMemory m = tt

  pub copied_done : (to : GenerationPart) → LeadsTo w.storage target to → (new : List Generation) (limit : ℕ) → rise 0 w.storage limit ≡ true
      → ValuesPut w.storage new to target.description (values_from l.there.scalar (scalars_in source.description) l.there.generation.values)
      → copied source target w ≡ Yields tt (record w { storage = new })
  copied_done to m new limit r put =
      let vs = values_from l.there.scalar (scalars_in source.description) l.there.generation.values in
      copied_on ∙ parts_stored_there target w to m vs ∙ ap (λ x. Yields tt (record w { storage = x })) (put_there target w to m new limit r vs put)

-- ---- what is not copied

module _ (source target : Place) (w : World) where
  pub copy_from_dead : (after : World) {T : Type 0} (view : T → Unit {0}) (fault : StoreFault) → WholeUsed source w (Err fault)
      → Answered view (Err fault) w after (copied source target w)
  unfolding copied parts_held
  copy_from_dead after view (Raised e) u = rw u refl
  copy_from_dead after view NoRule u = absurd u
  copy_from_dead after view OutOfMemory u = tt

  module _ (c : Contents) (u : used source w ≡ Yields c w) where
    pub copy_from_area : is_area source.description ≡ true → copied source target w ≡ Wrong
    unfolding copied parts_held
    copy_from_area area = by (scalar_at c source) refl
      where
        by : (o : Option ℕ) → scalar_at c source ≡ o → copied source target w ≡ Wrong
        by None none = rw (u, none) refl
        by (Some k) first = rw (u, first, area) refl

    module _ (d : Description) (whole : c.description ≡ d) where
      pub copy_from_nowhere : is_some (first_scalar d source.offset source.description) ≡ false → copied source target w ≡ Wrong
      unfolding copied parts_held
      copy_from_nowhere nowhere = by (scalar_at c source) refl (ap (λ d. is_some (first_scalar d source.offset source.description)) whole ∙ nowhere)
        where
          by : (o : Option ℕ) → scalar_at c source ≡ o → is_some (scalar_at c source) ≡ false → copied source target w ≡ Wrong
          by None none e = rw (u, none) refl
          by (Some k) first e = let both = sym (ap is_some first) ∙ e in cc

      module _ (part : is_area source.description ≡ false) (other : same source.description target.description ≡ false)
          (there : is_some (first_scalar d source.offset source.description) ≡ true) where
        copy_elsewhere : copied source target w ≡ further (used target w) (λ d w. Wrong)
        unfolding copied parts_held
        copy_elsewhere = by (scalar_at c source) refl (ap (λ d. is_some (first_scalar d source.offset source.description)) whole ∙ there)
          where
            by : (o : Option ℕ) → scalar_at c source ≡ o → is_some (scalar_at c source) ≡ true → copied source target w ≡ further (used target w) (λ d w. Wrong)
            by None none e = let both = sym (ap is_some none) ∙ e in cc
            by (Some k) first e = rw (u, first, part, other) refl

        pub copy_to_dead : (after : World) {T : Type 0} (view : T → Unit {0}) (fault : StoreFault) → WholeUsed target w (Err fault)
            → Answered view (Err fault) w after (copied source target w)
        copy_to_dead after view (Raised e) t = copy_elsewhere ∙ rw t refl
        copy_to_dead after view NoRule t = absurd t
        copy_to_dead after view OutOfMemory t = tt

        pub copy_to_other : (x : Contents) → used target w ≡ Yields x w → copied source target w ≡ Wrong
        copy_to_other x t = copy_elsewhere ∙ rw t refl
