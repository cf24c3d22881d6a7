-- What new generations answer, and what they leave.
use Rattle.std.proofs.Common.{◌≡◌, ℕ, suc, ◌+◌, ◌<◌, ◌≤◌, Bool, true, false, true≢false, ◌&&◌, nat_lt, nat_le, List, [], ◌∷◌, ◌++◌, length, map, take, drop, Result, Ok, Err, MatchResult, refl, sym, ap, ◌∙◌, arith}
use Rattle.std.proofs.lemmas.Bool.{le-leb, lt-leb}
use Rattle.std.proofs.lemmas.List.{map_push}
use Rattle.pli_bytes.specs.Changes.{IsPut}
use Rattle.pli_bytes.specs.Contents.{value_in, values_of}
use Rattle.pli_bytes.proofs.PartsOfBytes.{scalar_put}
use Rattle.pli_bytes.proofs.Scalars.{scalar_alone}
use Rattle.pli_run.specs.declared.ending.RunError.TheVariants.{StorageLimit}
use Rattle.pli_map.specs.Description.{Description, Array, Structure}
use Rattle.pli_map.specs.Scalars.{scalars_of}
use Rattle.pli_map.specs.Sizes.{size_of}
use Rattle.pli_map.specs.Values.{holds, are_held}
use Rattle.pli_map.proofs.ScalarLawsHold.{whole_found}
use Rattle.pli_value.specs.Value.{Value}
use Rattle.pli_world.specs.Storage.{Made, Dummy, Place, whole, live_bytes}
use Rattle.pli_world.specs.World.{World, Answer, Yields, Raises, Wrong, made_of, dummy_of, in_newest}
use Rattle.pli_store.specs.answers.Answered.{Answered}
use Rattle.pli_store.specs.declared.fault.StoreFault.{StoreFault}
use Rattle.pli_store.specs.declared.fault.StoreFault.TheVariants.{Raised, NoRule, OutOfMemory}
use Rattle.pli_store.specs.declared.generation.Generation.{Generation}
use Rattle.pli_store.specs.declared.storage.Storage.{Storage}
use Rattle.pli_store.specs.views.GenerationView.{generation_view}
use Rattle.pli_store.specs.views.StorageView.{RoomFor}
use Rattle.pli_store.proofs.HeldScalars.{scalar_of_held}

-- what is refused gives nothing, however it would be seen
pub refused_alike : {T U A : Type 0} (view : T → A) (other : U → A) (f : StoreFault) (before after : World) (a : Answer A)
    → Answered view (Err f) before after a → Answered other (Err f) before after a
refused_alike view other (Raised e) before after a answer = answer
refused_alike view other NoRule before after a answer = answer
refused_alike view other OutOfMemory before after a answer = tt

-- a generation put after the others
pub pushed_says : (items kept now : List Generation) (g : Generation) → now ≡ kept ++ g ∷ [] → kept ≡ items
    → map generation_view now ≡ map generation_view items ++ generation_view g ∷ []
pushed_says items kept now g pushed same = ap (map generation_view) (pushed ∙ ap (λ xs. xs ++ g ∷ []) same) ∙ map_push generation_view items g

-- what a test of room tells, by what it gives
pub room_told : (s : Storage) (d : Description) (fits : Bool) → (fits ≡ true → RoomFor true s d) → (fits ≡ false → RoomFor false s d) → RoomFor fits s d
room_told s d true there none = there refl
room_told s d false there none = none refl

second_fails : (a b : Bool) → b ≡ false → (a && b) ≡ false
second_fails true b e = e
second_fails false b e = refl

module _ (d : Description) (how : Made) (vs : List Value) (w : World) where
  pub made_too_often : 4294967294 ≤ w.made → made_of d how vs w ≡ Raises StorageLimit w
  unfolding made_of
  made_too_often h =
      let limit : nat_lt w.made 4294967294 ≡ false = lt-leb (suc w.made) 4294967294 (omega (arith, h)) in
      rw limit refl

  pub made_too_large : 16777216 < live_bytes w.storage + size_of d → made_of d how vs w ≡ Raises StorageLimit w
  unfolding made_of
  made_too_large h =
      let limit : nat_le (live_bytes w.storage + size_of d) 16777216 ≡ false = lt-leb (live_bytes w.storage + size_of d) 16777216 h in
      let refused : (nat_lt w.made 4294967294 && nat_le (live_bytes w.storage + size_of d) 16777216) ≡ false = second_fails (nat_lt w.made 4294967294) _ limit in
      rw refused refl

  module _ (few : w.made < 4294967294) (small : live_bytes w.storage + size_of d ≤ 16777216) where
    number_free : nat_lt w.made 4294967294 ≡ true
    number_free = le-leb (suc w.made) 4294967294 (omega (arith, few))

    room_left : nat_le (live_bytes w.storage + size_of d) 16777216 ≡ true
    room_left = le-leb (live_bytes w.storage + size_of d) 16777216 small

    pub made_there : are_held (scalars_of d) vs ≡ true
        → made_of d how vs w ≡ Yields (whole w.made d) (record w { storage = w.storage ++ record { number = w.made; description = d; made = how; values = vs; blocks = [] } ∷ []; made = suc w.made })
    unfolding made_of
    made_there held = rw (number_free, room_left, held) refl

    pub made_misfit : are_held (scalars_of d) vs ≡ false → made_of d how vs w ≡ Wrong
    unfolding made_of
    made_misfit held = rw (number_free, room_left, held) refl

-- a dummy argument

pub dummy_misfit : (d : Description) (v : Value) (w : World) → holds d v ≡ false → dummy_of d v w ≡ Wrong
unfolding dummy_of
dummy_misfit d v w e = rw e refl

pub dummy_made : {T : Type 0} (view : T → Place) (d : Description) (v : Value) (r : Result T StoreFault) (before after : World) → holds d v ≡ true → Answered view r before after (made_of d Dummy (v ∷ []) before) → MatchResult r (λ x. dummy_of d v before ≡ Yields (view x) (in_newest (λ a. record a { pending = a.pending ++ (view x).generation ∷ [] }) after)) (λ _. Answered view r before after (dummy_of d v before))
unfolding dummy_of
dummy_made view d v (Ok x) before after e answer = rw e (rw answer refl)
dummy_made view d v (Err (Raised f)) before after e answer = rw e (rw answer refl)
dummy_made view d v (Err NoRule) before after e answer = rw e (rw answer refl)
dummy_made view d v (Err OutOfMemory) before after e answer = tt

pub dummy_without_room : (d : Description) (v : Value) (w : World) → holds d v ≡ true → made_of d Dummy (v ∷ []) w ≡ Raises StorageLimit w → dummy_of d v w ≡ Raises StorageLimit w
unfolding dummy_of
dummy_without_room d v w e limit = rw e (rw limit refl)

pub dummy_held : (d : Description) (v : Value) → holds d v ≡ true → are_held (scalars_of d) (v ∷ []) ≡ true
dummy_held (Array bs d) v fits = absurd (true≢false (sym fits))
dummy_held (Structure ds) v fits = absurd (true≢false (sym fits))
dummy_held d v fits = ap (λ b. b && true) fits

pub dummy_values : (d : Description) (v : Value) (old new : List ℕ) → holds d v ≡ true → length old ≡ size_of d → IsPut d v 0 old new
    → (values_of d new ≡ v ∷ []) × (length new ≡ length old)
dummy_values d v old new fits size put =
    let scalar = scalar_of_held d v fits in
    let changed = scalar_put d 0 d 0 v old new scalar (whole_found d) put size in
    (changed.0 ∙ ap (λ ss. take 0 (map (value_in old) ss) ++ v ∷ [] ++ drop 1 (map (value_in old) ss)) (scalar_alone d scalar), changed.1)
