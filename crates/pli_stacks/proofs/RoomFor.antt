-- Whether there is room for a generation.
use Rattle.std.proofs.Common.{◌≡◌, ◌≤◌, Bool, true, false, List, sym, arith}
use Rattle.std.proofs.lemmas.Bool.{false≢true}
use Rattle.pli_run.specs.declared.ending.RunError.TheVariants.{StorageLimit}
use Rattle.pli_map.specs.Description.{Description}
use Rattle.pli_map.specs.Sizes.{size_of}
use Rattle.pli_value.specs.Value.{Value}
use Rattle.pli_world.specs.Storage.{Made}
use Rattle.pli_world.specs.World.{World, Raises, made_of}
use Rattle.pli_store.specs.views.StorageView.{RoomFor, with_storage}
use Rattle.pli_store.specs.declared.storage.Storage.{Storage}

-- where there is room for a description, its bytes may live
pub room_bounds : (b : Bool) (s : Storage) (d : Description) → b ≡ true → RoomFor b s d → size_of d ≤ 16777216
room_bounds true s d is room = omega (arith, room.1)
room_bounds false s d is room = absurd (false≢true is)

-- where there is none, none is made
pub no_room : (b : Bool) (s : Storage) (d : Description) (how : Made) (vs : List Value) (w : World) → b ≡ false
    → RoomFor b s d → made_of d how vs (with_storage s w) ≡ Raises StorageLimit (with_storage s w)
no_room true s d how vs w is room = absurd (false≢true (sym is))
no_room false s d how vs w is room = room w how vs
