-- The law of marks.
use Rattle.std.specs.Prelude.{◌≡◌, true}
use Rattle.pli_map.specs.Description.{Description}
use Rattle.pli_map.specs.Marks.{is_marked, mark_of}

-- no two descriptions that are marked have one mark
abbrev pub MarksDiffer : Type 0
MarksDiffer = (d e : Description) → is_marked d ≡ true → is_marked e ≡ true → mark_of d ≡ mark_of e → d ≡ e
