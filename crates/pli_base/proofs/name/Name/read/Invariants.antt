use Rattle.std.proofs.Common.{◌≡◌, ◌-◌, length, take, drop, map, replicate}
use Rattle.pli_base.specs.Name.{upper}
use Rattle.pli_base.proofs.name.Name.read.Given as goal

-- the characters read so far are in upper case, and zeros follow
abbrev pub invariant-loop-place : goal.invariant-loop-place
invariant-loop-place l =
    (length l.bytes ≡ 31) × (take l.place l.bytes ≡ map upper (take l.place l.text))
    × (drop l.place l.bytes ≡ replicate (31 - l.place) 0)
