use Rattle.std.proofs.Common.{◌≡◌, false, Some, sym, arith}
use Rattle.pli_lex.specs.Reading.{string_from}
use Rattle.pli_lex.proofs.StringsEnd.{string_within}
use Rattle.pli_lex.proofs.quoted.string_at.Goals as goal

pub overflow_add-taken : goal.overflow_add-taken
overflow_add-taken c =
    let found : string_from false c.split_at.result.1.now ≡ Some (c.in-Some.characters.items, c.in-Some.width) = sym (rw c.in-Some.is at c.in_ok-characters.ensures) in
    let within = string_within c.split_at.result.1.now _ found in
    omega (arith, within, c.split_at.ensures.back_len)

pub split_at-requires-2 : goal.split_at-requires-2
split_at-requires-2 c =
    let found : string_from false c.split_at.result.1.now ≡ Some (c.in-Some.characters.items, c.in-Some.width) = sym (rw c.in-Some.is at c.in_ok-characters.ensures) in
    let within = string_within c.split_at.result.1.now _ found in
    omega (arith, within, c.split_at.ensures.back_len)
