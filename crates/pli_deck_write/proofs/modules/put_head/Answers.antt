use Rattle.std.proofs.Common.{◌≡◌, List, ℕ, ◌++◌, ◌∷◌, [], None, length, map, refl, ap, ◌∙◌, arith}
use Rattle.std.proofs.lemmas.Result.{on_ok_weaker}
use Rattle.std.specs.List.{flat_map}
use Rattle.byteorder.specs.Endian.{big_bytes}
use Rattle.pli_deck_write.specs.ModuleFields.{external_after, bytes_after}
use Rattle.pli_code.specs.Versions.{version_number}
use Rattle.pli_deck_write.specs.answers.ModuleHead.{head_of}
use Rattle.pli_code.specs.views.CodeView.{external_view, lent_member_view}
use Rattle.pli_deck_write.proofs.ModulePuts.{external_bytes, after_bytes}
use Rattle.pli_code.proofs.PutLemmas.{then_put}
use Rattle.pli_deck_write.proofs.PutLemmas.{mapped_length}
use Rattle.pli_deck_write.proofs.modules.put_head.Goals as goal

abbrev counted : ℕ → List ℕ → List ℕ
counted n bytes = big_bytes 2 n ++ bytes

pub returns : goal.returns
returns c =
    let out = c.args.out.now.items in
    let units = c.args.program.now.units.items in
    let externals = c.args.program.now.externals.items in
    let long : c.len.result ≡ length units = omega (arith, c.len.ensures) in
    let count = big_bytes 2 (length units) in
    let main = big_bytes 2 c.args.program.now.main in
    let listed = counted (length externals) (flat_map external_bytes (map external_view externals)) in
    let magic = 80 ∷ 76 ∷ 73 ∷ 77 ∷ [] in
    let number = version_number c.args.program.now.version in
    let version = 80 ∷ 76 ∷ 73 ∷ 77 ∷ number ∷ [] in
    let first = then_put out _ _ magic (number ∷ []) version c.in_ok-put_bytes.ensures.put refl (c.in_ok-put_byte.ensures ∙ ap (λ n. c.put_bytes.new.out.items ++ n ∷ []) c.number.ensures) in
    let second = then_put out _ _ version count (version ++ count) first refl (c.in_ok-put_count.ensures ∙ ap (λ n. c.put_byte.new.out.items ++ big_bytes 2 n) long) in
    let third = then_put out _ _ (version ++ count) main (version ++ (count ++ main)) second refl c.in_ok-put_short.ensures in
    let same_externals : counted (length (map external_view externals)) (bytes_after external_after None (map external_view externals)) ≡ listed =
    ap (λ n. counted n (bytes_after external_after None (map external_view externals))) (mapped_length external_view externals)
    ∙ ap (counted (length externals)) (after_bytes None (map external_view externals)) in
    let said = ap (λ n. head_of number (big_bytes 2 n) main (counted (length (map external_view externals)) (bytes_after external_after None (map external_view externals)))) (mapped_length lent_member_view units)
    ∙ ap (head_of number count main) same_externals in
    on_ok_weaker c.put_list.result
    (λ e. then_put out _ _ (version ++ (count ++ main)) listed _ third said
    (e ∙ ap (λ es. c.put_short.new.out.items ++ counted (length es) (flat_map external_bytes (map external_view es))) c.deref.ensures.value))
    c.put_list.ensures
