use Rattle.std.proofs.Common.{◌++◌, ◌∷◌, [], refl, ap, ◌∙◌}
use Rattle.std.proofs.lemmas.Result.{on_ok_weaker}
use Rattle.pli_code.specs.Versions.{version_number}
use Rattle.pli_code.specs.views.CodeView.{deck_view}
use Rattle.pli_deck_write.specs.DeckFields.{contents, deck_parts, deck_in_versions}
use Rattle.pli_deck_write.specs.Spelling.{deck_bytes}
use Rattle.pli_code.proofs.PutLemmas.{then_put}
use Rattle.pli_deck_write.proofs.write.put_deck.Goals as goal

pub returns : goal.returns
unfolding deck_in_versions
returns c =
    let out = c.args.out.now.items in
    let said = deck_view c.args.deck.now in
    let magic = 80 ∷ 76 ∷ 73 ∷ 68 ∷ [] in
    let version = version_number said.version ∷ [] in
    let after = (contents said.version).bytes_of (deck_parts said).1 in
    let first = then_put out _ _ magic version (magic ++ version) c.in_ok-put_bytes.ensures.put refl
    (c.in_ok-put_byte.ensures ∙ ap (λ n. c.put_bytes.new.out.items ++ n ∷ []) c.number.ensures) in
    on_ok_weaker c.put_contents.result (then_put out _ _ (magic ++ version) after (deck_bytes said) first refl) c.put_contents.ensures
