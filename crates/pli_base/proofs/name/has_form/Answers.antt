use Rattle.std.proofs.Common.{◌≡◌, ℕ, Bool, true, List, ◌∷◌, rules, tests}
use Rattle.std.specs.List.{list_all}
use Rattle.std.proofs.lemmas.Iterator.{YieldsList-from_slice}
use Rattle.std.proofs.lemmas.Iterator.Search.{all_from_yields_List}
use Rattle.pli_base.specs.Name.{is_letter, is_name_character, has_form}
use Rattle.pli_base.proofs.name.has_form.Goals as goal

by_parts : (first : ℕ) (others text : List ℕ) (result : Bool) → text ≡ first ∷ others → is_letter first ≡ true
    → result ≡ list_all is_name_character others → result ≡ has_form text
by_parts first others text result whole letter tail = rw (whole, letter) tail

pub returns-then-is_letter : goal.returns-then-is_letter
returns-then-is_letter c =
    let tail : c.all.result ≡ list_all is_name_character c.in-Some.rest.now =
    all_from_yields_List is_name_character _ _ c.all.result c.all.ensures.ran (YieldsList-from_slice c.in-Some.rest.now cc) (λ x b q k. search (rules, tests)) in
    by_parts c.in-Some.first.now c.in-Some.rest.now c.args.text.now c.all.result (search rules) (cc) tail
