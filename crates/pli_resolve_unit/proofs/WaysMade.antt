-- The ways of names, one more at a time.
use Rattle.std.proofs.Common.{◌≡◌, ℕ, ◌≤◌, List, [], ◌∷◌, ◌++◌, Option, None, Some, length, get_or, ap, ◌∙◌, sym, arith}
use Rattle.std.proofs.lemmas.Grind.{common_steps}
use Rattle.pli_declare.specs.Declarations.{Declaration}
use Rattle.pli_declare.specs.Symbols as spec
use Rattle.pli_declare.specs.Symbols.{way_with, counted, ways_after}

pub one_more : (ways ways' : List spec.Way) (counts counted' counts' : List ℕ) (way : spec.Way) (d : Declaration)
    (left more : List Declaration) (all : List spec.Way)
    → left ≡ d ∷ more
    → way ≡ way_with ways counts d.owner
    → ways' ≡ ways ++ way ∷ []
    → counted' ≡ counted counts d.owner
    → counts' ≡ counted' ++ 0 ∷ []
    → ways_after ways counts left ≡ all
    → ways_after ways' counts' more ≡ all
one_more ways ways' counts counted' counts' way d left more all l w p n q so =
    ap (λ ws. ways_after ws counts' more) (p ∙ ap (λ x. ways ++ x ∷ []) w)
    ∙ ap (λ cs. ways_after (ways ++ way_with ways counts d.owner ∷ []) cs more) (q ∙ ap (λ cs. cs ++ 0 ∷ []) n)
    ∙ sym (ap (ways_after ways counts) l)
    ∙ so

few_counted : (counts : List ℕ) (owner : Option ℕ) → ((k : ℕ) → get_or counts k 0 ≤ length counts)
    → (k : ℕ) → get_or (counted counts owner ++ 0 ∷ []) k 0 ≤ length (counted counts owner ++ 0 ∷ [])
few_counted counts None few k = grind (arith, common_steps, few k)
few_counted counts (Some o) few k = grind (arith, common_steps, few k, few o)

-- no name has more members than there are names
pub few_more : (counts counted' counts' : List ℕ) (owner : Option ℕ) → counted' ≡ counted counts owner → counts' ≡ counted' ++ 0 ∷ []
    → ((k : ℕ) → get_or counts k 0 ≤ length counts) → (k : ℕ) → get_or counts' k 0 ≤ length counts'
few_more counts counted' counts' owner n q few k = rw (q, n) (few_counted counts owner few k)
