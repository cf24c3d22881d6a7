-- What is found in a block that declares the first name.
use Rattle.std.proofs.Common.{◌≡◌, ℕ, ◌<◌, true, List, [], ◌∷◌, length, get_or, Option, None, Some, IfSome, is_some, if◌then◌else◌, sym, ap, subst, ◌∙◌, arith}
use Rattle.std.specs.Prelude.{reverse}
use Rattle.std.specs.Cmp.Lexicographic.{same_text}
use Rattle.pli_base.specs.Name.{Name}
use Rattle.pli_base.specs.Words.{same_name}
use Rattle.pli_declare_scopes.specs.Scopes.{BlockItems, item_at, is_named, declares, declares_first, chain_at, chain_over, found_in}
use Rattle.pli_declare_scopes.specs.answers.Indexes.{last_below, OwnersBefore}
use Rattle.pli_declare_scopes.specs.answers.Paths.{Spells, ArePaths}
use Rattle.pli_declare_scopes.specs.declared.found.Found.{Found}
use Rattle.pli_declare_scopes.specs.declared.path.Step.{Step}
use Rattle.pli_declare_scopes.proofs.CandidateLemmas.{last_within, last_passes}
use Rattle.pli_declare_scopes.proofs.ChainLemmas.{chain_is}
use Rattle.pli_declare_scopes.proofs.IndexKept.{last_is_any, both_true}

-- whether there is a last item of the first name tells whether it is declared
declared : (block : BlockItems) (names : List Name) (first : Name) (last : Option ℕ) → 0 < length names → first ≡ get_or names 0 first
    → last ≡ last_below (is_named block first) (length block) → is_some last ≡ declares_first block names
declared block [] first last some e h = absurd (omega arith)
declared block (x ∷ xs) first last some e h = ap is_some h ∙ last_is_any (is_named block first) (length block) ∙ ap (declares block) e

pub none_declared : (block : BlockItems) (names : List Name) (first : Name) (last : Option ℕ) → 0 < length names → first ≡ get_or names 0 first
    → last ≡ last_below (is_named block first) (length block) → last ≡ None → None ≡ (if declares_first block names then Some (found_in block names) else None)
none_declared block names first last some e h none =
    ap (λ b. if b then Some (found_in block names) else None) (ap is_some (sym none) ∙ declared block names first last some e h)

pub some_declared : (block : BlockItems) (names : List Name) (first : Name) (last : Option ℕ) (n : ℕ) (found : Found) → 0 < length names → first ≡ get_or names 0 first
    → last ≡ last_below (is_named block first) (length block) → last ≡ Some n → found ≡ found_in block names
    → Some found ≡ (if declares_first block names then Some (found_in block names) else None)
some_declared block names first last n found some e h is f =
    ap (λ (g : Found). Some g) f
    ∙ ap (λ b. if b then Some (found_in block names) else None) (ap is_some (sym is) ∙ declared block names first last some e h)

-- the last item of the first name is one
pub last_stands : (block : BlockItems) (first : Name) (last : Option ℕ) (n : ℕ) → last ≡ last_below (is_named block first) (length block) → last ≡ Some n → n < length block
last_stands block first last n h is = subst (λ o. IfSome o (λ m. m < length block)) (sym h ∙ is) (last_within (is_named block first) (length block))

pub last_is_named : (block : BlockItems) (names : List Name) (first : Name) (last : Option ℕ) (n : ℕ) → 0 < length names → first ≡ get_or names 0 first
    → last ≡ last_below (is_named block first) (length block) → last ≡ Some n → is_named block (get_or names 0 []) n ≡ true
last_is_named block [] first last n some e h is = absurd (omega arith)
last_is_named block (x ∷ xs) first last n some e h is =
    subst (λ name. is_named block name n ≡ true) e (subst (λ o. IfSome o (λ m. is_named block first m ≡ true)) (sym h ∙ is) (last_passes (is_named block first) (length block)))

-- an item that is no member has a path of its name alone
pub spelled_at_top : (items : BlockItems) (steps : List Step) (paths : List ℕ) (ended : List Found) → OwnersBefore items → ArePaths items steps paths ended
    → (names : List Name) (n : ℕ) → length names ≡ 1 → n < length items → is_named items (get_or names 0 []) n ≡ true → (item_at items n).owner ≡ None
    → Spells steps (Some (get_or paths n 0)) (reverse names)
spelled_at_top items steps paths ended owners are [] n one lt named top = absurd (omega (arith, one))
spelled_at_top items steps paths ended owners are (x ∷ y ∷ zs) n one lt named top = absurd (omega (arith, one))
spelled_at_top items steps paths ended owners are (x ∷ []) n one lt named top =
    let i = item_at items n in
    let both = both_true i.counts (same_name i.name x) named in
    let own : i.name ≡ x = same_text i.name x (sym both.1) in
    let chain : chain_at items n ≡ x ∷ [] = chain_is items n owners lt ∙ ap (λ owner. i.name ∷ chain_over items owner) top ∙ ap (λ name. name ∷ []) own in
    subst (Spells steps (Some (get_or paths n 0))) chain (are.spelled n lt)
