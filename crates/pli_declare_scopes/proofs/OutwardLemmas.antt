-- From block to block outwards.
use Rattle.std.proofs.Common.{◌≡◌, ℕ, ◌+◌, ◌-◌, ◌<◌, Bool, true, false, List, [], ◌∷◌, length, get_or, drop, if◌then◌else◌, refl, sym, ap, ◌∙◌, arith}
use Rattle.std.specs.Prelude.{reverse}
use Rattle.std.proofs.lemmas.List.{drop_more, get_or-reverse, length-reverse}
use Rattle.pli_base.specs.Name.{Name}
use Rattle.pli_declare_scopes.specs.declared.found.ReferenceMeaning.TheVariants.{NotDeclared}
use Rattle.pli_declare_scopes.specs.Scopes.{BlockItems, Scope, declares, declares_first, found_in, meant_there, meant_from}

-- no names mean nothing
pub no_reference : (scope : Scope) (out : ℕ) → meant_from out scope [] ≡ NotDeclared
no_reference [] out = refl
no_reference (b ∷ bs) out = no_reference bs (out + 1)

first_is : (names : List Name) (first : Name) (block : BlockItems) → 0 < length names → first ≡ get_or names 0 first → declares_first block names ≡ declares block first
first_is [] first block some e = absurd (omega arith)
first_is (n ∷ ns) first block some e = ap (declares block) (sym e)

module _ (blocks : List BlockItems) (out : ℕ) (lt : out < length blocks) (names : List Name) (first : Name) (some : 0 < length names) (is_first : first ≡ get_or names 0 first)
    (block : BlockItems) (read : block ≡ get_or blocks (length blocks - 1 - out) block) where
  there : get_or (reverse blocks) out block ≡ block
  there = get_or-reverse blocks out block lt ∙ sym read

  split : meant_from out (drop out (reverse blocks)) names
      ≡ (if declares block first then meant_there out (found_in block names) else meant_from (out + 1) (drop (out + 1) (reverse blocks)) names)
  split =
      ap (λ bs. meant_from out bs names) (drop_more (reverse blocks) out block (omega (arith, length-reverse blocks)) ∙ ap (λ b. b ∷ drop (out + 1) (reverse blocks)) there)
      ∙ ap (λ b. if b then meant_there out (found_in block names) else meant_from (out + 1) (drop (out + 1) (reverse blocks)) names) (first_is names first block some is_first)

  -- the block decides
  pub decided_here : (b : Bool) → b ≡ declares block first → b ≡ true → meant_from out (drop out (reverse blocks)) names ≡ meant_there out (found_in block names)
  decided_here b e f = split ∙ ap (λ c. if c then meant_there out (found_in block names) else meant_from (out + 1) (drop (out + 1) (reverse blocks)) names) (sym e ∙ f)

  -- or those further outwards do
  pub decided_further : (b : Bool) → b ≡ declares block first → b ≡ false
      → meant_from (out + 1) (drop (out + 1) (reverse blocks)) names ≡ meant_from out (drop out (reverse blocks)) names
  decided_further b e f = sym (split ∙ ap (λ c. if c then meant_there out (found_in block names) else meant_from (out + 1) (drop (out + 1) (reverse blocks)) names) (sym e ∙ f))
