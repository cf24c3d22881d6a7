-- The tokens of items that are spelled rise in the order of the text.
use Rattle.std.proofs.Common.{◌≡◌, ◌+◌, ℕ, List, [], ◌∷◌, ◌++◌, Ok, length, ap, sym, subst, arith, ⊎_elim, length-append}
use Rattle.pli_base.specs.TreeTokens.{Rises, tokens_of_each, name_tokens, item_tokens}
use Rattle.pli_base.specs.laws.TreeTokenLaws.{rises_within, rises_on}
use Rattle.pli_base.specs.Words.{Tokens, SpellsIdentifier}
use Rattle.pli_base.specs.Reading.{Front}
use Rattle.pli_base.specs.Declarations as tree
use Rattle.pli_base.specs.declared.token.Sign.TheVariants.{CloseParenthesis, Semicolon}
use Rattle.pli_base.specs.declared.token.TokenText.TheVariants.{Sign}
use Rattle.pli_parse_declaration.specs.DeclarationReading.{items_at, declaration_at}
use Rattle.pli_parse_declaration.specs.declared.list.Separator.{Separator}
use Rattle.pli_parse_declaration.specs.declared.list.Separator.TheVariants.{Commas}
use Rattle.pli_parse_declaration.specs.Separators.{after_separator}
use Rattle.pli_parse_declaration.specs.DeclarationGrammar.{between, SpellsListed, SpellsNames, SpellsItem, SpellsItems, SpellsDeclaration}
use Rattle.pli_parse_declaration.proofs.DeclarationSteps.{separator_place}
use Rattle.pli_parse_declaration.proofs.DeclarationItemsRead.{items_reads, declaration_reads}

-- what is spelled so has tokens that rise
abbrev pub Rise : {A : Type 0} → (A → List ℕ) → (Spells : ℕ → Tokens → A → Type 0) → Type 0
Rise {A = A} tokens Spells = (p : ℕ) (ts : Tokens) (x : A) → Spells p ts x → Rises p (tokens x) (p + length ts)

pub listed_rise : {A : Type 0} (tokens : A → List ℕ) (s : Separator) (Spells : ℕ → Tokens → A → Type 0) → Rise tokens Spells → Rise (tokens_of_each tokens) (SpellsListed s Spells)
listed_rise tokens s Spells rise p ts [] spelled = absurd spelled
listed_rise tokens s Spells rise p ts (x ∷ []) spelled =
    rises_on (tokens x) [] p (p + length ts) (p + length ts) (p + length ts) (omega arith) (rise p ts x spelled) (omega arith)
listed_rise tokens s Spells rise p ts (x ∷ y ∷ more) (front, rest, shape, first, later) =
    let q : ℕ = after_separator s (p + length front) in
    let place : q ≡ p + length front + length (between s) = separator_place s (p + length front) in
    let whole : length ts ≡ length front + (length (between s) + length rest) = omega (arith, ap length shape, length-append front (between s ++ rest), length-append (between s) rest) in
    rises_on (tokens x) (tokens_of_each tokens (y ∷ more)) p (p + length front) q (p + length ts) (omega arith) (rise p front x first)
    (rises_within (tokens_of_each tokens (y ∷ more)) q q (q + length rest) (p + length ts) (omega arith) (omega arith) (listed_rise tokens s Spells rise q rest (y ∷ more) later))

pub identifier_rises : Rise name_tokens SpellsIdentifier
identifier_rises p ts i spelled = (omega (arith, spelled.1), omega (arith, spelled.1, ap length spelled.0))

names_rise : Rise (tokens_of_each name_tokens) SpellsNames
names_rise p ts names spelled =
    ⊎_elim
    (λ one. subst (λ ns. Rises p (tokens_of_each name_tokens ns) (p + length ts)) (sym one.1) (rises_on (name_tokens one.0) [] p (p + length ts) (p + length ts) (p + length ts) (omega arith) (identifier_rises p ts one.0 one.2) (omega arith)))
    (λ many. rises_within (tokens_of_each name_tokens names) (p + 1) p (p + 1 + length many.0) (p + length ts) (omega arith) (omega (arith, ap length many.1, length-append many.0 (Sign CloseParenthesis ∷ [])))
    (listed_rise name_tokens Commas SpellsIdentifier identifier_rises (p + 1) many.0 names many.2)) spelled

item_rises : Rise item_tokens SpellsItem
item_rises p ts i (ls, ns, ds, rs, shape, level, names, dimensions, attributes) =
    rises_within (item_tokens i) (p + length ls) p (p + length ls + length ns) (p + length ts) (omega arith)
    (omega (arith, ap length shape, length-append ls (ns ++ (ds ++ rs)), length-append ns (ds ++ rs))) (names_rise (p + length ls) ns i.names names)

pub items_rise : Rise (tokens_of_each item_tokens) SpellsItems
items_rise = listed_rise item_tokens Commas SpellsItem item_rises

pub declaration_rises : Rise (tokens_of_each item_tokens) SpellsDeclaration
declaration_rises p ts items (us, shape, spelled) =
    rises_within (tokens_of_each item_tokens items) p p (p + length us) (p + length ts) (omega arith) (omega (arith, ap length shape, length-append us (Sign Semicolon ∷ []))) (items_rise p us items spelled)

pub items_read_rise : (p : ℕ) (ts : Tokens) (x : Front (List tree.Item)) → items_at p ts ≡ Ok x → Rises p (tokens_of_each item_tokens x.value) x.next
items_read_rise p ts x h =
    let f = items_reads p ts x h in
    rises_within (tokens_of_each item_tokens x.value) p p (p + length f.0) x.next (omega arith) (omega (arith, f.2)) (items_rise p f.0 x.value f.3)

pub declaration_read_rises : (p : ℕ) (ts : Tokens) (x : Front (List tree.Item)) → declaration_at p ts ≡ Ok x → Rises p (tokens_of_each item_tokens x.value) x.next
declaration_read_rises p ts x h =
    let f = declaration_reads p ts x h in
    rises_within (tokens_of_each item_tokens x.value) p p (p + length f.0) x.next (omega arith) (omega (arith, f.2)) (declaration_rises p f.0 x.value f.3)
