-- The faults of a unit's declarations stand at tokens of its marks, in their order.
use Rattle.std.proofs.Common.{◌≡◌, ◌+◌, ℕ, List, [], ◌∷◌, ◌++◌, Option, Some, None, map, length, refl, ap, ◌∙◌, subst, sym}
use Rattle.std.specs.List.{flat_map}
use Rattle.std.proofs.lemmas.List.{append-nil}
use Rattle.pli_base.specs.Name.{Name}
use Rattle.pli_base.specs.Declarations.{Item}
use Rattle.pli_base.specs.TreeTokens.{tokens_of_each, name_tokens, item_tokens}
use Rattle.pli_base.specs.declared.code.Code.{Code}
use Rattle.pli_base.specs.declared.syntax.Identifier.{Identifier}
use Rattle.pli_base.specs.declared.token.Fault.{Fault}
use Rattle.pli_declare_outline.specs.Outlines.{Mark, Declared, Labelled, Entered, Used, Jumped, PlacedMark, Outline, outline_of}
use Rattle.pli_declare_constructs.specs.Regions.{block_of}
use Rattle.pli_declare_scopes.specs.declared.level.ItemStanding.{ItemStanding}
use Rattle.pli_declare.specs.Tables.{Entry, named, item_entries, entries_of}
use Rattle.pli_declare.specs.Resolution.{at_token, item_code, codes_from, parameter_code, parameter_codes, parameter_faults, used_faults, mark_faults, declared_by, faults_after, heading_faults, unit_faults, outline_faults, resolution_faults}
use Rattle.pli_parse.proofs.StatementTokens.{unit_read_rises}
use Rattle.pli_meaning.specs.MarkTokens.{mark_tokens, placed_mark_tokens}
use Rattle.pli_meaning.specs.FaultOrder.{fault_tokens, DeclarationFaultsRise}
use Rattle.pli_meaning.proofs.RisingLemmas.{Keeps, kept, none_kept, token_kept, both_kept, each_kept}
use Rattle.pli_meaning.proofs.MarksRise.{marks_rise}
use Rattle.pli_meaning.proofs.StatementsBegin.{statements_begin}

-- the tokens of these faults rise where those do
abbrev Told : List Fault → List ℕ → Type 0
Told fs ts = Keeps (fault_tokens fs) ts

faults_apart : (fs gs : List Fault) → fault_tokens (fs ++ gs) ≡ fault_tokens fs ++ fault_tokens gs
faults_apart [] gs = refl
faults_apart (f ∷ fs) gs = ap (λ ts. f.at ∷ ts) (faults_apart fs gs)

told_both : (fs gs : List Fault) (ts us : List ℕ) → Told fs ts → Told gs us → Told (fs ++ gs) (ts ++ us)
told_both fs gs ts us k l = subst (λ vs. Keeps vs (ts ++ us)) (sym (faults_apart fs gs)) (both_kept (fault_tokens fs) ts (fault_tokens gs) us k l)

told_all : (fs gs hs : List Fault) (ts us vs : List ℕ) → Told fs ts → Told gs us → Told hs vs → Told (fs ++ gs ++ hs) (ts ++ us ++ vs)
told_all fs gs hs ts us vs k l m = told_both (fs ++ gs) hs (ts ++ us) vs (told_both fs gs ts us k l) m

told_none : (ts : List ℕ) → Told [] ts
told_none ts = none_kept ts

told_at : (at : ℕ) (code : Option Code) → Told (at_token at code) (at ∷ [])
told_at at None = none_kept (at ∷ [])
told_at at (Some code) = kept (at ∷ [])

-- the names that a mark declares

abbrev entry_tokens : List Entry → List ℕ
entry_tokens es = tokens_of_each (λ (e : Entry). e.identifier.at ∷ []) es

abbrev pair_tokens : List (Identifier × Item) → List ℕ
pair_tokens xs = tokens_of_each (λ (x : Identifier × Item). x.0.at ∷ []) xs

through : (xs ys zs : List ℕ) → Keeps xs ys → Keeps ys zs → Keeps xs zs
through xs ys zs k l low high h = k low high (l low high h)

entries_kept : (base : ℕ) (xs : List (Identifier × Item)) (ss : List ItemStanding) → Keeps (entry_tokens (item_entries base xs ss)) (pair_tokens xs)
entries_kept base [] ss = none_kept []
entries_kept base (x ∷ xs) [] = none_kept (pair_tokens (x ∷ xs))
entries_kept base (x ∷ xs) (s ∷ ss) = token_kept x.0.at (entry_tokens (item_entries base xs ss)) (pair_tokens xs) (entries_kept base xs ss)

named_same : (item : Item) (is : List Identifier) → pair_tokens (map (λ i. (i, item)) is) ≡ tokens_of_each name_tokens is
named_same item [] = refl
named_same item (i ∷ is) = ap (λ ts. i.at ∷ ts) (named_same item is)

names_kept : (items : List Item) → Keeps (pair_tokens (flat_map named items)) (tokens_of_each item_tokens items)
names_kept [] = none_kept []
names_kept (i ∷ is) =
    each_kept (λ (x : Identifier × Item). x.0.at ∷ []) (named i) (flat_map named is) (item_tokens i) (tokens_of_each item_tokens is)
    (subst (λ ts. Keeps ts (item_tokens i)) (sym (named_same i i.names)) (kept (item_tokens i))) (names_kept is)

codes_told : (o : Outline) (block number : ℕ) (es : List Entry) → Told (codes_from o block number es) (entry_tokens es)
codes_told o block number [] = none_kept []
codes_told o block number (e ∷ es) =
    told_both (at_token e.identifier.at (item_code o block number)) (codes_from o block (number + 1) es) (e.identifier.at ∷ []) (entry_tokens es)
    (told_at e.identifier.at (item_code o block number)) (codes_told o block (number + 1) es)

parameters_told : (o : Outline) (block : ℕ) (before : List Name) (ps : List Identifier) → Told (parameter_codes o block before ps) (tokens_of_each name_tokens ps)
parameters_told o block before [] = none_kept []
parameters_told o block before (p ∷ ps) =
    told_both (at_token p.at (parameter_code o block before p.name)) (parameter_codes o block (before ++ p.name ∷ []) ps) (p.at ∷ []) (tokens_of_each name_tokens ps)
    (told_at p.at (parameter_code o block before p.name)) (parameters_told o block (before ++ p.name ∷ []) ps)

-- one mark

marked : (o : Outline) (block number here : ℕ) (mark : Mark)
    → Told (codes_from o block number (entries_of number here mark) ++ parameter_faults o mark ++ used_faults o here mark) (mark_tokens mark)
marked o block number here (Declared items) =
    let ts = tokens_of_each item_tokens items in
    let es = entries_of number here (Declared items) in
    subst (λ us. Told (codes_from o block number es ++ [] ++ []) us) (append-nil (ts ++ []) ∙ append-nil ts)
    (told_all (codes_from o block number es) [] [] ts [] []
    (through (fault_tokens (codes_from o block number es)) (entry_tokens es) ts (codes_told o block number es)
    (through (entry_tokens es) (pair_tokens (flat_map named items)) ts (entries_kept number (flat_map named items) _) (names_kept items)))
    (told_none []) (told_none []))
marked o block number here (Labelled label) =
    let es = entries_of number here (Labelled label) in
    told_all (codes_from o block number es) [] [] (label.at ∷ []) [] [] (codes_told o block number es) (told_none []) (told_none [])
marked o block number here (Entered heading region) =
    let es = entries_of number here (Entered heading region) in
    let ps = parameter_codes o region [] heading.parameters in
    let ts = tokens_of_each name_tokens heading.parameters in
    subst (λ us. Told (codes_from o block number es ++ ps ++ []) (heading.name.at ∷ us)) (append-nil ts)
    (told_all (codes_from o block number es) ps [] (heading.name.at ∷ []) ts [] (codes_told o block number es) (parameters_told o region [] heading.parameters) (told_none []))
marked o block number here (Used []) = told_none []
marked o block number here (Used (name ∷ names)) = told_at name.at _
marked o block number here (Jumped label) = told_at label.at _

marks_told : (o : Outline) (before ps : List PlacedMark) → Told (faults_after o before ps) (placed_mark_tokens ps)
marks_told o before [] = none_kept []
marks_told o before (p ∷ ps) =
    let number = declared_by o (block_of o.regions p.region) before in
    told_both (mark_faults o number p) (faults_after o (before ++ p ∷ []) ps) (mark_tokens p.mark) (placed_mark_tokens ps)
    (marked o (block_of o.regions p.region) number p.region p.mark) (marks_told o (before ++ p ∷ []) ps)

-- the unit's own

own_told : (o : Outline) (mark : Mark) → Told (heading_faults mark ++ parameter_faults o mark) (mark_tokens mark)
own_told o (Entered heading region) =
    told_both (heading_faults (Entered heading region)) (parameter_codes o region [] heading.parameters) (heading.name.at ∷ []) (tokens_of_each name_tokens heading.parameters)
    (told_at heading.name.at _) (parameters_told o region [] heading.parameters)
own_told o (Declared items) = none_kept (mark_tokens (Declared items))
own_told o (Labelled label) = none_kept (mark_tokens (Labelled label))
own_told o (Used names) = none_kept (mark_tokens (Used names))
own_told o (Jumped label) = none_kept (mark_tokens (Jumped label))

outline_told : (o : Outline) (ps : List PlacedMark) → Told (outline_faults o ps) (placed_mark_tokens ps)
outline_told o [] = none_kept []
outline_told o (p ∷ ps) =
    told_both (unit_faults o p) (faults_after o [] ps) (mark_tokens p.mark) (placed_mark_tokens ps) (own_told o p.mark) (marks_told o [] ps)

pub declaration_faults_rise : DeclarationFaultsRise
unfolding resolution_faults
declaration_faults_rise ts u h =
    let o = outline_of u in
    outline_told o o.marks 0 (length ts) (marks_rise u 0 (length ts) (statements_begin ts u h) (unit_read_rises ts u h))
