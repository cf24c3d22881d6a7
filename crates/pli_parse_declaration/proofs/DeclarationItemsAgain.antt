-- What is spelled so is read: attributes, descriptions and items.
use Rattle.std.proofs.Common.{⊎_elim, ◌⊎◌, inl, inr, ◌≡◌, ◌+◌, ◌<◌, ℕ, true, cond, List, [], ◌∷◌, ◌++◌, Option, Some, None, Result, Ok, length, codes, refl, ap, ◌∙◌, sym, subst, arith, append_assoc, length-append}
use Rattle.pli_base.specs.Name.{Name}
use Rattle.pli_base.specs.Words.{Tokens, is_open, is_close, is_semicolon, rest_after, SpellsIdentifier}
use Rattle.pli_base.specs.Results.{◌>>=◌}
use Rattle.pli_base.specs.Reading.{Front, read_as, mapped, expected, taken, enclosed}
use Rattle.pli_base.specs.declared.code.Code.TheVariants.{ParenthesisExpected, SemicolonExpected}
use Rattle.pli_base.specs.declared.token.Fault.{Fault}
use Rattle.pli_base.specs.declared.token.Sign.TheVariants.{Semicolon, Comma, OpenParenthesis, CloseParenthesis}
use Rattle.pli_base.specs.declared.token.TokenText.TheVariants.{Word, Sign}
use Rattle.pli_parse_declaration.specs.DeclarationWords.{attribute_word, attribute_first, if_first, with_attribute, begins_description}
use Rattle.pli_base.specs.Declarations as tree
use Rattle.pli_parse_declaration.specs.DeclarationReading.{list_at, dimensions_at, identifier_at, simple_of, described_from, described_at, parameter_at, parameters_from, parameters_at, entry_from, entry_at, returned_at, attribute_from, attribute_at, attributes_from, attributes_at, level_at, names_from, names_at, item_at, items_at, declaration_at}
use Rattle.pli_parse_declaration.specs.DeclarationGrammar.{between, SpellsListed, Anywhere, SpellsList, SpellsOptional, SpellsSimple, word_of, SpellsDescribed, SpellsParameter, SpellsParameters, SpellsReturned, SpellsAttribute, SpellsAttributes, SpellsNames, SpellsLevel, SpellsItem, SpellsItems, SpellsDeclaration, EndsItems}
use Rattle.pli_base.specs.declared.syntax.Identifier.{Identifier}
use Rattle.pli_parse_declaration.specs.declared.word.AttributeWord.{AttributeWord}
use Rattle.pli_parse_declaration.specs.declared.word.AttributeWord.TheVariants as attribute
use Rattle.pli_parse_declaration.specs.ItemEnds.{OptionEnds, AttributeEnds, DimensionsEnd, LastEnds, AttributesEnd, ItemEnds, ItemsEnd}
use Rattle.pli_parse_fault.proofs.StepLemmas.{same_ok}
use Rattle.pli_parse_declaration.proofs.DeclarationReadAgain.{ReadAgain, ReadBefore, any_option, any_simple, any_dimensions, any_last, listed_before, dimensions_before, simple_before, Anyhow, NoOpen, ListEnds, no_open_close, no_open_comma, no_open_word, placed, open_taken, open_after, enclosed_again, listed_again, list_again, comma_goes, commas_close, identifier_again, dimensions_again, simple_again, word_again}
use Rattle.pli_parse_declaration.proofs.DeclarationRead.{any_place}
use Rattle.pli_parse_declaration.proofs.DeclarationNestsAgain.{entry_word, returns_word, FirstWord, FirstOfDescription, dimensions_describe, first_no_open, nest_again}
use Rattle.pli_parse_declaration.specs.declared.list.Separator.TheVariants.{Commas, Nothing}

simple_first : (ts : Tokens) (a : tree.SimpleAttribute) → SpellsSimple ts a → FirstWord ts
simple_first ts a (k, us, e, word, spelled) = (k, us, attribute.Simple (word_of a), e, word)

described_first : (ts : Tokens) (a : tree.DescribedAttribute) → SpellsDescribed ts a → FirstWord ts
described_first ts (tree.Plain a) spelled = simple_first ts a spelled
described_first ts tree.AnyEntry (us, e, formed) = (codes "ENTRY", us, attribute.Entry, e, entry_word)
described_first ts tree.AnyReturns (us, e, formed) = (codes "RETURNS", us, attribute.Returns, e, returns_word)

attribute_begins : (ts : Tokens) (a : tree.Attribute) → SpellsAttribute ts a → FirstWord ts
attribute_begins ts (tree.Simple a) spelled = simple_first ts a spelled
attribute_begins ts (tree.Entry parameters) (us, e, spelled) = (codes "ENTRY", us, attribute.Entry, e, entry_word)
attribute_begins ts (tree.Returns attributes) (us, e, spelled) = (codes "RETURNS", us, attribute.Returns, e, returns_word)

-- at an attribute's keyword a list of attributes goes on
word_goes : (ts zs : Tokens) → FirstWord ts → (with_attribute (ts ++ zs) ≡ Some (ts ++ zs)) × NoOpen (ts ++ zs)
word_goes ts zs first =
    let e : ts ++ zs ≡ Word first.0 ∷ (first.1 ++ zs) = ap (λ us. us ++ zs) first.3 in
    (ap (if_first (ts ++ zs)) (ap attribute_first e ∙ word_again first.0 (first.1 ++ zs) first.2 first.4), first_no_open ts zs first)

first_some : (ts : Tokens) → FirstWord ts → 0 < length ts
first_some ts first = omega (arith, ap length first.3)

-- no attribute begins there
no_attribute_close : (zs : Tokens) → with_attribute (Sign CloseParenthesis ∷ zs) ≡ None
unfolding attribute_first
no_attribute_close zs = refl

no_attribute_comma : (zs : Tokens) → with_attribute (Sign Comma ∷ zs) ≡ None
unfolding attribute_first
no_attribute_comma zs = refl

no_attribute_semicolon : (zs : Tokens) → with_attribute (Sign Semicolon ∷ zs) ≡ None
unfolding attribute_first
no_attribute_semicolon zs = refl

-- a list of attributes begins with the keyword of its first
list_first : {A : Type 0} (Spells : Tokens → A → Type 0) → ((ts : Tokens) (x : A) → Spells ts x → FirstWord ts) → (ts : Tokens) (xs : List A) → SpellsList Nothing Spells ts xs → FirstWord ts
list_first Spells first ts [] spelled = absurd spelled
list_first Spells first ts (x ∷ []) spelled = first ts x spelled
list_first Spells first ts (x ∷ y ∷ more) (front, rest, shape, spelled, later) =
    let f = first front x spelled in
    (f.0, f.1 ++ rest, f.2, shape ∙ ap (λ us. us ++ rest) f.3, f.4)

-- what begins with its keyword, where what stands after that is read
keyword_again : {A B : Type 0} (from : ℕ → Tokens → Option (AttributeWord × Tokens) → Result (Front B) Fault) (make : A → B)
    (one : ℕ → Tokens → Result (Front A) Fault) (a : A) (k : Name) (w : AttributeWord) (p : ℕ) (ts us more : Tokens)
    → ts ≡ Word k ∷ us → attribute_word k ≡ Some w
    → from p (Word k ∷ (us ++ more)) (Some (w, us ++ more)) ≡ mapped make (one (p + 1) (us ++ more))
    → one (p + 1) (us ++ more) ≡ read_as a (p + 1 + length us) more
    → from p (ts ++ more) (attribute_first (ts ++ more)) ≡ read_as (make a) (p + length ts) more
keyword_again from make one a k w p ts us more e word step read =
    ap (λ vs. from p (vs ++ more) (attribute_first (vs ++ more))) e
    ∙ ap (from p (Word k ∷ (us ++ more))) (word_again k (us ++ more) w word)
    ∙ step
    ∙ ap (mapped make) read
    ∙ placed (make a) (p + 1 + length us) (p + length ts) more (omega (arith, ap length e))

described_again : ReadAgain described_at (Anywhere SpellsDescribed) NoOpen
unfolding described_at
described_again p ts more (tree.Plain a) (k, us, e, word, spelled) stops =
    keyword_again described_from tree.Plain (simple_of (word_of a)) a k (attribute.Simple (word_of a)) p ts us more e word refl
    (simple_again a (p + 1) us more spelled stops)
described_again p ts more tree.AnyEntry (us, e, formed) stops =
    ap (described_from p (ts ++ more)) (ap (λ vs. attribute_first (vs ++ more)) e ∙ word_again (codes "ENTRY") (us ++ more) attribute.Entry entry_word)
    ∙ ap (mapped (λ nothing. tree.AnyEntry)) (nest_again p ts more formed stops)
described_again p ts more tree.AnyReturns (us, e, formed) stops =
    ap (described_from p (ts ++ more)) (ap (λ vs. attribute_first (vs ++ more)) e ∙ word_again (codes "RETURNS") (us ++ more) attribute.Returns returns_word)
    ∙ ap (mapped (λ nothing. tree.AnyReturns)) (nest_again p ts more formed stops)

described_list : ReadAgain (list_at Nothing described_at) (Anywhere (SpellsList Nothing SpellsDescribed)) (ListEnds Nothing NoOpen)
described_list =
    list_again Nothing described_at SpellsDescribed NoOpen described_again (λ p ts zs a s. word_goes ts zs (described_first ts a s)) (λ p ts a s. first_some ts (described_first ts a s))

parameter_again : ReadAgain parameter_at (Anywhere SpellsParameter) (ListEnds Nothing NoOpen)
unfolding parameter_at
parameter_again p ts more d (front, rest, shape, dims, attributes) stops =
    let first = list_first SpellsDescribed described_first rest d.attributes attributes in
    ap (parameter_at p) (ap (λ us. us ++ more) shape ∙ append_assoc front rest more)
    ∙ ap (λ r. r >>= λ dimensions. list_at Nothing described_at dimensions.next dimensions.rest >>= λ attributes. read_as (record { dimensions = dimensions.value; attributes = attributes.value }) attributes.next attributes.rest)
    (dimensions_again p front (rest ++ more) d.dimensions dims (first_no_open rest more first))
    ∙ ap (λ r. r >>= λ attributes. read_as (record { dimensions = d.dimensions; attributes = attributes.value }) attributes.next attributes.rest) (described_list (p + length front) rest more d.attributes attributes stops)
    ∙ placed d (p + length front + length rest) (p + length ts) more (omega (arith, ap length shape, length-append front rest))

parameter_some : (p : ℕ) (ts : Tokens) (d : tree.ParameterDescription) → SpellsParameter ts d → 0 < length ts
parameter_some p ts d (front, rest, shape, dims, attributes) =
    omega (arith, ap length shape, length-append front rest, first_some rest (list_first SpellsDescribed described_first rest d.attributes attributes))

parameter_first : (ts : Tokens) (d : tree.ParameterDescription) → SpellsParameter ts d → FirstOfDescription ts
parameter_first ts d (front, rest, shape, dims, attributes) =
    subst (λ us. FirstOfDescription us) (sym shape) (dimensions_describe front rest d.dimensions dims (list_first SpellsDescribed described_first rest d.attributes attributes))

parameters_first : (ts : Tokens) (d : tree.ParameterDescription) (ds : List tree.ParameterDescription) → SpellsList Commas SpellsParameter ts (d ∷ ds) → FirstOfDescription ts
parameters_first ts d [] spelled zs = parameter_first ts d spelled zs
parameters_first ts d (e ∷ ds) (front, rest, shape, spelled, later) zs =
    subst (λ us. (rest_after is_close us ≡ None) × (begins_description us ≡ true)) (sym (ap (λ us. us ++ zs) shape ∙ append_assoc front (between Commas ++ rest) zs)) (parameter_first front d spelled ((between Commas ++ rest) ++ zs))

no_parameters : (p : ℕ) (more : Tokens) → parameters_at p (Sign CloseParenthesis ∷ more) ≡ read_as [] (p + 1) more
unfolding parameters_at rest_after
no_parameters p more = refl

some_parameters : (p : ℕ) (us : Tokens) → rest_after is_close us ≡ None → begins_description us ≡ true → parameters_at p us ≡ enclosed (list_at Commas parameter_at p us)
unfolding parameters_at
some_parameters p us none some =
    ap (parameters_from p us) none ∙ ap (λ b. cond b (enclosed (list_at Commas parameter_at p us)) (expected ParenthesisExpected p us)) some

parameters_again : (p : ℕ) (inner more : Tokens) (ds : List tree.ParameterDescription) → SpellsParameters inner ds
    → parameters_at (p + 1) ((inner ++ Sign CloseParenthesis ∷ []) ++ more) ≡ read_as ds (p + length (Sign OpenParenthesis ∷ inner ++ Sign CloseParenthesis ∷ [])) more
parameters_again p inner more [] e =
    ap (λ us. parameters_at (p + 1) ((us ++ Sign CloseParenthesis ∷ []) ++ more)) e
    ∙ no_parameters (p + 1) more
    ∙ placed [] (p + 1 + 1) (p + length (Sign OpenParenthesis ∷ inner ++ Sign CloseParenthesis ∷ [])) more (omega (arith, ap length e, length-append inner (Sign CloseParenthesis ∷ [])))
parameters_again p inner more (d ∷ ds) spelled =
    let e : (inner ++ Sign CloseParenthesis ∷ []) ++ more ≡ inner ++ Sign CloseParenthesis ∷ more = append_assoc inner (Sign CloseParenthesis ∷ []) more in
    let first = parameters_first inner d ds spelled (Sign CloseParenthesis ∷ more) in
    some_parameters (p + 1) ((inner ++ Sign CloseParenthesis ∷ []) ++ more) (ap (rest_after is_close) e ∙ first.0) (ap begins_description e ∙ first.1)
    ∙ enclosed_again (list_at Commas parameter_at) (Anywhere (SpellsList Commas SpellsParameter)) (ListEnds Commas (ListEnds Nothing NoOpen))
    (list_again Commas parameter_at SpellsParameter (ListEnds Nothing NoOpen) parameter_again (λ q us zs x s. (comma_goes (us ++ zs), (no_attribute_comma (us ++ zs), no_open_comma (us ++ zs)))) parameter_some)
    (λ zs. (commas_close zs, (no_attribute_close zs, no_open_close zs))) p inner more (d ∷ ds) spelled

entry_again : ReadBefore entry_at (Anywhere (SpellsOptional SpellsParameters)) OptionEnds
unfolding entry_at
entry_again p ts more None e stops =
    ap (λ us. entry_at p (us ++ more)) e ∙ ap (entry_from p more) stops ∙ placed None p (p + length ts) more (omega (arith, ap length e))
entry_again p ts more (Some ds) (inner, shape, spelled) stops =
    ap (λ us. entry_at p (us ++ more)) shape
    ∙ ap (entry_from p ((Sign OpenParenthesis ∷ inner ++ Sign CloseParenthesis ∷ []) ++ more)) (open_after ((inner ++ Sign CloseParenthesis ∷ []) ++ more))
    ∙ ap (mapped Some) (parameters_again p inner more ds spelled)
    ∙ placed (Some ds) (p + length (Sign OpenParenthesis ∷ inner ++ Sign CloseParenthesis ∷ [])) (p + length ts) more (ap (λ (us : Tokens). p + length us) (sym shape))

pub returned_again : ReadAgain returned_at (Anywhere SpellsReturned) Anyhow
unfolding returned_at
returned_again p ts more attributes (inner, shape, spelled) stops =
    ap (λ us. returned_at p (us ++ more)) shape
    ∙ ap (λ r. r >>= λ us. enclosed (list_at Nothing described_at (p + 1) us)) (open_taken p ((inner ++ Sign CloseParenthesis ∷ []) ++ more))
    ∙ enclosed_again (list_at Nothing described_at) (Anywhere (SpellsList Nothing SpellsDescribed)) (ListEnds Nothing NoOpen) described_list (λ zs. (no_attribute_close zs, no_open_close zs)) p inner more attributes spelled
    ∙ placed attributes (p + length (Sign OpenParenthesis ∷ inner ++ Sign CloseParenthesis ∷ [])) (p + length ts) more (ap (λ (us : Tokens). p + length us) (sym shape))

attribute_before : ReadBefore attribute_at (Anywhere SpellsAttribute) AttributeEnds
unfolding attribute_at
attribute_before p ts more (tree.Simple a) (k, us, e, word, spelled) stops =
    keyword_again attribute_from tree.Simple (simple_of (word_of a)) a k (attribute.Simple (word_of a)) p ts us more e word refl
    (simple_before a (p + 1) us more spelled stops)
attribute_before p ts more (tree.Entry parameters) (us, e, spelled) stops =
    keyword_again attribute_from tree.Entry entry_at parameters (codes "ENTRY") attribute.Entry p ts us more e entry_word refl
    (entry_again (p + 1) us more parameters spelled stops)
attribute_before p ts more (tree.Returns attributes) (us, e, spelled) stops =
    keyword_again attribute_from tree.Returns returned_at attributes (codes "RETURNS") attribute.Returns p ts us more e returns_word refl
    (returned_again (p + 1) us more attributes spelled tt)

-- what opens no parenthesis ends any attribute
any_attribute : (a : tree.Attribute) (more : Tokens) → NoOpen more → AttributeEnds a more
any_attribute (tree.Simple a) more stops = any_simple a more stops
any_attribute (tree.Entry parameters) more stops = any_option parameters more stops
any_attribute (tree.Returns attributes) more stops = tt

any_attributes : (dims : _) (attributes : List tree.Attribute) (more : Tokens) → NoOpen more → AttributesEnd dims attributes more
any_attributes dims [] more stops = any_dimensions dims more stops
any_attributes dims (a ∷ rest) more stops = any_last AttributeEnds (a ∷ rest) more (λ b. any_attribute b more stops)

attributes_before : ReadBefore attributes_at (Anywhere SpellsAttributes) (λ attributes more. (with_attribute more ≡ None) × LastEnds AttributeEnds attributes more)
unfolding attributes_at
attributes_before p ts more [] e stops =
    ap (λ us. attributes_at p (us ++ more)) e ∙ ap (attributes_from p more) stops.0 ∙ placed [] p (p + length ts) more (omega (arith, ap length e))
attributes_before p ts more (a ∷ rest) spelled stops =
    ap (attributes_from p (ts ++ more)) (word_goes ts more (list_first SpellsAttribute attribute_begins ts (a ∷ rest) spelled)).0
    ∙ listed_before Nothing attribute_at (Anywhere SpellsAttribute) AttributeEnds attribute_before
    (λ q us zs x s. let g = word_goes us zs (attribute_begins us x s) in (g.0, λ y. any_attribute y (us ++ zs) g.1)) (λ q us x s. first_some us (attribute_begins us x s)) (a ∷ rest) (length (ts ++ more) + 1) p ts more
    (any_place Nothing SpellsAttribute (a ∷ rest) 0 p ts spelled) stops (omega arith)

-- attributes open no parenthesis; without them what stands after the item decides
attributes_end : (dims : _) (ts more : Tokens) (attributes : List tree.Attribute) → SpellsAttributes ts attributes → AttributesEnd dims attributes more → DimensionsEnd dims (ts ++ more)
attributes_end dims ts more [] e stops = subst (λ us. DimensionsEnd dims (us ++ more)) (sym e) stops
attributes_end dims ts more (a ∷ rest) spelled stops = any_dimensions dims (ts ++ more) (first_no_open ts more (list_first SpellsAttribute attribute_begins ts (a ∷ rest) spelled))

last_of : (dims : _) (attributes : List tree.Attribute) (more : Tokens) → AttributesEnd dims attributes more → LastEnds AttributeEnds attributes more
last_of dims [] more stops = tt
last_of dims (a ∷ rest) more stops = stops

-- the names of an item begin with a name or a parenthesis
abbrev FirstOfNames : Tokens → Type 0
FirstOfNames ts = ((k : Name) × (us : Tokens) × (ts ≡ Word k ∷ us)) ⊎ ((us : Tokens) × (ts ≡ Sign OpenParenthesis ∷ us))

names_first : (p : ℕ) (ts : Tokens) (names : List Identifier) → SpellsNames p ts names → FirstOfNames ts
names_first p ts names spelled = ⊎_elim (λ s. inl (s.0.name, [], s.2.0)) (λ s. inr (_, s.1)) spelled

no_level : (p : ℕ) (ts more : Tokens) → FirstOfNames ts → level_at p (ts ++ more) ≡ record { value = None; next = p; rest = ts ++ more }
unfolding level_at
no_level p ts more first =
    ⊎_elim (λ f. subst (λ us. level_at p (us ++ more) ≡ record { value = None; next = p; rest = us ++ more }) (sym f.2) refl)
    (λ f. subst (λ us. level_at p (us ++ more) ≡ record { value = None; next = p; rest = us ++ more }) (sym f.1) refl) first

level_again : (level : Option ℕ) (p : ℕ) (ts names more : Tokens) → SpellsLevel ts level → FirstOfNames names → level_at p (ts ++ (names ++ more)) ≡ record { value = level; next = p + length ts; rest = names ++ more }
unfolding level_at
level_again None p ts names more e first =
    let place : p ≡ p + length ts = omega (arith, ap length e) in
    ap (λ us. level_at p (us ++ (names ++ more))) e ∙ no_level p names more first ∙ ap (λ (q : ℕ). record { value = None; next = q; rest = names ++ more }) place
level_again (Some n) p ts names more (d, s) first =
    ⊎_elim (λ e. subst (λ us. level_at p (us ++ (names ++ more)) ≡ record { value = Some n; next = p + length us; rest = names ++ more }) (sym e) refl)
    (λ e. subst (λ us. level_at p (us ++ (names ++ more)) ≡ record { value = Some n; next = p + length us; rest = names ++ more }) (sym e) refl) s

names_again : ReadAgain names_at SpellsNames Anyhow
unfolding names_at
names_again p ts more names spelled stops =
    ⊎_elim
    (λ s. ap (names_from p (ts ++ more)) (ap (λ us. rest_after is_open (us ++ more)) s.2.0 ∙ no_open_word s.0.name more)
    ∙ ap (mapped (λ x. x ∷ [])) (identifier_again p ts more s.0 s.2 tt)
    ∙ ap (λ (xs : List Identifier). read_as xs (p + length ts) more) (sym s.1))
    (λ s. ap (λ us. names_at p (us ++ more)) s.1
    ∙ ap (names_from p ((Sign OpenParenthesis ∷ s.0 ++ Sign CloseParenthesis ∷ []) ++ more)) (open_after ((s.0 ++ Sign CloseParenthesis ∷ []) ++ more))
    ∙ enclosed_again (list_at Commas identifier_at) (SpellsListed Commas SpellsIdentifier) (ListEnds Commas Anyhow)
    (λ q us zs xs t ends. listed_again Commas identifier_at SpellsIdentifier Anyhow identifier_again (λ r vs ws x u. (comma_goes (vs ++ ws), tt)) (λ r vs x u. omega (arith, ap length u.0)) xs (length (us ++ zs) + 1) q us zs t ends (omega arith))
    (λ zs. (commas_close zs, tt)) p s.0 more names s.2
    ∙ placed names (p + length (Sign OpenParenthesis ∷ s.0 ++ Sign CloseParenthesis ∷ [])) (p + length ts) more (ap (λ (us : Tokens). p + length us) (sym s.1))) spelled

item_before : ReadBefore item_at SpellsItem ItemEnds
unfolding item_at
item_before p ts more i (ls, ns, ds, rs, shape, level, names, dims, attributes) stops =
    let whole : ts ++ more ≡ ls ++ (ns ++ (ds ++ (rs ++ more))) = ap (λ us. us ++ more) shape ∙ simp append_assoc in
    let q : ℕ = p + length ls in
    let first = names_first q ns i.names names in
    let place : q + length ns + length ds + length rs ≡ p + length ts = omega (arith, ap length shape, length-append ls (ns ++ (ds ++ rs)), length-append ns (ds ++ rs), length-append ds rs) in
    ap (item_at p) whole
    ∙ ap (λ (l : Front (Option ℕ)). names_at l.next l.rest >>= λ names. dimensions_at names.next names.rest >>= λ dimensions. attributes_at dimensions.next dimensions.rest
    >>= λ attributes. read_as (record { level = l.value; names = names.value; dimensions = dimensions.value; attributes = attributes.value }) attributes.next attributes.rest)
    (level_again i.level p ls ns (ds ++ (rs ++ more)) level first)
    ∙ ap (λ r. r >>= λ names. dimensions_at names.next names.rest >>= λ dimensions. attributes_at dimensions.next dimensions.rest
    >>= λ attributes. read_as (record { level = i.level; names = names.value; dimensions = dimensions.value; attributes = attributes.value }) attributes.next attributes.rest)
    (names_again q ns (ds ++ (rs ++ more)) i.names names tt)
    ∙ ap (λ r. r >>= λ dimensions. attributes_at dimensions.next dimensions.rest
    >>= λ attributes. read_as (record { level = i.level; names = i.names; dimensions = dimensions.value; attributes = attributes.value }) attributes.next attributes.rest)
    (dimensions_before (q + length ns) ds (rs ++ more) i.dimensions dims (attributes_end i.dimensions rs more i.attributes attributes stops.1))
    ∙ ap (λ r. r >>= λ attributes. read_as (record { level = i.level; names = i.names; dimensions = i.dimensions; attributes = attributes.value }) attributes.next attributes.rest)
    (attributes_before (q + length ns + length ds) rs more i.attributes attributes (stops.0, last_of i.dimensions i.attributes more stops.1))
    ∙ placed i (q + length ns + length ds + length rs) (p + length ts) more place

item_some : (p : ℕ) (ts : Tokens) (i : tree.Item) → SpellsItem p ts i → 0 < length ts
item_some p ts i (ls, ns, ds, rs, shape, level, names, dims, attributes) =
    let some : 0 < length ns = ⊎_elim (λ f. omega (arith, ap length f.2)) (λ f. omega (arith, ap length f.1)) (names_first (p + length ls) ns i.names names) in
    omega (arith, ap length shape, length-append ls (ns ++ (ds ++ rs)), length-append ns (ds ++ rs))

-- a comma ends any item
any_item : (i : tree.Item) (more : Tokens) → with_attribute more ≡ None → NoOpen more → ItemEnds i more
any_item i more word stops = (word, any_attributes i.dimensions i.attributes more stops)

pub items_before : ReadBefore items_at SpellsItems ItemsEnd
items_before p ts more items spelled stops =
    listed_before Commas item_at SpellsItem ItemEnds item_before (λ q us zs x s. (comma_goes (us ++ zs), λ y. any_item y (Sign Comma ∷ (us ++ zs)) (no_attribute_comma (us ++ zs)) (no_open_comma (us ++ zs)))) item_some items
    (length (ts ++ more) + 1) p ts more spelled stops (omega arith)

-- before what neither continues an item nor is a comma
pub items_again : ReadAgain items_at SpellsItems EndsItems
items_again p ts more items spelled stops = items_before p ts more items spelled (stops.0, any_last ItemEnds items more (λ i. any_item i more stops.1 stops.2))

semicolon_ends : (zs : Tokens) → EndsItems (Sign Semicolon ∷ zs)
unfolding rest_after attribute_first
semicolon_ends zs = (refl, refl, refl)

pub semicolon_taken : (p : ℕ) (zs : Tokens) → taken is_semicolon SemicolonExpected p (Sign Semicolon ∷ zs) ≡ Ok zs
unfolding taken rest_after
semicolon_taken p zs = refl

pub declaration_again : ReadAgain declaration_at SpellsDeclaration Anyhow
unfolding declaration_at
declaration_again p ts more items (us, shape, spelled) stops =
    ap (declaration_at p) (ap (λ vs. vs ++ more) shape ∙ append_assoc us (Sign Semicolon ∷ []) more)
    ∙ ap (λ r. r >>= λ x. taken is_semicolon SemicolonExpected x.next x.rest >>= λ rest. read_as x.value (x.next + 1) rest) (items_again p us (Sign Semicolon ∷ more) items spelled (semicolon_ends more))
    ∙ ap (λ r. r >>= λ rest. read_as items (p + length us + 1) rest) (semicolon_taken (p + length us) more)
    ∙ placed items (p + length us + 1) (p + length ts) more (omega (arith, ap length shape, length-append us (Sign Semicolon ∷ [])))

pub at_most_one : (p : ℕ) (ts : Tokens) (items others : List tree.Item) → SpellsDeclaration p ts items → SpellsDeclaration p ts others → items ≡ others
at_most_one p ts items others h g =
    let e = sym (declaration_again p ts [] items h tt) ∙ declaration_again p ts [] others g tt in
    ap (λ (x : Front (List tree.Item)). x.value) (same_ok e)
