-- Items that are read end where they are left off: the tokens that are left do not continue them, and no longer front spells any.
use Rattle.std.proofs.Common.{◌≡◌, ◌≤◌, ◌+◌, ℕ, suc, zero, Bool, true, false, cond, List, [], ◌∷◌, ◌++◌, Option, Some, None, Result, Ok, length, refl, ap, ◌∙◌, sym, subst}
use Rattle.std.proofs.lemmas.List.{append-nil}
use Rattle.pli_base.specs.laws.FrontLaws.{no_longer}
use Rattle.pli_base.specs.Words.{Tokens, is_open, is_comma}
use Rattle.pli_base.specs.Reading.{Front}
use Rattle.pli_base.specs.declared.token.Fault.{Fault}
use Rattle.pli_base.specs.declared.token.TokenText.{TokenText}
use Rattle.pli_base.specs.declared.token.TokenText.TheVariants.{Word}
use Rattle.pli_base.specs.Declarations as tree
use Rattle.pli_base.specs.declared.declaration.WrittenBounds.{WrittenBounds}
use Rattle.pli_parse_declaration.specs.DeclarationWords.{attribute_word, with_rest, attribute_first, if_first, with_attribute}
use Rattle.pli_base.specs.Words.{rest_after}
use Rattle.pli_parse_declaration.specs.DeclarationReading.{listed_after, listed_at, list_at, bounds_at, dimensions_at, extent_at, length_at, scaled_at, precision_at, name_at, area_at, locator_at, values_at, simple_of, parameters_at, entry_from, entry_at, returned_at, attribute_from, attribute_at, attributes_from, attributes_at, level_at, names_at, item_at, items_at}
use Rattle.pli_base.specs.Reading.{read_as, mapped, enclosed, if_open, or_none}
use Rattle.pli_parse_declaration.specs.declared.list.Separator.{Separator}
use Rattle.pli_parse_declaration.specs.declared.list.Separator.TheVariants.{Commas, Periods, Nothing}
use Rattle.pli_parse_declaration.specs.Separators.{separated, after_separator}
use Rattle.pli_parse_declaration.specs.DeclarationGrammar.{SpellsList, SpellsOptional, SpellsBounds, SpellsItems, EndsItems}
use Rattle.pli_parse_declaration.specs.ItemEnds.{OptionEnds, SimpleEnds, AttributeEnds, DimensionsEnd, LastEnds, AttributesEnd, ItemEnds, ItemsEnd}
use Rattle.pli_parse_declaration.specs.declared.word.SimpleWord.{SimpleWord}
use Rattle.pli_parse_declaration.specs.declared.word.SimpleWord.TheVariants as words
use Rattle.pli_parse_declaration.specs.declared.word.AttributeWord.{AttributeWord}
use Rattle.pli_parse_declaration.specs.declared.word.AttributeWord.TheVariants as attribute
use Rattle.pli_parse_declaration.proofs.DeclarationSteps.{mapped_ok}
use Rattle.pli_parse_fault.proofs.StepLemmas.{same_ok, bind_ok}
use Rattle.pli_parse_declaration.proofs.DeclarationRead.{optional_reads, list_reads, bounds_reads}
use Rattle.pli_parse_declaration.proofs.DeclarationItemsRead.{items_reads}
use Rattle.pli_parse_declaration.proofs.DeclarationItemsAgain.{items_before, items_again}

-- what one reads ends where it is left off
abbrev EndsRead : {A : Type 0} → (one : ℕ → Tokens → Result (Front A) Fault) → (Ends : A → Tokens → Type 0) → Type 0
EndsRead {A = A} one Ends = (p : ℕ) (ts : Tokens) (x : Front A) → one p ts ≡ Ok x → Ends x.value x.rest

optional_ends : {A : Type 0} (one : ℕ → Tokens → Result (Front A) Fault) → EndsRead (λ p ts. if_open one p ts (rest_after is_open ts)) OptionEnds
optional_ends {A = A} one p ts y h = by (rest_after is_open ts) refl h
  where
    by : (o : Option Tokens) → rest_after is_open ts ≡ o → if_open one p ts o ≡ Ok y → OptionEnds y.value y.rest
    by None e g = subst (λ (z : Front (Option A)). OptionEnds z.value z.rest) (same_ok g) e
    by (Some us) e g =
        let m = mapped_ok Some (enclosed (one (p + 1) us)) y g in
        subst (λ (z : Front (Option A)). OptionEnds z.value z.rest) m.2 tt

-- made into something else that ends so
made_ends : {A B : Type 0} (f : A → B) (one : ℕ → Tokens → Result (Front A) Fault) (Ends : A → Tokens → Type 0) (So : B → Tokens → Type 0)
    → EndsRead one Ends → ((x : A) (ts : Tokens) → Ends x ts → So (f x) ts) → EndsRead (λ p ts. mapped f (one p ts)) So
made_ends {A = A} {B = B} f one Ends So ends so p ts y h =
    let m = mapped_ok f (one p ts) y h in
    subst (λ (z : Front B). So z.value z.rest) m.2 (so m.0.value m.0.rest (ends p ts m.0 m.1))

-- a list that is read has a last value, which ends, and does not go on
abbrev ListEnded : {A : Type 0} → Separator → (Ends : A → Tokens → Type 0) → Front (List A) → Type 0
ListEnded {A = A} s Ends y = (x : A) × (xs : List A) × (y.value ≡ x ∷ xs) × (separated s y.rest ≡ None) × LastEnds Ends y.value y.rest

module _ {A : Type 0} (s : Separator) (one : ℕ → Tokens → Result (Front A) Fault) (Ends : A → Tokens → Type 0) (ends : EndsRead one Ends) where
  after_ends : (more : ℕ → Tokens → Result (Front (List A)) Fault) → ((p : ℕ) (ts : Tokens) (y : Front (List A)) → more p ts ≡ Ok y → ListEnded s Ends y) → (x : Front A) → Ends x.value x.rest
      → (o : Option Tokens) → separated s x.rest ≡ o → (y : Front (List A)) → listed_after s more x o ≡ Ok y → ListEnded s Ends y
  after_ends more more_ends x end None e y h = subst (ListEnded s Ends) (same_ok h) (x.value, [], refl, e, end)
  after_ends more more_ends x end (Some us) e y h =
      let g = bind_ok (more (after_separator s x.next) us) _ y h in
      let r = more_ends (after_separator s x.next) us g.0 g.1 in
      let last : LastEnds Ends (x.value ∷ r.0 ∷ r.1) g.0.rest = subst (λ zs. LastEnds Ends zs g.0.rest) r.2 r.4 in
      subst (ListEnded s Ends) (same_ok g.2) (x.value, g.0.value, refl, r.3, subst (λ zs. LastEnds Ends (x.value ∷ zs) g.0.rest) (sym r.2) last)

  listed_ends : (bound p : ℕ) (ts : Tokens) (y : Front (List A)) → listed_at s one bound p ts ≡ Ok y → ListEnded s Ends y
  unfolding listed_at
  listed_ends zero p ts y h = cc
  listed_ends (suc bound) p ts y h =
      let g = bind_ok (one p ts) _ y h in
      after_ends (listed_at s one bound) (listed_ends bound) g.0 (ends p ts g.0 g.1) (separated s g.0.rest) refl y g.2

dimensions_end : EndsRead dimensions_at DimensionsEnd
unfolding dimensions_at
dimensions_end p ts y h =
    let m = mapped_ok or_none (if_open (list_at Commas bounds_at) p ts (rest_after is_open ts)) y h in
    let f = optional_reads (list_at Commas bounds_at) (SpellsList Commas SpellsBounds) (list_reads Commas bounds_at SpellsBounds bounds_reads) p ts m.0 m.1 in
    subst (λ (z : Front (List WrittenBounds)). DimensionsEnd z.value z.rest) m.2 (by m.0.rest m.0.value f.0 f.3 (optional_ends (list_at Commas bounds_at) p ts m.0 m.1))
  where
    by : (us : Tokens) (o : Option (List WrittenBounds)) (front : Tokens) → SpellsOptional (SpellsList Commas SpellsBounds) front o → OptionEnds o us → DimensionsEnd (or_none o) us
    by us None front spelled end = end
    by us (Some []) front spelled end = absurd spelled.2
    by us (Some (b ∷ bs)) front spelled end = tt

length_ends : EndsRead length_at OptionEnds
unfolding length_at
length_ends = optional_ends extent_at

precision_ends : EndsRead precision_at OptionEnds
unfolding precision_at
precision_ends = optional_ends scaled_at

area_ends : EndsRead area_at OptionEnds
unfolding area_at
area_ends = optional_ends name_at

locator_ends : EndsRead locator_at OptionEnds
unfolding locator_at
locator_ends = optional_ends (list_at Periods name_at)

bare_ends : (a : tree.SimpleAttribute) → ((ts : Tokens) → SimpleEnds a ts) → EndsRead (read_as a) SimpleEnds
bare_ends a ends p ts y h = subst (λ (z : Front tree.SimpleAttribute). SimpleEnds z.value z.rest) (same_ok h) (ends ts)

simple_ends : (w : SimpleWord) → EndsRead (simple_of w) SimpleEnds
unfolding simple_of
simple_ends words.Fixed = made_ends tree.Fixed precision_at OptionEnds SimpleEnds precision_ends (λ x ts e. e)
simple_ends words.Binary = made_ends tree.Binary precision_at OptionEnds SimpleEnds precision_ends (λ x ts e. e)
simple_ends words.Character = made_ends tree.Character length_at OptionEnds SimpleEnds length_ends (λ x ts e. e)
simple_ends words.Bit = made_ends tree.Bit length_at OptionEnds SimpleEnds length_ends (λ x ts e. e)
simple_ends words.Area = made_ends tree.Area length_at OptionEnds SimpleEnds length_ends (λ x ts e. e)
simple_ends words.Offset = made_ends tree.Offset area_at OptionEnds SimpleEnds area_ends (λ x ts e. e)
simple_ends words.Based = made_ends tree.Based locator_at OptionEnds SimpleEnds locator_ends (λ x ts e. e)
simple_ends words.Initial = made_ends tree.Initial values_at (λ x ts. Unit {0}) SimpleEnds (λ p ts x h. tt) (λ x ts e. tt)
simple_ends words.Varying = bare_ends tree.Varying (λ ts. tt)
simple_ends words.Pointer = bare_ends tree.Pointer (λ ts. tt)
simple_ends words.Controlled = bare_ends tree.Controlled (λ ts. tt)
simple_ends words.Static = bare_ends tree.Static (λ ts. tt)
simple_ends words.Automatic = bare_ends tree.Automatic (λ ts. tt)
simple_ends words.External = bare_ends tree.External (λ ts. tt)
simple_ends words.Internal = bare_ends tree.Internal (λ ts. tt)
simple_ends words.Builtin = bare_ends tree.Builtin (λ ts. tt)

entry_ends : EndsRead entry_at OptionEnds
unfolding entry_at
entry_ends p ts y h = by (rest_after is_open ts) refl h
  where
    by : (o : Option Tokens) → rest_after is_open ts ≡ o → entry_from p ts o ≡ Ok y → OptionEnds y.value y.rest
    by None e g = subst (λ (z : Front (Option (List tree.ParameterDescription))). OptionEnds z.value z.rest) (same_ok g) e
    by (Some us) e g =
        let m = mapped_ok Some (parameters_at (p + 1) us) y g in
        subst (λ (z : Front (Option (List tree.ParameterDescription))). OptionEnds z.value z.rest) m.2 tt

attribute_ends : EndsRead attribute_at AttributeEnds
unfolding attribute_at
attribute_ends p ts y h = by (attribute_first ts) h
  where
    by : (o : Option (AttributeWord × Tokens)) → attribute_from p ts o ≡ Ok y → AttributeEnds y.value y.rest
    by None g = cc
    by (Some (attribute.Simple w, us)) g = made_ends tree.Simple (simple_of w) SimpleEnds AttributeEnds (simple_ends w) (λ x vs e. e) (p + 1) us y g
    by (Some (attribute.Entry, us)) g = made_ends tree.Entry entry_at OptionEnds AttributeEnds entry_ends (λ x vs e. e) (p + 1) us y g
    by (Some (attribute.Returns, us)) g = made_ends tree.Returns returned_at (λ x vs. Unit {0}) AttributeEnds (λ q vs x e. tt) (λ x vs e. tt) (p + 1) us y g

-- attributes after dimensions
attributes_end : (dims : List WrittenBounds) (p : ℕ) (ts : Tokens) (y : Front (List tree.Attribute)) → DimensionsEnd dims ts → attributes_at p ts ≡ Ok y → (with_attribute y.rest ≡ None) × AttributesEnd dims y.value y.rest
unfolding attributes_at
attributes_end dims p ts y before h = by (with_attribute ts) refl h
  where
    some : (x : tree.Attribute) (xs : List tree.Attribute) → y.value ≡ x ∷ xs → LastEnds AttributeEnds y.value y.rest → AttributesEnd dims y.value y.rest
    some x xs e last = subst (λ zs. AttributesEnd dims zs y.rest) (sym e) (subst (λ zs. LastEnds AttributeEnds zs y.rest) e last)

    by : (o : Option Tokens) → with_attribute ts ≡ o → attributes_from p ts o ≡ Ok y → (with_attribute y.rest ≡ None) × AttributesEnd dims y.value y.rest
    by None e g = subst (λ (z : Front (List tree.Attribute)). (with_attribute z.rest ≡ None) × AttributesEnd dims z.value z.rest) (same_ok g) (e, before)
    by (Some us) e g =
        let r = listed_ends Nothing attribute_at AttributeEnds attribute_ends (length ts + 1) p ts y g in
        (r.3, some r.0 r.1 r.2 r.4)

item_ends : EndsRead item_at ItemEnds
unfolding item_at
item_ends p ts y h =
    let n = bind_ok (names_at (level_at p ts).next (level_at p ts).rest) _ y h in
    let d = bind_ok (dimensions_at n.0.next n.0.rest) _ y n.2 in
    let a = bind_ok (attributes_at d.0.next d.0.rest) _ y d.2 in
    subst (λ (z : Front tree.Item). ItemEnds z.value z.rest) (same_ok a.2) (attributes_end d.0.value d.0.next d.0.rest a.0 (dimensions_end n.0.next n.0.rest d.0 d.1) a.1)

pub items_end : (p : ℕ) (ts : Tokens) (x : Front (List tree.Item)) → items_at p ts ≡ Ok x → ItemsEnd x.value x.rest
items_end p ts x h = let r = listed_ends Commas item_at ItemEnds item_ends (length ts + 1) p ts x h in (r.3, r.4)

-- the first token alone decides
first_decides : (fits : TokenText → Bool) (us more : Tokens) → rest_after fits (us ++ more) ≡ None → rest_after fits us ≡ None
unfolding rest_after
first_decides fits [] more h = refl
first_decides fits (t ∷ us) more h = by (fits t) h
  where
    by : (b : Bool) → cond b (Some (us ++ more)) None ≡ None → cond b (Some us) None ≡ None
    by true g = cc
    by false g = refl

no_keyword : (us more : Tokens) → with_attribute (us ++ more) ≡ None → with_attribute us ≡ None
unfolding attribute_first
no_keyword [] more h = refl
no_keyword (Word n ∷ us) more h = by (attribute_word n) h
  where
    by : (o : Option AttributeWord) → if_first (Word n ∷ (us ++ more)) (with_rest (us ++ more) o) ≡ None → if_first (Word n ∷ us) (with_rest us o) ≡ None
    by None g = refl
    by (Some w) g = cc
no_keyword (t ∷ us) more h = refl

option_front : {A : Type 0} (x : Option A) (us more : Tokens) → OptionEnds x (us ++ more) → OptionEnds x us
option_front None us more h = first_decides is_open us more h
option_front (Some x) us more h = tt

simple_front : (a : tree.SimpleAttribute) (us more : Tokens) → SimpleEnds a (us ++ more) → SimpleEnds a us
simple_front (tree.Fixed n) us more h = option_front n us more h
simple_front (tree.Binary n) us more h = option_front n us more h
simple_front (tree.Character n) us more h = option_front n us more h
simple_front (tree.Bit n) us more h = option_front n us more h
simple_front (tree.Area n) us more h = option_front n us more h
simple_front (tree.Offset n) us more h = option_front n us more h
simple_front (tree.Based n) us more h = option_front n us more h
simple_front a us more h = tt

attribute_front : (a : tree.Attribute) (us more : Tokens) → AttributeEnds a (us ++ more) → AttributeEnds a us
attribute_front (tree.Simple a) us more h = simple_front a us more h
attribute_front (tree.Entry parameters) us more h = option_front parameters us more h
attribute_front (tree.Returns attributes) us more h = tt

last_front : {A : Type 0} (Ends : A → Tokens → Type 0) (xs : List A) (us more : Tokens) → ((x : A) → Ends x (us ++ more) → Ends x us) → LastEnds Ends xs (us ++ more) → LastEnds Ends xs us
last_front Ends [] us more front h = tt
last_front Ends (x ∷ []) us more front h = front x h
last_front Ends (x ∷ y ∷ xs) us more front h = last_front Ends (y ∷ xs) us more front h

dimensions_front : (bs : List WrittenBounds) (us more : Tokens) → DimensionsEnd bs (us ++ more) → DimensionsEnd bs us
dimensions_front [] us more h = first_decides is_open us more h
dimensions_front (b ∷ bs) us more h = tt

attributes_front : (dims : List WrittenBounds) (attributes : List tree.Attribute) (us more : Tokens) → AttributesEnd dims attributes (us ++ more) → AttributesEnd dims attributes us
attributes_front dims [] us more h = dimensions_front dims us more h
attributes_front dims (a ∷ rest) us more h = last_front AttributeEnds (a ∷ rest) us more (λ b g. attribute_front b us more g) h

items_front : (items : List tree.Item) (us more : Tokens) → ItemsEnd items (us ++ more) → ItemsEnd items us
items_front items us more h =
    (first_decides is_comma us more h.0, last_front ItemEnds items us more (λ i g. (no_keyword us more g.0, attributes_front i.dimensions i.attributes us more g.1)) h.1)

ends_alone : EndsItems []
unfolding rest_after attribute_first
ends_alone = (refl, refl, refl)

pub items_longest : (p : ℕ) (ts : Tokens) (x : Front (List tree.Item)) → items_at p ts ≡ Ok x
    → (longer more : Tokens) (items : List tree.Item) → ts ≡ longer ++ more → SpellsItems p longer items → p + length longer ≤ x.next
items_longest p ts x h longer more items whole spelled =
    let f = items_reads p ts x h in
    no_longer x.next p ts f.0 x.rest longer more f.1 f.2 whole
    (λ us shape rest.
    let stop : ItemsEnd x.value us = items_front x.value us more (subst (ItemsEnd x.value) rest (items_end p ts x h)) in
    let first = items_before p f.0 us x.value f.3 stop in
    let second = items_again p longer [] items spelled ends_alone in
    ap (λ (y : Front (List tree.Item)). y.rest) (same_ok (sym first ∙ ap (items_at p) (sym shape ∙ sym (append-nil longer)) ∙ second)))
