-- The words of the parts of statements: each is spelled in one way, and stands first where that name does.
use Rattle.std.proofs.Common.{◌≡◌, Bool, true, false, cond, [], ◌∷◌, Option, Some, None, codes, refl, ap, ◌∙◌}
use Rattle.pli_base.specs.Name.{Name}
use Rattle.pli_base.specs.laws.NameLaws.{equal_from_pointwise}
use Rattle.pli_base.specs.Words.{Tokens, same_name}
use Rattle.pli_base.specs.declared.token.TokenText.TheVariants.{Word}
use Rattle.pli_parse_fault.proofs.StepLemmas.{some_same}
use Rattle.pli_parse_statement.specs.StatementReading.{paired, known_first, RangeWord, ToWord, ByWord, RepeatWord, range_word, range_first}
use Rattle.pli_parse_statement.specs.StatementReading.{PlaceWord, InWord, SetWord, place_word, place_first, PutWord, SkipWord, ListWord, put_word, put_first}
use Rattle.pli_parse_statement.specs.StatementReading.{OptionWord, OptionsWord, ReturnsWord, RecursiveWord, option_word, option_first}

-- a name that is one of two or three words is spelled as that word
one_of_two : {A : Type 0} (spelling : A → Name) (n : Name) (x y w : A) → cond (same_name n (spelling x)) (Some x) (cond (same_name n (spelling y)) (Some y) None) ≡ Some w → n ≡ spelling w
one_of_two spelling n x y w h = by (same_name n (spelling x)) (same_name n (spelling y)) refl refl h
  where
    by : (b c : Bool) → same_name n (spelling x) ≡ b → same_name n (spelling y) ≡ c → cond b (Some x) (cond c (Some y) None) ≡ Some w → n ≡ spelling w
    by true c e f h = equal_from_pointwise n (spelling x) e ∙ ap spelling (some_same h)
    by false true e f h = equal_from_pointwise n (spelling y) f ∙ ap spelling (some_same h)
    by false false e f h = cc

one_of_three : {A : Type 0} (spelling : A → Name) (n : Name) (x y z w : A)
    → cond (same_name n (spelling x)) (Some x) (cond (same_name n (spelling y)) (Some y) (cond (same_name n (spelling z)) (Some z) None)) ≡ Some w → n ≡ spelling w
one_of_three spelling n x y z w h = by (same_name n (spelling x)) refl h
  where
    by : (b : Bool) → same_name n (spelling x) ≡ b → cond b (Some x) (cond (same_name n (spelling y)) (Some y) (cond (same_name n (spelling z)) (Some z) None)) ≡ Some w → n ≡ spelling w
    by true e h = equal_from_pointwise n (spelling x) e ∙ ap spelling (some_same h)
    by false e h = one_of_two spelling n y z w h

paired_is : {A : Type 0} (o : Option A) (ts us : Tokens) (w : A) → paired ts o ≡ Some (w, us) → (o ≡ Some w) × (ts ≡ us)
paired_is {A = A} (Some v) ts us w h =
    let pair : ◌≡◌ {A = A × Tokens} (v, ts) (w, us) = some_same h in
    (ap (λ (x : A × Tokens). Some x.0) pair, ap (λ (x : A × Tokens). x.1) pair)
paired_is None ts us w h = cc

-- a known word in front
known_begins : {A : Type 0} (known : Name → Option A) (spelling : A → Name) → ((n : Name) (w : A) → known n ≡ Some w → n ≡ spelling w)
    → (ts us : Tokens) (w : A) → known_first known ts ≡ Some (w, us) → ts ≡ Word (spelling w) ∷ us
known_begins known spelling is [] us w h = cc
known_begins known spelling is (Word n ∷ ts) us w h =
    let e = paired_is (known n) ts us w h in
    ap (λ m. Word m ∷ ts) (is n w e.0) ∙ ap (λ vs. Word (spelling w) ∷ vs) e.1
known_begins known spelling is (t ∷ ts) us w h = cc

-- ---- how the words are spelled: of the range of an iteration, the places of an allocation, what PUT does,
-- and options of PROCEDURE

abbrev pub range_spelling : RangeWord → Name
range_spelling ToWord = codes "TO"
range_spelling ByWord = codes "BY"
range_spelling RepeatWord = codes "REPEAT"

abbrev pub place_spelling : PlaceWord → Name
place_spelling InWord = codes "IN"
place_spelling SetWord = codes "SET"

abbrev pub put_spelling : PutWord → Name
put_spelling SkipWord = codes "SKIP"
put_spelling ListWord = codes "LIST"

abbrev pub option_spelling : OptionWord → Name
option_spelling OptionsWord = codes "OPTIONS"
option_spelling ReturnsWord = codes "RETURNS"
option_spelling RecursiveWord = codes "RECURSIVE"

-- ---- the word that is found stands first

pub range_begins : (ts us : Tokens) (w : RangeWord) → range_first ts ≡ Some (w, us) → ts ≡ Word (range_spelling w) ∷ us
unfolding range_first range_word
range_begins = known_begins range_word range_spelling (λ n. one_of_three range_spelling n ToWord ByWord RepeatWord)

pub place_begins : (ts us : Tokens) (w : PlaceWord) → place_first ts ≡ Some (w, us) → ts ≡ Word (place_spelling w) ∷ us
unfolding place_first place_word
place_begins = known_begins place_word place_spelling (λ n. one_of_two place_spelling n InWord SetWord)

pub put_begins : (ts us : Tokens) (w : PutWord) → put_first ts ≡ Some (w, us) → ts ≡ Word (put_spelling w) ∷ us
unfolding put_first put_word
put_begins = known_begins put_word put_spelling (λ n. one_of_two put_spelling n SkipWord ListWord)

pub option_begins : (ts us : Tokens) (w : OptionWord) → option_first ts ≡ Some (w, us) → ts ≡ Word (option_spelling w) ∷ us
unfolding option_first option_word
option_begins = known_begins option_word option_spelling (λ n. one_of_three option_spelling n OptionsWord ReturnsWord RecursiveWord)

-- ---- a word that stands first is found

pub range_there : (w : RangeWord) (us : Tokens) → range_first (Word (range_spelling w) ∷ us) ≡ Some (w, us)
unfolding range_first range_word
range_there ToWord us = refl
range_there w us = refl

pub place_there : (w : PlaceWord) (us : Tokens) → place_first (Word (place_spelling w) ∷ us) ≡ Some (w, us)
unfolding place_first place_word
place_there InWord us = refl
place_there w us = refl

pub put_there : (w : PutWord) (us : Tokens) → put_first (Word (put_spelling w) ∷ us) ≡ Some (w, us)
unfolding put_first put_word
put_there SkipWord us = refl
put_there w us = refl
