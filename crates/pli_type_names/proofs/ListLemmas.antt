-- Lists with numbers, and lists that are made item by item.
use Rattle.std.proofs.Common.{◌≡◌, ℕ, zero, suc, ◌+◌, ◌<◌, Some, None, List, [], ◌∷◌, ◌++◌, take, drop, length, map, option_map, slice_get, get_or}
use Rattle.std.proofs.Common.{refl, ap, sym, ◌∙◌, arith}
use Rattle.std.specs.Option.{unwrap_or}
use Rattle.std.proofs.lemmas.Option.{none-some, same_Some}
use Rattle.std.proofs.lemmas.List.{append_assoc, at_drop_more, length-append, map-append}
use Rattle.pli_declare.specs.Symbols.{Symbol}
use Rattle.pli_declare.specs.declared.symbol.Symbol as program
use Rattle.pli_declare.specs.views.SymbolView.{symbol_view}
use Rattle.pli_type_names.proofs.StrideLemmas.{one_more}
use Rattle.pli_type_names.specs.Numbered.{each_from}

-- what the item of a number gives
pub each_get : {A B : Type 0} (f : ℕ → B → A) (xs : List B) (from i number : ℕ) (d : A) → from + i ≡ number
    → get_or (each_from f from xs) i d ≡ unwrap_or (option_map (f number) (slice_get xs i)) d
each_get f [] from i number d e = refl
each_get f (x ∷ xs) from zero number d e =
    let same : from ≡ number = omega (arith, e) in
    ap (λ n. f n x) same
each_get f (x ∷ xs) from (suc i) number d e = each_get f xs (from + 1) i number d (omega (arith, e))

pub each_at : {A B : Type 0} (f : ℕ → B → A) (xs : List B) (from i number : ℕ) → from + i ≡ number
    → slice_get (each_from f from xs) i ≡ option_map (f number) (slice_get xs i)
each_at f [] from i number e = refl
each_at f (x ∷ xs) from zero number e =
    let same : from ≡ number = omega (arith, e) in
    ap (λ n. Some (f n x)) same
each_at f (x ∷ xs) from (suc i) number e = each_at f xs (from + 1) i number (omega (arith, e))

-- a list of which nothing stands at a number is what stands before it
pub take_whole : {A : Type 0} (xs : List A) (n : ℕ) → slice_get xs n ≡ None → take n xs ≡ xs
take_whole [] zero e = refl
take_whole [] (suc n) e = refl
take_whole (x ∷ xs) zero e = absurd (cc)
take_whole (x ∷ xs) (suc n) e = ap (λ ys. x ∷ ys) (take_whole xs n e)

take_next : {A : Type 0} (xs : List A) (n : ℕ) (x : A) → slice_get xs n ≡ Some x → take (suc n) xs ≡ take n xs ++ x ∷ []
take_next [] n x e = absurd (none-some x e)
take_next (y ∷ xs) zero x e = ap (λ z. z ∷ []) (same_Some y x e)
take_next (y ∷ xs) (suc n) x e = ap (λ ys. y ∷ ys) (take_next xs n x e)

pub take_one_more : {A : Type 0} (xs : List A) (n : ℕ) (x : A) → slice_get xs n ≡ Some x → take (n + 1) xs ≡ take n xs ++ x ∷ []
take_one_more xs n x e =
    let next : n + 1 ≡ suc n = omega arith in
    ap (λ k. take k xs) next ∙ take_next xs n x e

-- one item more
made_more : {A B : Type 0} (view : B → A) (all : List A) (n : ℕ) (made : List B) (x : B) → map view made ≡ take n all
    → slice_get all n ≡ Some (view x) → map view (made ++ x ∷ []) ≡ take (n + 1) all
made_more view all n made x e found =
    map-append view made (x ∷ []) ∙ ap (λ xs. xs ++ view x ∷ []) e ∙ sym (take_one_more all n (view x) found)

-- the same where those that are made are counted
pub one_made : {A B : Type 0} (view : B → A) (all : List A) (n : ℕ) (made : List B) (x : B) → n ≡ length made → map view made ≡ take (length made) all
    → slice_get all n ≡ Some (view x) → map view (made ++ x ∷ []) ≡ take (length (made ++ x ∷ [])) all
one_made view all n made x is e found =
    made_more view all (length made) made x e (ap (slice_get all) (sym is) ∙ found) ∙ ap (λ k. take k all) (sym (length-append made (x ∷ [])))

-- what one symbol more gives stands after what those before it give
pub numbered_more : {A B : Type 0} (view : B → A) (f : ℕ → Symbol → A) (ss : List program.Symbol) (n : ℕ) (d : program.Symbol) (made : List B)
    (x : B) (all : List A) → n < length ss → view x ≡ f n (symbol_view (get_or ss n d))
    → map view made ++ each_from f n (map symbol_view (drop n ss)) ≡ all
    → map view (made ++ x ∷ []) ++ each_from f (n + 1) (map symbol_view (drop (n + 1) ss)) ≡ all
numbered_more view f ss n d made x all h is e =
    let rest = each_from f (n + 1) (map symbol_view (drop (n + 1) ss)) in
    let step : each_from f n (map symbol_view (drop n ss)) ≡ f n (symbol_view (get_or ss n d)) ∷ rest =
    at_drop_more (λ xs. each_from f n (map symbol_view xs)) ss n d h in
    one_more view made x rest
    ∙ ap (λ y. map view made ++ (y ∷ rest)) is
    ∙ ap (λ ys. map view made ++ ys) (sym step)
    ∙ e

-- what the symbol of a number gives
pub each_counted : {A B : Type 0} (f : ℕ → B → A) (from : ℕ) (xs : List B) → length (each_from f from xs) ≡ length xs
each_counted f from [] = refl
each_counted f from (x ∷ xs) = omega (arith, each_counted f (from + 1) xs)

there_from : (f : ℕ → Symbol → ℕ) (ss : List program.Symbol) (from n number d : ℕ) (s : program.Symbol) → from + n ≡ number → n < length ss
    → get_or (each_from f from (map symbol_view ss)) n d ≡ f number (symbol_view (get_or ss n s))
there_from f [] from n number d s e h = absurd (omega (arith, h))
there_from f (x ∷ ss) from zero number d s e h =
    let same : from ≡ number = omega (arith, e) in
    ap (λ k. f k (symbol_view x)) same
there_from f (x ∷ ss) from (suc n) number d s e h = there_from f ss (from + 1) n number d s (omega (arith, e)) (omega (arith, h))

pub number_there : (f : ℕ → Symbol → ℕ) (ss : List program.Symbol) (n d : ℕ) (s : program.Symbol) → n < length ss
    → get_or (each_from f 0 (map symbol_view ss)) n d ≡ f n (symbol_view (get_or ss n s))
number_there f ss n d s h = there_from f ss 0 n n d s (omega arith) h

-- the same of what stands for itself
pub number_more : (f : ℕ → Symbol → ℕ) (ss : List program.Symbol) (n : ℕ) (d : program.Symbol) (made : List ℕ) (x : ℕ) (all : List ℕ)
    → n < length ss → x ≡ f n (symbol_view (get_or ss n d)) → made ++ each_from f n (map symbol_view (drop n ss)) ≡ all
    → (made ++ x ∷ []) ++ each_from f (n + 1) (map symbol_view (drop (n + 1) ss)) ≡ all
number_more f ss n d made x all h is e =
    let rest = each_from f (n + 1) (map symbol_view (drop (n + 1) ss)) in
    append_assoc made (x ∷ []) rest
    ∙ ap (λ y. made ++ (y ∷ rest)) is
    ∙ ap (λ ys. made ++ ys) (sym (at_drop_more (λ xs. each_from f n (map symbol_view xs)) ss n d h))
    ∙ e

pub none_mapped : {A B : Type 0} (f : A → B) (xs : List A) → length xs ≡ 0 → map f xs ≡ []
none_mapped f [] e = refl
none_mapped f (x ∷ xs) e = absurd (omega (arith, e))
