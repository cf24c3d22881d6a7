-- What is counted up to a statement is what the type checker counts in those before it.
use Rattle.std.specs.Prelude.{◌≡◌, ℕ, suc, ◌+◌, Bool, true, false, Some, None, refl, List, [], ◌∷◌, filter, length, cond}
use Rattle.std.specs.Prelude.{if◌then◌else◌}
use Rattle.std.proofs.Common.{ap, ◌∙◌, arith}
use Rattle.pli_base.specs.Statements as tree
use Rattle.pli_base.specs.Statements.{Statement, Numbered, Body, Assign, Declare, Statements, Allocation, Before, Ended, Alternative}
use Rattle.pli_declare.specs.BlockCounts.{blocks_in, blocks_of, blocks_among, blocks_in_else}
use Rattle.pli_declare.specs.ResolvedUnits.{ResolvedUnit, meaning_at}
use Rattle.pli_type_rules.specs.StatementTyping.{inside}
use Rattle.pli_type_rules.specs.Temporaries.{Next, limits_kept, based_among, temporaries_in, temporaries_of, temporaries_among, temporaries_in_else}
use Rattle.pli_type_unit.specs.Contexts.{after, after_body, after_else, after_all, taking}
use Rattle.pli_type_unit.specs.UnitNames.{names_based}

-- so many blocks and temporaries further
abbrev pub further : (blocks temporaries : ℕ) → Next → Next
further blocks temporaries x = record { block = x.block + blocks; temporary = x.temporary + temporaries }

abbrev next : (block temporary : ℕ) → Next
next block temporary = record { block = block; temporary = temporary }

same_next : (a b c d : ℕ) → a ≡ c → b ≡ d → next a b ≡ next c d
same_next a b c d e f = ap (λ n. next n b) e ∙ ap (next c) f

no_further : (x : Next) → x ≡ further 0 0 x
no_further x = same_next x.block x.temporary (x.block + 0) (x.temporary + 0) (omega arith) (omega arith)

twice : (x : Next) (a b c d : ℕ) → further c d (further a b x) ≡ further (a + c) (b + d) x
twice x a b c d = same_next (x.block + a + c) (x.temporary + b + d) (x.block + (a + c)) (x.temporary + (b + d)) (omega arith) (omega arith)

-- a block and those in it, whose temporaries are its own
around_block : (x y : Next) (blocks temporaries : ℕ) → y ≡ further blocks temporaries (inside x) → next y.block x.temporary ≡ further (suc blocks) 0 x
around_block x y blocks temporaries e =
    let is : y.block ≡ suc x.block + blocks = ap (λ (y : Next). y.block) e in
    same_next y.block x.temporary (x.block + suc blocks) (x.temporary + 0) (omega (arith, is)) (omega arith)

module _ (r : ResolvedUnit) where
  abbrev pub is_based_at : (at : ℕ) → Bool
  is_based_at at = names_based r (meaning_at r at)

  one_more : (b : Bool) (a : Allocation) (rest : List Allocation) (n : ℕ) → length rest ≡ n → length (cond b (a ∷ rest) rest) ≡ (if b then 1 else 0) + n
  one_more true a rest n e = omega (arith, e)
  one_more false a rest n e = omega (arith, e)

  based_alike : (items : List Allocation) → length (filter (λ (a : Allocation). is_based_at a.name.at) items) ≡ based_among is_based_at items
  based_alike [] = refl
  based_alike (a ∷ others) =
      one_more (is_based_at a.name.at) a (filter (λ (a : Allocation). is_based_at a.name.at) others) (based_among is_based_at others) (based_alike others)

  mutual
    pub after_alike : (x : Next) (s : Statement) → after r x s ≡ further (blocks_in s) (temporaries_in is_based_at s) x
    after_alike x (Numbered number label at body) = after_body_alike x body

    after_body_alike : (x : Next) (body : Body) → after_body r x body ≡ further (blocks_of body) (temporaries_of is_based_at body) x
    after_body_alike x (tree.Procedure heading list end) =
        around_block x (after_all r (inside x) list) (blocks_among list) (temporaries_among is_based_at list) (after_all_alike (inside x) list)
    after_body_alike x (tree.Begin list end) =
        around_block x (after_all r (inside x) list) (blocks_among list) (temporaries_among is_based_at list) (after_all_alike (inside x) list)
    after_body_alike x (tree.On condition unit) =
        around_block x (after r (inside x) unit) (blocks_in unit) (temporaries_in is_based_at unit) (after_alike (inside x) unit)
    after_body_alike x (tree.Do None list end) = after_all_alike x list ∙ same_next _ _ _ _ refl (omega arith)
    after_body_alike x (tree.Do (Some (tree.While tested)) list end) = after_all_alike x list ∙ same_next _ _ _ _ refl (omega arith)
    after_body_alike x (tree.Do (Some (tree.Iterate variable equals first range tested)) list end) =
        after_all_alike (taking (suc (limits_kept range)) x) list ∙ same_next _ _ _ _ refl (omega arith)
    after_body_alike x (tree.If tested consequence alternative) =
        after_else_alike (after r x consequence) alternative
        ∙ ap (further (blocks_in_else alternative) (temporaries_in_else is_based_at alternative)) (after_alike x consequence)
        ∙ twice x (blocks_in consequence) (temporaries_in is_based_at consequence) (blocks_in_else alternative) (temporaries_in_else is_based_at alternative)
    after_body_alike x (tree.Allocate items) = same_next _ _ _ _ (omega arith) (ap (λ n. x.temporary + n) (based_alike items))
    after_body_alike x tree.Null = no_further x
    after_body_alike x (Assign target equals value) = no_further x
    after_body_alike x (Declare declared) = no_further x
    after_body_alike x tree.Stop = no_further x
    after_body_alike x (tree.Free list) = no_further x
    after_body_alike x (tree.Call name arguments) = no_further x
    after_body_alike x (tree.Goto label) = no_further x
    after_body_alike x (tree.Return value) = no_further x
    after_body_alike x (tree.Put skip items) = no_further x
    after_body_alike x (tree.Revert condition) = no_further x
    after_body_alike x (tree.Signal condition) = no_further x

    after_else_alike : (x : Next) (alternative : Alternative) → after_else r x alternative ≡ further (blocks_in_else alternative) (temporaries_in_else is_based_at alternative) x
    after_else_alike x tree.NoElse = no_further x
    after_else_alike x (tree.Else statement) = after_alike x statement

    pub after_all_alike : (x : Next) (list : Statements) → after_all r x list ≡ further (blocks_among list) (temporaries_among is_based_at list) x
    after_all_alike x Ended = no_further x
    after_all_alike x (Before first more) =
        after_all_alike (after r x first) more
        ∙ ap (further (blocks_among more) (temporaries_among is_based_at more)) (after_alike x first)
        ∙ twice x (blocks_in first) (temporaries_in is_based_at first) (blocks_among more) (temporaries_among is_based_at more)

  -- the temporaries of a block
  pub own_alike : (x : Next) (list : Statements) → (after_all r (inside x) list).temporary ≡ temporaries_among is_based_at list
  own_alike x list =
      let is : (after_all r (inside x) list).temporary ≡ 0 + temporaries_among is_based_at list = ap (λ (y : Next). y.temporary) (after_all_alike (inside x) list) in
      omega (arith, is)
