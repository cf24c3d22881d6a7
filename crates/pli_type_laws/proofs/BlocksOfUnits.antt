-- The blocks of a resolved unit are those of its tree, as statements know them.
use Rattle.std.specs.Prelude.{◌≡◌, ℕ, suc, ◌+◌, Option, Some, None, List, [], ◌∷◌, ◌++◌, map, refl}
use Rattle.std.proofs.Common.{sym, ap, ◌∙◌}
use Rattle.pli_base.specs.Statements as tree
use Rattle.pli_base.specs.Statements.{Statement, Numbered, Body, Statements, Ended, Before, Alternative, NoElse, Else}
use Rattle.pli_base.specs.Statements.{ExternalProcedure}
use Rattle.pli_declare.specs.ResolvedUnits.{ResolvedBlock, resolved_unit_of}
use Rattle.pli_declare.specs.TreeBlocks as walked
use Rattle.pli_declare.specs.TreeBlocks.{TreeBlock}
use Rattle.pli_declare.specs.declared.block_numbers.ResolvedBlockKind.{ResolvedBlockKind}
use Rattle.pli_declare.specs.declared.block_numbers.ResolvedBlockKind.TheVariants as kinds
use Rattle.pli_resolve.specs.laws.BlockLaws as laws
use Rattle.pli_resolve.proofs.BlocksOfTrees.{blocks_of_the_tree}
use Rattle.pli_type_rules.specs.StatementTyping.{Enclosing, enclosing, labels_of, lasting_alone, only, with_labels}
use Rattle.pli_type_laws.specs.SourceBlocks.{SourceBlock, innermost, begun_in, begun_by, begun_among, begun_after}
use Rattle.pli_type_laws.specs.SourceBlocks.{unit_blocks}
use Rattle.pli_type_laws.specs.UnitBlocks.{in_unit, in_tree, BlocksAreOfTree}

abbrev in_walk : TreeBlock → ResolvedBlockKind × Option ℕ
in_walk b = (b.kind, b.outer)

map_both : {A B : Type 0} (f : A → B) (xs ys : List A) → map f (xs ++ ys) ≡ map f xs ++ map f ys
map_both f [] ys = refl
map_both f (x ∷ xs) ys = ap (λ zs. f x ∷ zs) (map_both f xs ys)

both_walks : (us vs : List TreeBlock) (cs ds : List SourceBlock) → map in_walk us ≡ map in_tree cs → map in_walk vs ≡ map in_tree ds → map in_walk (us ++ vs) ≡ map in_tree (cs ++ ds)
both_walks us vs cs ds e f =
    map_both in_walk us vs ∙ ap (λ zs. zs ++ map in_walk vs) e ∙ ap (λ zs. map in_tree cs ++ zs) f ∙ sym (map_both in_tree cs ds)

innermost_kept : (labels : List ℕ) (around : List Enclosing) (outer : ℕ) → innermost around ≡ Some outer
    → innermost (with_labels labels around) ≡ Some outer
innermost_kept labels [] outer e = e
innermost_kept labels (b ∷ bs) outer e = e

pub innermost_lasting : (around : List Enclosing) → innermost around ≡ innermost (lasting_alone around)
innermost_lasting [] = refl
innermost_lasting (b ∷ bs) = refl

mutual
  walk_in : (around : List Enclosing) (outer x : ℕ) (s : Statement) → innermost around ≡ Some outer
      → map in_walk (walked.statement_blocks outer x s) ≡ map in_tree (begun_in around x s)
  walk_in around outer x (Numbered number label at body) e = walk_by around outer x number body e

  walk_by : (around : List Enclosing) (outer x number : ℕ) (b : Body) → innermost around ≡ Some outer
      → map in_walk (walked.body_blocks outer x number b) ≡ map in_tree (begun_by around x number b)
  walk_by around outer x number (tree.Procedure heading statements end) e =
      ap (λ (o : Option ℕ). (kinds.Procedure, o) ∷ map in_walk (walked.statements_blocks x (suc x) statements)) (sym e)
      ∙ ap (λ bs. (kinds.Procedure, innermost around) ∷ bs)
      (walk_among (enclosing x statements ∷ around) x (suc x) statements refl)
  walk_by around outer x number (tree.Begin statements end) e =
      ap (λ (o : Option ℕ). (kinds.Begin, o) ∷ map in_walk (walked.statements_blocks x (suc x) statements)) (sym e)
      ∙ ap (λ bs. (kinds.Begin, innermost around) ∷ bs)
      (walk_among (enclosing x statements ∷ around) x (suc x) statements refl)
  walk_by around outer x number (tree.Do control statements end) e =
      walk_among (with_labels (labels_of statements) around) outer x statements
      (innermost_kept (labels_of statements) around outer e)
  walk_by around outer x number (tree.If condition consequence alternative) e =
      both_walks (walked.statement_blocks outer x consequence) (walked.alternative_blocks outer (x + walked.blocks_in consequence) alternative)
      (begun_in around x consequence) (begun_after around (x + walked.blocks_in consequence) alternative)
      (walk_in around outer x consequence e) (walk_after around outer (x + walked.blocks_in consequence) alternative e)
  walk_by around outer x number (tree.On condition unit) e =
      ap (λ (o : Option ℕ). (kinds.OnUnit, o) ∷ map in_walk (walked.statement_blocks x (suc x) unit)) (sym e ∙ innermost_lasting around)
      ∙ ap (λ bs. (kinds.OnUnit, innermost (lasting_alone around)) ∷ bs)
      (walk_in (enclosing x (only unit) ∷ lasting_alone around) x (suc x) unit refl)
  walk_by around outer x number body e = refl

  walk_among : (around : List Enclosing) (outer x : ℕ) (ss : Statements) → innermost around ≡ Some outer
      → map in_walk (walked.statements_blocks outer x ss) ≡ map in_tree (begun_among around x ss)
  walk_among around outer x Ended e = refl
  walk_among around outer x (Before first more) e =
      both_walks (walked.statement_blocks outer x first) (walked.statements_blocks outer (x + walked.blocks_in first) more)
      (begun_in around x first) (begun_among around (x + walked.blocks_in first) more)
      (walk_in around outer x first e) (walk_among around outer (x + walked.blocks_in first) more e)

  walk_after : (around : List Enclosing) (outer x : ℕ) (a : Alternative) → innermost around ≡ Some outer
      → map in_walk (walked.alternative_blocks outer x a) ≡ map in_tree (begun_after around x a)
  walk_after around outer x NoElse e = refl
  walk_after around outer x (Else s) e = walk_in around outer x s e

walk_unit : (u : ExternalProcedure) → map in_walk (walked.unit_blocks u) ≡ map in_tree (unit_blocks u)
walk_unit u =
    ap (λ bs. (kinds.Procedure, None) ∷ bs) (walk_among (enclosing 0 u.statements ∷ []) 0 1 u.statements refl)

seen : (bs : List ResolvedBlock) → map in_unit bs ≡ map in_walk (map laws.in_tree bs)
seen [] = refl
seen (b ∷ bs) = ap (λ cs. in_unit b ∷ cs) (seen bs)

pub blocks_are_of_tree : (u : ExternalProcedure) → BlocksAreOfTree (resolved_unit_of u)
blocks_are_of_tree u =
    seen (resolved_unit_of u).blocks ∙ ap (λ bs. map in_walk bs) (blocks_of_the_tree u) ∙ walk_unit u
