use Rattle.std.proofs.Common.{◌≡◌, ℕ, ◌+◌, ◌-◌, ◌<◌, ◌≤◌, List, length, take, drop, get_or, slice_get, Some, false, refl, sym, ap, subst, ◌∙◌, arith}
use Rattle.std.proofs.Common.{inl, inr, length-drop}
use Rattle.std.specs.List.{All}
use Rattle.std.proofs.lemmas.List.{get_or-drop, length-take-le}
use Rattle.std.proofs.lemmas.Option.{slice_get_read}
use Rattle.pli_base.specs.Name.{Name}
use Rattle.pli_base.specs.declared.code.Code.TheVariants.{TooManyTokens}
use Rattle.pli_base.specs.declared.token.Token.{Token}
use Rattle.pli_include.specs.declared.reading.Pause.{Pause}
use Rattle.pli_include.specs.declared.reading.Pause.TheVariants as at
use Rattle.pli_include.specs.Pieces.{is_percent, IsPlain}
use Rattle.pli_include.specs.Expansion.{Progress, all_kept}
use Rattle.pli_include.specs.answers.Pausing.{Reads}
use Rattle.pli_include.proofs.PieceIsRead.{rest_is, reads_after, reads_too_many, reads_end, fault_at}
use Rattle.pli_include.proofs.reading.read_tokens.Goals as goal

module _ (tokens rest : List Token) (start count : ℕ) (m : Name) (s later : Progress) (from : start ≤ length tokens)
    (part : rest ≡ take (length tokens - start) (drop start tokens)) (plain : All IsPlain (take count rest))
    (within : count ≤ length rest) (room : count ≤ 200000 - s.read) (few : s.read ≤ 200000)
    (kept : later ≡ all_kept m (take count rest) s) where
  is_rest : rest ≡ drop start tokens
  is_rest = part ∙ rest_is tokens start from

  size : length (take count (drop start tokens)) ≡ count
  size = ap (λ ts. length (take count ts)) (sym is_rest) ∙ length-take-le count rest within

  -- what comes after the tokens that stay
  then_read : (pause : Pause) (new : Progress) → Reads 200000 m tokens (start + count) later pause new
      → Reads 200000 m tokens start s pause new
  then_read pause new h =
      reads_after 200000 m tokens start count s (subst (λ ts. All IsPlain (take count ts)) is_rest plain)
      (omega (arith, room, few, size)) pause later new (kept ∙ ap (λ ts. all_kept m (take count ts) s) is_rest) h

  end : length rest ≤ count → Reads 200000 m tokens start s at.End later
  end past = then_read at.End later
      (reads_end 200000 m tokens (start + count) later
      (omega (arith, from, past, ap length is_rest, length-drop start tokens)))

  module _ (t : Token) (lt : count < length rest) (is : t ≡ get_or rest count t) where
    stands_within : start + count < length tokens
    stands_within = omega (arith, from, lt, ap length is_rest, length-drop start tokens)

    stands : t ≡ get_or tokens (start + count) t
    stands = is ∙ ap (λ ts. get_or ts count t) is_rest ∙ get_or-drop start tokens count t

    reached : slice_get tokens (start + count) ≡ Some t
    reached = slice_get_read tokens (length tokens) (start + count) t refl stands_within stands

    too_many : is_percent t.text ≡ false → ((u : Token) → slice_get rest count ≡ Some u → is_percent u.text ≡ false → count ≡ 200000 - s.read)
        → (r : Pause) → r ≡ fault_at TooManyTokens m t → Reads 200000 m tokens start s r later
    too_many other over r r_is =
        let full = over t (slice_get_read rest (length rest) count t refl lt is) other in
        let read : later.read ≡ s.read + length (take count rest) = ap (λ (p : Progress). p.read) kept in
        subst (λ r. Reads 200000 m tokens start s r later) (sym r_is)
        (then_read (fault_at TooManyTokens m t) later
        (reads_too_many 200000 m tokens (start + count) t later stands_within stands other
        (omega (arith, full, read, length-take-le count rest within, few))))

pub returns-in_default : goal.returns-in_default
returns-in_default c =
    reads_end 200000 c.args.member c.args.tokens.now c.args.start c.args.progress.now
    (elim c.in_default.ensures.lookup.0 [ inl less ↦ omega (arith, less) | inr less ↦ omega (arith, less) ])

pub returns-in_default-get : goal.returns-in_default-get
returns-in_default-get c =
    end c.args.tokens.now c.in-Some.rest.now c.args.start c.staying-count.result c.args.member c.args.progress.now c.keep.new.self
    c.in-Some.ensures.lookup.0.0 c.in-Some.ensures.lookup.0.2 c.staying-count.ensures.plain c.staying-count.ensures.within
    (omega (arith, c.staying-count.ensures.room, c.room.ensures.room)) c.room.ensures.within c.in_ok-keep.ensures c.in_default-get.ensures.lookup.3

pub read_directive-requires-clause-percent : goal.read_directive-requires-clause-percent
read_directive-requires-clause-percent c = (
  c.in-Some-get.next.now,
  reached c.args.tokens.now c.in-Some.rest.now c.args.start c.staying-count.result c.args.member c.args.progress.now c.keep.new.self
      c.in-Some.ensures.lookup.0.0 c.in-Some.ensures.lookup.0.2 c.staying-count.ensures.plain c.staying-count.ensures.within
      (omega (arith, c.staying-count.ensures.room, c.room.ensures.room)) c.room.ensures.within c.in_ok-keep.ensures c.in-Some-get.next.now
      c.in-Some-get.ensures.lookup.3.0 c.in-Some-get.ensures.lookup.1,
  sym c.if-is_percent.ensures,
)

pub returns-then-is_percent : goal.returns-then-is_percent
returns-then-is_percent c =
    then_read c.args.tokens.now c.in-Some.rest.now c.args.start c.staying-count.result c.args.member c.args.progress.now c.keep.new.self
    c.in-Some.ensures.lookup.0.0 c.in-Some.ensures.lookup.0.2 c.staying-count.ensures.plain c.staying-count.ensures.within
    (omega (arith, c.staying-count.ensures.room, c.room.ensures.room)) c.room.ensures.within c.in_ok-keep.ensures
    c.read_directive.result c.read_directive.new.progress c.read_directive.ensures

pub returns : goal.returns
returns c =
    too_many c.args.tokens.now c.in-Some.rest.now c.args.start c.staying-count.result c.args.member c.args.progress.now c.keep.new.self
    c.in-Some.ensures.lookup.0.0 c.in-Some.ensures.lookup.0.2 c.staying-count.ensures.plain c.staying-count.ensures.within
    (omega (arith, c.staying-count.ensures.room, c.room.ensures.room)) c.room.ensures.within c.in_ok-keep.ensures c.in-Some-get.next.now
    c.in-Some-get.ensures.lookup.3.0 c.in-Some-get.ensures.lookup.1 (sym c.if-is_percent.ensures) (λ u at other. c.staying-count.ensures.over u at other ∙ c.room.ensures.room)
    c.fault_at.result c.fault_at.ensures
