-- The lines of a text, however it goes on, begin with those that were given of what has come of it.
use Rattle.std.proofs.Common.{◌≡◌, ℕ, suc, ◌+◌, ◌-◌, ◌<◌, ◌≤◌, Bool, true, false, ◌==◌, List, [], ◌∷◌, ◌++◌, map, length, take, refl, subst, sym, ap, ◌∙◌, arith, cond, append_assoc, append-nil, length-append, inl, inr, if◌then◌else◌}
use Rattle.std.proofs.lemmas.Grind.{common_steps}
use Rattle.std.proofs.Math.Seq.{take-append-add}
use Rattle.std.specs.Prelude.{Result, Ok, Err, nat_lt, not, ◌||◌}
use Rattle.std.specs.List.{prefix_len}
use Rattle.plus_plan.specs.declared.forms.Line.{Line}
use Rattle.plus_plan.specs.declared.forms.PlanForm.{PlanForm}
use Rattle.plus_plan.specs.declared.faults.PlanFault.{PlanFault}
use Rattle.plus_plan.specs.declared.faults.PlanFault.TheVariants.{LineTooLong}
use Rattle.plus_plan.specs.Cut.{lines_of, line_end, goes_on}
use Rattle.plus_plan.specs.Lines.{numbered, plan_lines}
use Rattle.plus_plan.specs.Spells.{line_limit}
use Rattle.plus_plan.specs.Pending.{Pending}
use Rattle.plus_plan.specs.Pieces.{AtLine, MayFollow, lines_with}
use Rattle.plus_plan.specs.Given.{HasGiven, GoesOnWith}
use Rattle.plus_io.specs.Limits.{text_limit}
use Rattle.plus_play.specs.Cut.{has_lf, whole_lines, last_piece, cut_piece, long_lines, text_lines}
use Rattle.plus_play.specs.Rules.{BeginsWith}

-- ---- the last LF

some_lf : (xs ys : List ℕ) → has_lf ys ≡ true → has_lf (xs ++ ys) ≡ true
some_lf [] ys h = h
some_lf (x ∷ xs) ys h = ap (λ b. (x == 10) || b) (some_lf xs ys h) ∙ or_true (x == 10)
  where
    or_true : (b : Bool) → (b || true) ≡ true
    or_true true = refl
    or_true false = refl

-- bytes in front of an LF
pub whole_front : (xs ys : List ℕ) → has_lf ys ≡ true → whole_lines (xs ++ ys) ≡ xs ++ whole_lines ys
whole_front [] ys h = refl
whole_front (x ∷ xs) ys h =
    ap (λ (b : Bool). if b then x ∷ whole_lines (xs ++ ys) else []) (some_lf (x ∷ xs) ys h) ∙ ap (λ zs. x ∷ zs) (whole_front xs ys h)

pub piece_front : (xs ys : List ℕ) → has_lf ys ≡ true → last_piece (xs ++ ys) ≡ last_piece ys
piece_front [] ys h = refl
piece_front (x ∷ xs) ys h =
    ap (λ (b : Bool). if b then last_piece (xs ++ ys) else x ∷ (xs ++ ys)) (some_lf (x ∷ xs) ys h) ∙ piece_front xs ys h

-- bytes that end where a line ends
pub whole_at : (xs ys : List ℕ) → AtLine xs → whole_lines (xs ++ ys) ≡ xs ++ whole_lines ys
whole_at xs ys (inl e) = subst (λ zs. whole_lines (zs ++ ys) ≡ zs ++ whole_lines ys) (sym e) refl
whole_at xs ys (inr (front, e)) =
    subst (λ zs. whole_lines (zs ++ ys) ≡ zs ++ whole_lines ys) (sym e)
    (ap whole_lines (append_assoc front (10 ∷ []) ys) ∙ whole_front front (10 ∷ ys) refl ∙ sym (append_assoc front (10 ∷ []) (whole_lines ys)))

pub piece_at : (xs ys : List ℕ) → AtLine xs → last_piece (xs ++ ys) ≡ last_piece ys
piece_at xs ys (inl e) = subst (λ zs. last_piece (zs ++ ys) ≡ last_piece ys) (sym e) refl
piece_at xs ys (inr (front, e)) =
    subst (λ zs. last_piece (zs ++ ys) ≡ last_piece ys) (sym e)
    (ap last_piece (append_assoc front (10 ∷ []) ys) ∙ piece_front front (10 ∷ ys) refl)

-- bytes without an LF
pub whole_none : (xs : List ℕ) → has_lf xs ≡ false → whole_lines xs ≡ []
whole_none [] h = refl
whole_none (x ∷ xs) h = ap (λ (b : Bool). if b then x ∷ whole_lines xs else []) h

pub piece_none : (xs : List ℕ) → has_lf xs ≡ false → last_piece xs ≡ xs
piece_none [] h = refl
piece_none (x ∷ xs) h = ap (λ (b : Bool). if b then last_piece xs else x ∷ xs) h

by_first : (b : Bool) (n m : ℕ) (rest : Bool) → cond (not b) (1 + n) 0 ≡ suc m → (n ≡ m → rest ≡ false) → (b || rest) ≡ false
by_first true n m rest h more = absurd (omega arith)
by_first false n m rest h more = more (omega arith)

no_lf_in : (xs : List ℕ) → prefix_len goes_on xs ≡ length xs → has_lf xs ≡ false
no_lf_in [] h = refl
no_lf_in (x ∷ xs) h = by_first (x == 10) (prefix_len goes_on xs) (length xs) (has_lf xs) h (no_lf_in xs)

pub no_lf_from : (xs : List ℕ) → line_end xs 0 ≡ length xs → has_lf xs ≡ false
no_lf_from xs h = no_lf_in xs (omega arith)

none_in_both : (xs ys : List ℕ) → has_lf xs ≡ false → has_lf ys ≡ false → has_lf (xs ++ ys) ≡ false
none_in_both [] ys h k = k
none_in_both (x ∷ xs) ys h k = both (x == 10) (has_lf xs) (has_lf (xs ++ ys)) h (λ e. none_in_both xs ys e k)
  where
    both : (b r s : Bool) → (b || r) ≡ false → (r ≡ false → s ≡ false) → (b || s) ≡ false
    both true r s h f = h
    both false r s h f = f h

module _ (form : PlanForm) where
  -- ---- the lines of a text

  length-numbered : (n : ℕ) (ls : List (List ℕ)) → length (numbered form n ls) ≡ length ls
  length-numbered n [] = refl
  length-numbered n (l ∷ ls) = ap suc (length-numbered (n + 1) ls)

  length-oks : (ls : List Line) → length (map {B = Result Line PlanFault} Ok ls) ≡ length ls
  length-oks [] = refl
  length-oks (l ∷ ls) = ap suc (length-oks ls)

  -- so many lines are read as stand in the text
  pub lines_count : (text : List ℕ) (lines : List Line) → plan_lines form text ≡ map Ok lines → length (lines_of text) ≡ length lines
  lines_count text lines e = sym (length-numbered 1 (lines_of text)) ∙ ap length e ∙ length-oks lines

  pub lines_within : (bytes : List ℕ) → nat_lt text_limit (length bytes) ≡ false → text_lines form bytes ≡ plan_lines form bytes
  unfolding text_lines
  lines_within bytes e = ap (λ (b : Bool). if b then long_lines form (take text_limit bytes) else plan_lines form bytes) e

  pub lines_short : (bytes : List ℕ) → length bytes ≤ text_limit → text_lines form bytes ≡ plan_lines form bytes
  lines_short bytes w = lines_within bytes (short bytes w)
    where
      short : (bs : List ℕ) → length bs ≤ text_limit → nat_lt text_limit (length bs) ≡ false
      short bs w = grind (arith, common_steps)

  pub lines_over : (bytes : List ℕ) → nat_lt text_limit (length bytes) ≡ true → text_lines form bytes ≡ long_lines form (take text_limit bytes)
  unfolding text_lines
  lines_over bytes e = ap (λ (b : Bool). if b then long_lines form (take text_limit bytes) else plan_lines form bytes) e

  -- what is within of a text that goes on
  front_is : (text behind : List ℕ) → length text ≤ text_limit → take text_limit (text ++ behind) ≡ text ++ take (text_limit - length text) behind
  front_is text behind w =
      let e : length text + (text_limit - length text) ≡ text_limit = omega arith in
      ap (λ n. take n (text ++ behind)) (sym e) ∙ take-append-add text behind (text_limit - length text)

  -- the lines begin with these, and this one stands behind them
  abbrev pub Begins : List (Result Line PlanFault) → List Line → Result Line PlanFault → Type 0
  Begins results lines next = (behind : List (Result Line PlanFault)) × (results ≡ map Ok lines ++ next ∷ behind)

  more_behind : (results more : List (Result Line PlanFault)) (lines : List Line) (next : Result Line PlanFault) → Begins results lines next → Begins (results ++ more) lines next
  more_behind results more lines next (behind, e) =
      (behind ++ more, ap (λ rs. rs ++ more) e ∙ append_assoc (map Ok lines) (next ∷ behind) more)

  module _ (text : List ℕ) (lines : List Line) (r : Pending) (next : Result Line PlanFault)
      (given : HasGiven form text lines r) (on : GoesOnWith form text lines r)
      (first : (more : List ℕ) → MayFollow r more → (behind : List (Result Line PlanFault)) × (lines_with r more ≡ next ∷ behind)) where
    -- behind the bytes that have come
    next_in : (more : List ℕ) → MayFollow r more → Begins (plan_lines form (text ++ more)) lines next
    next_in more m = let f = first more m in (f.0, on more m ∙ ap (λ rs. map Ok lines ++ rs) f.1)

    -- the text ends in whole lines
    next_at : (more : List ℕ) → AtLine text → MayFollow r (whole_lines more) → Begins (long_lines form (text ++ more)) lines next
    next_at more at m =
        subst (λ w. Begins (plan_lines form w ++ cut_piece (length (lines_of (whole_lines (text ++ more))) + 1) (last_piece (text ++ more))) lines next) (sym (whole_at text more at))
        (more_behind (plan_lines form (text ++ whole_lines more)) (cut_piece (length (lines_of (whole_lines (text ++ more))) + 1) (last_piece (text ++ more))) lines next (next_in (whole_lines more) m))

    pub next_whole : (bytes behind : List ℕ) → bytes ≡ text ++ behind → length text ≤ text_limit → AtLine text → ((more : List ℕ) → MayFollow r more) → Begins (text_lines form bytes) lines next
    next_whole bytes behind e w at may = by_size (nat_lt text_limit (length bytes)) refl
      where
        by_size : (b : Bool) → nat_lt text_limit (length bytes) ≡ b → Begins (text_lines form bytes) lines next
        by_size false f = subst (λ rs. Begins rs lines next) (sym (lines_within bytes f)) (subst (λ z. Begins (plan_lines form z) lines next) (sym e) (next_in behind (may behind)))
        by_size true f = subst (λ rs. Begins rs lines next) (sym (lines_over bytes f))
            (subst (λ z. Begins (long_lines form z) lines next) (sym (ap (take text_limit) e ∙ front_is text behind w))
            (next_at (take (text_limit - length text) behind) at (may _)))

    -- the text has ended
    pub next_ended : (bytes : List ℕ) → bytes ≡ text ++ [] → length text ≤ text_limit → Begins (text_lines form bytes) lines next
    next_ended bytes e w =
        let f : nat_lt text_limit (length bytes) ≡ false = short_enough bytes (ap length (e ∙ append-nil text)) in
        subst (λ rs. Begins rs lines next) (sym (lines_within bytes f)) (subst (λ z. Begins (plan_lines form z) lines next) (sym e) (next_in [] (λ c. refl)))
      where
        short_enough : (bs : List ℕ) → length bs ≡ length text → nat_lt text_limit (length bs) ≡ false
        short_enough bs q = grind (arith, common_steps)

  -- ---- a line that is longer than a line may be, and the piece at which a text is cut off

  long_piece : (n : ℕ) (piece : List ℕ) → line_limit < length piece → cut_piece n piece ≡ Err (LineTooLong n) ∷ []
  long_piece n piece h =
      let e : nat_lt line_limit (length piece) ≡ true = grind (arith, common_steps) in
      ap (λ (b : Bool). if b then Err (LineTooLong n) ∷ [] else []) e

  short_piece : (n : ℕ) (piece : List ℕ) → length piece ≤ line_limit → cut_piece n piece ≡ []
  short_piece n piece h =
      let e : nat_lt line_limit (length piece) ≡ false = grind (arith, common_steps) in
      ap (λ (b : Bool). if b then Err (LineTooLong n) ∷ [] else []) e

  -- the whole lines of given bytes that end where a line ends, and a piece without an LF
  long_is :
      (given piece : List ℕ) (lines : List Line) → AtLine given → has_lf piece ≡ false → plan_lines form given ≡ map Ok lines
      → long_lines form (given ++ piece) ≡ map Ok lines ++ cut_piece (length lines + 1) piece
  long_is given piece lines at none said =
      let whole : whole_lines (given ++ piece) ≡ given = whole_at given piece at ∙ ap (λ z. given ++ z) (whole_none piece none) ∙ append-nil given in
      let last : last_piece (given ++ piece) ≡ piece = piece_at given piece at ∙ piece_none piece none in
      ap (λ w. plan_lines form w ++ cut_piece (length (lines_of w) + 1) (last_piece (given ++ piece))) whole
      ∙ ap (λ z. plan_lines form given ++ cut_piece (length (lines_of given) + 1) z) last
      ∙ ap (λ rs. rs ++ cut_piece (length (lines_of given) + 1) piece) said
      ∙ ap (λ n. map Ok lines ++ cut_piece (n + 1) piece) (lines_count given lines said)

  module _ (text : List ℕ) (lines : List Line) (r : Pending) (given : HasGiven form text lines r) (going : r.closed ≡ false)
      (none : line_end r.rest 0 ≡ length r.rest) where
    said_so : plan_lines form given.given ≡ map Ok lines
    said_so = given.said

    may : (more : List ℕ) → MayFollow r more
    may more = λ c. absurd (let e : true ≡ false = sym c ∙ going in cc e)

    -- what comes has no LF
    none_comes : (more : List ℕ) → has_lf more ≡ false → long_lines form (text ++ more) ≡ map Ok lines ++ cut_piece (length lines + 1) (r.rest ++ more)
    none_comes more f =
        ap (λ z. long_lines form (z ++ more)) given.is ∙ ap (long_lines form) (append_assoc given.given r.rest more)
        ∙ long_is given.given (r.rest ++ more) lines (given.at_line going) (none_in_both r.rest more (no_lf_from r.rest none) f) said_so

    -- it has one
    some_comes : GoesOnWith form text lines r → (more : List ℕ) → has_lf more ≡ true → (behind : List (Result Line PlanFault)) × (long_lines form (text ++ more) ≡ map Ok lines ++ behind)
    some_comes on more f =
        let cut = cut_piece (length (lines_of (whole_lines (text ++ more))) + 1) (last_piece (text ++ more)) in (
          lines_with r (whole_lines more) ++ cut,
          ap (λ w. plan_lines form w ++ cut) (whole_front text more f) ∙ ap (λ rs. rs ++ cut) (on (whole_lines more) (may (whole_lines more)))
              ∙ append_assoc (map Ok lines) (lines_with r (whole_lines more)) cut,
        )

    -- whatever comes, the lines of the text begin with those that were given
    pub begins_with : GoesOnWith form text lines r → (bytes behind : List ℕ) → bytes ≡ text ++ behind → length text ≤ text_limit → BeginsWith form bytes lines
    begins_with on bytes behind e w = by_size (nat_lt text_limit (length bytes)) refl
      where
        over : (more : List ℕ) (b : Bool) → has_lf more ≡ b → (behind : List (Result Line PlanFault)) × (long_lines form (text ++ more) ≡ map Ok lines ++ behind)
        over more true f = some_comes on more f
        over more false f = (cut_piece (length lines + 1) (r.rest ++ more), none_comes more f)

        by_size : (b : Bool) → nat_lt text_limit (length bytes) ≡ b → BeginsWith form bytes lines
        by_size false f = (lines_with r behind, lines_within bytes f ∙ ap (plan_lines form) e ∙ on behind (may behind))
        by_size true f =
            let more = take (text_limit - length text) behind in
            let o = over more (has_lf more) refl in
            (o.0, lines_over bytes f ∙ ap (long_lines form) (ap (take text_limit) e ∙ front_is text behind w) ∙ o.1)

    -- the bytes that wait are more than a line may have
    module _ (on : GoesOnWith form text lines r)
        (first : (more : List ℕ) → MayFollow r more → (behind : List (Result Line PlanFault)) × (lines_with r more ≡ Err (LineTooLong (length lines + 1)) ∷ behind)) where
      by_lf :
          (more : List ℕ) (b : Bool) → has_lf more ≡ b → line_limit < length r.rest
          → Begins (long_lines form (text ++ more)) lines (Err (LineTooLong (length lines + 1)))
      by_lf more true f h =
          subst (λ w. Begins (plan_lines form w ++ cut_piece (length (lines_of (whole_lines (text ++ more))) + 1) (last_piece (text ++ more))) lines (Err (LineTooLong (length lines + 1)))) (sym (whole_front text more f))
          (more_behind (plan_lines form (text ++ whole_lines more)) (cut_piece (length (lines_of (whole_lines (text ++ more))) + 1) (last_piece (text ++ more))) lines (Err (LineTooLong (length lines + 1)))
          (next_in text lines r (Err (LineTooLong (length lines + 1))) given on first (whole_lines more) (may (whole_lines more))))
      by_lf more false f h = (
        [],
        none_comes more f ∙ ap (λ rs. map Ok lines ++ rs) (long_piece (length lines + 1) (r.rest ++ more) (omega (arith, length-append r.rest more))),
      )

      pub long_whole : (bytes behind : List ℕ) → bytes ≡ text ++ behind → length text ≤ text_limit → line_limit < length r.rest → Begins (text_lines form bytes) lines (Err (LineTooLong (length lines + 1)))
      long_whole bytes behind e w h = by_size (nat_lt text_limit (length bytes)) refl
        where
          by_size : (b : Bool) → nat_lt text_limit (length bytes) ≡ b → Begins (text_lines form bytes) lines (Err (LineTooLong (length lines + 1)))
          by_size false f =
              subst (λ rs. Begins rs lines (Err (LineTooLong (length lines + 1)))) (sym (lines_within bytes f))
              (subst (λ z. Begins (plan_lines form z) lines (Err (LineTooLong (length lines + 1)))) (sym e) (next_in text lines r (Err (LineTooLong (length lines + 1))) given on first behind (may behind)))
          by_size true f =
              subst (λ rs. Begins rs lines (Err (LineTooLong (length lines + 1)))) (sym (lines_over bytes f))
              (subst (λ z. Begins (long_lines form z) lines (Err (LineTooLong (length lines + 1)))) (sym (ap (take text_limit) e ∙ front_is text behind w))
              (by_lf (take (text_limit - length text) behind) (has_lf (take (text_limit - length text) behind)) refl h))

    -- the text goes on behind its limit
    pub cut_off : (bytes behind : List ℕ) → bytes ≡ text ++ behind → length text ≡ text_limit → 0 < length behind → length r.rest ≤ line_limit → text_lines form bytes ≡ map Ok lines
    cut_off bytes behind e w some short =
        let over : nat_lt text_limit (length bytes) ≡ true = is_over (length bytes) (ap length e ∙ length-append text behind) in
        lines_over bytes over
        ∙ ap (long_lines form) (ap (take text_limit) e ∙ front_is text behind (omega arith) ∙ ap (λ n. text ++ take n behind) nothing ∙ append-nil text ∙ given.is)
        ∙ long_is given.given r.rest lines (given.at_line going) (no_lf_from r.rest none) said_so
        ∙ ap (λ rs. map Ok lines ++ rs) (short_piece (length lines + 1) r.rest short)
        ∙ append-nil (map Ok lines)
      where
        is_over : (n : ℕ) → n ≡ length text + length behind → nat_lt text_limit n ≡ true
        is_over n q = grind (arith, common_steps)

        nothing : text_limit - length text ≡ 0
        nothing = omega arith
