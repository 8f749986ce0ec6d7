-- A plan text whose lines are played, and where in it the run halts.
use Rattle.std.proofs.Common.{◌≡◌, ℕ, ◌+◌, ◌<◌, ◌≤◌, Bool, true, false, ◌==◌, List, [], ◌∷◌, ◌++◌, map, length, take, refl, subst, sym, ap, ◌∙◌, arith, append-nil, inl, inr, ◌⊎◌, if◌then◌else◌, ◌||◌, eqb-true}
use Rattle.std.specs.Prelude.{Result, Ok, Err, nat_lt, ◌≢◌}
use Rattle.std.proofs.lemmas.Bool.{cases_lt}
use Rattle.std.proofs.lemmas.Grind.{common_steps}
use Rattle.std.proofs.lemmas.List.Elements.{All-nil, All-cons}
use Rattle.plus_model.specs.Terms.{Problem}
use Rattle.plus_model.specs.History.{Part}
use Rattle.plus_io.specs.Limits.{text_limit}
use Rattle.plus_plan.specs.declared.forms.Line.{Line}
use Rattle.plus_plan.specs.declared.forms.PlanForm.TheVariants.{Timed}
use Rattle.plus_plan.specs.declared.faults.PlanFault.{PlanFault}
use Rattle.plus_plan.specs.declared.faults.PlanFault.TheVariants as faults
use Rattle.plus_plan.specs.Cut.{lines_of}
use Rattle.plus_plan.specs.Lines.{plan_lines}
use Rattle.plus_plan.specs.Spells.{line_limit}
use Rattle.plus_play.specs.Cut.{has_lf, whole_lines, last_piece, cut_piece, text_lines}
use Rattle.plus_play.specs.Rules.{Why, on_line, no_line, too_long, at_end, handing, Stands, BeginsWith, ComesNext}
use Rattle.plus_play.proofs.Fronts.{lines_short, lines_over, lines_count}
use Rattle.plus_report.specs.declared.verdicts.Verdict.TheVariants.{Other}
use Rattle.plus_report.specs.declared.refusals.Early.TheVariants.{LineTooLong, TooLong}
use Rattle.plus_report.specs.declared.refusals.Text.TheVariants as texts
use Rattle.plus_validator.specs.declared.halt.Halt.{Halt}
use Rattle.plus_validator.specs.declared.halt.Halt.TheVariants.{Refused, Memory, WriteFault}
use Rattle.plus_validator.specs.Account.{Account, Progress}
use Rattle.plus_validator.specs.Halts.{line_halt}
use Rattle.plus_validator.specs.Handing.{Left, left_by, IsPartOut}
use Rattle.plus_validator.specs.Plans.{Pair}
use Rattle.plus_validator.specs.Playing.{ReadiedFor}
use Rattle.plus_validator.specs.Refused.{cut_verdict, IsCut}
use Rattle.plus_validator.specs.Stopped.{StopsInText, IsCutShortInText}
use Rattle.plus_validator.specs.Told.{Telling}
use Rattle.plus_validator.specs.Feeding.{HasPlayed, StopsOn}
use Rattle.plus_validator.specs.PlayRules.{HaltsBy}
use Rattle.plus_validator.proofs.Cutting.{NoLf, not_ten}
use Rattle.plus_validator.proofs.TextStops.{cut_behind, bad_stops, next_stops, halts_after_all, cut_stops}

-- ---- where a text is cut off

all_by : (b : ℕ) (bs : List ℕ) (t r : Bool) → (b == 10) ≡ t → (t ≡ false → r ≡ false → NoLf bs → NoLf (b ∷ bs)) → (r ≡ false → NoLf bs) → (t || r) ≡ false → NoLf (b ∷ bs)
all_by b bs true r e f g h = absurd (let k : true ≡ false = h in cc k)
all_by b bs false r e f g h = f refl h (g h)

-- no LF stands in these bytes
no_lf : (bytes : List ℕ) → has_lf bytes ≡ false → NoLf bytes
no_lf [] h = All-nil (λ (b : ℕ). b ≢ 10)
no_lf (b ∷ bs) h = all_by b bs (b == 10) (has_lf bs) refl (λ t r k. All-cons (λ (x : ℕ). x ≢ 10) b bs (not_ten b t) k) (no_lf bs) h

-- where one does, there are whole lines
some_whole : (bytes : List ℕ) → has_lf bytes ≡ true → whole_lines bytes ≡ [] → ⊥
some_whole [] h e = (let k : false ≡ true = h in cc k)
some_whole (b ∷ bs) h e =
    let k : b ∷ whole_lines bs ≡ [] = sym (ap (λ (t : Bool). if t then b ∷ whole_lines bs else []) h) ∙ e in
    cc k

cut_none : (b : ℕ) (bs : List ℕ) → has_lf (b ∷ bs) ≡ false → IsCut (b ∷ bs) (whole_lines (b ∷ bs)) (last_piece (b ∷ bs))
cut_none b bs h =
    let whole : whole_lines (b ∷ bs) ≡ [] = ap (λ (t : Bool). if t then b ∷ whole_lines bs else []) h in
    let piece : last_piece (b ∷ bs) ≡ b ∷ bs = ap (λ (t : Bool). if t then last_piece bs else b ∷ bs) h in
    subst (λ w. IsCut (b ∷ bs) w (last_piece (b ∷ bs))) (sym whole)
    (subst (λ q. IsCut (b ∷ bs) [] q) (sym piece) (record { is = refl; in_one_line = no_lf (b ∷ bs) h; at_line = inl refl }))

-- the line ends with this byte, or a later one does
line_ends : (b : ℕ) (bs : List ℕ) (t : Bool) → (b == 10) ≡ t → (t || has_lf bs) ≡ true → (whole_lines bs ≡ []) ⊎ (front : List ℕ) × (whole_lines bs ≡ front ++ 10 ∷ [])
    → (b ∷ whole_lines bs ≡ []) ⊎ (front : List ℕ) × (b ∷ whole_lines bs ≡ front ++ 10 ∷ [])
line_ends b bs t e h (inr (front, k)) = inr (b ∷ front, ap (λ z. b ∷ z) k)
line_ends b bs true e h (inl k) = inr ([], ap (λ z. b ∷ z) k ∙ ap (λ x. x ∷ []) (eqb-true b 10 e))
line_ends b bs false e h (inl k) = absurd (some_whole bs h k)

cut_some : (b : ℕ) (bs : List ℕ) → has_lf (b ∷ bs) ≡ true → IsCut bs (whole_lines bs) (last_piece bs) → IsCut (b ∷ bs) (whole_lines (b ∷ bs)) (last_piece (b ∷ bs))
cut_some b bs h c =
    let whole : whole_lines (b ∷ bs) ≡ b ∷ whole_lines bs = ap (λ (t : Bool). if t then b ∷ whole_lines bs else []) h in
    let piece : last_piece (b ∷ bs) ≡ last_piece bs = ap (λ (t : Bool). if t then last_piece bs else b ∷ bs) h in
    subst (λ w. IsCut (b ∷ bs) w (last_piece (b ∷ bs))) (sym whole)
    (subst (λ q. IsCut (b ∷ bs) (b ∷ whole_lines bs) q) (sym piece)
    (record { is = ap (λ z. b ∷ z) c.is; in_one_line = c.in_one_line; at_line = line_ends b bs (b == 10) refl h c.at_line }))

cut_by : (b : ℕ) (bs : List ℕ) (t : Bool) → has_lf (b ∷ bs) ≡ t → IsCut bs (whole_lines bs) (last_piece bs) → IsCut (b ∷ bs) (whole_lines (b ∷ bs)) (last_piece (b ∷ bs))
cut_by b bs true e c = cut_some b bs e c
cut_by b bs false e c = cut_none b bs e

pub cut_text : (text : List ℕ) → IsCut text (whole_lines text) (last_piece text)
cut_text [] = record { is = refl; in_one_line = All-nil (λ (b : ℕ). b ≢ 10); at_line = inl refl }
cut_text (b ∷ bs) = cut_by b bs (has_lf (b ∷ bs)) refl (cut_text bs)

-- ---- what is read of the lines, and what is cut off

abbrev Results : Type 0
Results = List (Result Line PlanFault)

-- behind lines stands what was cut off, or something before it
end_or_before : (xs : Results) (cut : PlanFault) (lines : List Line) (next : Result Line PlanFault) (behind : Results) → xs ++ Err cut ∷ [] ≡ map Ok lines ++ next ∷ behind
    → ((more : Results) × (xs ≡ map Ok lines ++ next ∷ more)) ⊎ ((xs ≡ map Ok lines) × (next ≡ Err cut))
end_or_before [] cut [] next behind e = inr (refl, (let k : next ≡ Err cut = cc in k))
end_or_before (x ∷ xs) cut [] next behind e = inl (xs, (let k : x ≡ next = cc in ap (λ y. y ∷ xs) k))
end_or_before [] cut (l ∷ ls) next behind e = absurd (let k : Err cut ≡ Ok l = cc in cc k)
end_or_before (x ∷ xs) cut (l ∷ ls) next behind e =
    let first : x ≡ Ok l = cc in
    elim (end_or_before xs cut ls next behind (let k : xs ++ Err cut ∷ [] ≡ map Ok ls ++ next ∷ behind = cc in k)) [
      | inl (more, is) ↦ inl (more, ap (λ y. y ∷ xs) first ∙ ap (λ ys. Ok l ∷ ys) is)
      | inr (all, is) ↦ inr (ap (λ y. y ∷ xs) first ∙ ap (λ ys. Ok l ∷ ys) all, is)
    ]

-- the lines before it are no fewer
before_cut : (xs : Results) (cut : PlanFault) (lines : List Line) (behind : Results) → xs ++ Err cut ∷ [] ≡ map Ok lines ++ behind → (more : Results) × (xs ≡ map Ok lines ++ more)
before_cut xs cut [] behind e = (xs, refl)
before_cut [] cut (l ∷ ls) behind e = absurd (let k : Err cut ≡ Ok l = cc in cc k)
before_cut (x ∷ xs) cut (l ∷ ls) behind e =
    let first : x ≡ Ok l = cc in
    let rest = before_cut xs cut ls behind (let k : xs ++ Err cut ∷ [] ≡ map Ok ls ++ behind = cc in k) in
    (rest.0, ap (λ y. y ∷ xs) first ∙ ap (λ ys. Ok l ∷ ys) rest.1)

-- no line is a fault
none_cut : (xs : Results) (cut : PlanFault) (lines : List Line) → xs ++ Err cut ∷ [] ≡ map Ok lines → ⊥
none_cut [] cut [] e = cc
none_cut (x ∷ xs) cut [] e = cc
none_cut [] cut (l ∷ ls) e = (let k : Err cut ≡ Ok l = cc in cc k)
none_cut (x ∷ xs) cut (l ∷ ls) e = none_cut xs cut ls (let k : xs ++ Err cut ∷ [] ≡ map Ok ls = cc in k)

-- which limit a text is over that goes on behind a piece of a line
long_verdict : (n size : ℕ) → line_limit < size → cut_verdict n size ≡ LineTooLong n
long_verdict n size h = grind (arith, common_steps)

short_verdict : (n size : ℕ) → size ≤ line_limit → cut_verdict n size ≡ TooLong texts.Plan
short_verdict n size h = grind (arith, common_steps)

-- ---- where the run halts

module _ {V : Type 0} (d : Pair) (P : Problem) (T : Telling P V) (first before : Progress V) (lines : List Line) (played : HasPlayed d P T lines first before) (bytes : List ℕ) (new : Left V) (g : List Part) (ready : ReadiedFor d P T [] g first) where
  abbrev most : ℕ
  most = first.timeline.line.most

  -- what the run leaves tells the account before
  module _ (same : new.account ≡ before.account) where
    left_so : (goes_on : Bool) (whole piece : List ℕ) (halt : Halt) → StopsInText d P T most goes_on whole piece (left_by new.out before) halt → StopsInText d P T most goes_on whole piece new halt
    left_so goes_on whole piece halt h = subst (λ (a : Account V). StopsInText d P T most goes_on whole piece (record { out = new.out; account = a }) halt) (sym same) h

  -- the halt where these lines of a text, cut so, are played
  abbrev HaltsHere : Bool → List ℕ → List ℕ → Halt → Type 0
  HaltsHere goes_on whole piece halt = StopsInText d P T most goes_on whole piece new halt

  -- the text is within its limit, and what is said of its lines tells where the run halts
  on_all : (halt : Halt) → length bytes ≤ text_limit → HaltsHere false bytes [] halt → StopsOn d P T most bytes new halt
  on_all halt w h = record { text = bytes; goes_on = false; read = (refl, w); whole = bytes; piece = []; cut = refl; stopped = h }

  abbrev within : List ℕ
  within = take text_limit bytes

  on_cut : (halt : Halt) → text_limit < length bytes → HaltsHere true (whole_lines within) (last_piece within) halt → StopsOn d P T most bytes new halt
  on_cut halt w h = record {
    text = within;
    goes_on = true;
    read = (refl, w);
    whole = whole_lines within;
    piece = last_piece within;
    cut = cut_text within;
    stopped = h;
  }

  -- of a text that goes on
  abbrev whole_said : Results
  whole_said = plan_lines Timed (whole_lines within)

  abbrev number : ℕ
  number = length (lines_of (whole_lines within)) + 1

  over_is : (w : text_limit < length bytes) → text_lines Timed bytes ≡ whole_said ++ cut_piece number (last_piece within)
  over_is w = lines_over Timed bytes (over bytes w)
    where
      over : (bs : List ℕ) → text_limit < length bs → nat_lt text_limit (length bs) ≡ true
      over bs w = grind (arith, common_steps)

  -- the piece is short, or it is longer than a line may be
  piece_short : length (last_piece within) ≤ line_limit → cut_piece number (last_piece within) ≡ []
  piece_short h = (let e : nat_lt line_limit (length (last_piece within)) ≡ false = not_over (last_piece within) h in ap (λ (b : Bool). if b then Err (faults.LineTooLong number) ∷ [] else []) e)
    where
      not_over : (bs : List ℕ) → length bs ≤ line_limit → nat_lt line_limit (length bs) ≡ false
      not_over bs w = grind (arith, common_steps)

  piece_long : line_limit < length (last_piece within) → cut_piece number (last_piece within) ≡ Err (faults.LineTooLong number) ∷ []
  piece_long h = (let e : nat_lt line_limit (length (last_piece within)) ≡ true = is_over (last_piece within) h in ap (λ (b : Bool). if b then Err (faults.LineTooLong number) ∷ [] else []) e)
    where
      is_over : (bs : List ℕ) → line_limit < length bs → nat_lt line_limit (length bs) ≡ true
      is_over bs w = grind (arith, common_steps)

  -- lines begin it
  begins_over : (w : text_limit < length bytes) → BeginsWith Timed bytes lines → (more : Results) × (whole_said ≡ map Ok lines ++ more)
  begins_over w (behind, e) = elim (cases_lt line_limit (length (last_piece within))) [
    | inl long ↦ before_cut whole_said (faults.LineTooLong number) lines behind (ap (λ c. whole_said ++ c) (sym (piece_long long)) ∙ sym (over_is w) ∙ e)
    | inr short ↦ (behind, sym (append-nil whole_said) ∙ ap (λ c. whole_said ++ c) (sym (piece_short short)) ∙ sym (over_is w) ∙ e)
  ]

  -- and then this comes, or the piece that is cut off
  next_over : (w : text_limit < length bytes) (next : Result Line PlanFault) → ComesNext Timed bytes lines next
      → ((more : Results) × (whole_said ≡ map Ok lines ++ next ∷ more)) ⊎ ((whole_said ≡ map Ok lines) × (next ≡ Err (faults.LineTooLong number)) × (line_limit < length (last_piece within)))
  next_over w next (behind, e) = elim (cases_lt line_limit (length (last_piece within))) [
    | inl long ↦ elim (end_or_before whole_said (faults.LineTooLong number) lines next behind (ap (λ c. whole_said ++ c) (sym (piece_long long)) ∙ sym (over_is w) ∙ e)) [
      | inl more ↦ inl more
      | inr (all, is) ↦ inr (all, is, long)
    ]
    | inr short ↦ inl (behind, sym (append-nil whole_said) ∙ ap (λ c. whole_said ++ c) (sym (piece_short short)) ∙ sym (over_is w) ∙ e)
  ]

  -- or they are all, and the piece is short
  all_over : (w : text_limit < length bytes) → text_lines Timed bytes ≡ map Ok lines → (whole_said ≡ map Ok lines) × (length (last_piece within) ≤ line_limit)
  all_over w e = elim (cases_lt line_limit (length (last_piece within))) [
    | inl long ↦ absurd (none_cut whole_said (faults.LineTooLong number) lines (ap (λ c. whole_said ++ c) (sym (piece_long long)) ∙ sym (over_is w) ∙ e))
    | inr short ↦ (sym (append-nil whole_said) ∙ ap (λ c. whole_said ++ c) (sym (piece_short short)) ∙ sym (over_is w) ∙ e, short)
  ]

  within_is : length bytes ≤ text_limit → (rest : Results) → text_lines Timed bytes ≡ map Ok lines ++ rest → plan_lines Timed bytes ≡ map Ok lines ++ rest
  within_is w rest e = sym (lines_short Timed bytes w) ∙ e

  -- a fault of the program behind the lines
  fault_halts : (halt : Halt) → BeginsWith Timed bytes lines → ((goes_on : Bool) (whole piece : List ℕ) → IsCutShortInText d P T most goes_on whole new.out halt → HaltsHere goes_on whole piece halt)
      → IsPartOut halt new.out (T.bytes before.account.told) → StopsOn d P T most bytes new halt
  fault_halts halt b f o = elim (cases_lt text_limit (length bytes)) [
    | inl w ↦ (let more = begins_over w b in
        on_cut halt w (f true (whole_lines within) (last_piece within) (cut_behind d P T first before lines played (whole_lines within) [] true (last_piece within) more.0 new.out halt g more.1 o ready)))
    | inr w ↦ on_all halt w (f false bytes [] (cut_behind d P T first before lines played bytes [] false [] b.0 new.out halt g (within_is w b.0 b.1) o ready))
  ]

  -- a line that is played no further
  line_halts : (line : Line) (halt : Halt) → ComesNext Timed bytes lines (Ok line) → HaltsBy d P T (on_line line) before new halt → StopsOn d P T most bytes new halt
  line_halts line halt s h = elim (cases_lt text_limit (length bytes)) [
    | inl w ↦ on_cut halt w (elim (next_over w (Ok line) s) [
      | inl more ↦ next_stops d P T first before lines played (whole_lines within) more.0 true (last_piece within) new line halt g more.1 h ready
      | inr (all, is, long) ↦ absurd (let k : Ok line ≡ Err (faults.LineTooLong number) = is in cc k)
    ])
    | inr w ↦ on_all halt w (next_stops d P T first before lines played bytes s.0 false [] new line halt g (within_is w (Ok line ∷ s.0) s.1) h ready)
  ]

  module _ (same : new.account ≡ before.account) (part : IsPartOut Memory new.out (T.bytes before.account.told)) where
    -- what is no line, in the whole lines of the text
    bad_in : (goes_on : Bool) (whole piece : List ℕ) (fault : PlanFault) (behind : Results) → plan_lines Timed whole ≡ map Ok lines ++ Err fault ∷ behind → HaltsHere goes_on whole piece (line_halt fault)
    bad_in goes_on whole piece fault behind e =
        left_so same goes_on whole piece (line_halt fault) (bad_stops d P T first before lines played whole behind goes_on piece fault new.out g e part ready)

    -- the piece of a line that is cut off is longer than a line may be
    long_in : whole_said ≡ map Ok lines → line_limit < length (last_piece within) → (n : ℕ) → n ≡ number → HaltsHere true (whole_lines within) (last_piece within) (Refused (Other (LineTooLong n)))
    long_in all long n e =
        let v : Other (LineTooLong n) ≡ Other (cut_verdict (length lines + 1) (length (last_piece within))) =
        ap (λ k. Other (LineTooLong k)) (e ∙ ap (λ k. k + 1) (lines_count Timed (whole_lines within) lines all)) ∙ ap Other (sym (long_verdict (length lines + 1) (length (last_piece within)) long)) in
        left_so same true (whole_lines within) (last_piece within) (Refused (Other (LineTooLong n)))
        (cut_stops d P T (whole_lines within) first before lines played all (last_piece within) (Other (LineTooLong n)) g v ready)

    not_line_halts : (n start last : ℕ) → ComesNext Timed bytes lines (Err (faults.NotLine n start last)) → StopsOn d P T most bytes new (line_halt (faults.NotLine n start last))
    not_line_halts n start last s = elim (cases_lt text_limit (length bytes)) [
      | inl w ↦ on_cut (line_halt (faults.NotLine n start last)) w (elim (next_over w (Err (faults.NotLine n start last)) s) [
        | inl more ↦ bad_in true (whole_lines within) (last_piece within) (faults.NotLine n start last) more.0 more.1
        | inr (all, is, long) ↦ absurd (let k : faults.NotLine n start last ≡ faults.LineTooLong number = cc is in cc k)
      ])
      | inr w ↦ on_all (line_halt (faults.NotLine n start last)) w (bad_in false bytes [] (faults.NotLine n start last) s.0 (within_is w (Err (faults.NotLine n start last) ∷ s.0) s.1))
    ]

    long_line_halts : (n : ℕ) → ComesNext Timed bytes lines (Err (faults.LineTooLong n)) → StopsOn d P T most bytes new (line_halt (faults.LineTooLong n))
    long_line_halts n s = elim (cases_lt text_limit (length bytes)) [
      | inl w ↦ on_cut (line_halt (faults.LineTooLong n)) w (elim (next_over w (Err (faults.LineTooLong n)) s) [
        | inl more ↦ bad_in true (whole_lines within) (last_piece within) (faults.LineTooLong n) more.0 more.1
        | inr (all, is, long) ↦ long_in all long n (let k : n ≡ number = cc is in k)
      ])
      | inr w ↦ on_all (line_halt (faults.LineTooLong n)) w (bad_in false bytes [] (faults.LineTooLong n) s.0 (within_is w (Err (faults.LineTooLong n) ∷ s.0) s.1))
    ]

  -- the text goes on behind its limit
  over_halts : new.account ≡ before.account → text_limit < length bytes → text_lines Timed bytes ≡ map Ok lines → StopsOn d P T most bytes new (Refused (Other (TooLong texts.Plan)))
  over_halts same w e =
      let all = all_over w e in
      on_cut (Refused (Other (TooLong texts.Plan))) w (left_so same true (whole_lines within) (last_piece within) (Refused (Other (TooLong texts.Plan)))
      (cut_stops d P T (whole_lines within) first before lines played all.0 (last_piece within) (Other (TooLong texts.Plan)) g (ap Other (sym (short_verdict (length lines + 1) (length (last_piece within)) all.1))) ready))

  -- wherever it halts
  pub halts_on : (why : Why) (halt : Halt) → Stands Timed bytes lines why → HaltsBy d P T why before new halt → StopsOn d P T most bytes new halt
  halts_on (on_line line) halt s h = line_halts line halt s h
  halts_on (no_line (faults.NotLine n start last)) halt s h = subst (StopsOn d P T most bytes new) (sym h.0) (not_line_halts h.1 h.2 n start last s)
  halts_on (no_line (faults.LineTooLong n)) halt s h = subst (StopsOn d P T most bytes new) (sym h.0) (long_line_halts h.1 h.2 n s)
  halts_on (no_line faults.Memory) halt s h = subst (StopsOn d P T most bytes new) (sym h.0) (fault_halts Memory s (λ goes_on whole piece k. k) h.2)
  halts_on too_long halt s h = subst (StopsOn d P T most bytes new) (sym h.0) (over_halts h.1 s.over s.read)
  halts_on at_end halt s h = on_all halt s.within (halts_after_all d P T bytes first before lines played s.read new halt g h ready)
  halts_on handing halt s h = subst (StopsOn d P T most bytes new) (sym h.0) (fault_halts WriteFault s (λ goes_on whole piece k. k) h.1)
