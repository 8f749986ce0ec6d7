-- A text from an offset on: its first line, and the lines behind it.
use Rattle.std.proofs.Common.{◌≡◌, ℕ, suc, ◌+◌, ◌-◌, ◌<◌, ◌≤◌, Bool, true, false, cond, List, [], ◌∷◌, length, take, drop, refl, sym, ap, ◌∙◌, arith, length-drop}
use Rattle.std.specs.Prelude.{◌==◌, not}
use Rattle.std.specs.List.{prefix_len}
use Rattle.std.proofs.lemmas.List.{drop_min, drop-drop}
use Rattle.std.proofs.lemmas.List.Sums.{prefix_len-le-length}
use Rattle.plus_plan.specs.Cut.{with_front, lines_of, goes_on, line_end, line_from, next_line}

-- how many bytes the first line has
abbrev first_len : List ℕ → ℕ
first_len text = prefix_len goes_on text

-- the first line, and the lines behind it
abbrev Cuts : List ℕ → Type 0
Cuts text = lines_of text ≡ take (first_len text) text ∷ lines_of (drop (suc (first_len text)) text)

longer : (b : ℕ) (bs : List ℕ) → (0 < length bs → Cuts bs) → with_front b (lines_of bs) ≡ take (1 + first_len bs) (b ∷ bs) ∷ lines_of (drop (1 + first_len bs) bs)
longer b [] more = refl
longer b (c ∷ cs) more =
    let one : suc (first_len (c ∷ cs)) ≡ 1 + first_len (c ∷ cs) = omega arith in
    ap (with_front b) (more (omega arith)) ∙ ap (λ n. take n (b ∷ c ∷ cs) ∷ lines_of (drop n (c ∷ cs))) one

at_byte : (b : ℕ) (bs : List ℕ) (t : Bool) → (0 < length bs → Cuts bs) → cond t ([] ∷ lines_of bs) (with_front b (lines_of bs)) ≡ take (cond (not t) (1 + first_len bs) 0) (b ∷ bs) ∷ lines_of (drop (cond (not t) (1 + first_len bs) 0) bs)
at_byte b bs true more = refl
at_byte b bs false more = longer b bs more

cut_first : (text : List ℕ) → 0 < length text → Cuts text
cut_first [] lt = absurd (omega arith)
cut_first (b ∷ bs) lt = at_byte b bs (b == 10) (λ l. cut_first bs l)

pub line_end-le : (text : List ℕ) (from : ℕ) → from ≤ length text → line_end text from ≤ length text
line_end-le text from le = omega (arith, prefix_len-le-length goes_on (drop from text), length-drop from text)

pub cut_at : (text : List ℕ) (from : ℕ) → from < length text → lines_of (drop from text) ≡ line_from text from ∷ lines_of (drop (next_line text from) text)
cut_at text from lt =
    let some : 0 < length (drop from text) = omega (arith, length-drop from text) in
    let bytes : first_len (drop from text) ≡ line_end text from - from = omega arith in
    let next : from + suc (first_len (drop from text)) ≡ line_end text from + 1 = omega arith in
    cut_first (drop from text) some
    ∙ ap (λ n. take n (drop from text) ∷ lines_of (drop (suc (first_len (drop from text))) (drop from text))) bytes
    ∙ ap (λ (rest : List ℕ). line_from text from ∷ lines_of rest) (drop-drop (suc (first_len (drop from text))) from text ∙ ap (λ n. drop n text) next ∙ sym (drop_min (line_end text from + 1) text))
