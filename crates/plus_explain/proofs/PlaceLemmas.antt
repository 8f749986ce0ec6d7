-- Where lines begin and end.
use Rattle.std.proofs.Common.{◌≡◌, ℕ, ◌+◌, ◌-◌, ◌<◌, ◌≤◌, Bool, true, false, List, ◌++◌, length, get_or, take, drop, eqb, sym, refl, ap, ◌∙◌, subst, inl, inr, arith, length-drop}
use Rattle.std.specs.Prelude.{not}
use Rattle.std.specs.List.{prefix_len, suffix_len}
use Rattle.std.proofs.lemmas.List.{get_or-drop, get_or-take, length-take, drop-take, drop-drop}
use Rattle.std.proofs.Math.Seq.{take-add}
use Rattle.std.proofs.lemmas.List.Sums.{prefix_len_is, suffix_len_is}
use Rattle.std.proofs.lemmas.Bool.{not_from_false}
use Rattle.std.proofs.lemmas.Bool.Decides.{eqb_tells}
use Rattle.plus_explain.specs.Place.{line_before, line_behind}

passes : (x : ℕ) → (x ≡ 10 → ⊥) → not (eqb x 10) ≡ true
passes x other = elim (eqb_tells x 10) [ inl w ↦ absurd (other w.1) | inr w ↦ not_from_false (eqb x 10) w.0 ]

stops : (x : ℕ) → x ≡ 10 → not (eqb x 10) ≡ false
stops x is = rw is refl

-- a line ends at the first line feed behind a place in it
pub line_end_is :
    (text : List ℕ) (offset last : ℕ) → offset ≤ last → last ≤ length text
    → ((k : ℕ) → offset ≤ k → k < last → get_or text k 0 ≡ 10 → ⊥) → (last < length text → get_or text last 0 ≡ 10)
    → take (last - offset) (drop offset text) ≡ line_behind text offset
line_end_is text offset last from within none feed =
    let inside : last - offset ≤ length (drop offset text) = omega (arith, length-drop offset text) in
    let before : (k : ℕ) → k < last - offset → not (eqb (get_or (drop offset text) k 0) 10) ≡ true =
    λ k below. rw (get_or-drop offset text k 0) (passes _ (none (offset + k) (omega arith) (omega arith))) in
    let at : last - offset < length (drop offset text) → not (eqb (get_or (drop offset text) (last - offset) 0) 10) ≡ false =
    λ below.
    let place : offset + (last - offset) ≡ last = omega arith in
    let more : last < length text = omega (arith, length-drop offset text) in
    rw (get_or-drop offset text (last - offset) 0, place) (stops _ (feed more)) in
    let is : prefix_len (λ x. not (eqb x 10)) (drop offset text) ≡ last - offset =
    prefix_len_is (λ x. not (eqb x 10)) (drop offset text) (last - offset) 0 inside before at in
    sym (ap (λ n. take n (drop offset text)) is)

-- a line begins behind the last line feed before a place in it
pub line_start_is :
    (text : List ℕ) (offset first : ℕ) → offset ≤ length text → first ≤ offset
    → ((k : ℕ) → first ≤ k → k < offset → get_or text k 0 ≡ 10 → ⊥) → (0 < first → get_or text (first - 1) 0 ≡ 10)
    → drop first (take offset text) ≡ line_before text offset
line_start_is text offset first within from none feed =
    let size : length (take offset text) ≡ offset = omega (arith, length-take offset text) in
    let behind : (k : ℕ) → first ≤ k → k < length (take offset text) → not (eqb (get_or (take offset text) k 0) 10) ≡ true =
    λ k least below.
    let less : k < offset = omega (arith, size) in
    rw (get_or-take offset text k 0 less) (passes _ (none k least less)) in
    let at : 0 < first → not (eqb (get_or (take offset text) (first - 1) 0) 10) ≡ false =
    λ some.
    let less : first - 1 < offset = omega arith in
    rw (get_or-take offset text (first - 1) 0 less) (stops _ (feed some)) in
    let is : suffix_len (λ x. not (eqb x 10)) (take offset text) ≡ length (take offset text) - first =
    suffix_len_is (λ x. not (eqb x 10)) (take offset text) first 0 (omega (arith, size)) behind at in
    let place : length (take offset text) - suffix_len (λ x. not (eqb x 10)) (take offset text) ≡ first = omega (arith, size, is) in
    sym (ap (λ n. drop n (take offset text)) place)

-- a line is what stands in it before a place, and what stands there from it on
pub line_is :
    (text : List ℕ) (offset first last : ℕ) → first ≤ offset → offset ≤ last
    → drop first (take offset text) ≡ line_before text offset → take (last - offset) (drop offset text) ≡ line_behind text offset
    → take (last - first) (drop first text) ≡ line_before text offset ++ line_behind text offset
line_is text offset first last from to before behind =
    let parts : last - first ≡ (offset - first) + (last - offset) = omega arith in
    let place : first + (offset - first) ≡ offset = omega arith in
    let front : take (offset - first) (drop first text) ≡ line_before text offset =
    sym (drop-take first (offset - first) text) ∙ ap (λ n. drop first (take n text)) place ∙ before in
    let rest : drop (offset - first) (drop first text) ≡ drop offset text =
    drop-drop (offset - first) first text ∙ ap (λ n. drop n text) (omega arith) in
    ap (λ n. take n (drop first text)) parts ∙ take-add (offset - first) (last - offset) (drop first text)
    ∙ ap (λ xs. xs ++ take (last - offset) (drop (offset - first) (drop first text))) front
    ∙ ap (λ xs. line_before text offset ++ take (last - offset) xs) rest
    ∙ ap (λ xs. line_before text offset ++ xs) behind
