-- Texts in the words in which they are put.
use Rattle.std.proofs.Common.{◌≡◌, ◌≢◌, ℕ, zero, suc, ◌+◌, ◌≤◌, ◌-◌, Bool, true, false, List, [], ◌++◌, refl, sym, ap, ◌∙◌, arith, rules, tests, codes, append_assoc, append-nil, add-one, add-zero}
use Rattle.std.specs.Prelude.{decimal, ℤ, pos, unsigned_abs, Option, Some, None, option_map}
use Rattle.std.specs.Fmt.{signed_decimal}
use Rattle.plus_fraction.specs.Fraction.{Fraction, compared}
use Rattle.plus_model.specs.Terms.{Same}
use Rattle.plus_model.specs.Value.{passes}
use Rattle.plus_report.specs.Text.{newline, bottom_text, fraction_text, lines_below, mark_line, value_line, new_value_line}

pub bottom_text-one : (d : ℕ) → d ≡ 1 → [] ≡ bottom_text d
unfolding bottom_text
bottom_text-one d e = search (rules, tests)

pub bottom_text-other : (d : ℕ) → d ≢ 1 → codes "/" ++ decimal d ≡ bottom_text d
unfolding bottom_text
bottom_text-other d n = search (rules, tests)

-- the parts of a fraction
pub fraction_text-parts : (x : Fraction) (top bottom : ℤ) → top ≡ x.top → bottom ≡ pos x.bottom
    → signed_decimal top ++ bottom_text (unsigned_abs bottom) ≡ fraction_text x
unfolding fraction_text
fraction_text-parts x top bottom t b = ap (λ z. signed_decimal z ++ bottom_text (unsigned_abs bottom)) t ∙ ap (λ z. signed_decimal x.top ++ bottom_text (unsigned_abs z)) b

pub fraction_text-top : (x : Fraction) (top : ℤ) → top ≡ x.top
    → signed_decimal top ++ bottom_text x.bottom ≡ fraction_text x
unfolding fraction_text
fraction_text-top x top t = ap (λ z. signed_decimal z ++ bottom_text x.bottom) t

pub mark_line-same : (mark label : List ℕ) (was is : Bool) → is ≡ true
    → [] ≡ mark_line mark label was is
unfolding mark_line
mark_line-same mark label true is e = rw e refl
mark_line-same mark label false is e = refl

pub mark_line-absent : (mark label : List ℕ) (was is : Bool) → was ≡ false
    → [] ≡ mark_line mark label was is
unfolding mark_line
mark_line-absent mark label was is e = rw e refl

pub mark_line-lost : (mark label : List ℕ) (was is : Bool) → was ≡ true → is ≡ false
    → mark ++ label ++ newline ≡ mark_line mark label was is
unfolding mark_line
mark_line-lost mark label was is e d = rw (e, d) refl

module _ {Q : Type 0} (v : Q → Fraction) (indent label : List ℕ) where
  pub new_value_line-none : (old new : Option Q) → new ≡ None
      → [] ≡ new_value_line indent label (option_map v old) (option_map v new)
  unfolding new_value_line
  new_value_line-none old new e = rw e refl

  pub new_value_line-first : (old new : Option Q) (y : Q) → old ≡ None → new ≡ Some y
      → value_line indent label (v y) ≡ new_value_line indent label (option_map v old) (option_map v new)
  unfolding new_value_line
  new_value_line-first old new y d e = rw (d, e) refl

  pub new_value_line-same : (old new : Option Q) (x y : Q) → old ≡ Some x → new ≡ Some y
      → passes Same (compared (v x) (v y)) ≡ true
      → [] ≡ new_value_line indent label (option_map v old) (option_map v new)
  unfolding new_value_line
  new_value_line-same old new x y d e s = rw (d, e, s) refl

  pub new_value_line-other : (old new : Option Q) (x y : Q) → old ≡ Some x → new ≡ Some y
      → passes Same (compared (v x) (v y)) ≡ false
      → value_line indent label (v y) ≡ new_value_line indent label (option_map v old) (option_map v new)
  unfolding new_value_line
  new_value_line-other old new x y d e s = rw (d, e, s) refl

pub lines_below-more : (line : ℕ → List ℕ) (i j : ℕ) → j ≡ i + 1
    → lines_below line i ++ line i ≡ lines_below line j
unfolding lines_below
lines_below-more line i j e = rw (e, add-one) refl

-- the lines after these
pub lines_below-rest : (line : ℕ → List ℕ) (i n : ℕ) → i ≤ n
    → (rest : List ℕ) × (lines_below line i ++ rest ≡ lines_below line n)
lines_below-rest line i n h = by_gap (n - i) n (omega arith)
  where
    by_gap : (k n : ℕ) → n ≡ i + k
        → (rest : List ℕ) × (lines_below line i ++ rest ≡ lines_below line n)
    by_gap zero n e = ([], append-nil _ ∙ ap (lines_below line) (sym (e ∙ add-zero i)))
    by_gap (suc k) n e =
        let before = by_gap k (i + k) refl in
        (before.0 ++ line (i + k), sym (append_assoc (lines_below line i) before.0 (line (i + k))) ∙ ap (λ t. t ++ line (i + k)) before.1 ∙ lines_below-more line (i + k) n (omega (arith, e)))
