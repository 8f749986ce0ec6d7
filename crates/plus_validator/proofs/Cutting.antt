-- Where a text is cut behind its last LF.
use Rattle.std.proofs.Common.{◌≡◌, ℕ, suc, ◌+◌, Bool, true, false, ◌==◌, List, [], ◌∷◌, ◌++◌, length, refl, sym, ap, ◌∙◌, arith, cond}
use Rattle.std.specs.Prelude.{◌≢◌, All, not}
use Rattle.std.specs.List.{prefix_len}
use Rattle.std.proofs.lemmas.List.Elements.{All-nil, All-cons}
use Rattle.plus_plan.specs.Cut.{line_end, goes_on}
use Rattle.plus_plan.specs.Pieces.{AtLine}
use Rattle.plus_validator.specs.Refused.{IsCut}

abbrev pub NoLf : List ℕ → Type 0
NoLf bytes = All (λ b. b ≢ 10) bytes

pub not_ten : (b : ℕ) → (b == 10) ≡ false → b ≢ 10
not_ten b e k = (let f : true ≡ false = ap (λ x. x == 10) (sym k) ∙ e in cc f)

no_lf_by : (x : ℕ) (xs : List ℕ) (t : Bool) → (x == 10) ≡ t → cond (not t) (1 + prefix_len goes_on xs) 0 ≡ suc (length xs) → (prefix_len goes_on xs ≡ length xs → NoLf xs) → NoLf (x ∷ xs)
no_lf_by x xs true e h more = absurd (omega arith)
no_lf_by x xs false e h more = All-cons (λ (b : ℕ). b ≢ 10) x xs (not_ten x e) (more (omega arith))

no_lf_in : (xs : List ℕ) → prefix_len goes_on xs ≡ length xs → NoLf xs
no_lf_in [] h = All-nil (λ (b : ℕ). b ≢ 10)
no_lf_in (x ∷ xs) h = no_lf_by x xs (x == 10) refl h (no_lf_in xs)

-- bytes whose first line is all of them
pub no_lf_from : (xs : List ℕ) → line_end xs 0 ≡ length xs → NoLf xs
no_lf_from xs h = no_lf_in xs (omega arith)

-- whole lines, and a piece of one line behind them
pub cut_here : (given rest : List ℕ) → AtLine given → NoLf rest → IsCut (given ++ rest) given rest
cut_here given rest at none = record { is = refl; in_one_line = none; at_line = at }
