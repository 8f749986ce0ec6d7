-- One 0 less at the end of the places.
use Rattle.std.proofs.Common.{◌≡◌, ℕ, zero, suc, ◌-◌, ◌/◌, ◌%◌, Bool, cond, refl, arith}
use Rattle.std.specs.Prelude.{◌==◌}
use Rattle.plus_tokens.specs.declared.span.Span.{Span}
use Rattle.plus_parser.specs.Phrases.Literals.{trimmed}

-- where places are left, the last digit says what is dropped
pub trimmed_last :
    (negative : Bool) (s : Span) (places digits : ℕ) → (places ≡ 0 → ⊥)
    → trimmed negative s places digits
    ≡ cond (digits % 10 == 0) (trimmed negative s (places - 1) (digits / 10)) (record { negative = negative; digits = digits; places = places; span = s })
trimmed_last negative s zero digits some = absurd (some refl)
trimmed_last negative s (suc p) digits some =
    let less : suc p - 1 ≡ p = omega arith in
    rw less refl

pub ruleset trimming = (trimmed_last)
