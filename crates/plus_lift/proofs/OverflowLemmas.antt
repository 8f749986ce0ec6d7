-- The line of an overflow, put piece by piece.
use Rattle.std.proofs.Common.{◌≡◌, ◌≢◌, ℕ, List, [], ◌∷◌, ◌++◌, ap, sym, ◌∙◌, codes, append_assoc, append-nil}
use Rattle.std.specs.Prelude.{decimal, ℤ, pos, unsigned_abs, Result, Ok, Err, OnOk}
use Rattle.std.specs.Fmt.{signed_decimal}
use Rattle.plus_fraction.specs.Fraction.{Fraction}
use Rattle.plus_number.specs.declared.frac.Frac64.{Frac64}
use Rattle.plus_number.specs.Frac.{fraction_of}
use Rattle.plus_state.specs.declared.term.Overflow.{Overflow}
use Rattle.plus_report.specs.Text.{newline, bottom_text, fraction_text}
use Rattle.plus_report.specs.Verdicts.{sign_text, operation_text}
use Rattle.plus_report.proofs.TextLemmas.{bottom_text-one, bottom_text-other, fraction_text-parts}

pub no_bottom : (old : List ℕ) (d : ℕ) → d ≡ 1 → old ≡ old ++ bottom_text d
no_bottom old d e = sym (append-nil old) ∙ ap (λ w. old ++ w) (bottom_text-one d e)

pub bottom_put : (old mid new word : List ℕ) (d : ℕ) → d ≢ 1 → mid ≡ old ++ 47 ∷ [] → new ≡ mid ++ word → word ≡ decimal d → new ≡ old ++ bottom_text d
bottom_put old mid new word d n m e w =
    e ∙ ap (λ x. mid ++ x) w ∙ ap (λ x. x ++ decimal d) m ∙ append_assoc old (47 ∷ []) (decimal d) ∙ ap (λ x. old ++ x) (bottom_text-other d n)

pub fraction_put :
    {E : Type 0} (r : Result (Unit {0}) E) (x : Fraction) (old mid new word : List ℕ) (top bottom : ℤ) → top ≡ x.top → bottom ≡ pos x.bottom
    → word ≡ signed_decimal top → mid ≡ old ++ word → OnOk r (new ≡ mid ++ bottom_text (unsigned_abs bottom)) → OnOk r (new ≡ old ++ fraction_text x)
fraction_put (Ok u) x old mid new word top bottom t b w m e =
    e ∙ ap (λ y. y ++ bottom_text (unsigned_abs bottom)) (m ∙ ap (λ y. old ++ y) w)
    ∙ append_assoc old (signed_decimal top) (bottom_text (unsigned_abs bottom)) ∙ ap (λ y. old ++ y) (fraction_text-parts x top bottom t b)
fraction_put (Err u) x old mid new word top bottom t b w m e = tt

pub line_put :
    (o : Overflow Frac64) (first left sign right last word : List ℕ) → first ≡ codes "beyond: number " → left ≡ first ++ fraction_text (fraction_of o.left)
    → sign ≡ left ++ word → word ≡ sign_text o.sign → right ≡ sign ++ fraction_text (fraction_of o.right) → last ≡ right ++ newline
    → last ≡ codes "beyond: number " ++ operation_text fraction_of o
unfolding operation_text
line_put o first left sign right last word a b c w d e =
    let l = fraction_text (fraction_of o.left) in
    let r = fraction_text (fraction_of o.right) in
    let t = sign_text o.sign in
    let whole : last ≡ (((codes "beyond: number " ++ l) ++ t) ++ r) ++ newline =
    e ∙ ap (λ x. x ++ newline) (d ∙ ap (λ x. x ++ r) (c ∙ ap (λ x. left ++ x) w ∙ ap (λ x. x ++ t) (b ∙ ap (λ x. x ++ l) a))) in
    whole ∙ append_assoc ((codes "beyond: number " ++ l) ++ t) r newline ∙ append_assoc (codes "beyond: number " ++ l) t (r ++ newline)
    ∙ append_assoc (codes "beyond: number ") l (t ++ (r ++ newline)) ∙ ap (λ x. codes "beyond: number " ++ x) (sym (append_assoc l t (r ++ newline)))
