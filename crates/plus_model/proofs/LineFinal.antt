-- A line that goes back in time, or stands after the end, stays where it is.
use Rattle.std.proofs.Common.{List, [], ◌∷◌, ◌++◌, subst, ◌∙◌, ap}
use Rattle.plus_fraction.specs.Fraction.{Fraction, ◌<ℚ◌}
use Rattle.plus_model.specs.Plan.{Line, ActLine, EndLine, time_of, IsInOrder}
use Rattle.plus_model.specs.Breach.{TimeGoesBack, AfterEnd}
use Rattle.plus_model.specs.Laws.{LineBreachIsFinal}
use Rattle.plus_model.proofs.Moments.{not_below}

no_back : (before : List Line) (last line : Line) (more : List Line) → time_of line <ℚ time_of last → IsInOrder ((before ++ last ∷ []) ++ line ∷ more) → ⊥
no_back [] (ActLine t c) line more h o = not_below _ _ h o.0
no_back [] (EndLine t) line more h o = o
no_back (EndLine t ∷ []) last line more h o = o
no_back (EndLine t ∷ y ∷ ys) last line more h o = o
no_back (ActLine t c ∷ []) last line more h o = no_back [] last line more h o.1
no_back (ActLine t c ∷ y ∷ ys) last line more h o = no_back (y ∷ ys) last line more h o.1

no_after : (before : List Line) (t : Fraction) (line : Line) (more : List Line) → IsInOrder ((before ++ EndLine t ∷ []) ++ line ∷ more) → ⊥
no_after [] t line more o = o
no_after (EndLine u ∷ []) t line more o = o
no_after (EndLine u ∷ y ∷ ys) t line more o = o
no_after (ActLine u c ∷ []) t line more o = no_after [] t line more o.1
no_after (ActLine u c ∷ y ∷ ys) t line more o = no_after (y ∷ ys) t line more o.1

pub line_breach_is_final : LineBreachIsFinal
line_breach_is_final P L h line TimeGoesBack k L' h' more e t =
    let b = k.breach in
    no_back b.0 (ActLine b.1 b.2) line more b.4 (subst IsInOrder (e ∙ ap (λ ls. ls ++ line ∷ more) b.3.lines) t.prefix.ordered)
line_breach_is_final P L h line AfterEnd k L' h' more e t =
    let b = k.breach in
    no_after b.0 b.1 line more (subst IsInOrder (e ∙ ap (λ ls. ls ++ line ∷ more) b.2.lines) t.prefix.ordered)
