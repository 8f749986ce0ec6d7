-- Lines say one plan, so no two plans are written alike.
use Rattle.std.proofs.Common.{◌≡◌, ℕ, ◌+◌, List, [], ◌∷◌, Result, Ok, refl, sym, ap, ◌∙◌, subst}
use Rattle.std.specs.Prelude.{map, All}
use Rattle.plus_fraction.specs.Fraction.{Fraction}
use Rattle.plus_tree.specs.declared.trees.Call.{Call}
use Rattle.plus_plan.specs.declared.faults.PlanFault.{PlanFault}
use Rattle.plus_plan.specs.declared.forms.Time.{Time}
use Rattle.plus_plan.specs.declared.forms.Line.{Line}
use Rattle.plus_plan.specs.declared.forms.Line.TheVariants as lines
use Rattle.plus_plan.specs.declared.forms.PlanForm.TheVariants.{Timed}
use Rattle.plus_plan.specs.Lines.{plan_lines}
use Rattle.plus_plan.specs.TimeValue.{value_of}
use Rattle.laws_found.specs.Text.Written.{TimedCall, IsPlanTime, IsPlainCall, written_plan, HasShortLines, Say}
use Rattle.laws_found.proofs.TextLemmas.Whole.{reads_back}

abbrev said : List Line → List (Result Line PlanFault)
said ls = map Ok ls

tail_is : (l m : Line) (ls ms : List Line) → said (l ∷ ls) ≡ said (m ∷ ms) → (l ≡ m) × (said ls ≡ said ms)
tail_is l m ls ms e = (cc, cc)

lines_are : (ls ms : List Line) → said ls ≡ said ms → ls ≡ ms
lines_are [] [] e = refl
lines_are [] (m ∷ ms) e = absurd cc
lines_are (l ∷ ls) [] e = absurd cc
lines_are (l ∷ ls) (m ∷ ms) e =
    let t = tail_is l m ls ms e in
    let more = lines_are ls ms t.1 in
    λ i. t.0 i ∷ more i

-- what a line of the one says, a line of the other says
ends_same : (n : ℕ) (t t' : Time) → ◌≡◌ {A = List Line} (lines.End n t ∷ []) (lines.End n t' ∷ []) → t ≡ t'
ends_same n t t' e = cc

acts_same : (n : ℕ) (t t' : Time) (c c' : Call) (ls ms : List Line) → lines.Act n t c ∷ ls ≡ lines.Act n t' c' ∷ ms → (t ≡ t') × (c ≡ c') × (ls ≡ ms)
acts_same n t t' c c' ls ms e = (cc, cc, cc)

apart : (n : ℕ) (t t' : Time) (c : Call) (ls ms : List Line) → lines.Act n t c ∷ ls ≡ lines.End n t' ∷ ms → ⊥
apart n t t' c ls ms e = absurd cc

abbrev Same : List TimedCall → List TimedCall → Fraction → Fraction → Type 0
Same calls calls' last last' = (calls ≡ calls') × (last ≡ last')

say_one : (n : ℕ) (calls calls' : List TimedCall) (last last' : Fraction) (ls : List Line) → Say n calls last ls → Say n calls' last' ls → Same calls calls' last last'
say_one n [] [] last last' ls s s' =
    let t = ends_same n s.0 s'.0 (sym s.2 ∙ s'.2) in
    (refl, sym s.1 ∙ ap value_of t ∙ s'.1)
say_one n [] (c ∷ cs) last last' ls s s' = absurd (apart n s'.0 s.0 c.1 s'.1 [] (sym s'.3 ∙ s.2))
say_one n (c ∷ cs) [] last last' ls s s' = absurd (apart n s.0 s'.0 c.1 s.1 [] (sym s.3 ∙ s'.2))
say_one n (c ∷ cs) (d ∷ ds) last last' ls s s' =
    let a = acts_same n s.0 s'.0 c.1 d.1 s.1 s'.1 (sym s.3 ∙ s'.3) in
    let time : c.0 ≡ d.0 = sym s.2 ∙ ap value_of a.0 ∙ s'.2 in
    let more = say_one (n + 1) cs ds last last' s.1 s.4 (subst (Say (n + 1) ds last') (sym a.2) s'.4) in
    ((λ i. (time i, a.1 i) ∷ more.0 i), more.1)

pub one_plan : (calls calls' : List TimedCall) (last last' : Fraction) → All IsPlainCall calls → IsPlanTime last → All IsPlainCall calls' → IsPlanTime last'
    → HasShortLines (written_plan calls last) → written_plan calls last ≡ written_plan calls' last' → (calls ≡ calls') × (last ≡ last')
one_plan calls calls' last last' all h all' h' short e =
    let r = reads_back calls last all h short in
    let r' = reads_back calls' last' all' h' (subst HasShortLines e short) in
    let same = lines_are r.0 r'.0 (sym r.1 ∙ ap (plan_lines Timed) e ∙ r'.1) in
    say_one 1 calls calls' last last' r.0 r.2 (subst (Say 1 calls' last') (sym same) r'.2)
