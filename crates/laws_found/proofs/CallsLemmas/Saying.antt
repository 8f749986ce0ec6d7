-- Ground actions at times, and lines that say their calls.
use Rattle.std.proofs.Common.{◌≡◌, ℕ, zero, suc, ◌+◌, List, [], ◌∷◌, map, All, Some, slice_get, refl, ap, sym, subst, ◌∙◌}
use Rattle.std.proofs.lemmas.List.Elements.{All-nil, All-cons, All-head, All-tail}
use Rattle.plus_fraction.specs.Fraction.{Fraction}
use Rattle.plus_model.specs.Plan as plan
use Rattle.plus_model.specs.Plan.{Called, Instance, ActLine, EndLine}
use Rattle.plus_number.specs.Frac.{IsFrac64}
use Rattle.plus_tree.specs.declared.trees.Domain.{Domain}
use Rattle.plus_tree.specs.declared.trees.Problem.{Problem}
use Rattle.plus_report.specs.Plans.{Timed, plan_text}
use Rattle.plus_plan.specs.declared.forms.Line.{Line}
use Rattle.plus_expansion.specs.Numbers.{label_of}
use Rattle.plus_expansion.specs.Calls.{called_of}
use Rattle.plus_stretch.specs.Tests.{AllPass}
use Rattle.plus_actions.specs.Actions.{ground_actions, IsGroundable}
use Rattle.laws_found.specs.Text.Written.{TimedCall, IsPlanTime, IsPlainCall, shown, written_plan, Say}
use Rattle.plus_validator.specs.Plans.{pair, lines_meant}
use Rattle.plus_validator.specs.Asking.{instances_of}
use Rattle.plus_validator.proofs.Asking.{nothing_passes}
use Rattle.laws_found.specs.Calls.Calls.{HasPlainNames}
use Rattle.laws_found.specs.Calls.Plans.{TimedAction, AreGround, HavePlanTimes, plan_with, labelled, AreCalledBy}
use Rattle.laws_found.proofs.CallsLemmas.Grounded.{each_ground_action_is_called}
use Rattle.laws_found.proofs.CallsLemmas.Plain.{plain_calls}
use Rattle.laws_found.proofs.CallsLemmas.Within.{called_instance_is_within}

-- ---- the calls

abbrev IsGround : Domain → Problem → TimedAction → Type 0
IsGround d p a = (k : ℕ) × (slice_get (ground_actions d p) k ≡ Some a.1)

pub called : (d : Domain) (p : Problem) (acts : List TimedAction) → AreGround d p acts → (calls : List TimedCall) × AreCalledBy d p acts calls
called d p [] g = ([], tt)
called d p (a ∷ acts) g =
    let here = All-head (IsGround d p) a acts g in
    let one = each_ground_action_is_called d p here.0 a.1 here.1 in
    let more = called d p acts (All-tail (IsGround d p) a acts g) in
    ((a.0, one.0) ∷ more.0, (record { time = refl; called = one.1 }, more.1))

all_shown : (d : Domain) (p : Problem) (acts : List TimedAction) (calls : List TimedCall) → AreCalledBy d p acts calls → map shown calls ≡ map labelled acts
all_shown d p [] [] h = refl
all_shown d p [] (c ∷ calls) h = absurd h
all_shown d p (a ∷ acts) [] h = absurd h
all_shown d p (a ∷ acts) (c ∷ calls) h =
    ap (λ (t : Fraction). (t, label_of c.1.name c.1.args) ∷ map shown calls) h.0.time
    ∙ ap (λ (l : List ℕ). (a.0, l) ∷ map shown calls) h.0.called.label
    ∙ ap (λ (ts : List Timed). labelled a ∷ ts) (all_shown d p acts calls h.1)

pub written : (d : Domain) (p : Problem) (acts : List TimedAction) (calls : List TimedCall) (last : Fraction) → AreCalledBy d p acts calls → written_plan calls last ≡ plan_text (map labelled acts) last
written d p acts calls last h = ap (λ (ts : List Timed). plan_text ts last) (all_shown d p acts calls h)

pub all_plain : (d : Domain) (p : Problem) (acts : List TimedAction) (calls : List TimedCall) → HasPlainNames d p → HavePlanTimes acts → AreCalledBy d p acts calls → All IsPlainCall calls
all_plain d p [] [] n t h = All-nil IsPlainCall
all_plain d p [] (c ∷ calls) n t h = absurd h
all_plain d p (a ∷ acts) [] n t h = absurd h
all_plain d p (a ∷ acts) (c ∷ calls) n t h =
    let q = plain_calls d p a.1 c.1 n h.0.called in
    All-cons IsPlainCall c calls
    (record { time = subst IsPlanTime (sym h.0.time) (All-head (λ (x : TimedAction). IsPlanTime x.0) a acts t); name = q.name; args = q.args })
    (all_plain d p acts calls n (All-tail (λ (x : TimedAction). IsPlanTime x.0) a acts t) h.1)

-- ---- the lines

pub meant :
    (d : Domain) (p : Problem) (acts : List TimedAction) (calls : List TimedCall) (last : Fraction) (n : ℕ) (ls : List Line)
    → AreCalledBy d p acts calls → Say n calls last ls → lines_meant (pair d p) ls ≡ plan_with acts last
meant d p [] [] last n ls h s = ap (lines_meant (pair d p)) s.2 ∙ ap (λ (t : Fraction). EndLine t ∷ []) s.1
meant d p [] (c ∷ calls) last n ls h s = absurd h
meant d p (a ∷ acts) [] last n ls h s = absurd h
meant d p (a ∷ acts) (c ∷ calls) last n ls h s =
    ap (lines_meant (pair d p)) s.3
    ∙ ap (λ (t : Fraction). ActLine t (called_of d p c.1.name c.1.args) ∷ lines_meant (pair d p) s.1) (s.2 ∙ h.0.time)
    ∙ ap (λ (o : Called). ActLine a.0 o ∷ lines_meant (pair d p) s.1) h.0.called.called
    ∙ ap (λ (more : List plan.Line). ActLine a.0 (Instance a.1) ∷ more) (meant d p acts calls last (n + 1) s.1 h.1 s.4)

pub within :
    (d : Domain) (p : Problem) (acts : List TimedAction) (calls : List TimedCall) (last : Fraction) (n : ℕ) (ls : List Line)
    → IsGroundable IsFrac64 d p → AreCalledBy d p acts calls → Say n calls last ls → (i : ℕ) → AllPass IsFrac64 (instances_of (pair d p) ls i)
within d p [] [] last n ls g h s zero = subst (λ (ks : List Line). AllPass IsFrac64 (instances_of (pair d p) ks 0)) (sym s.2) nothing_passes
within d p [] [] last n ls g h s (suc i) = subst (λ (ks : List Line). AllPass IsFrac64 (instances_of (pair d p) ks (suc i))) (sym s.2) nothing_passes
within d p [] (c ∷ calls) last n ls g h s i = absurd h
within d p (a ∷ acts) [] last n ls g h s i = absurd h
within d p (a ∷ acts) (c ∷ calls) last n ls g h s zero =
    subst (λ (ks : List Line). AllPass IsFrac64 (instances_of (pair d p) ks 0)) (sym s.3) (called_instance_is_within d p a.1 c.1 g h.0.called)
within d p (a ∷ acts) (c ∷ calls) last n ls g h s (suc i) =
    subst (λ (ks : List Line). AllPass IsFrac64 (instances_of (pair d p) ks (suc i))) (sym s.3) (within d p acts calls last (n + 1) s.1 g h.1 s.4 i)
