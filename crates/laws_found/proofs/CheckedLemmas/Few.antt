-- A call has as many arguments as its action has parameters, and so a line has room for it.
use Rattle.std.proofs.Common.{◌≡◌, ◌≤◌, ℕ, zero, suc, Bool, true, false, nat_eq, List, [], ◌∷◌, ◌++◌, length, Option, Some, None, slice_get, refl, sym, ap₂, ◌∙◌, subst, arith}
use Rattle.std.specs.Prelude.{pos, All, if◌then◌else◌}
use Rattle.std.specs.List.{list_any, position_or_len}
use Rattle.std.specs.Str.{bytes_eq}
use Rattle.std.proofs.lemmas.List.Elements.{All-nil, All-cons, All-head, All-tail}
use Rattle.plus_model.specs.Terms.{Action}
use Rattle.plus_model.specs.Plan.{Instance}
use Rattle.plus_tree.specs.declared.terms.TypedName.{TypedName}
use Rattle.plus_tree.specs.declared.trees.Call.{Call}
use Rattle.plus_tree.specs.declared.trees.Schema.{Schema}
use Rattle.plus_tree.specs.declared.trees.Domain.{Domain}
use Rattle.plus_tree.specs.declared.trees.Problem.{Problem}
use Rattle.plus_types.specs.Faults.{Context, problem_context, action_names}
use Rattle.plus_expansion.specs.Objects.{members_of, object_place}
use Rattle.plus_expansion.specs.Environments.{Environment}
use Rattle.plus_expansion.specs.Calls.{bound_by, called_in, called_by, called_of}
use Rattle.laws_found.specs.Text.Written.{TimedCall, HasFewArguments, written_plan, HasShortLines}
use Rattle.laws_found.specs.Calls.Plans.{TimedAction, AreCalledBy}
use Rattle.laws_found.specs.Room.{HasFewParameters}
use Rattle.plus_fraction.specs.Fraction.{Fraction, whole, ◌<ℚ◌}
use Rattle.plus_number.specs.declared.frac.Frac64.{Frac64}
use Rattle.plus_state.specs.declared.outcome.TimedPlan.{TimedPlan}
use Rattle.plus_report.specs.Plans.{plan_text}
use Rattle.plus_actions.specs.Actions.{ground_actions}
use Rattle.plus_planner.specs.declared.searching.Answer.TheVariants.{Plan}
use Rattle.plus_planner.specs.Grid.{ticks, tick_after}
use Rattle.plus_plan_command.specs.Planning.Planned.{IsPlanned}
use Rattle.plus_reply.specs.Pair.Pair.{depth_limit, SpellsWellTyped}
use Rattle.plus_plan_command.specs.Plan.{answer_text}
use Rattle.laws_found.specs.Calls.Decided.{decided_from}
use Rattle.laws_found.proofs.CheckedLemmas.Steps.{NamesArePlain, LabelsAreDecided, DecidedAreGround, TimesAreDecided, ActionsAreCalled, CallsAreWritten, CallsArePlain, FewHaveRoom}

where_true : (b : Bool) (r : Option Environment) (x : Environment) → (if b then r else None) ≡ Some x → r ≡ Some x
where_true true r x e = e
where_true false r x e = cc e

one_each : (c : Context) (vs : List TypedName) (args : List (List ℕ)) (env out : Environment) → bound_by c vs args env ≡ Some out → length args ≡ length vs
one_each c [] [] env out e = refl
one_each c [] (a ∷ args) env out e = cc e
one_each c (v ∷ vs) [] env out e = cc e
one_each c (v ∷ vs) (a ∷ args) env out e =
    let inner : Environment = env ++ (v.name.name, object_place c a) ∷ [] in
    let more = one_each c vs args inner out (where_true (list_any (nat_eq (object_place c a)) (members_of c v.kind.name)) (bound_by c vs args inner) out e) in
    omega (arith, more)

abbrev IsShort : Schema → Type 0
IsShort a = length a.params ≤ 61

at_place : (xs : List Schema) (k : ℕ) (a : Schema) → All IsShort xs → slice_get xs k ≡ Some a → IsShort a
at_place [] k a few e = cc e
at_place (x ∷ xs) zero a few e = subst IsShort (let s : x ≡ a = cc e in s) (All-head IsShort x xs few)
at_place (x ∷ xs) (suc k) a few e = at_place xs k a (All-tail IsShort x xs few) e

bound_few : (c : Context) (name : List ℕ) (args : List (List ℕ)) (a : Schema) (r : Option Environment) (action : Action) → IsShort a → bound_by c a.params args [] ≡ r → called_in c name a r ≡ Instance action → length args ≤ 61
bound_few c name args a None action few b e = cc e
bound_few c name args a (Some env) action few b e = omega (arith, few, one_each c a.params args [] env b)

called_few : (c : Context) (name : List ℕ) (args : List (List ℕ)) (xs : List Schema) (k : ℕ) (o : Option Schema) (action : Action) → All IsShort xs → slice_get xs k ≡ o → called_by c name args o ≡ Instance action → length args ≤ 61
called_few c name args xs k None action few s e = cc e
called_few c name args xs k (Some a) action few s e = bound_few c name args a (bound_by c a.params args []) action (at_place xs k a few s) refl e

one_few : (d : Domain) (p : Problem) (action : Action) (call : Call) → HasFewParameters d → called_of d p call.name call.args ≡ Instance action → length call.args ≤ 61
one_few d p action call few e =
    let k = position_or_len (bytes_eq call.name) (action_names d) in
    called_few (problem_context d p) call.name call.args d.actions k (slice_get d.actions k) action few refl e

pub all_few : (d : Domain) (p : Problem) (acts : List TimedAction) (calls : List TimedCall) → HasFewParameters d → AreCalledBy d p acts calls → All HasFewArguments calls
all_few d p [] [] few h = All-nil HasFewArguments
all_few d p [] (c ∷ calls) few h = absurd h
all_few d p (a ∷ acts) [] few h = absurd h
all_few d p (a ∷ acts) (c ∷ calls) few h =
    All-cons HasFewArguments c calls (one_few d p a.1 c.1 few h.0.called.called) (all_few d p acts calls few h.1)

-- ---- the plan that was found

module _ (domain problem : List ℕ) (d : Domain) (p : Problem) (q : Fraction) (k tries : ℕ) (cut : Bool) (plan : TimedPlan Frac64) (names : NamesArePlain) (labels : LabelsAreDecided) (ground : DecidedAreGround) (times : TimesAreDecided) (called : ActionsAreCalled) (written : CallsAreWritten) (plain : CallsArePlain) where
  pub few_have_room :
      FewHaveRoom → SpellsWellTyped domain problem d p → whole (pos 0) <ℚ q → IsPlanned d p q k tries cut (Plan plan) → HasFewParameters d → HasShortLines (answer_text k (Plan plan))
  few_have_room room t above planned few =
      let actions = ground_actions d p in
      let ds = planned.answers.decisions in
      let acts = decided_from actions q 0 ds in
      let last = ticks q (tick_after actions 0 ds) in
      let c = called d p acts (ground d p q 0 ds) in
      let h = times actions q 0 ds above planned.answers.is.goal.ends.plays.times in
      let all = plain d p acts c.0 (names depth_limit domain problem d p t.spelled.domain_spelled t.spelled.problem_spelled) h.0 c.1 in
      let text : answer_text k (Plan plan) ≡ written_plan c.0 last =
      ap₂ plan_text (planned.answers.timed.acts ∙ labels actions q 0 ds) planned.answers.timed.ends ∙ sym (written d p acts c.0 last c.1) in
      subst HasShortLines (sym text) (room c.0 last all (all_few d p acts c.0 few c.1) h.1)
