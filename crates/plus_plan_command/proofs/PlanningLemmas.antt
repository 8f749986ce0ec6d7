-- What is searched, by what is ground.
use Rattle.std.proofs.Common.{◌≡◌, ℕ, Bool, true, false, ◌≤◌, ◌+◌, ◌*◌, ◌^◌, List, [], length, map, refl, ap, sym, subst, ◌∙◌, inl, inr, arith}
use Rattle.std.proofs.lemmas.List.{length-map}
use Rattle.std.specs.Prelude.{pos, Result, Ok, Err, IfOk, IfErr}
use Rattle.plus_fraction.specs.Fraction.{Fraction, whole, ◌<ℚ◌}
use Rattle.plus_model.specs.Terms as model
use Rattle.plus_model.specs.Terms.{Action}
use Rattle.plus_number.specs.declared.frac.Frac64.{Frac64}
use Rattle.plus_number.specs.Frac.{fraction_of, IsFrac64}
use Rattle.plus_state.specs.Fits.{ActionFits}
use Rattle.plus_tree.specs.declared.trees.Domain.{Domain}
use Rattle.plus_tree.specs.declared.trees.Problem.{Problem}
use Rattle.plus_expansion.specs.Expansion.{expanded}
use Rattle.plus_expansion.specs.Counting as pair
use Rattle.plus_numbering.specs.declared.faults.GroundFault.{GroundFault}
use Rattle.plus_ground.specs.Refusals.{RefusesGround}
use Rattle.plus_actions.specs.Actions.{ground_actions, AllFit, RefusesActions}
use Rattle.plus_planner.specs.declared.searching.Answer.{Answer}
use Rattle.plus_planner.specs.Places.{task_from, CanSearch}
use Rattle.plus_planner.specs.Grid.{Task, IsKept}
use Rattle.plus_planner.specs.Searches.{IsNotSpent}
use Rattle.plus_cut.specs.Answers.{CutAnswers}
use Rattle.plus_cut.specs.Lost.{some_false}
use Rattle.plus_cut.proofs.LostLemmas.{lost_is_kept}
use Rattle.plus_possible.specs.Possible.{possible, possible_actions, narrowed}
use Rattle.plus_possible.proofs.PlaceLemmas.{fewer, enough_for_fewer}
use Rattle.plus_possible.proofs.NarrowLemmas.{can_search_few}
use Rattle.plus_possible.proofs.AnswersLemmas.{answers_for_all, kept_for_fewer}
use Rattle.plus_plan_command.specs.Planning.Planned.{IsInside, IsPlanned, IsUnplanned, cut_atoms, cut_asked}

-- the ground actions of the pair may be searched
pub can_search :
    {A : Type 0} (v : A → Action) (P : model.Problem) (d : Domain) (p : Problem) (items : List A) (q : Fraction)
    → P ≡ expanded d p → AllFit d p (map v items) → length items ≤ 10000 → whole (pos 0) <ℚ q → CanSearch (task_from P (map v items) q)
can_search v P d p items q e f n a =
    let m = length-map items v in
    record {
      above = a;
      fit = λ k action g. subst (λ (x : model.Problem). ActionFits x.atoms x.fluents action) (sym e) (f k action g);
      few = omega arith;
      some = refl;
    }

-- why there is no search
pub ungrounded : (d : Domain) (p : Problem) (fault : GroundFault) → RefusesGround IsFrac64 d p fault → IsUnplanned d p fault
ungrounded d p fault h = inl h

pub without_actions : (d : Domain) (p : Problem) (fault : GroundFault) → pair.IsGroundable IsFrac64 d p → RefusesActions IsFrac64 d p fault → IsUnplanned d p fault
without_actions d p fault g h = inr (g, h)

-- at the exit of a `?`
pub exits : {A : Type 0} (d : Domain) (p : Problem) (r : Result A GroundFault) (fault y : GroundFault) → r ≡ Err y → y ≡ fault → IsUnplanned d p fault → IfErr r (IsUnplanned d p)
exits {A} d p r fault y e f h = subst (λ (x : Result A GroundFault). IfErr x (IsUnplanned d p)) (sym e) (subst (IsUnplanned d p) (sym f) h)

-- the answer of a search over what was ground of the pair is one over the pair
pub planned :
    {A : Type 0} (v : A → Action) (d : Domain) (p : Problem) (P : model.Problem) (items : List A) (q r : Fraction) (k tries : ℕ) (cut : Bool) (answer : Answer Frac64)
    → P ≡ expanded d p → map v items ≡ ground_actions d p → r ≡ q → IsInside d p → CutAnswers fraction_of IsFrac64 (task_from P (map v items) r) (cut_asked cut (task_from P (map v items) r)) k tries answer
    → ((k + 1) * (length items + 2) ^ k ≤ tries → IsNotSpent answer)
    → IsPlanned d p q k tries cut answer
planned v d p P items q r k tries cut answer a b c i h n = record {
  inside = i;
  answers = subst (λ (x : Fraction). CutAnswers fraction_of IsFrac64 (task_from (expanded d p) (ground_actions d p) x) (cut_asked cut (task_from (expanded d p) (ground_actions d p) x)) k tries answer) c
      (subst (λ (xs : List Action). CutAnswers fraction_of IsFrac64 (task_from (expanded d p) xs r) (cut_asked cut (task_from (expanded d p) xs r)) k tries answer) b
      (subst (λ (x : model.Problem). CutAnswers fraction_of IsFrac64 (task_from x (map v items) r) (cut_asked cut (task_from x (map v items) r)) k tries answer) a h));
  enough = λ e. n (subst (λ (m : ℕ). (k + 1) * (m + 2) ^ k ≤ tries) (ap length (sym b) ∙ length-map items v) e);
}

-- no plan goes on where the cut that is asked for says yes
pub asked_is_kept : (cut : Bool) (task : Task) → whole (pos 0) <ℚ task.interval → IsKept IsFrac64 task (cut_asked cut task)
asked_is_kept true task above = lost_is_kept IsFrac64 task above
asked_is_kept false task above = λ s m yes. absurd (let no : false ≡ true = yes in cc no)

-- the same of a cut that looks at these atoms
pub atoms_are_kept :
    (cut : Bool) (task : Task) (atoms : List ℕ) → whole (pos 0) <ℚ task.interval → atoms ≡ cut_atoms cut task
    → IsKept IsFrac64 task (λ s m. some_false atoms s)
atoms_are_kept cut task atoms above e = subst (λ (xs : List ℕ). IsKept IsFrac64 task (λ s m. some_false xs s)) (sym e) (asked_is_kept cut task above)

-- and what is answered with it is answered with the cut that is asked for
pub asked_answers :
    {E : Type 0} (cut : Bool) (task : Task) (atoms : List ℕ) (k tries : ℕ) (r : Result (Answer Frac64) E) → atoms ≡ cut_atoms cut task
    → IfOk r (CutAnswers fraction_of IsFrac64 task (λ s m. some_false atoms s) k tries)
    → IfOk r (CutAnswers fraction_of IsFrac64 task (cut_asked cut task) k tries)
asked_answers cut task atoms k tries r e h =
    subst (λ (xs : List ℕ). IfOk r (CutAnswers fraction_of IsFrac64 task (λ s m. some_false xs s) k tries)) e h

-- ---- over the actions that may be done

-- these may be searched, too
pub narrowed_can : (P : model.Problem) (all kept : List Action) (q : Fraction) → kept ≡ possible_actions P all → CanSearch (task_from P all q) → CanSearch (task_from P kept q)
narrowed_can P all kept q is c = subst (λ (xs : List Action). CanSearch (task_from P xs q)) (sym is) (can_search_few (task_from P all q) c)

pub narrowed_is :
    (P R : model.Problem) (all kept xs : List Action) (q r : Fraction) → R ≡ P → xs ≡ kept → r ≡ q → kept ≡ possible_actions P all
    → task_from R xs r ≡ narrowed (task_from P all q)
narrowed_is P R all kept xs q r e f g is = λ i. task_from (e i) ((f ∙ is) i) (g i)

-- the cut for all actions is kept over these
pub kept_possible : (cut : Bool) (task few : Task) (atoms : List ℕ) → whole (pos 0) <ℚ task.interval → atoms ≡ cut_atoms cut task → few ≡ narrowed task → IsKept IsFrac64 few (λ s m. some_false atoms s)
kept_possible cut task few atoms above e f =
    subst (λ (t : Task). IsKept IsFrac64 t (λ s m. some_false atoms s)) (sym f)
    (kept_for_fewer IsFrac64 task (λ s m. some_false atoms s) (atoms_are_kept cut task atoms above e))

-- what is answered over these is answered over all
for_all : {E : Type 0} (task : Task) (says : model.State → ℕ → Bool) (k tries : ℕ) (r : Result (Answer Frac64) E)
    → IfOk r (CutAnswers fraction_of IsFrac64 (narrowed task) says k tries) → IfOk r (CutAnswers fraction_of IsFrac64 task says k tries)
for_all task says k tries (Ok answer) h = answers_for_all fraction_of IsFrac64 task says k tries answer h
for_all task says k tries (Err e) h = tt

pub answers_possible :
    {E : Type 0} (task few : Task) (says : model.State → ℕ → Bool) (k tries : ℕ) (r : Result (Answer Frac64) E) → few ≡ narrowed task
    → IfOk r (CutAnswers fraction_of IsFrac64 few says k tries) → IfOk r (CutAnswers fraction_of IsFrac64 task says k tries)
answers_possible task few says k tries r f h = for_all task says k tries r (subst (λ (t : Task). IfOk r (CutAnswers fraction_of IsFrac64 t says k tries)) f h)

-- and tries that suffice for all suffice for these
pub enough_possible :
    {A : Type 0} (v : A → Action) (task few : Task) (items kept : List A) (k tries : ℕ) → few ≡ narrowed task → task.actions ≡ map v items → few.actions ≡ map v kept
    → (k + 1) * (length items + 2) ^ k ≤ tries → (k + 1) * (length kept + 2) ^ k ≤ tries
enough_possible v task few items kept k tries f a b e =
    let less = fewer (possible task.problem task.actions) task.actions in
    let kept_is : length kept ≡ length (possible_actions task.problem task.actions) = sym (length-map kept v) ∙ sym (ap length b) ∙ ap (λ (t : Task). length t.actions) f in
    let all_is : length task.actions ≡ length items = ap length a ∙ length-map items v in
    enough_for_fewer (length kept) (length items) k tries (omega (arith, less, kept_is, all_is)) e
