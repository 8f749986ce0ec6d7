-- What a condition names is there in the state of a timeline, also after a refusal.
use Rattle.std.proofs.Common.{◌≡◌, true, length, ap, sym, subst, ◌∙◌}
use Rattle.plus_model.specs.Terms.{Condition, Action, Problem, State}
use Rattle.plus_number.specs.declared.exact.Exact.{Ghosts}
use Rattle.plus_number.specs.declared.frac.Frac64.{Frac64}
use Rattle.plus_number.specs.Frac.{fraction_of}
use Rattle.plus_state.specs.declared.problem.Ground.{Ground}
use Rattle.plus_state.specs.Fits.{Fits, StateFits, ActionFits, ProblemFits}
use Rattle.plus_state.specs.View.{problem_of}
use Rattle.plus_types.specs.declared.typed.Typed.{Typed}
use Rattle.plus_numbering.specs.Tables.{context}
use Rattle.plus_expansion.specs.Numbers.{ground_names}
use Rattle.plus_timeline.specs.Timeline.{TimelineView}
use Rattle.plus_timeline.specs.Serving.{Serves}
use Rattle.plus_replay.specs.Replay.{IsGroundOf}

-- the ids of an instance are those of the ground problem
pub instance_fits : {E : Ghosts Frac64} (t : Typed) (g : Ground Frac64 E) (a : Action) → IsGroundOf t g
    → ActionFits (length (ground_names (context t) t.domain.predicates)) (length (ground_names (context t) t.domain.functions)) a
    → ActionFits (problem_of fraction_of g).atoms (problem_of fraction_of g).fluents a
instance_fits t g a i f = subst (λ (P : Problem). ActionFits P.atoms P.fluents a) (sym i.expands) f

module _ (P : Problem) (v : TimelineView) (serves : Serves P v) where
  pub action_there : (a : Action) → ActionFits P.atoms P.fluents a → ActionFits v.atoms v.fluents a
  action_there a f = subst (λ n. ActionFits n v.fluents a) (sym serves.atoms) (subst (λ n. ActionFits P.atoms n a) (sym serves.fluents) f)

  pub fits_there : (w : TimelineView) (s : State) (c : Condition) → w ≡ record v { ended = true } → StateFits w.atoms w.fluents s → Fits P.atoms P.fluents c → Fits (length s.atoms) (length s.fluents) c
  fits_there w s c e i f =
      let atoms = i.atoms_fit ∙ ap (λ (u : TimelineView). u.atoms) e ∙ serves.atoms in
      let fluents = i.fluents_fit ∙ ap (λ (u : TimelineView). u.fluents) e ∙ serves.fluents in
      subst (λ n. Fits n (length s.fluents) c) (sym atoms) (subst (λ n. Fits P.atoms n c) (sym fluents) f)

-- what the goal names is there in the first state
pub fits_first : (P : Problem) → ProblemFits P → Fits (length P.initial.atoms) (length P.initial.fluents) P.goal
fits_first P f = subst (λ n. Fits n (length P.initial.fluents) P.goal) (sym f.initial.atoms_fit) (subst (λ n. Fits P.atoms n P.goal) (sym f.initial.fluents_fit) f.goal)
