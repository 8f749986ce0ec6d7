-- The laws on a pair and its translation.
use Rattle.std.proofs.Common.{◌≡◌, true, false, ◌&&◌, List, [], ◌∷◌, ◌++◌, map, length, replicate, refl, ap, ap₂, sym, subst, ◌∙◌, pos}
use Rattle.std.proofs.lemmas.List.Elements.{All-weaker}
use Rattle.plus_fraction.specs.Fraction.{Fraction, whole}
use Rattle.plus_model.specs.Terms.{State, Problem}
use Rattle.plus_model.specs.Value.{holds}
use Rattle.plus_model.specs.Plan.{Called}
use Rattle.plus_model.specs.Trajectory.{literals}
use Rattle.plus_tree.specs.declared.trees.Domain.{Domain}
use Rattle.plus_tree.specs.declared.trees.Problem as tree
use Rattle.plus_types.specs.Faults.{domain_context, problem_context}
use Rattle.plus_expansion.specs.Expansion.{expanded}
use Rattle.plus_expansion.specs.Calls.{called_of}
use Rattle.plus_expansion.proofs.Conditions.{condition-fits}
use Rattle.plus_expansion.proofs.Timed.{timed-in}
use Rattle.plus_expansion.proofs.Fitting.{events-in, processes-in, called-fits, length-truths, length-values, EventIn, ProcessIn}
use Rattle.plus_steps.specs.Translation as ground
use Rattle.plus_steps.specs.Stepped.{SteppedPlan}
use Rattle.plus_steps.specs.Numeric.{NumericPlan}
use Rattle.plus_steps.specs.Translation.{Part, strip, part_meant, goal_translated, clock_value, initial_translated}
use Rattle.plus_steps.specs.Stepped.{Move}
use Rattle.plus_steps.specs.Laws.{CallName, CanBeStepped, EventInside, ProcessInside}
use Rattle.plus_steps.proofs.Same.{same_plan}
use Rattle.plus_steps.proofs.GroundLaws.{plans_are_stepped, stepped_has_one_plan}
use Rattle.plus_translation.specs.Translated.{translated_domain, translated_problem}
use Rattle.plus_translation.proofs.Kept as kept
use Rattle.plus_translation.proofs.Actions.{goal_condition}
use Rattle.plus_translation.proofs.Clock.{all_on}
use Rattle.plus_translation.proofs.Beginning.{initial_same}
use Rattle.plus_translation.proofs.Calls.{Given, part_of, call_of, c', t, contexts, here, later_is, to_part, from_part, part_back, call_back}

module _ (d : Domain) (p : tree.Problem) (q : Fraction) (g : Given d p q) where
  abbrev E : Problem
  E = expanded (translated_domain q d p) (translated_problem q d p)

  abbrev O : Problem
  O = expanded d p

  abbrev old : CallName → Called
  old call = called_of d p call.0 call.1

  abbrev in_translation : CallName → Called
  in_translation call = called_of (translated_domain q d p) (translated_problem q d p) call.0 call.1

  goal_same : (u : State) → holds E.goal u ≡ holds (goal_translated O) u
  goal_same u =
      goal_condition (domain_context d) (problem_context d p) (c' d p q g) (contexts d p q g) d.events refl g.marks (t d p q g).events p.goal u
      ∙ ap (λ g. holds g u && holds (ground.none_hold O.events) u) (kept.condition_same (problem_context d p) (problem_context d p) (c' d p q g) (here d p q g) p.goal [] [] [] true tt (λ x kind e. refl) (t d p q g).goal)

  initial_is : E.initial ≡ initial_translated O
  unfolding literals
  initial_is =
      initial_same (problem_context d p) (c' d p q g) (here d p q g) d.events refl q g.positive p.init (t d p q g).init g.grid refl g.clock
      ∙ ap (λ b. record { atoms = (literals O (whole (pos 0)) O.initial).atoms ++ replicate (length O.events) false; fluents = O.initial.fluents ++ clock_value b 0 }) (sym (later_is d p q g))

  can : CanBeStepped O q old
  can =
      let k = t d p q g in
      record {
        passes = g.positive;
        grid = all_on q g.positive (problem_context d p) p.init g.grid;
        timed = timed-in (problem_context d p) k.same p.init k.init;
        processes = All-weaker (ProcessIn (problem_context d p)) (ProcessInside O.atoms O.fluents) (λ x h. record { condition = h.0; rates = h.1 }) O.processes (processes-in d p k);
        events = All-weaker (EventIn (problem_context d p)) (EventInside O.atoms O.fluents) (λ x h. record { condition = h.0; effects = h.1 }) O.events (events-in d p k);
        initial = record { atoms_fit = length-truths _ 0 O.atoms; fluents_fit = length-values _ 0 O.fluents };
        goal = condition-fits (problem_context d p) (problem_context d p) k.same p.goal [] [] true tt k.goal;
        calls = λ call a e. called-fits d p k call.0 call.1 a e;
      }

  -- ---- plans of the translation are stepped plans
  to_parts : (calls : List CallName) → NumericPlan in_translation E.goal E.initial calls → NumericPlan (part_meant O q old) (goal_translated O) (initial_translated O) (map part_of calls)
  to_parts calls h =
      same_plan in_translation (part_meant O q old) part_of (to_part d p q g) E.goal (goal_translated O) goal_same calls (initial_translated O)
      (subst (λ s. NumericPlan in_translation E.goal s calls) initial_is h)

  pub plan_is_stepped : (calls : List CallName) → NumericPlan in_translation E.goal E.initial calls → SteppedPlan O q old (strip (map part_of calls))
  plan_is_stepped calls h = plans_are_stepped CallName O q old (map part_of calls) can (to_parts calls h)

  -- ---- and each stepped plan is that of one plan of the translation
  from_parts : (parts : List (Part CallName)) → NumericPlan (part_meant O q old) (goal_translated O) (initial_translated O) parts → NumericPlan in_translation E.goal E.initial (map call_of parts)
  from_parts parts h =
      subst (λ s. NumericPlan in_translation E.goal s (map call_of parts)) (sym initial_is)
      (same_plan (part_meant O q old) in_translation call_of (from_part d p q g) (goal_translated O) E.goal (λ u. sym (goal_same u)) parts (initial_translated O) h)

  parts_back : (parts : List (Part CallName)) (s : State) → NumericPlan (part_meant O q old) (goal_translated O) s parts → map part_of (map call_of parts) ≡ parts
  parts_back [] s h = refl
  parts_back (x ∷ parts) s h = ap₂ (λ y ys. y ∷ ys) (part_back d p q g x h.1.action h.1.called) (parts_back parts h.0 h.2)

  calls_back : (calls : List CallName) (s : State) → NumericPlan in_translation E.goal s calls → map call_of (map part_of calls) ≡ calls
  calls_back [] s h = refl
  calls_back (x ∷ calls) s h = ap₂ (λ y ys. y ∷ ys) (call_back d p q g x h.1.action h.1.called) (calls_back calls h.0 h.2)

  pub record OneOfPair (moves : List (Move CallName)) : Type 0 where
    pub calls : List CallName
    pub plan : NumericPlan in_translation E.goal E.initial calls
    pub left : strip (map part_of calls) ≡ moves
    pub one : (other : List CallName) → NumericPlan in_translation E.goal E.initial other → strip (map part_of other) ≡ moves → other ≡ calls

  pub stepped_is_of_one : (moves : List (Move CallName)) → SteppedPlan O q old moves → OneOfPair moves
  stepped_is_of_one moves h =
      let r = stepped_has_one_plan CallName O q old moves can h in
      let back = parts_back r.parts (initial_translated O) r.plan in
      record {
        calls = map call_of r.parts;
        plan = from_parts r.parts r.plan;
        left = ap strip back ∙ r.is;
        one = λ other k e. sym (calls_back other E.initial k) ∙ ap (map call_of) (r.one (map part_of other) (to_parts other k) e);
      }
