-- The actions of the translation are those of the ground translation, but for how their conditions and effects are put.
use Rattle.std.proofs.Common.{◌≡◌, ℕ, true, false, ◌&&◌, List, [], ◌∷◌, ◌++◌, map, length, refl, ap, ap₂, sym, ◌∙◌, flat_map, All, Some}
use Rattle.std.specs.List.{list_any}
use Rattle.std.specs.Str.{bytes_eq}
use Rattle.std.proofs.lemmas.List.Elements.{All-head, All-tail}
use Rattle.std.proofs.lemmas.List.Folds.{flat_map-map}
use Rattle.std.proofs.lemmas.Grind.{flat_map-append}
use Rattle.plus_fraction.specs.Fraction.{Fraction}
use Rattle.plus_model.specs.Terms as model
use Rattle.plus_model.specs.Terms.{Action, Condition, Effect, Event, Process, State, Problem}
use Rattle.plus_model.specs.Value.{holds, value}
use Rattle.plus_tree.specs.declared.trees.Schema.{Schema}
use Rattle.plus_tree.specs.Expr.{Expr}
use Rattle.plus_tree.specs.Cond.{Cond, c_any, conds_of}
use Rattle.plus_tree.specs.Effect as effects
use Rattle.plus_tree.specs.Effect.{Effects, e_all, e_when, effects_of}
use Rattle.plus_types.specs.Types.{bindings_of}
use Rattle.plus_types.specs.Faults.{Context}
use Rattle.plus_expansion.specs.Numbers.{ground_names, head_names}
use Rattle.plus_expansion.specs.Environments.{Environment, environments}
use Rattle.plus_expansion.specs.Expansion.{expression_meant, condition_meant, conditions_meant, effects_meant, all_effects_meant, event_meant, process_meant, action_meant, instances_of}
use Rattle.plus_expansion.proofs.Members.{Stands}
use Rattle.plus_expansion.proofs.WellTyped.{SchemaTyped}
use Rattle.plus_steps.specs.Translation as ground
use Rattle.plus_steps.specs.Translation.{negated, all_of, any_of, whenever, flow_write, flows_of, clears_from, fires_from, fresh_from}
use Rattle.plus_steps.proofs.Same.{Same, SameAction, same_refl, same_equal, same_trans, same_append, flat_swap}
use Rattle.plus_translation.specs.Renamed.{nowhere, renamed_from}
use Rattle.plus_translation.specs.Leaves.{over_effect, nested, Placed, leaves_of, some}
use Rattle.plus_translation.specs.Translated.{both, leaf, flow_node, flows, mark_name, mark_heads, none_hold, none_repeats, clears, fires, old_translated}
use Rattle.plus_translation.proofs.Meant.{Contexts}
use Rattle.plus_translation.proofs.Kept as kept
use Rattle.plus_translation.proofs.Kept.{AreKept}
use Rattle.plus_translation.proofs.Nests.{over_meant}
use Rattle.plus_translation.proofs.FlowNests.{quantified_kept, flow_same}
use Rattle.plus_translation.proofs.Events.{all_fires, all_clears, all_none, all_some, all_fresh}
use Rattle.plus_translation.proofs.Truths.{all_hold, some_hold, all_of_holds, any_of_holds, joined_holds, conditions_map}

pub effects_flat : (c : Context) (env : Environment) (es : List effects.Effect) → all_effects_meant c env (effects_of es) ≡ flat_map (effects_meant c env) es
effects_flat c env [] = refl
effects_flat c env (e ∷ es) = ap (λ xs. effects_meant c env e ++ xs) (effects_flat c env es)

-- ---- the processes
module _ (d c c' : Context) (w : Contexts d c c') (q : Fraction) (Q : Expr) (steps : (env : Environment) (t : State) → value (expression_meant c' env Q) t ≡ Some q) where
  module _ (a : Schema) (typed : SchemaTyped d true a) where
    abbrev put_here : Placed → effects.Effect
    put_here p = over_effect a.params (nested p.lists (e_when a.condition (leaf (flow_node Q p.leaf.node) ∷ []) nowhere))

    abbrev put_at : Environment → Placed → List Effect
    put_at e' p = effects_meant c' e' (nested p.lists (e_when a.condition (leaf (flow_node Q p.leaf.node) ∷ []) nowhere))

    over_each : (ps : List Placed) → flat_map (λ p. effects_meant c' [] (put_here p)) ps ≡ flat_map (λ p. flat_map (λ e'. put_at e' p) (environments c' a.params [])) ps
    over_each [] = refl
    over_each (p ∷ ps) = ap₂ (λ x y. x ++ y) (over_meant c' [] a.params (nested p.lists (e_when a.condition (leaf (flow_node Q p.leaf.node) ∷ []) nowhere))) (over_each ps)

    process_flows : Same (flat_map (effects_meant c' []) (flows Q a)) (flat_map (flows_of q) (map (process_meant c a) (environments c a.params [])))
    process_flows =
        same_trans _ _ _ (same_equal _ _ (flat_map-map (effects_meant c' []) put_here (leaves_of a.effect) ∙ over_each (leaves_of a.effect)))
        (same_trans _ _ _ (flat_swap (λ p e'. put_at e' p) (leaves_of a.effect) (environments c' a.params []))
        (same_trans _ _ _
        (quantified_kept d c c' w (λ e. Unit {0}) [] (λ e x o n k. tt) (λ e. flows_of q (process_meant c a e)) (λ e'. flat_map (put_at e') (leaves_of a.effect)) a.params [] [] [] (λ x h. refl) tt tt typed.variables (λ x kind e. cc)
        (λ e e' u s r. flow_same d c c' w q Q steps a.condition (bindings_of a.params) e s typed.condition a.effect (bindings_of a.params) e e' (λ x h. h) r s r typed.effect))
        (same_equal _ _ (sym (flat_map-map (flows_of q) (process_meant c a) (environments c a.params []))))))

  pub all_flows : (processes : List Schema) → All (SchemaTyped d true) processes → Same (flat_map (effects_meant c' []) (flat_map (flows Q) processes)) (flat_map (flows_of q) (instances_of c (process_meant c) processes))
  all_flows [] t = same_refl []
  all_flows (a ∷ more) t =
      same_trans _ _ _ (same_equal _ _ (flat_map-append (effects_meant c' []) (flows Q a) (flat_map (flows Q) more)))
      (same_trans _ _ _ (same_append _ _ _ _ (process_flows a (All-head (SchemaTyped d true) a more t)) (all_flows more (All-tail (SchemaTyped d true) a more t)))
      (same_equal _ _ (sym (flat_map-append (flows_of q) (map (process_meant c a) (environments c a.params [])) (instances_of c (process_meant c) more)))))

-- ---- conditions and actions
module _ (d c c' : Context) (w : Contexts d c c') (all : List Schema)
    (marks : c'.predicates ≡ c.predicates ++ mark_heads 1 (renamed_from 1 all))
    (new : (k : ℕ) → list_any (bytes_eq (mark_name k)) (head_names c.predicates) ≡ false)
    (typed : All (SchemaTyped d false) all) where
  abbrev events : List Event
  events = instances_of c (event_meant c) all

  abbrev base : ℕ
  base = length (ground_names c' c.predicates)

  both_holds : (t : State) (env : Environment) (fs : List Cond) → holds (condition_meant c' env true (both fs)) t ≡ all_hold t (map (condition_meant c' env true) fs)
  both_holds t env fs = joined_holds true t (conditions_meant c' env true (conds_of fs)) ∙ ap (all_hold t) (conditions_map c' env true fs)

  pub none_seen : (env : Environment) (t : State) → all_hold t (map (condition_meant c' env true) (none_hold (renamed_from 1 all))) ≡ holds (ground.none_hold events) t
  none_seen env t = all_none d c c' w all marks new env typed t ∙ sym (all_of_holds t (map (λ (e : Event). negated e.condition) events))

  pub step_condition : (t : State) → holds (condition_meant c' [] true (both (none_hold (renamed_from 1 all)))) t ≡ holds (ground.none_hold events) t
  step_condition t = both_holds t [] (none_hold (renamed_from 1 all)) ∙ none_seen [] t

  pub goal_condition : (g : Cond) (t : State) → holds (condition_meant c' [] true (both (g ∷ none_hold (renamed_from 1 all)))) t ≡ holds (condition_meant c' [] true g) t && holds (ground.none_hold events) t
  goal_condition g t = both_holds t [] (g ∷ none_hold (renamed_from 1 all)) ∙ ap (λ b. holds (condition_meant c' [] true g) t && b) (none_seen [] t)

  pub fire_condition : (t : State) → holds (condition_meant c' [] true (both (c_any (conds_of (map (λ a. some a.params a.condition) (renamed_from 1 all))) nowhere ∷ none_repeats 1 (renamed_from 1 all)))) t
      ≡ holds (ground.some_hold events) t && holds (fresh_from base events) t
  fire_condition t =
      both_holds t [] (c_any (conds_of (map (λ a. some a.params a.condition) (renamed_from 1 all))) nowhere ∷ none_repeats 1 (renamed_from 1 all))
      ∙ ap₂ (λ x y. x && y)
      (joined_holds false t (conditions_meant c' [] true (conds_of (map (λ a. some a.params a.condition) (renamed_from 1 all))))
      ∙ ap (some_hold t) (conditions_map c' [] true (map (λ a. some a.params a.condition) (renamed_from 1 all)))
      ∙ all_some d c c' w all marks new [] typed t ∙ sym (any_of_holds t (map (λ (e : Event). e.condition) events)))
      (all_fresh d c c' w all marks new [] typed t)

  pub fire_effects : Same (all_effects_meant c' [] (effects_of (fires 1 (renamed_from 1 all)))) (fires_from base events)
  fire_effects = same_trans _ _ _ (same_equal _ _ (effects_flat c' [] (fires 1 (renamed_from 1 all)))) (all_fires d c c' w all marks new [] typed)

  -- what stands between the flows and the marks that go
  pub step_effects : (q : Fraction) (Q : Expr) → ((env : Environment) (t : State) → value (expression_meant c' env Q) t ≡ Some q) → (processes : List Schema) → All (SchemaTyped d true) processes
      → (middle : List effects.Effect) (ms : List Effect) → Same (flat_map (effects_meant c' []) middle) ms
      → Same (all_effects_meant c' [] (effects_of (flat_map (flows Q) processes ++ (middle ++ clears 1 (renamed_from 1 all))))) (flat_map (flows_of q) (instances_of c (process_meant c) processes) ++ (ms ++ clears_from base events))
  step_effects q Q steps processes pt middle ms m =
      same_trans _ _ _ (same_equal _ _ (effects_flat c' [] (flat_map (flows Q) processes ++ (middle ++ clears 1 (renamed_from 1 all)))
      ∙ flat_map-append (effects_meant c' []) (flat_map (flows Q) processes) (middle ++ clears 1 (renamed_from 1 all))
      ∙ ap (λ xs. flat_map (effects_meant c' []) (flat_map (flows Q) processes) ++ xs) (flat_map-append (effects_meant c' []) middle (clears 1 (renamed_from 1 all)))))
      (same_append _ _ _ _ (all_flows d c c' w q Q steps processes pt) (same_append _ _ _ _ m (same_equal _ _ (all_clears d c c' w all marks new [] typed))))

  -- an old action: the marks of all events go, in the environment of the action's parameters
  pub old_same : (a : Schema) → SchemaTyped d false a → (env env' : Environment) → Stands c (bindings_of a.params) env → AreKept (length c.objects) (bindings_of a.params) env env'
      → SameAction (action_meant c' (old_translated (none_hold (renamed_from 1 all)) (clears 1 (renamed_from 1 all)) a) env')
      (record { label = []; condition = model.Both (condition_meant c env true a.condition) (ground.none_hold events); effects = effects_meant c env a.effect ++ clears_from base events })
  old_same a at env env' s r = record {
    condition = λ t. both_holds t env' (a.condition ∷ none_hold (renamed_from 1 all))
        ∙ ap₂ (λ x y. x && y) (ap (λ x. holds x t) (kept.condition_same d c c' w a.condition (bindings_of a.params) env env' true s r at.condition)) (none_seen env' t);
    effects = same_equal _ _ (ap₂ (λ x y. x ++ y) (kept.effect_same d c c' w a.effect (bindings_of a.params) env env' s r at.effect)
        (effects_flat c' env' (clears 1 (renamed_from 1 all)) ∙ all_clears d c c' w all marks new env' typed));
  }
