-- The plan of the acts that are kept.
use Rattle.std.proofs.Common.{◌≡◌, ℕ, zero, suc, ◌+◌, ◌-◌, ◌≤◌, ◌<◌, List, [], ◌∷◌, ◌++◌, map, drop, length, refl, ap, sym, subst, ◌∙◌, arith, append_assoc}
use Rattle.std.specs.Prelude.{Some, slice_get, slice_index_or, All}
use Rattle.std.proofs.lemmas.List.Elements.{All-head, All-tail}
use Rattle.plus_fraction.specs.Fraction.{Fraction}
use Rattle.plus_model.specs.Running.{IsRising}
use Rattle.plus_planner.proofs.PlaceLemmas.{map-snoc}
use Rattle.plus_planner.proofs.DecidingLemmas.{action_at}
use Rattle.plus_report.specs.Plans.{Timed, acts_of, plan_text}
use Rattle.plus_trim.specs.declared.acts.TimedAction.{TimedAction}
use Rattle.plus_trim.specs.Acts.{Act, act_of, with_some, chosen}
use Rattle.plus_trim_command.specs.Trim.{labelled, note_text, trimmed_text}
use Rattle.plus_trim_command.proofs.ActLemmas.{drop_here}

-- inside a list it does not matter what would stand outside
pub at_place : (xs : List ℕ) (i d e : ℕ) → i < length xs → slice_index_or xs i d ≡ slice_index_or xs i e
at_place [] i d e h = absurd (omega arith)
at_place (x ∷ xs) zero d e h = refl
at_place (x ∷ xs) (suc i) d e h = at_place xs i d e (omega arith)

module _ {Q : Type 0} (v : Q → Fraction) (acts : List (TimedAction Q)) (places : List ℕ) (i : ℕ) where
  abbrev xs : List Act
  xs = map (act_of v) acts

  pub place_more : (place : ℕ) (a : TimedAction Q) (old new : List (Q × List ℕ)) (label : List ℕ) → i < length places → place ≡ slice_index_or places i place → place < length acts → a ≡ slice_index_or acts place a → label ≡ a.action.label → new ≡ old ++ (a.time, label) ∷ []
      → acts_of v old ++ labelled (chosen xs (drop i places)) ≡ labelled (chosen xs places) → acts_of v new ++ labelled (chosen xs (drop (i + 1) places)) ≡ labelled (chosen xs places)
  place_more place a old new label h e l f g n k =
      ap (λ zs. acts_of v zs ++ labelled (chosen xs (drop (i + 1) places))) n
      ∙ ap (λ zs. zs ++ labelled (chosen xs (drop (i + 1) places))) (map-snoc (λ (b : Q × List ℕ). (v b.0, b.1)) old (a.time, label))
      ∙ append_assoc (acts_of v old) ((v a.time, label) ∷ []) (labelled (chosen xs (drop (i + 1) places)))
      ∙ ap (λ (m : List ℕ). acts_of v old ++ (v a.time, m) ∷ labelled (chosen xs (drop (i + 1) places))) g
      ∙ sym (ap (λ o. acts_of v old ++ labelled (with_some o (chosen xs (drop (i + 1) places)))) (action_at (act_of v) acts place a l f))
      ∙ sym (ap (λ ps. acts_of v old ++ labelled (chosen xs ps)) (drop_here places i place h e))
      ∙ k

-- places that rise and are below a number are no more than it
pub rising_few : (k n : ℕ) (ps : List ℕ) → k ≤ n → IsRising k ps → All (λ p. p < n) ps → k + length ps ≤ n
rising_few k n [] h r a = omega arith
rising_few k n (p ∷ ps) h r a =
    let l : p < n = All-head (λ q. q < n) p ps a in
    let m : suc p + length ps ≤ n = rising_few (suc p) n ps (omega arith) r.1 (All-tail (λ q. q < n) p ps a) in
    let o = r.0 in
    omega arith

-- the lines of the plan, and the note
pub text_is : (xs : List Act) (places : List ℕ) (acts : List Timed) (u last : Fraction) (front all : List ℕ) (dropped beyond : ℕ) → acts ≡ labelled (chosen xs places) → u ≡ last → front ≡ plan_text acts u → all ≡ front ++ note_text dropped beyond → dropped ≡ length xs - length places → all ≡ trimmed_text xs last places beyond
text_is xs places acts u last front all dropped beyond a t f n d =
    n
    ∙ ap (λ zs. zs ++ note_text dropped beyond) (f ∙ ap (λ zs. plan_text zs u) a ∙ ap (plan_text (labelled (chosen xs places))) t)
    ∙ ap (λ m. plan_text (labelled (chosen xs places)) last ++ note_text m beyond) d
