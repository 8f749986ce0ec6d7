-- Writes fluent by fluent, done one after the other, are those of each fluent, fluent by fluent.
use Rattle.std.proofs.Common.{◌≡◌, ℕ, zero, suc, ◌+◌, ◌<◌, List, [], ◌∷◌, ◌++◌, length, set, refl, ap, ap₂, sym, subst, ◌∙◌, arith, append_assoc}
use Rattle.std.proofs.lemmas.List.{length-set}
use Rattle.std.specs.Prelude.{Option}
use Rattle.plus_fraction.specs.Fraction.{Fraction}
use Rattle.plus_state.specs.Node.{Node}
use Rattle.plus_state.specs.Due.{Update, updated, all_updated, new_fluents}
use Rattle.plus_state.specs.Steps.{updated_nodes, all_updated_nodes, fluents_nodes}
use Rattle.plus_state.specs.Changes.{AreIn}
use Rattle.plus_state.specs.Writes.{on, From, Ordered, value_at, after, walk}
use Rattle.plus_state.proofs.SortLemmas.{on_here, on_other, on_below, over_from}
use Rattle.plus_state.proofs.ClashLemmas.{lists}

-- a write on a fluent before these
lists_skip : (k : ℕ) (p : ℕ × Update) (ps : List (ℕ × Update)) (vs : List (Option Fraction)) → p.0 < k → lists k (p ∷ ps) vs ≡ lists k ps vs
lists_skip k p ps [] l = refl
lists_skip k p ps (v ∷ vs) l = ap₂ (λ us rest. us ∷ rest) (on_other k p ps (λ e. omega (arith, l, e))) (lists_skip (suc k) p ps vs (omega (arith, l)))

abbrev nodes_of : ℕ → List (ℕ × Update) → List (Option Fraction) → List Node
nodes_of k ps vs = fluents_nodes (lists k ps vs) vs

abbrev fluents_of : ℕ → List (ℕ × Update) → List (Option Fraction) → List (Option Fraction)
fluents_of k ps vs = new_fluents (lists k ps vs) vs

module _ (p : ℕ × Update) (ps : List (ℕ × Update)) where
  abbrev made : Option Fraction → Option Fraction
  made v = updated p.1.op p.1.amount v

  node_step : (k j : ℕ) (vs : List (Option Fraction)) → p.0 ≡ k + j → j < length vs → From p.0 ps → nodes_of k (p ∷ ps) vs ≡ updated_nodes p.1.op p.1.amount (value_at vs j) ++ nodes_of k ps (set vs j (made (value_at vs j)))
  node_step k j [] e l o = absurd (omega (arith, l))
  node_step k zero (v ∷ vs) e l o =
      let here : k ≡ p.0 = omega (arith, e) in
      ap₂ (λ us rest. all_updated_nodes us v ++ fluents_nodes rest vs) (on_here k p ps here) (lists_skip (suc k) p ps vs (omega (arith, here)))
      ∙ append_assoc (updated_nodes p.1.op p.1.amount v) (all_updated_nodes (on k ps) (made v)) (nodes_of (suc k) ps vs)
  node_step k (suc j) (v ∷ vs) e l o =
      let before : k < p.0 = omega (arith, e) in
      let none : on k ps ≡ [] = on_below k ps (over_from k p.0 ps before o) in
      ap (λ us. all_updated_nodes us v ++ nodes_of (suc k) (p ∷ ps) vs) (on_below k (p ∷ ps) (before, over_from k p.0 ps before o))
      ∙ node_step (suc k) j vs (omega (arith, e)) (omega (arith, l)) o
      ∙ ap (λ us. updated_nodes p.1.op p.1.amount (value_at vs j) ++ (all_updated_nodes us v ++ nodes_of (suc k) ps (set vs j (made (value_at vs j))))) (sym none)

  fluent_step : (k j : ℕ) (vs : List (Option Fraction)) → p.0 ≡ k + j → j < length vs → fluents_of k (p ∷ ps) vs ≡ fluents_of k ps (set vs j (made (value_at vs j)))
  fluent_step k j [] e l = absurd (omega (arith, l))
  fluent_step k zero (v ∷ vs) e l =
      let here : k ≡ p.0 = omega (arith, e) in
      ap₂ (λ us rest. all_updated us v ∷ new_fluents rest vs) (on_here k p ps here) (lists_skip (suc k) p ps vs (omega (arith, here)))
  fluent_step k (suc j) (v ∷ vs) e l =
      ap₂ (λ us rest. all_updated us v ∷ rest) (on_other k p ps (λ here. omega (arith, e, here))) (fluent_step (suc k) j vs (omega (arith, e)) (omega (arith, l)))

no_nodes : (k : ℕ) (vs : List (Option Fraction)) → nodes_of k [] vs ≡ []
no_nodes k [] = refl
no_nodes k (v ∷ vs) = no_nodes (suc k) vs

no_fluents : (k : ℕ) (vs : List (Option Fraction)) → fluents_of k [] vs ≡ vs
no_fluents k [] = refl
no_fluents k (v ∷ vs) = ap (λ rest. v ∷ rest) (no_fluents (suc k) vs)

in_set : (ps : List (ℕ × Update)) (vs : List (Option Fraction)) (f : ℕ) (w : Option Fraction) → AreIn (length vs) ps → AreIn (length (set vs f w)) ps
in_set ps vs f w h = subst (λ (n : ℕ). AreIn n ps) (sym (length-set vs f w)) h

pub walk_is : (ps : List (ℕ × Update)) (vs : List (Option Fraction)) → Ordered ps → AreIn (length vs) ps → walk ps vs ≡ fluents_nodes (lists 0 ps vs) vs
walk_is [] vs o h = sym (no_nodes 0 vs)
walk_is (p ∷ ps) vs o h =
    ap (λ ns. updated_nodes p.1.op p.1.amount (value_at vs p.0) ++ ns) (walk_is ps _ o.1 (in_set ps vs p.0 _ h.1))
    ∙ sym (node_step p ps 0 p.0 vs (omega arith) h.0 o.0)

pub after_is : (ps : List (ℕ × Update)) (vs : List (Option Fraction)) → AreIn (length vs) ps → after ps vs ≡ new_fluents (lists 0 ps vs) vs
after_is [] vs h = sym (no_fluents 0 vs)
after_is (p ∷ ps) vs h = after_is ps _ (in_set ps vs p.0 _ h.1) ∙ sym (fluent_step p ps 0 p.0 vs (omega arith) h.0)
