-- Events of a list, and numbers of events.
use Rattle.std.proofs.Common.{◌≡◌, ℕ, ◌<◌, zero, suc, List, [], ◌∷◌, length, map, get_or, ap, sym, subst, arith}
use Rattle.std.proofs.lemmas.List.{length-map}
use Rattle.std.specs.Prelude.{Some, slice_get}
use Rattle.plus_fraction.specs.Fraction.{Fraction}
use Rattle.plus_model.specs.Terms.{Event}
use Rattle.plus_number.specs.declared.exact.Exact.{Ghosts}
use Rattle.plus_state.specs.declared.problem.Event as code
use Rattle.plus_state.specs.declared.problem.Ground.{Ground}
use Rattle.plus_state.specs.View.{event_of, process_of, problem_of}
use Rattle.plus_state.specs.Numbers.{AreMembers}
use Rattle.plus_state.specs.Walk.{event_conditions}
use Rattle.plus_settle.proofs.StillLemmas.Listed.{Walked, walked_inside}

-- an event of the list
pub event_here : {Q : Type 0} (v : Q → Fraction) (items : List (code.Event Q)) (i : ℕ) (x : code.Event Q) → i < length items → x ≡ get_or items i x → slice_get (map (event_of v) items) i ≡ Some (event_of v x)
event_here v [] i x h e = absurd (omega arith)
event_here v (y ∷ items) zero x h e = ap (λ (z : code.Event _). Some (event_of v z)) (sym e)
event_here v (y ∷ items) (suc i) x h e = event_here v items i x (omega arith) e

members_as : (n m : ℕ) (es : List ℕ) → n ≡ m → AreMembers n es → AreMembers m es
members_as n m es e h = subst (λ (k : ℕ). AreMembers k es) e h

module _ {Q : Type 0} {E : Ghosts Q} (v : Q → Fraction) (g : Ground Q E) where
  pub event_members : (es : List ℕ) → AreMembers (length g.events.items) es → AreMembers (length (problem_of v g).events) es
  event_members es h = members_as _ _ es (sym (length-map g.events.items (event_of v))) h

  pub event_members_back : (es : List ℕ) → AreMembers (length (problem_of v g).events) es → AreMembers (length g.events.items) es
  event_members_back es h = members_as _ _ es (length-map g.events.items (event_of v)) h

  pub process_members_back : (ps : List ℕ) → AreMembers (length (problem_of v g).processes) ps → AreMembers (length g.processes.items) ps
  process_members_back ps h = members_as _ _ ps (length-map g.processes.items (process_of v)) h

  pub condition_members : (es : List ℕ) → AreMembers (length g.events.items) es → AreMembers (length (event_conditions (problem_of v g))) es
  condition_members es h = members_as _ _ es (sym (length-map (problem_of v g).events (λ (e : Event). e.condition))) (event_members es h)

  -- a listed number is a place in the code's list
  pub event_inside : (Here : ℕ → Type 0) (k : ℕ) (rest listed : List ℕ) → Walked Here (length (problem_of v g).events) (k ∷ rest) listed → k < length g.events.items
  event_inside Here k rest listed w =
      let b : k < length (map (event_of v) g.events.items) = walked_inside Here _ k rest listed w in
      rw length-map at b
