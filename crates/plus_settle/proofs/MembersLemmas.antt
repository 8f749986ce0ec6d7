-- Processes of a list, and numbers of members.
use Rattle.std.proofs.Common.{◌≡◌, ℕ, ◌<◌, ◌≤◌, ◌+◌, zero, suc, true, List, [], ◌∷◌, length, map, get_or, drop, refl, ap, sym, subst, ◌∙◌, inl, inr, arith, drop-cons}
use Rattle.std.proofs.lemmas.List.{length-map, get_or-map, drop_all}
use Rattle.std.proofs.lemmas.List.Elements.{All-head, All-tail}
use Rattle.std.specs.Prelude.{Some, None, slice_get}
use Rattle.std.specs.List.{All}
use Rattle.plus_fraction.specs.Fraction.{Fraction}
use Rattle.plus_model.specs.Terms.{Process, State}
use Rattle.plus_model.specs.Firing.{is_in}
use Rattle.plus_model.specs.Running.{rates_at}
use Rattle.plus_model.proofs.Members.{in_cases}
use Rattle.plus_state.specs.declared.term.ProcessId.{ProcessId}
use Rattle.plus_state.specs.declared.problem.Process as code
use Rattle.plus_number.specs.declared.exact.Exact.{Ghosts}
use Rattle.plus_state.specs.declared.problem.Ground.{Ground}
use Rattle.plus_state.specs.View.{process_of, rate_of, problem_of}
use Rattle.plus_state.specs.Fits.{ProcessFits, StateFits}
use Rattle.plus_settle.specs.Members.{process_numbers, AreMembers}

-- the numbers from place i on
pub next_number : (xs : List ProcessId) (i : ℕ) (d : ProcessId) → i < length xs → process_numbers (drop i xs) ≡ (get_or xs i d).0 ∷ process_numbers (drop (i + 1) xs)
next_number xs i d h =
    let one : suc i ≡ i + 1 = omega arith in
    ap process_numbers (drop-cons xs i d h) ∙ ap (λ (n : ℕ). (get_or xs i d).0 ∷ process_numbers (drop n xs)) one

pub no_number : (xs : List ProcessId) (i : ℕ) → length xs ≤ i → process_numbers (drop i xs) ≡ []
no_number xs i h = ap process_numbers (drop_all i xs h)

pub all_in : (n : ℕ) (members : List ℕ) (j : ℕ) → All (λ p. p < n) members → is_in members j ≡ true → j < n
all_in n [] j h e = cc
all_in n (p ∷ members) j h e = elim (in_cases j p members e) [
  | inl d ↦ subst (λ (k : ℕ). k < n) (sym d) (All-head (λ p. p < n) p members h)
  | inr i ↦ all_in n members j (All-tail (λ p. p < n) p members h) i
]

-- ids fit in a state for as many atoms and fluents
pub all_fit : (atoms fluents : ℕ) (s : State) (ps : List Process) → StateFits atoms fluents s → All (ProcessFits atoms fluents) ps → All (ProcessFits (length s.atoms) (length s.fluents)) ps
all_fit atoms fluents s ps k h =
    subst (λ (n : ℕ). All (ProcessFits n (length s.fluents)) ps) (sym k.atoms_fit) (subst (λ (n : ℕ). All (ProcessFits atoms n) ps) (sym k.fluents_fit) h)

module _ {Q : Type 0} (v : Q → Fraction) where
  pub process_fits : (atoms fluents : ℕ) (items : List (code.Process Q)) (i : ℕ) (x : code.Process Q) → i < length items → x ≡ get_or items i x → All (ProcessFits atoms fluents) (map (process_of v) items) → ProcessFits atoms fluents (process_of v x)
  process_fits atoms fluents items i x h e a =
      let inside : i < length (map (process_of v) items) = rw length-map h in
      subst (ProcessFits atoms fluents) (get_or-map (process_of v) items i x _ h ∙ ap (process_of v) (sym e)) (a i (process_of v x) inside)

  pub process_here : (items : List (code.Process Q)) (i : ℕ) (x : code.Process Q) → i < length items → x ≡ get_or items i x → slice_get (map (process_of v) items) i ≡ Some (process_of v x)
  process_here [] i x h e = absurd (omega arith)
  process_here (y ∷ items) zero x h e = ap (λ (z : code.Process Q). Some (process_of v z)) (sym e)
  process_here (y ∷ items) (suc i) x h e = process_here items i x (omega arith) e

  pub rates_here : (items : List (code.Process Q)) (i : ℕ) (x : code.Process Q) → i < length items → x ≡ get_or items i x → rates_at (slice_get (map (process_of v) items) i) ≡ map (rate_of v) x.rates.items
  rates_here items i x h e = ap rates_at (process_here items i x h e)

pub below_all : {Q : Type 0} {E : Ghosts Q} (v : Q → Fraction) (g : Ground Q E) (ps : List ℕ) → All (λ p. p < length g.processes.items) ps → All (λ p. p < length (problem_of v g).processes) ps
below_all v g ps h = subst (λ (n : ℕ). All (λ p. p < n) ps) (sym (length-map g.processes.items (process_of v))) h

pub are_members : {Q : Type 0} {E : Ghosts Q} (v : Q → Fraction) (g : Ground Q E) (ps : List ℕ) → AreMembers (length g.processes.items) ps → AreMembers (length (problem_of v g).processes) ps
are_members v g ps h = record { inside = below_all v g ps h.inside; rising = h.rising }

-- no process past the end
pub past_end : (ps : List Process) (j : ℕ) → length ps ≤ j → slice_get ps j ≡ None
past_end [] j h = refl
past_end (p ∷ ps) zero h = absurd (omega arith)
past_end (p ∷ ps) (suc j) h = past_end ps j (omega arith)
