-- How far listed processes agree with their membership.
use Rattle.std.proofs.Common.{◌≡◌, ℕ, ◌<◌, ◌≤◌, ◌+◌, zero, suc, Bool, true, false, List, [], ◌∷◌, length, map, drop, get_or, refl, ap, sym, subst, ◌∙◌, inl, inr, arith}
use Rattle.std.proofs.lemmas.Bool.{cases_lt}
use Rattle.std.proofs.lemmas.Bool.Decides.{nat_tests}
use Rattle.std.proofs.lemmas.Cmp.{ranked}
use Rattle.std.proofs.lemmas.List.{length-map}
use Rattle.std.proofs.lemmas.List.Sorted.{IsNonDecreasingBy-from_default}
use Rattle.std.specs.Prelude.{Some, None, Ok, Err, slice_get, ◌↔◌}
use Rattle.std.specs.List.{All}
use Rattle.std.specs.List.Sorted.{IsBinarySearchResult, IsNonDecreasingBy}
use Rattle.std.specs.Ordering.{nat_cmp, ordering_index}
use Rattle.plus_fraction.specs.Fraction.{Fraction}
use Rattle.plus_model.specs.Terms.{Process, State, Problem}
use Rattle.plus_model.specs.Firing.{is_in}
use Rattle.plus_model.specs.Running.{IsRising, JustAfter, GoesOn}
use Rattle.plus_model.specs.Piece.{after}
use Rattle.plus_model.specs.Live.{live}
use Rattle.plus_model.proofs.Members.{in_first, in_later}
use Rattle.plus_state.specs.declared.term.ProcessId.{ProcessId}
use Rattle.plus_number.specs.declared.exact.Exact.{Ghosts}
use Rattle.plus_state.specs.declared.problem.Ground.{Ground}
use Rattle.plus_state.specs.View.{process_of, problem_of}
use Rattle.plus_state.specs.Fits.{ProcessFits}
use Rattle.plus_state.specs.Numbers.{numbers_from}
use Rattle.plus_state.specs.Walk.{process_conditions}
use Rattle.plus_state.proofs.LookingLemmas.{no_other}
use Rattle.plus_crossing.proofs.Straight.{soon_tells}
use Rattle.plus_reads.proofs.Sets.{not_first}
use Rattle.plus_settle.proofs.StillLemmas.Listed.{PassesOver, Walked, walked_start, walked_inside, walked_here, walked_end, item_at, from_item, none_left}
use Rattle.plus_settle.specs.Steps.{AllPass}
use Rattle.plus_settle.specs.Members.{process_numbers, AreMembers, soon}
use Rattle.plus_settle.specs.Confirms.{soon_steps, differ, go_steps, first_other}
use Rattle.plus_settle.specs.Among.{IsConfirmed, OthersConfirmed}
use Rattle.plus_settle.proofs.ConfirmsLemmas.{Confirming, soon_pass, confirming_start, confirming_next, confirming_end}

-- ---- members found by a search
least : (xs : List ProcessId) (n j : ℕ) (d : ProcessId) → IsRising n (process_numbers xs) → j < length xs → n ≤ (get_or xs j d).0
least [] n j d r h = absurd (omega arith)
least (x ∷ xs) n zero d r h = r.0
least (x ∷ xs) n (suc j) d r h =
    let b = r.0 in
    let l = least xs (suc x.0) j d r.1 (omega arith) in
    omega arith

rises : (xs : List ProcessId) (n i j : ℕ) (d : ProcessId) → IsRising n (process_numbers xs) → i ≤ j → j < length xs → (get_or xs i d).0 ≤ (get_or xs j d).0
rises [] n i j d r l h = absurd (omega arith)
rises (x ∷ xs) n zero zero d r l h = omega arith
rises (x ∷ xs) n zero (suc j) d r l h = (let b = least xs (suc x.0) j d r.1 (omega arith) in omega arith)
rises (x ∷ xs) n (suc i) zero d r l h = absurd (omega arith)
rises (x ∷ xs) n (suc i) (suc j) d r l h = rises xs (suc x.0) i j d r.1 (omega arith) (omega arith)

found : (xs : List ProcessId) (i k : ℕ) (d : ProcessId) → i < length xs → (get_or xs i d).0 ≡ k → is_in (process_numbers xs) k ≡ true
found [] i k d h e = absurd (omega arith)
found (x ∷ xs) zero k d h e = subst (λ (y : ℕ). is_in (process_numbers (x ∷ xs)) y ≡ true) e (in_first x.0 (process_numbers xs))
found (x ∷ xs) (suc i) k d h e = in_later k x.0 (process_numbers xs) (found xs i k d (omega arith) e)

lost : (xs : List ProcessId) (k : ℕ) (d : ProcessId) → ((j : ℕ) → j < length xs → (get_or xs j d).0 ≡ k → ⊥) → is_in (process_numbers xs) k ≡ false
lost [] k d f = refl
lost (x ∷ xs) k d f = not_first k x.0 (process_numbers xs) (λ e. f 0 (omega arith) (sym e)) ∙ lost xs k d (λ j h e. f (suc j) (omega arith) e)

compared_rise : (xs : List ProcessId) (k : ℕ) (d : ProcessId) → IsRising 0 (process_numbers xs) → IsNonDecreasingBy (λ (y : ProcessId). ordering_index (nat_cmp y.0 k)) xs
compared_rise xs k d r = IsNonDecreasingBy-from_default (λ (y : ProcessId). ordering_index (nat_cmp y.0 k)) xs d (λ i j l h.
    let up : (get_or xs i d).0 ≤ (get_or xs j d).0 = rises xs 0 i j d r l h in
    grind (arith, nat_tests))

pub found_at : (xs : List ProcessId) (id : ProcessId) (i : ℕ) → i < length xs → IsBinarySearchResult (λ (y : ProcessId). nat_cmp y.0 id.0) xs (Ok i) → true ≡ is_in (process_numbers xs) id.0
found_at xs id i h s = sym (found xs i id.0 id h (ranked _ id.0 _ (sym (s id))))

pub not_found : (xs : List ProcessId) (id : ProcessId) (i : ℕ) → IsRising 0 (process_numbers xs) → IsBinarySearchResult (λ (y : ProcessId). nat_cmp y.0 id.0) xs (Err i) → false ≡ is_in (process_numbers xs) id.0
not_found xs id i r s = sym (lost xs id.0 id (λ j h e. apart j h e))
  where
    apart : (j : ℕ) → j < length xs → (get_or xs j id).0 ≡ id.0 → ⊥
    apart j h e = elim (cases_lt j i) [
      | inl b ↦ (let l = ranked _ id.0 _ (sym ((s (compared_rise xs id.0 id r)).0 j id (omega arith) b)) in omega arith)
      | inr b ↦ (let l = ranked _ id.0 _ (sym ((s (compared_rise xs id.0 id r)).1 j id (omega arith) h)) in omega arith)
    ]

-- ---- the walk
module _ (fits : Fraction → Type 0) (P : Problem) (members : List ℕ) (s : State) (rs : List Fraction) where
  -- all processes up to number k agree
  abbrev pub Agreeing : ℕ → Type 0
  Agreeing k = Confirming fits P members k (drop k P.processes) s rs

  -- what is known of a process that is confirmed
  confirmed_tells : (k : ℕ) (p : Process) → IsConfirmed fits members s rs k p → AllPass fits (soon_steps k p s rs) × (soon p s rs ≡ soon p s rs) × ((soon p s rs ≡ true) ↔ JustAfter s rs p.condition)
  unfolding soon
  confirmed_tells k p h =
      let u = soon_tells fits 0 p.condition s rs h.pass in
      soon_pass fits k p s rs (after (live p.condition s) s rs) h.pass (u.1, u.0)

  no_difference : (x y : Bool) → x ≡ y → differ x y ≡ false
  no_difference true true e = refl
  no_difference true false e = cc
  no_difference false true e = cc
  no_difference false false e = refl

  pub agreeing_next : (k : ℕ) (p : Process) → slice_get P.processes k ≡ Some p → IsConfirmed fits members s rs k p → Agreeing k → Agreeing (k + 1)
  agreeing_next k p g c h =
      let t = confirmed_tells k p c in
      confirming_next fits P members k p (drop (k + 1) P.processes) s rs (subst (λ (ps : List Process). Confirming fits P members k ps s rs) (from_item P.processes k p g) h) t.0 t.2 g (no_difference _ _ c.agrees)

  pub passes_over : (listed : List ℕ) → OthersConfirmed fits P members s rs listed → PassesOver Agreeing (length P.processes) listed
  passes_over listed o k l n h =
      let i = item_at P.processes k l in
      agreeing_next k i.item i.is (o k i.item i.is n) h

  pub agreeing_start : (listed : List ℕ) → All (ProcessFits (length s.atoms) (length s.fluents)) P.processes → AreMembers (length P.processes) listed → Walked Agreeing (length P.processes) listed listed
  agreeing_start listed f m = walked_start Agreeing (length P.processes) listed m (confirming_start fits P members s rs f)

  pub agreeing_end : (listed : List ℕ) → OthersConfirmed fits P members s rs listed → Walked Agreeing (length P.processes) [] listed → AreMembers (length P.processes) members → AllPass fits (go_steps P members s rs) × (None ≡ first_other members 0 P.processes s rs) × GoesOn P s rs members
  agreeing_end listed o w m =
      let h : Agreeing (length P.processes) = walked_end Agreeing (length P.processes) listed w (passes_over listed o) in
      confirming_end fits P members (length P.processes) s rs (subst (λ (ps : List Process). Confirming fits P members (length P.processes) ps s rs) (none_left P.processes) h) (omega arith) m

  -- all processes before a listed one agree
  pub confirming_at : (listed : List ℕ) (k : ℕ) (rest : List ℕ) (p : Process) → OthersConfirmed fits P members s rs listed → slice_get P.processes k ≡ Some p → Walked Agreeing (length P.processes) (k ∷ rest) listed → Confirming fits P members k (p ∷ drop (k + 1) P.processes) s rs
  confirming_at listed k rest p o g w =
      subst (λ (ps : List Process). Confirming fits P members k ps s rs) (from_item P.processes k p g) (walked_here Agreeing (length P.processes) k rest listed w (passes_over listed o))

-- a listed number is a place in the code's list
pub listed_inside : {Q : Type 0} {E : Ghosts Q} (v : Q → Fraction) (g : Ground Q E) (Here : ℕ → Type 0) (k : ℕ) (rest listed : List ℕ) → Walked Here (length (problem_of v g).processes) (k ∷ rest) listed → k < length g.processes.items
listed_inside v g Here k rest listed w =
    let b : k < length (map (process_of v) g.processes.items) = walked_inside Here _ k rest listed w in
    rw length-map at b

-- ---- all processes
pub all_confirmed : (fits : Fraction → Type 0) (P : Problem) (members : List ℕ) (s : State) (rs : List Fraction) (listed : List ℕ) → listed ≡ numbers_from 0 (length (process_conditions P)) → OthersConfirmed fits P members s rs listed
all_confirmed fits P members s rs listed e k p g n =
    absurd (no_other P.processes listed k p (e ∙ ap (numbers_from 0) (length-map P.processes (λ (p : Process). p.condition))) g n)
