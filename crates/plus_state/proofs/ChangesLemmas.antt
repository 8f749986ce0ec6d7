-- What the changes of a joint effect come to.
use Rattle.std.proofs.Common.{◌≡◌, ℕ, ◌≤◌, Bool, true, false, List, [], ◌∷◌, ◌++◌, length, refl, ap, ap₂, sym, subst, ◌∙◌, arith}
use mathlib.Core.Bool.{true≢false}
use Rattle.std.specs.Prelude.{Option, Some, None, Result, Ok, Err}
use Rattle.plus_fraction.specs.Fraction.{Fraction}
use Rattle.plus_model.specs.Terms.{Effect, State}
use Rattle.plus_model.specs.Joint.{Conflict, new_atoms}
use Rattle.plus_state.specs.declared.outcome.JointStop.{JointStop}
use Rattle.plus_state.specs.Node.{Node}
use Rattle.plus_state.specs.Asked.{AllFit, FirstUnfit}
use Rattle.plus_state.specs.Due.{Update, Due, puts, updates, DuesFit, atom_changes, clash, by_fluent, new_fluents, dues, after_dues}
use Rattle.plus_state.specs.Steps.{asks, fault, AllPass, FirstStop, add_steps, end_steps}
use Rattle.plus_state.specs.Stops.{DoesJointly}
use Rattle.plus_state.proofs.AtomsLemmas.{put_atoms, atoms_are}
use Rattle.plus_state.proofs.EndLemmas.{end_clash, end_unfit, end_pass}
use Rattle.plus_state.proofs.ApplyLemmas.{end_stops, ends}
use Rattle.plus_state.specs.Changes.{Changes, patched_list, patched, AreIn}
use Rattle.plus_state.specs.Writes.{on, Ordered, Sorts, sets, put_of, puts_as, clash_after, after, walk}
use Rattle.plus_state.specs.Applies.{ChangesJointly}
use Rattle.plus_state.proofs.SortLemmas.{none_out, sorted_in}
use Rattle.plus_state.proofs.ClashLemmas.{FirstClash, first_is, none_clash, lists, lists_are, pass_by, stop_by}
use Rattle.plus_state.proofs.WalkLemmas.{walk_is, after_is}
use Rattle.plus_state.proofs.OpenLemmas.{in_append, patched_append, sorted_patched}

put_in : (present : Bool) (n m : ℕ) (d : Due) (ds : List Due) → DuesFit n m (d ∷ ds) → AreIn n (put_of present d)
put_in true n m (puts a true) ds h = (h.0, tt)
put_in true n m (puts a false) ds h = tt
put_in false n m (puts a true) ds h = tt
put_in false n m (puts a false) ds h = (h.0, tt)
put_in true n m (updates f u) ds h = tt
put_in false n m (updates f u) ds h = tt

puts_in : (present : Bool) (n m : ℕ) (ds : List Due) → DuesFit n m ds → AreIn n (puts_as present ds)
puts_in present n m [] h = tt
puts_in present n m (d ∷ ds) h = in_append n (put_of present d) _ (put_in present n m d ds h) (puts_in present n m ds h.1)

puts_patched : (present : Bool) (ds : List Due) (bs : List Bool) → patched_list (puts_as present ds) bs ≡ put_atoms present ds bs
puts_patched present [] bs = refl
puts_patched true (puts a true ∷ ds) bs = puts_patched true ds _
puts_patched true (puts a false ∷ ds) bs = puts_patched true ds bs
puts_patched false (puts a true ∷ ds) bs = puts_patched false ds bs
puts_patched false (puts a false ∷ ds) bs = puts_patched false ds _
puts_patched true (updates f u ∷ ds) bs = puts_patched true ds bs
puts_patched false (updates f u ∷ ds) bs = puts_patched false ds bs

abbrev pub both_puts : List Due → List (ℕ × Bool)
both_puts ds = puts_as false ds ++ puts_as true ds

both_patched : (ds : List Due) (bs : List Bool) → patched_list (both_puts ds) bs ≡ new_atoms 0 (atom_changes ds) bs
both_patched ds bs =
    patched_append (puts_as false ds) (puts_as true ds) bs ∙ ap (patched_list (puts_as true ds)) (puts_patched false ds bs) ∙ puts_patched true ds _ ∙ atoms_are ds bs

pub atoms_in : (ds : List Due) (xs end : List (ℕ × Bool)) → Sorts (both_puts ds) xs → ((n : ℕ) → AreIn n xs → AreIn n end) → (n m : ℕ) → DuesFit n m ds → AreIn n end
atoms_in ds xs end s i n m h = i n (sorted_in n _ xs s (in_append n (puts_as false ds) _ (puts_in false n m ds h) (puts_in true n m ds h)))

pub atoms_same : (ds : List Due) (xs end : List (ℕ × Bool)) → Sorts (both_puts ds) xs → ((bs : List Bool) → patched_list end bs ≡ patched_list xs bs) → (bs : List Bool) → patched_list end bs ≡ new_atoms 0 (atom_changes ds) bs
atoms_same ds xs end s e bs = e bs ∙ sorted_patched (both_puts ds) xs bs s ∙ both_patched ds bs

sets_in : (n m : ℕ) (ds : List Due) → DuesFit n m ds → AreIn m (sets ds)
sets_in n m [] h = tt
sets_in n m (puts a b ∷ ds) h = sets_in n m ds h.1
sets_in n m (updates f u ∷ ds) h = (h.0, sets_in n m ds h.1)

module _ (ds : List Due) (ws : List (ℕ × Update)) (s : State) where
  pub writes_in : Sorts (sets ds) ws → DuesFit (length s.atoms) (length s.fluents) ds → AreIn (length s.fluents) ws
  writes_in o h = sorted_in _ _ ws o (sets_in _ _ ds h)

  lists_by : Sorts (sets ds) ws → lists 0 ws s.fluents ≡ by_fluent 0 ds s.fluents
  lists_by o = sym (lists_are 0 ds ws s.fluents o.same)

  abbrev half : State
  half = record s { atoms = new_atoms 0 (atom_changes ds) s.atoms }

  module _ (fits : Fraction → Type 0) (o : Sorts (sets ds) ws) (h : DuesFit (length s.atoms) (length s.fluents) ds) where
    clash_in : (f : ℕ) → FirstClash f ws → FirstStop fits (end_steps ds s) (fault (Conflict f))
    clash_in f c =
        let out : length s.fluents ≤ f → ⊥ = λ l. true≢false (sym c.here ∙ ap clash (none_out _ f ws (writes_in o h) l)) in
        end_clash fits ds s s (lists 0 ws s.fluents) f (lists_by o) (stop_by fits ws 0 f s.fluents c (omega arith) (omega (arith, out)))

    pub ends_clash : (f : ℕ) → Some f ≡ clash_after None ws → FirstStop fits (end_steps ds s) (fault (Conflict f))
    ends_clash f e = clash_in f (first ws o.order (sym e)) where
      no_some : None ≡ Some f → ⊥
      no_some e = subst is_none e tt where
        is_none : Option ℕ → Type 0
        is_none None = Unit {0}
        is_none (Some y) = ⊥

      first : (xs : List (ℕ × Update)) → Ordered xs → clash_after None xs ≡ Some f → FirstClash f xs
      first [] k e = absurd (no_some e)
      first (p ∷ qs) k e = first_is p qs f k e

    clear : None ≡ clash_after None ws → (g : ℕ) → clash (on g ws) ≡ false
    clear e = by ws o.order (sym e) where
      by : (xs : List (ℕ × Update)) → Ordered xs → clash_after None xs ≡ None → (g : ℕ) → clash (on g xs) ≡ false
      by [] k e g = refl
      by (p ∷ qs) k e g = none_clash p qs k e g

    pub ends_unfit : (m : Node) → None ≡ clash_after None ws → FirstUnfit fits (walk ws s.fluents) m → FirstStop fits (end_steps ds s) (asks m)
    ends_unfit m e u =
        end_unfit fits ds s half (lists 0 ws s.fluents) m (lists_by o) refl (pass_by fits ws 0 s.fluents (clear e)) (subst (λ ns. FirstUnfit fits ns m) (walk_is ws s.fluents o.order (writes_in o h)) u)

    pub ends_pass : None ≡ clash_after None ws → AllFit fits (walk ws s.fluents) → AllPass fits (end_steps ds s)
    ends_pass e a =
        end_pass fits ds s half (lists 0 ws s.fluents) (lists_by o) refl (pass_by fits ws 0 s.fluents (clear e)) (subst (AllFit fits) (walk_is ws s.fluents o.order (writes_in o h)) a)

    pub ends_state : (c : Changes) → patched_list c.atoms s.atoms ≡ new_atoms 0 (atom_changes ds) s.atoms → patched_list c.fluents s.fluents ≡ after ws s.fluents → patched s c ≡ after_dues ds s
    ends_state c a f =
        ap₂ (λ (x : List Bool) (y : List (Option Fraction)). record { atoms = x; fluents = y }) a (f ∙ after_is ws s.fluents (writes_in o h) ∙ ap (λ us. new_fluents us s.fluents) (lists_by o))

module _ {Q : Type 0} (v : Q → Fraction) (fits : Fraction → Type 0) (es : List Effect) (s : State) where
  pub answered : (ds : List Due) (r : Result Changes (JointStop Q)) → AllPass fits (add_steps es s) → ds ≡ dues es s → DoesJointly v fits (end_steps ds s) (λ c. patched s c ≡ after_dues ds s) r → ChangesJointly v fits es s r
  answered ds (Ok c) a k h = ends v fits es s ds (patched s c) a k h.0 h.1
  answered ds (Err e) a k h = end_stops v fits es s ds e a k h
