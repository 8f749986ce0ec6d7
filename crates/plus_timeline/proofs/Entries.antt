-- The states of an entry after a step, and where a running set comes to.
use Rattle.std.proofs.Common.{◌≡◌, ℕ, List, length, ◌++◌, ap, ap₂, sym, subst, ◌∙◌}
use Rattle.std.specs.Prelude.{Bool, Option, Some, None, Result, Ok, Err, OnOk, IfSome, IsSomeAnd, option_map}
use Rattle.plus_fraction.specs.Fraction.{Fraction}
use Rattle.plus_model.specs.Terms.{State, Problem}
use Rattle.plus_model.specs.Running.{moved}
use Rattle.plus_state.specs.Changes.{Changes, patched, AreIn, Within, RisesIn}
use Rattle.plus_state.proofs.PatchLemmas.{same_atoms, same_fluents}
use Rattle.plus_state.proofs.OpenLemmas.{in_append, patched_append}
use Rattle.plus_stretch.specs.declared.arrival.Arrival.{Arrival}
use Rattle.plus_stretch.specs.declared.halt.Halt.{Halt}
use Rattle.plus_stretch.specs.Arrives.{Arrives, StretchTold, arrived_at, IsArrived}
use Rattle.plus_timeline.specs.EntryStates.{LedBy, IsReached}

-- ---- a step
pub ahead_on : (state new : State) (c : Changes) (ahead : Option State) → IfSome ahead (λ s. s ≡ state) → new ≡ patched state c → IfSome (option_map (λ s. patched s c) ahead) (λ s. s ≡ new)
ahead_on state new c None h n = tt
ahead_on state new c (Some s) h n = ap (λ (x : State). patched x c) h ∙ sym n

-- the later changes join those that are kept
joins : (arrival state new : State) (past c all : Changes) → state ≡ patched arrival past → Within (length arrival.atoms) (length arrival.fluents) past → RisesIn state c → all ≡ record { atoms = past.atoms ++ c.atoms; fluents = past.fluents ++ c.fluents } → new ≡ patched state c → (new ≡ patched arrival all) × Within (length arrival.atoms) (length arrival.fluents) all
joins arrival state new past c all is within r e n =
    let a : length state.atoms ≡ length arrival.atoms = ap (λ (s : State). length s.atoms) is ∙ same_atoms arrival past in
    let f : length state.fluents ≡ length arrival.fluents = ap (λ (s : State). length s.fluents) is ∙ same_fluents arrival past in
    subst (λ (x : Changes). (new ≡ patched arrival x) × Within (length arrival.atoms) (length arrival.fluents) x) (sym e) (
      n ∙ ap (λ (s : State). patched s c) is ∙ ap₂ (λ (x : List Bool) (y : List (Option Fraction)). record { atoms = x; fluents = y })
          (sym (patched_append past.atoms c.atoms arrival.atoms)) (sym (patched_append past.fluents c.fluents arrival.fluents)),
      record {
        atoms_in = in_append _ past.atoms c.atoms within.atoms_in (subst (λ (n : ℕ). AreIn n c.atoms) a r.within.atoms_in);
        fluents_in = in_append _ past.fluents c.fluents within.fluents_in (subst (λ (n : ℕ). AreIn n c.fluents) f r.within.fluents_in);
      },
    )

led_on_by : (arrival state new : State) (past all : Option Changes) (c : Changes) (ahead then : Option State) → LedBy arrival past state ahead → RisesIn state c → IfSome all (λ x. IsSomeAnd past (λ p. x ≡ record { atoms = p.atoms ++ c.atoms; fluents = p.fluents ++ c.fluents })) → new ≡ patched state c → then ≡ option_map (λ s. patched s c) ahead → LedBy arrival all new then
led_on_by arrival state new past None c ahead then h r e n k = record {
  is = tt;
  within = tt;
  same = subst (λ (o : Option State). IfSome o (λ s. s ≡ new)) (sym k) (ahead_on state new c ahead h.same n);
}
led_on_by arrival state new None (Some all) c ahead then h r e n k = absurd e
led_on_by arrival state new (Some past) (Some all) c ahead then h r e n k =
    let j = joins arrival state new past c all h.is h.within r e n in
    record {
      is = j.0;
      within = j.1;
      same = subst (λ (o : Option State). IfSome o (λ s. s ≡ new)) (sym k) (ahead_on state new c ahead h.same n);
    }

-- what a step changes joins what was changed before it, which is taken, where that is kept
pub led_on : (arrival state new : State) (past taken all : Option Changes) (c : Changes) (ahead then : Option State) → LedBy arrival past state ahead → RisesIn state c → taken ≡ past → IfSome all (λ x. IsSomeAnd taken (λ p. x ≡ record { atoms = p.atoms ++ c.atoms; fluents = p.fluents ++ c.fluents })) → new ≡ patched state c → then ≡ option_map (λ s. patched s c) ahead → LedBy arrival all new then
led_on arrival state new past taken all c ahead then h r t e n k =
    led_on_by arrival state new past all c ahead then h r
    (subst (λ (o : Option Changes). IfSome all (λ x. IsSomeAnd o (λ p. x ≡ record { atoms = p.atoms ++ c.atoms; fluents = p.fluents ++ c.fluents }))) t e) n k

-- ---- where a running set comes to
pub reached_is : {Q : Type 0} (value : Q → Fraction) (P : Problem) (u t : Fraction) (s ahead : State) (R : List ℕ) (rs : List Fraction) (a : Arrival Q) → Arrives value P u t s R rs a → ahead ≡ patched s a.changes → IsReached s a.changes ahead
unfolding moved
reached_is value P u t s ahead R rs a h e = record {
  rises = h.rises;
  is = e;
  atoms = ap (λ (x : State). x.atoms) (e ∙ h.may.arrival_is);
}

pub reached_by : {Q : Type 0} (value : Q → Fraction) (fits : Fraction → Type 0) (P : Problem) (u t : Fraction) (s now ahead : State) (R : List ℕ) (rs : List Fraction) (a : Arrival Q) (answer : Result (Unit {0}) (Halt Q)) → s ≡ now → StretchTold value fits P u t s R rs (arrived_at a answer) → OnOk answer (IsArrived s ahead a) → OnOk answer (IsReached now a.changes ahead)
reached_by value fits P u t s now ahead R rs a (Ok v) e h i = subst (λ (x : State). IsReached x a.changes ahead) e (reached_is value P u t s ahead R rs a h.1 i)
reached_by value fits P u t s now ahead R rs a (Err halt) e h i = tt

-- the state ahead is the present one where it is taken
pub taken_is : {A : Type 0} (f : A → State) (o : Option A) (a : A) (v : Option State) (s : State) → o ≡ Some a → option_map f o ≡ v → IfSome v (λ x. x ≡ s) → f a ≡ s
taken_is f o a v s e m h = subst (λ (w : Option State). IfSome w (λ x. x ≡ s)) (sym m ∙ ap (option_map f) e) h
