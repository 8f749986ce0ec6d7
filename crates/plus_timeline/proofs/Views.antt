-- The views of a timeline after its steps, put together from those of its parts.
use Rattle.std.proofs.Common.{◌≡◌, ℕ, suc, Bool, true, false, List, [], ◌++◌, length, ap, sym, ◌∙◌}
use Rattle.std.specs.Prelude.{Some, None, pos}
use Rattle.plus_fraction.specs.Fraction.{Fraction, whole}
use Rattle.plus_model.specs.Terms.{State, Problem}
use Rattle.plus_model.specs.History.{view_after, Enter, Act, Round as Rounds}
use Rattle.plus_model.specs.Trajectory.{literals}
use Rattle.plus_state.specs.Changes.{Changes, patched}
use Rattle.plus_state.specs.Fits.{StateFits}
use Rattle.plus_state.proofs.PatchLemmas.{same_atoms, same_fluents}
use Rattle.plus_timeline.specs.declared.next.Next.TheVariants.{Round, Entry}
use Rattle.plus_timeline.specs.EntryStates.{EntryView}
use Rattle.plus_timeline.specs.Literals.{AreLiterals}
use Rattle.plus_timeline.specs.Timeline.{TimelineView, has_literal, begun}

-- a view is that of a timeline whose state has these numbers of atoms and fluents
pub record IsSized (v : TimelineView) : Type 0 where
  pub atoms : v.atoms ≡ length v.now.state.atoms
  pub fluents : v.fluents ≡ length v.now.state.fluents

module _ {v old : TimelineView} (p : v ≡ old) (k : IsSized v) (e : EntryView) (n : ℕ) (m : n ≡ v.event_count) where
  -- ---- a step within the entry
  module _ (c : Changes) (q : e ≡ record { state = patched v.now.state c; before = v.now.state; arrival = v.arrival; root = v.root }) where
    step_atoms : length e.state.atoms ≡ v.atoms
    step_atoms = ap (λ (x : EntryView). length x.state.atoms) q ∙ same_atoms v.now.state c ∙ sym k.atoms

    step_fluents : length e.state.fluents ≡ v.fluents
    step_fluents = ap (λ (x : EntryView). length x.state.fluents) q ∙ same_fluents v.now.state c ∙ sym k.fluents

    pub round_view : (fired es : List ℕ) → fired ≡ v.now.fired ++ es → record v { now = record { time = v.now.time; state = e.state; fired = fired; running = None; acted = v.now.acted }; before = e.before; arrival = e.arrival; root = e.root; events = es; answer = Some Round; acted = false; atoms = length e.state.atoms; fluents = length e.state.fluents; event_count = n } ≡ record old { now = view_after old.now (Rounds es (patched old.now.state c)); before = old.now.state; events = es; answer = Some Round; acted = false }
    round_view fired es f =
        (λ i. record v { now = record { time = v.now.time; state = (q i).state; fired = f i; running = None; acted = v.now.acted }; before = (q i).before; arrival = (q i).arrival; root = (q i).root; events = es; answer = Some Round; acted = false; atoms = step_atoms i; fluents = step_fluents i; event_count = m i })
        ∙ ap (λ (w : TimelineView). record w { now = view_after w.now (Rounds es (patched w.now.state c)); before = w.now.state; events = es; answer = Some Round; acted = false }) p

    pub act_view : (fired : List ℕ) (acted : ℕ) → fired ≡ [] → acted ≡ suc v.now.acted → v.now.running ≡ None → record v { now = record { time = v.now.time; state = e.state; fired = fired; running = v.now.running; acted = acted }; before = e.before; arrival = e.arrival; root = e.root; acted = true; atoms = length e.state.atoms; fluents = length e.state.fluents; event_count = n } ≡ record old { now = view_after old.now (Act old.now.acted (patched old.now.state c)); before = old.now.state; acted = true }
    act_view fired acted f a r =
        (λ i. record v { now = record { time = v.now.time; state = (q i).state; fired = f i; running = r i; acted = a i }; before = (q i).before; arrival = (q i).arrival; root = (q i).root; acted = true; atoms = step_atoms i; fluents = step_fluents i; event_count = m i })
        ∙ ap (λ (w : TimelineView). record w { now = view_after w.now (Act w.now.acted (patched w.now.state c)); before = w.now.state; acted = true }) p

  -- ---- the next entry
  pub entry_view : (P : Problem) (moves c : Changes) (t : Fraction) (b : Bool) (fired : List ℕ) (entries : ℕ) → e ≡ record { state = patched (patched v.now.state moves) c; before = v.now.state; arrival = patched v.now.state moves; root = v.root } → AreLiterals P t c → b ≡ has_literal P t → fired ≡ [] → entries ≡ suc v.entries → record v { now = record { time = t; state = e.state; fired = fired; running = None; acted = v.now.acted }; before = e.before; arrival = e.arrival; root = e.root; literal = b; entries = entries; answer = Some (Entry t); acted = false; atoms = length e.state.atoms; fluents = length e.state.fluents; event_count = n } ≡ record old { now = view_after old.now (Enter t (patched old.now.state moves) (literals P t (patched old.now.state moves))); before = old.now.state; arrival = patched old.now.state moves; literal = has_literal P t; entries = suc old.entries; answer = Some (Entry t); acted = false }
  entry_view P moves c t b fired entries q l h f s =
      let on : State = patched v.now.state moves in
      let a : length e.state.atoms ≡ v.atoms = ap (λ (x : EntryView). length x.state.atoms) q ∙ same_atoms on c ∙ same_atoms v.now.state moves ∙ sym k.atoms in
      let d : length e.state.fluents ≡ v.fluents = ap (λ (x : EntryView). length x.state.fluents) q ∙ same_fluents on c ∙ same_fluents v.now.state moves ∙ sym k.fluents in
      let state : e.state ≡ literals P t on = ap (λ (x : EntryView). x.state) q ∙ l.is on in
      (λ i. record v { now = record { time = t; state = state i; fired = f i; running = None; acted = v.now.acted }; before = (q i).before; arrival = (q i).arrival; root = (q i).root; literal = h i; entries = s i; answer = Some (Entry t); acted = false; atoms = a i; fluents = d i; event_count = m i })
      ∙ ap (λ (w : TimelineView). record w { now = view_after w.now (Enter t (patched w.now.state moves) (literals P t (patched w.now.state moves))); before = w.now.state; arrival = patched w.now.state moves; literal = has_literal P t; entries = suc w.entries; answer = Some (Entry t); acted = false }) p

-- ---- the first entry
pub first_is : (P : Problem) (most : ℕ) (t : Fraction) (e : EntryView) (c : Changes) (b : Bool) (fired events running : List ℕ) (rates : List Fraction) (n : ℕ) → StateFits P.atoms P.fluents P.initial → t ≡ whole (pos 0) → e ≡ record { state = patched P.initial c; before = P.initial; arrival = P.initial; root = None } → AreLiterals P t c → b ≡ has_literal P t → fired ≡ [] → events ≡ [] → running ≡ [] → rates ≡ [] → n ≡ length P.events → record { now = record { time = t; state = e.state; fired = fired; running = None; acted = 0 }; before = e.before; arrival = e.arrival; root = e.root; literal = b; events = events; running = running; rates = rates; entries = 1; most = most; answer = None; acted = false; ended = false; atoms = length e.state.atoms; fluents = length e.state.fluents; event_count = n } ≡ begun P most
first_is P most t e c b fired events running rates n h z q l d f g r y m =
    let state : e.state ≡ literals P (whole (pos 0)) P.initial = ap (λ (x : EntryView). x.state) q ∙ l.is P.initial ∙ ap (λ (x : Fraction). literals P x P.initial) z in
    let atoms : length e.state.atoms ≡ P.atoms = ap (λ (x : EntryView). length x.state.atoms) q ∙ same_atoms P.initial c ∙ h.atoms_fit in
    let fluents : length e.state.fluents ≡ P.fluents = ap (λ (x : EntryView). length x.state.fluents) q ∙ same_fluents P.initial c ∙ h.fluents_fit in
    let some : b ≡ has_literal P (whole (pos 0)) = d ∙ ap (has_literal P) z in
    λ i. record { now = record { time = z i; state = state i; fired = f i; running = None; acted = 0 }; before = (q i).before; arrival = (q i).arrival; root = (q i).root; literal = some i; events = g i; running = r i; rates = y i; entries = 1; most = most; answer = None; acted = false; ended = false; atoms = atoms i; fluents = fluents i; event_count = m i }
