-- What is known after each accepted call.
use Rattle.std.proofs.Common.{◌≡◌, ℕ, ◌<◌, List, [], refl, ap, sym, subst, ◌∙◌, length}
use Rattle.std.proofs.lemmas.List.{length-map}
use Rattle.std.proofs.lemmas.List.Elements.{All-nil}
use Rattle.std.specs.Prelude.{Option, Some, None, Ok, IfSome, IsSomeAnd, option_map, Vec}
use Rattle.std.specs.declared.alloc.Global.{Global}
use Rattle.plus_state.specs.declared.term.EventId.{EventId}
use Rattle.plus_fraction.specs.Fraction.{Fraction}
use Rattle.plus_model.specs.Terms.{Action, Event, State, Problem}
use Rattle.plus_model.specs.Value.{holds}
use Rattle.plus_model.specs.Firing.{firing}
use Rattle.plus_model.specs.Running.{IsRising}
use Rattle.plus_model.proofs.Decide.{rising-numbers}
use Rattle.plus_model.specs.Trajectory.{least}
use Rattle.plus_state.specs.Changes.{Changes, LeadsTo}
use Rattle.plus_state.specs.Numbers.{AreMembers}
use Rattle.plus_state.specs.Walk.{event_conditions, process_conditions}
use Rattle.plus_state.specs.Looked.{OthersFalse}
use Rattle.plus_reads.specs.Tables.{ReadAny}
use Rattle.plus_crossing.specs.Rated.{moving_of}
use Rattle.plus_settle.specs.Still.Others.{OthersStill}
use Rattle.plus_settle.proofs.ShortLemmas.{stands_by}
use Rattle.plus_reads.specs.Quiet.{OthersQuiet}
use Rattle.plus_reads.specs.Indexing.{Indexes}
use Rattle.plus_reads.specs.declared.index.Index.{Index}
use Rattle.plus_reads.specs.declared.readers.Readers.{Readers}
use Rattle.plus_reads.proofs.Unchanged.{quiet_stays}
use Rattle.plus_cascade.proofs.SetLemmas.{firing_all}
use Rattle.plus_timeline.specs.declared.next.Next.{Next}
use Rattle.plus_timeline.specs.declared.next.Next.TheVariants.{Round, Run, Entry, There}
use Rattle.plus_timeline.specs.Timeline.{TimelineView, event_numbers}
use Rattle.plus_timeline.specs.Act.{DoesAct}
use Rattle.plus_timeline.specs.Advance.{AdvanceTold}
use Rattle.plus_timeline.proofs.Serving.{advance_serves, act_serves}
use Rattle.plus_indexed.specs.Indexed.{IndexedView, Kept}
use Rattle.plus_indexed.specs.Woken.{AreWoken, AddsReaders}
use Rattle.plus_indexed.specs.Waking.{WokenBy, StillWoken, EventsAfter, ProcessesWoken, ProcessesAfter}
use Rattle.plus_indexed.specs.Knows.{Wait, MayHold, IsAtRest, Knows}
use Rattle.plus_indexed.proofs.Quieting.{moment_quiet, closing_rests}
use Rattle.plus_indexed.proofs.Present.{may_hold_after}

no_run : (o : Option (List ℕ)) (R : List ℕ) → o ≡ None → o ≡ Some R → ⊥
no_run o R e f = cc

none_some : {A : Type 0} (x : A) → None ≡ Some x → ⊥
none_some x e = cc

firing_rises : (P : Problem) (s : State) → IsRising 0 (firing P s)
unfolding firing
firing_rises P s = rising-numbers (λ (e : Event). holds e.condition s) 0 P.events

module _ (fits : Fraction → Type 0) (P : Problem) where
  -- after changes those wait that waited before, and the readers of what is changed
  wait_after : (i : Index) (s t : State) (c : Changes) (before after : List ℕ) → Indexes P i → LeadsTo s c t → AreWoken i.events c before after → Wait fits P s before → Wait fits P t after
  wait_after i s t c before after x l w q = record {
    members = w.members (length (event_conditions P)) x.events_below q.members.inside;
    quiet = subst (λ (z : State). OthersQuiet fits (event_conditions P) z after) (sym l.is)
        (quiet_stays fits (event_conditions P) i.events s c before after x.events w.wakes q.quiet);
  }

  no_members : (n : ℕ) → AreMembers n []
  no_members n = record { inside = All-nil (λ k. k < n); rising = tt }

  none_wait : (s : State) (w : List ℕ) → w ≡ [] → OthersQuiet fits (event_conditions P) s [] → Wait fits P s w
  none_wait s w e q = subst (Wait fits P s) (sym e) (record { members = no_members (length (event_conditions P)); quiet = q })

  fired_members : (s : State) (fired : List ℕ) → fired ≡ firing P s → AreMembers (length (event_conditions P)) fired
  fired_members s fired e = record {
    inside = firing_all P s (length (event_conditions P)) fired (sym (length-map P.events (λ (x : Event). x.condition))) e;
    rising = subst (IsRising 0) (sym e) (firing_rises P s);
  }

  module _ {Q : Type 0} (value : Q → Fraction) (u : Fraction) (old mid : IndexedView) (k : Knows fits P old) (kept : mid.kept ≡ record old.kept { processes = mid.kept.processes }) (may : (w : List ℕ) → mid.kept.processes ≡ Some w → MayHold fits P old.line.now.state w) where
    index_same : Indexes P mid.kept.index
    index_same = subst (Indexes P) (sym (ap (λ (x : Kept). x.index) kept)) k.index

    noted : (next : Next Q) (w : List ℕ) → AdvanceTold value fits P u old.line mid.line (Ok next) → EventsAfter next mid w → Wait fits P mid.line.now.state w
    noted Round w told n =
        let d = told.does in
        let e : mid.line.events ≡ d.fired = ap (λ (v : TimelineView). v.events) d.is in
        let b : mid.line.before ≡ old.line.now.state = ap (λ (v : TimelineView). v.before) d.is in
        let q = moment_quiet fits P old.line.most old.line.entries (least old.line.now.time u P.timed) old.line.now mid.line.events d.moment told.pass (e ∙ d.round.all) in
        let m = fired_members old.line.now.state mid.line.events (e ∙ d.round.all) in
        wait_after mid.kept.index old.line.now.state mid.line.now.state n.changes mid.line.events w index_same (subst (λ (s : State). LeadsTo s n.changes mid.line.now.state) b n.leads) n.woken (record { members = m; quiet = q })
    noted Run w told n =
        let d = told.does in
        let s : mid.line.now.state ≡ old.line.now.state = ap (λ (v : TimelineView). v.now.state) d.is in
        subst (λ (x : State). Wait fits P x w) (sym s)
        (none_wait old.line.now.state w n (moment_quiet fits P old.line.most old.line.entries (least old.line.now.time u P.timed) old.line.now [] d.moment told.pass (sym d.may.still)))
    noted (Entry t) w told n =
        let d = told.does in
        let b : mid.line.before ≡ old.line.now.state = ap (λ (v : TimelineView). v.before) d.is in
        let old_waited : old.kept.events ≡ Some n.before = ap (λ (x : Kept). x.events) (sym kept) ∙ n.waited in
        wait_after mid.kept.index old.line.now.state mid.line.now.state n.by.changes n.before w index_same (subst (λ (s : State). LeadsTo s n.by.changes mid.line.now.state) b n.by.leads) n.by.woken (k.events n.before old_waited)
    noted There w told n =
        let d = told.does in
        let s : mid.line.now.state ≡ old.line.now.state = ap (λ (v : TimelineView). v.now.state) d.is in
        subst (λ (x : State). Wait fits P x w) (sym s)
        (none_wait old.line.now.state w n (moment_quiet fits P old.line.most old.line.entries (least old.line.now.time u P.timed) old.line.now [] d.moment told.pass (sym d.still)))

    -- processes after a step to which changes lead
    woken_hold : (w : List ℕ) → mid.line.before ≡ old.line.now.state → ProcessesWoken mid w → MayHold fits P mid.line.now.state w
    woken_hold w b n =
        may_hold_after fits P mid.kept.index old.line.now.state mid.line.now.state n.changes n.before w index_same (subst (λ (s : State). LeadsTo s n.changes mid.line.now.state) b n.leads) n.woken (may n.before n.were)

    noted_processes : (next : Next Q) (w : List ℕ) → AdvanceTold value fits P u old.line mid.line (Ok next) → ProcessesAfter next mid w → MayHold fits P mid.line.now.state w
    noted_processes Round w told n = woken_hold w (ap (λ (v : TimelineView). v.before) told.does.is) n
    noted_processes Run w told n = subst (λ (x : State). MayHold fits P x w) (sym (ap (λ (v : TimelineView). v.now.state) told.does.is)) (may w n)
    noted_processes (Entry t) w told n = woken_hold w (ap (λ (v : TimelineView). v.before) told.does.is) n
    noted_processes There w told n = subst (λ (x : State). MayHold fits P x w) (sym (ap (λ (v : TimelineView). v.now.state) told.does.is)) (may w n)

    rested : (next : Next Q) → AdvanceTold value fits P u old.line mid.line (Ok next) → (R : List ℕ) → mid.line.now.running ≡ Some R → IsAtRest fits P mid.line.now.state
    rested Round told R e = absurd (no_run mid.line.now.running R (ap (λ (v : TimelineView). v.now.running) told.does.is) e)
    rested Run told R e =
        let d = told.does in
        let b = least old.line.now.time u P.timed in
        let s : mid.line.now.state ≡ old.line.now.state = ap (λ (v : TimelineView). v.now.state) d.is in
        subst (IsAtRest fits P) (sym s) (record {
          events = moment_quiet fits P old.line.most old.line.entries b old.line.now [] d.moment told.pass (sym d.may.still);
          processes = closing_rests fits P old.line.most old.line.entries b old.line.now d.moment d.may.still d.may.later told.pass;
        })
    rested (Entry t) told R e = absurd (no_run mid.line.now.running R (ap (λ (v : TimelineView). v.now.running) told.does.is) e)
    rested There told R e = absurd (no_run mid.line.now.running R (ap (λ (v : TimelineView). v.now.running) told.does.is ∙ told.does.moment) e)

    pub advance_knows : (next : Next Q) (es ps : Option (List ℕ)) → AdvanceTold value fits P u old.line mid.line (Ok next) → ((w : List ℕ) → es ≡ Some w → EventsAfter next mid w) → ((w : List ℕ) → ps ≡ Some w → ProcessesAfter next mid w) → Knows fits P (record mid { kept = record mid.kept { events = es; processes = ps } })
    advance_knows next es ps told n m = record {
      serves = advance_serves value P u old.line mid.line next told.does k.serves;
      index = index_same;
      events = λ w e. noted next w told (n w e);
      processes = λ w e. noted_processes next w told (m w e);
      rests = rested next told;
    }

  module _ (old mid : IndexedView) (k : Knows fits P old) (same : mid.kept ≡ old.kept) where
    acted_index : Indexes P mid.kept.index
    acted_index = subst (λ (x : Kept). Indexes P x.index) (sym same) k.index

    pub act_knows : (action : Action) (es ps : Option (List ℕ)) → DoesAct P action old.line mid.line → ((w : List ℕ) → es ≡ Some w → StillWoken mid w) → ((w : List ℕ) → ps ≡ Some w → ProcessesWoken mid w) → Knows fits P (record mid { kept = record mid.kept { events = es; processes = ps } })
    act_knows action es ps d n m =
        let b : mid.line.before ≡ old.line.now.state = ap (λ (v : TimelineView). v.before) d.is in
        record {
          serves = act_serves P action old.line mid.line d k.serves;
          index = acted_index;
          events = λ w e. (
              let x = n w e in
              let old_waited : old.kept.events ≡ Some x.before = ap (λ (y : Kept). y.events) (sym same) ∙ x.waited in
              wait_after mid.kept.index old.line.now.state mid.line.now.state x.by.changes x.before w acted_index (subst (λ (s : State). LeadsTo s x.by.changes mid.line.now.state) b x.by.leads) x.by.woken (k.events x.before old_waited)
              );
          processes = λ w e. (
              let x = m w e in
              let old_waited : old.kept.processes ≡ Some x.before = ap (λ (y : Kept). y.processes) (sym same) ∙ x.were in
              may_hold_after fits P mid.kept.index old.line.now.state mid.line.now.state x.changes x.before w acted_index (subst (λ (s : State). LeadsTo s x.changes mid.line.now.state) b x.leads) x.woken (k.processes x.before old_waited)
              );
          rests = λ R e. absurd (no_run mid.line.now.running R (ap (λ (v : TimelineView). v.now.running) d.is) e);
        }

-- ---- what the calls ask for, by the code's fields
abbrev pub numbers : Option (Vec EventId Global) → Option (List ℕ)
numbers o = option_map (λ (w : Vec EventId Global). event_numbers w.items) o

pub wait_at : (fits : Fraction → Type 0) (P : Problem) (line : TimelineView) (i : Index) (o : Option (Vec EventId Global)) (ps : Option (List ℕ)) (es : Vec EventId Global) (xs : List EventId) → Knows fits P (record { line = line; kept = record { index = i; events = numbers o; processes = ps } }) → o ≡ Some es → xs ≡ es.items → Wait fits P line.now.state (event_numbers xs)
wait_at fits P line i o ps es xs k e f = k.events (event_numbers xs) (ap numbers e ∙ ap (λ (ys : List EventId). Some (event_numbers ys)) (sym f))

pub woken_so : (line : TimelineView) (kept : Kept) (i j : Index) (o : Option (Vec EventId Global)) (c : Changes) (first : List ℕ) → i ≡ kept.index → j ≡ i → LeadsTo line.before c line.now.state → IfSome o (λ w. AreWoken j.events c first (event_numbers w.items)) → (w : List ℕ) → numbers o ≡ Some w → WokenBy (record { line = line; kept = kept }) first w
woken_so line kept i j None c first m e l h w k = absurd (none_some w k)
woken_so line kept i j (Some v) c first m e l h w k =
    let q : event_numbers v.items ≡ w = cc in
    record { changes = c; leads = l; woken = subst (λ (x : Index). AreWoken x.events c first w) (e ∙ m) (subst (λ (ws : List ℕ). AreWoken j.events c first ws) q h) }

pub still_so : (line : TimelineView) (kept : Kept) (i j : Index) (old new : Option (Vec EventId Global)) (c : Changes) → i ≡ kept.index → numbers old ≡ kept.events → j ≡ i → LeadsTo line.before c line.now.state → IfSome new (λ a. IsSomeAnd old (λ b. AreWoken j.events c (event_numbers b.items) (event_numbers a.items))) → (w : List ℕ) → numbers new ≡ Some w → StillWoken (record { line = line; kept = kept }) w
still_so line kept i j old None c m n e l h w k = absurd (none_some w k)
still_so line kept i j None (Some v) c m n e l h w k = absurd h
still_so line kept i j (Some b) (Some v) c m n e l h w k = record {
  before = event_numbers b.items;
  waited = sym n;
  by = woken_so line kept i j (Some v) c (event_numbers b.items) m e l h w k;
}

-- what stands still along a running set
pub events_still : (fits : Fraction → Type 0) (P : Problem) (s : State) (rs : List Fraction) (i : Index) (listed : List ℕ) → Indexes P i → IsAtRest fits P s → ReadAny i.events (moving_of rs) listed → OthersStill fits (event_conditions P) s rs listed
events_still fits P s rs i listed x q r = record { stand = stands_by (event_conditions P) i.events rs listed x.events r; pass = λ k c g n. q.events.pass k c g refl }

pub events_silent : (fits : Fraction → Type 0) (P : Problem) (s : State) (listed : List ℕ) → IsAtRest fits P s → OthersFalse (event_conditions P) s listed
events_silent fits P s listed q k c g n = q.events.silent k c g refl

pub processes_still : (fits : Fraction → Type 0) (P : Problem) (s : State) (rs : List Fraction) (i : Index) (listed : List ℕ) → Indexes P i → IsAtRest fits P s → ReadAny i.processes (moving_of rs) listed → OthersStill fits (process_conditions P) s rs listed
processes_still fits P s rs i listed x q r = record { stand = stands_by (process_conditions P) i.processes rs listed x.processes r; pass = λ k c g n. q.processes k c g refl }

-- the processes that wait after a step, by the code's fields
pub woken_by : (v : IndexedView) (waiting result : Option (List ℕ)) (t : Readers) (c : Changes) → waiting ≡ v.kept.processes → t ≡ v.kept.index.processes → LeadsTo v.line.before c v.line.now.state → IfSome result (λ after. IsSomeAnd waiting (λ before. AddsReaders t c before after)) → (w : List ℕ) → result ≡ Some w → ProcessesWoken v w
woken_by v None None t c p q l h w e = absurd (none_some w e)
woken_by v (Some b) None t c p q l h w e = absurd (none_some w e)
woken_by v None (Some a) t c p q l h w e = absurd h
woken_by v (Some b) (Some a) t c p q l h w e =
    let k : a ≡ w = cc in
    record {
      before = b;
      were = sym p;
      changes = c;
      leads = l;
      woken = subst (λ (x : List ℕ). AddsReaders v.kept.index.processes c b x) k (subst (λ (x : Readers). AddsReaders x c b a) q h);
    }

-- the processes that wait do not hang on the events that do
pub woken_before : (line : TimelineView) (k u : Kept) (e : Option (List ℕ)) → u ≡ record k { events = e } → (w : List ℕ) → ProcessesWoken (record { line = line; kept = u }) w → ProcessesWoken (record { line = line; kept = k }) w
woken_before line k u e i w h =
    let x : ProcessesWoken (record { line = line; kept = record k { events = e } }) w = subst (λ (y : Kept). ProcessesWoken (record { line = line; kept = y }) w) i h in
    record { before = x.before; were = x.were; changes = x.changes; leads = x.leads; woken = x.woken }
