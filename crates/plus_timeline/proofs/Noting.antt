-- The states of an entry where changes are noted and made.
use Rattle.std.proofs.Common.{◌≡◌, ℕ, List, [], length, ap, ap₂, sym, subst, ◌∙◌}
use Rattle.std.specs.Prelude.{Bool, Option, Some, None, IfSome, option_map, Result, Ok, Err, OnErr}
use Rattle.plus_fraction.specs.Fraction.{Fraction}
use Rattle.plus_model.specs.Terms.{State}
use Rattle.plus_state.specs.Changes.{Changes, TrailView, patched_list, patched, Within}
use Rattle.plus_state.specs.Fits.{StateFits}
use Rattle.plus_state.proofs.PatchLemmas.{same_atoms, same_fluents}
use Rattle.plus_timeline.specs.Undo.{undone, recalled, root_at, Notes}
use Rattle.plus_timeline.specs.EntryStates.{EntryView, LedBy, KeepsEntry, IsReached, Leads}
use Rattle.plus_timeline.proofs.Entries.{ahead_on}
use Rattle.plus_timeline.proofs.Roots.{joined, noted_root, stepped_root, noted_in, inside_after, way_within, way_leads}

-- what was changed since the arrival is forgotten, and nothing was changed
pub kept_noted : (arrival state : State) (past past' : Option Changes) (ahead : Option State) (c : Changes) (old new : Option Changes) → KeepsEntry arrival past state ahead old → past' ≡ None → Within (length state.atoms) (length state.fluents) c → Notes state c old new → KeepsEntry arrival past' state ahead new
kept_noted arrival state past past' ahead c old new h e w n = record {
  led = record {
    is = subst (λ o. IfSome o (λ p. state ≡ patched arrival p)) (sym e) tt;
    within = subst (λ o. IfSome o (λ p. Within (length arrival.atoms) (length arrival.fluents) p)) (sym e) tt;
    same = h.led.same;
  };
  inside = noted_in state c w old new h.inside n;
}

-- the changes that are taken out lead from the arrival to the state now
pub taken_leads : (arrival state t : State) (past taken : Option Changes) (ahead : Option State) → LedBy arrival past state ahead → taken ≡ past → t ≡ state → IfSome taken (λ p. Leads arrival p t)
taken_leads arrival state t None taken ahead h e f = subst (λ o. IfSome o (λ p. Leads arrival p t)) (sym e) tt
taken_leads arrival state t (Some p) taken ahead h e f = subst (λ o. IfSome o (λ p. Leads arrival p t)) (sym e) (record { within = h.within; is = f ∙ h.is })

-- a step is made
pub inside_stepped : (s t : State) (c : Changes) (old new : Option Changes) → t ≡ patched s c → IfSome old (λ u. Within (length s.atoms) (length s.fluents) u) → Within (length s.atoms) (length s.fluents) c → Notes s c old new → IfSome new (λ u. Within (length t.atoms) (length t.fluents) u)
inside_stepped s t c old new e h w n = inside_after s t c new e (noted_in s c w old new h n)

module _ (s b a : State) (old : Option Changes) (v : EntryView) (p : record { state = s; before = b; arrival = a; root = root_at s old } ≡ v) where
  pub view_noted : (c : Changes) (new : Option Changes) → Within (length s.atoms) (length s.fluents) c → Notes s c old new → record { state = s; before = b; arrival = a; root = root_at s new } ≡ v
  view_noted c new w n = ap (λ r. record { state = s; before = b; arrival = a; root = r }) (noted_root s c w old new n) ∙ p

  pub view_stepped : (t : TrailView) (c : Changes) (new : Option Changes) → Within (length s.atoms) (length s.fluents) c → Notes s c old new → t ≡ record { state = patched s c; before = s } → record { state = t.state; before = t.before; arrival = a; root = root_at t.state new } ≡ record v { state = patched v.state c; before = v.state }
  view_stepped t c new w n q =
      ap₂ (λ (x : TrailView) (r : Option State). record { state = x.state; before = x.before; arrival = a; root = r }) q (stepped_root s c w t.state old new (ap (λ x. x.state) q) n)
      ∙ ap (λ (e : EntryView). record e { state = patched e.state c; before = e.state }) p

-- the step to the next entry: its literals, and what moves on the way
abbrev pub step_of : Changes → Changes → Changes
step_of literals moves = record { atoms = literals.atoms; fluents = moves.fluents }

pub step_in : (m n : ℕ) (literals moves : Changes) → Within m n literals → Within m n moves → Within m n (step_of literals moves)
step_in m n literals moves h g = record { atoms_in = h.atoms_in; fluents_in = g.fluents_in }

-- so do they fit the state that the moves lead to
pub literals_in : (s : State) (moves literals : Changes) → Within (length s.atoms) (length s.fluents) literals → Within (length (patched s moves).atoms) (length (patched s moves).fluents) literals
literals_in s moves literals w =
    subst (λ m. Within m (length (patched s moves).fluents) literals) (sym (same_atoms s moves))
    (subst (λ m. Within (length s.atoms) m literals) (sym (same_fluents s moves)) w)

pub ahead_in : (s ahead : State) (moves literals : Changes) → IsReached s moves ahead → Within (length s.atoms) (length s.fluents) literals → Within (length ahead.atoms) (length ahead.fluents) literals
ahead_in s ahead moves literals r w = subst (λ (x : State). Within (length x.atoms) (length x.fluents) literals) (sym r.is) (literals_in s moves literals w)

-- what the way to the next entry and its literals come to
entered : (s ahead : State) (moves literals : Changes) → IsReached s moves ahead → literals.fluents ≡ [] → patched s (step_of literals moves) ≡ patched (patched s moves) literals
entered s ahead moves literals r o =
    ap₂ (λ (x : List Bool) (y : List (Option Fraction)). record { atoms = x; fluents = y })
    (ap (patched_list literals.atoms) (sym r.atoms ∙ ap (λ (x : State). x.atoms) r.is))
    (sym (ap (λ l. patched_list l (patched s moves).fluents) o))

-- the next entry is begun
module _ (s b a : State) (old new : Option Changes) (v : EntryView) (p : record { state = s; before = b; arrival = a; root = root_at s old } ≡ v) (t : TrailView) (arrived ahead : State) (moves literals : Changes) (r : IsReached s moves ahead) (o : literals.fluents ≡ []) (w : Within (length s.atoms) (length s.fluents) literals) (n : Notes s (step_of literals moves) old new) (e : arrived ≡ patched s moves) (q : t ≡ record { state = patched s (step_of literals moves); before = s }) where
  inside : Within (length s.atoms) (length s.fluents) (step_of literals moves)
  inside = step_in (length s.atoms) (length s.fluents) literals moves w r.rises.within

  there : t.state ≡ patched (patched s moves) literals
  there = ap (λ x. x.state) q ∙ entered s ahead moves literals r o

  pub view_entered : ◌≡◌ {A = EntryView} (record { state = t.state; before = t.before; arrival = arrived; root = root_at t.state new }) (record { state = patched (patched v.state moves) literals; before = v.state; arrival = patched v.state moves; root = v.root })
  view_entered =
      let root = stepped_root s (step_of literals moves) inside t.state old new (ap (λ x. x.state) q) n in
      let entry : State → State → State → Option State → EntryView = λ x y z u. record { state = x; before = y; arrival = z; root = u } in
      let next : EntryView → EntryView = λ x. record { state = patched (patched x.state moves) literals; before = x.state; arrival = patched x.state moves; root = x.root } in
      (λ i. entry (there i) (q i).before (e i) (root i)) ∙ ap next p

  pub ahead_entered : (held : State) → held ≡ patched ahead literals → held ≡ t.state
  ahead_entered held f = f ∙ ap (λ x. patched x literals) r.is ∙ sym there

  pub kept_entered : (past : Changes) → past ≡ literals → IfSome old (λ u. Within (length s.atoms) (length s.fluents) u) → KeepsEntry arrived (Some past) t.state None new
  kept_entered past f h = record {
    led = record {
      is = there ∙ ap (λ x. patched x literals) (sym e) ∙ ap (patched arrived) (sym f);
      within = subst (λ x. Within (length x.atoms) (length x.fluents) past) (sym e)
          (subst (λ c. Within (length (patched s moves).atoms) (length (patched s moves).fluents) c) (sym f) (literals_in s moves literals w));
      same = tt;
    };
    inside = inside_after s t.state (step_of literals moves) new (ap (λ x. x.state) q) (noted_in s (step_of literals moves) inside old new h n);
  }

-- ---- back to the root and on to another state

pub record Following (x : EntryView) (past u v : Changes) (to : State) : Type 0 where
  pub past_leads : Leads x.arrival past x.state
  pub size : StateFits (length x.state.atoms) (length x.state.fluents) to
  pub undo : Within (length x.state.atoms) (length x.state.fluents) u
  pub other : Within (length x.state.atoms) (length x.state.fluents) v
  pub root : undone x.state u ≡ undone to v

module _ (x : EntryView) (past u v way : Changes) (to : State) (h : Following x past u v to) (w : way ≡ joined (recalled to u) (recalled to v)) where
  pub way_in : Within (length x.state.atoms) (length x.state.fluents) way
  way_in = way_within x.state to u v way (sym h.size.atoms_fit) (sym h.size.fluents_fit) h.undo h.other w

  way_to : patched x.state way ≡ to
  way_to = way_leads x.state to u v way (sym h.size.atoms_fit) (sym h.size.fluents_fit) h.undo h.other w h.root

  caught : (a : State) → a ≡ patched x.arrival past → a ≡ x.state
  caught a e = e ∙ sym h.past_leads.is

  pub way_in_arrival : (a : State) → a ≡ patched x.arrival past → Within (length a.atoms) (length a.fluents) way
  way_in_arrival a e = subst (λ s. Within (length s.atoms) (length s.fluents) way) (sym (caught a e)) way_in

  pub way_in_ahead : (o : Option State) → IfSome o (λ s. s ≡ x.state) → IfSome o (λ s. Within (length s.atoms) (length s.fluents) way)
  way_in_ahead None e = tt
  way_in_ahead (Some s) e = subst (λ y. Within (length y.atoms) (length y.fluents) way) (sym e) way_in

  module _ (t : TrailView) (a b : State) (q : t ≡ record { state = patched x.state way; before = patched x.state way }) (e : a ≡ patched x.arrival past) (f : b ≡ patched a way) (noted : Changes) (n : noted ≡ v) where
    arrived : b ≡ to
    arrived = f ∙ ap (λ s. patched s way) (caught a e) ∙ way_to

    trail_there : t ≡ record { state = to; before = to }
    trail_there = let pair : State → TrailView = λ s. record { state = s; before = s } in q ∙ ap pair way_to

    pub view_there : ◌≡◌ {A = EntryView} (record { state = t.state; before = t.before; arrival = b; root = Some (undone t.state noted) }) (record { state = to; before = to; arrival = to; root = Some (undone to v) })
    view_there =
        let entry : State → State → State → Option State → EntryView = λ p q r u. record { state = p; before = q; arrival = r; root = u } in
        λ i. entry (trail_there i).state (trail_there i).before (arrived i) (Some (undone (trail_there i).state (n i)))

    pub kept_there : (cleared : Changes) (ahead ahead' : Option State) → cleared ≡ record { atoms = []; fluents = [] } → IfSome ahead (λ s. s ≡ x.state) → ahead' ≡ option_map (λ s. patched s way) ahead → KeepsEntry b (Some cleared) t.state ahead' (Some noted)
    kept_there cleared ahead ahead' c g k = record {
      led = record {
        is = ap (λ y. y.state) trail_there ∙ sym arrived ∙ sym (ap (patched b) c);
        within = subst (λ y. Within (length b.atoms) (length b.fluents) y) (sym c) record { atoms_in = tt; fluents_in = tt };
        same = subst (λ o. IfSome o (λ s. s ≡ t.state)) (sym k) (ahead_on x.state t.state way ahead g (ap (λ y. y.state) q));
      };
      inside = inside_after x.state t.state way (Some noted) (ap (λ y. y.state) q) (subst (λ y. Within (length x.state.atoms) (length x.state.fluents) y) (sym n) h.other);
    }

pub on_err : {A E P : Type 0} (r : Result A E) → P → OnErr r P
on_err (Ok x) p = tt
on_err (Err e) p = p
