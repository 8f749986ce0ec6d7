-- The changes of a state that moves.
use Rattle.std.proofs.Common.{◌≡◌, ℕ, ◌<◌, ◌≤◌, ◌+◌, zero, suc, Bool, true, false, List, [], ◌∷◌, ◌++◌, length, drop, refl, ap, ap₂, sym, subst, ◌∙◌, append_assoc, arith, pos, length-append}
use Rattle.std.proofs.lemmas.List.{set_at, append-nil, drop_all}
use Rattle.std.specs.List.Sorted.{IsStrictlySortedBy}
use Rattle.std.specs.Map.{keys_of}
use Rattle.std.specs.Ordering.{nat_cmp}
use Rattle.std.specs.Prelude.{Option, Some, None, Result, Ok, Err, MatchResult, OnOk, not, slice_get, unwrap_or, if◌then◌else◌}
use Rattle.plus_fraction.specs.Fraction.{Fraction, ◌+ℚ◌, ◌*ℚ◌}
use Rattle.plus_fraction.proofs.Ring.{var, num, ◌⊕◌, ◌⊗◌}
use Rattle.plus_fraction.proofs.FractionRing.{ringℚ}
use Rattle.plus_model.specs.Terms.{State}
use Rattle.plus_model.specs.Value.{is_zero}
use Rattle.plus_model.specs.Firing.{numbers_of}
use Rattle.plus_model.specs.Piece.{rate_of}
use Rattle.plus_model.specs.Running.{moved_values, moved}
use Rattle.plus_model.proofs.Along.{from_zero}
use Rattle.plus_state.specs.declared.term.Sign.TheVariants.{Plus, Times}
use Rattle.plus_state.specs.Node.{Node}
use Rattle.plus_state.specs.Asked.{node, NodeFits, AllFit, FirstUnfit}
use Rattle.plus_state.specs.View.{overflow_of}
use Rattle.plus_state.specs.declared.changes.AtomChange.{AtomChange}
use Rattle.plus_state.specs.ChangesView.{atom_changes}
use Rattle.plus_state.specs.Changes.{Changes, patched_list, patched, AreIn, Over, Rises, RisesIn}
use Rattle.plus_state.proofs.Testing.{pass_none, pass_append, fail_left, fail_right}
use Rattle.plus_crossing.specs.declared.moves.MoveStop.{MoveStop}
use Rattle.plus_crossing.specs.declared.moves.MoveStop.TheVariants.{Number, Memory}
use Rattle.plus_crossing.specs.Rated.{all_rates, moving_of}
use Rattle.plus_crossing.specs.Moves.{moved_value, fluent_nodes, moved_nodes, change_if, moving_changes, MovesTo, MoveStops, MovesTell}
use Rattle.plus_crossing.proofs.Moving.{next_rate}
use Rattle.plus_crossing.proofs.Rated.{AreRates, rates_given, moving_keys, moving_is}

-- ---- the list of changes leads to the moment
no_time : (v : Option Fraction) (r x y : Fraction) → is_zero r ≡ true → moved_value v r x ≡ moved_value v r y
no_time None r x y e = refl
no_time (Some v) r x y e =
    ap Some (ap (λ (k : Fraction). v +ℚ k *ℚ x) (from_zero r e)
    ∙ ringℚ (v ∷ x ∷ y ∷ []) (var 0 ⊕ num (pos 0) ⊗ var 1) (var 0 ⊕ num (pos 0) ⊗ var 2) refl
    ∙ sym (ap (λ (k : Fraction). v +ℚ k *ℚ y) (from_zero r e)))

-- one value, behind those that are done
put_one : (b : Bool) (done : List (Option Fraction)) (v : Option Fraction) (r from x : Fraction) (left : List (Option Fraction)) (more : List (ℕ × Option Fraction)) → is_zero r ≡ b → patched_list ((if b then [] else (length done, moved_value v r x) ∷ []) ++ more) (done ++ moved_value v r from ∷ left) ≡ patched_list more ((done ++ moved_value v r x ∷ []) ++ left)
put_one true done v r from x left more e =
    ap (patched_list more) (ap (λ (w : Option Fraction). done ++ w ∷ left) (no_time v r from x e) ∙ sym (append_assoc done (moved_value v r x ∷ []) left))
put_one false done v r from x left more e =
    ap (patched_list more) (set_at done (moved_value v r from) left (moved_value v r x) (length done) refl ∙ sym (append_assoc done (moved_value v r x ∷ []) left))

leads : (done vs : List (Option Fraction)) (rs : List Fraction) (from x : Fraction) → patched_list (moving_changes (length done) vs rs x) (done ++ moved_values vs rs from) ≡ done ++ moved_values vs rs x
leads done [] rs from x = refl
leads done (v ∷ vs) [] from x = refl
leads done (v ∷ vs) (r ∷ rs) from x =
    let w : Option Fraction = moved_value v r x in
    let l = length-append done (w ∷ []) in
    let n : suc (length done) ≡ length (done ++ w ∷ []) = omega (arith, l) in
    put_one (is_zero r) done v r from x (moved_values vs rs from) (moving_changes (suc (length done)) vs rs x) refl
    ∙ ap (λ (k : ℕ). patched_list (moving_changes k vs rs x) ((done ++ w ∷ []) ++ moved_values vs rs from)) n
    ∙ leads (done ++ w ∷ []) vs rs from x
    ∙ append_assoc done (w ∷ []) (moved_values vs rs x)

pub leads_to : (s : State) (rs : List Fraction) (x : Fraction) (c : Changes) → c ≡ record { atoms = []; fluents = moving_changes 0 s.fluents rs x } → MovesTo s rs x c
unfolding moved
leads_to s rs x c e from =
    ap (patched (moved s rs from)) e ∙ ap (λ (vs : List (Option Fraction)). record { atoms = s.atoms; fluents = vs }) (leads [] s.fluents rs from x)

-- ---- the numbers rise
over_if : (b : Bool) (k j : ℕ) (w : Option Fraction) (more : List (ℕ × Option Fraction)) → k < j → Over k more → Over k ((if b then [] else (j, w) ∷ []) ++ more)
over_if true k j w more h o = o
over_if false k j w more h o = (h, o)

over : (k j : ℕ) (vs : List (Option Fraction)) (rs : List Fraction) (x : Fraction) → k < j → Over k (moving_changes j vs rs x)
over k j [] rs x h = tt
over k j (v ∷ vs) [] x h = tt
over k j (v ∷ vs) (r ∷ rs) x h = over_if (is_zero r) k j (moved_value v r x) (moving_changes (suc j) vs rs x) h (over k (suc j) vs rs x (omega arith))

rises_if : (b : Bool) (j : ℕ) (w : Option Fraction) (more : List (ℕ × Option Fraction)) → Over j more → Rises more → Rises ((if b then [] else (j, w) ∷ []) ++ more)
rises_if true j w more o h = h
rises_if false j w more o h = (o, h)

rises : (j : ℕ) (vs : List (Option Fraction)) (rs : List Fraction) (x : Fraction) → Rises (moving_changes j vs rs x)
rises j [] rs x = tt
rises j (v ∷ vs) [] x = tt
rises j (v ∷ vs) (r ∷ rs) x = rises_if (is_zero r) j (moved_value v r x) (moving_changes (suc j) vs rs x) (over j (suc j) vs rs x (omega arith)) (rises (suc j) vs rs x)

in_if : (b : Bool) (n j : ℕ) (w : Option Fraction) (more : List (ℕ × Option Fraction)) → j < n → AreIn n more → AreIn n ((if b then [] else (j, w) ∷ []) ++ more)
in_if true n j w more h o = o
in_if false n j w more h o = (h, o)

inside : (n j : ℕ) (vs : List (Option Fraction)) (rs : List Fraction) (x : Fraction) → j + length vs ≤ n → AreIn n (moving_changes j vs rs x)
inside n j [] rs x h = tt
inside n j (v ∷ vs) [] x h = tt
inside n j (v ∷ vs) (r ∷ rs) x h = in_if (is_zero r) n j (moved_value v r x) (moving_changes (suc j) vs rs x) (omega arith) (inside n (suc j) vs rs x (omega arith))

pub rises_in : (s : State) (rs : List Fraction) (x : Fraction) (c : Changes) → c ≡ record { atoms = []; fluents = moving_changes 0 s.fluents rs x } → RisesIn s c
rises_in s rs x c e = subst (RisesIn s) (sym e) (record {
  atoms = tt;
  fluents = rises 0 s.fluents rs x;
  within = record { atoms_in = tt; fluents_in = inside (length s.fluents) 0 s.fluents rs x (omega arith) };
})

-- ---- fluents, one after the other
pub next_value : (vs : List (Option Fraction)) (i : ℕ) → i < length vs → drop i vs ≡ unwrap_or (slice_get vs i) None ∷ drop (i + 1) vs
next_value [] i h = absurd (omega arith)
next_value (v ∷ vs) zero h = refl
next_value (v ∷ vs) (suc i) h =
    let e : suc i + 1 ≡ suc (i + 1) = omega arith in
    next_value vs i (omega arith) ∙ ap (λ (n : ℕ). unwrap_or (slice_get vs i) None ∷ drop n (v ∷ vs)) (sym e)

-- ---- the fluents that move alone
abbrev pub changes_among : List ℕ → List (Option Fraction) → List Fraction → Fraction → List (ℕ × Option Fraction)
changes_among [] vs rs x = []
changes_among (k ∷ ks) vs rs x = (k, moved_value (unwrap_or (slice_get vs k) None) (rate_of rs k) x) ∷ changes_among ks vs rs x

abbrev pub nodes_among : List ℕ → List (Option Fraction) → List Fraction → Fraction → List Node
nodes_among [] vs rs x = []
nodes_among (k ∷ ks) vs rs x = fluent_nodes (unwrap_or (slice_get vs k) None) (rate_of rs k) x ++ nodes_among ks vs rs x

one_change : (b : Bool) (k : ℕ) (ks : List ℕ) (vs : List (Option Fraction)) (rs : List Fraction) (x : Fraction) → changes_among (if not b then k ∷ ks else ks) vs rs x ≡ (if b then [] else (k, moved_value (unwrap_or (slice_get vs k) None) (rate_of rs k) x) ∷ []) ++ changes_among ks vs rs x
one_change true k ks vs rs x = refl
one_change false k ks vs rs x = refl

no_nodes : (v : Option Fraction) (r x : Fraction) → is_zero r ≡ true → [] ≡ fluent_nodes v r x
unfolding fluent_nodes
no_nodes None r x e = refl
no_nodes (Some v) r x e = ap (λ (b : Bool). if b then [] else node Times r x ∷ node Plus v (r *ℚ x) ∷ []) (sym e)

one_asked : (b : Bool) (k : ℕ) (ks : List ℕ) (vs : List (Option Fraction)) (rs : List Fraction) (x : Fraction) → is_zero (rate_of rs k) ≡ b → nodes_among (if not b then k ∷ ks else ks) vs rs x ≡ fluent_nodes (unwrap_or (slice_get vs k) None) (rate_of rs k) x ++ nodes_among ks vs rs x
one_asked true k ks vs rs x e = ap (λ (ns : List Node). ns ++ nodes_among ks vs rs x) (no_nodes (unwrap_or (slice_get vs k) None) (rate_of rs k) x e)
one_asked false k ks vs rs x e = refl

-- the numbers of those that move, from k on, with what they change and ask
pub record Among (k : ℕ) (vs : List (Option Fraction)) (rs : List Fraction) (x : Fraction) : Type 0 where
  pub changes : changes_among (numbers_of (λ r. not (is_zero r)) k (drop k rs)) vs rs x ≡ moving_changes k (drop k vs) (drop k rs) x
  pub nodes : nodes_among (numbers_of (λ r. not (is_zero r)) k (drop k rs)) vs rs x ≡ moved_nodes (drop k vs) (drop k rs) x

next_among : (k : ℕ) (vs : List (Option Fraction)) (rs : List Fraction) (x : Fraction) → k < length vs → k < length rs → Among (suc k) vs rs x → Among k vs rs x
next_among k vs rs x h l a =
    let one : k + 1 ≡ suc k = omega arith in
    let ks : List ℕ = numbers_of (λ r. not (is_zero r)) (suc k) (drop (suc k) rs) in
    let v : Option Fraction = unwrap_or (slice_get vs k) None in
    let r : Fraction = rate_of rs k in
    let d : drop k vs ≡ v ∷ drop (suc k) vs = next_value vs k h ∙ ap (λ (i : ℕ). v ∷ drop i vs) one in
    let e : drop k rs ≡ r ∷ drop (suc k) rs = next_rate rs k l ∙ ap (λ (i : ℕ). r ∷ drop i rs) one in
    record {
      changes = ap (λ (qs : List Fraction). changes_among (numbers_of (λ q. not (is_zero q)) k qs) vs rs x) e
          ∙ one_change (is_zero r) k ks vs rs x
          ∙ ap (λ (cs : List (ℕ × Option Fraction)). change_if k v r x ++ cs) a.changes
          ∙ sym (ap₂ (λ (ws : List (Option Fraction)) (qs : List Fraction). moving_changes k ws qs x) d e);
      nodes = ap (λ (qs : List Fraction). nodes_among (numbers_of (λ q. not (is_zero q)) k qs) vs rs x) e
          ∙ one_asked (is_zero r) k ks vs rs x refl
          ∙ ap (λ (ns : List Node). fluent_nodes v r x ++ ns) a.nodes
          ∙ sym (ap₂ (λ (ws : List (Option Fraction)) (qs : List Fraction). moved_nodes ws qs x) d e);
    }

among : (n k : ℕ) (vs : List (Option Fraction)) (rs : List Fraction) (x : Fraction) → k + n ≡ length vs → length rs ≡ length vs → Among k vs rs x
among zero k vs rs x h l =
    let d : drop k vs ≡ [] = drop_all k vs (omega arith) in
    let e : drop k rs ≡ [] = drop_all k rs (omega arith) in
    record {
      changes = ap (λ (qs : List Fraction). changes_among (numbers_of (λ q. not (is_zero q)) k qs) vs rs x) e
          ∙ sym (ap₂ (λ (ws : List (Option Fraction)) (qs : List Fraction). moving_changes k ws qs x) d e);
      nodes = ap (λ (qs : List Fraction). nodes_among (numbers_of (λ q. not (is_zero q)) k qs) vs rs x) e
          ∙ sym (ap₂ (λ (ws : List (Option Fraction)) (qs : List Fraction). moved_nodes ws qs x) d e);
    }
among (suc n) k vs rs x h l = next_among k vs rs x (omega arith) (omega arith) (among n (suc k) vs rs x (omega arith) l)

-- ---- the rates that are given alone
module _ {Q : Type 0} (v : Q → Fraction) where
  abbrev pub changes_by : List (ℕ × Q) → List (Option Fraction) → Fraction → List (ℕ × Option Fraction)
  changes_by [] vs x = []
  changes_by (e ∷ es) vs x = change_if e.0 (unwrap_or (slice_get vs e.0) None) (v e.1) x ++ changes_by es vs x

  abbrev pub nodes_by : List (ℕ × Q) → List (Option Fraction) → Fraction → List Node
  nodes_by [] vs x = []
  nodes_by (e ∷ es) vs x = fluent_nodes (unwrap_or (slice_get vs e.0) None) (v e.1) x ++ nodes_by es vs x

  one_given : (b : Bool) (k : ℕ) (ks : List ℕ) (vs : List (Option Fraction)) (rs : List Fraction) (x r : Fraction) → rate_of rs k ≡ r → (if b then [] else (k, moved_value (unwrap_or (slice_get vs k) None) r x) ∷ []) ++ changes_among ks vs rs x ≡ changes_among (if b then ks else k ∷ ks) vs rs x
  one_given true k ks vs rs x r e = refl
  one_given false k ks vs rs x r e = ap (λ (q : Fraction). (k, moved_value (unwrap_or (slice_get vs k) None) q x) ∷ changes_among ks vs rs x) (sym e)

  one_needed : (b : Bool) (k : ℕ) (ks : List ℕ) (vs : List (Option Fraction)) (rs : List Fraction) (x r : Fraction) → is_zero r ≡ b → rate_of rs k ≡ r → fluent_nodes (unwrap_or (slice_get vs k) None) r x ++ nodes_among ks vs rs x ≡ nodes_among (if b then ks else k ∷ ks) vs rs x
  one_needed true k ks vs rs x r z e = ap (λ (ns : List Node). ns ++ nodes_among ks vs rs x) (sym (no_nodes (unwrap_or (slice_get vs k) None) r x z))
  one_needed false k ks vs rs x r z e = ap (λ (q : Fraction). fluent_nodes (unwrap_or (slice_get vs k) None) q x ++ nodes_among ks vs rs x) (sym e)

  given_changes : (es : List (ℕ × Q)) (vs : List (Option Fraction)) (rs : List Fraction) (x : Fraction) → AreRates v rs es → changes_by es vs x ≡ changes_among (moving_keys v es) vs rs x
  given_changes [] vs rs x h = refl
  given_changes (e ∷ es) vs rs x h =
      ap (λ (cs : List (ℕ × Option Fraction)). change_if e.0 (unwrap_or (slice_get vs e.0) None) (v e.1) x ++ cs) (given_changes es vs rs x h.1)
      ∙ one_given (is_zero (v e.1)) e.0 (moving_keys v es) vs rs x (v e.1) h.0

  given_nodes : (es : List (ℕ × Q)) (vs : List (Option Fraction)) (rs : List Fraction) (x : Fraction) → AreRates v rs es → nodes_by es vs x ≡ nodes_among (moving_keys v es) vs rs x
  given_nodes [] vs rs x h = refl
  given_nodes (e ∷ es) vs rs x h =
      ap (λ (ns : List Node). fluent_nodes (unwrap_or (slice_get vs e.0) None) (v e.1) x ++ ns) (given_nodes es vs rs x h.1)
      ∙ one_needed (is_zero (v e.1)) e.0 (moving_keys v es) vs rs x (v e.1) refl h.0

  pub record Noting (fits : Fraction → Type 0) (found : List (ℕ × Option Fraction)) (left : List (ℕ × Q)) (vs : List (Option Fraction)) (rs : List Fraction) (x : Fraction) : Type 0 where
    pub inside : AreIn (length vs) left
    pub so_far : found ++ changes_by left vs x ≡ moving_changes 0 vs rs x
    pub fit : AllFit fits (nodes_by left vs x) → AllFit fits (moved_nodes vs rs x)
    pub unfit : (m : Node) → FirstUnfit fits (nodes_by left vs x) m → FirstUnfit fits (moved_nodes vs rs x) m

  -- what they change and ask is what all rates do
  pub record Given (es : List (ℕ × Q)) (vs : List (Option Fraction)) (rs : List Fraction) (x : Fraction) : Type 0 where
    pub changes : changes_by es vs x ≡ moving_changes 0 vs rs x
    pub nodes : nodes_by es vs x ≡ moved_nodes vs rs x

  pub all_given : (es : List (ℕ × Q)) (vs : List (Option Fraction)) (rs : List Fraction) (x : Fraction) → all_rates v es 0 (length rs) ≡ rs → IsStrictlySortedBy nat_cmp (keys_of es) → AreIn (length rs) es → length rs ≡ length vs → Given es vs rs x
  all_given es vs rs x r s i l =
      let z : 0 + length vs ≡ length vs = omega arith in
      let a = among (length vs) 0 vs rs x z l in
      let g = rates_given v es (length rs) rs r s i in
      let k : moving_keys v es ≡ moving_of rs = moving_is v es (length rs) rs r s i in
      record {
        changes = given_changes es vs rs x g ∙ ap (λ (js : List ℕ). changes_among js vs rs x) k ∙ a.changes;
        nodes = given_nodes es vs rs x g ∙ ap (λ (js : List ℕ). nodes_among js vs rs x) k ∙ a.nodes;
      }

  pub noting_start : (fits : Fraction → Type 0) (found : List (ℕ × Option Fraction)) (es left : List (ℕ × Q)) (vs : List (Option Fraction)) (rs : List Fraction) (x : Fraction) → found ≡ [] → all_rates v es 0 (length rs) ≡ rs → IsStrictlySortedBy nat_cmp (keys_of es) → AreIn (length rs) es → left ≡ es → length rs ≡ length vs → Noting fits found left vs rs x
  noting_start fits found es left vs rs x e r s i d l =
      let a = all_given es vs rs x r s i l in
      let c : changes_by left vs x ≡ moving_changes 0 vs rs x = ap (λ (js : List (ℕ × Q)). changes_by js vs x) d ∙ a.changes in
      let n : nodes_by left vs x ≡ moved_nodes vs rs x = ap (λ (js : List (ℕ × Q)). nodes_by js vs x) d ∙ a.nodes in
      record {
        inside = subst (AreIn (length vs)) (sym d) (subst (λ (m : ℕ). AreIn m es) l i);
        so_far = ap (λ (f : List (ℕ × Option Fraction)). f ++ changes_by left vs x) e ∙ c;
        fit = subst (AllFit fits) n;
        unfit = λ m. subst (λ (ns : List Node). FirstUnfit fits ns m) n;
      }

  module _ (fits : Fraction → Type 0) (found : List (ℕ × Option Fraction)) (k : ℕ) (q : Q) (left more : List (ℕ × Q)) (vs : List (Option Fraction)) (rs : List Fraction) (x : Fraction) (d : left ≡ (k, q) ∷ more) (h : Noting fits found left vs rs x) where
    pub noting_inside : k < length vs
    noting_inside = (subst (AreIn (length vs)) d h.inside).0

    here : nodes_by left vs x ≡ fluent_nodes (unwrap_or (slice_get vs k) None) (v q) x ++ nodes_by more vs x
    here = ap (λ (js : List (ℕ × Q)). nodes_by js vs x) d

    pub noting_stop : (w : Option Fraction) (stop : MoveStop Q) → w ≡ unwrap_or (slice_get vs k) None → MoveStops v fits (fluent_nodes w (v q) x) stop → MoveStops v fits (moved_nodes vs rs x) stop
    noting_stop w (Number o) e u =
        h.unfit (overflow_of v o) (subst (λ (ns : List Node). FirstUnfit fits ns (overflow_of v o)) (sym here) (fail_left (NodeFits fits) _ _ (overflow_of v o) (subst (λ (y : Option Fraction). FirstUnfit fits (fluent_nodes y (v q) x) (overflow_of v o)) e u)))
    noting_stop w Memory e u = tt

    pub noting_next : (w : Option Fraction) (new : List (ℕ × Option Fraction)) → w ≡ unwrap_or (slice_get vs k) None → AllFit fits (fluent_nodes w (v q) x) → new ≡ found ++ change_if k w (v q) x → Noting fits new more vs rs x
    noting_next w new e a n =
        let c : List (ℕ × Option Fraction) = change_if k (unwrap_or (slice_get vs k) None) (v q) x in
        let b : AllFit fits (fluent_nodes (unwrap_or (slice_get vs k) None) (v q) x) = subst (λ (y : Option Fraction). AllFit fits (fluent_nodes y (v q) x)) e a in
        let is : new ≡ found ++ c = n ∙ ap (λ (y : Option Fraction). found ++ change_if k y (v q) x) e in
        record {
          inside = (subst (AreIn (length vs)) d h.inside).1;
          so_far = ap (λ (l : List (ℕ × Option Fraction)). l ++ changes_by more vs x) is ∙ append_assoc found c (changes_by more vs x) ∙ ap (λ (js : List (ℕ × Q)). found ++ changes_by js vs x) (sym d) ∙ h.so_far;
          fit = λ f. h.fit (subst (AllFit fits) (sym here) (pass_append (NodeFits fits) _ _ b f));
          unfit = λ m u. h.unfit m (subst (λ (ns : List Node). FirstUnfit fits ns m) (sym here) (fail_right (NodeFits fits) _ _ m b u));
        }

  pub noting_end : (fits : Fraction → Type 0) (found : List (ℕ × Option Fraction)) (left : List (ℕ × Q)) (vs : List (Option Fraction)) (rs : List Fraction) (x : Fraction) → left ≡ [] → Noting fits found left vs rs x → AllFit fits (moved_nodes vs rs x) × (found ≡ moving_changes 0 vs rs x)
  noting_end fits found left vs rs x d h = (
    h.fit (subst (λ (js : List (ℕ × Q)). AllFit fits (nodes_by js vs x)) (sym d) (pass_none (NodeFits fits))),
    sym (append-nil found) ∙ ap (λ (js : List (ℕ × Q)). found ++ changes_by js vs x) (sym d) ∙ h.so_far,
  )

-- ---- one note
pub still_asks : (fits : Fraction → Type 0) (w : Option Fraction) (r x : Fraction) → is_zero r ≡ true → AllFit fits (fluent_nodes w r x)
still_asks fits w r x z = subst (AllFit fits) (no_nodes w r x z) (pass_none (NodeFits fits))

pub still_changes : (found : List (ℕ × Option Fraction)) (k : ℕ) (w : Option Fraction) (r x : Fraction) → is_zero r ≡ true → found ≡ found ++ change_if k w r x
still_changes found k w r x z = sym (append-nil found) ∙ ap (λ (b : Bool). found ++ (if b then [] else (k, moved_value w r x) ∷ [])) (sym z)

-- no atoms
abbrev pub noted : List (ℕ × Bool) → List (ℕ × Option Fraction) → Changes
noted atoms fluents = record { atoms = atoms; fluents = fluents }

pub only_fluents : (atoms : List AtomChange) (fluents wanted : List (ℕ × Option Fraction)) → atoms ≡ [] → fluents ≡ wanted → noted (atom_changes atoms) fluents ≡ noted [] wanted
only_fluents atoms fluents wanted e d = ap₂ (λ (a : List AtomChange) (f : List (ℕ × Option Fraction)). noted (atom_changes a) f) e d

-- where the list of changes is put in place of other fluents, and there are no atoms
module _ {Q : Type 0} (v : Q → Fraction) (fits : Fraction → Type 0) (s : State) (rs : List Fraction) (x : Fraction) (atoms : List AtomChange) (fluents : List (ℕ × Option Fraction)) (none : atoms ≡ []) where
  abbrev pub PutsFluents : Result (Unit {0}) (MoveStop Q) → Type 0
  PutsFluents answer = MatchResult answer (λ _. AllFit fits (moved_nodes s.fluents rs x) × (fluents ≡ moving_changes 0 s.fluents rs x)) (λ e. MoveStops v fits (moved_nodes s.fluents rs x) e)

  pub told_whole : (answer : Result (Unit {0}) (MoveStop Q)) → PutsFluents answer → MovesTell v fits s rs x (noted (atom_changes atoms) fluents) answer
  told_whole (Ok u) h = (h.0, leads_to s rs x _ (only_fluents atoms fluents _ none h.1))
  told_whole (Err stop) h = h

  pub rises_whole : (answer : Result (Unit {0}) (MoveStop Q)) → PutsFluents answer → OnOk answer (RisesIn s (noted (atom_changes atoms) fluents))
  rises_whole (Ok u) h = rises_in s rs x _ (only_fluents atoms fluents _ none h.1)
  rises_whole (Err stop) h = tt
