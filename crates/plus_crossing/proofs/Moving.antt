-- How far fluents are moved.
use Rattle.std.proofs.Common.{◌≡◌, ℕ, ◌<◌, ◌+◌, zero, suc, Bool, true, false, List, [], ◌∷◌, ◌++◌, length, set, drop, refl, ap, sym, subst, ◌∙◌, append_assoc, arith, pos, inl, inr, length-append}
use Rattle.std.proofs.lemmas.List.{length-set, set_at}
use Rattle.std.specs.Prelude.{Option, Some, None, slice_get, unwrap_or, if◌then◌else◌}
use Rattle.plus_fraction.specs.Fraction.{Fraction, whole, ◌+ℚ◌, ◌*ℚ◌}
use Rattle.plus_fraction.proofs.Ring.{var, num, ◌⊕◌, ◌⊗◌}
use Rattle.plus_fraction.proofs.FractionRing.{ringℚ}
use Rattle.plus_model.specs.Terms.{State}
use Rattle.plus_model.specs.Value.{fluent_of, is_zero}
use Rattle.plus_model.specs.Piece.{rate_of}
use Rattle.plus_model.specs.Running.{moved_values, moved}
use Rattle.plus_model.proofs.Along.{from_zero}
use Rattle.plus_state.specs.declared.term.Sign.TheVariants.{Plus, Times}
use Rattle.plus_state.specs.Node.{Node}
use Rattle.plus_state.specs.Asked.{node, NodeFits, AllFit, FirstUnfit}
use Rattle.plus_state.specs.Fits.{StateFits}
use Rattle.plus_state.specs.Tested as tested
use Rattle.plus_state.proofs.Testing.{pass_none, pass_append, fail_left, fail_right}
use Rattle.plus_crossing.specs.Moves.{moved_value, fluent_nodes, moved_nodes}

-- ---- one value
pub still_nodes : (fits : Fraction → Type 0) (v r x : Fraction) → true ≡ is_zero r → AllFit fits (fluent_nodes (Some v) r x)
unfolding fluent_nodes
still_nodes fits v r x e = subst (λ (b : Bool). AllFit fits (if b then [] else node Times r x ∷ node Plus v (r *ℚ x) ∷ [])) e (pass_none (NodeFits fits))

pub still_value : (v r x : Fraction) → true ≡ is_zero r → Some v ≡ moved_value (Some v) r x
still_value v r x e =
    ap Some (sym (ap (λ (k : Fraction). v +ℚ k *ℚ x) (from_zero r (sym e)) ∙ ringℚ (v ∷ x ∷ []) (var 0 ⊕ num (pos 0) ⊗ var 1) (var 0) refl))

moving_nodes : (v r x : Fraction) → false ≡ is_zero r → node Times r x ∷ node Plus v (r *ℚ x) ∷ [] ≡ fluent_nodes (Some v) r x
unfolding fluent_nodes
moving_nodes v r x e = ap (λ (b : Bool). if b then [] else node Times r x ∷ node Plus v (r *ℚ x) ∷ []) e

pub moving_fit : (fits : Fraction → Type 0) (v r x g t : Fraction) → false ≡ is_zero r → g ≡ r *ℚ x → fits g → t ≡ v +ℚ g → fits t → AllFit fits (fluent_nodes (Some v) r x)
unfolding tested.AllPass NodeFits
moving_fit fits v r x g t e d p k q =
    subst (AllFit fits) (moving_nodes v r x e) (subst fits d p, (subst fits (k ∙ ap (λ (z : Fraction). v +ℚ z) d) q, tt))

pub moving_value : (v r x g t : Fraction) → g ≡ r *ℚ x → t ≡ v +ℚ g → Some t ≡ moved_value (Some v) r x
moving_value v r x g t d k = ap Some (k ∙ ap (λ (z : Fraction). v +ℚ z) d)

pub gain_unfit : (fits : Fraction → Type 0) (v r x : Fraction) (m : Node) → false ≡ is_zero r → (fits (r *ℚ x) → ⊥) → m ≡ node Times r x → FirstUnfit fits (fluent_nodes (Some v) r x) m
unfolding tested.FirstFailing NodeFits
gain_unfit fits v r x m e h k = subst (λ (ns : List Node). FirstUnfit fits ns m) (moving_nodes v r x e) (inl (h, k))

pub then_unfit : (fits : Fraction → Type 0) (v r x g : Fraction) (m : Node) → false ≡ is_zero r → g ≡ r *ℚ x → fits g → (fits (v +ℚ g) → ⊥) → m ≡ node Plus v g → FirstUnfit fits (fluent_nodes (Some v) r x) m
unfolding tested.FirstFailing NodeFits
then_unfit fits v r x g m e d p h k =
    subst (λ (ns : List Node). FirstUnfit fits ns m) (moving_nodes v r x e)
    (inr (subst fits d p, inl (subst (λ (z : Fraction). fits (v +ℚ z) → ⊥) d h, k ∙ ap (node Plus v) d)))

pub ruleset moving = (pass_none, still_nodes, still_value, moving_fit, moving_value, gain_unfit, then_unfit)

-- ---- one fluent
pub set_fit : (fits : Fraction → Type 0) (s : State) (f : ℕ) (v : Option Fraction) (r x : Fraction) → v ≡ fluent_of s f → AllFit fits (fluent_nodes v r x) → AllFit fits (fluent_nodes (fluent_of s f) r x)
set_fit fits s f v r x e h = subst (λ (w : Option Fraction). AllFit fits (fluent_nodes w r x)) e h

pub set_unfit : (fits : Fraction → Type 0) (s : State) (f : ℕ) (v : Option Fraction) (r x : Fraction) (m : Node) → v ≡ fluent_of s f → FirstUnfit fits (fluent_nodes v r x) m → FirstUnfit fits (fluent_nodes (fluent_of s f) r x) m
set_unfit fits s f v r x m e h = subst (λ (w : Option Fraction). FirstUnfit fits (fluent_nodes w r x) m) e h

pub set_value : (s new : State) (f : ℕ) (v w : Option Fraction) (r x : Fraction) → v ≡ fluent_of s f → w ≡ moved_value v r x → new ≡ record s { fluents = set s.fluents f w } → new ≡ record s { fluents = set s.fluents f (moved_value (fluent_of s f) r x) }
set_value s new f v w r x e k n = n ∙ ap (λ (y : Option Fraction). record s { fluents = set s.fluents f y }) (k ∙ ap (λ (y : Option Fraction). moved_value y r x) e)

pub ruleset setting = (set_fit, set_unfit, set_value)

-- ---- fluents, one after the other: those done, and those left with their rates
pub record Moves (fits : Fraction → Type 0) (k : ℕ) (rates : List Fraction) (x : Fraction) (now : State) (whole : List Fraction) (old : State) : Type 0 where
  pub done : List (Option Fraction)
  pub left : List (Option Fraction)
  pub count : length done ≡ k
  pub same : length rates ≡ length left
  pub size : length now.fluents ≡ length old.fluents
  pub now_is : now ≡ record old { fluents = done ++ left }
  pub so_far : done ++ moved_values left rates x ≡ moved_values old.fluents whole x
  pub fit : AllFit fits (moved_nodes left rates x) → AllFit fits (moved_nodes old.fluents whole x)
  pub unfit : (m : Node) → FirstUnfit fits (moved_nodes left rates x) m → FirstUnfit fits (moved_nodes old.fluents whole x) m

pub moves_start : (fits : Fraction → Type 0) (whole : List Fraction) (x : Fraction) (now old : State) → now ≡ old → length whole ≡ length old.fluents → Moves fits 0 whole x now whole old
moves_start fits whole x now old e h = subst (λ (s : State). Moves fits 0 whole x s whole old) (sym e)
    (record { done = []; left = old.fluents; count = refl; same = h; size = refl; now_is = refl; so_far = refl; fit = λ a. a; unfit = λ m u. u })

-- the value at the seam
at_seam : (done : List (Option Fraction)) (v : Option Fraction) (left : List (Option Fraction)) (k : ℕ) → length done ≡ k → unwrap_or (slice_get (done ++ v ∷ left) k) None ≡ v
at_seam [] v left k e = ap (λ (n : ℕ). unwrap_or (slice_get (v ∷ left) n) None) (sym e)
at_seam (d ∷ done) v left k e = ap (λ (n : ℕ). unwrap_or (slice_get (d ∷ (done ++ v ∷ left)) n) None) (sym e) ∙ at_seam done v left (length done) refl

module _ (fits : Fraction → Type 0) (k : ℕ) (r : Fraction) (rates : List Fraction) (x : Fraction) (whole : List Fraction) (old : State) where
  step : (new : State) (done left : List (Option Fraction)) → length done ≡ k → length (r ∷ rates) ≡ length left → length (done ++ left) ≡ length old.fluents → done ++ moved_values left (r ∷ rates) x ≡ moved_values old.fluents whole x → (AllFit fits (moved_nodes left (r ∷ rates) x) → AllFit fits (moved_nodes old.fluents whole x)) → ((m : Node) → FirstUnfit fits (moved_nodes left (r ∷ rates) x) m → FirstUnfit fits (moved_nodes old.fluents whole x) m) → AllFit fits (fluent_nodes (unwrap_or (slice_get (done ++ left) k) None) r x) → new ≡ record old { fluents = set (done ++ left) k (moved_value (unwrap_or (slice_get (done ++ left) k) None) r x) } → Moves fits (k + 1) rates x new whole old
  step new done [] count same size so_far fit unfit a e = absurd (omega arith)
  step new done (v ∷ left) count same size so_far fit unfit a e =
      let here : unwrap_or (slice_get (done ++ v ∷ left) k) None ≡ v = at_seam done v left k count in
      let w : Option Fraction = moved_value v r x in
      let put : set (done ++ v ∷ left) k w ≡ (done ++ w ∷ []) ++ left = set_at done v left w k count ∙ sym (append_assoc done (w ∷ []) left) in
      let is : new ≡ record old { fluents = (done ++ w ∷ []) ++ left } = e ∙ ap (λ (y : Option Fraction). record old { fluents = set (done ++ v ∷ left) k (moved_value y r x) }) here ∙ ap (λ (y : List (Option Fraction)). record old { fluents = y }) put in
      let b : AllFit fits (fluent_nodes v r x) = subst (λ (y : Option Fraction). AllFit fits (fluent_nodes y r x)) here a in
      record {
        done = done ++ w ∷ [];
        left = left;
        count = length-append done (w ∷ []) ∙ ap (λ (n : ℕ). n + 1) count;
        same = omega arith;
        size = ap (λ (s : State). length s.fluents) is ∙ sym (ap length put) ∙ length-set (done ++ v ∷ left) k w ∙ size;
        now_is = is;
        so_far = append_assoc done (w ∷ []) (moved_values left rates x) ∙ so_far;
        fit = λ q. fit (pass_append (NodeFits fits) _ _ b q);
        unfit = λ m q. unfit m (fail_right (NodeFits fits) _ _ m b q);
      }

  pub moves_next : (now new : State) (rate : Fraction) → Moves fits k (r ∷ rates) x now whole old → rate ≡ r → AllFit fits (fluent_nodes (fluent_of now k) rate x) → new ≡ record now { fluents = set now.fluents k (moved_value (fluent_of now k) rate x) } → Moves fits (k + 1) rates x new whole old
  moves_next now new rate h d a e =
      step new h.done h.left h.count h.same (sym (ap (λ (s : State). length s.fluents) h.now_is) ∙ h.size) h.so_far h.fit h.unfit
      (subst (λ (s : State). AllFit fits (fluent_nodes (fluent_of s k) r x)) h.now_is (subst (λ (q : Fraction). AllFit fits (fluent_nodes (fluent_of now k) q x)) d a))
      (e ∙ ap (λ (q : Fraction). record now { fluents = set now.fluents k (moved_value (fluent_of now k) q x) }) d ∙ ap (λ (s : State). record s { fluents = set s.fluents k (moved_value (fluent_of s k) r x) }) h.now_is)

  here_unfit : (done left : List (Option Fraction)) (m : Node) → length done ≡ k → length (r ∷ rates) ≡ length left → FirstUnfit fits (fluent_nodes (unwrap_or (slice_get (done ++ left) k) None) r x) m → FirstUnfit fits (moved_nodes left (r ∷ rates) x) m
  here_unfit done [] m count same u = absurd (omega arith)
  here_unfit done (v ∷ left) m count same u =
      fail_left (NodeFits fits) _ _ m (subst (λ (y : Option Fraction). FirstUnfit fits (fluent_nodes y r x) m) (at_seam done v left k count) u)

  pub moves_err : (now : State) (m : Node) (rate : Fraction) → Moves fits k (r ∷ rates) x now whole old → rate ≡ r → FirstUnfit fits (fluent_nodes (fluent_of now k) rate x) m → FirstUnfit fits (moved_nodes old.fluents whole x) m
  moves_err now m rate h d u =
      h.unfit m (here_unfit h.done h.left m h.count h.same (subst (λ (s : State). FirstUnfit fits (fluent_nodes (fluent_of s k) r x) m) h.now_is (subst (λ (q : Fraction). FirstUnfit fits (fluent_nodes (fluent_of now k) q x) m) d u)))

none_left : (fits : Fraction → Type 0) (left : List (Option Fraction)) (x : Fraction) → AllFit fits (moved_nodes left [] x)
none_left fits [] x = pass_none (NodeFits fits)
none_left fits (v ∷ left) x = pass_none (NodeFits fits)

none_moved : (left : List (Option Fraction)) (x : Fraction) → moved_values left [] x ≡ left
none_moved [] x = refl
none_moved (v ∷ left) x = refl

pub moves_end : (fits : Fraction → Type 0) (k : ℕ) (x : Fraction) (now : State) (whole : List Fraction) (old : State) → Moves fits k [] x now whole old → AllFit fits (moved_nodes old.fluents whole x) × (now ≡ moved old whole x)
unfolding moved
moves_end fits k x now whole old h = (
  h.fit (none_left fits h.left x),
  h.now_is ∙ ap (λ (y : List (Option Fraction)). record old { fluents = y }) (ap (λ (y : List (Option Fraction)). h.done ++ y) (sym (none_moved h.left x)) ∙ h.so_far),
)

-- the rates from place i on
pub next_rate : (rates : List Fraction) (i : ℕ) → i < length rates → drop i rates ≡ rate_of rates i ∷ drop (i + 1) rates
next_rate [] i h = absurd (omega arith)
next_rate (r ∷ rates) zero h = refl
next_rate (r ∷ rates) (suc i) h =
    let e : suc i + 1 ≡ suc (i + 1) = omega arith in
    next_rate rates i (omega arith) ∙ ap (λ (n : ℕ). rate_of rates i ∷ drop n (r ∷ rates)) (sym e)

-- ---- numbers of atoms and fluents
length-moved_values : (vs : List (Option Fraction)) (rs : List Fraction) (x : Fraction) → length (moved_values vs rs x) ≡ length vs
length-moved_values [] rs x = refl
length-moved_values (v ∷ vs) [] x = refl
length-moved_values (v ∷ vs) (r ∷ rs) x = ap suc (length-moved_values vs rs x)

pub moved_fits : (s next : State) (rs : List Fraction) (x : Fraction) → next ≡ moved s rs x → StateFits (length s.atoms) (length s.fluents) next
unfolding moved
moved_fits s next rs x e = subst (StateFits (length s.atoms) (length s.fluents)) (sym e) (record { atoms_fit = refl; fluents_fit = length-moved_values s.fluents rs x })
