-- How far all fluents may move, and fluents that are set on their way one after the other.
use Rattle.std.proofs.Common.{◌≡◌, ℕ, ◌<◌, ◌≤◌, ◌*◌, zero, suc, Bool, true, false, List, [], ◌∷◌, ◌++◌, length, set, refl, ap, ap₂, sym, subst, ◌∙◌, arith, pos, inl, inr, le_trans, mul-le-mul_right}
use Rattle.std.proofs.lemmas.List.{length-set}
use Rattle.std.proofs.lemmas.Map.Entries.{lookup_head, lookup_tail}
use Rattle.std.specs.List.Sorted.{IsStrictlySortedBy}
use Rattle.std.specs.Map.{keys_of, lookup}
use Rattle.std.specs.Ordering.{nat_cmp}
use Rattle.std.specs.BTreeMap.{is_at}
use Rattle.std.specs.Prelude.{◌⊎◌, Option, Some, None, slice_get, unwrap_or, option_map, if◌then◌else◌}
use Rattle.plus_fraction.specs.Fraction.{Fraction, whole, ◌+ℚ◌, ◌*ℚ◌}
use Rattle.plus_number.specs.Size.{size}
use Rattle.plus_fraction.proofs.Compared.{equal-compared}
use Rattle.plus_model.specs.Terms.{State, Same}
use Rattle.plus_model.specs.Value.{is_zero, passes}
use Rattle.plus_model.specs.Piece.{rate_of}
use Rattle.plus_model.specs.Running.{moved}
use Rattle.plus_state.specs.declared.term.Sign.TheVariants.{Plus, Times}
use Rattle.plus_state.specs.Asked.{node, NodeFits, AllFit}
use Rattle.plus_state.specs.Tested as tested
use Rattle.plus_state.specs.Changes.{patched_list, patched, AreIn}
use Rattle.plus_state.proofs.Testing.{pass_none, pass_append, pass_left, pass_right}
use Rattle.plus_crossing.specs.Rated.{given_rate, all_rates}
use Rattle.plus_crossing.specs.Moves.{fluent_nodes, moved_nodes, change_if, moving_changes}
use Rattle.plus_crossing.specs.Motions.{Spans, Extends, MayDrift}
use Rattle.plus_crossing.proofs.Rated.{given_is, at_same, apart_at}
use Rattle.plus_crossing.proofs.Noting.{changes_by, nodes_by, all_given, leads_to}

-- ---- how far one fluent goes
spans_more : (v : Option Fraction) (r : Fraction) (d e : ℕ) → d ≤ e → Spans v r d → Spans v r e
spans_more None r d e l h = tt
spans_more (Some v) r d e l h = λ z. le_trans (h z) l

pub still_spans : (v : Option Fraction) (r : Fraction) (e : ℕ) → is_zero r ≡ true → Spans v r e
still_spans None r e z = tt
still_spans (Some v) r e z = λ f. cc

zero_is : is_zero (whole (pos 0)) ≡ true
zero_is = ap (passes Same) (equal-compared (whole (pos 0)) (whole (pos 0)) refl)

same_or : (k j : ℕ) → (k ≡ j) ⊎ (j ≡ k → ⊥)
same_or zero zero = inl refl
same_or zero (suc j) = inr (λ e. omega arith)
same_or (suc k) zero = inr (λ e. omega arith)
same_or (suc k) (suc j) = elim (same_or k j) [ inl e ↦ inl (ap suc e) | inr n ↦ inr (λ e. n (omega arith)) ]

-- ---- those whose rates are given go as far as all
module _ {Q : Type 0} (v : Q → Fraction) where
  abbrev pub SpansBy : List (ℕ × Q) → List (Option Fraction) → ℕ → Type 0
  SpansBy [] vs e = Unit {0}
  SpansBy (y ∷ ys) vs e = Spans (unwrap_or (slice_get vs y.0) None) (v y.1) e × SpansBy ys vs e

  abbrev rate_in : Option Q → Fraction
  rate_in o = unwrap_or (option_map v o) (whole (pos 0))

  one_spans : (ys : List (ℕ × Q)) (vs : List (Option Fraction)) (e k : ℕ) → SpansBy ys vs e → Spans (unwrap_or (slice_get vs k) None) (given_rate v ys k) e
  one_spans [] vs e k h = still_spans (unwrap_or (slice_get vs k) None) (whole (pos 0)) e zero_is
  one_spans (y ∷ ys) vs e k h =
      let w : Option Fraction = unwrap_or (slice_get vs k) None in
      elim (same_or k y.0) [
        | inl d ↦ subst (λ (r : Fraction). Spans w r e) (sym (ap rate_in (lookup_head (is_at (nat_cmp k)) y ys (at_same k y.0 d))))
            (subst (λ (j : ℕ). Spans (unwrap_or (slice_get vs j) None) (v y.1) e) (sym d) h.0)
        | inr n ↦ subst (λ (r : Fraction). Spans w r e) (sym (ap rate_in (lookup_tail (is_at (nat_cmp k)) y ys (apart_at k y.0 n)))) (one_spans ys vs e k h.1)
      ]

  -- by the numbers of the fluents
  each_spans : (vs : List (Option Fraction)) (rs : List Fraction) (e : ℕ) → ((k : ℕ) → k < length rs → Spans (unwrap_or (slice_get vs k) None) (rate_of rs k) e) → Extends vs rs e
  each_spans [] rs e f = tt
  each_spans (w ∷ vs) [] e f = tt
  each_spans (w ∷ vs) (r ∷ rs) e f = (f 0 (omega arith), each_spans vs rs e (λ k l. f (suc k) (omega arith)))

  pub all_extend : (ys : List (ℕ × Q)) (vs : List (Option Fraction)) (rs : List Fraction) (e : ℕ) → all_rates v ys 0 (length rs) ≡ rs → SpansBy ys vs e → Extends vs rs e
  all_extend ys vs rs e r h =
      each_spans vs rs e (λ k l. subst (λ (q : Fraction). Spans (unwrap_or (slice_get vs k) None) q e)
      (given_is v ys (length rs) k rs (lookup (is_at (nat_cmp k)) ys) r l refl) (one_spans ys vs e k h))

  -- one after the other: those that are left are enough
  pub record Extending (e : ℕ) (left : List (ℕ × Q)) (vs : List (Option Fraction)) (rs : List Fraction) : Type 0 where
    pub inside : AreIn (length vs) left
    pub enough : (d : ℕ) → e ≤ d → SpansBy left vs d → Extends vs rs d

  pub extending_start : (e : ℕ) (es left : List (ℕ × Q)) (vs : List (Option Fraction)) (rs : List Fraction) → all_rates v es 0 (length rs) ≡ rs → AreIn (length rs) es → left ≡ es → length rs ≡ length vs → Extending e left vs rs
  extending_start e es left vs rs r i d l = record {
    inside = subst (AreIn (length vs)) (sym d) (subst (λ (m : ℕ). AreIn m es) l i);
    enough = λ x g h. all_extend es vs rs x r (subst (λ (ys : List (ℕ × Q)). SpansBy ys vs x) d h);
  }

  pub extending_inside : (e k : ℕ) (q : Q) (left more : List (ℕ × Q)) (vs : List (Option Fraction)) (rs : List Fraction) → left ≡ (k, q) ∷ more → Extending e left vs rs → k < length vs
  extending_inside e k q left more vs rs d h = (subst (AreIn (length vs)) d h.inside).0

  pub extending_next : (e new one k : ℕ) (q : Q) (left more : List (ℕ × Q)) (vs : List (Option Fraction)) (rs : List Fraction) (w : Option Fraction) → left ≡ (k, q) ∷ more → Extending e left vs rs → w ≡ unwrap_or (slice_get vs k) None → Spans w (v q) one → e ≤ new → one ≤ new → Extending new more vs rs
  extending_next e new one k q left more vs rs w d h is s l m = record {
    inside = (subst (AreIn (length vs)) d h.inside).1;
    enough = λ x g b. h.enough x (le_trans l g) (subst (λ (ys : List (ℕ × Q)). SpansBy ys vs x) (sym d)
        (spans_more (unwrap_or (slice_get vs k) None) (v q) one x (le_trans m g) (subst (λ (y : Option Fraction). Spans y (v q) one) is s), b));
  }

  pub extending_end : (e : ℕ) (left : List (ℕ × Q)) (vs : List (Option Fraction)) (rs : List Fraction) → left ≡ [] → Extending e left vs rs → Extends vs rs e
  extending_end e left vs rs d h = h.enough e (omega arith) (subst (λ (ys : List (ℕ × Q)). SpansBy ys vs e) (sym d) tt)

-- ---- what goes no further may move
module _ (fits : Fraction → Type 0) (room : ℕ) (law : (v r d : Fraction) → size v * size r * size d ≤ room → fits (r *ℚ d) × fits (v +ℚ r *ℚ d)) where
  moving_nodes : (b : Bool) (v r x : Fraction) → (b ≡ false → fits (r *ℚ x) × fits (v +ℚ r *ℚ x)) → AllFit fits (if b then [] else node Times r x ∷ node Plus v (r *ℚ x) ∷ [])
  unfolding tested.AllPass NodeFits
  moving_nodes true v r x h = pass_none (NodeFits fits)
  moving_nodes false v r x h = (let f = h refl in (f.0, (f.1, tt)))

  one_drifts : (e : ℕ) (x : Fraction) (v : Option Fraction) (r : Fraction) → e * size x ≤ room → Spans v r e → AllFit fits (fluent_nodes v r x)
  unfolding fluent_nodes
  one_drifts e x None r l h = pass_none (NodeFits fits)
  one_drifts e x (Some v) r l h = moving_nodes (is_zero r) v r x (λ z. law v r x (le_trans (mul-le-mul_right (size x) (h z)) l))

  drifts : (e : ℕ) (x : Fraction) (vs : List (Option Fraction)) (rs : List Fraction) → e * size x ≤ room → Extends vs rs e → AllFit fits (moved_nodes vs rs x)
  drifts e x [] rs l h = pass_none (NodeFits fits)
  drifts e x (v ∷ vs) [] l h = pass_none (NodeFits fits)
  drifts e x (v ∷ vs) (r ∷ rs) l h = pass_append (NodeFits fits) _ _ (one_drifts e x v r l h.0) (drifts e x vs rs l h.1)

  may_drift : (e : ℕ) (x : Fraction) → e * size x ≤ room → MayDrift fits e x
  may_drift e x l vs rs h = drifts e x vs rs l h

  -- as the code works it
  pub drift_answer : (e n product most : ℕ) (x : Fraction) → n ≡ size x → product ≡ e * n → most ≡ room → product ≤ most → MayDrift fits e x
  drift_answer e n product most x d k r l =
      may_drift e x (subst (λ (z : ℕ). z ≤ room) (k ∙ ap (λ (z : ℕ). e * z) d) (subst (λ (z : ℕ). product ≤ z) r l))

-- ---- one fluent on its way
pub drift_gain : (fits : Fraction → Type 0) (v r x : Fraction) → is_zero r ≡ false → AllFit fits (fluent_nodes (Some v) r x) → fits (r *ℚ x) × fits (v +ℚ r *ℚ x)
unfolding fluent_nodes tested.AllPass NodeFits
drift_gain fits v r x z h =
    let a = subst (λ (b : Bool). AllFit fits (if b then [] else node Times r x ∷ node Plus v (r *ℚ x) ∷ [])) z h in
    (a.0, a.1.0)

-- ---- one fluent after the other
two_patches : {A : Type 0} (cs ds : List (ℕ × A)) (xs : List A) → patched_list (cs ++ ds) xs ≡ patched_list ds (patched_list cs xs)
two_patches [] ds xs = refl
two_patches (c ∷ cs) ds xs = two_patches cs ds (set xs c.0 c.1)

length_patched : {A : Type 0} (cs : List (ℕ × A)) (xs : List A) → length (patched_list cs xs) ≡ length xs
length_patched [] xs = refl
length_patched (c ∷ cs) xs = length_patched cs (set xs c.0 c.1) ∙ length-set xs c.0 c.1

module _ {Q : Type 0} (v : Q → Fraction) where
  pub record Drifting (fits : Fraction → Type 0) (left : List (ℕ × Q)) (s : State) (rs : List Fraction) (x : Fraction) (now old : State) : Type 0 where
    pub inside : AreIn (length s.fluents) left
    pub size : length now.fluents ≡ length s.fluents
    pub atoms : now.atoms ≡ old.atoms
    pub so_far : patched_list (changes_by v left s.fluents x) now.fluents ≡ patched_list (moving_changes 0 s.fluents rs x) old.fluents
    pub fit : AllFit fits (nodes_by v left s.fluents x)

  pub drifting_start : (fits : Fraction → Type 0) (es left : List (ℕ × Q)) (s : State) (rs : List Fraction) (x : Fraction) (now : State) → all_rates v es 0 (length rs) ≡ rs → IsStrictlySortedBy nat_cmp (keys_of es) → AreIn (length rs) es → left ≡ es → length rs ≡ length s.fluents → length now.fluents ≡ length s.fluents → AllFit fits (moved_nodes s.fluents rs x) → Drifting fits left s rs x now now
  drifting_start fits es left s rs x now r o i d l n f =
      let a = all_given v es s.fluents rs x r o i l in
      record {
        inside = subst (AreIn (length s.fluents)) (sym d) (subst (λ (m : ℕ). AreIn m es) l i);
        size = n;
        atoms = refl;
        so_far = ap (λ (cs : List (ℕ × Option Fraction)). patched_list cs now.fluents) (ap (λ (js : List (ℕ × Q)). changes_by v js s.fluents x) d ∙ a.changes);
        fit = subst (AllFit fits) (sym (ap (λ (js : List (ℕ × Q)). nodes_by v js s.fluents x) d ∙ a.nodes)) f;
      }

  module _ (fits : Fraction → Type 0) (k : ℕ) (q : Q) (left more : List (ℕ × Q)) (s : State) (rs : List Fraction) (x : Fraction) (now old : State) (d : left ≡ (k, q) ∷ more) (h : Drifting fits left s rs x now old) where
    pub drifting_inside : k < length s.fluents
    drifting_inside = (subst (AreIn (length s.fluents)) d h.inside).0

    pub drifting_there : k < length now.fluents
    drifting_there = subst (λ (n : ℕ). k < n) (sym h.size) drifting_inside

    asked : AllFit fits (fluent_nodes (unwrap_or (slice_get s.fluents k) None) (v q) x ++ nodes_by v more s.fluents x)
    asked = subst (λ (js : List (ℕ × Q)). AllFit fits (nodes_by v js s.fluents x)) d h.fit

    pub drifting_fit : (w : Option Fraction) → w ≡ unwrap_or (slice_get s.fluents k) None → AllFit fits (fluent_nodes w (v q) x)
    drifting_fit w e = subst (λ (y : Option Fraction). AllFit fits (fluent_nodes y (v q) x)) (sym e) (pass_left (NodeFits fits) _ _ asked)

    pub drifting_next : (w : Option Fraction) (new : State) → w ≡ unwrap_or (slice_get s.fluents k) None → new ≡ record now { fluents = patched_list (change_if k w (v q) x) now.fluents } → Drifting fits more s rs x new old
    drifting_next w new e n =
        let c : List (ℕ × Option Fraction) = change_if k (unwrap_or (slice_get s.fluents k) None) (v q) x in
        let is : new.fluents ≡ patched_list c now.fluents = ap (λ (t : State). t.fluents) n ∙ ap (λ (y : Option Fraction). patched_list (change_if k y (v q) x) now.fluents) e in
        record {
          inside = (subst (AreIn (length s.fluents)) d h.inside).1;
          size = ap length is ∙ length_patched c now.fluents ∙ h.size;
          atoms = ap (λ (t : State). t.atoms) n ∙ h.atoms;
          so_far = ap (patched_list (changes_by v more s.fluents x)) is ∙ sym (two_patches c (changes_by v more s.fluents x) now.fluents)
              ∙ ap (λ (js : List (ℕ × Q)). patched_list (changes_by v js s.fluents x) now.fluents) (sym d) ∙ h.so_far;
          fit = pass_right (NodeFits fits) _ _ asked;
        }

  pub drifting_end : (fits : Fraction → Type 0) (left : List (ℕ × Q)) (s : State) (rs : List Fraction) (x : Fraction) (now old : State) → left ≡ [] → Drifting fits left s rs x now old → (from : Fraction) → old ≡ moved s rs from → now ≡ moved s rs x
  drifting_end fits left s rs x now old d h from o =
      let is : now.fluents ≡ patched_list (moving_changes 0 s.fluents rs x) old.fluents = ap (λ (js : List (ℕ × Q)). patched_list (changes_by v js s.fluents x) now.fluents) (sym d) ∙ h.so_far in
      ap₂ (λ (bs : List Bool) (fs : List (Option Fraction)). record { atoms = bs; fluents = fs }) h.atoms is
      ∙ ap (λ (t : State). patched t (record { atoms = []; fluents = moving_changes 0 s.fluents rs x })) o
      ∙ leads_to s rs x (record { atoms = []; fluents = moving_changes 0 s.fluents rs x }) refl from
