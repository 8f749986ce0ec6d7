-- After changes, what reads nothing that is changed is as it was.
use Rattle.std.proofs.Common.{◌≡◌, ℕ, zero, suc, Bool, false, List, [], ◌∷◌, refl, ap, sym, subst, ◌∙◌, map}
use Rattle.std.specs.Prelude.{Option, Some, None, slice_get, slice_set, unwrap_or}
use Rattle.plus_fraction.specs.Fraction.{Fraction}
use Rattle.plus_model.specs.Terms.{Condition, State}
use Rattle.plus_model.specs.Firing.{is_in}
use Rattle.plus_state.specs.Changes.{Changes, patched, patched_list}
use Rattle.plus_state.specs.Asked.{AllFit}
use Rattle.plus_state.specs.Tests as Tests
use Rattle.plus_reads.specs.Reads.{Agree, ReadsNone}
use Rattle.plus_reads.specs.Tables.{Covers, Wakes, atoms_changed, fluents_changed}
use Rattle.plus_reads.specs.Quiet.{OthersQuiet}
use Rattle.plus_reads.specs.Laws.{UnchangedAgrees}
use Rattle.plus_reads.specs.declared.readers.Readers.{Readers}
use Rattle.plus_reads.proofs.Sets.{false_unless, apart, not_behind}
use Rattle.plus_reads.proofs.Frame.{same_truth, same_tests}

set_other : {A : Type 0} (xs : List A) (i j : ℕ) (x : A) → (j ≡ i → ⊥) → slice_get (slice_set xs i x) j ≡ slice_get xs j
set_other [] i j x n = refl
set_other (y ∷ xs) zero zero x n = absurd (n refl)
set_other (y ∷ xs) zero (suc j) x n = refl
set_other (y ∷ xs) (suc i) zero x n = refl
set_other (y ∷ xs) (suc i) (suc j) x n = set_other xs i j x (λ e. n (ap suc e))

unlisted : {A : Type 0} (cs : List (ℕ × A)) (xs : List A) (j : ℕ) → is_in (map (λ (p : ℕ × A). p.0) cs) j ≡ false → slice_get (patched_list cs xs) j ≡ slice_get xs j
unlisted [] xs j n = refl
unlisted {A} (c ∷ cs) xs j n =
    unlisted cs (slice_set xs c.0 c.1) j (not_behind c.0 (map (λ (p : ℕ × A). p.0) cs) j n)
    ∙ set_other xs c.0 j c.1 (apart c.0 (map (λ (p : ℕ × A). p.0) cs) j n)

pub unchanged_agrees : UnchangedAgrees
unchanged_agrees c s ch n = record {
  atoms = λ a i. sym (ap (λ (o : Option Bool). unwrap_or o false) (unlisted ch.atoms s.atoms a (n.no_atom a i)));
  fluents = λ f i. sym (ap (λ (o : Option (Option Fraction)). unwrap_or o None) (unlisted ch.fluents s.fluents f (n.no_fluent f i)));
}

-- a condition that is not looked at reads nothing that is changed
reads_none : (cs : List Condition) (t : Readers) (ch : Changes) (before after : List ℕ) (k : ℕ) (c : Condition) → Covers cs t → Wakes t ch before after → slice_get cs k ≡ Some c → is_in after k ≡ false → ReadsNone c (atoms_changed ch) (fluents_changed ch)
reads_none cs t ch before after k c covers w e n = record {
  no_atom = λ a i. false_unless (is_in (atoms_changed ch) a) (is_in after k) (λ h. w.by_atoms a k h ((covers k c e).by_atoms a i)) n;
  no_fluent = λ f i. false_unless (is_in (fluents_changed ch) f) (is_in after k) (λ h. w.by_fluents f k h ((covers k c e).by_fluents f i)) n;
}

module _ (fits : Fraction → Type 0) (cs : List Condition) (t : Readers) (s : State) (ch : Changes) (before after : List ℕ) (covers : Covers cs t) (w : Wakes t ch before after) where
  agrees : (k : ℕ) (c : Condition) → slice_get cs k ≡ Some c → is_in after k ≡ false → Agree c s (patched s ch)
  agrees k c e n = unchanged_agrees c s ch (reads_none cs t ch before after k c covers w e n)

  not_before : (k : ℕ) → is_in after k ≡ false → is_in before k ≡ false
  not_before k n = false_unless (is_in before k) (is_in after k) (w.kept k) n

  pub pass_stays : ((k : ℕ) (c : Condition) → slice_get cs k ≡ Some c → is_in before k ≡ false → AllFit fits (Tests.tests_of c s)) → (k : ℕ) (c : Condition) → slice_get cs k ≡ Some c → is_in after k ≡ false → AllFit fits (Tests.tests_of c (patched s ch))
  pass_stays o k c e n = let a = agrees k c e n in subst (AllFit fits) (same_tests c s (patched s ch) a.atoms a.fluents) (o k c e (not_before k n))

  pub quiet_stays : OthersQuiet fits cs s before → OthersQuiet fits cs (patched s ch) after
  quiet_stays o = record {
    pass = pass_stays o.pass;
    silent = λ k c e n. (let a = agrees k c e n in sym (same_truth c s (patched s ch) a.atoms a.fluents) ∙ o.silent k c e (not_before k n));
  }
