-- The text of what changes of a state, by what is listed.
use Rattle.std.proofs.Common.{◌≡◌, ℕ, Bool, true, false, List, [], length, refl, sym, ap, ◌∙◌}
use Rattle.std.specs.Prelude.{Option, Some, None}
use Rattle.std.specs.List.{flat_map}
use Rattle.plus_fraction.specs.Fraction.{Fraction}
use Rattle.plus_fraction.proofs.Compared.{compared_refl}
use Rattle.plus_model.specs.Terms.{State}
use Rattle.plus_model.specs.Value.{atom_of, fluent_of}
use Rattle.plus_state.specs.Changes.{Changes, patched, RisesIn}
use Rattle.plus_state.specs.View.{Labels}
use Rattle.plus_state.specs.declared.changes.AtomChange.{AtomChange}
use Rattle.plus_report.specs.Labels.{label_at}
use Rattle.plus_report.specs.Text.{lines_below, mark_line, new_value_line, fluents_text, lost_text}
use Rattle.plus_report.proofs.ListedLemmas.{lines_below-changed}

-- what is read past the end of a list
abbrev pub no_change : AtomChange
no_change = record { atom = record { 0 = 0 }; truth = false }

-- the line of a listed atom that is lost, of one that is gained, and of a listed fluent
abbrev pub lost_change : List ℕ → List (List ℕ) → State → ℕ × Bool → List ℕ
lost_change mark labels s p = mark_line mark (label_at labels p.0) (atom_of s p.0) p.1

abbrev pub gained_change : List ℕ → List (List ℕ) → State → ℕ × Bool → List ℕ
gained_change mark labels s p = mark_line mark (label_at labels p.0) p.1 (atom_of s p.0)

abbrev pub value_change : List ℕ → List (List ℕ) → State → ℕ × Option Fraction → List ℕ
value_change indent labels s p = new_value_line indent (label_at labels p.0) (fluent_of s p.0) p.1

-- what stays has no line
mark_line-kept : (mark label : List ℕ) (b : Bool) → mark_line mark label b b ≡ []
unfolding mark_line
mark_line-kept mark label true = refl
mark_line-kept mark label false = refl

new_value_line-kept : (indent label : List ℕ) (o : Option Fraction)
    → new_value_line indent label o o ≡ []
unfolding new_value_line
new_value_line-kept indent label None = refl
new_value_line-kept indent label (Some x) = rw (compared_refl x) refl

module _ (N : Labels) (s : State) (c : Changes) (r : RisesIn s c) where
  pub lost_text-patched : (mark : List ℕ) → length s.atoms ≡ length N.atoms
      → flat_map (lost_change mark N.atoms s) c.atoms ≡ lost_text mark N s (patched s c)
  unfolding lost_text
  lost_text-patched mark e =
      sym (lines_below-changed false (λ k x y. mark_line mark (label_at N.atoms k) x y) (λ k x. mark_line-kept mark (label_at N.atoms k) x) s.atoms c.atoms r.atoms r.within.atoms_in)
      ∙ ap (lines_below (λ k. mark_line mark (label_at N.atoms k) (atom_of s k) (atom_of (patched s c) k))) e

  pub gained_text-patched : (mark : List ℕ) → length s.atoms ≡ length N.atoms
      → flat_map (gained_change mark N.atoms s) c.atoms ≡ lost_text mark N (patched s c) s
  unfolding lost_text
  gained_text-patched mark e =
      sym (lines_below-changed false (λ k x y. mark_line mark (label_at N.atoms k) y x) (λ k x. mark_line-kept mark (label_at N.atoms k) x) s.atoms c.atoms r.atoms r.within.atoms_in)
      ∙ ap (lines_below (λ k. mark_line mark (label_at N.atoms k) (atom_of (patched s c) k) (atom_of s k))) e

  pub fluents_text-patched : (indent : List ℕ) → length s.fluents ≡ length N.fluents
      → flat_map (value_change indent N.fluents s) c.fluents ≡ fluents_text indent N s (patched s c)
  unfolding fluents_text
  fluents_text-patched indent e =
      sym (lines_below-changed None (λ k x y. new_value_line indent (label_at N.fluents k) x y) (λ k x. new_value_line-kept indent (label_at N.fluents k) x) s.fluents c.fluents r.fluents r.within.fluents_in)
      ∙ ap (lines_below (λ k. new_value_line indent (label_at N.fluents k) (fluent_of s k) (fluent_of (patched s c) k))) e
