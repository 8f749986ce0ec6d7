-- Literals are put one after the other.
use Rattle.std.proofs.Common.{◌≡◌, ℕ, ◌<◌, Bool, true, false, List, [], ◌∷◌, length, map, set, refl, ap, sym, subst, ◌∙◌}
use Rattle.std.proofs.lemmas.List.{length-set}
use Rattle.std.proofs.lemmas.List.Elements.{All-head, All-tail}
use Rattle.std.specs.Prelude.{if◌then◌else◌}
use Rattle.std.specs.List.{All}
use mathlib.Core.Bool.{beq}
use Rattle.plus_model.specs.Terms.{Timed, State}
use Rattle.plus_model.specs.Value.{signed}
use Rattle.plus_model.specs.Joint.{new_atoms, Gains, Loses}
use Rattle.plus_state.specs.Due.{puts, atom_changes}
use Rattle.plus_state.proofs.AtomsLemmas.{put_atom, put_atoms, atoms_are}
use Rattle.plus_stepped.specs.Grid.{changes_of, put_signed}

-- how far they are put
pub record Putting (positive : Bool) (rest whole : List Timed) (now old : State) : Type 0 where
  pub inside : All (λ (l : Timed). l.atom < length now.atoms) rest
  pub so_far : put_signed positive rest now.atoms ≡ put_signed positive whole old.atoms
  pub fluents : now.fluents ≡ old.fluents

module _ (positive : Bool) (l : Timed) (rest whole : List Timed) (now old : State) (h : Putting positive (l ∷ rest) whole now old) where
  pub putting_inside : l.atom < length now.atoms
  putting_inside = All-head (λ (l : Timed). l.atom < length now.atoms) l rest h.inside

  pub putting_put : (next : State) → signed positive l.positive ≡ true → next ≡ record now { atoms = set now.atoms l.atom positive } → Putting positive rest whole next old
  putting_put next e n = subst (λ (s : State). Putting positive rest whole s old) (sym n) (record {
    inside = subst (λ (k : ℕ). All (λ (l : Timed). l.atom < k) rest) (sym (length-set now.atoms l.atom positive)) (All-tail (λ (l : Timed). l.atom < length now.atoms) l rest h.inside);
    so_far = ap (λ (b : Bool). put_signed positive rest (if b then set now.atoms l.atom positive else now.atoms)) (sym e) ∙ h.so_far;
    fluents = h.fluents;
  })

  pub putting_skip : signed positive l.positive ≡ false → Putting positive rest whole now old
  putting_skip e = record {
    inside = All-tail (λ (l : Timed). l.atom < length now.atoms) l rest h.inside;
    so_far = ap (λ (b : Bool). put_signed positive rest (if b then set now.atoms l.atom positive else now.atoms)) (sym e) ∙ h.so_far;
    fluents = h.fluents;
  }

pub length-put_signed : (positive : Bool) (ls : List Timed) (bs : List Bool) → length (put_signed positive ls bs) ≡ length bs
length-put_signed positive [] bs = refl
length-put_signed positive (l ∷ ls) bs = length-put_signed positive ls _ ∙ one (signed positive l.positive)
  where
    one : (b : Bool) → length (if b then set bs l.atom positive else bs) ≡ length bs
    one true = length-set bs l.atom positive
    one false = refl

-- ---- what is cleared goes, and then what is set comes

put_one : (positive b : Bool) (a : ℕ) (bs : List Bool) → (if signed positive b then set bs a positive else bs) ≡ put_atom positive (puts a b) bs
put_one true true a bs = refl
put_one true false a bs = refl
put_one false true a bs = refl
put_one false false a bs = refl

put_dues : (positive : Bool) (ls : List Timed) (bs : List Bool) → put_signed positive ls bs ≡ put_atoms positive (map (λ (l : Timed). puts l.atom l.positive) ls) bs
put_dues positive [] bs = refl
put_dues positive (l ∷ ls) bs =
    put_dues positive ls _ ∙ ap (put_atoms positive (map (λ (l : Timed). puts l.atom l.positive) ls)) (put_one positive l.positive l.atom bs)

due_changes : (ls : List Timed) → atom_changes (map (λ (l : Timed). puts l.atom l.positive) ls) ≡ changes_of ls
due_changes [] = refl
due_changes (l ∷ ls) = by l.positive (due_changes ls)
  where
    by : (b : Bool) → atom_changes (map (λ (l : Timed). puts l.atom l.positive) ls) ≡ changes_of ls → atom_changes (puts l.atom b ∷ map (λ (l : Timed). puts l.atom l.positive) ls) ≡ (if b then Gains l.atom else Loses l.atom) ∷ changes_of ls
    by true h = ap (λ cs. Gains l.atom ∷ cs) h
    by false h = ap (λ cs. Loses l.atom ∷ cs) h

pub put_both : (ls : List Timed) (bs : List Bool) → put_signed true ls (put_signed false ls bs) ≡ new_atoms 0 (changes_of ls) bs
put_both ls bs =
    let ds = map (λ (l : Timed). puts l.atom l.positive) ls in
    put_dues true ls _ ∙ ap (put_atoms true ds) (put_dues false ls bs) ∙ atoms_are ds bs ∙ ap (λ cs. new_atoms 0 cs bs) (due_changes ls)

-- the sign of a literal is the one that is put
pub same_sign : (b positive : Bool) → beq b positive ≡ signed positive b
same_sign true true = refl
same_sign true false = refl
same_sign false true = refl
same_sign false false = refl
