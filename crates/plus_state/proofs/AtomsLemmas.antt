-- Atoms after the writes of a joint effect: what is deleted goes, and then what is added comes.
use Rattle.std.proofs.Common.{◌≡◌, ℕ, ◌<◌, ◌+◌, zero, suc, Bool, true, false, not, ◌&&◌, ◌||◌, List, [], ◌∷◌, length, get_or, set, refl, ap, sym, subst, ◌∙◌, arith}
use Rattle.std.proofs.lemmas.List.{ext_get_or, get_or-set_same, get_or-set_other, length-set}
use Rattle.std.proofs.lemmas.Bool.{eqb-true, eqb-false}
use Rattle.std.specs.Prelude.{nat_eq}
use Rattle.plus_model.specs.Joint.{Change, gains, loses, new_atoms}
use Rattle.plus_state.specs.Due.{Due, puts, updates, atom_changes}

-- one write that gives an atom this truth
abbrev pub put_atom : Bool → Due → List Bool → List Bool
put_atom true (puts a true) bs = set bs a true
put_atom false (puts a false) bs = set bs a false
put_atom present d bs = bs

-- all of them, one after the other
abbrev pub put_atoms : Bool → List Due → List Bool → List Bool
put_atoms present [] bs = bs
put_atoms present (d ∷ ds) bs = put_atoms present ds (put_atom present d bs)

length-put_atom : (present : Bool) (d : Due) (bs : List Bool) → length (put_atom present d bs) ≡ length bs
length-put_atom true (puts a true) bs = length-set bs a true
length-put_atom true (puts a false) bs = refl
length-put_atom false (puts a true) bs = refl
length-put_atom false (puts a false) bs = length-set bs a false
length-put_atom true (updates f u) bs = refl
length-put_atom false (updates f u) bs = refl

pub length-put_atoms : (present : Bool) (ds : List Due) (bs : List Bool) → length (put_atoms present ds bs) ≡ length bs
length-put_atoms present [] bs = refl
length-put_atoms present (d ∷ ds) bs = length-put_atoms present ds _ ∙ length-put_atom present d bs

or_true : (x : Bool) → x || true ≡ true
or_true true = refl
or_true false = refl

and_false : (x : Bool) → x && false ≡ false
and_false true = refl
and_false false = refl

-- an atom that is added here, or later
added_here : (bs : List Bool) (a k : ℕ) (b later : Bool) → k < length bs → nat_eq k a ≡ b → later || get_or (set bs a true) k false ≡ (b || later) || get_or bs k false
added_here bs a k true later h e =
    let same : k ≡ a = eqb-true k a e in
    ap (λ (x : Bool). later || x) (subst (λ (n : ℕ). get_or (set bs n true) k false ≡ true) same (get_or-set_same bs k true false h)) ∙ or_true later
added_here bs a k false later h e = ap (λ (x : Bool). later || x) (get_or-set_other bs a k true false (eqb-false k a e))

deleted_here : (bs : List Bool) (a k : ℕ) (b later : Bool) → k < length bs → nat_eq k a ≡ b → get_or (set bs a false) k false && not later ≡ get_or bs k false && not (b || later)
deleted_here bs a k true later h e =
    let same : k ≡ a = eqb-true k a e in
    ap (λ (x : Bool). x && not later) (subst (λ (n : ℕ). get_or (set bs n false) k false ≡ false) same (get_or-set_same bs k false false h)) ∙ sym (and_false (get_or bs k false))
deleted_here bs a k false later h e = ap (λ (x : Bool). x && not later) (get_or-set_other bs a k false false (eqb-false k a e))

get_or-added : (ds : List Due) (bs : List Bool) (k : ℕ) → k < length bs → get_or (put_atoms true ds bs) k false ≡ gains k (atom_changes ds) || get_or bs k false
get_or-added [] bs k h = refl
get_or-added (puts a true ∷ ds) bs k h =
    get_or-added ds (set bs a true) k (rw length-set h) ∙ added_here bs a k (nat_eq k a) (gains k (atom_changes ds)) h refl
get_or-added (puts a false ∷ ds) bs k h = get_or-added ds bs k h
get_or-added (updates f u ∷ ds) bs k h = get_or-added ds bs k h

and_true : (x : Bool) → x ≡ x && true
and_true true = refl
and_true false = refl

get_or-deleted : (ds : List Due) (bs : List Bool) (k : ℕ) → k < length bs → get_or (put_atoms false ds bs) k false ≡ get_or bs k false && not (loses k (atom_changes ds))
get_or-deleted [] bs k h = and_true (get_or bs k false)
get_or-deleted (puts a true ∷ ds) bs k h = get_or-deleted ds bs k h
get_or-deleted (puts a false ∷ ds) bs k h =
    get_or-deleted ds (set bs a false) k (rw length-set h) ∙ deleted_here bs a k (nat_eq k a) (loses k (atom_changes ds)) h refl
get_or-deleted (updates f u ∷ ds) bs k h = get_or-deleted ds bs k h

length-new_atoms : (j : ℕ) (cs : List Change) (bs : List Bool) → length (new_atoms j cs bs) ≡ length bs
length-new_atoms j cs [] = refl
length-new_atoms j cs (b ∷ bs) = ap suc (length-new_atoms (suc j) cs bs)

get_or-new_atoms : (j : ℕ) (cs : List Change) (bs : List Bool) (k : ℕ) → k < length bs → get_or (new_atoms j cs bs) k false ≡ gains (j + k) cs || (get_or bs k false && not (loses (j + k) cs))
get_or-new_atoms j cs [] k h = absurd (omega arith)
get_or-new_atoms j cs (b ∷ bs) zero h = let e : j ≡ j + 0 = omega arith in ap (λ (n : ℕ). gains n cs || (b && not (loses n cs))) e
get_or-new_atoms j cs (b ∷ bs) (suc k) h =
    let e : suc j + k ≡ j + suc k = omega arith in
    get_or-new_atoms (suc j) cs bs k (omega arith) ∙ ap (λ (n : ℕ). gains n cs || (get_or bs k false && not (loses n cs))) e

pub atoms_are : (ds : List Due) (bs : List Bool) → put_atoms true ds (put_atoms false ds bs) ≡ new_atoms 0 (atom_changes ds) bs
atoms_are ds bs =
    let size : length (put_atoms true ds (put_atoms false ds bs)) ≡ length bs = length-put_atoms true ds _ ∙ length-put_atoms false ds bs in
    ext_get_or false _ _ (size ∙ sym (length-new_atoms 0 (atom_changes ds) bs)) (λ k h.
    let below : k < length bs = rw size at h in
    let inside : k < length (put_atoms false ds bs) = rw length-put_atoms below in
    let start : k ≡ 0 + k = omega arith in
    get_or-added ds (put_atoms false ds bs) k inside ∙ ap (λ (x : Bool). gains k (atom_changes ds) || x) (get_or-deleted ds bs k below) ∙ ap (λ (n : ℕ). gains n (atom_changes ds) || (get_or bs k false && not (loses n (atom_changes ds)))) start ∙ sym (get_or-new_atoms 0 (atom_changes ds) bs k below))
