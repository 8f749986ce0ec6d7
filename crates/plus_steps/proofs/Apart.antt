-- A joint effect on a state with more atoms and fluents behind the old ones, part by part.
use Rattle.std.proofs.Common.{◌≡◌, ℕ, suc, ◌<◌, ◌≤◌, ◌+◌, Bool, true, not, ◌&&◌, ◌||◌, List, [], ◌∷◌, ◌++◌, length, refl, ap, ap₂, sym, ◌∙◌, arith}
use Rattle.std.specs.Prelude.{Option, Result, Ok, Err}
use Rattle.plus_fraction.specs.Fraction.{Fraction}
use Rattle.plus_model.specs.Terms.{Effect, State}
use Rattle.plus_model.specs.Joint.{Fault, new_value, value_before, with_atoms, joint}
use Rattle.plus_state.specs.Fits.{StateFits}
use Rattle.plus_steps.proofs.Tally.{gained, lost, wrote, fine, atoms_by, values_by, state_by, joint_there, joint_fine}
use Rattle.plus_steps.proofs.Inside.{longer}

abbrev pub Values : Type 0
Values = List (Option Fraction)

abbrev pub then_values : Result Values Fault → Values → Result Values Fault
then_values (Ok us) vs = Ok (us ++ vs)
then_values (Err e) vs = Err e

module _ (es : List Effect) (t : State) where
  atoms_split : (k : ℕ) (al bs : List Bool) → atoms_by k es t (al ++ bs) ≡ atoms_by k es t al ++ atoms_by (k + length al) es t bs
  atoms_split k [] bs = let e : k ≡ k + 0 = omega arith in ap (λ (i : ℕ). atoms_by i es t bs) e
  atoms_split k (a ∷ al) bs =
      let e : suc k + length al ≡ k + suc (length al) = omega arith in
      ap (λ r. (gained k es t || (a && not (lost k es t))) ∷ r) (atoms_split (suc k) al bs ∙ ap (λ (i : ℕ). atoms_by (suc k) es t al ++ atoms_by i es t bs) e)

  before_then : (v : Result (Option Fraction) Fault) (us : Result Values Fault) (vs : Values) → value_before v (then_values us vs) ≡ then_values (value_before v us) vs
  before_then (Err e) us vs = refl
  before_then (Ok v) (Err e) vs = refl
  before_then (Ok v) (Ok us) vs = refl

  values_split : (k : ℕ) (us vs ws : Values) → values_by (k + length us) es t vs ≡ Ok ws → values_by k es t (us ++ vs) ≡ then_values (values_by k es t us) ws
  values_split k [] vs ws h = let e : k ≡ k + 0 = omega arith in ap (λ (i : ℕ). values_by i es t vs) e ∙ h
  values_split k (u ∷ us) vs ws h =
      let e : suc k + length us ≡ k + suc (length us) = omega arith in
      ap (value_before (new_value k (wrote k es t) u)) (values_split (suc k) us vs ws (ap (λ (i : ℕ). values_by i es t vs) e ∙ h))
      ∙ before_then (new_value k (wrote k es t) u) (values_by (suc k) es t us) ws

  -- the state after, in parts
  module _ (n m : ℕ) (s : State) (bs bs' : List Bool) (vs vs' : Values) (z : StateFits n m s) (marks : atoms_by n es t bs ≡ bs') (clock : values_by m es t vs ≡ Ok vs') (long : t ≡ longer s bs vs) where
    pub state_parts : state_by es t ≡ with_atoms (atoms_by 0 es t s.atoms ++ bs') (then_values (values_by 0 es t s.fluents) vs')
    state_parts = ap₂ with_atoms
        (ap (λ (u : State). atoms_by 0 es t u.atoms) long ∙ atoms_split 0 s.atoms bs ∙ ap (λ (i : ℕ). atoms_by 0 es t s.atoms ++ atoms_by i es t bs) a ∙ ap (λ r. atoms_by 0 es t s.atoms ++ r) marks)
        (ap (λ (u : State). values_by 0 es t u.fluents) long ∙ values_split 0 s.fluents vs vs' (ap (λ (i : ℕ). values_by i es t vs) f ∙ clock))
      where
        a : 0 + length s.atoms ≡ n
        a = let e = z.atoms_fit in omega arith

        f : 0 + length s.fluents ≡ m
        f = let e = z.fluents_fit in omega arith

    pub joint_parts : (ws : Values) → fine es t ≡ true → values_by 0 es t s.fluents ≡ Ok ws → joint es t ≡ Ok (record { atoms = atoms_by 0 es t s.atoms ++ bs'; fluents = ws ++ vs' })
    joint_parts ws g w = joint_there es t g ∙ state_parts ∙ ap (λ r. with_atoms (atoms_by 0 es t s.atoms ++ bs') (then_values r vs')) w

    pub record Parts (u : State) : Type 0 where
      pub fine_is : fine es t ≡ true
      pub values : Values
      pub values_is : values_by 0 es t s.fluents ≡ Ok values
      pub is : u ≡ record { atoms = atoms_by 0 es t s.atoms ++ bs'; fluents = values ++ vs' }

    parts_by : (al : List Bool) (r : Result Values Fault) (u : State) → with_atoms al (then_values r vs') ≡ Ok u → (ws : Values) × (r ≡ Ok ws) × (u ≡ record { atoms = al; fluents = ws ++ vs' })
    parts_by al (Err e) u h = cc
    parts_by al (Ok ws) u h = (ws, refl, sym (ap (state_or u) h))
      where
        state_or : State → Result State Fault → State
        state_or d (Ok v) = v
        state_or d (Err e) = d

    pub parts_of : (u : State) → joint es t ≡ Ok u → Parts u
    parts_of u h =
        let g = joint_fine es t u h in
        let p = parts_by (atoms_by 0 es t s.atoms ++ bs') (values_by 0 es t s.fluents) u (sym state_parts ∙ sym (joint_there es t g) ∙ h) in
        record { fine_is = g; values = p.0; values_is = p.1; is = p.2 }

-- ---- what is alike below a number
pub record Alike (n m : ℕ) (es : List Effect) (t : State) (fs : List Effect) (s : State) : Type 0 where
  pub fine_is : fine es t ≡ fine fs s
  pub gained_is : (a : ℕ) → a < n → gained a es t ≡ gained a fs s
  pub lost_is : (a : ℕ) → a < n → lost a es t ≡ lost a fs s
  pub wrote_is : (f : ℕ) → f < m → wrote f es t ≡ wrote f fs s

pub atoms_alike : (n m : ℕ) (es : List Effect) (t : State) (fs : List Effect) (s : State) → Alike n m es t fs s → (k : ℕ) (bs : List Bool) → k + length bs ≤ n → atoms_by k es t bs ≡ atoms_by k fs s bs
atoms_alike n m es t fs s h k [] l = refl
atoms_alike n m es t fs s h k (b ∷ bs) l =
    ap₂ (λ x r. x ∷ r) (ap₂ (λ x y. x || (b && not y)) (h.gained_is k (omega arith)) (h.lost_is k (omega arith))) (atoms_alike n m es t fs s h (suc k) bs (omega arith))

pub values_alike : (n m : ℕ) (es : List Effect) (t : State) (fs : List Effect) (s : State) → Alike n m es t fs s → (k : ℕ) (vs : Values) → k + length vs ≤ m → values_by k es t vs ≡ values_by k fs s vs
values_alike n m es t fs s h k [] l = refl
values_alike n m es t fs s h k (v ∷ vs) l =
    ap₂ value_before (ap (λ w. new_value k w v) (h.wrote_is k (omega arith))) (values_alike n m es t fs s h (suc k) vs (omega arith))

-- a joint effect that is alike on the old atoms and fluents, and known on the others
module _ (n m : ℕ) (es fs : List Effect) (s : State) (bs bs' : List Bool) (vs vs' : Values) (z : StateFits n m s) (h : Alike n m es (longer s bs vs) fs s) (marks : atoms_by n es (longer s bs vs) bs ≡ bs') (clock : values_by m es (longer s bs vs) vs ≡ Ok vs') where
  same_as : atoms_by 0 es (longer s bs vs) s.atoms ≡ atoms_by 0 fs s s.atoms
  same_as = atoms_alike n m es (longer s bs vs) fs s h 0 s.atoms (let e = z.atoms_fit in omega arith)

  same_vs : values_by 0 es (longer s bs vs) s.fluents ≡ values_by 0 fs s s.fluents
  same_vs = values_alike n m es (longer s bs vs) fs s h 0 s.fluents (let e = z.fluents_fit in omega arith)

  state_of_parts : (al : List Bool) (r : Result Values Fault) (u : State) → with_atoms al r ≡ Ok u → (r ≡ Ok u.fluents) × (u.atoms ≡ al)
  state_of_parts al (Err e) u g = cc
  state_of_parts al (Ok ws) u g = (ap (λ v. Ok (fluents_or v)) g, sym (ap atoms_or g))
    where
      fluents_or : Result State Fault → Values
      fluents_or (Ok v) = v.fluents
      fluents_or (Err e) = ws

      atoms_or : Result State Fault → List Bool
      atoms_or (Ok v) = v.atoms
      atoms_or (Err e) = al

  pub joint_on : (u : State) → joint fs s ≡ Ok u → joint es (longer s bs vs) ≡ Ok (longer u bs' vs')
  joint_on u g =
      let f = joint_fine fs s u g in
      let p = state_of_parts (atoms_by 0 fs s s.atoms) (values_by 0 fs s s.fluents) u (sym (joint_there fs s f) ∙ g) in
      joint_parts es (longer s bs vs) n m s bs bs' vs vs' z marks clock refl u.fluents (h.fine_is ∙ f) (same_vs ∙ p.0)
      ∙ ap (λ (al : List Bool). Ok (record { atoms = al ++ bs'; fluents = u.fluents ++ vs' })) (same_as ∙ sym p.1)

  pub joint_from : (t' : State) → joint es (longer s bs vs) ≡ Ok t' → (u : State) × (joint fs s ≡ Ok u) × (t' ≡ longer u bs' vs')
  joint_from t' g =
      let p = parts_of es (longer s bs vs) n m s bs bs' vs vs' z marks clock refl t' g in
      let u : State = record { atoms = atoms_by 0 fs s s.atoms; fluents = p.values } in (
        u,
        joint_there fs s (sym h.fine_is ∙ p.fine_is) ∙ ap (with_atoms (atoms_by 0 fs s s.atoms)) (sym same_vs ∙ p.values_is),
        p.is ∙ ap (λ (al : List Bool). record { atoms = al ++ bs'; fluents = p.values ++ vs' }) same_as,
      )
