-- How far a list of constraints is looked at, when a history grows by a part.
use Rattle.std.proofs.Common.{◌≡◌, ℕ, zero, suc, ◌<◌, true, false, List, [], ◌∷◌, ◌++◌, map, length, set, refl, ap, sym, subst, ◌∙◌, arith, append_assoc, length-append}
use Rattle.std.proofs.lemmas.List.{append-nil, set_at}
use Rattle.std.proofs.lemmas.Option.{same_Some}
use Rattle.std.specs.Prelude.{Option, Some, None, slice_get}
use Rattle.plus_fraction.specs.Fraction.{Fraction}
use Rattle.plus_state.specs.Tested as tested
use Rattle.plus_state.specs.Tested.{Carries}
use Rattle.plus_state.proofs.Testing.{pass_none, pass_append, fail_left, fail_right, carry_pass, carry_fail}
use Rattle.plus_crossing.specs.Asked as crossing
use Rattle.plus_crossing.specs.Asked.{Ask}
use Rattle.plus_constraints.specs.Constraint.{Constraint}
use Rattle.plus_constraints.specs.Place.{Place, or_else}
use Rattle.plus_watch.specs.Looks.{Look, first_found, if_sought, looks_ask}
use Rattle.plus_watch.specs.Asked.{Passes, AllPass}
use Rattle.plus_watch.specs.declared.place.Place as code
use Rattle.plus_watch.specs.Watched.{asked_by, found_by, places_of, is_open}
use Rattle.plus_watch.proofs.AllFound.{numbered_carry}

-- the member of a list behind so many others
member_at : {A : Type 0} (done left : List A) (f : A) → slice_get (done ++ left) (length done) ≡ Some f → (fs : List A) × (left ≡ f ∷ fs)
member_at [] [] f e = absurd cc
member_at [] (x ∷ xs) f e = (xs, ap (λ y. y ∷ xs) (same_Some x f e))
member_at (d ∷ done) left f e = member_at done left f e

-- whether a place is known is told by the code's list too
pub open_seen : {Q : Type 0} (v : Q → Fraction) (os : List (Option (code.Place Q))) (n : ℕ) → is_open (slice_get (places_of v os) n) ≡ is_open (slice_get os n)
open_seen v [] n = refl
open_seen v (None ∷ os) zero = refl
open_seen v (Some x ∷ os) zero = refl
open_seen v (o ∷ os) (suc n) = open_seen v os n

-- none is known, or one is
pub none_there : {A : Type 0} (o : Option (Option A)) → is_open o ≡ true → o ≡ Some None
none_there None e = absurd cc
none_there (Some None) e = refl
none_there (Some (Some x)) e = absurd cc

pub some_there : {A : Type 0} (xs : List (Option A)) (n : ℕ) → n < length xs → is_open (slice_get xs n) ≡ false → (x : A) × (slice_get xs n ≡ Some (Some x))
some_there [] n l e = absurd (omega (arith, l))
some_there (None ∷ xs) zero l e = absurd cc
some_there (Some x ∷ xs) zero l e = (x, refl)
some_there (y ∷ xs) (suc n) l e = some_there xs n (omega (arith, l)) e

module _ (fits : Fraction → Type 0) (looks : Constraint → List Look) where
  -- so many of the constraints are looked at, the others are left; these places are known now
  pub record Looking (cs : List Constraint) (old : List (Option Place)) (n : ℕ) (more : List Constraint) (now : List (Option Place)) : Type 0 where
    pub done : List (Option Place)
    pub left : List (Option Place)
    pub now_is : now ≡ done ++ left
    pub count : length done ≡ n
    pub found : found_by looks cs old ≡ done ++ found_by looks more left
    pub before : List (ℕ × Ask)
    pub asked : asked_by looks 1 cs old ≡ before ++ asked_by looks (suc n) more left
    pub pass : AllPass fits before

  pub looking_start : (cs : List Constraint) (old : List (Option Place)) → Looking cs old 0 cs old
  looking_start cs old = record { done = []; left = old; now_is = refl; count = refl; found = refl; before = []; asked = refl; pass = pass_none (Passes fits) }

  module _ (cs : List Constraint) (old : List (Option Place)) (n : ℕ) (c : Constraint) (more : List Constraint) (now : List (Option Place)) (l : Looking cs old n (c ∷ more) now) where
    -- what the next constraint asks, where this is known of it
    abbrev pub tests : Option Place → List (ℕ × Ask)
    tests f = map (λ (a : Ask). (suc n, a)) (if_sought f (looks_ask (looks c)))

    next_at : (f : Option Place) → slice_get now n ≡ Some f → (fs : List (Option Place)) × (l.left ≡ f ∷ fs)
    next_at f e =
        member_at l.done l.left f (ap (λ (k : ℕ). slice_get (l.done ++ l.left) k) l.count ∙ ap (λ (os : List (Option Place)). slice_get os n) (sym l.now_is) ∙ e)

    goes_on : (f o : Option Place) (fs : List (Option Place)) (new : List (Option Place)) → l.left ≡ f ∷ fs → new ≡ l.done ++ o ∷ fs → AllPass fits (tests f) → o ≡ or_else f (first_found (looks c)) → Looking cs old (suc n) more new
    goes_on f o fs new e is pass known = record {
      done = l.done ++ o ∷ [];
      left = fs;
      now_is = is ∙ sym (append_assoc l.done (o ∷ []) fs);
      count = omega (arith, length-append l.done (o ∷ []), l.count);
      found = l.found ∙ ap (λ (ys : List (Option Place)). l.done ++ found_by looks (c ∷ more) ys) e
          ∙ ap (λ (x : Option Place). l.done ++ x ∷ found_by looks more fs) (sym known) ∙ sym (append_assoc l.done (o ∷ []) (found_by looks more fs));
      before = l.before ++ tests f;
      asked = l.asked ∙ ap (λ (ys : List (Option Place)). l.before ++ asked_by looks (suc n) (c ∷ more) ys) e
          ∙ sym (append_assoc l.before (tests f) (asked_by looks (suc (suc n)) more fs));
      pass = pass_append (Passes fits) l.before (tests f) l.pass pass;
    }

    -- a constraint that is decided is passed over
    pub passed_over : (p : Place) → slice_get now n ≡ Some (Some p) → Looking cs old (suc n) more now
    passed_over p e =
        let m = next_at (Some p) e in
        goes_on (Some p) (Some p) m.0 now m.1 (l.now_is ∙ ap (λ (ys : List (Option Place)). l.done ++ ys) m.1) (pass_none (Passes fits)) refl

    -- what its looks find is noted
    pub noted : (o : Option Place) → slice_get now n ≡ Some None → crossing.AllPass fits (looks_ask (looks c)) → o ≡ first_found (looks c) → Looking cs old (suc n) more (set now n o)
    noted o e pass is =
        let m = next_at None e in
        goes_on None o m.0 (set now n o) m.1
        (ap (λ (ys : List (Option Place)). set ys n o) (l.now_is ∙ ap (λ (ys : List (Option Place)). l.done ++ ys) m.1) ∙ set_at l.done None m.0 o n l.count)
        (carry_pass (numbered_carry fits (suc n)) (looks_ask (looks c)) pass) is

    -- the first test that fails among its own is the first of all
    pub stopped : (m : Ask) → slice_get now n ≡ Some None → crossing.FirstFailing fits (looks_ask (looks c)) m → tested.FirstFailing (Passes fits) (asked_by looks 1 cs old) (suc n, m)
    stopped m e u =
        let k = next_at None e in
        subst (λ (ts : List (ℕ × Ask)). tested.FirstFailing (Passes fits) ts (suc n, m)) (sym (l.asked ∙ ap (λ (ys : List (Option Place)). l.before ++ asked_by looks (suc n) (c ∷ more) ys) k.1))
        (fail_right (Passes fits) l.before (tests None ++ asked_by looks (suc (suc n)) more k.0) (suc n, m) l.pass
        (fail_left (Passes fits) (tests None) (asked_by looks (suc (suc n)) more k.0) (suc n, m) (carry_fail (numbered_carry fits (suc n)) (looks_ask (looks c)) m u)))

  pub looking_end : (cs : List Constraint) (old : List (Option Place)) (n : ℕ) (now : List (Option Place)) → Looking cs old n [] now → AllPass fits (asked_by looks 1 cs old) × (now ≡ found_by looks cs old)
  looking_end cs old n now l =
      (subst (AllPass fits) (sym (l.asked ∙ append-nil l.before)) l.pass, l.now_is ∙ sym l.found)
