-- What the calls of one who watches tell.
use Rattle.std.proofs.Common.{◌≡◌, true, List, [], ◌∷◌, map, replicate, refl, ap, sym, subst, ◌∙◌}
use Rattle.std.specs.Prelude.{length, OnOk, Option, None, Result, Ok, Err}
use Rattle.plus_fraction.specs.Fraction.{Fraction}
use Rattle.plus_number.specs.declared.frac.Frac64.{Frac64}
use Rattle.plus_number.specs.Frac.{fraction_of, IsFrac64}
use Rattle.plus_constraints.specs.Constraint.{Constraint}
use Rattle.plus_watch.specs.declared.watching.WatchHalt.{WatchHalt}
use Rattle.plus_watch.specs.declared.watching.WatchHalt.TheVariants as halts
use Rattle.plus_watch.specs.Looks.{Look}
use Rattle.plus_constraints.specs.Place.{Place}
use Rattle.plus_watch.specs.declared.place.Place as code
use Rattle.plus_watch.specs.declared.watched.Watched.{Watched}
use Rattle.plus_watch.specs.Watched.{constraints_of, places_of, WatchTold}
use Rattle.plus_watcher.specs.declared.watcher.Standing.{Standing}
use Rattle.plus_watcher.specs.declared.watcher.Standing.TheVariants.{Going, Limit, Lost}
use Rattle.plus_watcher.specs.declared.watcher.Watcher.{Watcher}
use Rattle.plus_watcher.specs.Stands.{constraints_in}
use Rattle.plus_watcher.specs.Looked.{is_going, Notes, SeesBy, Sees}

going_is : (s : Standing) → is_going s ≡ true → s ≡ Going
going_is Going g = refl
going_is (Limit index stop) g = cc g
going_is Lost g = cc g

-- what is noted is what the looks tell
module _ (time : Fraction) (looks : Constraint → List Look) (old mid new : Watcher) (firsts : List (Option (code.Place Frac64))) (going : is_going old.standing ≡ true)
    (items : mid.firsts.items ≡ firsts) (rules : mid.rules ≡ old.rules) (standing : mid.standing ≡ old.standing) (since : fraction_of mid.since ≡ time) where
  pub notes_sees :
      (told : Result (Unit {0}) (WatchHalt Frac64)) → Notes mid new told
      → WatchTold fraction_of IsFrac64 looks (constraints_in old.rules) (places_of fraction_of old.firsts.items) (places_of fraction_of firsts) told
      → Sees time looks old new
  notes_sees (Ok u) e k = record {
    rules = ap (λ (w : Watcher). w.rules) e ∙ rules;
    since = ap (λ (w : Watcher). fraction_of w.since) e ∙ since;
    told = subst (SeesBy looks old new) (sym (ap (λ (w : Watcher). w.standing) e ∙ standing ∙ going_is old.standing going))
        (k.0, ap (λ (w : Watcher). places_of fraction_of w.firsts.items) e ∙ ap (places_of fraction_of) items ∙ k.1);
  }
  notes_sees (Err (halts.Limit index stop)) e k = record {
    rules = ap (λ (w : Watcher). w.rules) e ∙ rules;
    since = ap (λ (w : Watcher). fraction_of w.since) e ∙ since;
    told = subst (SeesBy looks old new) (sym (ap (λ (w : Watcher). w.standing) e)) k;
  }
  notes_sees (Err halts.Memory) e k = absurd e

-- what follows where a call is done
pub if_done : {A E : Type 0} (r : Result A E) (P Q : Type 0) → (P → Q) → OnOk r P → OnOk r Q
if_done (Ok x) P Q f h = f h
if_done (Err e) P Q f h = tt

-- no place is noted yet
pub none_noted : (ws : List (Watched Frac64)) → places_of fraction_of (replicate (length ws) None) ≡ map (λ (c : Constraint). None) (constraints_of fraction_of ws)
none_noted [] = refl
none_noted (w ∷ ws) = ap (λ (os : List (Option Place)). None ∷ os) (none_noted ws)
