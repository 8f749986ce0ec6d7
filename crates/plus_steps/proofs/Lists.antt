-- From single steps to whole lists: a cascade of so many rounds is exactly so many times `fire`, and nothing else is
-- possible in between.
use Rattle.std.proofs.Common.{◌≡◌, ℕ, suc, List, [], ◌∷◌, ◌++◌, refl, ap, ap₂, sym, subst, ◌∙◌}
use Rattle.std.specs.Prelude.{Ok, Err, Result}
use Rattle.plus_model.specs.Joint.{Fault}
use Rattle.plus_fraction.specs.Fraction.{Fraction}
use Rattle.plus_model.specs.Terms.{Action, State, Problem}
use Rattle.plus_model.specs.Firing.{firing, IsRound, Cascade}
use Rattle.plus_model.specs.Plan.{Called, Instance, UnknownAction, WrongArguments}
use Rattle.plus_state.specs.Fits.{StateFits}
use Rattle.plus_steps.specs.Stepped.{Move, Act, Tick, Does, Rests, StepsOn}
use Rattle.plus_steps.specs.Numeric.{CallDoes, NumericPlan}
use Rattle.plus_steps.specs.Translation.{Part, Old, Step, Fire, strip, part_meant, old_called, old_action, step_action, fire_action, goal_translated}
use Rattle.plus_steps.proofs.Pads.{pad}
use Rattle.plus_steps.proofs.Mirrors.{Mirrors}
use Rattle.plus_steps.proofs.Sized.{sized_joint, sized_moved, sized_literals}

-- an instance is known by its action
abbrev pub action_or : Action → Called → Action
action_or d (Instance a) = a
action_or d _ = d

pub same_action : (a b : Action) → Instance a ≡ Instance b → a ≡ b
same_action a b h = ap (action_or a) h

-- the old action of a call that has one in the translation
pub record FromOld (P : Problem) (called : Called) (a' : Action) : Type 0 where
  pub action : Action
  pub called_is : called ≡ Instance action
  pub is : a' ≡ old_action P action

pub from_old : (P : Problem) (called : Called) (a' : Action) → old_called P called ≡ Instance a' → FromOld P called a'
from_old P (Instance a) a' h = record { action = a; called_is = refl; is = sym (same_action (old_action P a) a' h) }
from_old P (UnknownAction x) a' h = cc
from_old P (WrongArguments x) a' h = cc

module _ {C : Type 0} (P : Problem) (q : Fraction) (meant : C → Called) (m : Mirrors P q meant) where
  abbrev pub Fit : State → Type 0
  Fit s = StateFits P.atoms P.fluents s

  abbrev pub Plan : State → List (Part C) → Type 0
  Plan t parts = NumericPlan (part_meant P q meant) (goal_translated P) t parts

  -- what the first call of a plan does
  fire_here : (t u : State) → CallDoes (part_meant P q meant) Fire t u → Does (fire_action P) t u
  fire_here t u d = subst (λ a. Does a t u) (sym (same_action (fire_action P) d.action d.called)) d.does

  step_here : (t u : State) → CallDoes (part_meant P q meant) Step t u → Does (step_action P q) t u
  step_here t u d = subst (λ a. Does a t u) (sym (same_action (step_action P q) d.action d.called)) d.does

  record OldHere (call : C) (t u : State) : Type 0 where
    action : Action
    called : meant call ≡ Instance action
    does : Does (old_action P action) t u

  old_here : (call : C) (t u : State) → CallDoes (part_meant P q meant) (Old call) t u → OldHere call t u
  old_here call t u d =
      let f = from_old P (meant call) d.action d.called in
      record { action = f.action; called = f.called_is; does = subst (λ a. Does a t u) f.is d.does }

  -- ---- a plan of the translation is a stepped plan
  pub record Split (fired : List ℕ) (n : ℕ) (s : State) (parts : List (Part C)) : Type 0 where
    pub last : State
    pub rests : Rests P fired s last
    pub on : StepsOn P q meant n last (strip parts)

  resting : (fired : List ℕ) (s : State) → firing P s ≡ [] → Rests P fired s s
  resting fired s e = record { rounds = []; cascade = (e, refl) }

  more_rounds : (fired : List ℕ) (s after last : State) → IsRound P fired s (firing P s) after → Rests P (fired ++ firing P s) after last → Rests P fired s last
  more_rounds fired s after last r c = record { rounds = (firing P s, after) ∷ c.rounds; cascade = (r, c.cascade) }

  pub split : (parts : List (Part C)) (fired : List ℕ) (n : ℕ) (s : State) → Fit s → Plan (pad P fired n s) parts → Split fired n s parts
  split [] fired n s z h =
      let g = m.goal fired n s z h in
      record { last = s; rests = resting fired s g.still; on = g.goal }
  split (Fire ∷ parts) fired n s z h =
      let f = m.fire fired n s h.0 z (fire_here (pad P fired n s) h.0 h.1) in
      let r = split parts (fired ++ firing P s) n f.after (sized_joint _ _ _ s f.after z f.round.effect) (subst (λ t. Plan t parts) f.is h.2) in
      record { last = r.last; rests = more_rounds fired s f.after r.last f.round r.rests; on = r.on }
  split (Step ∷ parts) fired n s z h =
      let f = m.step fired n s h.0 z (step_here (pad P fired n s) h.0 h.1) in
      let fits : Fit f.after = subst Fit (sym f.passes.after_is) (sized_literals _ _ P _ _ (sized_moved _ _ s f.passes.rate q z)) in
      let r = split parts [] (suc n) f.after fits (subst (λ t. Plan t parts) f.is h.2) in
      record { last = s; rests = resting fired s f.still; on = (r.last, record { now = f.after; passes = f.passes; rests = r.rests }, r.on) }
  split (Old call ∷ parts) fired n s z h =
      let o = old_here call (pad P fired n s) h.0 h.1 in
      let f = m.old call o.action o.called fired n s h.0 z o.does in
      let r = split parts [] n f.after (sized_joint _ _ _ s f.after z f.does.effect) (subst (λ t. Plan t parts) f.is h.2) in
      record { last = s; rests = resting fired s f.still; on = (r.last, record { action = o.action; called = o.called; now = f.after; does = f.does; rests = r.rests }, r.on) }

  -- ---- a stepped plan is that of a plan of the translation
  pub record Planned (t : State) (moves : List (Move C)) : Type 0 where
    pub parts : List (Part C)
    pub plan : Plan t parts
    pub is : strip parts ≡ moves

  -- rounds, and then what goes on from their end
  pub after_rounds : (moves : List (Move C)) (n : ℕ) (rounds : List (List ℕ × State)) (fired : List ℕ) (s last : State) → Fit s → Cascade P fired s rounds last → ((f : List ℕ) → Fit last → firing P last ≡ [] → Planned (pad P f n last) moves) → Planned (pad P fired n s) moves
  after_rounds moves n [] fired s last z c on =
      subst (λ u. Planned (pad P fired n u) moves) c.1 (on fired (subst Fit (sym c.1) z) (subst (λ u. firing P u ≡ []) (sym c.1) c.0))
  after_rounds moves n (round ∷ rounds) fired s last z c on =
      let e : round.0 ≡ firing P s = c.0.all in
      let here : IsRound P fired s (firing P s) round.1 = subst (λ es. IsRound P fired s es round.1) e c.0 in
      let r = after_rounds moves n rounds (fired ++ firing P s) round.1 last (sized_joint _ _ _ s round.1 z c.0.effect) (subst (λ es. Cascade P (fired ++ es) round.1 rounds last) e c.1) on in
      let t : State = pad P (fired ++ firing P s) n round.1 in
      record {
        parts = Fire ∷ r.parts;
        plan = (t, record { action = fire_action P; called = refl; does = m.fire_back fired n s t z (record { after = round.1; round = here; is = refl }) }, r.plan);
        is = r.is;
      }

  pub go_on : (moves : List (Move C)) (fired : List ℕ) (n : ℕ) (s : State) → Fit s → firing P s ≡ [] → StepsOn P q meant n s moves → Planned (pad P fired n s) moves
  go_on [] fired n s z e h = record { parts = []; plan = m.goal_back fired n s z (record { still = e; goal = h }); is = refl }
  go_on (Act call ∷ moves) fired n s z e h =
      let a = h.1 in
      let fits : Fit a.now = sized_joint _ _ _ s a.now z a.does.effect in
      let r = after_rounds moves n a.rests.rounds [] a.now h.0 fits a.rests.cascade (λ f y k. go_on moves f n h.0 y k h.2) in
      let t : State = pad P [] n a.now in
      record {
        parts = Old call ∷ r.parts;
        plan = (t, record { action = old_action P a.action; called = ap (old_called P) a.called; does = m.old_back call a.action a.called fired n s t z (record { after = a.now; still = e; does = a.does; is = refl }) }, r.plan);
        is = ap (λ ms. Act call ∷ ms) r.is;
      }
  go_on (Tick ∷ moves) fired n s z e h =
      let a = h.1 in
      let fits : Fit a.now = subst Fit (sym a.passes.after_is) (sized_literals _ _ P _ _ (sized_moved _ _ s a.passes.rate q z)) in
      let r = after_rounds moves (suc n) a.rests.rounds [] a.now h.0 fits a.rests.cascade (λ f y k. go_on moves f (suc n) h.0 y k h.2) in
      let t : State = pad P [] (suc n) a.now in
      record {
        parts = Step ∷ r.parts;
        plan = (t, record { action = step_action P q; called = refl; does = m.step_back fired n s t z (record { after = a.now; still = e; passes = a.passes; is = refl }) }, r.plan);
        is = ap (λ ms. Tick ∷ ms) r.is;
      }

  -- ---- and of no other plan of the translation
  -- where an event holds, a plan goes on by a round, and where none does it does not
  abbrev Result_eq : State → State → Type 0
  Result_eq v w = Ok v ≡ (let r : Result State Fault = Ok w in r)

  one_joint : (a : Action) (s t u : State) → Does a s t → Does a s u → t ≡ u
  one_joint a s t u x y = same_state t u (sym x.effect ∙ y.effect)
    where
      state_or : State → Result State Fault → State
      state_or d (Ok v) = v
      state_or d (Err e) = d

      same_state : (v w : State) → Result_eq v w → v ≡ w
      same_state v w h = ap (state_or v) h

  same_old : (call : C) (a b : Action) → meant call ≡ Instance a → meant call ≡ Instance b → a ≡ b
  same_old call a b x y = same_action a b (sym x ∙ y)

  call_of : C → Move C → C
  call_of d (Act call) = call
  call_of d Tick = d

  head_or : Move C → List (Move C) → Move C
  head_or d [] = d
  head_or d (x ∷ xs) = x

  tail_of : List (Move C) → List (Move C)
  tail_of [] = []
  tail_of (x ∷ xs) = xs

  pub one : (xs ys : List (Part C)) (fired : List ℕ) (n : ℕ) (s : State) → Fit s → Plan (pad P fired n s) xs → Plan (pad P fired n s) ys → strip xs ≡ strip ys → xs ≡ ys
  unfolding call_of head_or tail_of
  one [] [] fired n s z h k e = refl
  one [] (Fire ∷ ys) fired n s z h k e =
      absurd ((m.fire fired n s k.0 z (fire_here _ k.0 k.1)).round.some (m.goal fired n s z h).still)
  one [] (Step ∷ ys) fired n s z h k e = cc
  one [] (Old c ∷ ys) fired n s z h k e = cc
  one (Fire ∷ xs) [] fired n s z h k e =
      absurd ((m.fire fired n s h.0 z (fire_here _ h.0 h.1)).round.some (m.goal fired n s z k).still)
  one (Fire ∷ xs) (Fire ∷ ys) fired n s z h k e =
      let x = fire_here _ h.0 h.1 in
      let f = m.fire fired n s h.0 z x in
      let same : h.0 ≡ k.0 = one_joint (fire_action P) _ h.0 k.0 x (fire_here _ k.0 k.1) in
      ap (λ t. Fire ∷ t) (one xs ys (fired ++ firing P s) n f.after (sized_joint _ _ _ s f.after z f.round.effect)
      (subst (λ t. Plan t xs) f.is h.2) (subst (λ t. Plan t ys) (sym same ∙ f.is) k.2) e)
  one (Fire ∷ xs) (Step ∷ ys) fired n s z h k e =
      absurd ((m.fire fired n s h.0 z (fire_here _ h.0 h.1)).round.some (m.step fired n s k.0 z (step_here _ k.0 k.1)).still)
  one (Fire ∷ xs) (Old c ∷ ys) fired n s z h k e =
      let o = old_here c _ k.0 k.1 in
      absurd ((m.fire fired n s h.0 z (fire_here _ h.0 h.1)).round.some (m.old c o.action o.called fired n s k.0 z o.does).still)
  one (Step ∷ xs) [] fired n s z h k e = cc
  one (Step ∷ xs) (Fire ∷ ys) fired n s z h k e =
      absurd ((m.fire fired n s k.0 z (fire_here _ k.0 k.1)).round.some (m.step fired n s h.0 z (step_here _ h.0 h.1)).still)
  one (Step ∷ xs) (Step ∷ ys) fired n s z h k e =
      let x = step_here _ h.0 h.1 in
      let f = m.step fired n s h.0 z x in
      let fits : Fit f.after = subst Fit (sym f.passes.after_is) (sized_literals _ _ P _ _ (sized_moved _ _ s f.passes.rate q z)) in
      let same : h.0 ≡ k.0 = one_joint (step_action P q) _ h.0 k.0 x (step_here _ k.0 k.1) in
      ap (λ t. Step ∷ t) (one xs ys [] (suc n) f.after fits
      (subst (λ t. Plan t xs) f.is h.2) (subst (λ t. Plan t ys) (sym same ∙ f.is) k.2) (ap tail_of e))
  one (Step ∷ xs) (Old c ∷ ys) fired n s z h k e = cc
  one (Old c ∷ xs) [] fired n s z h k e = cc
  one (Old c ∷ xs) (Fire ∷ ys) fired n s z h k e =
      let o = old_here c _ h.0 h.1 in
      absurd ((m.fire fired n s k.0 z (fire_here _ k.0 k.1)).round.some (m.old c o.action o.called fired n s h.0 z o.does).still)
  one (Old c ∷ xs) (Step ∷ ys) fired n s z h k e = cc
  one (Old c ∷ xs) (Old d ∷ ys) fired n s z h k e =
      let call : c ≡ d = ap (λ ms. call_of c (head_or Tick ms)) e in
      let o = old_here c _ h.0 h.1 in
      let p = old_here d _ k.0 k.1 in
      let f = m.old c o.action o.called fired n s h.0 z o.does in
      let act : p.action ≡ o.action = same_old c p.action o.action (ap meant call ∙ p.called) o.called in
      let same : h.0 ≡ k.0 = one_joint (old_action P o.action) _ h.0 k.0 o.does (subst (λ a. Does (old_action P a) (pad P fired n s) k.0) act p.does) in
      ap₂ (λ v t. Old v ∷ t) call (one xs ys [] n f.after (sized_joint _ _ _ s f.after z f.does.effect)
      (subst (λ t. Plan t xs) f.is h.2) (subst (λ t. Plan t ys) (sym same ∙ f.is) k.2) (ap tail_of e))
