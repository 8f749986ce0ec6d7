-- What the steps of a joint effect say of the model's joint effect: where all pass, it is the state after the writes that
-- are due; where the first step that stops is a fault, it is that fault.
use Rattle.std.proofs.Common.{◌≡◌, ℕ, suc, Bool, true, false, not, ◌&&◌, ◌||◌, List, [], ◌∷◌, ◌++◌, length, map, refl, ap, ap₂, sym, subst, ◌∙◌, inl, inr, arith, append_assoc, length-append}
use Rattle.std.proofs.lemmas.List.{map-append, append-nil}
use Rattle.std.proofs.lemmas.Bool.{eqb-true}
use Rattle.std.specs.Prelude.{Option, Some, None, Result, Ok, Err, option_map, nat_eq, slice_get, unwrap_or, if◌then◌else◌}
use Rattle.plus_fraction.specs.Fraction.{Fraction, ◌+ℚ◌, ◌*ℚ◌, ◌/ℚ◌, neg_ℚ}
use Rattle.plus_fraction.proofs.FractionLaws.{+ℚ_assoc}
use Rattle.plus_fraction.proofs.FractionRing.{ -ℚ_is}
use Rattle.plus_model.specs.Terms as model
use Rattle.plus_model.specs.Terms.{State, Effect, Expression}
use Rattle.plus_model.specs.Value.{value, is_zero, fluent_of, holds}
use Rattle.plus_model.specs.Joint.{Fault, NoValue, Conflict, Change, Gains, Loses, Becomes, Moves, given, change_of, before, changes_of, gains, loses, new_atoms, Written, Stays, Clash, Becoming, Moving, becoming, moving, written, new_value, value_before, new_values, with_atoms, changed, joint}
use Rattle.plus_state.specs.declared.term.AssignOp.{AssignOp}
use Rattle.plus_state.specs.declared.term.AssignOp.TheVariants.{Assign, Increase, Decrease, ScaleUp, ScaleDown}
use Rattle.plus_state.specs.Node.{Node}
use Rattle.plus_state.specs.Asked.{nodes}
use Rattle.plus_state.specs.Tests.{tests_of}
use Rattle.plus_state.specs.Due.{Update, Due, puts, updates, due_update, due_write, due_effect, dues, updated, all_updated, updates_on, by_fluent, new_fluents, is_move, all_moves, clash, atom_change, atom_changes, after_dues}
use Rattle.plus_state.specs.Tested as tested
use Rattle.plus_state.proofs.Testing.{pass_left, pass_right, fail_split, none_fails, fails_here, chosen_pass, chosen_fail, carry_from}
use Rattle.plus_state.proofs.StepsLemmas.{nodes_carry}
use Rattle.plus_state.specs.Steps.{Step, asks, fault, Passes, AllPass, FirstStop, need, need_divisor, amount_steps, write_steps, guarded, effect_steps, add_steps, clash_steps, fluents_nodes, end_steps, joint_steps}

-- nodes are no faults
no_fault : (fits : Fraction → Type 0) (ns : List Node) (k : Fault) → FirstStop fits (map asks ns) (fault k) → ⊥
no_fault fits ns k h = let q = carry_from (nodes_carry fits) ns (fault k) h in let e : fault k ≡ asks q.0 = q.1.1 in cc

fault_behind : (fits : Fraction → Type 0) (ns : List Node) (ys : List Step) (k : Fault) → FirstStop fits (map asks ns ++ ys) (fault k) → FirstStop fits ys (fault k)
fault_behind fits ns ys k h = elim (fail_split (Passes fits) (map asks ns) ys (fault k) h) [ inl a ↦ absurd (no_fault fits ns k a) | inr b ↦ b.1 ]

same_fault : (k j : Fault) → fault k ≡ fault j → k ≡ j
same_fault k j e = cc

-- a value that is needed and is not there
need_some : (fits : Fraction → Type 0) (f : ℕ) (o : Option Fraction) → AllPass fits (need f o) → (x : Fraction) × (o ≡ Some x)
unfolding need tested.AllPass Passes
need_some fits f None h = absurd h.0
need_some fits f (Some x) h = (x, refl)

need_fault : (fits : Fraction → Type 0) (f : ℕ) (o : Option Fraction) (k : Fault) → FirstStop fits (need f o) (fault k) → (o ≡ None) × (k ≡ NoValue f)
unfolding need Passes
need_fault fits f None k h = (refl, same_fault k (NoValue f) (fails_here (Passes fits) _ _ [] (λ z. z) h))
need_fault fits f (Some x) k h = absurd (none_fails (Passes fits) _ h)

chosen_fault : (fits : Fraction → Type 0) (f k : Fault) (b : Bool) → FirstStop fits (if b then fault f ∷ [] else []) (fault k) → (b ≡ true) × (k ≡ f)
chosen_fault fits f k b h = let c = chosen_fail (Passes fits) (fault f) (fault k) b h in (c.0, same_fault k f c.1)

not_chosen : (fits : Fraction → Type 0) (f : Fault) (b : Bool) → AllPass fits (if b then fault f ∷ [] else []) → b ≡ false
unfolding Passes
not_chosen fits f b h = chosen_pass (Passes fits) (fault f) b (λ z. z) h

-- the change that an update makes of a present value
abbrev pub change_of_update : ℕ → AssignOp → Fraction → Option Fraction → Change
change_of_update f Assign x v = Becomes f x
change_of_update f Increase x v = Moves f x
change_of_update f Decrease x v = Moves f (neg_ℚ x)
change_of_update f ScaleUp x None = Becomes f x
change_of_update f ScaleUp x (Some w) = Becomes f (w *ℚ x)
change_of_update f ScaleDown x None = Becomes f x
change_of_update f ScaleDown x (Some w) = Becomes f (w /ℚ x)

abbrev pub change_of_due : State → Due → Change
change_of_due s (puts a b) = atom_change a b
change_of_due s (updates f u) = change_of_update f u.op u.amount (fluent_of s f)

-- the value that an update needs is there, and it does not divide by zero
abbrev pub UpdateReady : AssignOp → Fraction → Option Fraction → Type 0
UpdateReady Assign x v = Unit {0}
UpdateReady Increase x None = ⊥
UpdateReady Increase x (Some w) = Unit {0}
UpdateReady Decrease x None = ⊥
UpdateReady Decrease x (Some w) = Unit {0}
UpdateReady ScaleUp x None = ⊥
UpdateReady ScaleUp x (Some w) = Unit {0}
UpdateReady ScaleDown x None = ⊥
UpdateReady ScaleDown x (Some w) = is_zero x ≡ false

abbrev pub DuesReady : State → List Due → Type 0
DuesReady s [] = Unit {0}
DuesReady s (puts a b ∷ ds) = DuesReady s ds
DuesReady s (updates f u ∷ ds) = UpdateReady u.op u.amount (fluent_of s f) × DuesReady s ds

ready_append : (s : State) (ds es : List Due) → DuesReady s ds → DuesReady s es → DuesReady s (ds ++ es)
ready_append s [] es h k = k
ready_append s (puts a b ∷ ds) es h k = ready_append s ds es h k
ready_append s (updates f u ∷ ds) es h k = (h.0, ready_append s ds es h.1 k)

-- one write: its change, and the write that is due
pub record Done (r : Result Change Fault) (ds : List Due) (s : State) : Type 0 where
  pub change : Change
  pub is : r ≡ Ok change
  pub due : map (change_of_due s) ds ≡ change ∷ []
  pub ready : DuesReady s ds

update_done : (s : State) (f : ℕ) (op : AssignOp) (r : Result Change Fault) (x w : Fraction) → r ≡ Ok (change_of_update f op x (Some w)) → UpdateReady op x (Some w) → fluent_of s f ≡ Some w → Done r (due_update f op (Some x)) s
update_done s f op r x w k h e = record {
  change = change_of_update f op x (Some w);
  is = k;
  due = ap (λ (v : Option Fraction). change_of_update f op x v ∷ []) e;
  ready = (subst (UpdateReady op x) (sym e) h, tt);
}

given_done : (s : State) (f : ℕ) (op : AssignOp) (o : Option Fraction) (g : Fraction → Fraction → Result Change Fault) (x w : Fraction) → o ≡ Some x → fluent_of s f ≡ Some w → g x w ≡ Ok (change_of_update f op x (Some w)) → UpdateReady op x (Some w) → Done (given f o (λ x. given f (fluent_of s f) (λ w. g x w))) (due_update f op o) s
given_done s f op o g x w e k h r =
    subst (λ (y : Option Fraction). Done (given f y (λ x. given f (fluent_of s f) (λ w. g x w))) (due_update f op y) s) (sym e)
    (subst (λ (y : Option Fraction). Done (given f y (λ w. g x w)) (due_update f op (Some x)) s) (sym k) (update_done s f op (g x w) x w h r k))

assign_done : (s : State) (f : ℕ) (o : Option Fraction) (x : Fraction) → o ≡ Some x → Done (given f o (λ x. Ok (Becomes f x))) (due_update f Assign o) s
assign_done s f o x e =
    subst (λ (y : Option Fraction). Done (given f y (λ x. Ok (Becomes f x))) (due_update f Assign y) s) (sym e) (record { change = Becomes f x; is = refl; due = refl; ready = (tt, tt) })

module _ (fits : Fraction → Type 0) (f : ℕ) (ns : List Node) where
  -- an amount, and then a present value
  assign_stop : (o : Option Fraction) (k : Fault) → FirstStop fits (map asks ns ++ need f o) (fault k) → given f o (λ x. Ok (Becomes f x)) ≡ Err k
  assign_stop o k h =
      let n = need_fault fits f o k (fault_behind fits ns (need f o) k h) in
      ap (λ (w : Option Fraction). given f w (λ x. Ok (Becomes f x))) n.0 ∙ ap Err (sym n.1)

  given_stop : (o v : Option Fraction) (rest : List Step) (g : Fraction → Fraction → Result Change Fault) (k : Fault) → ((x w : Fraction) → o ≡ Some x → v ≡ Some w → FirstStop fits rest (fault k) → g x w ≡ Err k) → FirstStop fits ((map asks ns ++ need f o) ++ (need f v ++ rest)) (fault k) → given f o (λ x. given f v (λ w. g x w)) ≡ Err k
  given_stop o v rest g k r h =
      elim (fail_split (Passes fits) (map asks ns ++ need f o) (need f v ++ rest) (fault k) h) [
        | inl a ↦ (let n = need_fault fits f o k (fault_behind fits ns (need f o) k a) in
            ap (λ (y : Option Fraction). given f y (λ x. given f v (λ w. g x w))) n.0 ∙ ap Err (sym n.1))
        | inr b ↦ (let x = need_some fits f o (pass_right (Passes fits) (map asks ns) (need f o) b.0) in
            elim (fail_split (Passes fits) (need f v) rest (fault k) b.1) [
              | inl a ↦ (let n = need_fault fits f v k a in
                  ap₂ (λ (y z : Option Fraction). given f y (λ x. given f z (λ w. g x w))) x.1 n.0 ∙ ap Err (sym n.1))
              | inr c ↦ (let w = need_some fits f v c.0 in
                  ap₂ (λ (y z : Option Fraction). given f y (λ x. given f z (λ w. g x w))) x.1 w.1 ∙ r x.0 w.0 x.1 w.1 c.1)
            ])
      ]

  moving_stop : (o v : Option Fraction) (g : Fraction → Fraction → Change) (k : Fault) → FirstStop fits ((map asks ns ++ need f o) ++ need f v) (fault k) → given f o (λ x. given f v (λ w. Ok (g x w))) ≡ Err k
  unfolding tested.FirstFailing
  moving_stop o v g k h =
      given_stop o v [] (λ x w. Ok (g x w)) k (λ x w e d r. absurd r) (subst (λ (ys : List Step). FirstStop fits ((map asks ns ++ need f o) ++ ys) (fault k)) (sym (append-nil (need f v))) h)

  dividing_stop : (o v : Option Fraction) (k : Fault) → FirstStop fits ((map asks ns ++ need f o) ++ (need f v ++ need_divisor f o)) (fault k) → given f o (λ x. given f v (λ w. if is_zero x then Err (NoValue f) else Ok (Becomes f (w /ℚ x)))) ≡ Err k
  unfolding need_divisor
  dividing_stop o v k h =
      given_stop o v (need_divisor f o) (λ x w. if is_zero x then Err (NoValue f) else Ok (Becomes f (w /ℚ x))) k (λ x w e d r.
      let n = chosen_fault fits (NoValue f) k (is_zero x) (subst (λ (y : Option Fraction). FirstStop fits (need_divisor f y) (fault k)) e r) in
      ap (λ (b : Bool). if b then Err (NoValue f) else Ok (Becomes f (w /ℚ x))) n.0 ∙ ap Err (sym n.1)) h

module _ (fits : Fraction → Type 0) (s : State) where
  write_stop : (w : model.Write) (k : Fault) → FirstStop fits (write_steps w s) (fault k) → change_of w s ≡ Err k
  unfolding tested.FirstFailing amount_steps
  write_stop (model.Add a) k h = absurd h
  write_stop (model.Delete a) k h = absurd h
  write_stop (model.Assign f e) k h = assign_stop fits f (nodes e s) (value e s) k h
  write_stop (model.Increase f e) k h = moving_stop fits f (nodes e s) (value e s) (fluent_of s f) (λ x w. Moves f x) k h
  write_stop (model.Decrease f e) k h = moving_stop fits f (nodes e s) (value e s) (fluent_of s f) (λ x w. Moves f (neg_ℚ x)) k h
  write_stop (model.ScaleUp f e) k h = moving_stop fits f (nodes e s) (value e s) (fluent_of s f) (λ x w. Becomes f (w *ℚ x)) k h
  write_stop (model.ScaleDown f e) k h = dividing_stop fits f (nodes e s) (value e s) (fluent_of s f) k h

  amount_some : (f : ℕ) (e : Expression) → AllPass fits (amount_steps f e s) → (x : Fraction) × (value e s ≡ Some x)
  unfolding amount_steps
  amount_some f e h = need_some fits f (value e s) (pass_right (Passes fits) (map asks (nodes e s)) (need f (value e s)) h)

  moving_done : (f : ℕ) (e : Expression) (op : AssignOp) (g : Fraction → Fraction → Change) → ((x w : Fraction) → g x w ≡ change_of_update f op x (Some w)) → ((x w : Fraction) → UpdateReady op x (Some w)) → AllPass fits (amount_steps f e s ++ need f (fluent_of s f)) → Done (given f (value e s) (λ x. given f (fluent_of s f) (λ w. Ok (g x w)))) (due_update f op (value e s)) s
  moving_done f e op g is ready h =
      let x = amount_some f e (pass_left (Passes fits) (amount_steps f e s) (need f (fluent_of s f)) h) in
      let w = need_some fits f (fluent_of s f) (pass_right (Passes fits) (amount_steps f e s) (need f (fluent_of s f)) h) in
      given_done s f op (value e s) (λ x w. Ok (g x w)) x.0 w.0 x.1 w.1 (ap Ok (is x.0 w.0)) (ready x.0 w.0)

  dividing_done : (f : ℕ) (e : Expression) → AllPass fits (amount_steps f e s ++ (need f (fluent_of s f) ++ need_divisor f (value e s))) → Done (change_of (model.ScaleDown f e) s) (due_update f ScaleDown (value e s)) s
  unfolding need_divisor
  dividing_done f e h =
      let x = amount_some f e (pass_left (Passes fits) (amount_steps f e s) _ h) in
      let rest = pass_right (Passes fits) (amount_steps f e s) _ h in
      let w = need_some fits f (fluent_of s f) (pass_left (Passes fits) (need f (fluent_of s f)) _ rest) in
      let z = not_chosen fits (NoValue f) (is_zero x.0) (subst (λ (y : Option Fraction). AllPass fits (need_divisor f y)) x.1 (pass_right (Passes fits) (need f (fluent_of s f)) _ rest)) in
      given_done s f ScaleDown (value e s) (λ x w. if is_zero x then Err (NoValue f) else Ok (Becomes f (w /ℚ x))) x.0 w.0 x.1 w.1 (ap (λ (b : Bool). if b then Err (NoValue f) else Ok (Becomes f (w.0 /ℚ x.0))) z) z

  write_done : (w : model.Write) → AllPass fits (write_steps w s) → Done (change_of w s) (due_write w s) s
  write_done (model.Add a) h = record { change = Gains a; is = refl; due = refl; ready = tt }
  write_done (model.Delete a) h = record { change = Loses a; is = refl; due = refl; ready = tt }
  write_done (model.Assign f e) h = let x = amount_some f e h in assign_done s f (value e s) x.0 x.1
  write_done (model.Increase f e) h = moving_done f e Increase (λ x w. Moves f x) (λ x w. refl) (λ x w. tt) h
  write_done (model.Decrease f e) h = moving_done f e Decrease (λ x w. Moves f (neg_ℚ x)) (λ x w. refl) (λ x w. tt) h
  write_done (model.ScaleUp f e) h = moving_done f e ScaleUp (λ x w. Becomes f (w *ℚ x)) (λ x w. refl) (λ x w. tt) h
  write_done (model.ScaleDown f e) h = dividing_done f e h

-- changes before others, or the first fault
abbrev in_front : List Change → Result (List Change) Fault → Result (List Change) Fault
in_front cs (Ok more) = Ok (cs ++ more)
in_front cs (Err k) = Err k

before_front : (c : Change) (r : Result (List Change) Fault) → before (Ok c) r ≡ in_front (c ∷ []) r
before_front c (Ok cs) = refl
before_front c (Err k) = refl

front_none : (r : Result (List Change) Fault) → r ≡ in_front [] r
front_none (Ok cs) = refl
front_none (Err k) = refl

module _ (fits : Fraction → Type 0) (s : State) where
  choice_done : (b : Bool) (w : model.Write) (r : Result (List Change) Fault) → AllPass fits (guarded b (write_steps w s)) → ((if b then before (change_of w s) r else r) ≡ in_front (map (change_of_due s) (if b then due_write w s else [])) r) × DuesReady s (if b then due_write w s else [])
  choice_done false w r h = (front_none r, tt)
  choice_done true w r h =
      let d = write_done fits s w h in
      (ap (λ (c : Result Change Fault). before c r) d.is ∙ before_front d.change r ∙ ap (λ cs. in_front cs r) (sym d.due), d.ready)

  choice_stop : (b : Bool) (w : model.Write) (r : Result (List Change) Fault) (k : Fault) → FirstStop fits (guarded b (write_steps w s)) (fault k) → (if b then before (change_of w s) r else r) ≡ Err k
  unfolding tested.FirstFailing
  choice_stop false w r k h = absurd h
  choice_stop true w r k h = ap (λ (c : Result Change Fault). before c r) (write_stop fits s w k h)

  effect_done : (e : Effect) (es : List Effect) → AllPass fits (effect_steps e s) → (changes_of (e ∷ es) s ≡ in_front (map (change_of_due s) (due_effect e s)) (changes_of es s)) × DuesReady s (due_effect e s)
  unfolding effect_steps
  effect_done e es h = choice_done (holds e.guard s) e.write (changes_of es s) (pass_right (Passes fits) (map asks (tests_of e.guard s)) _ h)

  effect_stop : (e : Effect) (es : List Effect) (k : Fault) → FirstStop fits (effect_steps e s) (fault k) → changes_of (e ∷ es) s ≡ Err k
  unfolding effect_steps
  effect_stop e es k h = choice_stop (holds e.guard s) e.write (changes_of es s) k (fault_behind fits (tests_of e.guard s) _ k h)

  -- where all steps of the effects pass, the changes are those of the writes that are due
  pub adds_pass : (es : List Effect) → AllPass fits (add_steps es s) → (changes_of es s ≡ Ok (map (change_of_due s) (dues es s))) × DuesReady s (dues es s)
  adds_pass [] h = (refl, tt)
  adds_pass (e ∷ es) h =
      let d = effect_done e es (pass_left (Passes fits) (effect_steps e s) _ h) in
      let r = adds_pass es (pass_right (Passes fits) (effect_steps e s) _ h) in
      (d.0 ∙ ap (in_front (map (change_of_due s) (due_effect e s))) r.0 ∙ ap Ok (sym (map-append (change_of_due s) (due_effect e s) (dues es s))), ready_append s (due_effect e s) (dues es s) d.1 r.1)

  pub adds_stop : (es : List Effect) (k : Fault) → FirstStop fits (add_steps es s) (fault k) → changes_of es s ≡ Err k
  unfolding tested.FirstFailing
  adds_stop [] k h = absurd h
  adds_stop (e ∷ es) k h =
      elim (fail_split (Passes fits) (effect_steps e s) (add_steps es s) (fault k) h) [
        | inl a ↦ effect_stop e es k a
        | inr b ↦ (effect_done e es b.0).0 ∙ ap (in_front (map (change_of_due s) (due_effect e s))) (adds_stop es k b.1)
      ]

-- atoms: updates change none
gains_update : (a f : ℕ) (op : AssignOp) (x : Fraction) (v : Option Fraction) (cs : List Change) → gains a (change_of_update f op x v ∷ cs) ≡ gains a cs
gains_update a f Assign x v cs = refl
gains_update a f Increase x v cs = refl
gains_update a f Decrease x v cs = refl
gains_update a f ScaleUp x None cs = refl
gains_update a f ScaleUp x (Some w) cs = refl
gains_update a f ScaleDown x None cs = refl
gains_update a f ScaleDown x (Some w) cs = refl

loses_update : (a f : ℕ) (op : AssignOp) (x : Fraction) (v : Option Fraction) (cs : List Change) → loses a (change_of_update f op x v ∷ cs) ≡ loses a cs
loses_update a f Assign x v cs = refl
loses_update a f Increase x v cs = refl
loses_update a f Decrease x v cs = refl
loses_update a f ScaleUp x None cs = refl
loses_update a f ScaleUp x (Some w) cs = refl
loses_update a f ScaleDown x None cs = refl
loses_update a f ScaleDown x (Some w) cs = refl

gains_same : (a : ℕ) (s : State) (ds : List Due) → gains a (map (change_of_due s) ds) ≡ gains a (atom_changes ds)
gains_same a s [] = refl
gains_same a s (puts b true ∷ ds) = ap (λ (x : Bool). nat_eq a b || x) (gains_same a s ds)
gains_same a s (puts b false ∷ ds) = gains_same a s ds
gains_same a s (updates f u ∷ ds) = gains_update a f u.op u.amount (fluent_of s f) _ ∙ gains_same a s ds

loses_same : (a : ℕ) (s : State) (ds : List Due) → loses a (map (change_of_due s) ds) ≡ loses a (atom_changes ds)
loses_same a s [] = refl
loses_same a s (puts b true ∷ ds) = loses_same a s ds
loses_same a s (puts b false ∷ ds) = ap (λ (x : Bool). nat_eq a b || x) (loses_same a s ds)
loses_same a s (updates f u ∷ ds) = loses_update a f u.op u.amount (fluent_of s f) _ ∙ loses_same a s ds

atoms_same : (j : ℕ) (s : State) (ds : List Due) (bs : List Bool) → new_atoms j (map (change_of_due s) ds) bs ≡ new_atoms j (atom_changes ds) bs
atoms_same j s ds [] = refl
atoms_same j s ds (b ∷ bs) =
    ap₂ (λ (x : Bool) (xs : List Bool). x ∷ xs) (ap₂ (λ (g l : Bool). g || (b && not l)) (gains_same j s ds) (loses_same j s ds)) (atoms_same (suc j) s ds bs)

-- what the updates of one fluent come to
abbrev written_by : AssignOp → Fraction → Option Fraction → Written → Written
written_by Assign x v w = becoming x w
written_by Increase x v w = moving x w
written_by Decrease x v w = moving (neg_ℚ x) w
written_by ScaleUp x None w = becoming x w
written_by ScaleUp x (Some y) w = becoming (y *ℚ x) w
written_by ScaleDown x None w = becoming x w
written_by ScaleDown x (Some y) w = becoming (y /ℚ x) w

abbrev written_of : List Update → Option Fraction → Written
written_of [] v = Stays
written_of (u ∷ us) v = written_by u.op u.amount v (written_of us v)

written_update : (f g : ℕ) (op : AssignOp) (x : Fraction) (v : Option Fraction) (cs : List Change) → written f (change_of_update g op x v ∷ cs) ≡ (if nat_eq f g then written_by op x v (written f cs) else written f cs)
written_update f g Assign x v cs = refl
written_update f g Increase x v cs = refl
written_update f g Decrease x v cs = refl
written_update f g ScaleUp x None cs = refl
written_update f g ScaleUp x (Some w) cs = refl
written_update f g ScaleDown x None cs = refl
written_update f g ScaleDown x (Some w) cs = refl

written_here : (s : State) (f g : ℕ) (u : Update) (us : List Update) (b : Bool) (w : Written) → nat_eq f g ≡ b → w ≡ written_of us (fluent_of s f) → (if b then written_by u.op u.amount (fluent_of s g) w else w) ≡ written_of (if b then u ∷ us else us) (fluent_of s f)
written_here s f g u us true w e h =
    ap₂ (λ (k : ℕ) (x : Written). written_by u.op u.amount (fluent_of s k) x) (sym (eqb-true f g e)) h
written_here s f g u us false w e h = h

written_same : (s : State) (f : ℕ) (ds : List Due) → written f (map (change_of_due s) ds) ≡ written_of (updates_on f ds) (fluent_of s f)
written_same s f [] = refl
written_same s f (puts a true ∷ ds) = written_same s f ds
written_same s f (puts a false ∷ ds) = written_same s f ds
written_same s f (updates g u ∷ ds) =
    written_update f g u.op u.amount (fluent_of s g) (map (change_of_due s) ds) ∙ written_here s f g u (updates_on f ds) (nat_eq f g) (written f (map (change_of_due s) ds)) refl (written_same s f ds)

-- several writes of which one gives a new value clash
abbrev IsNew : Written → Type 0
IsNew Stays = ⊥
IsNew Clash = Unit {0}
IsNew (Becoming x) = Unit {0}
IsNew (Moving x) = ⊥

abbrev IsSomething : Written → Type 0
IsSomething Stays = ⊥
IsSomething Clash = Unit {0}
IsSomething (Becoming x) = Unit {0}
IsSomething (Moving x) = Unit {0}

becoming_new : (x : Fraction) (w : Written) → IsNew (becoming x w)
becoming_new x Stays = tt
becoming_new x Clash = tt
becoming_new x (Becoming y) = tt
becoming_new x (Moving y) = tt

moving_new : (x : Fraction) (w : Written) → IsNew w → IsNew (moving x w)
moving_new x Stays h = absurd h
moving_new x Clash h = tt
moving_new x (Becoming y) h = tt
moving_new x (Moving y) h = absurd h

becoming_some : (x : Fraction) (w : Written) → IsSomething (becoming x w)
becoming_some x Stays = tt
becoming_some x Clash = tt
becoming_some x (Becoming y) = tt
becoming_some x (Moving y) = tt

moving_some : (x : Fraction) (w : Written) → IsSomething (moving x w)
moving_some x Stays = tt
moving_some x Clash = tt
moving_some x (Becoming y) = tt
moving_some x (Moving y) = tt

becoming_clash : (x : Fraction) (w : Written) → IsSomething w → becoming x w ≡ Clash
becoming_clash x Stays h = absurd h
becoming_clash x Clash h = refl
becoming_clash x (Becoming y) h = refl
becoming_clash x (Moving y) h = refl

moving_clash : (x : Fraction) (w : Written) → IsNew w → moving x w ≡ Clash
moving_clash x Stays h = absurd h
moving_clash x Clash h = refl
moving_clash x (Becoming y) h = refl
moving_clash x (Moving y) h = absurd h

written_some : (op : AssignOp) (x : Fraction) (v : Option Fraction) (w : Written) → IsSomething (written_by op x v w)
written_some Assign x v w = becoming_some x w
written_some Increase x v w = moving_some x w
written_some Decrease x v w = moving_some (neg_ℚ x) w
written_some ScaleUp x None w = becoming_some x w
written_some ScaleUp x (Some y) w = becoming_some (y *ℚ x) w
written_some ScaleDown x None w = becoming_some x w
written_some ScaleDown x (Some y) w = becoming_some (y /ℚ x) w

-- a write that is no move, or a move on what is new
written_new : (op : AssignOp) (x : Fraction) (v : Option Fraction) (w : Written) (rest : Bool) → is_move op && rest ≡ false → (rest ≡ false → IsNew w) → IsNew (written_by op x v w)
written_new Assign x v w rest e h = becoming_new x w
written_new Increase x v w rest e h = moving_new x w (h e)
written_new Decrease x v w rest e h = moving_new (neg_ℚ x) w (h e)
written_new ScaleUp x None w rest e h = becoming_new x w
written_new ScaleUp x (Some y) w rest e h = becoming_new (y *ℚ x) w
written_new ScaleDown x None w rest e h = becoming_new x w
written_new ScaleDown x (Some y) w rest e h = becoming_new (y /ℚ x) w

not_all_moves : (us : List Update) (v : Option Fraction) → all_moves us ≡ false → IsNew (written_of us v)
not_all_moves [] v e = cc
not_all_moves (u ∷ us) v e = written_new u.op u.amount v (written_of us v) (all_moves us) e (λ k. not_all_moves us v k)

written_clash : (op : AssignOp) (x : Fraction) (v : Option Fraction) (w : Written) (rest : Bool) → is_move op && rest ≡ false → IsSomething w → (rest ≡ false → IsNew w) → written_by op x v w ≡ Clash
written_clash Assign x v w rest e i h = becoming_clash x w i
written_clash Increase x v w rest e i h = moving_clash x w (h e)
written_clash Decrease x v w rest e i h = moving_clash (neg_ℚ x) w (h e)
written_clash ScaleUp x None w rest e i h = becoming_clash x w i
written_clash ScaleUp x (Some y) w rest e i h = becoming_clash (y *ℚ x) w i
written_clash ScaleDown x None w rest e i h = becoming_clash x w i
written_clash ScaleDown x (Some y) w rest e i h = becoming_clash (y /ℚ x) w i

not_true : (b : Bool) → not b ≡ true → b ≡ false
not_true true e = cc
not_true false e = refl

not_false : (b : Bool) → not b ≡ false → b ≡ true
not_false true e = refl
not_false false e = cc

clash_written : (us : List Update) (v : Option Fraction) → clash us ≡ true → written_of us v ≡ Clash
clash_written [] v e = cc
clash_written (u ∷ []) v e = cc
clash_written (u ∷ w ∷ us) v e =
    written_clash u.op u.amount v (written_of (w ∷ us) v) (all_moves (w ∷ us)) (not_true (is_move u.op && all_moves (w ∷ us)) e) (written_some w.op w.amount v (written_of us v)) (λ k. not_all_moves (w ∷ us) v k)

-- moves add up
abbrev step_of : AssignOp → Fraction → Fraction
step_of Decrease x = neg_ℚ x
step_of op x = x

abbrev total : Update → List Update → Fraction
total u [] = step_of u.op u.amount
total u (w ∷ us) = step_of u.op u.amount +ℚ total w us

and_left : (a b : Bool) → a && b ≡ true → a ≡ true
and_left true b e = refl
and_left false b e = cc

and_right : (a b : Bool) → a && b ≡ true → b ≡ true
and_right true b e = e
and_right false b e = cc

move_written : (op : AssignOp) (x : Fraction) (v : Option Fraction) (w : Written) → is_move op ≡ true → written_by op x v w ≡ moving (step_of op x) w
move_written Assign x v w e = cc
move_written Increase x v w e = refl
move_written Decrease x v w e = refl
move_written ScaleUp x v w e = cc
move_written ScaleDown x v w e = cc

move_updated : (op : AssignOp) (x : Fraction) (v : Option Fraction) → is_move op ≡ true → updated op x v ≡ option_map (λ y. y +ℚ step_of op x) v
move_updated Assign x v e = cc
move_updated Increase x None e = refl
move_updated Increase x (Some y) e = refl
move_updated Decrease x None e = refl
move_updated Decrease x (Some y) e = ap Some (-ℚ_is y x)
move_updated ScaleUp x v e = cc
move_updated ScaleDown x v e = cc

moves_written : (u : Update) (us : List Update) (v : Option Fraction) → all_moves (u ∷ us) ≡ true → written_of (u ∷ us) v ≡ Moving (total u us)
moves_written u [] v e = move_written u.op u.amount v Stays (and_left (is_move u.op) true e)
moves_written u (w ∷ us) v e =
    move_written u.op u.amount v (written_of (w ∷ us) v) (and_left (is_move u.op) (all_moves (w ∷ us)) e) ∙ ap (moving (step_of u.op u.amount)) (moves_written w us v (and_right (is_move u.op) (all_moves (w ∷ us)) e))

add_steps_up : (x y : Fraction) (v : Option Fraction) → option_map (λ w. w +ℚ y) (option_map (λ w. w +ℚ x) v) ≡ option_map (λ w. w +ℚ (x +ℚ y)) v
add_steps_up x y None = refl
add_steps_up x y (Some w) = ap Some (+ℚ_assoc w x y)

moves_updated : (u : Update) (us : List Update) (v : Option Fraction) → all_moves (u ∷ us) ≡ true → all_updated (u ∷ us) v ≡ option_map (λ w. w +ℚ total u us) v
moves_updated u [] v e = move_updated u.op u.amount v (and_left (is_move u.op) true e)
moves_updated u (w ∷ us) v e =
    moves_updated w us (updated u.op u.amount v) (and_right (is_move u.op) (all_moves (w ∷ us)) e) ∙ ap (option_map (λ y. y +ℚ total w us)) (move_updated u.op u.amount v (and_left (is_move u.op) (all_moves (w ∷ us)) e)) ∙ add_steps_up (step_of u.op u.amount) (total w us) v

-- a fluent whose writes go together
one_value : (f : ℕ) (op : AssignOp) (x : Fraction) (v : Option Fraction) → UpdateReady op x v → new_value f (written_by op x v Stays) v ≡ Ok (updated op x v)
one_value f Assign x v h = refl
one_value f Increase x None h = refl
one_value f Increase x (Some w) h = refl
one_value f Decrease x None h = refl
one_value f Decrease x (Some w) h = ap (λ (y : Fraction). Ok (Some y)) (sym (-ℚ_is w x))
one_value f ScaleUp x None h = absurd h
one_value f ScaleUp x (Some w) h = refl
one_value f ScaleDown x None h = absurd h
one_value f ScaleDown x (Some w) h = ap (λ (b : Bool). Ok (if b then None else Some (w /ℚ x))) (sym h)

abbrev FirstReady : List Update → Option Fraction → Type 0
FirstReady [] v = Unit {0}
FirstReady (u ∷ us) v = UpdateReady u.op u.amount v

value_same : (f : ℕ) (us : List Update) (v : Option Fraction) → clash us ≡ false → FirstReady us v → new_value f (written_of us v) v ≡ Ok (all_updated us v)
value_same f [] v e h = refl
value_same f (u ∷ []) v e h = one_value f u.op u.amount v h
value_same f (u ∷ w ∷ us) v e h =
    let m = not_false (all_moves (u ∷ w ∷ us)) e in
    ap (λ (x : Written). new_value f x v) (moves_written u (w ∷ us) v m) ∙ ap Ok (sym (moves_updated u (w ∷ us) v m))

first_ready : (s : State) (f g : ℕ) (u : Update) (us : List Update) (b : Bool) → nat_eq f g ≡ b → UpdateReady u.op u.amount (fluent_of s g) → FirstReady us (fluent_of s f) → FirstReady (if b then u ∷ us else us) (fluent_of s f)
first_ready s f g u us true e h k = subst (λ (n : ℕ). UpdateReady u.op u.amount (fluent_of s n)) (sym (eqb-true f g e)) h
first_ready s f g u us false e h k = k

ready_on : (s : State) (f : ℕ) (ds : List Due) → DuesReady s ds → FirstReady (updates_on f ds) (fluent_of s f)
ready_on s f [] h = tt
ready_on s f (puts a b ∷ ds) h = ready_on s f ds h
ready_on s f (updates g u ∷ ds) h = first_ready s f g u (updates_on f ds) (nat_eq f g) refl h.0 (ready_on s f ds h.1)

-- the values of fluents from number k on
abbrev AreFrom : State → ℕ → List (Option Fraction) → Type 0
AreFrom s k [] = Unit {0}
AreFrom s k (v ∷ vs) = (fluent_of s k ≡ v) × AreFrom s (suc k) vs

at_place : (done : List (Option Fraction)) (v : Option Fraction) (left : List (Option Fraction)) (k : ℕ) → length done ≡ k → unwrap_or (slice_get (done ++ v ∷ left) k) None ≡ v
at_place [] v left k e = ap (λ (n : ℕ). unwrap_or (slice_get (v ∷ left) n) None) (sym e)
at_place (d ∷ done) v left k e = ap (λ (n : ℕ). unwrap_or (slice_get (d ∷ (done ++ v ∷ left)) n) None) (sym e) ∙ at_place done v left (length done) refl

are_from : (s : State) (done left : List (Option Fraction)) (k : ℕ) → s.fluents ≡ done ++ left → length done ≡ k → AreFrom s k left
are_from s done [] k e n = tt
are_from s done (v ∷ left) k e n =
    let size : length (done ++ v ∷ []) ≡ suc k = omega (arith, length-append done (v ∷ []), n) in
    (ap (λ (xs : List (Option Fraction)). unwrap_or (slice_get xs k) None) e ∙ at_place done v left k n, are_from s (done ++ v ∷ []) left (suc k) (e ∙ sym (append_assoc done (v ∷ []) left)) size)

module _ (fits : Fraction → Type 0) (s : State) (ds : List Due) (ready : DuesReady s ds) where
  place_value : (k : ℕ) (v : Option Fraction) → fluent_of s k ≡ v → clash (updates_on k ds) ≡ false → new_value k (written k (map (change_of_due s) ds)) v ≡ Ok (all_updated (updates_on k ds) v)
  place_value k v e c =
      ap (λ (w : Written). new_value k w v) (written_same s k ds) ∙ subst (λ (x : Option Fraction). new_value k (written_of (updates_on k ds) (fluent_of s k)) x ≡ Ok (all_updated (updates_on k ds) x)) e (value_same k (updates_on k ds) (fluent_of s k) c (ready_on s k ds ready))

  fluents_pass : (k : ℕ) (vs : List (Option Fraction)) → AreFrom s k vs → AllPass fits (clash_steps k (by_fluent k ds vs)) → new_values k (map (change_of_due s) ds) vs ≡ Ok (new_fluents (by_fluent k ds vs) vs)
  fluents_pass k [] a h = refl
  fluents_pass k (v ∷ vs) a h =
      let here = if clash (updates_on k ds) then fault (Conflict k) ∷ [] else [] in
      ap₂ value_before (place_value k v a.0 (not_chosen fits (Conflict k) (clash (updates_on k ds)) (pass_left (Passes fits) here _ h))) (fluents_pass (suc k) vs a.1 (pass_right (Passes fits) here _ h))

  place_clash : (k : ℕ) (v : Option Fraction) → clash (updates_on k ds) ≡ true → new_value k (written k (map (change_of_due s) ds)) v ≡ Err (Conflict k)
  place_clash k v c = ap (λ (w : Written). new_value k w v) (written_same s k ds ∙ clash_written (updates_on k ds) (fluent_of s k) c)

  fluents_stop : (k : ℕ) (vs : List (Option Fraction)) (why : Fault) → AreFrom s k vs → FirstStop fits (clash_steps k (by_fluent k ds vs)) (fault why) → new_values k (map (change_of_due s) ds) vs ≡ Err why
  unfolding tested.FirstFailing
  fluents_stop k [] why a h = absurd h
  fluents_stop k (v ∷ vs) why a h =
      let here = if clash (updates_on k ds) then fault (Conflict k) ∷ [] else [] in
      let rest = new_values (suc k) (map (change_of_due s) ds) vs in
      elim (fail_split (Passes fits) here (clash_steps (suc k) (by_fluent (suc k) ds vs)) (fault why) h) [
        | inl p ↦ (let c = chosen_fault fits (Conflict k) why (clash (updates_on k ds)) p in
            ap (λ (r : Result (Option Fraction) Fault). value_before r rest) (place_clash k v c.0) ∙ ap Err (sym c.1))
        | inr q ↦ ap₂ value_before (place_value k v a.0 (not_chosen fits (Conflict k) (clash (updates_on k ds)) q.0)) (fluents_stop (suc k) vs why a.1 q.1)
      ]

-- the joint effect, by its steps
module _ (fits : Fraction → Type 0) (es : List Effect) (s : State) where
  pub joint_passes : AllPass fits (joint_steps es s) → joint es s ≡ Ok (after_dues (dues es s) s)
  unfolding joint joint_steps end_steps
  joint_passes h =
      let a = adds_pass fits s es (pass_left (Passes fits) (add_steps es s) _ h) in
      let clashes = pass_left (Passes fits) (clash_steps 0 (by_fluent 0 (dues es s) s.fluents)) _ (pass_right (Passes fits) (add_steps es s) _ h) in
      ap (λ (r : Result (List Change) Fault). changed r s) a.0 ∙ ap₂ with_atoms (atoms_same 0 s (dues es s) s.atoms) (fluents_pass fits s (dues es s) a.1 0 s.fluents (are_from s [] s.fluents 0 refl refl) clashes)

  pub joint_stops : (why : Fault) → FirstStop fits (joint_steps es s) (fault why) → joint es s ≡ Err why
  unfolding joint joint_steps end_steps
  joint_stops why h =
      elim (fail_split (Passes fits) (add_steps es s) _ (fault why) h) [
        | inl p ↦ ap (λ (r : Result (List Change) Fault). changed r s) (adds_stop fits s es why p)
        | inr q ↦ (let a = adds_pass fits s es q.0 in
            elim (fail_split (Passes fits) (clash_steps 0 (by_fluent 0 (dues es s) s.fluents)) _ (fault why) q.1) [
              | inl c ↦ ap (λ (r : Result (List Change) Fault). changed r s) a.0 ∙ ap (with_atoms (new_atoms 0 (map (change_of_due s) (dues es s)) s.atoms)) (fluents_stop fits s (dues es s) a.1 0 s.fluents why (are_from s [] s.fluents 0 refl refl) c)
              | inr n ↦ absurd (no_fault fits (fluents_nodes (by_fluent 0 (dues es s) s.fluents) s.fluents) why n.1)
            ])
      ]
