-- Where the processes that hold go on at their own rates, they are the running set.
use Rattle.std.proofs.Common.{◌≡◌, ℕ, ◌<◌, ◌+◌, zero, suc, Bool, true, false, not, List, [], ◌∷◌, ◌++◌, length, refl, ap, sym, subst, ◌∙◌, arith, append_assoc}
use Rattle.std.proofs.lemmas.List.{append-nil}
use Rattle.std.specs.Prelude.{Option, Some, None, Result, Ok, Err, OnOk, IsSomeAnd, slice_get, unwrap_or, pos, if◌then◌else◌}
use Rattle.plus_fraction.specs.Fraction.{Fraction, whole}
use Rattle.plus_model.specs.Terms.{Condition, Process, State, Problem}
use Rattle.plus_model.specs.Value.{holds, is_zero}
use Rattle.plus_model.specs.Firing.{numbers_of, is_in}
use Rattle.plus_model.specs.Piece.{rate_of, after}
use Rattle.plus_model.specs.Live.{live}
use Rattle.plus_model.specs.Running.{holding, rates, GoesOn, first_coupled}
use Rattle.plus_model.proofs.Along.{from_zero}
use Rattle.plus_model.proofs.Decide.{rising-numbers, place_of}
use Rattle.plus_model.proofs.Members.{same_exactly, in_first}
use Rattle.plus_state.specs.Asked.{NodeFits, AllFit}
use Rattle.plus_state.specs.Tests.{tests_of}
use Rattle.plus_state.specs.Numbers.{AreMembers}
use Rattle.plus_state.specs.Walk.{process_conditions, all_asked}
use Rattle.plus_state.proofs.Testing.{pass_left, pass_right, fail_left}
use Rattle.plus_reads.specs.Tables.{Covers, ReadAny}
use Rattle.plus_reads.specs.Laws.{StandsStill}
use Rattle.plus_reads.specs.declared.readers.Readers.{Readers}
use Rattle.plus_reads.proofs.Sets.{none_below, not_first, false_unless}
use Rattle.plus_crossing.specs.Rated.{moving_of}
use Rattle.plus_settle.proofs.StillLemmas.Standing.{standing_still}
use Rattle.plus_settle.specs.declared.settling.Running.{Running}
use Rattle.plus_settle.specs.declared.stops.GoStop.{GoStop}
use Rattle.plus_settle.specs.declared.stops.GoStop.TheVariants as go
use Rattle.plus_settle.specs.declared.stops.SettleStop.{SettleStop}
use Rattle.plus_settle.specs.declared.stops.SettleStop.TheVariants.{Unsettled, Coupled, NoValue, Number, Nonlinear, Memory}
use Rattle.plus_settle.specs.Steps.{SettleStep, AllPass, FirstStop, Passes}
use Rattle.plus_settle.specs.Rates.{rates_steps, as_given}
use Rattle.plus_settle.specs.Members.{soon, process_numbers}
use Rattle.plus_settle.specs.Confirms.{soon_steps, differ, confirm_steps, go_steps, first_other, GoStops}
use Rattle.plus_settle.specs.Settles.{condition_nodes, chosen_steps, running_soon, settle_steps, StopIs, ChosenStops, NotSettled, IsRunning, SettleAnswers, of_go}
use Rattle.plus_settle.specs.Among.{OthersConfirmed}
use Rattle.plus_settle.specs.Uncoupled.{Uncoupled}
use Rattle.plus_settle.proofs.MembersLemmas.{all_in}
use Rattle.plus_settle.proofs.SettlesLemmas.{own_pass, coupled_stop, chosen_stop, last_stop, settles}
use Rattle.plus_settle.proofs.StillLemmas.Listed.{mapped as map_at}

-- ---- a process that is collected
pub in_if : (b : Bool) (k : ℕ) (ns : List ℕ) → is_in ns k ≡ false → is_in (if b then k ∷ ns else ns) k ≡ b
in_if true k ns h = in_first k ns
in_if false k ns h = h

pub later_if : (b : Bool) (j k : ℕ) (ns : List ℕ) → (k ≡ j → ⊥) → is_in (if b then j ∷ ns else ns) k ≡ is_in ns k
later_if true j k ns h = not_first k j ns h
later_if false j k ns h = refl

pub collected : {A : Type 0} (test : A → Bool) (j : ℕ) (xs : List A) (i : ℕ) (x : A) → slice_get xs i ≡ Some x → is_in (numbers_of test j xs) (j + i) ≡ test x
collected test j [] i x e = cc
collected test j (y ∷ xs) zero x e =
    let n : j + 0 ≡ j = omega arith in
    let same : y ≡ x = cc in
    subst (λ k. is_in (numbers_of test j (y ∷ xs)) k ≡ test x) (sym n)
    (in_if (test y) j (numbers_of test (suc j) xs) (none_below (suc j) j (numbers_of test (suc j) xs) (rising-numbers test (suc j) xs) (omega arith)) ∙ ap test same)
collected test j (y ∷ xs) (suc i) x e =
    let n : j + suc i ≡ suc j + i = omega arith in
    later_if (test y) j (j + suc i) (numbers_of test (suc j) xs) (λ q. omega arith)
    ∙ ap (is_in (numbers_of test (suc j) xs)) n ∙ collected test (suc j) xs i x e

pub collected_all : {A : Type 0} (test : A → Bool) (xs : List A) (k : ℕ) (x : A) → slice_get xs k ≡ Some x → is_in (numbers_of test 0 xs) k ≡ test x
collected_all test xs k x e = let n : k ≡ 0 + k = omega arith in ap (is_in (numbers_of test 0 xs)) n ∙ collected test 0 xs k x e

-- ---- what stands still
moving_by : (rs : List Fraction) (f : ℕ) (o : Option Fraction) → slice_get rs f ≡ o → is_in (moving_of rs) f ≡ false → unwrap_or o (whole (pos 0)) ≡ whole (pos 0)
moving_by rs f None e n = refl
moving_by rs f (Some r) e n = from_zero r (zero_by (is_zero r) (sym (collected_all (λ (x : Fraction). not (is_zero x)) rs f r e) ∙ n))
  where
    zero_by : (b : Bool) → not b ≡ false → b ≡ true
    zero_by true h = refl
    zero_by false h = cc

-- a fluent that does not move has the rate 0
pub unmoved : (rs : List Fraction) (f : ℕ) → is_in (moving_of rs) f ≡ false → rate_of rs f ≡ whole (pos 0)
unmoved rs f n = moving_by rs f (slice_get rs f) refl n

-- a condition that is no reader of what moves stands still
pub stands_by : (cs : List Condition) (t : Readers) (rs : List Fraction) (listed : List ℕ) → Covers cs t → ReadAny t (moving_of rs) listed → (k : ℕ) (c : Condition) → slice_get cs k ≡ Some c → is_in listed k ≡ false → StandsStill c rs
stands_by cs t rs listed covers r k c e n f i =
    unmoved rs f (false_unless (is_in (moving_of rs) f) (is_in listed k) (λ m. r.all f k m ((covers k c e).by_fluents f i)) n)

pub asked_one : (fits : Fraction → Type 0) (cs : List Condition) (s : State) (k : ℕ) (c : Condition) → slice_get cs k ≡ Some c → AllFit fits (all_asked cs s) → AllFit fits (tests_of c s)
asked_one fits [] s k c e a = cc
asked_one fits (d ∷ cs) s zero c e a = let h : d ≡ c = cc in subst (λ (x : Condition). AllFit fits (tests_of x s)) h (pass_left (NodeFits fits) (tests_of d s) (all_asked cs s) a)
asked_one fits (d ∷ cs) s (suc k) c e a = asked_one fits cs s k c e (pass_right (NodeFits fits) (tests_of d s) (all_asked cs s) a)

soon_is : (p : Process) (s : State) (rs : List Fraction) (b : Bool) → after (live p.condition s) s rs ≡ b → soon p s rs ≡ b
unfolding soon
soon_is p s rs b e = e

-- the processes that are not listed are known to run just after exactly where they hold
pub others_confirmed : (fits : Fraction → Type 0) (P : Problem) (s : State) (t : Readers) (present : List ℕ) (first : List Fraction) (listed : List ℕ) → fits (whole (pos 0)) → AllFit fits (condition_nodes P.processes s) → present ≡ holding P s → Covers (process_conditions P) t → ReadAny t (moving_of first) listed → OthersConfirmed fits P present s first listed
others_confirmed fits P s t present first listed z a h covers r k p e n =
    let c = map_at (λ (q : Process). q.condition) P.processes k p e in
    let still = standing_still fits 0 p.condition s first z (stands_by (process_conditions P) t first listed covers r k p.condition c n) (asked_one fits (process_conditions P) s k p.condition c a) in
    record {
      pass = still.after_asks;
      agrees = soon_is p s first (holds p.condition s) still.after_is ∙ sym (collected_all (λ (q : Process). holds q.condition s) P.processes k p e) ∙ ap (λ (ns : List ℕ). is_in ns k) (sym h);
    }

-- ---- up to the first that differs
pub record HasRest (xs ys : List SettleStep) : Type 0 where
  pub rest : List SettleStep
  pub is : ys ≡ xs ++ rest

rest_by : (b : Bool) (xs ys zs : List SettleStep) → HasRest ys zs → HasRest (xs ++ (if b then [] else ys)) (xs ++ zs)
rest_by true xs ys zs h = record { rest = zs; is = ap (λ (x : List SettleStep). x ++ zs) (sym (append-nil xs)) }
rest_by false xs ys zs h = record { rest = h.rest; is = ap (λ (x : List SettleStep). xs ++ x) h.is ∙ sym (append_assoc xs ys h.rest) }

begins : (members : List ℕ) (k : ℕ) (ps : List Process) (s : State) (rs : List Fraction) → HasRest (confirm_steps members k ps s rs) (chosen_steps k ps s rs)
begins members k [] s rs = record { rest = []; is = refl }
begins members k (p ∷ ps) s rs = rest_by (differ (soon p s rs) (is_in members k)) (soon_steps k p s rs) (confirm_steps members (suc k) ps s rs) (chosen_steps (suc k) ps s rs) (begins members (suc k) ps s rs)

-- where none differs, all are asked
none_by : (b : Bool) (k : ℕ) (o : Option ℕ) (xs ys zs : List SettleStep) → None ≡ (if b then Some k else o) → (None ≡ o → ys ≡ zs) → xs ++ (if b then [] else ys) ≡ xs ++ zs
none_by true k o xs ys zs e f = cc
none_by false k o xs ys zs e f = ap (λ (x : List SettleStep). xs ++ x) (f e)

all_asked_of : (members : List ℕ) (k : ℕ) (ps : List Process) (s : State) (rs : List Fraction) → None ≡ first_other members k ps s rs → confirm_steps members k ps s rs ≡ chosen_steps k ps s rs
all_asked_of members k [] s rs e = refl
all_asked_of members k (p ∷ ps) s rs e =
    none_by (differ (soon p s rs) (is_in members k)) k (first_other members (suc k) ps s rs) (soon_steps k p s rs) (confirm_steps members (suc k) ps s rs) (chosen_steps (suc k) ps s rs) e
    (all_asked_of members (suc k) ps s rs)

-- and each agrees
same_by : (x y : Bool) (k : ℕ) (o : Option ℕ) → None ≡ (if differ x y then Some k else o) → x ≡ y
same_by true true k o e = refl
same_by true false k o e = cc
same_by false true k o e = cc
same_by false false k o e = refl

later_by : (b : Bool) (k : ℕ) (o : Option ℕ) → None ≡ (if b then Some k else o) → None ≡ o
later_by true k o e = cc
later_by false k o e = e

agree_at : (members : List ℕ) (k : ℕ) (ps : List Process) (s : State) (rs : List Fraction) (i : ℕ) (p : Process) → None ≡ first_other members k ps s rs → slice_get ps i ≡ Some p → soon p s rs ≡ is_in members (k + i)
agree_at members k [] s rs i p e g = cc
agree_at members k (q ∷ ps) s rs zero p e g =
    let n : k ≡ k + 0 = omega arith in
    let h : p ≡ q = cc in
    ap (λ (x : Process). soon x s rs) h ∙ same_by (soon q s rs) (is_in members k) k (first_other members (suc k) ps s rs) e ∙ ap (is_in members) n
agree_at members k (q ∷ ps) s rs (suc i) p e g =
    let n : suc k + i ≡ k + suc i = omega arith in
    agree_at members (suc k) ps s rs i p (later_by (differ (soon q s rs) (is_in members k)) k (first_other members (suc k) ps s rs) e) g ∙ ap (is_in members) n

module _ (P : Problem) (s : State) (rs : List Fraction) (members : List ℕ) (a : AreMembers (length P.processes) members) (e : None ≡ first_other members 0 P.processes s rs) where
  agrees : (k : ℕ) (p : Process) → slice_get P.processes k ≡ Some p → soon p s rs ≡ is_in members k
  agrees k p g = let n : 0 + k ≡ k = omega arith in agree_at members 0 P.processes s rs k p e g ∙ ap (is_in members) n

  there : {A : Type 0} (xs : List A) (k : ℕ) → k < length xs → (x : A) × (slice_get xs k ≡ Some x)
  there [] k h = absurd (omega arith)
  there (x ∷ xs) zero h = (x, refl)
  there (x ∷ xs) (suc k) h = there xs k (omega arith)

  to_soon : (k : ℕ) → is_in members k ≡ true → is_in (numbers_of (λ (p : Process). soon p s rs) 0 P.processes) k ≡ true
  to_soon k m =
      let w = there P.processes k (all_in (length P.processes) members k a.inside m) in
      collected_all (λ (p : Process). soon p s rs) P.processes k w.0 w.1 ∙ agrees k w.0 w.1 ∙ m

  passes_by : (k : ℕ) (o : Option Process) → slice_get P.processes k ≡ o → IsSomeAnd o (λ p. soon p s rs ≡ true) → is_in members k ≡ true
  passes_by k None g h = absurd h
  passes_by k (Some p) g h = sym (agrees k p g) ∙ h

  from_soon : (k : ℕ) → is_in (numbers_of (λ (p : Process). soon p s rs) 0 P.processes) k ≡ true → is_in members k ≡ true
  from_soon k h =
      let q = place_of (λ (p : Process). soon p s rs) 0 P.processes k h in
      let d : q.place ≡ k = (let w = q.sum in omega arith) in
      subst (λ j. is_in members j ≡ true) d (passes_by q.place (slice_get P.processes q.place) refl q.passes)

  pub are_soon : members ≡ running_soon P s rs
  unfolding running_soon
  are_soon =
      same_exactly (λ k. is_in members k ≡ true) members (numbers_of (λ (p : Process). soon p s rs) 0 P.processes)
      (record { rising = a.rising; members = λ k. ((λ h. h), (λ h. h)) })
      (record { rising = rising-numbers (λ (p : Process). soon p s rs) 0 P.processes; members = λ k. (from_soon k, to_soon k) })

module _ {Q : Type 0} (v : Q → Fraction) (fits : Fraction → Type 0) (P : Problem) (s : State) (present : List ℕ) (first : List Fraction) (a : AllFit fits (condition_nodes P.processes s)) (k : present ≡ holding P s) (b : AllPass fits (rates_steps P s present)) (r : rates P s present ≡ Ok first) where
  -- the first test that fails is one of those that tell which processes run just after
  go_longer : (m : SettleStep) → FirstStop fits (go_steps P present s first) m → FirstStop fits (chosen_steps 0 P.processes s first) m
  unfolding go_steps
  go_longer m h = let w = begins present 0 P.processes s first in subst (λ (ns : List SettleStep). FirstStop fits ns m) (sym w.is) (fail_left (Passes fits) _ _ m h)

  go_chosen : (e : GoStop Q) → GoStops v fits (go_steps P present s first) e → ChosenStops v fits (chosen_steps 0 P.processes s first) (of_go e)
  go_chosen (go.Number o) h = go_longer _ h
  go_chosen (go.Nonlinear p c) h = go_longer _ h

  pub short_stop : (e : GoStop Q) → GoStops v fits (go_steps P present s first) e → StopIs v fits (settle_steps P s) (of_go e) × NotSettled P s (of_go e)
  short_stop e h = chosen_stop v fits P s present first a k b r (of_go e) (go_chosen e h)

  -- they go on
  module _ (n : AreMembers (length P.processes) present) (w : AllPass fits (go_steps P present s first)) (e : None ≡ first_other present 0 P.processes s first) (g : GoesOn P s first present) where
    all_chosen : AllPass fits (chosen_steps 0 P.processes s first)
    unfolding go_steps
    all_chosen = subst (AllPass fits) (all_asked_of present 0 P.processes s first e) w

    soon_on : GoesOn P s first (running_soon P s first)
    soon_on = subst (GoesOn P s first) (are_soon P s first present n e) g

    -- where none of them reads a moving fluent, they are the running set
    pub short_way : first_coupled P present first ≡ None → AllPass fits (settle_steps P s) × IsRunning P s present first
    short_way u = settles v fits P s present first a k b r present all_chosen (are_soon P s first present n e) soon_on first b r (own_pass v fits P s present first w e (sym u)) g u

    -- where one does, that is the stop
    pub short_end : (stop : SettleStop Q) → Uncoupled P present first (Err stop) → StopIs v fits (settle_steps P s) stop × NotSettled P s stop
    short_end (Unsettled p) u = absurd u
    short_end (Coupled p f) u =
        last_stop v fits P s present first a k b r present all_chosen (are_soon P s first present n e) soon_on first b r (Coupled p f) (coupled_stop v fits P s present first p.0 f.0 w e (sym u)) (g, u)
    short_end (NoValue f) u = absurd u
    short_end (Number o) u = absurd u
    short_end (Nonlinear p c) u = absurd u
    short_end Memory u = (tt, tt)

    -- both, where the set with these members and rates is in its place
    pub short_told : (x : Running Q) → process_numbers x.members.items ≡ present → x.rates ≡ first → (result : Result (Unit {0}) (SettleStop Q)) → Uncoupled P present first result → SettleAnswers v fits P s (as_given x result)
    short_told x m c (Ok u) h =
        let done = short_way h in
        (done.0, subst (λ (ms : List ℕ). IsRunning P s ms x.rates) (sym m) (subst (IsRunning P s present) (sym c) done.1))
    short_told x m c (Err stop) h = short_end stop h

-- what holds in any case
pub on_ok : {A H T : Type 0} (result : Result A H) → T → OnOk result T
on_ok (Ok u) h = h
on_ok (Err e) h = tt
