-- The table on tokens alone, and where it stops: nothing here knows the table.
use Rattle.std.proofs.Common.{◌≡◌, ℕ, zero, suc, ◌+◌, ◌-◌, ◌<◌, ◌≤◌, Bool, true, false, cond, List, [], ◌∷◌, ◌++◌, length, Option, Some, None, Ok, Err, refl, sym, ap, ◌∙◌, subst, arith, append_assoc}
use Rattle.std.specs.Prelude.{◌&&◌, ◌==◌, map}
use Rattle.std.proofs.lemmas.Bool.{ne_eqb}
use Rattle.plus_tokens.specs.declared.token.Kind.{Kind}
use Rattle.plus_tokens.specs.declared.token.Kind.TheVariants as kinds
use Rattle.plus_tree.specs.declared.faults.TextFault.{TextFault}
use Rattle.plus_tree.specs.declared.faults.TextFault.TheVariants as faults
use Rattle.plus_tokens.specs.Items.{Piece, Item, tok, bad}
use Rattle.plus_parser.specs.Phrases.Reading.{is_open}
use Rattle.plus_parser.specs.Phrases.Spells.{IsOpen, room_step, room_after}
use Rattle.plus_parser.proofs.PhraseLemmas.Tokens.{ok_is, open_kind}
use Rattle.plus_places.specs.declared.symbols.Symbol.{Symbol}
use Rattle.plus_places.specs.Table.{Wanted, step, run_with, run}
use Rattle.plus_places.proofs.Goes.{room_next, Rest, taken, goes}

abbrev pub some : {A : Type 0} → A → Option A
some x = Some x

pub some_is : {A : Type 0} (x y : A) → some x ≡ some y → x ≡ y
some_is x y e = cc

-- ---- tokens alone

-- what is left of the symbols goes on with more tokens
pub run_then : (ts us : List Piece) (st left : List Symbol) → run st ts ≡ Some left → run st (ts ++ us) ≡ run left us
unfolding run
run_then [] us st left e = ap (λ s. run s us) (some_is st left e)
run_then (p ∷ ts) us [] left e = absurd cc
run_then (p ∷ ts) us (s ∷ st) left e = at_wanted (step s p) (λ ks. run_then ts us (ks ++ st) left) e
  where
    at_wanted : (w : Wanted) → ((ks : List Symbol) → run (ks ++ st) ts ≡ Some left → run (ks ++ st) (ts ++ us) ≡ run left us) → run_with w (λ ks. run (ks ++ st) ts) ≡ Some left → run_with w (λ ks. run (ks ++ st) (ts ++ us)) ≡ run left us
    at_wanted None h e = absurd cc
    at_wanted (Some ks) h e = h ks e

-- where tokens are refused, they are with more behind them
pub run_none : (ts us : List Piece) (st : List Symbol) → run st ts ≡ None → run st (ts ++ us) ≡ None
unfolding run
run_none [] us st e = absurd cc
run_none (p ∷ ts) us [] e = refl
run_none (p ∷ ts) us (s ∷ st) e = at_wanted (step s p) (λ ks. run_none ts us (ks ++ st)) e
  where
    at_wanted : (w : Wanted) → ((ks : List Symbol) → run (ks ++ st) ts ≡ None → run (ks ++ st) (ts ++ us) ≡ None) → run_with w (λ ks. run (ks ++ st) ts) ≡ None → run_with w (λ ks. run (ks ++ st) (ts ++ us)) ≡ None
    at_wanted None h e = refl
    at_wanted (Some ks) h e = h ks e

-- symbols below wait
pub run_above : (ts : List Piece) (a b st : List Symbol) → run a ts ≡ Some b → run (a ++ st) ts ≡ Some (b ++ st)
unfolding run
run_above [] a b st e = ap (λ s. Some (s ++ st)) (some_is a b e)
run_above (p ∷ ts) [] b st e = absurd cc
run_above (p ∷ ts) (s ∷ a) b st e = at_wanted (step s p) (λ ks. run_above ts (ks ++ a) b st) e
  where
    at_wanted : (w : Wanted) → ((ks : List Symbol) → run (ks ++ a) ts ≡ Some b → run ((ks ++ a) ++ st) ts ≡ Some (b ++ st)) → run_with w (λ ks. run (ks ++ a) ts) ≡ Some b → run_with w (λ ks. run (ks ++ (a ++ st)) ts) ≡ Some (b ++ st)
    at_wanted None h e = absurd cc
    at_wanted (Some ks) h e = ap (λ s. run s ts) (sym (append_assoc ks a st)) ∙ h ks e

-- where each symbol has tokens that bring it to its end, so have many
module _ (finish : Symbol → List Piece) (ends : (s : Symbol) → run (s ∷ []) (finish s) ≡ Some []) where
  unfoldable pub finish_all : List Symbol → List Piece
  finish_all [] = []
  finish_all (s ∷ st) = finish s ++ finish_all st

  pub all_end : (st : List Symbol) → run st (finish_all st) ≡ Some []
  unfolding finish_all run
  all_end [] = refl
  all_end (s ∷ st) = run_then (finish s) (finish_all st) (s ∷ st) st (run_above (finish s) (s ∷ []) [] st (ends s)) ∙ all_end st

-- ---- with room

step_room : (k : Kind) (room : ℕ) → (is_open k ≡ true → 0 < room) → (f : ℕ → Option ℕ) → room_step k room f ≡ f (room_next k room)
step_room kinds.Open zero h f = let lt : 0 < 0 = h refl in absurd (omega (arith, lt))
step_room kinds.Open (suc room) h f = let same : room ≡ suc room - 1 = omega arith in ap f same
step_room kinds.Close room h f = let same : room + 1 ≡ suc room = omega arith in ap f same
step_room _ room h f = refl

-- an opening parenthesis finds no room, or the token finds what it needs
abbrev pub full : ℕ → Piece → Bool
full room p = is_open p.kind && (room == 0)

not_full : (room : ℕ) (p : Piece) → full room p ≡ false → is_open p.kind ≡ true → 0 < room
not_full zero p e o = let no : true ≡ false = sym o ∙ and_true (is_open p.kind) ∙ e in absurd cc
  where
    and_true : (b : Bool) → b ≡ (b && true)
    and_true true = refl
    and_true false = refl
not_full (suc room) p e o = omega arith

is_full : (room : ℕ) (p : Piece) → full room p ≡ true → IsOpen p × (room ≡ 0)
is_full zero p e = (open_kind p.kind (left (is_open p.kind) e), refl)
  where
    left : (b : Bool) → (b && true) ≡ true → b ≡ true
    left true e = refl
    left false e = cc
is_full (suc room) p e = absurd (no (is_open p.kind) (ne_eqb (suc room) 0 (λ z. omega (arith, z))) e)
  where
    no : (b : Bool) → (suc room == 0) ≡ false → (b && (suc room == 0)) ≡ true → ⊥
    no true f e = let h : true ≡ false = sym e ∙ f in cc
    no false f e = cc

pub fits : (room : ℕ) (p : Piece) → (is_open p.kind ≡ true → 0 < room) → full room p ≡ false
fits room p h = at_open (is_open p.kind) h
  where
    at_open : (b : Bool) → (b ≡ true → 0 < room) → (b && (room == 0)) ≡ false
    at_open true h = ne_eqb room 0 (λ z. let lt : 0 < room = h refl in omega (arith, lt, z))
    at_open false h = refl

-- what follows the tokens at which the table stops, with so much room, and these symbols left
abbrev pub Tail : TextFault → ℕ → List Symbol → List Item → Type 0
Tail (faults.Lex f) room left rest = (more : List Item) × (rest ≡ bad f ∷ more)
Tail (faults.Depth at) room left rest = (p : Piece) × (more : List Item) × (rest ≡ tok p ∷ more) × IsOpen p × (room ≡ 0) × (p.span.start ≡ at)
Tail (faults.Form s) room left rest = (p : Piece) × (more : List Item) × (rest ≡ tok p ∷ more) × (is_open p.kind ≡ true → 0 < room) × (p.span ≡ s) × (run left (p ∷ []) ≡ None)
Tail faults.Unclosed room left rest = (rest ≡ []) × (left ≡ [] → ⊥)
Tail faults.Memory room left rest = ⊥

pub record Stop (room : ℕ) (st : List Symbol) (items : List Item) (e : TextFault) : Type 0 where
  pub before : List Piece
  pub rest : List Item
  pub left : List Symbol
  pub over : ℕ
  pub whole : items ≡ map tok before ++ rest
  pub leaves : room_after room before ≡ Some over
  pub runs : run st before ≡ Some left
  pub tail : Tail e over left rest

abbrev here : (room : ℕ) (s : Symbol) (st : List Symbol) (items : List Item) (e : TextFault) → Tail e room (s ∷ st) items → run (s ∷ st) [] ≡ Some (s ∷ st) → Stop room (s ∷ st) items e
here room s st items e t r = record { before = []; rest = items; left = s ∷ st; over = room; whole = refl; leaves = refl; runs = r; tail = t }

pub err_is : (e d : TextFault) → (let x : Rest = Err e in x) ≡ Err d → e ≡ d
err_is e d h = cc

pub stops : (items : List Item) (room : ℕ) (st : List Symbol) (e : TextFault) → goes room st items ≡ Err e → Stop room st items e
unfolding goes run
stops items room [] e h = absurd cc
stops [] room (s ∷ st) e h = subst (Stop room (s ∷ st) []) (err_is faults.Unclosed e h) (here room s st [] faults.Unclosed (refl, λ n. cc) refl)
stops (bad f ∷ items) room (s ∷ st) e h = subst (Stop room (s ∷ st) (bad f ∷ items)) (err_is (faults.Lex f) e h) (here room s st (bad f ∷ items) (faults.Lex f) (items, refl) refl)
stops (tok p ∷ items) room (s ∷ st) e h = at_test (full room p) refl (step s p) refl (λ ks. stops items (room_next p.kind room) (ks ++ st) e) h
  where
    at_test : (b : Bool) → full room p ≡ b → (w : Wanted) → step s p ≡ w → ((ks : List Symbol) → goes (room_next p.kind room) (ks ++ st) items ≡ Err e → Stop (room_next p.kind room) (ks ++ st) items e)
        → cond {A = Rest} b (Err (faults.Depth p.span.start)) (taken w p (λ ks. goes (room_next p.kind room) (ks ++ st) items)) ≡ Err e → Stop room (s ∷ st) (tok p ∷ items) e
    at_test true b w is again h =
        let f = is_full room p b in
        subst (Stop room (s ∷ st) (tok p ∷ items)) (err_is (faults.Depth p.span.start) e h) (here room s st (tok p ∷ items) (faults.Depth p.span.start) (p, items, refl, f.0, f.1, refl) refl)
    at_test false b None is again h =
        subst (Stop room (s ∷ st) (tok p ∷ items)) (err_is (faults.Form p.span) e h)
        (here room s st (tok p ∷ items) (faults.Form p.span) (p, items, refl, not_full room p b, refl, ap (λ w. run_with w (λ ks. run (ks ++ st) [])) is) refl)
    at_test false b (Some ks) is again h =
        let t = again ks h in
        record {
          before = p ∷ t.before;
          rest = t.rest;
          left = t.left;
          over = t.over;
          whole = ap (λ (is : List Item). tok p ∷ is) t.whole;
          leaves = step_room p.kind room (not_full room p b) (λ r. room_after r t.before) ∙ t.leaves;
          runs = ap (λ w. run_with w (λ ks. run (ks ++ st) t.before)) is ∙ t.runs;
          tail = t.tail;
        }

-- all symbols are met, and some items are left
pub record Done (room : ℕ) (st : List Symbol) (items rest : List Item) : Type 0 where
  pub before : List Piece
  pub whole : items ≡ map tok before ++ rest
  pub runs : run st before ≡ Some []
  pub over : ℕ
  pub leaves : room_after room before ≡ Some over

pub ends : (items : List Item) (room : ℕ) (st : List Symbol) (rest : List Item) → goes room st items ≡ Ok rest → Done room st items rest
unfolding goes run
ends items room [] rest h = record { before = []; whole = ok_is items rest h; runs = refl; over = room; leaves = refl }
ends [] room (s ∷ st) rest h = absurd cc
ends (bad f ∷ items) room (s ∷ st) rest h = absurd cc
ends (tok p ∷ items) room (s ∷ st) rest h = at_test (full room p) refl (step s p) refl (λ ks. ends items (room_next p.kind room) (ks ++ st) rest) h
  where
    at_test : (b : Bool) → full room p ≡ b → (w : Wanted) → step s p ≡ w → ((ks : List Symbol) → goes (room_next p.kind room) (ks ++ st) items ≡ Ok rest → Done (room_next p.kind room) (ks ++ st) items rest)
        → cond {A = Rest} b (Err (faults.Depth p.span.start)) (taken w p (λ ks. goes (room_next p.kind room) (ks ++ st) items)) ≡ Ok rest → Done room (s ∷ st) (tok p ∷ items) rest
    at_test true b w is again h = absurd cc
    at_test false b None is again h = absurd cc
    at_test false b (Some ks) is again h =
        let t = again ks h in
        record {
          before = p ∷ t.before;
          whole = ap (λ (is : List Item). tok p ∷ is) t.whole;
          runs = ap (λ w. run_with w (λ ks. run (ks ++ st) t.before)) is ∙ t.runs;
          over = t.over;
          leaves = step_room p.kind room (not_full room p b) (λ r. room_after r t.before) ∙ t.leaves;
        }

-- a front that is run, and finds room
pub goes_front : (before : List Piece) (room over : ℕ) (st left : List Symbol) (rest : List Item) → run st before ≡ Some left → room_after room before ≡ Some over → goes room st (map tok before ++ rest) ≡ goes over left rest
unfolding goes run
goes_front [] room over st left rest r e = (λ i. goes (some_is room over e i) (some_is st left r i) rest)
goes_front (p ∷ before) room over [] left rest r e = absurd cc
goes_front (p ∷ before) room over (s ∷ st) left rest r e =
    let lt = has_room p.kind room (λ r. room_after r before) e in
    ap (λ c. cond {A = Rest} c (Err (faults.Depth p.span.start)) (taken (step s p) p (λ ks. goes (room_next p.kind room) (ks ++ st) (map tok before ++ rest)))) (fits room p lt)
    ∙ at_wanted (step s p) (λ ks q. goes_front before (room_next p.kind room) over (ks ++ st) left rest q (sym (step_room p.kind room lt (λ r. room_after r before)) ∙ e)) r
  where
    has_room : (k : Kind) (room : ℕ) (f : ℕ → Option ℕ) → room_step k room f ≡ Some over → is_open k ≡ true → 0 < room
    has_room kinds.Open zero f e o = absurd cc
    has_room kinds.Open (suc room) f e o = omega arith
    has_room _ room f e o = absurd cc

    at_wanted : (w : Wanted) → ((ks : List Symbol) → run (ks ++ st) before ≡ Some left → goes (room_next p.kind room) (ks ++ st) (map tok before ++ rest) ≡ goes over left rest)
        → run_with w (λ ks. run (ks ++ st) before) ≡ Some left → taken w p (λ ks. goes (room_next p.kind room) (ks ++ st) (map tok before ++ rest)) ≡ goes over left rest
    at_wanted None h r = absurd cc
    at_wanted (Some ks) h r = h ks r

next_room : (k : Kind) (room n : ℕ) → suc n ≤ room → n ≤ room_next k room
next_room kinds.Open room n le = omega (arith, le)
next_room kinds.Close room n le = omega (arith, le)
next_room _ room n le = omega (arith, le)

-- with room for each token
pub goes_all : (ts : List Piece) (room : ℕ) (st : List Symbol) → length ts ≤ room → run st ts ≡ Some [] → goes room st (map tok ts) ≡ Ok []
unfolding goes run
goes_all [] room [] le r = refl
goes_all [] room (s ∷ st) le r = absurd cc
goes_all (p ∷ ts) room [] le r = absurd cc
goes_all (p ∷ ts) room (s ∷ st) le r =
    ap (λ c. cond {A = Rest} c (Err (faults.Depth p.span.start)) (taken (step s p) p (λ ks. goes (room_next p.kind room) (ks ++ st) (map tok ts)))) (fits room p (λ o. omega (arith, le)))
    ∙ at_wanted (step s p) (λ ks. goes_all ts (room_next p.kind room) (ks ++ st) (next_room p.kind room (length ts) (omega (arith, le)))) r
  where
    at_wanted : (w : Wanted) → ((ks : List Symbol) → run (ks ++ st) ts ≡ Some [] → goes (room_next p.kind room) (ks ++ st) (map tok ts) ≡ Ok [])
        → run_with w (λ ks. run (ks ++ st) ts) ≡ Some [] → taken w p (λ ks. goes (room_next p.kind room) (ks ++ st) (map tok ts)) ≡ Ok []
    at_wanted None h r = absurd cc
    at_wanted (Some ks) h r = h ks r
