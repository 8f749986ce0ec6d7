-- What comes next, where it is of one kind: what reading makes of it.
use Rattle.std.proofs.Common.{◌≡◌, ℕ, ◌<◌, Bool, true, false, cond, List, [], ◌∷◌, ◌++◌, length, Option, Some, Result, Ok, Err, refl, sym, ap, ◌∙◌, arith, subst}
use Rattle.std.specs.Prelude.{MatchResult}
use Rattle.std.proofs.lemmas.Bool.{false≢true}
use Rattle.plus_tokens.specs.declared.token.Kind.{Kind}
use Rattle.plus_tokens.specs.declared.token.Kind.TheVariants as kinds
use Rattle.plus_tokens.specs.Ahead.{is_name, is_open, is_close, is_colon}
use Rattle.plus_tokens.specs.declared.span.Span.{Span}
use Rattle.plus_plan.specs.declared.forms.Time.{Time}
use Rattle.plus_plan.specs.declared.forms.Line.{Line}
use Rattle.plus_plan.specs.declared.forms.Line.TheVariants as lines
use Rattle.plus_plan.specs.declared.reader.Refusal.{Refusal}
use Rattle.plus_plan.specs.declared.reader.Refusal.TheVariants as refusals
use Rattle.plus_tokens.specs.Coming.{comes, without, word_ahead, is_done}
use Rattle.plus_plan.specs.Ahead.{refusal_ahead}
use Rattle.plus_tokens.specs.Items.{Piece, Item, tok, bad}
use Rattle.plus_plan.specs.Reading.{◌>>=◌, Read, Fails, Gives, next_of}
use Rattle.plus_plan.specs.Grammar.{colon_of, as_colon, name_of, as_name, args_of, args_with, end_of, duration_of, duration_with, brackets_of, time_of, act_of, timed_with, last_with, last_of, entry_of, timed_from, timed_line, step_of, untimed_with, untimed_line, next_or_none}
use Rattle.plus_plan.proofs.Names.{with_front, one_more, at_close}

yes : {A : Type 0} {b : Bool} (x y : A) → b ≡ true → cond b x y ≡ x
yes x y e = ap (λ (t : Bool). cond t x y) e

no : {A : Type 0} {b : Bool} (x y : A) → b ≡ false → cond b x y ≡ y
no x y e = ap (λ (t : Bool). cond t x y) e

-- ---- what reading makes of it

fails_so : {Y : Type 0} (e : Refusal) (read : Result Y Refusal) → read ≡ Err e → Fails e read
fails_so (refusals.At s) read h = h
fails_so refusals.AtEnd read h = h
fails_so refusals.Memory read h = tt

open_kind : (k : Kind) → is_open k ≡ true → k ≡ kinds.Open
open_kind kinds.Open e = refl
open_kind _ e = absurd cc

close_kind : (k : Kind) → is_close k ≡ true → k ≡ kinds.Close
close_kind kinds.Close e = refl
close_kind _ e = absurd cc

name_kind : (k : Kind) → is_name k ≡ true → k ≡ kinds.Name
name_kind kinds.Name e = refl
name_kind _ e = absurd cc

colon_kind : (k : Kind) → is_colon k ≡ true → k ≡ kinds.Colon
colon_kind kinds.Colon e = refl
colon_kind _ e = absurd cc

-- the token that comes, and those behind it
comes_as : (q : Kind → Bool) (items : List Item) → comes q items ≡ true → (p : Piece) × (next_of items ≡ Ok (p, without q items)) × (q p.kind ≡ true) × (word_ahead items ≡ p.word)
comes_as q [] e = absurd (false≢true e)
comes_as q (bad f ∷ rest) e = absurd (false≢true e)
comes_as q (tok p ∷ rest) e = (p, ap (λ (is : List Item). Ok (p, is)) (sym (yes _ _ e)), e, refl)

-- a colon
colon_read : (items : List Item) → comes is_colon items ≡ true → colon_of items ≡ Ok (tt, without is_colon items)
unfolding colon_of
colon_read items e =
    let c = comes_as is_colon items e in
    ap (λ (r : Read Piece). r >>= λ p. as_colon p.0.span p.1 p.0.kind) c.1 ∙ ap (as_colon c.0.span (without is_colon items)) (colon_kind c.0.kind c.2)

colon_no : (p : Piece) (rest : List Item) (k : Kind) → is_colon k ≡ false → as_colon p.span rest k ≡ Err (refusals.At p.span)
colon_no p rest kinds.Colon e = absurd cc
colon_no p rest _ e = refl

colon_refused : (items : List Item) → comes is_colon items ≡ false → colon_of items ≡ Err (refusal_ahead items)
unfolding colon_of
colon_refused [] e = refl
colon_refused (bad f ∷ rest) e = refl
colon_refused (tok p ∷ rest) e = colon_no p rest p.kind e

-- a name
name_read : (items : List Item) → comes is_name items ≡ true → name_of items ≡ Ok (word_ahead items, without is_name items)
unfolding name_of
name_read items e =
    let c = comes_as is_name items e in
    ap (λ (r : Read Piece). r >>= λ p. as_name p.0 p.1 p.0.kind) c.1 ∙ ap (as_name c.0 (without is_name items)) (name_kind c.0.kind c.2) ∙ ap (λ (w : List ℕ). Ok (w, without is_name items)) (sym c.3)

name_no : (p : Piece) (rest : List Item) (k : Kind) → is_name k ≡ false → as_name p rest k ≡ Err (refusals.At p.span)
name_no p rest kinds.Name e = absurd cc
name_no p rest _ e = refl

name_refused : (items : List Item) → comes is_name items ≡ false → name_of items ≡ Err (refusal_ahead items)
unfolding name_of
name_refused [] e = refl
name_refused (bad f ∷ rest) e = refl
name_refused (tok p ∷ rest) e = name_no p rest p.kind e

-- names up to a parenthesis
pub args_name : (front : List (List ℕ)) (items : List Item) (total : Read (List (List ℕ))) → with_front front (args_of items) ≡ total → comes is_name items ≡ true → with_front (front ++ word_ahead items ∷ []) (args_of (without is_name items)) ≡ total
args_name front items total h e =
    let c = comes_as is_name items e in
    ap (λ (w : List ℕ). with_front (front ++ w ∷ []) (args_of (without is_name items))) c.3
    ∙ one_more front items (without is_name items) c.0 total h c.1 (name_kind c.0.kind c.2)

args_close : (front : List (List ℕ)) (items : List Item) (total : Read (List (List ℕ))) → with_front front (args_of items) ≡ total → comes is_close items ≡ true → total ≡ Ok (front, without is_close items)
args_close front items total h e =
    let c = comes_as is_close items e in
    at_close front items (without is_close items) c.0 total h c.1 (close_kind c.0.kind c.2)

args_no : (p : Piece) (rest : List Item) (more : Read (List (List ℕ))) (k : Kind) → is_name k ≡ false → is_close k ≡ false → args_with p rest more k ≡ Err (refusals.At p.span)
args_no p rest more kinds.Name name close = absurd cc
args_no p rest more kinds.Close name close = absurd cc
args_no p rest more _ name close = refl

args_stop : (items : List Item) → comes is_name items ≡ false → comes is_close items ≡ false → args_of items ≡ Err (refusal_ahead items)
unfolding args_of
args_stop [] name close = refl
args_stop (bad f ∷ rest) name close = refl
args_stop (tok p ∷ rest) name close = args_no p rest (args_of rest) p.kind name close

args_refused : (front : List (List ℕ)) (items : List Item) (total : Read (List (List ℕ))) → with_front front (args_of items) ≡ total → comes is_name items ≡ false → comes is_close items ≡ false → total ≡ Err (refusal_ahead items)
args_refused front items total h name close = sym h ∙ ap (with_front front) (args_stop items name close)

-- the end of the line
end_read : (items : List Item) → is_done items ≡ true → end_of items ≡ Ok (tt, items)
unfolding end_of
end_read [] e = refl
end_read (bad f ∷ rest) e = absurd cc
end_read (tok p ∷ rest) e = absurd cc

end_refused : (items : List Item) → is_done items ≡ false → end_of items ≡ Err (refusal_ahead items)
unfolding end_of
end_refused [] e = absurd cc
end_refused (bad f ∷ rest) e = refl
end_refused (tok p ∷ rest) e = refl

duration_none : (items : List Item) → is_done items ≡ true → duration_of items ≡ Ok (tt, items)
unfolding duration_of
duration_none [] e = refl
duration_none (bad f ∷ rest) e = absurd cc
duration_none (tok p ∷ rest) e = absurd cc

duration_next : (items : List Item) → is_done items ≡ false → duration_of items ≡ (next_of items >>= λ p. duration_with p.0.span p.1 p.0.kind)
unfolding duration_of
duration_next [] e = absurd cc
duration_next (bad f ∷ rest) e = refl
duration_next (tok p ∷ rest) e = refl

-- ---- the line

entry_act : (n : ℕ) (t : Time) (items : List Item) → comes is_open items ≡ true → entry_of n t items ≡ act_of n t (without is_open items)
entry_act n t items e =
    let c = comes_as is_open items e in
    ap (λ (r : Read Piece). r >>= λ f. timed_with n t f.0.span f.1 f.0.kind) c.1 ∙ ap (timed_with n t c.0.span (without is_open items)) (open_kind c.0.kind c.2)

last_not : (n : ℕ) (t : Time) (s : Span) (rest : List Item) (k : Kind) → is_open k ≡ false → timed_with n t s rest k ≡ last_with n t s rest k
last_not n t s rest kinds.Open e = absurd cc
last_not n t s rest kinds.End e = refl
last_not n t s rest _ e = refl

entry_last : (n : ℕ) (t : Time) (items : List Item) → comes is_open items ≡ false → entry_of n t items ≡ last_of n t items
entry_last n t [] e = refl
entry_last n t (bad f ∷ rest) e = refl
entry_last n t (tok p ∷ rest) e = last_not n t p.span rest p.kind e

untimed_step : (n : ℕ) (items : List Item) → comes is_open items ≡ true → untimed_line n items ≡ step_of n (without is_open items)
unfolding untimed_line
untimed_step n [] e = absurd (false≢true e)
untimed_step n (bad f ∷ rest) e = absurd (false≢true e)
untimed_step n (tok p ∷ rest) e = ap (untimed_with n p.span rest) (open_kind p.kind e) ∙ ap (step_of n) (sym (yes _ _ e))

untimed_no : (n : ℕ) (s : Span) (rest : List Item) (k : Kind) → is_open k ≡ false → untimed_with n s rest k ≡ Err (refusals.At s)
untimed_no n s rest kinds.Open e = absurd cc
untimed_no n s rest _ e = refl

untimed_blank : (n : ℕ) (items : List Item) → is_done items ≡ true → untimed_line n items ≡ Ok lines.Blank
unfolding untimed_line
untimed_blank n [] e = refl
untimed_blank n (bad f ∷ rest) e = absurd cc
untimed_blank n (tok p ∷ rest) e = absurd cc

untimed_refused : (n : ℕ) (items : List Item) → comes is_open items ≡ false → is_done items ≡ false → untimed_line n items ≡ Err (refusal_ahead items)
unfolding untimed_line
untimed_refused n [] e done = absurd cc
untimed_refused n (bad f ∷ rest) e done = refl
untimed_refused n (tok p ∷ rest) e done = untimed_no n p.span rest p.kind e

-- ---- the same, as the code tells it

-- nothing was read
kept : (q : Kind → Bool) (items : List Item) → comes q items ≡ false → without q items ≡ items
kept q [] e = refl
kept q (bad f ∷ rest) e = refl
kept q (tok p ∷ rest) e = no _ _ e

stays : (q : Kind → Bool) (items new : List Item) → comes q items ≡ false → new ≡ without q items → new ≡ items
stays q items new e is = is ∙ kept q items e

-- a refusal at what comes next
pub stopped : {Y : Type 0} (items new : List Item) (r : Refusal) (read : Result Y Refusal) → new ≡ items → r ≡ refusal_ahead new → read ≡ Err (refusal_ahead items) → Fails r read
stopped {Y} items new r read same is e =
    let refused : Refusal → Result Y Refusal = λ f. Err f in
    fails_so r read (e ∙ ap refused (ap refusal_ahead (sym same) ∙ sym is))

gives_by : {X Y : Type 0} (view : X → Y) (rest : List Item) (r : Result X Refusal) (a b : Read Y) → a ≡ b → Gives view rest r b → Gives view rest r a
gives_by view rest r a b e h = subst (Gives view rest r) (sym e) h

pub line_by : (r : Result (Unit {0}) Refusal) (l : Line) (a b : Result Line Refusal) → a ≡ b → MatchResult r (λ _. b ≡ Ok l) (λ e. Fails e b) → MatchResult r (λ _. a ≡ Ok l) (λ e. Fails e a)
line_by r l a b e h = subst (λ (x : Result Line Refusal). MatchResult r (λ _. x ≡ Ok l) (λ e. Fails e x)) (sym e) h

pub colon_told : (items new : List Item) → true ≡ comes is_colon items → new ≡ without is_colon items → colon_of items ≡ Ok (tt, new)
colon_told items new e is = colon_read items (sym e) ∙ ap (λ (rest : List Item). Ok (tt, rest)) (sym is)

pub colon_stopped : (items new : List Item) (r : Refusal) → false ≡ comes is_colon items → new ≡ without is_colon items → r ≡ refusal_ahead new → Fails r (colon_of items)
colon_stopped items new r e is why = stopped items new r (colon_of items) (stays is_colon items new (sym e) is) why (colon_refused items (sym e))

pub name_told : (items new : List Item) (w : List ℕ) → comes is_name items ≡ true → w ≡ word_ahead items → new ≡ without is_name items → name_of items ≡ Ok (w, new)
name_told items new w e word is = name_read items e ∙ ap (λ (w : List ℕ). Ok (w, without is_name items)) (sym word) ∙ ap (λ (rest : List Item). Ok (w, rest)) (sym is)

pub name_stopped : (items new : List Item) (r : Refusal) → comes is_name items ≡ false → new ≡ without is_name items → r ≡ refusal_ahead new → Fails r (name_of items)
name_stopped items new r e is why = stopped items new r (name_of items) (stays is_name items new e is) why (name_refused items e)

pub args_told : (front : List (List ℕ)) (items mid new : List Item) (total : Read (List (List ℕ))) → with_front front (args_of items) ≡ total → comes is_name items ≡ false → mid ≡ without is_name items → true ≡ comes is_close mid → new ≡ without is_close mid → total ≡ Ok (front, new)
args_told front items mid new total h e is closes leaves =
    let same = stays is_name items mid e is in
    args_close front items total h (ap (comes is_close) (sym same) ∙ sym closes) ∙ ap (λ (rest : List Item). Ok (front, rest)) (ap (without is_close) (sym same) ∙ sym leaves)

pub args_stopped : (front : List (List ℕ)) (items mid new : List Item) (r : Refusal) (total : Read (List (List ℕ))) → with_front front (args_of items) ≡ total → comes is_name items ≡ false → mid ≡ without is_name items → false ≡ comes is_close mid → new ≡ without is_close mid → r ≡ refusal_ahead new → Fails r total
args_stopped front items mid new r total h e is closes leaves why =
    let same = stays is_name items mid e is in
    stopped items new r total (stays is_close mid new (sym closes) leaves ∙ same) why (args_refused front items total h e (ap (comes is_close) (sym same) ∙ sym closes))

pub end_told : (items : List Item) → true ≡ is_done items → end_of items ≡ Ok (tt, items)
end_told items e = end_read items (sym e)

pub end_stopped : (items : List Item) (r : Refusal) → false ≡ is_done items → r ≡ refusal_ahead items → Fails r (end_of items)
end_stopped items r e why = stopped items items r (end_of items) refl why (end_refused items (sym e))

pub duration_told : (items : List Item) → true ≡ is_done items → duration_of items ≡ Ok (tt, items)
duration_told items e = duration_none items (sym e)

pub duration_behind : {X : Type 0} (view : X → Unit {0}) (items rest : List Item) (r : Result X Refusal) → false ≡ is_done items → Gives view rest r (brackets_of items) → Gives view rest r (duration_of items)
duration_behind view items rest r e h = gives_by view rest r (duration_of items) (brackets_of items) (duration_next items (sym e)) h

pub entry_told : (n : ℕ) (t : Time) (items new : List Item) → true ≡ comes is_open items → new ≡ without is_open items → entry_of n t items ≡ act_of n t new
entry_told n t items new e is = entry_act n t items (sym e) ∙ ap (act_of n t) (sym is)

pub entry_behind : (n : ℕ) (t : Time) (items new : List Item) → false ≡ comes is_open items → new ≡ without is_open items → entry_of n t items ≡ last_of n t new
entry_behind n t items new e is = entry_last n t items (sym e) ∙ ap (last_of n t) (sym (stays is_open items new (sym e) is))

pub step_told : (n : ℕ) (items new : List Item) → true ≡ comes is_open items → new ≡ without is_open items → untimed_line n items ≡ step_of n new
step_told n items new e is = untimed_step n items (sym e) ∙ ap (step_of n) (sym is)

pub blank_told : (n : ℕ) (items new : List Item) → false ≡ comes is_open items → new ≡ without is_open items → true ≡ is_done new → untimed_line n items ≡ Ok lines.Blank
blank_told n items new e is done = untimed_blank n items (ap is_done (sym (stays is_open items new (sym e) is)) ∙ sym done)

pub untimed_stopped : (n : ℕ) (items new : List Item) (r : Refusal) → false ≡ comes is_open items → new ≡ without is_open items → false ≡ is_done new → r ≡ refusal_ahead new → Fails r (untimed_line n items)
untimed_stopped n items new r e is done why =
    let same = stays is_open items new (sym e) is in
    stopped items new r (untimed_line n items) same why (untimed_refused n items (sym e) (ap is_done (sym same) ∙ sym done))
