-- The place of a refusal, form by form.
use Rattle.std.proofs.Common.{◌≡◌, ℕ, ◌≤◌, ◌^◌, Bool, true, false, cond, not, List, [], ◌∷◌, ◌++◌, length, map, Option, Some, None, Result, Ok, Err, refl, sym, ap, ◌∙◌, subst, inl, inr, ⊎_elim, arith}
use Rattle.std.specs.Prelude.{◌⊎◌, ◌&&◌, ◌==◌, nat_lt}
use Rattle.std.proofs.lemmas.Bool.{ltb-false, ltb-true}
use Rattle.plus_tokens.specs.declared.token.Kind.{Kind}
use Rattle.plus_tokens.specs.declared.token.Kind.TheVariants as kinds
use Rattle.plus_tokens.specs.declared.token.Op.TheVariants as ops
use Rattle.plus_tokens.specs.declared.span.Span.{Span}
use Rattle.plus_tree.specs.declared.trees.Call.{Call}
use Rattle.plus_plan.specs.declared.forms.Time.{Time}
use Rattle.plus_plan.specs.declared.forms.Line.{Line}
use Rattle.plus_plan.specs.declared.forms.Line.TheVariants as lines
use Rattle.plus_plan.specs.declared.forms.PlanForm.{PlanForm}
use Rattle.plus_plan.specs.declared.forms.PlanForm.TheVariants.{Timed, Untimed}
use Rattle.plus_plan.specs.declared.faults.PlanFault.{PlanFault}
use Rattle.plus_plan.specs.declared.faults.PlanFault.TheVariants as faults
use Rattle.plus_plan.specs.declared.reader.Refusal.{Refusal}
use Rattle.plus_plan.specs.declared.reader.Refusal.TheVariants as refusals
use Rattle.plus_tokens.specs.Items.{Piece, Item, tok, bad, items_of}
use Rattle.plus_tokens.specs.declared.numeral.Numeral.{Numeral}
use Rattle.plus_tokens.specs.Numeral.{piece_numeral, numeral_of}
use Rattle.plus_plan.specs.Reading.{◌>>=◌, Read, byte_place, next_of}
use Rattle.plus_plan.specs.Grammar.{around, time, as_colon, colon_of, as_divisor, divisor_of, quotient_of, time_with, time_rest, time_behind, time_of, as_name, name_of, with_name, args_with, args_of, call_of, end_of, as_number, number_of, as_close_square, close_square_of, duration_with, duration_of, timed_with, timed_from, timed_line, untimed_with, untimed_line, line_of}
use Rattle.plus_plan.specs.Spells.{SpellsTokens, line_limit}
use Rattle.plus_plan.specs.Lines.{placed, read_line}
use Rattle.plus_plan.specs.Place.{Begins, IsPlace, IsFault}
use Rattle.plus_plan.specs.Answers.{RefusedAs}
use Rattle.plus_plan.proofs.Found.{toks, toks-append, toks-all, TookArgs, args_ok, line_ok}
use Rattle.plus_plan.proofs.Again.{args_again, line_again}
use Rattle.plus_plan.proofs.Stops.{Cause, Stopped, Taken, Fresh, Reads, Ends, Refuses, pure, bind, bind_end, token, token_end, maybe_end, map_end, err_same}

-- a token of this kind, whose word is a number
abbrev sample : Kind → Piece
sample k = record { kind = k; word = 49 ∷ []; span = record { start = 0; «end» = 0 } }

-- ---- the time

colon_each : (p : Piece) (k : Kind) → Reads (λ (r : List Item). as_colon p.span r k) ⊎ Refuses p (λ (r : List Item). as_colon p.span r k)
colon_each p kinds.Colon = inl (pure tt)
colon_each p _ = inr (λ later. refl)

colon_reads : Reads colon_of
unfolding colon_of
colon_reads = token (λ (p : Piece) (r : List Item). as_colon p.span r p.kind) (sample kinds.Colon) (pure tt) (λ p. colon_each p p.kind)

divisor_each : (p : Piece) (o : Option Numeral) → Reads (λ (r : List Item). as_divisor p.span r o) ⊎ Refuses p (λ (r : List Item). as_divisor p.span r o)
divisor_each p None = inr (λ later. refl)
divisor_each p (Some n) = at_test ((not n.negative && (n.places == 0)) && nat_lt 0 n.digits)
  where
    at_test : (b : Bool) → Reads (λ (r : List Item). cond {A = Read (ℕ × Span)} b (Ok ((n.digits, p.span), r)) (Err (refusals.At p.span))) ⊎ Refuses p (λ (r : List Item). cond {A = Read (ℕ × Span)} b (Ok ((n.digits, p.span), r)) (Err (refusals.At p.span)))
    at_test true = inl (pure (n.digits, p.span))
    at_test false = inr (λ later. refl)

divisor_reads : Reads divisor_of
unfolding divisor_of numeral_of
divisor_reads = token (λ (p : Piece) (r : List Item). as_divisor p.span r (piece_numeral p)) (sample kinds.Number) (pure (1, record { start = 0; «end» = 0 })) (λ p. divisor_each p (piece_numeral p))

quotient_reads : (d : ℕ) (front : Span) → Reads (quotient_of d front)
unfolding quotient_of
quotient_reads d front =
    bind divisor_of (λ (q : ℕ × Span) (r : List Item). colon_of r >>= λ c. Ok (time d q.0 (around front q.1), c.1)) divisor_reads (λ q.
    bind colon_of (λ (c : Unit {0}) (r : List Item). Ok (time d q.0 (around front q.1), r)) colon_reads (λ c. pure (time d q.0 (around front q.1))))

time_with_each : (d k : ℕ) (front : Span) (p : Piece) (kind : Kind) → Reads (λ (r : List Item). time_with d k front p.span r kind) ⊎ Refuses p (λ (r : List Item). time_with d k front p.span r kind)
time_with_each d k front p kinds.Colon = inl (pure (time d (10 ^ k) front))
time_with_each d k front p (kinds.Op ops.Divide) = at_test (k == 0)
  where
    at_test : (b : Bool) → Reads (λ (r : List Item). cond {A = Read Time} b (quotient_of d front r) (Err (refusals.At p.span))) ⊎ Refuses p (λ (r : List Item). cond {A = Read Time} b (quotient_of d front r) (Err (refusals.At p.span)))
    at_test true = inl (quotient_reads d front)
    at_test false = inr (λ later. refl)
time_with_each d k front p _ = inr (λ later. refl)

time_rest_reads : (p : Piece) (d k : ℕ) → Reads (time_rest d k p.span)
time_rest_reads p d k =
    token (λ (q : Piece) (r : List Item). time_with d k p.span q.span r q.kind) (sample kinds.Colon) (pure (time d (10 ^ k) p.span)) (λ q. time_with_each d k p.span q q.kind)

time_behind_each : (p : Piece) (o : Option Numeral) → Reads (λ (r : List Item). time_behind p.span r o) ⊎ Refuses p (λ (r : List Item). time_behind p.span r o)
time_behind_each p None = inr (λ later. refl)
time_behind_each p (Some n) = at_sign n.negative
  where
    at_sign : (b : Bool) → Reads (λ (r : List Item). cond {A = Read Time} b (Err (refusals.At p.span)) (time_rest n.digits n.places p.span r)) ⊎ Refuses p (λ (r : List Item). cond {A = Read Time} b (Err (refusals.At p.span)) (time_rest n.digits n.places p.span r))
    at_sign true = inr (λ later. refl)
    at_sign false = inl (time_rest_reads p n.digits n.places)

time_each : (p : Piece) → Reads (time_of p) ⊎ Refuses p (time_of p)
unfolding time_of
time_each p = time_behind_each p (piece_numeral p)

-- ---- the call

name_each : (p : Piece) (k : Kind) → Reads (λ (r : List Item). as_name p r k) ⊎ Refuses p (λ (r : List Item). as_name p r k)
name_each p kinds.Name = inl (pure p.word)
name_each p _ = inr (λ later. refl)

name_reads : Reads name_of
unfolding name_of
name_reads = token (λ (p : Piece) (r : List Item). as_name p r p.kind) (sample kinds.Name) (pure (49 ∷ [])) (λ p. name_each p p.kind)

args_fresh : Fresh args_of
unfolding args_of
args_fresh = record { pieces = sample kinds.Close ∷ []; value = []; reads = λ later. refl }

args_taken : (items : List Item) (ws : List (List ℕ)) (rest : List Item) → TookArgs ws items rest → Taken args_of items ws rest
args_taken items ws rest t =
    record {
      taken = t.args ++ t.last ∷ [];
      whole = t.whole ∙ sym (toks-append t.args (t.last ∷ []) rest);
      again = λ later. ap args_of (toks-append t.args (t.last ∷ []) later) ∙ args_again t.args t.last later t.names t.closes ∙ ap (λ (vs : List (List ℕ)). Ok (vs, later)) (sym t.words);
    }

of_with_name : (w : List ℕ) (r : Read (List (List ℕ))) (e : Refusal) → with_name w r ≡ Err e → r ≡ Err e
of_with_name w (Ok x) e h = absurd cc
of_with_name w (Err d) e h = ap Err (err_same {B = List (List ℕ) × List Item} d e h)

-- nothing was taken of the arguments
args_at_once : (items : List Item) (e : Refusal) → Cause args_of [] items e → Stopped args_of items e
args_at_once items e c = record { before = []; more = args_fresh.pieces; value = args_fresh.value; completes = args_fresh.reads; cause = c }

-- behind a name, what follows stopped
named_cause : (p : Piece) → p.kind ≡ kinds.Name → (before : List Piece) (rest : List Item) (e : Refusal) → Cause args_of before rest e → Cause args_of (p ∷ before) (tok p ∷ rest) e
unfolding args_of
named_cause p k before rest refusals.AtEnd c = ap (λ (is : List Item). tok p ∷ is) c
named_cause p k before rest (refusals.At s) c =
    ⊎_elim (λ b. inl (b.0, b.1, ap (λ (is : List Item). tok p ∷ is) b.2, b.3))
    (λ t. inr (
      t.0,
      t.1,
      ap (λ (is : List Item). tok p ∷ is) t.2,
      t.3,
      λ later.
          let h = t.4 later in
          (h.0, ap (args_with p (toks before (tok t.0 ∷ later)) (args_of (toks before (tok t.0 ∷ later)))) k ∙ ap (with_name p.word) h.1),
    )) c
named_cause p k before rest refusals.Memory c = c

args_stops : (items : List Item) (e : Refusal) → args_of items ≡ Err e → Stopped args_of items e
unfolding args_of
args_stops [] e h = subst (Stopped args_of []) (err_same {B = List (List ℕ) × List Item} refusals.AtEnd e h) (args_at_once [] refusals.AtEnd refl)
args_stops (bad f ∷ rest) e h = subst (Stopped args_of (bad f ∷ rest)) (err_same {B = List (List ℕ) × List Item} (refusals.At (byte_place f)) e h) (args_at_once (bad f ∷ rest) (refusals.At (byte_place f)) (inl (f, rest, refl, refl)))
args_stops (tok p ∷ rest) e h = at_kind (λ f g. args_stops rest f g) p.kind refl h
  where
    refuses : (k : Kind) → p.kind ≡ k → ((r : List Item) (more : Read (List (List ℕ))) → args_with p r more k ≡ Err (refusals.At p.span)) → args_with p rest (args_of rest) k ≡ Err e → Stopped args_of (tok p ∷ rest) e
    refuses k is denied h =
        subst (Stopped args_of (tok p ∷ rest)) (err_same {B = List (List ℕ) × List Item} (refusals.At p.span) e (sym (denied rest (args_of rest)) ∙ h))
        (args_at_once (tok p ∷ rest) (refusals.At p.span) (inr (p, rest, refl, refl, λ later. (refusals.At p.span, ap (args_with p later (args_of later)) is ∙ denied later (args_of later)))))

    at_kind : ((f : Refusal) → args_of rest ≡ Err f → Stopped args_of rest f) → (k : Kind) → p.kind ≡ k → args_with p rest (args_of rest) k ≡ Err e → Stopped args_of (tok p ∷ rest) e
    at_kind more kinds.Close is h = absurd cc
    at_kind more kinds.Name is h =
        let s = more e (of_with_name p.word (args_of rest) e h) in
        record {
          before = p ∷ s.before;
          more = s.more;
          value = p.word ∷ s.value;
          completes = λ later. ap (args_with p (toks s.before (toks s.more later)) (args_of (toks s.before (toks s.more later)))) is ∙ ap (with_name p.word) (s.completes later);
          cause = named_cause p is s.before rest e s.cause;
        }
    at_kind more k is h = refuses k is (λ r m. refl) h

args_reads : Reads args_of
args_reads = record { fresh = args_fresh; takes = λ items ws rest h. args_taken items ws rest (args_ok items rest ws h); stops = args_stops }

call_reads : Reads call_of
unfolding call_of
call_reads =
    let made : List ℕ → List (List ℕ) → Call = λ n ws. record { name = n; args = ws } in
    bind name_of (λ (n : List ℕ) (r : List Item). args_of r >>= λ ws. Ok (record { name = n; args = ws.0 }, ws.1)) name_reads (λ n.
    bind args_of (λ (ws : List (List ℕ)) (r : List Item). Ok (record { name = n; args = ws }, r)) args_reads (λ ws. pure (made n ws)))

-- ---- the end of the line

end_ends : Ends end_of
unfolding end_of
end_ends = maybe_end end_of (tt, []) (λ (p : Piece) (r : List Item). Err (refusals.At p.span)) refl (λ s rest. refl) (λ p rest. refl) (λ p. inr (λ later. refl))

number_each : (p : Piece) (k : Kind) → Reads (λ (r : List Item). as_number p.span r k) ⊎ Refuses p (λ (r : List Item). as_number p.span r k)
number_each p kinds.Number = inl (pure tt)
number_each p _ = inr (λ later. refl)

number_reads : Reads number_of
unfolding number_of
number_reads = token (λ (p : Piece) (r : List Item). as_number p.span r p.kind) (sample kinds.Number) (pure tt) (λ p. number_each p p.kind)

close_square_each : (p : Piece) (k : Kind) → Reads (λ (r : List Item). as_close_square p.span r k) ⊎ Refuses p (λ (r : List Item). as_close_square p.span r k)
close_square_each p kinds.CloseSquare = inl (pure tt)
close_square_each p _ = inr (λ later. refl)

close_square_reads : Reads close_square_of
unfolding close_square_of
close_square_reads = token (λ (p : Piece) (r : List Item). as_close_square p.span r p.kind) (sample kinds.CloseSquare) (pure tt) (λ p. close_square_each p p.kind)

duration_each : (p : Piece) (k : Kind) → Ends (λ (r : List Item). duration_with p.span r k) ⊎ Refuses p (λ (r : List Item). duration_with p.span r k)
duration_each p kinds.OpenSquare =
    inl (bind_end number_of (λ (n : Unit {0}) (r : List Item). close_square_of r >>= λ c. end_of c.1) number_reads (λ n.
    bind_end close_square_of (λ (c : Unit {0}) (r : List Item). end_of r) close_square_reads (λ c. end_ends)))
duration_each p _ = inr (λ later. refl)

duration_ends : Ends duration_of
unfolding duration_of
duration_ends = maybe_end duration_of (tt, []) (λ (p : Piece) (r : List Item). duration_with p.span r p.kind) refl (λ s rest. refl) (λ p rest. refl) (λ p. duration_each p p.kind)

-- ---- the line

timed_with_each : (n : ℕ) (t : Time) (p : Piece) (k : Kind) → Ends (λ (r : List Item). timed_with n t p.span r k) ⊎ Refuses p (λ (r : List Item). timed_with n t p.span r k)
timed_with_each n t p kinds.Open =
    inl (bind_end call_of (λ (c : Call) (r : List Item). duration_of r >>= λ e. Ok (lines.Act n t c)) call_reads (λ c. map_end duration_of (λ e. lines.Act n t c) duration_ends))
timed_with_each n t p kinds.End = inl (map_end end_of (λ e. lines.End n t) end_ends)
timed_with_each n t p _ = inr (λ later. refl)

timed_from_each : (n : ℕ) (p : Piece) → Ends (timed_from n (Some p)) ⊎ Refuses p (timed_from n (Some p))
timed_from_each n p =
    ⊎_elim
    (λ r. inl (bind_end (time_of p) (λ (t : Time) (is : List Item). next_of is >>= λ f. timed_with n t f.0.span f.1 f.0.kind) r (λ t.
    token_end (λ (q : Piece) (is : List Item). timed_with n t q.span is q.kind) (sample kinds.End) (map_end end_of (λ x. lines.End n t) end_ends) (λ q. timed_with_each n t q q.kind))))
    (λ no. inr (λ later. ap (λ (r : Read Time). r >>= λ t. next_of t.1 >>= λ f. timed_with n t.0 f.0.span f.1 f.0.kind) (no later)))
    (time_each p)

timed_ends : (n : ℕ) → Ends (timed_line n)
unfolding timed_line
timed_ends n = maybe_end (timed_line n) lines.Blank (λ (p : Piece) (r : List Item). timed_from n (Some p) r) refl (λ s rest. refl) (λ p rest. refl) (λ p. timed_from_each n p)

untimed_each : (n : ℕ) (p : Piece) (k : Kind) → Ends (λ (r : List Item). untimed_with n p.span r k) ⊎ Refuses p (λ (r : List Item). untimed_with n p.span r k)
untimed_each n p kinds.Open =
    inl (bind_end call_of (λ (c : Call) (r : List Item). end_of r >>= λ e. Ok (lines.Step n c)) call_reads (λ c. map_end end_of (λ e. lines.Step n c) end_ends))
untimed_each n p _ = inr (λ later. refl)

untimed_ends : (n : ℕ) → Ends (untimed_line n)
unfolding untimed_line
untimed_ends n = maybe_end (untimed_line n) lines.Blank (λ (p : Piece) (r : List Item). untimed_with n p.span r p.kind) refl (λ s rest. refl) (λ p rest. refl) (λ p. untimed_each n p p.kind)

line_ends : (form : PlanForm) (n : ℕ) → Ends (line_of form n)
line_ends Timed n = timed_ends n
line_ends Untimed n = untimed_ends n

-- ---- the place

toks-same : (a b : List Piece) → toks a [] ≡ toks b [] → a ≡ b
toks-same [] [] e = refl
toks-same [] (p ∷ b) e = absurd cc
toks-same (p ∷ a) [] e = absurd cc
toks-same (p ∷ a) (q ∷ b) e =
    let first : p ≡ q = cc in
    let rest : toks a [] ≡ toks b [] = cc in
    λ i. first i ∷ toks-same a b rest i

-- tokens, and then more
toks-rest : (ts : List Piece) (rest : List Item) → toks ts rest ≡ map tok ts ++ rest
toks-rest [] rest = refl
toks-rest (p ∷ ts) rest = ap (λ (is : List Item). tok p ∷ is) (toks-rest ts rest)

spells : (form : PlanForm) (n : ℕ) (l : Line) (ts : List Piece) → line_of form n (toks ts []) ≡ Ok l → SpellsTokens form n l ts
spells form n l ts e =
    let t = line_ok form n (toks ts []) l e in
    subst (SpellsTokens form n l) (sym (toks-same ts t.pieces t.whole)) t.spelled

-- what is refused is not read
not_read : (form : PlanForm) (n : ℕ) (l : Line) (items : List Item) (e : Refusal) → line_of form n items ≡ Ok l → line_of form n items ≡ Err e → ⊥
not_read form n l items e a b = let h : Ok l ≡ Err e = sym a ∙ b in cc

refusal_place : (form : PlanForm) (n : ℕ) (bytes : List ℕ) (s : Span) → line_of form n (items_of bytes) ≡ Err (refusals.At s) → IsPlace form n bytes s
refusal_place form n bytes s h =
    let st = (line_ends form n).stops (items_of bytes) (refusals.At s) h in
    let begins : Begins form n st.before = (st.more, st.value, spells form n st.value (st.before ++ st.more) (ap (line_of form n) (toks-append st.before st.more []) ∙ st.completes)) in (
      st.before,
      begins,
      ⊎_elim
          (λ b. inl (b.0, b.1, b.2 ∙ toks-rest st.before (bad b.0 ∷ b.1), b.3))
          (λ t. inr (inl (
            t.0,
            t.1,
            t.2 ∙ toks-rest st.before (tok t.0 ∷ t.1),
            t.3,
            λ g.
                let e = t.4 (toks g.0 []) in
                let split : toks ((st.before ++ t.0 ∷ []) ++ g.0) [] ≡ toks st.before (tok t.0 ∷ toks g.0 []) =
                toks-append (st.before ++ t.0 ∷ []) g.0 [] ∙ toks-append st.before (t.0 ∷ []) (toks g.0 []) in
                not_read form n g.1 (toks st.before (tok t.0 ∷ toks g.0 [])) e.0 (ap (line_of form n) (sym split) ∙ line_again form n g.1 ((st.before ++ t.0 ∷ []) ++ g.0) g.2) e.1,
          )))
          st.cause,
    )

end_place : (form : PlanForm) (n : ℕ) (bytes : List ℕ) → line_of form n (items_of bytes) ≡ Err refusals.AtEnd → IsPlace form n bytes (record { start = length bytes; «end» = length bytes })
end_place form n bytes h =
    let st = (line_ends form n).stops (items_of bytes) refusals.AtEnd h in (
      st.before,
      (st.more, st.value, spells form n st.value (st.before ++ st.more) (ap (line_of form n) (toks-append st.before st.more []) ∙ st.completes)),
      inr (inr (
        st.cause ∙ toks-all st.before,
        refl,
        refl,
        λ l s.
            not_read form n l (toks st.before []) refusals.AtEnd (line_again form n l st.before s) (ap (line_of form n) (sym st.cause) ∙ h),
      )),
    )

-- ---- the fault

abbrev failed : PlanFault → Result Line PlanFault
failed e = Err e

fault_same : (d e : PlanFault) → failed d ≡ failed e → d ≡ e
fault_same d e h = cc

-- a fault and the refusal that it stands for
placed_fault : (form : PlanForm) (n : ℕ) (bytes : List ℕ) (e : PlanFault) → length bytes ≤ line_limit → (r : Result Line Refusal) → line_of form n (items_of bytes) ≡ r → placed n (length bytes) r ≡ Err e → IsFault form n bytes e
placed_fault form n bytes e short (Ok l) is h = absurd cc
placed_fault form n bytes e short (Err (refusals.At s)) is h =
    subst (IsFault form n bytes) (fault_same (faults.NotLine n s.start s.«end») e h) (refl, short, refusal_place form n bytes s is)
placed_fault form n bytes e short (Err refusals.AtEnd) is h =
    subst (IsFault form n bytes) (fault_same (faults.NotLine n (length bytes) (length bytes)) e h) (refl, short, end_place form n bytes is)
placed_fault form n bytes e short (Err refusals.Memory) is h =
    subst (IsFault form n bytes) (fault_same faults.Memory e h) tt

-- bytes that are refused so
pub refused_fault : (form : PlanForm) (n : ℕ) (bytes : List ℕ) (e : PlanFault) → read_line form n bytes ≡ Err e → IsFault form n bytes e
unfolding read_line
refused_fault form n bytes e h = at_test (nat_lt line_limit (length bytes)) refl h
  where
    at_test : (b : Bool) → nat_lt line_limit (length bytes) ≡ b → cond {A = Result Line PlanFault} b (Err (faults.LineTooLong n)) (placed n (length bytes) (line_of form n (items_of bytes))) ≡ Err e → IsFault form n bytes e
    at_test true long h = subst (IsFault form n bytes) (fault_same (faults.LineTooLong n) e h) (refl, ltb-true line_limit (length bytes) long)
    at_test false short h =
        let le = ltb-false line_limit (length bytes) short in
        placed_fault form n bytes e (omega (arith, le)) (line_of form n (items_of bytes)) refl h

pub fault_is : (form : PlanForm) (n : ℕ) (bytes : List ℕ) (e : PlanFault) → RefusedAs e (read_line form n bytes) → IsFault form n bytes e
fault_is form n bytes (faults.NotLine m start last) r = refused_fault form n bytes (faults.NotLine m start last) r
fault_is form n bytes (faults.LineTooLong m) r = refused_fault form n bytes (faults.LineTooLong m) r
fault_is form n bytes faults.Memory r = tt
