-- Numbers and timed literals of `:init`: what is read is spelled so, and what is spelled so is read.
use Rattle.std.proofs.Common.{◌≡◌, ℕ, ◌-◌, ◌<◌, true, false, List, [], ◌∷◌, ◌++◌, Option, Some, None, Ok, refl, sym, ap, ◌∙◌, subst, arith}
use Rattle.std.specs.Prelude.{codes}
use Rattle.plus_tokens.specs.declared.span.Span.{Span}
use Rattle.plus_tree.specs.declared.terms.Term.{Term}
use Rattle.plus_tree.specs.declared.terms.Use.{Use}
use Rattle.plus_tree.specs.declared.terms.Literal.{Literal}
use Rattle.plus_tree.specs.declared.trees.Init.{Init}
use Rattle.plus_tree.specs.declared.trees.Init.TheVariants.{At, AtNot}
use Rattle.plus_parser.specs.declared.phrases.words.Allowed.{Allowed}
use Rattle.plus_parser.specs.declared.phrases.words.Allowed.TheVariants as allows
use Rattle.plus_parser.specs.declared.phrases.words.HeadWord.{HeadWord}
use Rattle.plus_parser.specs.declared.phrases.words.HeadWord.TheVariants.{Not, Plain}
use Rattle.plus_parser.specs.Phrases.Literals.{literal_of}
use Rattle.plus_tokens.specs.Items.{Piece, Item, tok}
use Rattle.plus_parser.specs.Phrases.Reading.{◌>>=◌, Read, next_of, is_open}
use Rattle.plus_parser.specs.Phrases.Words.{head_of, is_time, kind_time}
use Rattle.plus_parser.specs.Phrases.Grammar.{around, time_ahead, is_time_read, open_of, close_of, use_of, use_end, use_form}
use Rattle.plus_parser.specs.Phrases.Spells.{IsClose, IsWord, IsNumber, Wrapped, Chain, SpellsArgument, SpellsUse, room_after}
use Rattle.plus_parser.proofs.PhraseLemmas.Tokens.{toks, toks_last, bind_ok, ok_is, next_ok, next_again, open_kind, token_takes}
use Rattle.plus_parser.proofs.PhraseLemmas.Names.{name_kind, plain_name}
use Rattle.plus_parser.proofs.PhraseLemmas.Level.{Even, Level, number_flat, level_flat, level_none, level_wrapped, level_name, level_use, split_wrapped, even_open}
use Rattle.plus_parser.proofs.PhraseLemmas.Flat.{name_flat}
use Rattle.plus_parser.proofs.PhraseLemmas.Forms.{FormTook, close_took}
use Rattle.plus_parser.proofs.PhraseLemmas.Heads.{worded, plain_is, plain_head, word_heads}
use Rattle.plus_parser.proofs.PhraseLemmas.Starts.{name_again, open_again, close_again, use_takes, use_again, use_spelled, use_made, use_form_takes, use_form_again}
use Rattle.plus_parser.proofs.PhraseLemmas.ExprLaws.{not_open}
use Rattle.plus_parser.specs.ReadingProblem.{literal_or, literal_next, timed_with, timed_of}
use Rattle.plus_parser.specs.SpellsProblem.{SpellsNot, SpellsTimed, SpellsInit}
use Rattle.plus_parser.proofs.Sections.{close_taken}

-- ---- numbers

-- a number that was read
pub record NumberTook (n : Literal) (items rest : List Item) : Type 0 where
  pub token : Piece
  pub whole : items ≡ tok token ∷ rest
  pub is : IsNumber n token

pub number_takes : (room : ℕ) (items : List Item) (n : Literal) (rest : List Item) → literal_next room items ≡ Ok (n, rest) → NumberTook n items rest
unfolding literal_next
number_takes room items n rest e =
    let a = bind_ok (next_of room items) (λ p. literal_or (literal_of p.0) p.0 p.1) (n, rest) e in
    at_option a.0.0 a.0.1 (next_ok room items a.0.0 a.0.1 a.1) (literal_of a.0.0) refl a.2
  where
    at_option : (p : Piece) (r : List Item) → items ≡ tok p ∷ r → (o : Option Literal) → literal_of p ≡ o → literal_or o p r ≡ Ok (n, rest) → NumberTook n items rest
    at_option p r whole None q e = absurd cc
    at_option p r whole (Some m) q e =
        let both = ok_is (m, r) (n, rest) e in
        record { token = p; whole = whole ∙ ap (λ (x : Literal × List Item). tok p ∷ x.1) both; is = q ∙ ap (λ (x : Literal × List Item). Some x.0) both }

pub number_again : (room : ℕ) (p : Piece) (n : Literal) (rest : List Item) → IsNumber n p → literal_next room (tok p ∷ rest) ≡ Ok (n, rest)
unfolding literal_next
number_again room p n rest h =
    ap (λ (q : Read Piece). q >>= λ p. literal_or (literal_of p.0) p.0 p.1) (next_again room p rest (not_open p.kind p.word p.span n h)) ∙ ap (λ (o : Option Literal). literal_or o p rest) h

pub number_level : (p : Piece) (n : Literal) → IsNumber n p → Level (p ∷ [])
number_level p n h = level_flat p [] (number_flat p n h) level_none

-- ---- whether a time follows

time_shown : (room : ℕ) (p : Piece) (rest : List Item) → is_open p.kind ≡ false → time_ahead room (tok p ∷ rest) ≡ is_time p
time_shown room p rest e = ap is_time_read (next_again room p rest e)

pub time_number : (room : ℕ) (p : Piece) (n : Literal) (rest : List Item) → IsNumber n p → time_ahead room (tok p ∷ rest) ≡ is_time p
time_number room p n rest h = time_shown room p rest (not_open p.kind p.word p.span n h)

-- no time follows where names do, or where the form ends
pub names_no_time : (room : ℕ) (xs : List Term) (args : List Piece) (last : Piece) (rest : List Item) → IsClose last → Chain (SpellsArgument allows.Names) xs args → time_ahead room (toks args (tok last ∷ rest)) ≡ false
names_no_time room [] args last rest close h =
    ap (λ (ps : List Piece). time_ahead room (toks ps (tok last ∷ rest))) h ∙ time_shown room last rest (ap is_open close) ∙ ap (λ k. kind_time k last.word) close
names_no_time room (x ∷ xs) args last rest close h =
    let one = h.2 in
    let shape : args ≡ one.0 ∷ h.1 = h.4 ∙ ap (λ (ps : List Piece). ps ++ h.1) one.3 in
    let name = name_kind one.0.kind one.1 in
    ap (λ (ps : List Piece). time_ahead room (toks ps (tok last ∷ rest))) shape
    ∙ time_shown room one.0 (toks h.1 (tok last ∷ rest)) (ap is_open name) ∙ ap (λ k. kind_time k one.0.word) name

-- ---- what is read behind `at`

-- what becomes false
abbrev pub SpellsFalse : Use → List Piece → Type 0
SpellsFalse u ts = (place : Span) × SpellsNot allows.Terms u place ts

pub not_level : (allowed : Allowed) (u : Use) (s : Span) (ts : List Piece) → SpellsNot allowed u s ts → Level ts
not_level allowed u s ts h = level_wrapped s (h.0 ∷ h.1) ts h.3 (level_name h.0 h.1 h.2.0 (level_use allowed u h.1 h.4))

-- a timed literal that was read behind its `at`
pub record TimedTook (room : ℕ) (x : Init) (s : Span) (items rest : List Item) : Type 0 where
  pub time : Piece
  pub number : Literal
  pub is : IsNumber number time
  pub inner : List Piece
  pub last : Piece
  pub closes : IsClose last
  pub whole : items ≡ tok time ∷ toks inner (tok last ∷ rest)
  pub even : Even room inner
  pub spelled : (a : Piece) (ts : List Piece) → IsWord (codes "at") a → is_time time ≡ true → Wrapped (around s last.span) (a ∷ time ∷ inner) ts → SpellsInit x ts

-- the same for each form behind the time
timed_took :
    (P : Use → List Piece → Type 0) (made : Literal → Use → Span → Init) → ((n : Literal) (u : Use) (s : Span) (ts : List Piece) → SpellsTimed n s (P u) ts → SpellsInit (made n u s) ts)
    → (room : ℕ) (s : Span) (n : Literal) (u : Use) (o : Piece) (items r1 r2 r3 rest : List Item) (x : Init) → NumberTook n items r1 → open_of room r1 ≡ Ok (o, r2) → FormTook P room u o.span r2 r3
    → (let read : Read Init = close_of room r3 >>= λ k. Ok (made n u (around s k.0.span), k.1) in read) ≡ Ok (x, rest) → TimedTook room x s items rest
timed_took P made spells room s n u o items r1 r2 r3 rest x number e t h =
    let k = bind_ok (close_of room r3) (λ k. Ok (made n u (around s k.0.span), k.1)) (x, rest) h in
    let c = close_taken room k.0.0 r3 k.0.1 k.1 in
    let f = token_takes (λ q. is_open q.kind) room o r1 r2 e in
    let opens = open_kind o.kind f.fits in
    let inner = o ∷ t.inner in
    let body = number.token ∷ inner in
    subst (λ (y : Init × List Item). TimedTook room y.0 s items y.1) (ok_is (made n u (around s k.0.0.span), k.0.1) (x, rest) k.2)
    (record {
      time = number.token;
      number = n;
      is = number.is;
      inner = inner;
      last = k.0.0;
      closes = c.0;
      whole = number.whole ∙ ap (λ (is : List Item). tok number.token ∷ is) (f.whole ∙ ap (λ (is : List Item). tok o ∷ is) (t.whole ∙ ap (toks t.inner) c.1));
      even = t.even o opens;
      spelled = λ a ts word time w. spells n u (around s k.0.0.span) ts (a, number.token, inner, word, (number.is, time), w, t.spelled o opens refl);
    })

pub timed_takes : (room : ℕ) (s : Span) (items : List Item) (x : Init) (rest : List Item) → timed_of room s items ≡ Ok (x, rest) → TimedTook room x s items rest
unfolding timed_of
timed_takes room s items x rest e =
    let a = bind_ok (literal_next room items) (λ t. open_of room t.1 >>= λ o. next_of (room - 1) o.1 >>= λ p. timed_with room s t.0 o.0.span p.0 p.1 (head_of p.0)) (x, rest) e in
    let o = bind_ok (open_of room a.0.1) (λ o. next_of (room - 1) o.1 >>= λ p. timed_with room s a.0.0 o.0.span p.0 p.1 (head_of p.0)) (x, rest) a.2 in
    let p = bind_ok (next_of (room - 1) o.0.1) (λ p. timed_with room s a.0.0 o.0.0.span p.0 p.1 (head_of p.0)) (x, rest) o.2 in
    at_head a.0.0 a.0.1 (number_takes room items a.0.0 a.0.1 a.1) o.0.0 o.0.1 o.1 p.0.0 p.0.1 (next_ok (room - 1) o.0.1 p.0.0 p.0.1 p.1) (head_of p.0.0) refl p.2
  where
    at_head :
        (n : Literal) (r1 : List Item) → NumberTook n items r1 → (o : Piece) (r2 : List Item) → open_of room r1 ≡ Ok (o, r2) → (p : Piece) (r : List Item) → r2 ≡ tok p ∷ r → (h : HeadWord) → head_of p ≡ h
        → timed_with room s n o.span p r h ≡ Ok (x, rest) → TimedTook room x s items rest
    at_head n r1 number o r2 opening p r whole Plain h e =
        let made = λ (k : Literal) (u : Use) (s : Span). let y : Init = At k u s in y in
        let f = token_takes (λ q. is_open q.kind) room o r1 r2 opening in
        let some : 0 < room = f.room_left f.fits in
        let a = bind_ok (use_end allows.Terms (room - 1) o.span p r) (λ u. close_of room u.1 >>= λ k. Ok (made n u.0 (around s k.0.span), k.1)) (x, rest) e in
        let u = use_takes allows.Terms (room - 1) o.span p r a.0.0 a.0.1 a.1 in
        let plain = plain_is p h in
        timed_took (SpellsUse allows.Terms) made (λ n u s ts t. t) room s n a.0.0 o items r1 r2 a.0.1 rest x number opening
        (close_took (SpellsUse allows.Terms) room (room - 1) (omega (arith, some)) a.0.0 o.span (p ∷ u.inner) u.last r2 a.0.1 u.closes
        (whole ∙ ap (λ (is : List Item). tok p ∷ is) u.whole)
        ((name_flat p (plain_name p plain)).room (room - 1) u.inner ∙ u.even)
        (λ first opens place w. use_spelled allows.Terms a.0.0 o.span p u.last first u.args u.inner u.is plain opens u.closes place u.spelled))
        a.2
    at_head n r1 number o r2 opening p r whole Not h e =
        let made = λ (k : Literal) (u : Use) (s : Span). let y : Init = AtNot k u s in y in
        let f = token_takes (λ q. is_open q.kind) room o r1 r2 opening in
        let some : 0 < room = f.room_left f.fits in
        let a = bind_ok (use_form allows.Terms (room - 1) r) (λ u. close_of (room - 1) u.1 >>= λ j. close_of room j.1 >>= λ k. Ok (made n u.0 (around s k.0.span), k.1)) (x, rest) e in
        let d = bind_ok (close_of (room - 1) a.0.1) (λ j. close_of room j.1 >>= λ k. Ok (made n a.0.0 (around s k.0.span), k.1)) (x, rest) a.2 in
        let t = use_form_takes allows.Terms (room - 1) r a.0.0 a.0.1 a.1 in
        let k = close_taken (room - 1) d.0.0 a.0.1 d.0.1 d.1 in
        let is = worded p Not h refl in
        timed_took SpellsFalse made (λ n u s ts t. t) room s n a.0.0 o items r1 r2 d.0.1 rest x number opening
        (close_took SpellsFalse room (room - 1) (omega (arith, some)) a.0.0 o.span (p ∷ t.inner) d.0.0 r2 d.0.1 k.0
        (whole ∙ ap (λ (is : List Item). tok p ∷ is) (t.whole ∙ ap (toks t.inner) k.1))
        ((name_flat p is.0).room (room - 1) t.inner ∙ t.even)
        (λ first opens place w. (around o.span d.0.0.span, (p, t.inner, is, w, t.spelled))))
        d.2
    at_head n r1 number o r2 opening p r whole _ h e = absurd cc

-- ---- what is spelled behind `at`

at_turn :
    (room : ℕ) (front : Span) (t : Literal) (o p k : Piece) (u : Use) (items r1 r2 r3 r4 r5 : List Item) → literal_next room items ≡ Ok (t, r1) → open_of room r1 ≡ Ok (o, r2) → next_of (room - 1) r2 ≡ Ok (p, r3) → head_of p ≡ Plain
    → use_end allows.Terms (room - 1) o.span p r3 ≡ Ok (u, r4) → close_of room r4 ≡ Ok (k, r5) → timed_of room front items ≡ Ok (At t u (around front k.span), r5)
unfolding timed_of
at_turn room front t o p k u items r1 r2 r3 r4 r5 e e1 e2 h e3 e4 = rw (e, e1, e2, h, e3, e4) refl

at_not_turn :
    (room : ℕ) (front : Span) (t : Literal) (o p j k : Piece) (u : Use) (items r1 r2 r3 r4 r5 r6 : List Item) → literal_next room items ≡ Ok (t, r1) → open_of room r1 ≡ Ok (o, r2) → next_of (room - 1) r2 ≡ Ok (p, r3) → head_of p ≡ Not
    → use_form allows.Terms (room - 1) r3 ≡ Ok (u, r4) → close_of (room - 1) r4 ≡ Ok (j, r5) → close_of room r5 ≡ Ok (k, r6) → timed_of room front items ≡ Ok (AtNot t u (around front k.span), r6)
unfolding timed_of
at_not_turn room front t o p j k u items r1 r2 r3 r4 r5 r6 e e1 e2 h e3 e4 e5 = rw (e, e1, e2, h, e3, e4, e5) refl

-- reading a form behind a time gives what is spelled there
abbrev pub TimedAgain : (Use → List Piece → Type 0) → (Literal → Use → Span → Init) → Type 0
TimedAgain P made =
    (room : ℕ) (front : Span) (t : Literal) (u : Use) (time last : Piece) (body : List Piece) (rest : List Item) → IsNumber t time → P u body → Even room body → IsClose last
    → timed_of room front (tok time ∷ toks body (tok last ∷ rest)) ≡ Ok (made t u (around front last.span), rest)

pub at_again : TimedAgain (SpellsUse allows.Terms) (λ t u s. At t u s)
at_again room front t u time last body rest number h ev close =
    let v = h.3 in
    let n = h.0 in
    let args = h.1 in
    let k = tok last ∷ rest in
    let left = toks args (tok v.last ∷ k) in
    let some : 0 < room = even_open room v.first ((n ∷ args) ++ v.last ∷ []) v.opens (ap (room_after room) (sym v.whole) ∙ ev) in
    ap (λ (ps : List Piece). timed_of room front (tok time ∷ toks ps k)) v.whole
    ∙ ap (λ (is : List Item). timed_of room front (tok time ∷ tok v.first ∷ tok n ∷ is)) (sym (toks_last args v.last k))
    ∙ at_turn room front t v.first n last (use_of n u.args (around v.first.span v.last.span)) (tok time ∷ tok v.first ∷ tok n ∷ left) (tok v.first ∷ tok n ∷ left) (tok n ∷ left) left k rest
    (number_again room time t (tok v.first ∷ tok n ∷ left) number) (open_again room v.first (tok n ∷ left) v.opens some) (name_again (room - 1) n left (plain_name n h.2)) (plain_head n h.2)
    (use_again allows.Terms (room - 1) v.first.span n v.last u.args args k v.closes h.5) (close_again room last rest close)
    ∙ ap (λ (w : Use). Ok (At t w (around front last.span), rest)) (use_made allows.Terms u body h)

pub at_not_again : TimedAgain SpellsFalse (λ t u s. AtNot t u s)
at_not_again room front t u time last body rest number h ev close =
    let q = h.1 in
    let a = q.0 in
    let inner = q.1 in
    let v = q.3 in
    let k = tok last ∷ rest in
    let left = toks inner (tok v.last ∷ k) in
    let level = level_use allows.Terms u inner q.4 in
    let under = split_wrapped room h.0 (a ∷ inner) body v (level_name a inner q.2.0 level) ev in
    let some : 0 < room = omega (arith, under.1) in
    let same : under.0 ≡ room - 1 = omega (arith, under.1) in
    let eb : Even (room - 1) inner = subst (λ n. Even n inner) same (sym ((name_flat a q.2.0).room under.0 inner) ∙ under.2) in
    ap (λ (ps : List Piece). timed_of room front (tok time ∷ toks ps k)) v.whole
    ∙ ap (λ (is : List Item). timed_of room front (tok time ∷ tok v.first ∷ tok a ∷ is)) (sym (toks_last inner v.last k))
    ∙ at_not_turn room front t v.first a v.last last u (tok time ∷ tok v.first ∷ tok a ∷ left) (tok v.first ∷ tok a ∷ left) (tok a ∷ left) left (tok v.last ∷ k) k rest
    (number_again room time t (tok v.first ∷ tok a ∷ left) number) (open_again room v.first (tok a ∷ left) v.opens some) (name_again (room - 1) a left q.2.0) (word_heads a Not q.2 refl)
    (use_form_again allows.Terms (room - 1) u inner (tok v.last ∷ k) q.4 eb) (close_again (room - 1) v.last k v.closes) (close_again room last rest close)
