-- One token, a form behind a token, and a use: what is taken is spelled so, and what is spelled so is read.
use Rattle.std.proofs.Common.{◌≡◌, ℕ, suc, ◌-◌, ◌<◌, true, false, List, [], ◌∷◌, ◌++◌, length, Some, Ok, Err, refl, sym, ap, ◌∙◌, subst, arith}
use Rattle.std.proofs.lemmas.Bool.{cond-true}
use Rattle.plus_tokens.specs.declared.span.Span.{Span}
use Rattle.plus_tree.specs.declared.terms.Term.{Term}
use Rattle.plus_tree.specs.declared.terms.Use.{Use}
use Rattle.plus_tree.specs.declared.faults.TextFault.TheVariants as faults
use Rattle.plus_parser.specs.declared.phrases.words.Allowed.{Allowed}
use Rattle.plus_tokens.specs.Items.{Piece, Item, tok}
use Rattle.plus_parser.specs.Phrases.Reading.{◌>>=◌, Read, next_of, is_open}
use Rattle.plus_parser.specs.Phrases.Words.{is_plain, is_close, is_allowed}
use Rattle.plus_parser.specs.Phrases.Grammar.{around, open_of, close_of, plain_of, until_close, Former, Starter, start_step, term_of, argument_step, use_of, use_end, use_form}
use Rattle.plus_parser.specs.Phrases.Spells.{IsOpen, IsClose, IsName, IsPlain, Wrapped, Chain, with_last, SpellsArgument, SpellsUse, room_after}
use Rattle.plus_parser.proofs.PhraseLemmas.Tokens.{toks, toks_last, enough, bind_ok, ok_is, next_ok, next_some, next_again, wanted, open_kind, token_takes, token_again}
use Rattle.plus_parser.proofs.PhraseLemmas.Names.{plain_name}
use Rattle.plus_parser.proofs.PhraseLemmas.Level.{Even, after_name, after_flat, level_at, level_flat, level_none, allowed_flat, args_even, even_open, even_wrapped}
use Rattle.plus_parser.proofs.PhraseLemmas.Flat.{flat_piece, flat_next}
use Rattle.plus_parser.proofs.PhraseLemmas.UntilTakes.{Takes, until_takes}
use Rattle.plus_parser.proofs.PhraseLemmas.UntilAgain.{Again, Levels, until_again}
use Rattle.plus_parser.proofs.PhraseLemmas.Forms.{FormTakes, FormAgain, Begins, some_is, added_all, added_last}

pub name_again : (room : ℕ) (p : Piece) (rest : List Item) → IsName p → next_of room (tok p ∷ rest) ≡ Ok (p, rest)
name_again room p rest e = next_again room p rest (ap is_open e)

-- ---- one token

pub open_again : (room : ℕ) (p : Piece) (rest : List Item) → IsOpen p → 0 < room → open_of room (tok p ∷ rest) ≡ Ok (p, rest)
open_again room p rest e lt = token_again (λ q. is_open q.kind) room p rest (ap is_open e) (λ o. lt)

pub close_again : (room : ℕ) (p : Piece) (rest : List Item) → IsClose p → close_of room (tok p ∷ rest) ≡ Ok (p, rest)
close_again room p rest e = token_again (λ q. is_close q.kind) room p rest (ap is_close e) (λ o. absurd (let no : false ≡ true = sym (ap is_open e) ∙ o in cc))

pub plain_again : (room : ℕ) (p : Piece) (rest : List Item) → IsPlain p → plain_of room (tok p ∷ rest) ≡ Ok (p, rest)
plain_again room p rest e = token_again is_plain room p rest e (λ o. absurd (let no : false ≡ true = sym (ap is_open (plain_name p e)) ∙ o in cc))

-- ---- a whole form

-- a form that was read
pub record Opened {A : Type 0} (P : A → List Piece → Type 0) (room : ℕ) (x : A) (items rest : List Item) : Type 0 where
  pub inner : List Piece
  pub whole : items ≡ toks inner rest
  pub spelled : P x inner
  pub even : Even room inner

pub opened_takes : {A : Type 0} (P : A → List Piece → Type 0) (room : ℕ) (read : Former A) → FormTakes P room read → (o : Piece) (x : A) (items r rest : List Item) → open_of room items ≡ Ok (o, r) → read o.span r ≡ Ok (x, rest) → Opened P room x items rest
opened_takes P room read takes o x items r rest e h =
    let f = token_takes (λ q. is_open q.kind) room o items r e in
    let opens = open_kind o.kind f.fits in
    let t = takes o.span r x rest (f.room_left f.fits) h in
    record { inner = o ∷ t.inner; whole = f.whole ∙ ap (λ (is : List Item). tok o ∷ is) t.whole; spelled = t.spelled o opens refl; even = t.even o opens }

-- a form behind its opening parenthesis, read from there
pub opened_again : {A : Type 0} (P : A → List Piece → Type 0) (room : ℕ) (read : Former A) → Begins P room → FormAgain P room read → (x : A) (ts : List Piece) (rest : List Item) → P x ts → Even room ts → (o : Piece) × (r : List Item) × (open_of room (toks ts rest) ≡ Ok (o, r)) × (read o.span r ≡ Ok (x, rest))
opened_again P room read begins again x ts rest h ev =
    let b = begins x ts h in
    let some : 0 < room = even_open room b.0 b.1 b.2 (ap (room_after room) (sym b.3) ∙ ev) in
    (b.0, toks b.1 rest, ap (λ (ps : List Piece). open_of room (toks ps rest)) b.3 ∙ open_again room b.0 (toks b.1 rest) b.2 some, again x ts b.0 b.1 rest h b.3 ev)

-- ---- a form from its first token on

module _ {A : Type 0} (P : A → List Piece → Type 0) (room : ℕ) (read : Starter A) where
  pub record Started (x : A) (p : Piece) (r rest : List Item) : Type 0 where
    pub inner : List Piece
    pub whole : r ≡ toks inner rest
    pub spelled : P x (p ∷ inner)
    pub even : Even room (p ∷ inner)

  abbrev pub StartTakes : Type 0
  StartTakes = (p : Piece) (r : List Item) (x : A) (rest : List Item) → (is_open p.kind ≡ true → 0 < room) → read p r ≡ Ok (x, rest) → Started x p r rest

  pub record Restarted (x : A) (ts : List Piece) (rest : List Item) : Type 0 where
    pub first : Piece
    pub inner : List Piece
    pub whole : ts ≡ first ∷ inner
    pub next : next_of room (tok first ∷ toks inner rest) ≡ Ok (first, toks inner rest)
    pub goes : is_close first.kind ≡ false
    pub reads : read first (toks inner rest) ≡ Ok (x, rest)

  abbrev pub StartAgain : Type 0
  StartAgain = (x : A) (ts : List Piece) (rest : List Item) → P x ts → Even room ts → Restarted x ts rest

  pub start_takes : StartTakes → Takes P with_last (start_step read) room
  start_takes takes s s' p r r' left e =
      let a = bind_ok (read p r) (λ x. Ok (s ++ x.0 ∷ [], x.1)) (s', r') e in
      let both = ok_is (s ++ a.0.0 ∷ [], a.0.1) (s', r') a.2 in
      let t = takes p r a.0.0 a.0.1 left a.1 in
      record {
        thing = a.0.0;
        inner = t.inner;
        whole = t.whole ∙ ap (λ (x : List A × List Item). toks t.inner x.1) both;
        spelled = t.spelled;
        adds = ap (λ (x : List A × List Item). Some x.0) both;
        even = t.even;
      }

  pub start_again : StartAgain → Again P with_last (start_step read) room
  start_again again s s' x ts rest h ev a =
      let t = again x ts rest h ev in
      let same : s ++ x ∷ [] ≡ s' = some_is (s ++ x ∷ []) s' a in
      record {
        first = t.first;
        inner = t.inner;
        whole = t.whole;
        next = t.next;
        goes = t.goes;
        steps = ap (λ (q : Read A). q >>= λ x. Ok (s ++ x.0 ∷ [], x.1)) t.reads ∙ ap (λ (xs : List A). Ok (xs, rest)) same;
      }

  -- the form that comes next
  pub come_takes : StartTakes → (items : List Item) (x : A) (rest : List Item) → (next_of room items >>= λ p. read p.0 p.1) ≡ Ok (x, rest) → Opened P room x items rest
  come_takes takes items x rest e =
      let a = bind_ok (next_of room items) (λ p. read p.0 p.1) (x, rest) e in
      let t = takes a.0.0 a.0.1 x rest (next_some room items a.0.0 a.0.1 a.1) a.2 in
      record {
        inner = a.0.0 ∷ t.inner;
        whole = next_ok room items a.0.0 a.0.1 a.1 ∙ ap (λ (is : List Item). tok a.0.0 ∷ is) t.whole;
        spelled = t.spelled;
        even = t.even;
      }

  pub come_again : StartAgain → (x : A) (ts : List Piece) (rest : List Item) → P x ts → Even room ts → (next_of room (toks ts rest) >>= λ p. read p.0 p.1) ≡ Ok (x, rest)
  come_again again x ts rest h ev =
      let t = again x ts rest h ev in
      ap (λ (ps : List Piece). next_of room (toks ps rest) >>= λ p. read p.0 p.1) t.whole
      ∙ ap (λ (q : Read Piece). q >>= λ p. read p.0 p.1) t.next
      ∙ t.reads

-- ---- arguments

argument_takes : (allowed : Allowed) (room : ℕ) → Takes (SpellsArgument allowed) with_last (argument_step allowed) room
unfolding argument_step
argument_takes allowed room s s' p r r' left e =
    let w = wanted (is_allowed allowed p.kind) (faults.Form p.span) (Ok (s ++ term_of p ∷ [], r)) (s', r') e in
    let both = ok_is (s ++ term_of p ∷ [], r) (s', r') w.1 in
    record {
      thing = term_of p;
      inner = [];
      whole = ap (λ (x : List Term × List Item). x.1) both;
      spelled = (p, w.0, refl, refl);
      adds = ap (λ (x : List Term × List Item). Some x.0) both;
      even = after_flat room p [] (allowed_flat allowed p.kind w.0);
    }

argument_levels : (allowed : Allowed) (room : ℕ) → Levels (SpellsArgument allowed) with_last (argument_step allowed) room
argument_levels allowed room x ts h = level_at ts (h.0 ∷ []) h.3 (level_flat h.0 [] (allowed_flat allowed h.0.kind h.1) level_none)

argument_again : (allowed : Allowed) (room : ℕ) → Again (SpellsArgument allowed) with_last (argument_step allowed) room
unfolding argument_step
argument_again allowed room s s' x ts rest h ev a =
    let p = h.0 in
    let f = flat_piece p (allowed_flat allowed p.kind h.1) in
    let same : s ++ x ∷ [] ≡ s' = some_is (s ++ x ∷ []) s' a in
    record {
      first = p;
      inner = [];
      whole = h.3;
      next = flat_next room p rest f;
      goes = f.close;
      steps =
          cond-true (is_allowed allowed p.kind) (Ok (s ++ term_of p ∷ [], rest)) (Err (faults.Form p.span)) h.1
          ∙ (λ i. Ok (s ++ sym h.2 i ∷ [], rest))
          ∙ ap (λ (xs : List Term). Ok (xs, rest)) same;
    }

-- ---- uses

-- what was read behind a name
pub record UseTook (allowed : Allowed) (room : ℕ) (u : Use) (front : Span) (head : Piece) (items rest : List Item) : Type 0 where
  pub args : List Term
  pub inner : List Piece
  pub last : Piece
  pub closes : IsClose last
  pub whole : items ≡ toks inner (tok last ∷ rest)
  pub spelled : Chain (SpellsArgument allowed) args inner
  pub even : Even room inner
  pub is : u ≡ use_of head args (around front last.span)

pub use_takes : (allowed : Allowed) (room : ℕ) (front : Span) (head : Piece) (items : List Item) (u : Use) (rest : List Item) → use_end allowed room front head items ≡ Ok (u, rest) → UseTook allowed room u front head items rest
unfolding use_end
use_takes allowed room front head items u rest e =
    let step = argument_step allowed in
    let a = bind_ok (until_close step room (length items) [] items) (λ xs. Ok (use_of head xs.0.0 (around front xs.0.1), xs.1)) (u, rest) e in
    let both = ok_is (use_of head a.0.0.0 (around front a.0.0.1), a.0.1) (u, rest) a.2 in
    let t = until_takes (SpellsArgument allowed) with_last step room (argument_takes allowed room) (length items) [] a.0.0.0 a.0.0.1 items a.0.1 a.1 in
    record {
      args = a.0.0.0;
      inner = t.inner;
      last = t.last;
      closes = t.closes;
      whole = t.whole ∙ ap (λ (x : Use × List Item). toks t.inner (tok t.last ∷ x.1)) both;
      spelled = subst (λ (xs : List Term). Chain (SpellsArgument allowed) xs t.inner) (added_all t.things a.0.0.0 t.adds) t.spelled;
      even = t.even;
      is = sym (ap (λ (x : Use × List Item). x.0) both) ∙ (λ i. use_of head a.0.0.0 (around front (sym t.place i)));
    }

pub use_again :
    (allowed : Allowed) (room : ℕ) (front : Span) (head k : Piece) (args : List Term) (inner : List Piece) (rest : List Item) → IsClose k → Chain (SpellsArgument allowed) args inner
    → use_end allowed room front head (toks inner (tok k ∷ rest)) ≡ Ok (use_of head args (around front k.span), rest)
unfolding use_end
use_again allowed room front head k args inner rest e h =
    let step = argument_step allowed in
    let left = toks inner (tok k ∷ rest) in
    ap (λ (r : Read (List Term × Span)). r >>= λ xs. Ok (use_of head xs.0.0 (around front xs.0.1), xs.1))
    (until_again (SpellsArgument allowed) with_last step room (argument_levels allowed room) (argument_again allowed room) (length left) [] args args inner k rest h (args_even allowed room args inner h) (added_last [] args) e (enough inner k rest))

pub use_spelled :
    (allowed : Allowed) (u : Use) (s : Span) (head k first : Piece) (args : List Term) (inner : List Piece) → u ≡ use_of head args (around s k.span) → IsPlain head → IsOpen first → IsClose k → first.span ≡ s
    → Chain (SpellsArgument allowed) args inner → SpellsUse allowed u (first ∷ ((head ∷ inner) ++ k ∷ []))
use_spelled allowed u s head k first args inner e plain opens close place chain =
    let same : args ≡ u.args = sym (ap (λ (v : Use). v.args) e) in (
      head,
      inner,
      plain,
      record { first = first; last = k; opens = opens; closes = close; place = ap (λ (v : Use). v.span) e ∙ (λ i. around (sym place i) k.span); whole = refl },
      ap (λ (v : Use). v.head) e,
      subst (λ (xs : List Term). Chain (SpellsArgument allowed) xs inner) same chain,
    )

-- what is spelled as a use is this use
pub use_made : (allowed : Allowed) (u : Use) (ts : List Piece) → (h : SpellsUse allowed u ts) → use_of h.0 u.args (around h.3.first.span h.3.last.span) ≡ u
use_made allowed u ts h = λ i. record { head = sym h.4 i; args = u.args; span = sym h.3.place i }

-- a use with its parentheses
pub use_form_takes : (allowed : Allowed) (room : ℕ) (items : List Item) (u : Use) (rest : List Item) → use_form allowed room items ≡ Ok (u, rest) → Opened (SpellsUse allowed) room u items rest
unfolding use_form
use_form_takes allowed room items u rest e =
    let a = bind_ok (open_of room items) (λ o. plain_of (room - 1) o.1 >>= λ n. use_end allowed (room - 1) o.0.span n.0 n.1) (u, rest) e in
    let n = bind_ok (plain_of (room - 1) a.0.1) (λ n. use_end allowed (room - 1) a.0.0.span n.0 n.1) (u, rest) a.2 in
    let o = token_takes (λ q. is_open q.kind) room a.0.0 items a.0.1 a.1 in
    let opening = open_kind a.0.0.kind o.fits in
    let some : 0 < room = o.room_left o.fits in
    let under : suc (room - 1) ≡ room = omega (arith, some) in
    let m = token_takes is_plain (room - 1) n.0.0 a.0.1 n.0.1 n.1 in
    let t = use_takes allowed (room - 1) a.0.0.span n.0.0 n.0.1 u rest n.2 in
    let body = n.0.0 ∷ t.inner in
    let inner = a.0.0 ∷ (body ++ t.last ∷ []) in
    let w : Wrapped (around a.0.0.span t.last.span) body inner = record { first = a.0.0; last = t.last; opens = opening; closes = t.closes; place = refl; whole = refl } in
    record {
      inner = inner;
      whole = o.whole ∙ ap (λ (is : List Item). tok a.0.0 ∷ is) (m.whole ∙ ap (λ (is : List Item). tok n.0.0 ∷ is) (t.whole ∙ toks_last t.inner t.last rest));
      spelled = use_spelled allowed u a.0.0.span n.0.0 t.last a.0.0 t.args t.inner t.is m.fits opening t.closes refl t.spelled;
      even = subst (λ n. Even n inner) under (even_wrapped (room - 1) (around a.0.0.span t.last.span) body inner w (after_name (room - 1) n.0.0 t.inner (plain_name n.0.0 m.fits) ∙ t.even));
    }

use_form_step : (allowed : Allowed) (room : ℕ) (o n : Piece) (items r1 r2 r3 : List Item) (u : Use) → open_of room items ≡ Ok (o, r1) → plain_of (room - 1) r1 ≡ Ok (n, r2) → use_end allowed (room - 1) o.span n r2 ≡ Ok (u, r3) → use_form allowed room items ≡ Ok (u, r3)
unfolding use_form
use_form_step allowed room o n items r1 r2 r3 u e1 e2 e3 = rw (e1, e2) e3

pub use_form_again : (allowed : Allowed) (room : ℕ) (u : Use) (ts : List Piece) (rest : List Item) → SpellsUse allowed u ts → Even room ts → use_form allowed room (toks ts rest) ≡ Ok (u, rest)
use_form_again allowed room u ts rest h ev =
    let v = h.3 in
    let n = h.0 in
    let inner = h.1 in
    let left = toks inner (tok v.last ∷ rest) in
    let some : 0 < room = even_open room v.first ((n ∷ inner) ++ v.last ∷ []) v.opens (ap (room_after room) (sym v.whole) ∙ ev) in
    ap (λ (ps : List Piece). use_form allowed room (toks ps rest)) v.whole
    ∙ ap (λ (is : List Item). use_form allowed room (tok v.first ∷ tok n ∷ is)) (sym (toks_last inner v.last rest))
    ∙ use_form_step allowed room v.first n (tok v.first ∷ tok n ∷ left) (tok n ∷ left) left rest (use_of n u.args (around v.first.span v.last.span))
    (open_again room v.first (tok n ∷ left) v.opens some) (plain_again (room - 1) n left h.2) (use_again allowed (room - 1) v.first.span n v.last u.args inner rest v.closes h.5)
    ∙ ap (λ (w : Use). Ok (w, rest)) (use_made allowed u ts h)
