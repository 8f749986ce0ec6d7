-- A list of names with their types that is read is spelled so, and one that is spelled is read.
use Rattle.std.proofs.Common.{◌≡◌, ℕ, suc, ◌-◌, ◌<◌, Bool, true, false, not, cond, List, [], ◌∷◌, ◌++◌, length, Some, None, Ok, Err, refl, sym, ap, ◌∙◌, subst, arith}
use Rattle.std.specs.Prelude.{◌&&◌, ◌==◌}
use Rattle.std.proofs.lemmas.Bool.{cond-false, cond-true, and_parts}
use Rattle.plus_tokens.specs.declared.token.Kind.{Kind}
use Rattle.plus_tokens.specs.declared.token.Kind.TheVariants as kinds
use Rattle.plus_tokens.specs.declared.token.Op.{Op}
use Rattle.plus_tokens.specs.declared.token.Op.TheVariants as ops
use Rattle.plus_tokens.specs.declared.span.Span.{Span}
use Rattle.plus_tree.specs.declared.terms.TypedName.{TypedName}
use Rattle.plus_tree.specs.declared.faults.TextFault.TheVariants as faults
use Rattle.plus_parser.specs.declared.phrases.words.Allowed.{Allowed}
use Rattle.plus_parser.specs.declared.phrases.words.Allowed.TheVariants as allows
use Rattle.plus_tokens.specs.Items.{Piece, Item, tok}
use Rattle.plus_parser.specs.Phrases.Reading.{◌>>=◌, Read, is_open}
use Rattle.plus_parser.specs.Phrases.Words.{is_close, is_name, is_term, is_variable, is_allowed, is_minus_op, is_minus}
use Rattle.plus_parser.specs.Phrases.Grammar.{around, spelled_of, named_of, open_of, name_of, until_close, Listing, no_names, typed_by, type_of_waiting, list_step, all_typed, list_of, variables_of}
use Rattle.plus_parser.specs.Phrases.Spells.{IsClose, IsName, Wrapped, l_name, l_type, SpellsListPart, with_list_part, SpellsListing, SpellsList, SpellsVariables}
use Rattle.plus_parser.proofs.PhraseLemmas.Tokens.{toks, toks_last, enough, bind_ok, ok_is, next_again, open_kind, token_takes, token_again}
use Rattle.plus_parser.proofs.PhraseLemmas.Names.{name_kind}
use Rattle.plus_parser.proofs.PhraseLemmas.Level.{Even, Level, is_flat, after_flat, level_flat, level_at, level_none, level_wrapped, split_wrapped, even_wrapped, allowed_flat}
use Rattle.plus_parser.proofs.PhraseLemmas.Flat.{flat_piece, flat_next}
use Rattle.plus_parser.proofs.PhraseLemmas.UntilTakes.{Took, Takes, until_takes}
use Rattle.plus_parser.proofs.PhraseLemmas.UntilAgain.{Again, Levels, level_chain, until_again}
use Rattle.plus_parser.proofs.PhraseLemmas.Forms.{let_through, some_is}
use Rattle.plus_parser.proofs.PhraseLemmas.Starts.{open_again, Opened}

minus_op_is : (op : Op) → is_minus_op op ≡ true → op ≡ ops.Minus
minus_op_is ops.Minus e = refl
minus_op_is _ e = absurd cc

pub minus_is : (k : Kind) → is_minus k ≡ true → k ≡ kinds.Op ops.Minus
minus_is (kinds.Op op) e = ap kinds.Op (minus_op_is op e)
minus_is _ e = absurd cc

name_flat : (p : Piece) → IsName p → is_flat p.kind ≡ true
name_flat p e = ap is_flat e

not_true : (b : Bool) → not b ≡ true → b ≡ false
not_true true e = absurd cc
not_true false e = refl

-- a sign is no term
sign_no_term : (allowed : Allowed) (k : Kind) → k ≡ kinds.Op ops.Minus → is_allowed allowed k ≡ false
sign_no_term allows.Terms k e = ap is_term e
sign_no_term allows.Variables k e = ap is_variable e
sign_no_term allows.Names k e = ap is_name e

module _ (allowed : Allowed) (room : ℕ) where
  pub part_takes : Takes (SpellsListPart allowed) with_list_part (list_step allowed room) room
  unfolding list_step
  part_takes s s' p r r' left e = at_name (is_allowed allowed p.kind) refl e
    where
      at_minus : (b : Bool) → (is_minus p.kind && not (length s.waiting == 0)) ≡ b → cond b (type_of_waiting room s r) (Err (faults.Form p.span)) ≡ Ok (s', r') → Took (SpellsListPart allowed) with_list_part (list_step allowed room) room s s' p r r'
      at_minus false m e = absurd cc
      at_minus true m e =
          let both = and_parts (is_minus p.kind) (not (length s.waiting == 0)) m in
          let some = not_true (length s.waiting == 0) both.1 in
          let a = bind_ok (name_of room r) (λ n. Ok (typed_by (spelled_of n.0) s, n.1)) (s', r') e in
          let n = a.0.0 in
          let made = typed_by (spelled_of n) s in
          let done = ok_is (made, a.0.1) (s', r') a.2 in
          let w = token_takes (λ q. is_name q.kind) room n r a.0.1 a.1 in
          let is = name_kind n.kind w.fits in
          let sign = minus_is p.kind both.0 in
          record {
            thing = l_type (spelled_of n);
            inner = n ∷ [];
            whole = w.whole ∙ ap (λ (x : Listing × List Item). tok n ∷ x.1) done;
            spelled = (p, n, sign, is, refl, refl);
            adds = cond-false (length s.waiting == 0) None (Some made) some ∙ ap (λ (x : Listing × List Item). Some x.0) done;
            even = after_flat room p (n ∷ []) (ap is_flat sign) ∙ after_flat room n [] (name_flat n is);
          }

      at_name : (b : Bool) → is_allowed allowed p.kind ≡ b
          → cond b (Ok (record s { waiting = s.waiting ++ named_of p ∷ [] }, r)) (cond (is_minus p.kind && not (length s.waiting == 0)) (type_of_waiting room s r) (Err (faults.Form p.span))) ≡ Ok (s', r')
          → Took (SpellsListPart allowed) with_list_part (list_step allowed room) room s s' p r r'
      at_name false k e = at_minus (is_minus p.kind && not (length s.waiting == 0)) refl e
      at_name true k e =
          let made = record s { waiting = s.waiting ++ named_of p ∷ [] } in
          let both = ok_is (made, r) (s', r') e in
          record {
            thing = l_name (named_of p);
            inner = [];
            whole = ap (λ (x : Listing × List Item). x.1) both;
            spelled = (p, k, refl, refl);
            adds = ap (λ (x : Listing × List Item). Some x.0) both;
            even = after_flat room p [] (allowed_flat allowed p.kind k);
          }

  pub part_levels : Levels (SpellsListPart allowed) with_list_part (list_step allowed room) room
  part_levels (l_name x) ts h = level_at ts (h.0 ∷ []) h.3 (level_flat h.0 [] (allowed_flat allowed h.0.kind h.1) level_none)
  part_levels (l_type x) ts h = level_at ts (h.0 ∷ h.1 ∷ []) h.5 (level_flat h.0 (h.1 ∷ []) (ap is_flat h.2) (level_flat h.1 [] (name_flat h.1 h.3) level_none))

  pub part_again : Again (SpellsListPart allowed) with_list_part (list_step allowed room) room
  unfolding list_step
  part_again s s' (l_name x) ts rest h ev a =
      let p = h.0 in
      let made = record s { waiting = s.waiting ++ x ∷ [] } in
      let f = flat_piece p (allowed_flat allowed p.kind h.1) in
      let same : made ≡ s' = some_is made s' a in
      record {
        first = p;
        inner = [];
        whole = h.3;
        next = flat_next room p rest f;
        goes = f.close;
        steps =
            cond-true (is_allowed allowed p.kind) (Ok (record s { waiting = s.waiting ++ named_of p ∷ [] }, rest)) (cond (is_minus p.kind && not (length s.waiting == 0)) (type_of_waiting room s rest) (Err (faults.Form p.span))) h.1
            ∙ (λ i. Ok (record s { waiting = s.waiting ++ sym h.2 i ∷ [] }, rest))
            ∙ ap (λ (l : Listing). Ok (l, rest)) same;
      }
  part_again s s' (l_type x) ts rest h ev a =
      let m = h.0 in
      let n = h.1 in
      let made = typed_by x s in
      let g = let_through (length s.waiting == 0) made s' a in
      let left = tok n ∷ rest in
      record {
        first = m;
        inner = n ∷ [];
        whole = h.5;
        next = next_again room m left (ap is_open h.2);
        goes = ap is_close h.2;
        steps =
            cond-false (is_allowed allowed m.kind) (Ok (record s { waiting = s.waiting ++ named_of m ∷ [] }, left)) (cond (is_minus m.kind && not (length s.waiting == 0)) (type_of_waiting room s left) (Err (faults.Form m.span))) (sign_no_term allowed m.kind h.2)
            ∙ cond-true (is_minus m.kind && not (length s.waiting == 0)) (type_of_waiting room s left) (Err (faults.Form m.span)) (ap (λ k. is_minus k && not (length s.waiting == 0)) h.2 ∙ ap not g.0)
            ∙ ap (λ (q : Read Piece). q >>= λ n. Ok (typed_by (spelled_of n.0) s, n.1)) (token_again (λ q. is_name q.kind) room n rest (ap is_name h.3) (λ o. absurd (let no : false ≡ true = sym (ap is_open h.3) ∙ o in cc)))
            ∙ (λ i. Ok (typed_by (sym h.4 i) s, rest))
            ∙ ap (λ (l : Listing). Ok (l, rest)) g.1;
      }

  pub level_listing : (l : Listing) (ts : List Piece) → SpellsListing allowed l ts → Level ts
  level_listing l ts h = level_chain (SpellsListPart allowed) with_list_part (list_step allowed room) room part_levels h.parts ts h.spelled

  -- what was read up to the closing parenthesis
  pub record ListingTook (l : Listing) (k : Span) (items rest : List Item) : Type 0 where
    pub inner : List Piece
    pub last : Piece
    pub closes : IsClose last
    pub place : last.span ≡ k
    pub whole : items ≡ toks inner (tok last ∷ rest)
    pub spelled : SpellsListing allowed l inner
    pub even : Even room inner

  pub listing_takes : (items : List Item) (l : Listing) (k : Span) (rest : List Item) → until_close (list_step allowed room) room (length items) no_names items ≡ Ok ((l, k), rest) → ListingTook l k items rest
  listing_takes items l k rest e =
      let t = until_takes (SpellsListPart allowed) with_list_part (list_step allowed room) room part_takes (length items) no_names l k items rest e in
      record { inner = t.inner; last = t.last; closes = t.closes; place = t.place; whole = t.whole; spelled = record { parts = t.things; spelled = t.spelled; typed = t.adds }; even = t.even }

  pub listing_again : (l : Listing) (ts : List Piece) (last : Piece) (rest : List Item) → SpellsListing allowed l ts → Even room ts → IsClose last → until_close (list_step allowed room) room (length (toks ts (tok last ∷ rest))) no_names (toks ts (tok last ∷ rest)) ≡ Ok ((l, last.span), rest)
  listing_again l ts last rest h ev close =
      until_again (SpellsListPart allowed) with_list_part (list_step allowed room) room part_levels part_again (length (toks ts (tok last ∷ rest))) no_names l h.parts ts last rest h.spelled ev h.typed close (enough ts last rest)

  pub level_list : (xs : List TypedName) (ts : List Piece) → SpellsList allowed xs ts → Level ts
  level_list xs ts h = level_listing h.0 ts h.1

  pub record ListTook (xs : List TypedName) (k : Span) (items rest : List Item) : Type 0 where
    pub inner : List Piece
    pub last : Piece
    pub closes : IsClose last
    pub place : last.span ≡ k
    pub whole : items ≡ toks inner (tok last ∷ rest)
    pub spelled : SpellsList allowed xs inner
    pub even : Even room inner

  pub list_takes : (items : List Item) (xs : List TypedName) (k : Span) (rest : List Item) → list_of allowed room items ≡ Ok ((xs, k), rest) → ListTook xs k items rest
  unfolding list_of
  list_takes items xs k rest e =
      let a = bind_ok (until_close (list_step allowed room) room (length items) no_names items) (λ l. Ok ((all_typed l.0.0, l.0.1), l.1)) ((xs, k), rest) e in
      let both = ok_is ((all_typed a.0.0.0, a.0.0.1), a.0.1) ((xs, k), rest) a.2 in
      let t = listing_takes items a.0.0.0 a.0.0.1 a.0.1 a.1 in
      record {
        inner = t.inner;
        last = t.last;
        closes = t.closes;
        place = t.place ∙ ap (λ (x : (List TypedName × Span) × List Item). x.0.1) both;
        whole = t.whole ∙ ap (λ (x : (List TypedName × Span) × List Item). toks t.inner (tok t.last ∷ x.1)) both;
        spelled = (a.0.0.0, t.spelled, ap (λ (x : (List TypedName × Span) × List Item). x.0.0) both);
        even = t.even;
      }

  pub list_again : (xs : List TypedName) (ts : List Piece) (last : Piece) (rest : List Item) → SpellsList allowed xs ts → Even room ts → IsClose last → list_of allowed room (toks ts (tok last ∷ rest)) ≡ Ok ((xs, last.span), rest)
  unfolding list_of
  list_again xs ts last rest h ev close =
      ap (λ (q : Read (Listing × Span)). q >>= λ l. Ok ((all_typed l.0.0, l.0.1), l.1)) (listing_again h.0 ts last rest h.1 ev close)
      ∙ ap (λ (ys : List TypedName). Ok ((ys, last.span), rest)) h.2

-- ---- variables in parentheses

pub level_variables : (vs : List TypedName) (ts : List Piece) → SpellsVariables vs ts → Level ts
level_variables vs ts h = level_wrapped h.0 h.1 ts h.2 (level_list allows.Variables 0 vs h.1 h.3)

pub variables_takes : (room : ℕ) (items : List Item) (vs : List TypedName) (rest : List Item) → variables_of room items ≡ Ok (vs, rest) → Opened SpellsVariables room vs items rest
unfolding variables_of
variables_takes room items vs rest e =
    let a = bind_ok (open_of room items) (λ o. list_of allows.Variables (room - 1) o.1 >>= λ l. Ok (l.0.0, l.1)) (vs, rest) e in
    let b = bind_ok (list_of allows.Variables (room - 1) a.0.1) (λ l. Ok (l.0.0, l.1)) (vs, rest) a.2 in
    let both = ok_is (b.0.0.0, b.0.1) (vs, rest) b.2 in
    let o = token_takes (λ q. is_open q.kind) room a.0.0 items a.0.1 a.1 in
    let opens = open_kind a.0.0.kind o.fits in
    let some : 0 < room = o.room_left o.fits in
    let under : suc (room - 1) ≡ room = omega (arith, some) in
    let t = list_takes allows.Variables (room - 1) a.0.1 b.0.0.0 b.0.0.1 b.0.1 b.1 in
    let s = around a.0.0.span t.last.span in
    let inner = a.0.0 ∷ (t.inner ++ t.last ∷ []) in
    let w : Wrapped s t.inner inner = record { first = a.0.0; last = t.last; opens = opens; closes = t.closes; place = refl; whole = refl } in
    record {
      inner = inner;
      whole = o.whole ∙ ap (λ (is : List Item). tok a.0.0 ∷ is) (t.whole ∙ toks_last t.inner t.last b.0.1) ∙ ap (λ (x : List TypedName × List Item). toks inner x.1) both;
      spelled = subst (λ (x : List TypedName × List Item). SpellsVariables x.0 inner) both (s, t.inner, w, t.spelled);
      even = subst (λ n. Even n inner) under (even_wrapped (room - 1) s t.inner inner w t.even);
    }

variables_step : (room : ℕ) (o : Piece) (vs : List TypedName) (k : Span) (items r1 r2 : List Item) → open_of room items ≡ Ok (o, r1) → list_of allows.Variables (room - 1) r1 ≡ Ok ((vs, k), r2) → variables_of room items ≡ Ok (vs, r2)
unfolding variables_of
variables_step room o vs k items r1 r2 e1 e2 = rw (e1, e2) refl

pub variables_again : (room : ℕ) (vs : List TypedName) (ts : List Piece) (rest : List Item) → SpellsVariables vs ts → Even room ts → variables_of room (toks ts rest) ≡ Ok (vs, rest)
variables_again room vs ts rest h ev =
    let w = h.2 in
    let inner = h.1 in
    let split = split_wrapped room h.0 inner ts w (level_list allows.Variables 0 vs inner h.3) ev in
    let some : 0 < room = omega (arith, split.1) in
    let less : split.0 ≡ room - 1 = omega (arith, split.1) in
    let inside : Even (room - 1) inner = subst (λ n. Even n inner) less split.2 in
    let left = toks inner (tok w.last ∷ rest) in
    ap (λ (ps : List Piece). variables_of room (toks ps rest)) w.whole
    ∙ ap (λ (is : List Item). variables_of room (tok w.first ∷ is)) (sym (toks_last inner w.last rest))
    ∙ variables_step room w.first vs w.last.span (tok w.first ∷ left) left rest (open_again room w.first left w.opens some) (list_again allows.Variables (room - 1) vs inner w.last rest h.3 inside w.closes)
