-- The place of a refusal, from the table.
use Rattle.std.proofs.Common.{◌≡◌, ℕ, zero, suc, ◌+◌, ◌-◌, ◌<◌, ◌≤◌, true, cond, List, [], ◌∷◌, ◌++◌, length, drop, Some, None, Result, Ok, Err, refl, sym, ap, ◌∙◌, subst, arith, inl, inr, zero-add, length-append}
use Rattle.std.specs.Prelude.{◌⊎◌, ◌&&◌, ◌==◌, map, IfErr, MatchResult}
use Rattle.std.proofs.lemmas.List.{append-nil, map-append}
use Rattle.std.proofs.Math.Seq.{drop-append_seam}
use Rattle.plus_tokens.specs.declared.token.LexFault.{LexFault}
use Rattle.plus_tree.specs.declared.faults.TextFault.{TextFault}
use Rattle.plus_tree.specs.declared.faults.TextFault.TheVariants as faults
use Rattle.plus_tokens.specs.Items.{Piece, Item, tok, bad, items_of}
use Rattle.plus_parser.specs.Phrases.Reading.{◌>>=◌, is_open, Fails}
use Rattle.plus_parser.specs.Phrases.Spells.{IsOpen, room_after, FitsDepth}
use Rattle.plus_parser.specs.ReadingDomain.{end_of}
use Rattle.plus_parser.proofs.PhraseLemmas.Tokens.{ok_is, open_kind}
use Rattle.plus_parser.proofs.Sections.{end_takes, end_again}
use Rattle.plus_places.specs.declared.symbols.Symbol.{Symbol}
use Rattle.plus_places.specs.Table.{Wanted, step, run_with, run}
use Rattle.plus_places.proofs.Goes.{room_next, Rest, taken, goes}
use Rattle.plus_places.specs.Place.{Begins, RefusedBehind, IsPlace, Refuses}
use Rattle.plus_places.proofs.Runs.{full, fits, run_then, run_none, all_end, finish_all, err_is, some_is, Stop, stops, Done, ends, goes_front, goes_all}
use Rattle.plus_places.proofs.Bottom.{Grounded, room_left}
use Rattle.plus_places.proofs.Finish.{finish}
use Rattle.plus_places.proofs.Finished.{finishing_tokens}
use Rattle.plus_places.proofs.Texts.{fronts, words, words_ended, words_read, placed}
use Rattle.plus_places.proofs.Spans.{run_placed}
use Rattle.plus_places.proofs.Finish as finishing

one_behind : (before : List Piece) (p : Piece) (rest : List Item) → map tok (before ++ p ∷ []) ++ rest ≡ map tok before ++ tok p ∷ rest
one_behind [] p rest = refl
one_behind (q ∷ before) p rest = ap (λ (is : List Item). tok q ∷ is) (one_behind before p rest)

same_tokens : (a b : List Piece) → map tok a ≡ map tok b → a ≡ b
same_tokens [] [] e = refl
same_tokens [] (q ∷ b) e = absurd cc
same_tokens (p ∷ a) [] e = absurd cc
same_tokens (p ∷ a) (q ∷ b) e =
    let first : p ≡ q = cc in
    let rest : map tok a ≡ map tok b = cc in
    (λ i. first i ∷ same_tokens a b rest i)

-- the whole: the table, and then nothing
abbrev pub whole : List Symbol → ℕ → List Item → Rest
whole start depth items = goes depth start items >>= end_of

abbrev pub nothing : {A : Type 0} → A → Rest
nothing x = Ok []

-- ---- the table at a place

run_nothing : (p : Piece) → run [] (p ∷ []) ≡ None
unfolding run
run_nothing p = refl

goes_nothing : (room : ℕ) → goes room [] [] ≡ Ok []
unfolding goes
goes_nothing room = refl

at_bad : (f : LexFault) (more : List Item) (over : ℕ) (left : List Symbol) → (goes over left (bad f ∷ more) >>= end_of) ≡ Err (faults.Lex f)
unfolding goes end_of
at_bad f more over [] = refl
at_bad f more over (s ∷ st) = refl

at_deep : (p : Piece) (more : List Item) (over : ℕ) (left : List Symbol) → IsOpen p → over ≡ 0 → (left ≡ [] → ⊥) → (goes over left (tok p ∷ more) >>= end_of) ≡ Err (faults.Depth p.span.start)
unfolding goes
at_deep p more over [] o z n = absurd (n refl)
at_deep p more over (s ∷ st) o z n =
    let is : full over p ≡ true = (λ i. is_open (o i) && (z i == 0)) in
    ap (λ b. cond {A = Rest} b (Err (faults.Depth p.span.start)) (taken (step s p) p (λ ks. goes (room_next p.kind over) (ks ++ st) more)) >>= end_of) is

at_form : (p : Piece) (more : List Item) (over : ℕ) (left : List Symbol) → (is_open p.kind ≡ true → 0 < over) → run left (p ∷ []) ≡ None → (goes over left (tok p ∷ more) >>= end_of) ≡ Err (faults.Form p.span)
unfolding goes run end_of
at_form p more over [] lt r = refl
at_form p more over (s ∷ st) lt r =
    ap (λ b. cond {A = Rest} b (Err (faults.Depth p.span.start)) (taken (step s p) p (λ ks. goes (room_next p.kind over) (ks ++ st) more)) >>= end_of) (fits over p lt)
    ∙ at_wanted (step s p) r
  where
    at_wanted : (w : Wanted) → run_with w (λ ks. run (ks ++ st) []) ≡ None → (taken w p (λ ks. goes (room_next p.kind over) (ks ++ st) more) >>= end_of) ≡ Err (faults.Form p.span)
    at_wanted None r = refl
    at_wanted (Some ks) r = absurd cc

at_end : (over : ℕ) (left : List Symbol) → (left ≡ [] → ⊥) → (goes over left [] >>= end_of) ≡ Err faults.Unclosed
unfolding goes
at_end over [] n = absurd (n refl)
at_end over (s ∷ st) n = refl

-- ---- a language: its tokens, its symbols, and its reader with room inside two parentheses, which the table follows

module _
    {Tree : Type 0} (Tokens : Tree → List Piece → Type 0) (start : List Symbol) (read : ℕ → List Item → Result Tree TextFault)
    (follow : (room : ℕ) (items : List Item) → whole start (suc (suc room)) items ≡ (read room items >>= nothing))
    (takes : (room : ℕ) (items : List Item) (x : Tree) → read room items ≡ Ok x → (ts : List Piece) × (items ≡ map tok ts) × Tokens x ts × FitsDepth (suc (suc room)) ts)
    (again : (x : Tree) (ts : List Piece) (room : ℕ) → length ts ≤ room → Tokens x ts → read room (map tok ts) ≡ Ok x) (grounded : Grounded start) where
  -- ---- what is read, what is run, what is spelled

  read_ok : (room : ℕ) (items : List Item) → whole start (suc (suc room)) items ≡ Ok [] → (p : Tree) × (read room items ≡ Ok p)
  read_ok room items e = at_read (read room items) refl (sym (follow room items) ∙ e)
    where
      at_read : (r : Result Tree TextFault) → read room items ≡ r → (r >>= nothing) ≡ Ok [] → (p : Tree) × (read room items ≡ Ok p)
      at_read (Ok p) is e = (p, is)
      at_read (Err f) is e = absurd cc

  read_err : (room : ℕ) (items : List Item) (f : TextFault) → whole start (suc (suc room)) items ≡ Err f → read room items ≡ Err f
  read_err room items f e = at_read (read room items) refl (sym (follow room items) ∙ e)
    where
      at_read : (r : Result Tree TextFault) → read room items ≡ r → (r >>= nothing) ≡ Err f → read room items ≡ Err f
      at_read (Ok p) is e = absurd cc
      at_read (Err g) is e = is ∙ ap (λ g. Err g) (err_is g f e)

  -- all tokens are run
  whole_runs : (room : ℕ) (ts : List Piece) → whole start room (map tok ts) ≡ Ok [] → run start ts ≡ Some []
  whole_runs room ts e = at_rest (goes room start (map tok ts)) refl e
    where
      at_rest : (r : Rest) → goes room start (map tok ts) ≡ r → (r >>= end_of) ≡ Ok [] → run start ts ≡ Some []
      at_rest (Err f) is e = absurd cc
      at_rest (Ok rest) is e =
          let d = ends (map tok ts) room start rest is in
          let none = end_takes rest [] e in
          ap (run start) (same_tokens ts d.before (d.whole ∙ ap (λ (r : List Item). map tok d.before ++ r) none ∙ append-nil (map tok d.before))) ∙ d.runs

  pub spells_run : (p : Tree) (ts : List Piece) → Tokens p ts → run start ts ≡ Some []
  spells_run p ts t = whole_runs (suc (suc (length ts))) ts (follow (length ts) (map tok ts) ∙ ap (λ (r : Result Tree TextFault). r >>= nothing) (again p ts (length ts) (omega arith) t))

  -- tokens that the table reads at a depth are a problem that fits in it
  pub record Spelled (room : ℕ) (ts : List Piece) : Type 0 where
    pub tree : Tree
    pub tokens : Tokens tree ts

  whole_spells : (room : ℕ) (ts : List Piece) → goes (suc (suc room)) start (map tok ts) ≡ Ok [] → Spelled room ts
  whole_spells room ts e =
      let r = read_ok room (map tok ts) (ap (λ (r : Rest). r >>= end_of) e ∙ end_again) in
      let t = takes room (map tok ts) r.0 r.1 in
      let same = same_tokens t.0 ts (sym t.1) in
      record { tree = r.0; tokens = subst (Tokens r.0) same t.2 }

  pub run_spells : (ts : List Piece) → run start ts ≡ Some [] → Spelled (length ts) ts
  run_spells ts e = whole_spells (length ts) ts (goes_all ts (suc (suc (length ts))) start (omega arith) e)

  -- tokens of a text that are run begin a text of the grammar: that text's front up to them, and the words of those that
  -- bring what is left to its end
  begins : (text : List ℕ) (before : List Piece) (rest : List Item) (left : List Symbol) → items_of text ≡ map tok before ++ rest → run start before ≡ Some left → Begins Tokens before
  begins text before rest left whole r =
      let f = fronts before text 0 rest (omega arith) whole in
      let ends = finish_all finish finishing.ends left in
      let other = f.front ++ words ends in
      let at = 0 + length f.front in
      let here : drop at other ≡ words ends = ap (λ n. drop n other) (zero-add (length f.front)) ∙ drop-append_seam f.front (words ends) in
      let inside : at ≤ length other = omega (arith, length-append f.front (words ends)) in
      let items = f.reads other (words ends) (words_ended ends) (omega arith) refl ∙ ap (λ is. map tok before ++ is) (words_read ends other at inside here (finishing_tokens left)) ∙ sym (map-append tok before (placed at ends)) in
      let s = run_spells (before ++ placed at ends) (run_then before (placed at ends) start left r ∙ run_placed ends at left ∙ all_end finish finishing.ends left) in
      record { text = other; more = placed at ends; tree = s.tree; items = items; tokens = s.tokens }

  none_begins : (ts : List Piece) → run start ts ≡ None → Begins Tokens ts → ⊥
  none_begins ts e b =
      let h : Some [] ≡ None = sym (spells_run b.tree (ts ++ b.more) b.tokens) ∙ run_none ts b.more start e in cc

  begun : (ts : List Piece) → Begins Tokens ts → (left : List Symbol) × (run start ts ≡ Some left)
  begun ts b = at_run (run start ts) refl
    where
      at_run : (w : Wanted) → run start ts ≡ w → (left : List Symbol) × (run start ts ≡ Some left)
      at_run None e = absurd (none_begins ts e b)
      at_run (Some left) e = (left, e)

  none_runs : (text : List ℕ) (ts : List Piece) (rest : List Item) → items_of text ≡ map tok ts ++ rest → (Begins Tokens ts → ⊥) → run start ts ≡ None
  none_runs text ts rest whole never = at_run (run start ts) refl
    where
      at_run : (w : Wanted) → run start ts ≡ w → run start ts ≡ None
      at_run None e = e
      at_run (Some left) e = absurd (never (begins text ts rest left whole e))

  -- ---- what is spelled, and not too deep, is read; and what is read, is so

  pub one_tree : (x y : Tree) (ts : List Piece) → Tokens x ts → Tokens y ts → x ≡ y
  one_tree x y ts h k =
      let both : tree x ≡ tree y = sym (again x ts (length ts) (omega arith) h) ∙ again y ts (length ts) (omega arith) k in ok_is x y both
    where
      tree : Tree → Result Tree TextFault
      tree x = Ok x

  pub complete : (room over : ℕ) (x : Tree) (ts : List Piece) → Tokens x ts → room_after (suc (suc room)) ts ≡ Some over → read room (map tok ts) ≡ Ok x
  complete room over x ts t l =
      let all = ap (goes (suc (suc room)) start) (sym (append-nil (map tok ts))) ∙ goes_front ts (suc (suc room)) over start [] [] (spells_run x ts t) l ∙ goes_nothing over in
      let r = read_ok room (map tok ts) (ap (λ (r : Rest). r >>= end_of) all ∙ end_again) in
      let s = takes room (map tok ts) r.0 r.1 in
      r.1 ∙ ap (λ y. Ok y) (one_tree r.0 x ts (subst (Tokens r.0) (same_tokens s.0 ts (sym s.1)) s.2) t)

  -- ---- a refusal has its place

  module _ (room : ℕ) (text : List ℕ) where
    abbrev depth : ℕ
    depth = suc (suc room)

    abbrev items : List Item
    items = items_of text

    at_stop : (e : TextFault) (s : Stop depth start items e) → RefusedBehind Tokens e s.before s.over s.rest → IsPlace Tokens depth text e
    at_stop e s refused = record {
      before = s.before;
      rest = s.rest;
      room = s.over;
      whole = s.whole;
      within = s.leaves;
      begins = begins text s.before s.rest s.left s.whole s.runs;
      refused = refused;
    }

    stop_place : (e : TextFault) → Stop depth start items e → IsPlace Tokens depth text e
    stop_place (faults.Lex f) s = at_stop (faults.Lex f) s s.tail
    stop_place (faults.Depth at) s = at_stop (faults.Depth at) s s.tail
    stop_place (faults.Form k) s =
        let t = s.tail in
        let none = run_then s.before (t.0 ∷ []) start s.left s.runs ∙ t.5 in
        at_stop (faults.Form k) s (t.0, t.1, t.2, (λ o. t.3 (ap is_open o)), t.4, none_begins (s.before ++ t.0 ∷ []) none)
    stop_place faults.Unclosed s =
        at_stop faults.Unclosed s (s.tail.0, (λ p t. s.tail.1 (some_is s.left [] (sym s.runs ∙ spells_run p s.before t))))
    stop_place faults.Memory s = absurd s.tail

    at_done : (e : TextFault) (rest : List Item) (d : Done depth start items rest) → RefusedBehind Tokens e d.before d.over rest → IsPlace Tokens depth text e
    at_done e rest d refused = record {
      before = d.before;
      rest = rest;
      room = d.over;
      whole = d.whole;
      within = d.leaves;
      begins = begins text d.before rest [] d.whole d.runs;
      refused = refused;
    }

    -- behind the whole of a text of the grammar
    done_place : (e : TextFault) (rest : List Item) → Done depth start items rest → end_of rest ≡ Err e → IsPlace Tokens depth text e
    unfolding end_of
    done_place e [] d h = absurd cc
    done_place e (bad f ∷ more) d h =
        subst (IsPlace Tokens depth text) (err_is (faults.Lex f) e h) (at_done (faults.Lex f) (bad f ∷ more) d (more, refl))
    done_place e (tok p ∷ more) d h =
        let none = run_then d.before (p ∷ []) start [] d.runs ∙ run_nothing p in
        subst (IsPlace Tokens depth text) (err_is (faults.Form p.span) e h)
        (at_done (faults.Form p.span) (tok p ∷ more) d
        (p, more, refl, (λ o. room_left d.before start depth d.over grounded d.runs d.leaves), refl, none_begins (d.before ++ p ∷ []) none))

    pub refused_place : (e : TextFault) → read room items ≡ Err e → IsPlace Tokens depth text e
    refused_place e h = at_rest (goes depth start items) refl (follow room items ∙ ap (λ (r : Result Tree TextFault). r >>= nothing) h)
      where
        at_rest : (r : Rest) → goes depth start items ≡ r → (r >>= end_of) ≡ Err e → IsPlace Tokens depth text e
        at_rest (Err f) is h = stop_place e (stops items depth start e (is ∙ h))
        at_rest (Ok rest) is h = done_place e rest (ends items depth start rest is) h

    -- ---- and a place is that of a refusal

    -- the table at a place
    placed_at : (e : TextFault) (h : IsPlace Tokens depth text e) (left : List Symbol) → run start h.before ≡ Some left → whole start depth items ≡ (goes h.room left h.rest >>= end_of)
    placed_at e h left r = ap (λ (is : List Item). whole start depth is) h.whole ∙ ap (λ (r : Rest). r >>= end_of) (goes_front h.before depth h.room start left h.rest r h.within)

    pub place_refused : (e : TextFault) → IsPlace Tokens depth text e → read room items ≡ Err e
    place_refused (faults.Lex f) h =
        let b = begun h.before h.begins in
        read_err room items (faults.Lex f) (placed_at (faults.Lex f) h b.0 b.1 ∙ ap (λ (r : List Item). goes h.room b.0 r >>= end_of) h.refused.1 ∙ at_bad f h.refused.0 h.room b.0)
    place_refused (faults.Depth at) h =
        let b = begun h.before h.begins in
        let t = h.refused in
        read_err room items (faults.Depth at) (placed_at (faults.Depth at) h b.0 b.1 ∙ ap (λ (r : List Item). goes h.room b.0 r >>= end_of) t.2
        ∙ at_deep t.0 t.1 h.room b.0 t.3 t.4 (λ n. let lt = room_left h.before start depth h.room grounded (b.1 ∙ ap Some n) h.within in omega (arith, lt, t.4)) ∙ ap (λ n. Err (faults.Depth n)) t.5)
    place_refused (faults.Form s) h =
        let b = begun h.before h.begins in
        let t = h.refused in
        let more : items ≡ map tok (h.before ++ t.0 ∷ []) ++ t.1 = h.whole ∙ ap (λ (r : List Item). map tok h.before ++ r) t.2 ∙ sym (one_behind h.before t.0 t.1) in
        let none = sym (run_then h.before (t.0 ∷ []) start b.0 b.1) ∙ none_runs text (h.before ++ t.0 ∷ []) t.1 more t.5 in
        read_err room items (faults.Form s) (placed_at (faults.Form s) h b.0 b.1 ∙ ap (λ (r : List Item). goes h.room b.0 r >>= end_of) t.2
        ∙ at_form t.0 t.1 h.room b.0 (λ o. t.3 (open_kind t.0.kind o)) none ∙ ap (λ k. Err (faults.Form k)) t.4)
    place_refused faults.Unclosed h =
        let b = begun h.before h.begins in
        read_err room items faults.Unclosed (placed_at faults.Unclosed h b.0 b.1 ∙ ap (λ (r : List Item). goes h.room b.0 r >>= end_of) h.refused.0
        ∙ at_end h.room b.0 (λ n. let s = run_spells h.before (b.1 ∙ ap Some n) in h.refused.1 s.tree s.tokens))
    place_refused faults.Memory h = absurd h.refused

  -- ---- at any depth, two or more

  abbrev at_depth : ℕ → List Item → Result Tree TextFault
  at_depth depth items = read (depth - 2) items

  refused_at : (depth : ℕ) (text : List ℕ) (e : TextFault) → 2 ≤ depth → at_depth depth (items_of text) ≡ Err e → IsPlace Tokens depth text e
  refused_at zero text e le h = absurd (omega (arith, le))
  refused_at (suc zero) text e le h = absurd (omega (arith, le))
  refused_at (suc (suc room)) text e le h =
      let same : suc (suc room) - 2 ≡ room = omega arith in refused_place room text e (ap (λ r. read r (items_of text)) (sym same) ∙ h)

  refused_so : (depth : ℕ) (text : List ℕ) (e : TextFault) → 2 ≤ depth → IsPlace Tokens depth text e → at_depth depth (items_of text) ≡ Err e
  refused_so zero text e le h = absurd (omega (arith, le))
  refused_so (suc zero) text e le h = absurd (omega (arith, le))
  refused_so (suc (suc room)) text e le h =
      let same : suc (suc room) - 2 ≡ room = omega arith in ap (λ r. read r (items_of text)) same ∙ place_refused room text e h

  -- what is answered is spelled, or refused at its place
  pub reading_placed : (text : List ℕ) (r : Result Tree TextFault) → MatchResult r (λ x. at_depth 64 (items_of text) ≡ Ok x) (λ e. Fails e (at_depth 64 (items_of text))) → IfErr r (λ e. Refuses Tokens 64 text e)
  reading_placed text (Ok x) f = tt
  reading_placed text (Err e) f = at_fault e f
    where
      at_fault : (e : TextFault) → Fails e (at_depth 64 (items_of text)) → Refuses Tokens 64 text e
      at_fault (faults.Lex f) h = refused_at 64 text (faults.Lex f) (omega arith) h
      at_fault (faults.Depth at) h = refused_at 64 text (faults.Depth at) (omega arith) h
      at_fault (faults.Form s) h = refused_at 64 text (faults.Form s) (omega arith) h
      at_fault faults.Unclosed h = refused_at 64 text faults.Unclosed (omega arith) h
      at_fault faults.Memory h = tt

  complete_at : (depth over : ℕ) (x : Tree) (ts : List Piece) → 2 ≤ depth → Tokens x ts → room_after depth ts ≡ Some over → at_depth depth (map tok ts) ≡ Ok x
  complete_at zero over x ts le t l = absurd (omega (arith, le))
  complete_at (suc zero) over x ts le t l = absurd (omega (arith, le))
  complete_at (suc (suc room)) over x ts le t l =
      let same : suc (suc room) - 2 ≡ room = omega arith in ap (λ r. read r (map tok ts)) same ∙ complete room over x ts t l

  pub run_tree : (ts : List Piece) → run start ts ≡ Some [] → (x : Tree) × Tokens x ts
  run_tree ts e = let s = run_spells ts e in (s.tree, s.tokens)

  pub one_place : (depth : ℕ) (text : List ℕ) (e f : TextFault) → 2 ≤ depth → IsPlace Tokens depth text e → IsPlace Tokens depth text f → e ≡ f
  one_place depth text e f le h k = fault_is e f (sym (refused_so depth text e le h) ∙ refused_so depth text f le k)
    where
      fault_is : (e f : TextFault) → (let x : Result Tree TextFault = Err e in x) ≡ Err f → e ≡ f
      fault_is e f h = cc

  -- the text spells a tree, and no more than so many parentheses are open at once
  abbrev Within : ℕ → List ℕ → Tree → Type 0
  Within depth text x = (ts : List Piece) × (items_of text ≡ map tok ts) × Tokens x ts × FitsDepth depth ts

  -- a text with a place spells none
  pub spells_none : (depth : ℕ) (text : List ℕ) (e : TextFault) → 2 ≤ depth → IsPlace Tokens depth text e → (x : Tree) → Within depth text x → ⊥
  spells_none depth text e le h x w =
      let r : Result Tree TextFault = at_depth depth (items_of text) in
      let refused : r ≡ Err e = refused_so depth text e le h in
      let spelled : r ≡ Ok x = ap (at_depth depth) w.1 ∙ complete_at depth depth x w.0 le w.2 w.3 in
      let no : (let y : Result Tree TextFault = Err e in y) ≡ Ok x = sym refused ∙ spelled in cc

  -- and each text spells one or has a place
  pub tree_or_place : (depth : ℕ) (text : List ℕ) → 2 ≤ depth → ((x : Tree) × Within depth text x) ⊎ ((e : TextFault) × IsPlace Tokens depth text e)
  tree_or_place depth text le = at_read (at_depth depth (items_of text)) refl
    where
      found_at : (depth : ℕ) → 2 ≤ depth → (x : Tree) → at_depth depth (items_of text) ≡ Ok x → Within depth text x
      found_at zero le x e = absurd (omega (arith, le))
      found_at (suc zero) le x e = absurd (omega (arith, le))
      found_at (suc (suc room)) le x e =
          let same : suc (suc room) - 2 ≡ room = omega arith in takes room (items_of text) x (ap (λ r. read r (items_of text)) (sym same) ∙ e)

      at_read : (r : Result Tree TextFault) → at_depth depth (items_of text) ≡ r → ((x : Tree) × Within depth text x) ⊎ ((e : TextFault) × IsPlace Tokens depth text e)
      at_read (Ok x) is = inl (x, found_at depth le x is)
      at_read (Err e) is = inr (e, refused_at depth text e le is)
