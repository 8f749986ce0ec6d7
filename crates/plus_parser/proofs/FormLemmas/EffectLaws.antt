-- An effect that is read is spelled so, and one that is spelled is read.
use Rattle.std.proofs.Common.{◌≡◌, ℕ, zero, suc, ◌<◌, List, [], ◌∷◌, ◌++◌, length, Ok, refl, sym, ap, ◌∙◌, subst, inl, inr, ⊎_elim, arith}
use Rattle.std.specs.Prelude.{codes}
use Rattle.plus_tokens.specs.declared.span.Span.{Span}
use Rattle.plus_tree.specs.declared.terms.TypedName.{TypedName}
use Rattle.plus_tree.specs.declared.trees.Leaf.{Leaf}
use Rattle.plus_tree.specs.Cond.{Cond}
use Rattle.plus_tree.specs.Effect.{Effect, e_all, e_forall, e_when, e_leaf, Effects, no_effects, more_effects, effects_of}
use Rattle.plus_parser.specs.declared.phrases.words.HeadWord.{HeadWord}
use Rattle.plus_parser.specs.declared.phrases.words.HeadWord.TheVariants.{Nothing, And, ForAll, When}
use Rattle.plus_tokens.specs.Items.{Piece, Item, tok}
use Rattle.plus_parser.specs.Phrases.Reading.{◌>>=◌, Read, next_of, is_open}
use Rattle.plus_parser.specs.Phrases.Words.{head_of}
use Rattle.plus_parser.specs.Phrases.Grammar.{around, until_close, Former, form_step, variables_of}
use Rattle.plus_parser.specs.Phrases.Spells.{IsWord, Chain, with_last, SpellsVariables, room_after}
use Rattle.plus_parser.specs.Forms.ReadingForms.{form_next, both_of, cond_at, leaf_with, leaf_behind, simple_at, effect_with, effect_body, effect_at}
use Rattle.plus_parser.specs.Forms.SpellsForms.{SpellsCond, SpellsSimple, SpellsEffect, SpellsEffects}
use Rattle.plus_parser.proofs.PhraseLemmas.Tokens.{toks, enough, bind_ok, ok_is, done, next_ok, next_again}
use Rattle.plus_parser.proofs.PhraseLemmas.Level.{Even, Level, is_flat, level_at, level_name, level_append, level_wrapped, after_name, even_open}
use Rattle.plus_parser.proofs.PhraseLemmas.UntilTakes.{until_takes}
use Rattle.plus_parser.proofs.PhraseLemmas.UntilAgain.{until_again}
use Rattle.plus_parser.proofs.PhraseLemmas.Forms.{FormTook, FormTakes, FormAgain, Begins, close_took, enters, form_takes, form_again, added_all, added_last}
use Rattle.plus_parser.proofs.PhraseLemmas.Heads.{worded, nothing_closes, close_head, word_heads}
use Rattle.plus_parser.proofs.PhraseLemmas.Starts.{name_again}
use Rattle.plus_parser.proofs.PhraseLemmas.TypedLists.{level_variables, variables_takes, variables_again}
use Rattle.plus_parser.proofs.FormLemmas.FormLevels.{level_cond}
use Rattle.plus_parser.proofs.FormLemmas.BothLaws.{even_behind, form_next_takes, form_next_again, both_form, both_again}
use Rattle.plus_parser.proofs.FormLemmas.ConditionLaws.{cond_takes, cond_begins, cond_again}
use Rattle.plus_parser.proofs.FormLemmas.LeafLaws.{leaf_takes, leaf_body, leaf_again, leaf_begins, simple_takes, simple_begins, level_simple, simple_again}
use Rattle.plus_parser.proofs.FormLemmas.FormLevels.{level_leaf}

chain_effects : (es : List Effect) (ts : List Piece) → Chain SpellsEffect es ts → SpellsEffects (effects_of es) ts
chain_effects [] ts h = h
chain_effects (e ∷ es) ts h = (h.0, h.1, h.2, chain_effects es h.1 h.3, h.4)

abbrev list_of : Effects → List Effect
list_of no_effects = []
list_of (more_effects e es) = e ∷ list_of es

list_of-effects : (es : Effects) → effects_of (list_of es) ≡ es
list_of-effects no_effects = refl
list_of-effects (more_effects e es) = ap (more_effects e) (list_of-effects es)

effects_chain : (es : Effects) (ts : List Piece) → SpellsEffects es ts → Chain SpellsEffect (list_of es) ts
effects_chain no_effects ts h = h
effects_chain (more_effects e es) ts h = (h.0, h.1, h.2, effects_chain es h.1 h.3, h.4)

-- an effect begins with an opening parenthesis
pub effect_begins : (room : ℕ) → Begins SpellsEffect room
effect_begins room (e_all es s) ts h = let w = h.1 in (w.first, h.0 ++ w.last ∷ [], w.opens, w.whole)
effect_begins room (e_forall vs x s) ts h = let w = h.4 in (w.first, (h.0 ∷ (h.1 ++ h.2)) ++ w.last ∷ [], w.opens, w.whole)
effect_begins room (e_when c ls s) ts h = let w = h.4 in (w.first, (h.0 ∷ (h.1 ++ h.2)) ++ w.last ∷ [], w.opens, w.whole)
effect_begins room (e_leaf l s) ts h = leaf_begins room l ts h.1

mutual
  pub level_effect : (e : Effect) (ts : List Piece) → SpellsEffect e ts → Level ts
  level_effect (e_all es s) ts h =
      level_wrapped s h.0 ts h.1 (⊎_elim (λ e. level_at h.0 [] e.1 (λ room. inl refl)) (λ e. level_at h.0 _ e.3 (level_name e.0 e.1 e.2.0 (level_effects es e.1 e.4))) h.2)
  level_effect (e_forall vs x s) ts h =
      level_wrapped s (h.0 ∷ (h.1 ++ h.2)) ts h.4 (level_name h.0 (h.1 ++ h.2) h.3.0 (level_append h.1 h.2 (level_variables vs h.1 h.5) (level_effect x h.2 h.6)))
  level_effect (e_when c ls s) ts h =
      level_wrapped s (h.0 ∷ (h.1 ++ h.2)) ts h.4 (level_name h.0 (h.1 ++ h.2) h.3.0 (level_append h.1 h.2 (level_cond c h.1 h.5) (level_simple ls h.2 h.6)))
  level_effect (e_leaf l s) ts h = level_leaf l.node l.span ts h.1

  pub level_effects : (es : Effects) (ts : List Piece) → SpellsEffects es ts → Level ts
  level_effects no_effects ts h = level_at ts [] h (λ room. inl refl)
  level_effects (more_effects e es) ts h = level_at ts (h.0 ++ h.1) h.4 (level_append h.0 h.1 (level_effect e h.0 h.2) (level_effects es h.1 h.3))

body_takes : (room : ℕ) (read : Former Effect) → FormTakes SpellsEffect room read → FormTakes SpellsEffect (suc room) (effect_body room read)
unfolding effect_body
body_takes room read takes s items c rest some e =
    let a = bind_ok (next_of room items) (λ p. effect_with room read s p.0 p.1 (head_of p.0)) (c, rest) e in
    at_head a.0.0 a.0.1 (next_ok room items a.0.0 a.0.1 a.1) (head_of a.0.0) refl a.2
  where
    same : (c' : Effect) (r : List Item) → done {A = Effect × List Item} (c', r) ≡ done (c, rest) → FormTook SpellsEffect (suc room) c' s items r → FormTook SpellsEffect (suc room) c s items rest
    same c' r e t = subst (λ (x : Effect × List Item). FormTook SpellsEffect (suc room) x.0 s items x.1) (ok_is (c', r) (c, rest) e) t

    at_head : (p : Piece) (r : List Item) → items ≡ tok p ∷ r → (h : HeadWord) → head_of p ≡ h → effect_with room read s p r h ≡ Ok (c, rest) → FormTook SpellsEffect (suc room) c s items rest
    at_head p r whole Nothing h e =
        same (e_all no_effects (around s p.span)) r e (close_took SpellsEffect (suc room) room refl (e_all no_effects (around s p.span)) s [] p items r (nothing_closes p h) whole refl (λ first opens place w. ([], w, inl (refl, refl))))
    at_head p r whole And h e =
        let a = bind_ok (until_close (form_step read) room (length r) [] r) (λ es. Ok (e_all (effects_of es.0.0) (around s es.0.1), es.1)) (c, rest) e in
        let t = until_takes SpellsEffect with_last (form_step read) room (form_takes SpellsEffect room read takes) (length r) [] a.0.0.0 a.0.0.1 r a.0.1 a.1 in
        let es = a.0.0.0 in
        let chain : Chain SpellsEffect es t.inner = subst (λ (xs : List Effect). Chain SpellsEffect xs t.inner) (added_all t.things es t.adds) t.spelled in
        let is = worded p And h refl in
        same (e_all (effects_of es) (around s t.last.span)) a.0.1 ((λ i. Ok (e_all (effects_of es) (around s (t.place i)), a.0.1)) ∙ a.2)
        (close_took SpellsEffect (suc room) room refl (e_all (effects_of es) (around s t.last.span)) s (p ∷ t.inner) t.last items a.0.1 t.closes (whole ∙ ap (λ (is : List Item). tok p ∷ is) t.whole) (after_name room p t.inner is.0 ∙ t.even)
        (λ first opens place w. (p ∷ t.inner, w, inr (p, t.inner, is, refl, chain_effects es t.inner chain))))
    at_head p r whole ForAll h e =
        let is = worded p ForAll h refl in
        both_form SpellsVariables SpellsEffect room (variables_of room) (form_next room read) SpellsEffect e_forall (suc room) refl s p items r c rest whole (ap is_flat is.0)
        (λ vs d k left right ts w hv hd. (p, left, right, is, w, hv, hd)) (variables_takes room) (form_next_takes SpellsEffect room read takes) e
    at_head p r whole When h e =
        let is = worded p When h refl in
        both_form SpellsCond SpellsSimple room (form_next room (cond_at room)) (form_next room (simple_at room)) SpellsEffect e_when (suc room) refl s p items r c rest whole (ap is_flat is.0)
        (λ d ls k left right ts w hd hl. (p, left, right, is, w, hd, hl)) (form_next_takes SpellsCond room (cond_at room) (cond_takes room)) (form_next_takes SpellsSimple room (simple_at room) (simple_takes room)) e
    at_head p r whole _ h e =
        let a = bind_ok (leaf_behind room s p r) (λ l. Ok (e_leaf l.0 l.0.span, l.1)) (c, rest) e in
        let t = leaf_takes (suc room) room refl s p items r a.0.0 a.0.1 whole a.1 in
        same (e_leaf a.0.0 a.0.0.span) a.0.1 a.2 (record { inner = t.inner; whole = t.whole; spelled = λ first opens place. (refl, t.spelled first opens place); even = t.even })

pub effect_takes : (room : ℕ) → FormTakes SpellsEffect room (effect_at room)
unfolding effect_at
effect_takes zero s items c rest some e = absurd cc
effect_takes (suc room) s items c rest some e = body_takes room (effect_at room) (effect_takes room) s items c rest some e

nothing_step : (room : ℕ) (nested : Former Effect) (front : Span) (items r1 : List Item) (p : Piece) → next_of room items ≡ Ok (p, r1) → head_of p ≡ Nothing → effect_body room nested front items ≡ Ok (e_all no_effects (around front p.span), r1)
unfolding effect_body
nothing_step room nested front items r1 p e h = rw (e, h) refl

and_step : (room : ℕ) (nested : Former Effect) (front k : Span) (items r1 r2 : List Item) (p : Piece) (es : List Effect) → next_of room items ≡ Ok (p, r1) → head_of p ≡ And → until_close (form_step nested) room (length r1) [] r1 ≡ Ok ((es, k), r2) → effect_body room nested front items ≡ Ok (e_all (effects_of es) (around front k), r2)
unfolding effect_body
and_step room nested front k items r1 r2 p es e h m = rw (e, h, m) refl

forall_step : (room : ℕ) (nested : Former Effect) (front k : Span) (items r1 r2 : List Item) (p : Piece) (x : List TypedName) (y : Effect) → next_of room items ≡ Ok (p, r1) → head_of p ≡ ForAll → both_of room (variables_of room) (form_next room nested) r1 ≡ Ok (((x, y), k), r2) → effect_body room nested front items ≡ Ok (e_forall x y (around front k), r2)
unfolding effect_body
forall_step room nested front k items r1 r2 p x y e h m = rw (e, h, m) refl

when_step : (room : ℕ) (nested : Former Effect) (front k : Span) (items r1 r2 : List Item) (p : Piece) (x : Cond) (y : List Leaf) → next_of room items ≡ Ok (p, r1) → head_of p ≡ When → both_of room (form_next room (cond_at room)) (form_next room (simple_at room)) r1 ≡ Ok (((x, y), k), r2) → effect_body room nested front items ≡ Ok (e_when x y (around front k), r2)
unfolding effect_body
when_step room nested front k items r1 r2 p x y e h m = rw (e, h, m) refl

-- an effect that is a leaf
leaf_way_at : (room : ℕ) (nested : Former Effect) (front : Span) (p : Piece) (r : List Item) (l : Leaf) (rest : List Item) (h : HeadWord) → leaf_with room front p r h ≡ Ok (l, rest) → leaf_behind room front p r ≡ Ok (l, rest) → effect_with room nested front p r h ≡ Ok (e_leaf l l.span, rest)
leaf_way_at room nested front p r l rest Nothing e f = absurd cc
leaf_way_at room nested front p r l rest And e f = absurd cc
leaf_way_at room nested front p r l rest ForAll e f = absurd cc
leaf_way_at room nested front p r l rest When e f = absurd cc
leaf_way_at room nested front p r l rest _ e f = ap (λ (x : Read Leaf). x >>= λ l. Ok (e_leaf l.0 l.0.span, l.1)) f

leaf_way : (room : ℕ) (nested : Former Effect) (front : Span) (items : List Item) (l : Leaf) (rest : List Item) → leaf_body room front items ≡ Ok (l, rest) → effect_body room nested front items ≡ Ok (e_leaf l l.span, rest)
unfolding effect_body leaf_behind
leaf_way room nested front items l rest e =
    let a = bind_ok (next_of room items) (λ p. leaf_behind room front p.0 p.1) (l, rest) e in
    ap (λ (q : Read Piece). q >>= λ p. effect_with room nested front p.0 p.1 (head_of p.0)) a.1 ∙ leaf_way_at room nested front a.0.0 a.0.1 l rest (head_of a.0.0) a.2 a.2

body_again : (room : ℕ) (read : Former Effect) → FormAgain SpellsEffect room read → FormAgain SpellsEffect (suc room) (effect_body room read)
body_again room read again (e_all es s) ts first inner rest h e ev =
    let w = h.1 in
    let body = effect_body room read in
    ⊎_elim
    (λ (none : (es ≡ no_effects) × (h.0 ≡ [])).
    enters SpellsEffect (suc room) body (e_all es s) s h.0 ts w first inner rest e (level_at h.0 [] none.1 (λ r. inl refl)) ev (λ r under er.
    ap (λ (ps : List Piece). body w.first.span (toks ps (tok w.last ∷ rest))) none.1
    ∙ nothing_step room read w.first.span (tok w.last ∷ rest) rest w.last (next_again room w.last rest (ap is_open w.closes)) (close_head w.last w.closes)
    ∙ (λ i. Ok (e_all (sym none.0 i) (sym w.place i), rest))))
    (λ (some : (a : Piece) × (inner : List Piece) × IsWord (codes "and") a × (h.0 ≡ a ∷ inner) × SpellsEffects es inner).
    let members = some.1 in
    let lb = level_effects es members some.4 in
    enters SpellsEffect (suc room) body (e_all es s) s h.0 ts w first inner rest e (level_at h.0 (some.0 ∷ members) some.3 (level_name some.0 members some.2.0 lb)) ev (λ r under er.
    let same : r ≡ room = omega (arith, under) in
    let eb : Even room members = subst (λ n. Even n members) same (sym (after_name r some.0 members some.2.0) ∙ ap (room_after r) (sym some.3) ∙ er) in
    let left = toks members (tok w.last ∷ rest) in
    ap (λ (ps : List Piece). body w.first.span (toks ps (tok w.last ∷ rest))) some.3
    ∙ and_step room read w.first.span w.last.span (tok some.0 ∷ left) left rest some.0 (list_of es) (name_again room some.0 left some.2.0) (word_heads some.0 And some.2 refl)
    (until_again SpellsEffect with_last (form_step read) room level_effect (form_again SpellsEffect room read (effect_begins room) again) (length left) [] (list_of es) (list_of es) members w.last rest (effects_chain es members some.4) eb (added_last [] (list_of es)) w.closes (enough members w.last rest))
    ∙ (λ i. Ok (e_all (list_of-effects es i) (sym w.place i), rest))))
    h.2
body_again room read again (e_forall x y s) ts first inner rest h e ev =
    let w = h.4 in
    let a = h.0 in
    let both = h.1 ++ h.2 in
    enters SpellsEffect (suc room) (effect_body room read) (e_forall x y s) s (a ∷ both) ts w first inner rest e (level_name a both h.3.0 (level_append h.1 h.2 (level_variables x h.1 h.5) (level_effect y h.2 h.6))) ev (λ r under er.
    let left = toks both (tok w.last ∷ rest) in
    forall_step room read w.first.span w.last.span (tok a ∷ left) left rest a x y (name_again room a left h.3.0) (word_heads a ForAll h.3 refl)
    (both_again SpellsVariables SpellsEffect room (variables_of room) (form_next room read) level_variables (variables_again room) (form_next_again SpellsEffect room read (effect_begins room) again) x y h.1 h.2 w.last rest h.5 h.6 (even_behind room r a both (ap is_flat h.3.0) under er) w.closes)
    ∙ (λ i. Ok (e_forall x y (sym w.place i), rest)))
body_again room read again (e_when x y s) ts first inner rest h e ev =
    let w = h.4 in
    let a = h.0 in
    let both = h.1 ++ h.2 in
    enters SpellsEffect (suc room) (effect_body room read) (e_when x y s) s (a ∷ both) ts w first inner rest e (level_name a both h.3.0 (level_append h.1 h.2 (level_cond x h.1 h.5) (level_simple y h.2 h.6))) ev (λ r under er.
    let left = toks both (tok w.last ∷ rest) in
    when_step room read w.first.span w.last.span (tok a ∷ left) left rest a x y (name_again room a left h.3.0) (word_heads a When h.3 refl)
    (both_again SpellsCond SpellsSimple room (form_next room (cond_at room)) (form_next room (simple_at room)) level_cond (form_next_again SpellsCond room (cond_at room) (cond_begins room) (cond_again room)) (form_next_again SpellsSimple room (simple_at room) (simple_begins room) (simple_again room)) x y h.1 h.2 w.last rest h.5 h.6 (even_behind room r a both (ap is_flat h.3.0) under er) w.closes)
    ∙ (λ i. Ok (e_when x y (sym w.place i), rest)))
body_again room read again (e_leaf l s) ts first inner rest h e ev =
    leaf_way room read first.span (toks inner rest) l rest (leaf_again (suc room) room refl l ts first inner rest h.1 e ev) ∙ ap (λ (place : Span). Ok (e_leaf l place, rest)) (sym h.0)

pub effect_again : (room : ℕ) → FormAgain SpellsEffect room (effect_at room)
unfolding effect_at
effect_again zero c ts first inner rest h e ev =
    let b = effect_begins 0 c ts h in
    let no : 0 < 0 = even_open 0 b.0 b.1 b.2 (ap (room_after 0) (sym b.3) ∙ ev) in absurd (omega (arith, no))
effect_again (suc room) c ts first inner rest h e ev = body_again room (effect_at room) (effect_again room) c ts first inner rest h e ev
