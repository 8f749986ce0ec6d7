-- Constraints that are read are spelled so, and those that are spelled are read.
use Rattle.std.proofs.Common.{◌≡◌, ℕ, suc, ◌-◌, ◌<◌, Bool, true, false, List, [], ◌∷◌, ◌++◌, length, Option, Some, None, Result, Ok, refl, sym, ap, ◌∙◌, subst, inl, inr, ⊎_elim, arith}
use Rattle.std.specs.Prelude.{map, codes}
use Rattle.plus_tokens.specs.declared.token.Kind.{Kind}
use Rattle.plus_tokens.specs.declared.token.Kind.TheVariants as kinds
use Rattle.plus_tokens.specs.declared.span.Span.{Span}
use Rattle.plus_tokens.specs.Items.{Piece, Item, tok}
use Rattle.plus_tree.specs.declared.faults.TextFault.{TextFault}
use Rattle.plus_tree.specs.declared.terms.Literal.{Literal}
use Rattle.plus_tree.specs.declared.trees.Rule.{Rule}
use Rattle.plus_tree.specs.declared.trees.Rule.TheVariants as rules
use Rattle.plus_tree.specs.declared.trees.Constraint.{Constraint}
use Rattle.plus_tree.specs.Cond.{Cond}
use Rattle.plus_parser.specs.declared.constraints.RuleWord.{RuleWord}
use Rattle.plus_parser.specs.declared.constraints.RuleWord.TheVariants as words
use Rattle.plus_parser.specs.Phrases.Literals.{literal_of}
use Rattle.plus_parser.specs.Phrases.Reading.{◌>>=◌, Read, next_of}
use Rattle.plus_parser.specs.Phrases.Words.{look, is_time}
use Rattle.plus_parser.specs.Phrases.Grammar.{around, time_of, until_close, Former, form_step}
use Rattle.plus_parser.specs.Phrases.Spells.{IsName, IsWord, Wrapped, Chain, with_last, room_after}
use Rattle.plus_parser.specs.Forms.ReadingForms.{form_next, both_of, cond_at}
use Rattle.plus_parser.specs.Forms.SpellsForms.{SpellsCond}
use Rattle.plus_parser.specs.ReadingDomain.{end_of}
use Rattle.plus_parser.specs.ReadingProblem.{literal_or}
use Rattle.plus_parser.specs.SpellsProblem.{IsTime}
use Rattle.plus_parser.specs.ReadingConstraints.{rule_words, kind_rule, rule_word_of, time_next, rule_with, rule_behind, constraint_made, constraint_behind, constraint_at, constraints_with, constraints_at, constraints_of}
use Rattle.plus_parser.specs.SpellsConstraints.{SpellsRule, SpellsConstraint, ConstraintTokens}
use Rattle.plus_parser.proofs.PhraseLemmas.Tokens.{toks, toks_all, enough, bind_ok, ok_is, next_ok, token_takes, token_again}
use Rattle.plus_parser.proofs.PhraseLemmas.Heads.{no_way, Named, look_word}
use Rattle.plus_parser.proofs.PhraseLemmas.Level.{Even, Level, is_flat, after_name, after_flat, number_flat, level_at, level_none, level_name, level_append, level_wrapped, even_open}
use Rattle.plus_parser.proofs.PhraseLemmas.UntilTakes.{until_takes}
use Rattle.plus_parser.proofs.PhraseLemmas.UntilAgain.{Levels, level_chain, until_again}
use Rattle.plus_parser.proofs.PhraseLemmas.Forms.{FormTook, FormTakes, FormAgain, Begins, close_took, enters, form_takes, form_again, added_all, added_last}
use Rattle.plus_parser.proofs.PhraseLemmas.Starts.{Opened, name_again}
use Rattle.plus_parser.proofs.PhraseLemmas.ExprLaws.{not_open}
use Rattle.plus_parser.proofs.FormLemmas.FormLevels.{level_cond}
use Rattle.plus_parser.proofs.FormLemmas.BothLaws.{even_behind, NextTakes, NextAgain, form_next_takes, form_next_again, both_form, both_again}
use Rattle.plus_parser.proofs.FormLemmas.ConditionLaws.{cond_takes, cond_again, cond_begins}
use Rattle.plus_parser.proofs.TimedLaws.{number_level}
use Rattle.plus_parser.proofs.Sections.{end_takes, end_again}

-- ---- words

-- the word of what a token begins; the last has none
abbrev pub rule_word_for : RuleWord → List ℕ
rule_word_for words.And = codes "and"
rule_word_for words.Always = codes "always"
rule_word_for words.Sometime = codes "sometime"
rule_word_for words.Within = codes "within"
rule_word_for words.HoldAfter = codes "hold-after"
rule_word_for words.Other = []

abbrev pub has_rule_word : RuleWord → Bool
has_rule_word words.Other = false
has_rule_word _ = true

rule_words_named : Named rule_word_for rule_words
rule_words_named = (refl, (refl, (refl, (refl, (refl, tt)))))

worded_kind : (k : Kind) (w : List ℕ) (h : RuleWord) → kind_rule k w ≡ h → has_rule_word h ≡ true → (k ≡ kinds.Name) × (w ≡ rule_word_for h)
worded_kind kinds.Name w h e t =
    (refl, ⊎_elim (λ o. no_way (ap has_rule_word o ∙ t)) (λ o. o) (look_word rule_word_for w rule_words words.Other h rule_words_named e))
worded_kind _ w h e t = no_way (ap has_rule_word e ∙ t)

pub rule_worded : (p : Piece) (h : RuleWord) → rule_word_of p ≡ h → has_rule_word h ≡ true → IsWord (rule_word_for h) p
rule_worded p h e t = worded_kind p.kind p.word h e t

looked_again : (h : RuleWord) → look (rule_word_for h) rule_words words.Other ≡ h
looked_again words.And = refl
looked_again words.Always = refl
looked_again words.Sometime = refl
looked_again words.Within = refl
looked_again words.HoldAfter = refl
looked_again words.Other = refl

pub word_rules : (p : Piece) (h : RuleWord) → IsWord (rule_word_for h) p → rule_word_of p ≡ h
word_rules p h e = ap (λ k. kind_rule k p.word) e.0 ∙ ap (λ (w : List ℕ). look w rule_words words.Other) e.1 ∙ looked_again h

-- ---- times

-- a time that was read
record TimeTook (t : Literal) (items rest : List Item) : Type 0 where
  pub token : Piece
  pub whole : items ≡ tok token ∷ rest
  pub is : IsTime t token

literal_took : (o : Option Literal) (p : Piece) (r : List Item) (t : Literal) (rest : List Item) → literal_or o p r ≡ Ok (t, rest) → (o ≡ Some t) × (r ≡ rest)
literal_took None p r t rest e = absurd cc
literal_took (Some m) p r t rest e =
    let both = ok_is (m, r) (t, rest) e in (ap (λ (x : Literal × List Item). Some x.0) both, ap (λ (x : Literal × List Item). x.1) both)

time_takes : (room : ℕ) (items : List Item) (t : Literal) (rest : List Item) → time_next room items ≡ Ok (t, rest) → TimeTook t items rest
unfolding time_next
time_takes room items t rest e =
    let a = bind_ok (time_of room items) (λ p. literal_or (literal_of p.0) p.0 p.1) (t, rest) e in
    let k = token_takes is_time room a.0.0 items a.0.1 a.1 in
    let n = literal_took (literal_of a.0.0) a.0.0 a.0.1 t rest a.2 in
    record { token = a.0.0; whole = k.whole ∙ ap (λ (is : List Item). tok a.0.0 ∷ is) n.1; is = (n.0, k.fits) }

time_again : (room : ℕ) (p : Piece) (t : Literal) (rest : List Item) → IsTime t p → time_next room (tok p ∷ rest) ≡ Ok (t, rest)
unfolding time_next
time_again room p t rest h =
    ap (λ (q : Read Piece). q >>= λ p. literal_or (literal_of p.0) p.0 p.1)
    (token_again is_time room p rest h.1 (λ o. no_way (sym (not_open p.kind p.word p.span t h.0) ∙ o)))
    ∙ ap (λ (o : Option Literal). literal_or o p rest) h.0

-- ---- rules

-- these tokens stand behind the word of a rule
abbrev RuleBehind : Piece → Rule → List Piece → Type 0
RuleBehind p r ts = SpellsRule r (p ∷ ts)

timed_takes :
    (made : Literal → Rule) (room : ℕ) (p : Piece) (items : List Item) (x : Rule) (rest : List Item) → ((t : Literal) (q : Piece) → IsTime t q → RuleBehind p (made t) (q ∷ []))
    → (let read : Read Rule = time_next room items >>= λ t. Ok (made t.0, t.1) in read) ≡ Ok (x, rest) → Opened (RuleBehind p) room x items rest
timed_takes made room p items x rest spell e =
    let a = bind_ok (time_next room items) (λ t. Ok (made t.0, t.1)) (x, rest) e in
    let t = time_takes room items a.0.0 a.0.1 a.1 in
    subst (λ (y : Rule × List Item). Opened (RuleBehind p) room y.0 items y.1) (ok_is (made a.0.0, a.0.1) (x, rest) a.2)
    (record { inner = t.token ∷ []; whole = t.whole; spelled = spell a.0.0 t.token t.is; even = after_flat room t.token [] (number_flat t.token a.0.0 t.is.0) })

word_takes : (r : Rule) (room : ℕ) (p : Piece) (items : List Item) (x : Rule) (rest : List Item) → RuleBehind p r [] → (let read : Read Rule = Ok (r, items) in read) ≡ Ok (x, rest) → Opened (RuleBehind p) room x items rest
word_takes r room p items x rest spelled e =
    subst (λ (y : Rule × List Item). Opened (RuleBehind p) room y.0 items y.1) (ok_is (r, items) (x, rest) e)
    (record { inner = []; whole = refl; spelled = spelled; even = refl })

rule_takes : (room : ℕ) (p : Piece) (h : RuleWord) → IsWord (rule_word_for h) p → NextTakes (RuleBehind p) room (λ items. rule_with room p items h)
rule_takes room p words.Always is items x rest e = word_takes rules.Always room p items x rest (p, is, refl) e
rule_takes room p words.Sometime is items x rest e = word_takes rules.Sometime room p items x rest (p, is, refl) e
rule_takes room p words.Within is items x rest e = timed_takes (λ t. rules.Within t) room p items x rest (λ t q time. (p, q, is, time, refl)) e
rule_takes room p words.HoldAfter is items x rest e = timed_takes (λ t. rules.HoldAfter t) room p items x rest (λ t q time. (p, q, is, time, refl)) e
rule_takes room p _ is items x rest e = absurd cc

same_heads : (p a : Piece) (ts us : List Piece) → p ∷ ts ≡ a ∷ us → (p ≡ a) × (ts ≡ us)
same_heads p a ts us e = (cc, cc)

-- a rule begins with its word, and what stands behind it is read again
word_again : (h : RuleWord) (r : Rule) (room : ℕ) (p a : Piece) (ts us : List Piece) (rest : List Item) → IsWord (rule_word_for h) a → p ∷ ts ≡ a ∷ us → rule_with room p (toks us rest) h ≡ Ok (r, rest) → rule_behind room p (toks ts rest) ≡ Ok (r, rest)
word_again h r room p a ts us rest is e reads =
    let same = same_heads p a ts us e in
    ap (λ (ps : List Piece). rule_behind room p (toks ps rest)) same.1
    ∙ ap (λ (w : RuleWord). rule_with room p (toks us rest) w) (word_rules p h (subst (IsWord (rule_word_for h)) (sym same.0) is))
    ∙ reads

rule_again : (room : ℕ) (p : Piece) → NextAgain (RuleBehind p) room (rule_behind room p)
rule_again room p rules.Always ts rest h ev = word_again words.Always rules.Always room p h.0 ts [] rest h.1 h.2 refl
rule_again room p rules.Sometime ts rest h ev = word_again words.Sometime rules.Sometime room p h.0 ts [] rest h.1 h.2 refl
rule_again room p (rules.Within t) ts rest h ev =
    word_again words.Within (rules.Within t) room p h.0 ts (h.1 ∷ []) rest h.2 h.4 (ap (λ (r : Read Literal). r >>= λ t. Ok (rules.Within t.0, t.1)) (time_again room h.1 t rest h.3))
rule_again room p (rules.HoldAfter t) ts rest h ev =
    word_again words.HoldAfter (rules.HoldAfter t) room p h.0 ts (h.1 ∷ []) rest h.2 h.4 (ap (λ (r : Read Literal). r >>= λ t. Ok (rules.HoldAfter t.0, t.1)) (time_again room h.1 t rest h.3))

-- a rule begins with a name, and its tokens are no parentheses
record RuleShape (ts : List Piece) : Type 0 where
  pub word : Piece
  pub behind : List Piece
  pub name : IsName word
  pub level : Level behind
  pub whole : ts ≡ word ∷ behind

rule_shape : (r : Rule) (ts : List Piece) → SpellsRule r ts → RuleShape ts
rule_shape rules.Always ts h = record { word = h.0; behind = []; name = h.1.0; level = level_none; whole = h.2 }
rule_shape rules.Sometime ts h = record { word = h.0; behind = []; name = h.1.0; level = level_none; whole = h.2 }
rule_shape (rules.Within t) ts h = record { word = h.0; behind = h.1 ∷ []; name = h.2.0; level = number_level h.1 t h.3.0; whole = h.4 }
rule_shape (rules.HoldAfter t) ts h = record { word = h.0; behind = h.1 ∷ []; name = h.2.0; level = number_level h.1 t h.3.0; whole = h.4 }

rule_level : (r : Rule) (ts : List Piece) → SpellsRule r ts → Level ts
rule_level r ts h = let s = rule_shape r ts h in level_at ts (s.word ∷ s.behind) s.whole (level_name s.word s.behind s.name s.level)

behind_level : (p : Piece) (r : Rule) (ts : List Piece) → RuleBehind p r ts → Level ts
behind_level p r ts h = let s = rule_shape r (p ∷ ts) h in level_at ts s.behind (same_heads p s.word ts s.behind s.whole).1 s.level

-- ---- constraints

abbrev constraint_with : ℕ → Span → Piece → List Item → RuleWord → Read Constraint
constraint_with room front p rest h = do
  x ← both_of room (λ items. rule_with room p items h) (form_next room (cond_at room)) rest
  Ok (constraint_made x.0.0.0 x.0.0.1 (around front x.0.1), x.1)

pub constraint_takes :
    (outer room : ℕ) → suc room ≡ outer → (s : Span) (p : Piece) (items r : List Item) (c : Constraint) (rest : List Item) → items ≡ tok p ∷ r
    → constraint_behind room s p r ≡ Ok (c, rest) → FormTook SpellsConstraint outer c s items rest
unfolding constraint_behind both_of
constraint_takes outer room under s p items r c rest whole e = at_word (rule_word_of p) refl e
  where
    at_rule : (h : RuleWord) → IsWord (rule_word_for h) p → constraint_with room s p r h ≡ Ok (c, rest) → FormTook SpellsConstraint outer c s items rest
    at_rule h is e =
        both_form (RuleBehind p) SpellsCond room (λ items. rule_with room p items h) (form_next room (cond_at room)) SpellsConstraint constraint_made outer under s p items r c rest whole (ap is_flat is.0)
        (λ x y k left right ts w hx hy. (p ∷ left, right, w, hx, hy)) (rule_takes room p h is) (form_next_takes SpellsCond room (cond_at room) (cond_takes room)) e

    at_word : (h : RuleWord) → rule_word_of p ≡ h → constraint_with room s p r h ≡ Ok (c, rest) → FormTook SpellsConstraint outer c s items rest
    at_word words.Always h e = at_rule words.Always (rule_worded p words.Always h refl) e
    at_word words.Sometime h e = at_rule words.Sometime (rule_worded p words.Sometime h refl) e
    at_word words.Within h e = at_rule words.Within (rule_worded p words.Within h refl) e
    at_word words.HoldAfter h e = at_rule words.HoldAfter (rule_worded p words.HoldAfter h refl) e
    at_word _ h e = absurd cc

pub constraint_begins : (room : ℕ) → Begins SpellsConstraint room
constraint_begins room c ts h = let w = h.2 in (w.first, (h.0 ++ h.1) ++ w.last ∷ [], w.opens, w.whole)

body_level : (c : Constraint) (left right : List Piece) → SpellsRule c.rule left → SpellsCond c.cond right → Level (left ++ right)
body_level c left right hr hc = level_append left right (rule_level c.rule left hr) (level_cond c.cond right hc)

pub constraint_level : (c : Constraint) (ts : List Piece) → SpellsConstraint c ts → Level ts
constraint_level c ts h = level_wrapped c.span (h.0 ++ h.1) ts h.2 (body_level c h.0 h.1 h.3 h.4)

abbrev constraint_body : ℕ → Former Constraint
constraint_body room front items = next_of room items >>= λ p. constraint_behind room front p.0 p.1

body_step :
    (room : ℕ) (front k : Span) (items r1 r2 : List Item) (p : Piece) (x : Rule) (y : Cond) → next_of room items ≡ Ok (p, r1) → both_of room (rule_behind room p) (form_next room (cond_at room)) r1 ≡ Ok (((x, y), k), r2)
    → constraint_body room front items ≡ Ok (constraint_made x y (around front k), r2)
unfolding constraint_behind
body_step room front k items r1 r2 p x y e e1 = rw (e, e1) refl

constraint_again : (outer room : ℕ) → suc room ≡ outer → FormAgain SpellsConstraint outer (constraint_body room)
constraint_again outer room under c ts first inner rest h e ev =
    let w = h.2 in
    let s = rule_shape c.rule h.0 h.3 in
    let p = s.word in
    let body = s.behind ++ h.1 in
    let behind : RuleBehind p c.rule s.behind = subst (SpellsRule c.rule) s.whole h.3 in
    enters SpellsConstraint outer (constraint_body room) c c.span (h.0 ++ h.1) ts w first inner rest e (body_level c h.0 h.1 h.3 h.4) ev (λ r er eb.
    let inside : Even room body = even_behind room r p body (ap is_flat s.name) (er ∙ sym under) (ap (λ (ps : List Piece). room_after r (ps ++ h.1)) (sym s.whole) ∙ eb) in
    let left = toks body (tok w.last ∷ rest) in
    ap (λ (ps : List Piece). constraint_body room w.first.span (toks (ps ++ h.1) (tok w.last ∷ rest))) s.whole
    ∙ body_step room w.first.span w.last.span (tok p ∷ left) left rest p c.rule c.cond (name_again room p left s.name)
    (both_again (RuleBehind p) SpellsCond room (rule_behind room p) (form_next room (cond_at room)) (behind_level p) (rule_again room p) (form_next_again SpellsCond room (cond_at room) (cond_begins room) (cond_again room)) c.rule c.cond s.behind h.1 w.last rest behind h.4 inside w.closes)
    ∙ (λ i. Ok (constraint_made c.rule c.cond (sym w.place i), rest)))

constraint_at_takes : (room : ℕ) → FormTakes SpellsConstraint room (constraint_at room)
unfolding constraint_at
constraint_at_takes room s items c rest some e =
    let a = bind_ok (next_of (room - 1) items) (λ p. constraint_behind (room - 1) s p.0 p.1) (c, rest) e in
    constraint_takes room (room - 1) (omega (arith, some)) s a.0.0 items a.0.1 c rest (next_ok (room - 1) items a.0.0 a.0.1 a.1) a.2

constraint_at_again : (room : ℕ) → FormAgain SpellsConstraint room (constraint_at room)
unfolding constraint_at
constraint_at_again room c ts first inner rest h e ev =
    let b = constraint_begins room c ts h in
    let some : 0 < room = even_open room b.0 b.1 b.2 (ap (room_after room) (sym b.3) ∙ ev) in
    constraint_again room (room - 1) (omega (arith, some)) c ts first inner rest h e ev

-- ---- a list, or a single one

-- what the tokens of a list are
abbrev Listed : List Constraint → List Piece → Type 0
Listed cs ts = (s : Span) × (a : Piece) × (inner : List Piece) × IsWord (codes "and") a × Wrapped s (a ∷ inner) ts × Chain SpellsConstraint cs inner

abbrev Single : List Constraint → List Piece → Type 0
Single cs ts = (c : Constraint) × (cs ≡ c ∷ []) × SpellsConstraint c ts

constraints_takes_at : (room : ℕ) (s : Span) (items : List Item) (cs : List Constraint) (rest : List Item) → 0 < room → (p : Piece) (r : List Item) → items ≡ tok p ∷ r → (h : RuleWord) → rule_word_of p ≡ h → constraints_with (room - 1) s p r h ≡ Ok (cs, rest) → FormTook ConstraintTokens room cs s items rest
constraints_takes_at room s items cs rest some p r whole words.And h e =
    let step = form_step (constraint_at (room - 1)) in
    let a = bind_ok (until_close step (room - 1) (length r) [] r) (λ cs. Ok (cs.0.0, cs.1)) (cs, rest) e in
    let t = until_takes SpellsConstraint with_last step (room - 1) (form_takes SpellsConstraint (room - 1) (constraint_at (room - 1)) (constraint_at_takes (room - 1))) (length r) [] a.0.0.0 a.0.0.1 r a.0.1 a.1 in
    let chain : Chain SpellsConstraint a.0.0.0 t.inner = subst (λ (xs : List Constraint). Chain SpellsConstraint xs t.inner) (added_all t.things a.0.0.0 t.adds) t.spelled in
    let is = rule_worded p words.And h refl in
    subst (λ (x : List Constraint × List Item). FormTook ConstraintTokens room x.0 s items x.1) (ok_is (a.0.0.0, a.0.1) (cs, rest) a.2)
    (close_took ConstraintTokens room (room - 1) (omega (arith, some)) a.0.0.0 s (p ∷ t.inner) t.last items a.0.1 t.closes (whole ∙ ap (λ (is : List Item). tok p ∷ is) t.whole) (after_name (room - 1) p t.inner is.0 ∙ t.even)
    (λ first opens place w. inl (around s t.last.span, p, t.inner, is, w, chain)))
constraints_takes_at room s items cs rest some p r whole _ h e =
    let a = bind_ok (constraint_behind (room - 1) s p r) (λ c. Ok (c.0 ∷ [], c.1)) (cs, rest) e in
    let t = constraint_takes room (room - 1) (omega (arith, some)) s p items r a.0.0 a.0.1 whole a.1 in
    subst (λ (x : List Constraint × List Item). FormTook ConstraintTokens room x.0 s items x.1) (ok_is (a.0.0 ∷ [], a.0.1) (cs, rest) a.2)
    (record { inner = t.inner; whole = t.whole; spelled = λ first opens place. inr (a.0.0, refl, t.spelled first opens place); even = t.even })

constraints_at_takes : (room : ℕ) → FormTakes ConstraintTokens room (constraints_at room)
unfolding constraints_at
constraints_at_takes room s items cs rest some e =
    let a = bind_ok (next_of (room - 1) items) (λ p. constraints_with (room - 1) s p.0 p.1 (rule_word_of p.0)) (cs, rest) e in
    constraints_takes_at room s items cs rest some a.0.0 a.0.1 (next_ok (room - 1) items a.0.0 a.0.1 a.1) (rule_word_of a.0.0) refl a.2

constraints_begins : (room : ℕ) → Begins ConstraintTokens room
constraints_begins room cs ts h =
    ⊎_elim (λ (m : Listed cs ts). let w = m.4 in (w.first, (m.1 ∷ m.2) ++ w.last ∷ [], w.opens, w.whole)) (λ (o : Single cs ts). constraint_begins room o.0 ts o.2) h

constraint_levels : (room : ℕ) → Levels SpellsConstraint with_last (form_step (constraint_at room)) room
constraint_levels room c ts h = constraint_level c ts h

members_level : (cs : List Constraint) (ts : List Piece) → Chain SpellsConstraint cs ts → Level ts
members_level cs ts h = level_chain SpellsConstraint with_last (form_step (constraint_at 0)) 0 (constraint_levels 0) cs ts h

pub constraints_level : (cs : List Constraint) (ts : List Piece) → ConstraintTokens cs ts → Level ts
constraints_level cs ts h =
    ⊎_elim (λ (m : Listed cs ts). level_wrapped m.0 (m.1 ∷ m.2) ts m.4 (level_name m.1 m.2 m.3.0 (members_level cs m.2 m.5))) (λ (o : Single cs ts). constraint_level o.0 ts o.2) h

abbrev constraints_body : ℕ → Former (List Constraint)
constraints_body room front items = next_of room items >>= λ p. constraints_with room front p.0 p.1 (rule_word_of p.0)

and_step : (room : ℕ) (front k : Span) (items r1 r2 : List Item) (p : Piece) (cs : List Constraint) → next_of room items ≡ Ok (p, r1) → rule_word_of p ≡ words.And → until_close (form_step (constraint_at room)) room (length r1) [] r1 ≡ Ok ((cs, k), r2) → constraints_body room front items ≡ Ok (cs, r2)
and_step room front k items r1 r2 p cs e h m = rw (e, h, m) refl

one_at : (room : ℕ) (front : Span) (p : Piece) (r : List Item) (c : Constraint) (rest : List Item) (h : RuleWord) → constraint_with room front p r h ≡ Ok (c, rest) → constraint_behind room front p r ≡ Ok (c, rest) → constraints_with room front p r h ≡ Ok (c ∷ [], rest)
unfolding both_of
one_at room front p r c rest words.And e f = absurd cc
one_at room front p r c rest _ e f = ap (λ (x : Read Constraint). x >>= λ c. Ok (c.0 ∷ [], c.1)) f

one_step : (room : ℕ) (front : Span) (items : List Item) (c : Constraint) (rest : List Item) → constraint_body room front items ≡ Ok (c, rest) → constraints_body room front items ≡ Ok (c ∷ [], rest)
unfolding constraint_behind
one_step room front items c rest e =
    let a = bind_ok (next_of room items) (λ p. constraint_behind room front p.0 p.1) (c, rest) e in
    ap (λ (q : Read Piece). q >>= λ p. constraints_with room front p.0 p.1 (rule_word_of p.0)) a.1 ∙ one_at room front a.0.0 a.0.1 c rest (rule_word_of a.0.0) a.2 a.2

constraints_body_again : (outer room : ℕ) → suc room ≡ outer → FormAgain ConstraintTokens outer (constraints_body room)
constraints_body_again outer room under cs ts first inner rest h e ev =
    let read = constraints_body room in
    ⊎_elim
    (λ (m : Listed cs ts).
    let a = m.1 in
    let w = m.4 in
    enters ConstraintTokens outer read cs m.0 (a ∷ m.2) ts w first inner rest e (level_name a m.2 m.3.0 (members_level cs m.2 m.5)) ev (λ r er eb.
    let inside : Even room m.2 = even_behind room r a m.2 (ap is_flat m.3.0) (er ∙ sym under) eb in
    let left = toks m.2 (tok w.last ∷ rest) in
    and_step room w.first.span w.last.span (tok a ∷ left) left rest a cs (name_again room a left m.3.0) (word_rules a words.And m.3)
    (until_again SpellsConstraint with_last (form_step (constraint_at room)) room (constraint_levels room) (form_again SpellsConstraint room (constraint_at room) (constraint_begins room) (constraint_at_again room)) (length left) [] cs cs m.2 w.last rest m.5 inside (added_last [] cs) w.closes (enough m.2 w.last rest))))
    (λ (o : Single cs ts).
    one_step room first.span (toks inner rest) o.0 rest (constraint_again outer room under o.0 ts first inner rest o.2 e ev)
    ∙ (λ i. Ok (sym o.1 i, rest)))
    h

constraints_at_again : (room : ℕ) → FormAgain ConstraintTokens room (constraints_at room)
unfolding constraints_at
constraints_at_again room cs ts first inner rest h e ev =
    let b = constraints_begins room cs ts h in
    let some : 0 < room = even_open room b.0 b.1 b.2 (ap (room_after room) (sym b.3) ∙ ev) in
    constraints_body_again room (room - 1) (omega (arith, some)) cs ts first inner rest h e ev

-- ---- the whole

-- the tokens that were read spell the constraints
pub constraints_takes : (depth : ℕ) (items : List Item) (cs : List Constraint) → constraints_of depth items ≡ Ok cs → (ts : List Piece) × (items ≡ map tok ts) × ConstraintTokens cs ts × Even depth ts
unfolding constraints_of
constraints_takes depth items cs e =
    let a = bind_ok (form_next depth (constraints_at depth) items) (λ cs. end_of cs.1 >>= λ e. Ok cs.0) cs e in
    let b = bind_ok (end_of a.0.1) (λ e. Ok a.0.0) cs a.2 in
    let t = form_next_takes ConstraintTokens depth (constraints_at depth) (constraints_at_takes depth) items a.0.0 a.0.1 a.1 in
    (t.inner, t.whole ∙ ap (toks t.inner) (end_takes a.0.1 b.0 b.1) ∙ toks_all t.inner, subst (λ (xs : List Constraint). ConstraintTokens xs t.inner) (ok_is a.0.0 cs b.2) t.spelled, t.even)

pub constraints_again : (depth : ℕ) (cs : List Constraint) (ts : List Piece) → ConstraintTokens cs ts → Even depth ts → constraints_of depth (map tok ts) ≡ Ok cs
unfolding constraints_of
constraints_again depth cs ts h ev =
    ap (constraints_of depth) (sym (toks_all ts))
    ∙ ap (λ (q : Read (List Constraint)). q >>= λ cs. end_of cs.1 >>= λ e. Ok cs.0) (form_next_again ConstraintTokens depth (constraints_at depth) (constraints_begins depth) (constraints_at_again depth) cs ts [] h ev)
    ∙ ap (λ (q : Result (List Item) TextFault). q >>= λ e. Ok cs) end_again
