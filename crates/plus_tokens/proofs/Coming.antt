-- What the first token is, told from its first byte.
use Rattle.std.proofs.Common.{◌≡◌, ℕ, ◌+◌, ◌-◌, ◌<◌, ◌≤◌, Bool, true, false, cond, List, length, get_or, drop, Some, None, Result, Ok, Err, refl, sym, ap, ◌∙◌, arith, rules, ⊎_elim}
use Rattle.std.specs.Prelude.{IfOk, ◌==◌}
use Rattle.std.specs.List.{prefix_len}
use Rattle.std.proofs.lemmas.Bool.{cond_both, cases_lt, lt-ltb, le-ltb, eq-eqb, ne_eqb, false≢true}
use Rattle.plus_tokens.specs.declared.token.Kind.{Kind}
use Rattle.plus_tokens.specs.declared.token.Kind.TheVariants as kinds
use Rattle.plus_tokens.specs.declared.token.Token.{Token}
use Rattle.plus_tokens.specs.declared.token.LexFault.{LexFault}
use Rattle.plus_tokens.specs.Bytes.{is_letter, is_name_byte}
use Rattle.plus_tokens.specs.Ahead.{is_name, is_open, is_close, is_colon, place_if, end_if, finds_none}
use Rattle.plus_tokens.specs.First.{end_of, word_at, number_at, sized, token_at, token_start, first_token, found}
use Rattle.plus_tokens.proofs.Inside.{within}

-- a choice whose test is known
yes : {A : Type 0} {b : Bool} (x y : A) → b ≡ true → cond b x y ≡ x
yes x y e = ap (λ (t : Bool). cond t x y) e

no : {A : Type 0} {b : Bool} (x y : A) → b ≡ false → cond b x y ≡ y
no x y e = ap (λ (t : Bool). cond t x y) e

clash : {A : Type 0} {b : Bool} → b ≡ false → b ≡ true → A
clash no yes = absurd (false≢true (sym no ∙ yes))

-- the first token is the one with this first byte
begins : (text : List ℕ) (from b : ℕ) → token_start text from < length text → get_or text (token_start text from) 0 ≡ b → first_token text from ≡ found (token_at text (token_start text from) b)
unfolding first_token
begins text from b lt e = yes _ _ (lt-ltb _ _ lt) ∙ ap (λ (b : ℕ). found (token_at text (token_start text from) b)) e

pub nothing : (text : List ℕ) (from : ℕ) → length text ≤ token_start text from → first_token text from ≡ Ok None
unfolding first_token
nothing text from le = no _ _ (le-ltb _ _ le)

-- ---- a token of another kind

record Lacks (q : Kind → Bool) (r : Result Token LexFault) : Type 0 where
  fact : IfOk r (λ t. q t.kind ≡ false)

pick : {q : Kind → Bool} {b : Bool} {x y : Result Token LexFault} → (b ≡ true → Lacks q x) → (b ≡ false → Lacks q y) → Lacks q (cond b x y)
pick {q} {b} {x} {y} f g = cond_both b x y (Lacks q) f g

fault : {q : Kind → Bool} {f : LexFault} → Lacks q (Err f)
fault = record { fact = tt }

word_lacks : (q : Kind → Bool) (kind : Kind) (text : List ℕ) (at name : ℕ) → q kind ≡ false → Lacks q (word_at kind text at name)
unfolding word_at
word_lacks q kind text at name e =
    let this : (start last : ℕ) → Lacks q (Ok (record { kind = kind; start = start; «end» = last })) = λ start last. record { fact = e } in
    search (rules, pick, fault, this)

number_lacks : (q : Kind → Bool) → q kinds.Number ≡ false → (text : List ℕ) (at first : ℕ) → Lacks q (number_at text at first)
unfolding number_at
number_lacks q e text at first =
    let this : (start last : ℕ) → Lacks q (Ok (record { kind = kinds.Number; start = start; «end» = last })) = λ start last. record { fact = e } in
    search (rules, pick, fault, this)

-- each kind but this
others : (q : Kind → Bool) (text : List ℕ) (at : ℕ) (k : Kind) → q k ≡ false → (n : ℕ) → Lacks q (sized k at n)
others q text at k e n = record { fact = e }

no_open : (text : List ℕ) (at b : ℕ) → (b == 40) ≡ false → Lacks is_open (token_at text at b)
unfolding token_at
no_open text at b no =
    let other : (k : Kind) → is_open k ≡ false → (n : ℕ) → Lacks is_open (sized k at n) = others is_open text at in
    let word : (k : Kind) → is_open k ≡ false → (name : ℕ) → Lacks is_open (word_at k text at name) = λ k e name. word_lacks is_open k text at name e in
    let number : (first : ℕ) → Lacks is_open (number_at text at first) = λ first. number_lacks is_open refl text at first in
    let this : (b == 40) ≡ true → Lacks is_open (sized kinds.Open at 1) = λ e. clash no e in
    search (rules, pick, fault, other, word, number, this) depth 60 fits 4000

no_close : (text : List ℕ) (at b : ℕ) → (b == 41) ≡ false → Lacks is_close (token_at text at b)
unfolding token_at
no_close text at b no =
    let other : (k : Kind) → is_close k ≡ false → (n : ℕ) → Lacks is_close (sized k at n) = others is_close text at in
    let word : (k : Kind) → is_close k ≡ false → (name : ℕ) → Lacks is_close (word_at k text at name) = λ k e name. word_lacks is_close k text at name e in
    let number : (first : ℕ) → Lacks is_close (number_at text at first) = λ first. number_lacks is_close refl text at first in
    let this : (b == 41) ≡ true → Lacks is_close (sized kinds.Close at 1) = λ e. clash no e in
    search (rules, pick, fault, other, word, number, this) depth 60 fits 4000

no_colon : (text : List ℕ) (at b : ℕ) → (b == 58) ≡ false → Lacks is_colon (token_at text at b)
unfolding token_at
no_colon text at b no =
    let other : (k : Kind) → is_colon k ≡ false → (n : ℕ) → Lacks is_colon (sized k at n) = others is_colon text at in
    let word : (k : Kind) → is_colon k ≡ false → (name : ℕ) → Lacks is_colon (word_at k text at name) = λ k e name. word_lacks is_colon k text at name e in
    let number : (first : ℕ) → Lacks is_colon (number_at text at first) = λ first. number_lacks is_colon refl text at first in
    let this : (b == 58) ≡ true → Lacks is_colon (sized kinds.Colon at 1) = λ e. clash no e in
    search (rules, pick, fault, other, word, number, this) depth 60 fits 4000

not_named : (text : List ℕ) (at b : ℕ) → is_letter b ≡ false → Lacks is_name (token_at text at b)
unfolding token_at
not_named text at b no =
    let other : (k : Kind) → is_name k ≡ false → (n : ℕ) → Lacks is_name (sized k at n) = others is_name text at in
    let word : (k : Kind) → is_name k ≡ false → (name : ℕ) → Lacks is_name (word_at k text at name) = λ k e name. word_lacks is_name k text at name e in
    let number : (first : ℕ) → Lacks is_name (number_at text at first) = λ first. number_lacks is_name refl text at first in
    let this : is_letter b ≡ true → Lacks is_name (word_at kinds.Name text at at) = λ e. clash no e in
    search (rules, pick, fault, other, word, number, this) depth 60 fits 4000

-- so nothing of this kind is found
lacks_end : (q : Kind → Bool) (r : Result Token LexFault) → Lacks q r → end_if q (found r) ≡ None
lacks_end q (Ok t) l = no _ _ l.fact
lacks_end q (Err f) l = refl

lacks_place : (q : Kind → Bool) (r : Result Token LexFault) → Lacks q r → place_if q (found r) ≡ None
lacks_place q (Ok t) l = no _ _ l.fact
lacks_place q (Err f) l = refl

-- the same of the first token, whatever stands where it begins
first_lacks : (q : Kind → Bool) (text : List ℕ) (from : ℕ) → ((at b : ℕ) → at ≡ token_start text from → get_or text at 0 ≡ b → Lacks q (token_at text at b)) → end_if q (first_token text from) ≡ None
first_lacks q text from l =
    ⊎_elim
    (λ lt. ap (end_if q) (begins text from _ lt refl) ∙ lacks_end q _ (l (token_start text from) _ refl refl))
    (λ past. ap (end_if q) (nothing text from past))
    (cases_lt (token_start text from) (length text))

-- ---- what each test finds

open_here : (text : List ℕ) (from : ℕ) → get_or text (token_start text from) 0 ≡ 40 → end_if is_open (first_token text from) ≡ Some (token_start text from + 1)
unfolding token_at
open_here text from e =
    ap (end_if is_open) (begins text from 40 (within (λ b. b == 40) text (token_start text from) refl (eq-eqb _ _ e)) e)

open_not : (text : List ℕ) (from : ℕ) → (get_or text (token_start text from) 0 ≡ 40 → ⊥) → end_if is_open (first_token text from) ≡ None
open_not text from ne =
    first_lacks is_open text from (λ at b same is. no_open text at b (ne_eqb b 40 (λ e. ne (ap (λ (i : ℕ). get_or text i 0) (sym same) ∙ is ∙ e))))

close_here : (text : List ℕ) (from : ℕ) → get_or text (token_start text from) 0 ≡ 41 → end_if is_close (first_token text from) ≡ Some (token_start text from + 1)
unfolding token_at
close_here text from e =
    ap (end_if is_close) (begins text from 41 (within (λ b. b == 41) text (token_start text from) refl (eq-eqb _ _ e)) e)

close_not : (text : List ℕ) (from : ℕ) → (get_or text (token_start text from) 0 ≡ 41 → ⊥) → end_if is_close (first_token text from) ≡ None
close_not text from ne =
    first_lacks is_close text from (λ at b same is. no_close text at b (ne_eqb b 41 (λ e. ne (ap (λ (i : ℕ). get_or text i 0) (sym same) ∙ is ∙ e))))

-- where a colon stands
at_colon : (text : List ℕ) (from : ℕ) → get_or text (token_start text from) 0 ≡ 58 → first_token text from ≡ found (cond (is_letter (get_or text (token_start text from + 1) 0)) (word_at kinds.Keyword text (token_start text from) (token_start text from + 1)) (sized kinds.Colon (token_start text from) 1))
unfolding token_at
at_colon text from e = begins text from 58 (within (λ b. b == 58) text (token_start text from) refl (eq-eqb _ _ e)) e

colon_here : (text : List ℕ) (from : ℕ) → get_or text (token_start text from) 0 ≡ 58 → is_letter (get_or text (token_start text from + 1) 0) ≡ false → end_if is_colon (first_token text from) ≡ Some (token_start text from + 1)
colon_here text from e next = ap (end_if is_colon) (at_colon text from e ∙ ap found (no _ _ next))

keyword_here : (text : List ℕ) (from : ℕ) → get_or text (token_start text from) 0 ≡ 58 → is_letter (get_or text (token_start text from + 1) 0) ≡ true → end_if is_colon (first_token text from) ≡ None
keyword_here text from e next =
    ap (end_if is_colon) (at_colon text from e ∙ ap found (yes _ _ next))
    ∙ lacks_end is_colon _ (word_lacks is_colon kinds.Keyword text (token_start text from) (token_start text from + 1) refl)

colon_not : (text : List ℕ) (from : ℕ) → (get_or text (token_start text from) 0 ≡ 58 → ⊥) → end_if is_colon (first_token text from) ≡ None
colon_not text from ne =
    first_lacks is_colon text from (λ at b same is. no_colon text at b (ne_eqb b 58 (λ e. ne (ap (λ (i : ℕ). get_or text i 0) (sym same) ∙ is ∙ e))))

-- where a letter stands
at_letter : (text : List ℕ) (at b : ℕ) → is_letter b ≡ true → token_at text at b ≡ word_at kinds.Name text at at
unfolding token_at
at_letter text at b e = yes _ _ e

begins_word : (text : List ℕ) (from : ℕ) → is_letter (get_or text (token_start text from) 0) ≡ true → first_token text from ≡ found (word_at kinds.Name text (token_start text from) (token_start text from))
begins_word text from e =
    begins text from _ (within is_letter text (token_start text from) refl e) refl ∙ ap found (at_letter text (token_start text from) _ e)

name_here : (text : List ℕ) (from : ℕ) → is_letter (get_or text (token_start text from) 0) ≡ true → prefix_len is_name_byte (drop (token_start text from) text) ≤ 64
    → place_if is_name (first_token text from) ≡ Some (token_start text from, end_of is_name_byte text (token_start text from))
unfolding word_at
name_here text from e short = ap (place_if is_name) (begins_word text from e ∙ ap found (no _ _ (le-ltb _ _ short)))

name_too_long : (text : List ℕ) (from : ℕ) → is_letter (get_or text (token_start text from) 0) ≡ true → 64 < prefix_len is_name_byte (drop (token_start text from) text) → place_if is_name (first_token text from) ≡ None
unfolding word_at
name_too_long text from e long = ap (place_if is_name) (begins_word text from e ∙ ap found (yes _ _ (lt-ltb _ _ long)))

name_not : (text : List ℕ) (from : ℕ) → is_letter (get_or text (token_start text from) 0) ≡ false → place_if is_name (first_token text from) ≡ None
name_not text from no =
    ⊎_elim
    (λ lt. ap (place_if is_name) (begins text from _ lt refl) ∙ lacks_place is_name _ (not_named text (token_start text from) _ no))
    (λ past. ap (place_if is_name) (nothing text from past))
    (cases_lt (token_start text from) (length text))

-- ---- whether there is none

some_found : (r : Result Token LexFault) → finds_none (found r) ≡ false
some_found (Ok t) = refl
some_found (Err f) = refl

none_told : (text : List ℕ) (from : ℕ) → token_start text from ≤ length text → finds_none (first_token text from) ≡ (token_start text from == length text)
none_told text from le =
    ⊎_elim
    (λ lt. ap finds_none (begins text from _ lt refl) ∙ some_found _ ∙ sym (ne_eqb _ _ (λ e. absurd (omega (arith, lt, e)))))
    (λ past. ap finds_none (nothing text from past) ∙ sym (eq-eqb _ _ (omega (arith, past, le))))
    (cases_lt (token_start text from) (length text))

-- ---- the same, as the code tells it: where the first token begins, and the byte that stands there

byte_is : (text : List ℕ) (from start b k : ℕ) → start ≡ token_start text from → b ≡ get_or text start 0 → b ≡ k → get_or text (token_start text from) 0 ≡ k
byte_is text from start b k at is e = ap (λ (i : ℕ). get_or text i 0) (sym at) ∙ sym is ∙ e

byte_not : (text : List ℕ) (from start b k : ℕ) → start ≡ token_start text from → b ≡ get_or text start 0 → (b ≡ k → ⊥) → get_or text (token_start text from) 0 ≡ k → ⊥
byte_not text from start b k at is ne e = ne (is ∙ ap (λ (i : ℕ). get_or text i 0) at ∙ e)

behind : (start from : ℕ) (text : List ℕ) → start ≡ token_start text from → Some (token_start text from + 1) ≡ Some (start + 1)
behind start from text at = ap (λ (i : ℕ). Some (i + 1)) (sym at)

pub open_told : (text : List ℕ) (from start b : ℕ) → start ≡ token_start text from → b ≡ get_or text start 0 → b ≡ 40 → Some (start + 1) ≡ end_if is_open (first_token text from)
open_told text from start b at is e = sym (open_here text from (byte_is text from start b 40 at is e) ∙ behind start from text at)

pub open_other : (text : List ℕ) (from start b : ℕ) → start ≡ token_start text from → b ≡ get_or text start 0 → (b ≡ 40 → ⊥) → None ≡ end_if is_open (first_token text from)
open_other text from start b at is ne = sym (open_not text from (byte_not text from start b 40 at is ne))

pub close_told : (text : List ℕ) (from start b : ℕ) → start ≡ token_start text from → b ≡ get_or text start 0 → b ≡ 41 → Some (start + 1) ≡ end_if is_close (first_token text from)
close_told text from start b at is e = sym (close_here text from (byte_is text from start b 41 at is e) ∙ behind start from text at)

pub close_other : (text : List ℕ) (from start b : ℕ) → start ≡ token_start text from → b ≡ get_or text start 0 → (b ≡ 41 → ⊥) → None ≡ end_if is_close (first_token text from)
close_other text from start b at is ne = sym (close_not text from (byte_not text from start b 41 at is ne))

letter_at : (text : List ℕ) (start other n : ℕ) (t : Bool) → start ≡ other → (b : ℕ) → b ≡ get_or text (start + n) 0 → (v : Bool) → v ≡ is_letter b → v ≡ t → is_letter (get_or text (other + n) 0) ≡ t
letter_at text start other n t same b is v letter e =
    ap (λ (i : ℕ). is_letter (get_or text (i + n) 0)) (sym same) ∙ ap is_letter (sym is) ∙ sym letter ∙ e

pub colon_told : (text : List ℕ) (from start b next : ℕ) (v : Bool) → start ≡ token_start text from → b ≡ get_or text start 0 → b ≡ 58 → next ≡ get_or text (start + 1) 0 → v ≡ is_letter next → v ≡ false → Some (start + 1) ≡ end_if is_colon (first_token text from)
colon_told text from start b next v at is e there letter no =
    sym (colon_here text from (byte_is text from start b 58 at is e) (letter_at text start (token_start text from) 1 false at next there v letter no) ∙ behind start from text at)

pub keyword_told : (text : List ℕ) (from start b next : ℕ) (v : Bool) → start ≡ token_start text from → b ≡ get_or text start 0 → b ≡ 58 → next ≡ get_or text (start + 1) 0 → v ≡ is_letter next → v ≡ true → None ≡ end_if is_colon (first_token text from)
keyword_told text from start b next v at is e there letter yes =
    sym (keyword_here text from (byte_is text from start b 58 at is e) (letter_at text start (token_start text from) 1 true at next there v letter yes))

pub colon_other : (text : List ℕ) (from start b : ℕ) → start ≡ token_start text from → b ≡ get_or text start 0 → (b ≡ 58 → ⊥) → None ≡ end_if is_colon (first_token text from)
colon_other text from start b at is ne = sym (colon_not text from (byte_not text from start b 58 at is ne))

letter_here : (text : List ℕ) (from start b : ℕ) (v t : Bool) → start ≡ token_start text from → b ≡ get_or text start 0 → v ≡ is_letter b → v ≡ t → is_letter (get_or text (token_start text from) 0) ≡ t
letter_here text from start b v t at is letter e =
    ap (λ (i : ℕ). is_letter (get_or text i 0)) (sym at) ∙ ap is_letter (sym is) ∙ sym letter ∙ e

pub name_told : (text : List ℕ) (from start b last : ℕ) (v : Bool) → start ≡ token_start text from → b ≡ get_or text start 0 → v ≡ is_letter b → v ≡ true → last ≡ end_of is_name_byte text start → last - start ≤ 64
    → Some (start, last) ≡ place_if is_name (first_token text from)
name_told text from start b last v at is letter yes ends short =
    let ends' : last ≡ end_of is_name_byte text (token_start text from) = ends ∙ ap (end_of is_name_byte text) at in
    sym (name_here text from (letter_here text from start b v true at is letter yes) (omega (arith, at, ends', short))
    ∙ ap (λ (x : ℕ). Some (x, end_of is_name_byte text (token_start text from))) (sym at) ∙ ap (λ (x : ℕ). Some (start, x)) (sym ends'))

pub long_told : (text : List ℕ) (from start b last : ℕ) (v : Bool) → start ≡ token_start text from → b ≡ get_or text start 0 → v ≡ is_letter b → v ≡ true → last ≡ end_of is_name_byte text start → 64 < last - start
    → None ≡ place_if is_name (first_token text from)
long_told text from start b last v at is letter yes ends long =
    let ends' : last ≡ end_of is_name_byte text (token_start text from) = ends ∙ ap (end_of is_name_byte text) at in
    sym (name_too_long text from (letter_here text from start b v true at is letter yes) (omega (arith, at, ends', long)))

pub name_other : (text : List ℕ) (from start b : ℕ) (v : Bool) → start ≡ token_start text from → b ≡ get_or text start 0 → v ≡ is_letter b → v ≡ false → None ≡ place_if is_name (first_token text from)
name_other text from start b v at is letter no = sym (name_not text from (letter_here text from start b v false at is letter no))

pub end_told : (text : List ℕ) (from start : ℕ) → start ≡ token_start text from → start ≤ length text → (start == length text) ≡ finds_none (first_token text from)
end_told text from start at le = ap (λ (i : ℕ). i == length text) at ∙ sym (none_told text from (omega (arith, at, le)))
