-- The byte at which no token can be read stands within the text.
use Rattle.std.proofs.Common.{◌≡◌, ℕ, ◌+◌, ◌-◌, ◌<◌, Bool, true, false, cond, List, length, get_or, drop, Option, None, Result, Ok, Err, refl, sym, ap, ◌∙◌, arith, rules, ⊎_elim}
use Rattle.std.specs.Prelude.{IfErr, ◌&&◌, ◌||◌, not, ◌==◌, nat_lt, slice_index}
use Rattle.std.specs.List.{prefix_len}
use Rattle.std.proofs.lemmas.Bool.{cond_both, cases_lt, and_parts, ltb-true, false≢true}
use Rattle.std.proofs.lemmas.List.{get_or_past}
use Rattle.std.proofs.lemmas.List.Sums.{prefix_len-drop_all}
use Rattle.plus_tokens.specs.declared.token.Kind.{Kind}
use Rattle.plus_tokens.specs.declared.token.Kind.TheVariants as kinds
use Rattle.plus_tokens.specs.declared.token.Token.{Token}
use Rattle.plus_tokens.specs.declared.token.LexFault.{LexFault}
use Rattle.plus_tokens.specs.declared.token.LexFault.TheVariants.{BadByte, TooLong}
use Rattle.plus_tokens.specs.Bytes.{is_digit, is_name_byte, ends_number}
use Rattle.plus_tokens.specs.First.{end_of, word_at, number_at, token_at, token_start, first_token, found, has_point, number_end, places_at, sized}
use Rattle.plus_tokens.specs.Seen.{byte_of}

-- a token, or a fault within the text
record Sound (text : List ℕ) (r : Result Token LexFault) : Type 0 where
  fact : IfErr r (λ f. byte_of f < length text)

pick : {text : List ℕ} {b : Bool} {x y : Result Token LexFault} → (b ≡ true → Sound text x) → (b ≡ false → Sound text y) → Sound text (cond b x y)
pick {text} {b} {x} {y} f g = cond_both b x y (Sound text) f g

token : {text : List ℕ} (kind : Kind) (start last : ℕ) → Sound text (Ok (record { kind = kind; start = start; «end» = last }))
token kind start last = record { fact = tt }

bad_byte : {text : List ℕ} (at : ℕ) → at < length text → Sound text (Err (BadByte at))
bad_byte at lt = record { fact = lt }

too_long : {text : List ℕ} (at : ℕ) → at < length text → Sound text (Err (TooLong at))
too_long at lt = record { fact = lt }

-- bytes that pass stand within the text
some_pass : (p : ℕ → Bool) (text : List ℕ) (at : ℕ) → 0 < prefix_len p (drop at text) → at < length text
some_pass p text at lt =
    ⊎_elim (λ h. h) (λ past. absurd (let e = prefix_len-drop_all p text at past in omega (arith, e))) (cases_lt at (length text))

-- a test that 0 fails holds only within the text
within : (p : ℕ → Bool) (text : List ℕ) (at : ℕ) → p 0 ≡ false → p (get_or text at 0) ≡ true → at < length text
within p text at fails e =
    ⊎_elim (λ lt. lt) (λ past. absurd (false≢true (sym fails ∙ sym (ap p (get_or_past text at 0 past)) ∙ e))) (cases_lt at (length text))

word_sound : (kind : Kind) (text : List ℕ) (at name : ℕ) → Sound text (word_at kind text at name)
unfolding word_at
word_sound kind text at name =
    cond_both (nat_lt 64 (prefix_len is_name_byte (drop name text))) _ _ (Sound text)
    (λ e. too_long name (some_pass is_name_byte text name (let l = ltb-true 64 _ e in omega (arith, l))))
    (λ e. token kind at (end_of is_name_byte text name))

number_sound : (text : List ℕ) (at first : ℕ) → at < length text → Sound text (number_at text at first)
unfolding number_at
number_sound text at first lt =
    cond_both (nat_lt 19 (end_of is_digit text first - first) || nat_lt 9 (places_at text first)) _ _ (Sound text)
    (λ e. too_long at lt)
    (λ _.
    cond_both (has_point text first && (places_at text first == 0)) _ _ (Sound text)
    (λ e. bad_byte (end_of is_digit text first) (within (λ b. b == 46) text (end_of is_digit text first) refl (and_parts (has_point text first) _ e).0))
    (λ _.
    cond_both (nat_lt (number_end text first) (length text) && not (ends_number (slice_index text (number_end text first)))) _ _ (Sound text)
    (λ e. bad_byte (number_end text first) (ltb-true _ _ (and_parts (nat_lt (number_end text first) (length text)) _ e).0))
    (λ _. token kinds.Number at (number_end text first))))

token_sound : (text : List ℕ) (at : ℕ) → at < length text → Sound text (token_at text at (get_or text at 0))
unfolding token_at
token_sound text at lt =
    let sign : (k : Kind) (n : ℕ) → Sound text (sized k at n) = λ k n. token k at (at + n) in
    let lone : Sound text (Err (BadByte at)) = bad_byte at lt in
    let named : (k : Kind) (name : ℕ) → Sound text (word_at k text at name) = λ k name. word_sound k text at name in
    let numbered : (first : ℕ) → Sound text (number_at text at first) = λ first. number_sound text at first lt in
    search (rules, pick, lone, sign, named, numbered) depth 60 fits 4000

-- the first fault stands within the text
first_sound : (text : List ℕ) (from : ℕ) → IfErr (first_token text from) (λ f. byte_of f < length text)
unfolding first_token
first_sound text from =
    cond_both (nat_lt (token_start text from) (length text)) (found (token_at text (token_start text from) (slice_index text (token_start text from)))) (Ok None)
    (λ (r : Result (Option Token) LexFault). IfErr r (λ f. byte_of f < length text))
    (λ lt. from_found _ (token_sound text (token_start text from) (ltb-true _ _ lt)))
    (λ _. tt)
  where
    from_found : (r : Result Token LexFault) → Sound text r → IfErr (found r) (λ f. byte_of f < length text)
    from_found (Ok u) s = tt
    from_found (Err f) s = s.fact

pub fault_within : (text : List ℕ) (from : ℕ) (f : LexFault) → first_token text from ≡ Err f → byte_of f < length text
fault_within text from f e = at_answer (first_token text from) (first_sound text from) e
  where
    at_answer : (r : Result (Option Token) LexFault) → IfErr r (λ f. byte_of f < length text) → r ≡ Err f → byte_of f < length text
    at_answer (Ok o) s e = absurd cc
    at_answer (Err g) s e = let same : g ≡ f = cc in rw (← same) s
