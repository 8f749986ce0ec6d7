-- What waits in a reader: whether a line is due, and which it is.
use Rattle.std.proofs.Common.{◌≡◌, eqb-true, ℕ, suc, ◌+◌, ◌-◌, ◌<◌, ◌≤◌, ◌⊎◌, inl, inr, Bool, true, false, cond, List, [], ◌∷◌, ◌++◌, length, take, drop, refl, sym, ap, ◌∙◌, arith, length-append, Result, Ok, Err}
use Rattle.std.specs.Prelude.{◌==◌, not, ◌&&◌, ◌||◌, nat_lt, None, MatchResult, OnOk, IfErr}
use Rattle.std.specs.List.{prefix_len}
use Rattle.std.proofs.lemmas.List.{append-nil, length-take-le, take_all}
use Rattle.std.proofs.lemmas.List.Sums.{prefix_len-le-length}
use Rattle.std.proofs.lemmas.Bool.{ltb-true, ltb-false, lt-ltb, cond-true}
use Rattle.plus_plan.specs.declared.forms.Line.{Line}
use Rattle.plus_plan.specs.declared.forms.PlanForm.{PlanForm}
use Rattle.plus_plan.specs.declared.faults.PlanFault.{PlanFault}
use Rattle.plus_plan.specs.declared.faults.PlanFault.TheVariants as faults
use Rattle.plus_plan.specs.Cut.{lines_of, goes_on, line_end, line_from, next_line}
use Rattle.plus_plan.specs.Lines.{read_line, numbered}
use Rattle.plus_plan.specs.Spells.{line_limit}
use Rattle.plus_plan.specs.Answers.{RefusedAs}
use Rattle.plus_plan.specs.Pending.{Pending}
use Rattle.plus_plan.specs.Held.{EndsAt}
use Rattle.plus_plan.specs.Pieces.{AtLine, has_lf, is_due, IsIdle, MayFollow, lines_with, IsNext, IsRefusedNext}
use Rattle.plus_plan.proofs.Cutting.{cut_at}
use Rattle.plus_plan.proofs.OneLine.{read_spelled, has_bottom}
use Rattle.plus_plan.proofs.Places.{fault_is}
use Rattle.plus_plan.proofs.Feeding.{prefix_len-front, first_whole, last_line}

-- why a line is due
pub data IsDue (r : Pending) : Type 0 where
  ended : line_end r.rest 0 < length r.rest → IsDue r
  long : line_limit < length r.rest → IsDue r
  last : r.closed ≡ true → 0 < length r.rest → IsDue r

closing : (r : Pending) (a b : Bool) → r.closed ≡ a → nat_lt 0 (length r.rest) ≡ b → (a && b) ≡ true → IsDue r
closing r true true ha hb e = last ha (ltb-true 0 (length r.rest) hb)
closing r true false ha hb e = absurd cc
closing r false b ha hb e = absurd cc

too_long : (r : Pending) (a : Bool) → nat_lt line_limit (length r.rest) ≡ a → (a || (r.closed && nat_lt 0 (length r.rest))) ≡ true → IsDue r
too_long r true h e = long (ltb-true line_limit (length r.rest) h)
too_long r false h e = closing r r.closed (nat_lt 0 (length r.rest)) refl refl e

with_lf : (r : Pending) (a : Bool) → has_lf r.rest ≡ a → (a || (nat_lt line_limit (length r.rest) || (r.closed && nat_lt 0 (length r.rest)))) ≡ true → IsDue r
with_lf r true h e = ended (ltb-true (line_end r.rest 0) (length r.rest) h)
with_lf r false h e = too_long r (nat_lt line_limit (length r.rest)) refl e

pub due_of : (r : Pending) → is_due r ≡ true → IsDue r
due_of r e = with_lf r (has_lf r.rest) refl e

-- where a line is due, some byte waits
pub due_some : (r : Pending) → IsDue r → 0 < length r.rest
due_some r (ended lt) = omega arith
due_some r (long lt) = omega arith
due_some r (last h lt) = lt

-- ---- the line that is due

-- a line that is too long is refused for it
long_read : (form : PlanForm) (n : ℕ) (bytes : List ℕ) → line_limit < length bytes → read_line form n bytes ≡ Err (faults.LineTooLong n)
unfolding read_line
long_read form n bytes lt = cond-true (nat_lt line_limit (length bytes)) _ _ (lt-ltb line_limit (length bytes) lt)

-- the first line of bytes
first_is : (bytes : List ℕ) → line_from bytes 0 ≡ take (prefix_len goes_on bytes) bytes
first_is bytes =
    let count : line_end bytes 0 - 0 ≡ prefix_len goes_on bytes = omega arith in
    ap (λ n. take n bytes) count

first_size : (bytes : List ℕ) → length (line_from bytes 0) ≡ prefix_len goes_on bytes
first_size bytes = ap length (first_is bytes) ∙ length-take-le (prefix_len goes_on bytes) bytes (prefix_len-le-length goes_on bytes)

-- bytes in which a line does not end are all of it
line_is_all : (bytes : List ℕ) → line_end bytes 0 ≡ length bytes → line_from bytes 0 ≡ bytes
line_is_all bytes e = first_is bytes ∙ take_all (prefix_len goes_on bytes) bytes (omega arith)

-- the line that is due is the first of those that wait, unless it is too long; behind it come those of what comes
whole_first : (r : Pending) (whole : Bool) → EndsAt whole (length r.rest) r.rest → (line_end r.rest 0 < length r.rest) → (more : List ℕ) → lines_of (r.rest ++ more) ≡ line_from r.rest 0 ∷ lines_of more
whole_first r true e lt more =
    first_whole r.rest more (omega arith) ∙ ap (λ (l : List ℕ). l ∷ lines_of more) (sym (first_is r.rest))
whole_first r false e lt more = absurd (omega arith)

last_first : (r : Pending) (whole : Bool) → EndsAt whole (length r.rest) r.rest → 0 < length r.rest → (more : List ℕ) → more ≡ [] → lines_of (r.rest ++ more) ≡ line_from r.rest 0 ∷ lines_of more
last_first r true e lt more none = whole_first r true e (omega arith) more
last_first r false e lt more none =
    rw none (ap lines_of (append-nil r.rest) ∙ last_line r.rest (omega arith) lt ∙ ap (λ (l : List ℕ). l ∷ []) (sym (line_is_all r.rest e)))

-- a reader that holds one line, or the beginning of one
abbrev pub HoldsOne : Pending → Type 0
HoldsOne r = (whole : Bool) × EndsAt whole (length r.rest) r.rest × (length r.rest ≤ line_limit + 1)

first_line_of : (r : Pending) → HoldsOne r → IsDue r → (length (line_from r.rest 0) ≤ line_limit) → (more : List ℕ) → MayFollow r more → lines_of (r.rest ++ more) ≡ line_from r.rest 0 ∷ lines_of more
first_line_of r h (ended lt) short more may = whole_first r h.0 h.1 lt more
first_line_of r h (last closed lt) short more may = last_first r h.0 h.1 lt more (may closed)
first_line_of r h (long lt) short more may = long_first h.0 h.1
  where
    long_first : (whole : Bool) → EndsAt whole (length r.rest) r.rest → lines_of (r.rest ++ more) ≡ line_from r.rest 0 ∷ lines_of more
    long_first true e = whole_first r true e (omega arith) more
    long_first false e =
        let all : length (line_from r.rest 0) ≡ length r.rest = ap length (line_is_all r.rest e) in
        absurd (omega arith)

lf_end : (b : ℕ) (bs : List ℕ) (t : Bool) → (b == 10) ≡ t → (prefix_len goes_on bs + 1 ≡ length bs → AtLine bs) → cond (not t) (1 + prefix_len goes_on bs) 0 + 1 ≡ suc (length bs) → AtLine (b ∷ bs)
lf_end b [] true h again e = (let is : b ≡ 10 = eqb-true b 10 h in inr ([], ap (λ x. x ∷ []) is))
lf_end b (c ∷ cs) true h again e = absurd (omega arith)
lf_end b bs false h again e = behind (again (omega arith))
  where
    behind : AtLine bs → AtLine (b ∷ bs)
    behind (inl n) = (let none : length bs ≡ 0 = ap length n in absurd (omega arith))
    behind (inr x) = inr (b ∷ x.0, ap (λ (t : List ℕ). b ∷ t) x.1)

-- bytes whose first line has its LF at their end
whole_end : (bytes : List ℕ) → prefix_len goes_on bytes + 1 ≡ length bytes → AtLine bytes
whole_end [] e = inl refl
whole_end (b ∷ bs) e = lf_end b bs (b == 10) refl (whole_end bs) e

ends_whole : (r : Pending) (whole : Bool) → EndsAt whole (length r.rest) r.rest → line_end r.rest 0 < length r.rest → AtLine r.rest
ends_whole r true e lt = whole_end r.rest (omega arith)
ends_whole r false e lt = absurd (omega arith)

-- the line that is due has its LF, unless the text has ended or it is too long
due_ends : (r : Pending) → HoldsOne r → IsDue r → r.closed ≡ false → AtLine r.rest ⊎ ((line_end r.rest 0 ≡ length r.rest) × (line_limit < length r.rest))
due_ends r h (ended lt) c = inl (ends_whole r h.0 h.1 lt)
due_ends r h (last closed lt) c = absurd (let no : false ≡ true = sym c ∙ closed in cc no)
due_ends r h (long lt) c = long_ends h.0 h.1
  where
    long_ends : (whole : Bool) → EndsAt whole (length r.rest) r.rest → AtLine r.rest ⊎ ((line_end r.rest 0 ≡ length r.rest) × (line_limit < length r.rest))
    long_ends true e = inl (whole_end r.rest (omega arith))
    long_ends false e = inr (e, lt)

pub short_ends : (r : Pending) → AtLine r.rest ⊎ ((line_end r.rest 0 ≡ length r.rest) × (line_limit < length r.rest)) → length (line_from r.rest 0) ≤ line_limit → AtLine r.rest
short_ends r (inl at) le = at
short_ends r (inr e) le = (let all : length (line_from r.rest 0) ≡ length r.rest = ap length (line_is_all r.rest e.0) in let lt = e.1 in absurd (omega arith))

-- what is read is the line that is next
pub is_next : (r : Pending) (line : Line) → r.fault ≡ None → HoldsOne r → IsDue r → read_line r.form r.number (line_from r.rest 0) ≡ Ok line → IsNext r line
is_next r line ok h due read =
    let spelled = read_spelled r.form r.number (line_from r.rest 0) line read in
    record {
      no_fault = ok;
      read = read;
      spelled = spelled;
      bottom = has_bottom r.form r.number line spelled.0 spelled.2;
      some = due_some r due;
      ends = λ c. short_ends r (due_ends r h due c) spelled.3;
      first = λ more may.
          ap (numbered r.form r.number) (first_line_of r h due spelled.3 more may)
          ∙ ap (λ (read : Result Line PlanFault). read ∷ numbered r.form (r.number + 1) (lines_of more)) read;
    }

-- ---- the line that is refused

-- bytes before which a line is too long
long_behind : (form : PlanForm) (n : ℕ) (bytes more : List ℕ) → line_end bytes 0 ≡ length bytes → line_limit < length bytes → (behind : List (Result Line PlanFault)) × (numbered form n (lines_of (bytes ++ more)) ≡ read_line form n (line_from bytes 0) ∷ behind)
long_behind form n bytes more e lt =
    let count : prefix_len goes_on (bytes ++ more) ≡ length bytes + prefix_len goes_on more = prefix_len-front bytes more (omega arith) in
    let some : 0 < length (bytes ++ more) = omega (arith, length-append bytes more) in
    let size : length (line_from (bytes ++ more) 0) ≡ prefix_len goes_on (bytes ++ more) = first_size (bytes ++ more) in
    let long_one : line_limit < length (line_from (bytes ++ more) 0) = omega arith in
    let long_two : line_limit < length (line_from bytes 0) = rw (line_is_all bytes e) lt in (
      numbered form (n + 1) (lines_of (drop (next_line (bytes ++ more) 0) (bytes ++ more))),
      ap (numbered form n) (cut_at (bytes ++ more) 0 some)
          ∙ ap (λ (read : Result Line PlanFault). read ∷ numbered form (n + 1) (lines_of (drop (next_line (bytes ++ more) 0) (bytes ++ more)))) (long_read form n (line_from (bytes ++ more) 0) long_one ∙ sym (long_read form n (line_from bytes 0) long_two)),
    )

behind_first : (r : Pending) (more : List ℕ) → lines_of (r.rest ++ more) ≡ line_from r.rest 0 ∷ lines_of more → (behind : List (Result Line PlanFault)) × (lines_with r more ≡ read_line r.form r.number (line_from r.rest 0) ∷ behind)
behind_first r more e = (numbered r.form (r.number + 1) (lines_of more), ap (numbered r.form r.number) e)

refused_first : (r : Pending) → HoldsOne r → IsDue r → (more : List ℕ) → MayFollow r more → (behind : List (Result Line PlanFault)) × (lines_with r more ≡ read_line r.form r.number (line_from r.rest 0) ∷ behind)
refused_first r h (ended lt) more may = behind_first r more (whole_first r h.0 h.1 lt more)
refused_first r h (last closed lt) more may = behind_first r more (last_first r h.0 h.1 lt more (may closed))
refused_first r h (long lt) more may = long_first h.0 h.1
  where
    long_first : (whole : Bool) → EndsAt whole (length r.rest) r.rest → (behind : List (Result Line PlanFault)) × (lines_with r more ≡ read_line r.form r.number (line_from r.rest 0) ∷ behind)
    long_first true e = behind_first r more (whole_first r true e (omega arith) more)
    long_first false e = long_behind r.form r.number r.rest more e lt

-- what is refused is the line that is next
pub is_refused_next : (r : Pending) (e : PlanFault) → HoldsOne r → IsDue r → RefusedAs e (read_line r.form r.number (line_from r.rest 0)) → IsRefusedNext r e
is_refused_next r e h due read = record {
  read = read;
  why = fault_is r.form r.number (line_from r.rest 0) e read;
  some = due_some r due;
  ends = due_ends r h due;
  first = refused_first r h due;
}

-- ---- none is due

-- ---- what reading the line that is due gives

pub held_one : (r : Pending) (whole : Bool) (len : ℕ) (buffer : List ℕ) → length buffer ≡ line_limit + 1 → len ≤ line_limit + 1 → EndsAt whole len (take len buffer) → take len buffer ≡ r.rest → HoldsOne r
held_one r whole len buffer room within ends is =
    let size : length (take len buffer) ≡ len = length-take-le len buffer (omega arith) in
    let same : length r.rest ≡ len = sym (ap length is) ∙ size in
    (whole, rw same (rw is at ends), omega arith)

pub next_is : (r : Pending) (l : Line) (result : Result (Unit {0}) PlanFault) → r.fault ≡ None → HoldsOne r → is_due r ≡ true → MatchResult result (λ _. read_line r.form r.number (line_from r.rest 0) ≡ Ok l) (λ e. RefusedAs e (read_line r.form r.number (line_from r.rest 0))) → OnOk result (IsNext r l)
next_is r l (Ok u) ok h due m = is_next r l ok h (due_of r due) m
next_is r l (Err e) ok h due m = tt

pub refused_is : (r : Pending) (l : Line) (result : Result (Unit {0}) PlanFault) → HoldsOne r → is_due r ≡ true → MatchResult result (λ _. read_line r.form r.number (line_from r.rest 0) ≡ Ok l) (λ e. RefusedAs e (read_line r.form r.number (line_from r.rest 0))) → IfErr result (IsRefusedNext r)
refused_is r l (Ok u) h due m = tt
refused_is r l (Err e) h due m = is_refused_next r e h (due_of r due) m
