-- A text that is fed in pieces: where its first line ends, and what stands behind it.
use Rattle.std.proofs.Common.{◌≡◌, ℕ, suc, ◌+◌, ◌<◌, ◌≤◌, Bool, true, false, cond, List, [], ◌∷◌, ◌++◌, length, take, refl, sym, ap, ◌∙◌, arith, zero, eqb, eq-eqb}
use Rattle.std.specs.Prelude.{◌==◌, not, min, nat_lt}
use Rattle.std.specs.List.{prefix_len}
use Rattle.std.proofs.lemmas.List.{length-take-le}
use Rattle.std.proofs.lemmas.List.Folds.{prefix_len-append}
use Rattle.std.proofs.lemmas.Bool.{ltb-true, ltb-false, cond-true}
use Rattle.plus_plan.specs.Cut.{with_front, lines_of, goes_on, line_end}
use Rattle.plus_plan.specs.Spells.{line_limit}
use Rattle.plus_plan.specs.Held.{EndsAt}

min_byte : (n k m : ℕ) (t : Bool) → m ≡ min n k → cond t (1 + m) 0 ≡ min (suc n) (cond t (1 + k) 0)
min_byte n k m true e = omega arith
min_byte n k m false e = omega arith

-- of the first n bytes as many go on as of all, or n
pub prefix_len-take : (n : ℕ) (bytes : List ℕ) → prefix_len goes_on (take n bytes) ≡ min n (prefix_len goes_on bytes)
prefix_len-take zero bytes = omega arith
prefix_len-take (suc n) [] = omega arith
prefix_len-take (suc n) (b ∷ bs) = min_byte n (prefix_len goes_on bs) (prefix_len goes_on (take n bs)) (goes_on b) (prefix_len-take n bs)

-- bytes that all go on
pub prefix_len-front : (bytes more : List ℕ) → prefix_len goes_on bytes ≡ length bytes → prefix_len goes_on (bytes ++ more) ≡ length bytes + prefix_len goes_on more
prefix_len-front bytes more e =
    let all : eqb (prefix_len goes_on bytes) (length bytes) ≡ true = eq-eqb (prefix_len goes_on bytes) (length bytes) e in
    prefix_len-append goes_on bytes more ∙ cond-true (eqb (prefix_len goes_on bytes) (length bytes)) (length bytes + prefix_len goes_on more) (prefix_len goes_on bytes) all

no_more : (cs more : List ℕ) → length cs ≡ 0 → lines_of (cs ++ more) ≡ lines_of more
no_more [] more h = refl
no_more (c ∷ cs) more h = absurd (omega arith)

-- a first byte, before lines of which the first is so long
whole_byte : (b : ℕ) (bs more : List ℕ) (t : Bool) → (prefix_len goes_on bs + 1 ≡ length bs → lines_of (bs ++ more) ≡ take (prefix_len goes_on bs) bs ∷ lines_of more)
    → cond (not t) (1 + prefix_len goes_on bs) 0 + 1 ≡ suc (length bs)
    → cond t ([] ∷ lines_of (bs ++ more)) (with_front b (lines_of (bs ++ more))) ≡ take (cond (not t) (1 + prefix_len goes_on bs) 0) (b ∷ bs) ∷ lines_of more
whole_byte b bs more true again e =
    let none : length bs ≡ 0 = omega arith in
    ap (λ (ls : List (List ℕ)). [] ∷ ls) (no_more bs more none)
whole_byte b bs more false again e =
    let shorter : prefix_len goes_on bs + 1 ≡ length bs = omega arith in
    let one : suc (prefix_len goes_on bs) ≡ 1 + prefix_len goes_on bs = omega arith in
    ap (with_front b) (again shorter) ∙ ap (λ n. take n (b ∷ bs) ∷ lines_of more) one

-- a line that has its LF ends there, whatever stands behind it
pub first_whole : (bytes more : List ℕ) → prefix_len goes_on bytes + 1 ≡ length bytes → lines_of (bytes ++ more) ≡ take (prefix_len goes_on bytes) bytes ∷ lines_of more
first_whole [] more e = absurd (omega arith)
first_whole (b ∷ bs) more e = whole_byte b bs more (b == 10) (first_whole bs more) e

last_behind : (b : ℕ) (cs : List ℕ) → (prefix_len goes_on cs ≡ length cs → 0 < length cs → lines_of cs ≡ cs ∷ []) → prefix_len goes_on cs ≡ length cs → with_front b (lines_of cs) ≡ (b ∷ cs) ∷ []
last_behind b [] again h = refl
last_behind b (c ∷ cs) again h = ap (with_front b) (again h (omega arith))

last_byte : (b : ℕ) (bs : List ℕ) (t : Bool) → (prefix_len goes_on bs ≡ length bs → 0 < length bs → lines_of bs ≡ bs ∷ []) → cond (not t) (1 + prefix_len goes_on bs) 0 ≡ suc (length bs) → cond t ([] ∷ lines_of bs) (with_front b (lines_of bs)) ≡ (b ∷ bs) ∷ []
last_byte b bs true again e = absurd (omega arith)
last_byte b bs false again e = last_behind b bs again (omega arith)

-- the last line of a text that ends without an LF is all of it
pub last_line : (bytes : List ℕ) → prefix_len goes_on bytes ≡ length bytes → 0 < length bytes → lines_of bytes ≡ bytes ∷ []
last_line [] e lt = absurd (omega arith)
last_line (b ∷ bs) e lt = last_byte b bs (b == 10) (last_line bs) e

ends_by : (t : Bool) (bytes piece : List ℕ) (taken k : ℕ) → k ≡ length bytes + min taken (prefix_len goes_on piece) → nat_lt (prefix_len goes_on piece) taken ≡ t → taken ≤ prefix_len goes_on piece + 1 → prefix_len goes_on (bytes ++ take taken piece) ≡ k → EndsAt t (length bytes + taken) (bytes ++ take taken piece)
ends_by true bytes piece taken k e h near is = let lt = ltb-true (prefix_len goes_on piece) taken h in omega arith
ends_by false bytes piece taken k e h near is = let ge = ltb-false (prefix_len goes_on piece) taken h in omega arith

-- behind the beginning of a line, what is taken of a piece ends at the piece's first LF or has none
pub fed_ends : (bytes piece : List ℕ) (taken : ℕ) → prefix_len goes_on bytes ≡ length bytes → taken ≤ prefix_len goes_on piece + 1 → EndsAt (nat_lt (prefix_len goes_on piece) taken) (length bytes + taken) (bytes ++ take taken piece)
fed_ends bytes piece taken e near =
    let len : length bytes + prefix_len goes_on (take taken piece) ≡ length bytes + min taken (prefix_len goes_on piece) = ap (λ k. length bytes + k) (prefix_len-take taken piece) in
    ends_by (nat_lt (prefix_len goes_on piece) taken) bytes piece taken _ len refl near (prefix_len-front bytes (take taken piece) e)

ended_not : (t : Bool) (size : ℕ) (bytes : List ℕ) → t ≡ false → EndsAt t size bytes → prefix_len goes_on bytes ≡ size
ended_not true size bytes h e = absurd cc
ended_not false size bytes h e = omega arith

-- a buffer in which a line began holds the first bytes of a piece behind it
pub held_fed : (buffer new piece : List ℕ) (len taken last : ℕ) (whole : Bool) → whole ≡ false → EndsAt whole len (take len buffer) → length buffer ≡ line_limit + 1 → len ≤ line_limit + 1
    → last ≡ line_end piece 0 → taken ≤ last + 1 → taken ≤ length piece → take (len + length (take taken piece)) new ≡ take len buffer ++ take taken piece → EndsAt (nat_lt last taken) (len + taken) (take (len + taken) new)
held_fed buffer new piece len taken last whole h ends room within end_is near le written =
    let count : length (take taken piece) ≡ taken = length-take-le taken piece le in
    let size : length (take len buffer) ≡ len = length-take-le len buffer (omega arith) in
    let bytes : take (len + taken) new ≡ take len buffer ++ take taken piece = rw count at written in
    let began : prefix_len goes_on (take len buffer) ≡ length (take len buffer) = ended_not whole len (take len buffer) h ends ∙ sym size in
    let done : EndsAt (nat_lt (prefix_len goes_on piece) taken) (length (take len buffer) + taken) (take len buffer ++ take taken piece) = fed_ends (take len buffer) piece taken began (omega arith) in
    let at : last ≡ prefix_len goes_on piece = omega arith in
    rw (bytes, at) (rw size at done)
