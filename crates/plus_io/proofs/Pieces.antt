-- How the pieces that are read or written make a whole.
use Rattle.std.proofs.Common.{◌≡◌, ℕ, ◌+◌, ◌-◌, ◌<◌, ◌≤◌, List, [], ◌++◌, length, take, drop, Option, Some, None, Result, Ok, Err, IfSome, OnErr, refl, sym, ◌∙◌, ap, subst, append_assoc, length-append, arith}
use Rattle.std.proofs.Math.Seq.{take-append-add, take-add}
use Rattle.std.proofs.lemmas.List.{append-nil, take-append-le, take-take, length-take-le, take-append-drop, nil_from_length, take_rest}
use Rattle.std.specs.Io.KnownBytes.{IsAtEnd, prepend_known, append_known}
use Rattle.plus_io.specs.Files.{KeepsFiles, Takes, TakesAtMost, IsPrefix}
use Rattle.plus_io.specs.Picks.{Pick, PicksOnce, with_pick, with_read}
use Rattle.plus_io.specs.Taken.{Took}

pub OnErr-always : {T E P : Type 0} (r : Result T E) → P → OnErr r P
OnErr-always (Ok x) p = tt
OnErr-always (Err e) p = p

pub prepend_known-append : (front more : List ℕ) (left : Option (List ℕ)) → prepend_known front (prepend_known more left) ≡ prepend_known (front ++ more) left
prepend_known-append front more None = refl
prepend_known-append front more (Some left) = ap Some (sym (append_assoc front more left))

pub append_known-append : (so_far : Option (List ℕ)) (first second : List ℕ) → append_known (append_known so_far first) second ≡ append_known so_far (first ++ second)
append_known-append None first second = refl
append_known-append (Some so_far) first second = ap Some (append_assoc so_far first second)

-- what no call changes, no two calls change
pub KeepsFiles-trans : {S : Type 0} {names : S → List (List ℕ)} {bytes : S → List ℕ → Option (List ℕ)} {faults : S → ℕ} (a b c : S)
    → KeepsFiles names bytes faults a b → KeepsFiles names bytes faults b c → KeepsFiles names bytes faults a c
KeepsFiles-trans a b c p q = record {
  same_names = q.same_names ∙ p.same_names;
  same_bytes = q.same_bytes ∙ p.same_bytes;
  no_fall = omega arith;
}

-- nothing is taken yet
pub Takes-nil : (text : Option (List ℕ)) → Takes text text []
Takes-nil None = refl
Takes-nil (Some bytes) = refl

-- one more piece is taken
pub Takes-append : (text rest left : Option (List ℕ)) (front more : List ℕ) → Takes text rest front → Takes rest left more → Takes text left (front ++ more)
Takes-append text rest left front more e f = e ∙ ap (prepend_known front) f ∙ prepend_known-append front more left

-- what was taken is a prefix
pub Takes-prefix : (text rest : Option (List ℕ)) (front : List ℕ) → Takes text rest front → IfSome text (IsPrefix front)
Takes-prefix text None front e = subst (λ t. IfSome t (IsPrefix front)) (sym e) tt
Takes-prefix text (Some left) front e = subst (λ t. IfSome t (IsPrefix front)) (sym e) (left, refl)

-- and stays one where nothing was added to it
pub kept_prefix : {T E : Type 0} (r : Result T E) (text rest : Option (List ℕ)) (front now : List ℕ) → Takes text rest front → now ≡ front → OnErr r (IfSome text (IsPrefix now))
kept_prefix r text rest front now e same =
    OnErr-always r (subst (λ read. IfSome text (IsPrefix read)) (sym same) (Takes-prefix text rest front e))

-- no bytes are a prefix of any
pub empty_prefix : (text : Option (List ℕ)) (front : List ℕ) → length front ≡ 0 → IfSome text (IsPrefix front)
empty_prefix text front none = Takes-prefix text text front (subst (Takes text text) (sym (nil_from_length front none)) (Takes-nil text))

-- nothing is left, so what was taken is the whole text
pub Takes-whole : (text rest : Option (List ℕ)) (front : List ℕ) → Takes text rest front → IsAtEnd rest → IfSome text (λ bytes. front ≡ bytes)
Takes-whole text None front e done = subst (λ t. IfSome t (λ bytes. front ≡ bytes)) (sym e) tt
Takes-whole text (Some left) front e done =
    subst (λ t. IfSome t (λ bytes. front ≡ bytes)) (sym e) (sym (ap (λ l. front ++ l) done ∙ append-nil front))

-- A piece with more bytes than there was room for.
module _ (text rest left : Option (List ℕ)) (front piece : List ℕ) (count room limit : ℕ)
    (so_far : Takes text rest front) (next : Takes rest left (take count piece))
    (full : length front + room ≡ limit) (over : room < count) (within : count ≤ length piece) where
  longer : (behind : List ℕ) → limit < length ((front ++ take count piece) ++ behind)
  longer behind =
      omega (arith, length-append (front ++ take count piece) behind, length-append front (take count piece), length-take-le count piece within)

  first : (behind : List ℕ) → front ++ take room piece ≡ take limit ((front ++ take count piece) ++ behind)
  first behind =
      let h : room ≤ length (take count piece) = omega (arith, length-take-le count piece within) in
      let l : room ≤ count = omega arith in
      sym (ap (λ n. take n ((front ++ take count piece) ++ behind)) (sym full)
      ∙ ap (take (length front + room)) (append_assoc front (take count piece) behind)
      ∙ take-append-add front (take count piece ++ behind) room
      ∙ ap (λ l. front ++ l) (take-append-le room (take count piece) behind h ∙ take-take room count piece l))

  -- so the text is too long, and its first bytes are those before and those that there was room for
  pub too_long : IfSome text (λ bytes. (limit < length bytes) × (front ++ take room piece ≡ take limit bytes))
  too_long = at left (Takes-append text rest left front (take count piece) so_far next) where
    at : (l : Option (List ℕ)) → Takes text l (front ++ take count piece) → IfSome text (λ bytes. (limit < length bytes) × (front ++ take room piece ≡ take limit bytes))
    at None e = subst (λ t. IfSome t (λ bytes. (limit < length bytes) × (front ++ take room piece ≡ take limit bytes))) (sym e) tt
    at (Some behind) e = subst (λ t. IfSome t (λ bytes. (limit < length bytes) × (front ++ take room piece ≡ take limit bytes))) (sym e) (longer behind, first behind)

-- the first bytes of a text are a prefix
pub cut_prefix : (text : Option (List ℕ)) (front : List ℕ) (limit : ℕ) → IfSome text (λ bytes. (limit < length bytes) × (front ≡ take limit bytes)) → IfSome text (IsPrefix front)
cut_prefix None front limit p = tt
cut_prefix (Some bytes) front limit p = (drop limit bytes, sym (ap (λ l. l ++ drop limit bytes) p.1 ∙ take-append-drop limit bytes))

-- one more piece is taken, and then at most one byte more than the limit
pub at_most_one_over : (text rest left : Option (List ℕ)) (front piece : List ℕ) (count limit : ℕ)
    → Takes text rest front → Takes rest left (take count piece) → count ≤ length piece → length front + count ≤ limit + 1
    → TakesAtMost (limit + 1) text left
at_most_one_over text rest left front piece count limit so_far next within over = (
  front ++ take count piece,
  omega (arith, length-append front (take count piece), length-take-le count piece within),
  Takes-append text rest left front (take count piece) so_far next,
)

-- so many bytes more were read since a pick
read_more : (name : List ℕ) (before more : ℕ) (picks : Option (List Pick)) → with_read more (with_pick name before picks) ≡ with_pick name (before + more) picks
read_more name before more None = refl
read_more name before more (Some picks) = refl

pub told_more : (start before now : Option (List Pick)) (name : List ℕ) (count more : ℕ) → before ≡ with_pick name count start → now ≡ with_read more before → now ≡ with_pick name (count + more) start
told_more start before now name count more e f = f ∙ ap (with_read more) e ∙ read_more name count more start

-- with the last read at most one byte more than the limit is taken
pub once_over : (start before now : Option (List Pick)) (name : List ℕ) (count more limit : ℕ) → before ≡ with_pick name count start → now ≡ with_read more before → count + more ≤ limit + 1
    → PicksOnce (limit + 1) name start now
once_over start before now name count more limit e f over = (count + more, over, told_more start before now name count more e f)

-- what was written and one more piece, off the front of what was left
pub took_more : (start before now : Option (List ℕ)) (bytes : List ℕ) (done count : ℕ)
    → Took start before (take done bytes) → Took before now (take count (take (length bytes - done) (drop done bytes)))
    → Took start now (take (done + count) bytes)
took_more start before now bytes done count e f =
    f ∙ ap (λ l. append_known before (take count l)) (take_rest bytes done)
    ∙ ap (λ b. append_known b (take count (drop done bytes))) e
    ∙ append_known-append start (take done bytes) (take count (drop done bytes))
    ∙ ap (append_known start) (sym (take-add done count bytes))
