-- One bit is read and written.
use Rattle.std.proofs.Common.{◌≡◌, ◌≢◌, ℕ, ◌<◌, ◌≤◌, ◌+◌, ◌*◌, ◌/◌, ◌%◌, ◌^◌, zero, suc, Bool, true, false, List, length, get_or, set, replicate, refl, ap, sym, subst, ◌∙◌, arith, w64}
use Rattle.std.proofs.lemmas.List.{ext_get_or, get_or-replicate, get_or-set_same, get_or-set_other, length-set, length-replicate, get_or_default}
use Rattle.std.proofs.lemmas.List.FromFn.{length-map-range_with_len, get_or-map-range_with_len}
use Rattle.std.proofs.lemmas.Option.{unwrap_or-slice_get}
use Rattle.std.proofs.lemmas.Bool.{eqb-true, eqb-false}
use Rattle.std.proofs.lemmas.Nat.Bits.{shr_and_one, bit_at-zero, bit_at_set_same, bit_at_set_other, bit_at_clear_same, bit_at_clear_other}
use Rattle.std.specs.Prelude.{nat_eq, slice_get, unwrap_or, if◌then◌else◌}
use Rattle.std.specs.Int.{bit_not}
use Rattle.std.specs.Int.RustNames.{bit_or, bit_and}
use Rattle.plus_state.specs.Bits.{bit_of, bit_in, bits_of}

-- one word
set_bit : (word bit k : ℕ) (b : Bool) → bit < 64 → k < 64 → nat_eq k bit ≡ b → bit_of (bit_or word (1 * 2 ^ bit % 2 ^ 64)) k ≡ (if b then true else bit_of word k)
set_bit word bit k true h i e =
    subst (λ (n : ℕ). bit_of (bit_or word (1 * 2 ^ bit % 2 ^ 64)) n ≡ true) (sym (eqb-true k bit e)) (ap (λ (x : ℕ). nat_eq x 1) (bit_at_set_same w64 word bit h))
set_bit word bit k false h i e = ap (λ (x : ℕ). nat_eq x 1) (bit_at_set_other w64 word bit h k (eqb-false k bit e))

clear_bit : (word bit k : ℕ) (b : Bool) → bit < 64 → k < 64 → nat_eq k bit ≡ b → bit_of (bit_and word (bit_not w64 (1 * 2 ^ bit % 2 ^ 64))) k ≡ (if b then false else bit_of word k)
clear_bit word bit k true h i e =
    subst (λ (n : ℕ). bit_of (bit_and word (bit_not w64 (1 * 2 ^ bit % 2 ^ 64))) n ≡ false) (sym (eqb-true k bit e)) (ap (λ (x : ℕ). nat_eq x 1) (bit_at_clear_same w64 word bit h))
clear_bit word bit k false h i e = ap (λ (x : ℕ). nat_eq x 1) (bit_at_clear_other w64 word bit h k i (eqb-false k bit e))

pub word_set : (word bit : ℕ) → bit < 64 → (k : ℕ) → k < 64 → bit_of (bit_or word (1 * 2 ^ bit % 2 ^ 64)) k ≡ (if nat_eq k bit then true else bit_of word k)
word_set word bit h k i = set_bit word bit k (nat_eq k bit) h i refl

pub word_clear : (word bit : ℕ) → bit < 64 → (k : ℕ) → k < 64 → bit_of (bit_and word (bit_not w64 (1 * 2 ^ bit % 2 ^ 64))) k ≡ (if nat_eq k bit then false else bit_of word k)
word_clear word bit h k i = clear_bit word bit k (nat_eq k bit) h i refl

pub ruleset one_word = (word_set, word_clear)

pub read_word : (word bit : ℕ) → nat_eq (bit_and (word / 2 ^ bit) 1) 1 ≡ bit_of word bit
read_word word bit = ap (λ (x : ℕ). nat_eq x 1) (shr_and_one word bit)

pub ruleset reading = (read_word)

-- lists of words
pub length-bits_of : (count : ℕ) (words : List ℕ) → length (bits_of count words) ≡ count
unfolding bits_of
length-bits_of count words = length-map-range_with_len (bit_in words) 0 count

pub get_or-bits_of : (count : ℕ) (words : List ℕ) (i : ℕ) → i < count → get_or (bits_of count words) i false ≡ bit_in words i
unfolding bits_of
get_or-bits_of count words i h = let e : 0 + i ≡ i = omega arith in get_or-map-range_with_len (bit_in words) 0 count i i false h e

pub count_inside : (count : ℕ) (words : List ℕ) (v : List Bool) (i : ℕ) → bits_of count words ≡ v → i < length v → i < count
count_inside count words v i e h = rw (← length-bits_of count words) (subst (λ (x : List Bool). i < length x) (sym e) h)

pub word_inside : (count : ℕ) (words : List ℕ) (v : List Bool) (i : ℕ) → bits_of count words ≡ v → i < length v → count ≤ 64 * length words → i / 64 < length words
word_inside count words v i e h k = let below : i < count = count_inside count words v i e h in omega arith

zero_in : (n k : ℕ) → ◌≡◌ {A = ℕ} (get_or (replicate n 0) k 0) 0
zero_in zero k = refl
zero_in (suc n) zero = refl
zero_in (suc n) (suc k) = zero_in n k

pub bits_of-zero : (count n : ℕ) → bits_of count (replicate n 0) ≡ replicate count false
bits_of-zero count n =
    let size : length (bits_of count (replicate n 0)) ≡ count = length-bits_of count (replicate n 0) in
    ext_get_or false _ _ (size ∙ sym (length-replicate count false)) (λ i h.
    let below : i < count = rw size at h in
    get_or-bits_of count (replicate n 0) i below ∙ ap (λ (x : ℕ). bit_of x (i % 64)) (zero_in n (i / 64)) ∙ ap (λ (x : ℕ). nat_eq x 1) (bit_at-zero (i % 64)) ∙ sym (get_or-replicate count i false false below))

pub bits_read : (count : ℕ) (words : List ℕ) (i word : ℕ) → i < count → count ≤ 64 * length words → word ≡ get_or words (i / 64) word → bit_of word (i % 64) ≡ unwrap_or (slice_get (bits_of count words) i) false
bits_read count words i word h k e =
    let inside : i / 64 < length words = omega arith in
    ap (λ (x : ℕ). bit_of x (i % 64)) (e ∙ get_or_default words (i / 64) word 0 inside) ∙ sym (get_or-bits_of count words i h) ∙ sym (unwrap_or-slice_get (bits_of count words) i false)

-- the bit that is written, and the others
same_place : (i j : ℕ) → j / 64 ≡ i / 64 → j % 64 ≡ i % 64 → j ≡ i
same_place i j e k = omega arith

module _ (count : ℕ) (words : List ℕ) (i new : ℕ) (b : Bool) (below : i < count) (room : count ≤ 64 * length words) (is : (k : ℕ) → k < 64 → bit_of new k ≡ (if nat_eq k (i % 64) then b else bit_of (get_or words (i / 64) 0) k)) where
  in_word : (j : ℕ) (c : Bool) → j < count → j / 64 ≡ i / 64 → nat_eq (j % 64) (i % 64) ≡ c → (if c then b else bit_of (get_or words (i / 64) 0) (j % 64)) ≡ get_or (set (bits_of count words) i b) j false
  in_word j true h e k =
      let same : i ≡ j = sym (same_place i j e (eqb-true (j % 64) (i % 64) k)) in
      subst (λ (n : ℕ). b ≡ get_or (set (bits_of count words) i b) n false) same (sym (get_or-set_same (bits_of count words) i b false (rw length-bits_of below)))
  in_word j false h e k =
      let other : j ≢ i = λ s. eqb-false (j % 64) (i % 64) k (ap (λ (n : ℕ). n % 64) s) in
      ap (λ (n : ℕ). bit_of (get_or words n 0) (j % 64)) (sym e) ∙ sym (get_or-bits_of count words j h) ∙ sym (get_or-set_other (bits_of count words) i j b false other)

  at_bit : (j : ℕ) (c : Bool) → j < count → nat_eq (j / 64) (i / 64) ≡ c → bit_in (set words (i / 64) new) j ≡ get_or (set (bits_of count words) i b) j false
  at_bit j true h e =
      let same : j / 64 ≡ i / 64 = eqb-true (j / 64) (i / 64) e in
      let inside : i / 64 < length words = omega arith in
      let small : j % 64 < 64 = omega arith in
      ap (λ (n : ℕ). bit_of (get_or (set words (i / 64) new) n 0) (j % 64)) same ∙ ap (λ (x : ℕ). bit_of x (j % 64)) (get_or-set_same words (i / 64) new 0 inside) ∙ is (j % 64) small ∙ in_word j (nat_eq (j % 64) (i % 64)) h same refl
  at_bit j false h e =
      let apart : j / 64 ≢ i / 64 = eqb-false (j / 64) (i / 64) e in
      let other : j ≢ i = λ s. apart (ap (λ (n : ℕ). n / 64) s) in
      ap (λ (x : ℕ). bit_of x (j % 64)) (get_or-set_other words (i / 64) (j / 64) new 0 apart) ∙ sym (get_or-bits_of count words j h) ∙ sym (get_or-set_other (bits_of count words) i j b false other)

  pub bits_written : bits_of count (set words (i / 64) new) ≡ set (bits_of count words) i b
  bits_written =
      let size : length (bits_of count (set words (i / 64) new)) ≡ count = length-bits_of count (set words (i / 64) new) in
      ext_get_or false _ _ (size ∙ sym (length-set (bits_of count words) i b ∙ length-bits_of count words)) (λ j h.
      let inside : j < count = rw size at h in
      get_or-bits_of count (set words (i / 64) new) j inside ∙ at_bit j (nat_eq (j / 64) (i / 64)) inside refl)

pub ruleset making = (bits_of-zero)

pub ruleset counting = (length-bits_of)
