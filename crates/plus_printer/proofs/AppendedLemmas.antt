-- How texts that are appended one after the other come together.
use Rattle.std.proofs.lemmas.List.{append_assoc, append-nil, drop_all, replicate-append-replicate, length-append, length-replicate}
use Rattle.std.specs.Prelude.{codes}
use Rattle.std.proofs.Common.{subst, ◌≤◌, ◌+◌, ◌-◌, zero, arith, replicate, take, ◌≡◌, ℕ, suc, ◌<◌, List, [], ◌∷◌, ◌++◌, ◌∙◌, ap, sym, refl, length, drop, get_or, drop-cons, if◌then◌else◌, Result, Ok, Err, is_ok}
use Rattle.plus_printer.specs.Appended.{IsAppended, IsBegun, Prints}
use Rattle.plus_tree.specs.declared.trees.Schema.{Schema}
use Rattle.plus_printer.specs.Words.{word, spaced, pointed}
use Rattle.plus_printer.specs.Canon.{schema_text, schemas_text}

-- ---- one call of the vector
pub base : {A E : Type 0} (old new bytes : List ℕ) (r : Result A E) → new ≡ (if is_ok r then old ++ bytes else old) → Prints old new bytes r
base old new bytes (Ok x) e = record { whole = e }
base old new bytes (Err x) e = record { front = []; left = bytes; is = refl; begun = e ∙ sym (append-nil old) }

-- ---- one text behind another
pub both : (old mid new a b : List ℕ) → IsAppended old mid a → IsAppended mid new b → IsAppended old new (a ++ b)
both old mid new a b p q = record { whole = q.whole ∙ ap (λ x. x ++ b) p.whole ∙ append_assoc old a b }

pub first : (old new a b : List ℕ) → IsBegun old new a → IsBegun old new (a ++ b)
first old new a b p = record { front = p.front; left = p.left ++ b; is = ap (λ x. x ++ b) p.is ∙ append_assoc p.front p.left b; begun = p.begun }

pub later : (old mid new a b : List ℕ) → IsAppended old mid a → IsBegun mid new b → IsBegun old new (a ++ b)
later old mid new a b p q = record {
  front = a ++ q.front;
  left = q.left;
  is = ap (λ x. a ++ x) q.is ∙ sym (append_assoc a q.front q.left);
  begun = q.begun ∙ ap (λ x. x ++ q.front) p.whole ∙ append_assoc old a q.front;
}

-- ---- several texts, of which the last one that is tried breaks off, with and without more behind it
pub second : (old m1 new a b c : List ℕ) → IsBegun m1 new b → IsAppended old m1 a → IsBegun old new (a ++ (b ++ c))
second old m1 new a b c q p1 = later _ _ _ _ _ p1 (first _ _ _ _ q)

pub third : (old m1 m2 new a b c d : List ℕ) → IsBegun m2 new c → IsAppended m1 m2 b → IsAppended old m1 a → IsBegun old new (a ++ (b ++ (c ++ d)))
third old m1 m2 new a b c d q p2 p1 = later _ _ _ _ _ p1 (later _ _ _ _ _ p2 (first _ _ _ _ q))

pub third_last : (old m1 m2 new a b c : List ℕ) → IsBegun m2 new c → IsAppended m1 m2 b → IsAppended old m1 a → IsBegun old new (a ++ (b ++ c))
third_last old m1 m2 new a b c q p2 p1 = later _ _ _ _ _ p1 (later _ _ _ _ _ p2 q)

pub fourth : (old m1 m2 m3 new a b c d e : List ℕ) → IsBegun m3 new d → IsAppended m2 m3 c → IsAppended m1 m2 b → IsAppended old m1 a → IsBegun old new (a ++ (b ++ (c ++ (d ++ e))))
fourth old m1 m2 m3 new a b c d e q p3 p2 p1 = later _ _ _ _ _ p1 (later _ _ _ _ _ p2 (later _ _ _ _ _ p3 (first _ _ _ _ q)))

pub fourth_last : (old m1 m2 m3 new a b c d : List ℕ) → IsBegun m3 new d → IsAppended m2 m3 c → IsAppended m1 m2 b → IsAppended old m1 a → IsBegun old new (a ++ (b ++ (c ++ d)))
fourth_last old m1 m2 m3 new a b c d q p3 p2 p1 = later _ _ _ _ _ p1 (later _ _ _ _ _ p2 (later _ _ _ _ _ p3 q))

pub fifth : (old m1 m2 m3 m4 new a b c d e f : List ℕ) → IsBegun m4 new e → IsAppended m3 m4 d → IsAppended m2 m3 c → IsAppended m1 m2 b → IsAppended old m1 a → IsBegun old new (a ++ (b ++ (c ++ (d ++ (e ++ f)))))
fifth old m1 m2 m3 m4 new a b c d e f q p4 p3 p2 p1 = later _ _ _ _ _ p1 (later _ _ _ _ _ p2 (later _ _ _ _ _ p3 (later _ _ _ _ _ p4 (first _ _ _ _ q))))

pub fifth_last : (old m1 m2 m3 m4 new a b c d e : List ℕ) → IsBegun m4 new e → IsAppended m3 m4 d → IsAppended m2 m3 c → IsAppended m1 m2 b → IsAppended old m1 a → IsBegun old new (a ++ (b ++ (c ++ (d ++ e))))
fifth_last old m1 m2 m3 m4 new a b c d e q p4 p3 p2 p1 = later _ _ _ _ _ p1 (later _ _ _ _ _ p2 (later _ _ _ _ _ p3 (later _ _ _ _ _ p4 q)))

pub ruleset appending = (both, first, later, second, third, third_last, fourth, fourth_last, fifth, fifth_last)

-- ---- a loop over members, of which the rest is left
pub record Halfway (old now whole rest : List ℕ) : Type 0 where
  pub front : List ℕ
  pub is : whole ≡ front ++ rest
  pub begun : now ≡ old ++ front

pub at_start : (old whole : List ℕ) → Halfway old old whole whole
at_start old whole = record { front = []; is = refl; begun = sym (append-nil old) }

pub one_more : (old now new whole text rest : List ℕ) → Halfway old now whole (text ++ rest) → IsAppended now new text → Halfway old new whole rest
one_more old now new whole text rest h p = record {
  front = h.front ++ text;
  is = h.is ∙ sym (append_assoc h.front text rest);
  begun = p.whole ∙ ap (λ x. x ++ text) h.begun ∙ append_assoc old h.front text;
}

pub broken_off : (old now new whole text rest : List ℕ) → Halfway old now whole (text ++ rest) → IsBegun now new text → IsBegun old new whole
broken_off old now new whole text rest h p = record {
  front = h.front ++ p.front;
  left = p.left ++ rest;
  is = h.is ∙ ap (λ x. h.front ++ x) (ap (λ x. x ++ rest) p.is ∙ append_assoc p.front p.left rest) ∙ sym (append_assoc h.front p.front (p.left ++ rest));
  begun = p.begun ∙ ap (λ x. x ++ p.front) h.begun ∙ append_assoc old h.front p.front;
}

pub at_end : (old now whole : List ℕ) → Halfway old now whole [] → IsAppended old now whole
at_end old now whole h = record { whole = h.begun ∙ ap (λ x. old ++ x) (sym (append-nil h.front) ∙ sym h.is) }

-- the same of a list
split : {A : Type 0} (f : A → List ℕ) (xs : List A) (i : ℕ) (x : A) → i < length xs → x ≡ get_or xs i x → spaced f (drop i xs) ≡ (word (codes " ") ++ f x) ++ spaced f (drop (suc i) xs)
split f xs i x h m = ap (spaced f) (drop-cons xs i x h ∙ ap (λ y. y ∷ drop (suc i) xs) (sym m))

pub member_more :
    {A : Type 0} (f : A → List ℕ) (xs : List A) (i : ℕ) (x : A) (old now new whole : List ℕ) → i < length xs → x ≡ get_or xs i x
    → Halfway old now whole (spaced f (drop i xs)) → IsAppended now new (word (codes " ") ++ f x) → Halfway old new whole (spaced f (drop (suc i) xs))
member_more f xs i x old now new whole h m p q = one_more old now new whole (word (codes " ") ++ f x) _ (subst (λ t. Halfway old now whole t) (split f xs i x h m) p) q

pub member_broken :
    {A : Type 0} (f : A → List ℕ) (xs : List A) (i : ℕ) (x : A) (old now new whole : List ℕ) → i < length xs → x ≡ get_or xs i x
    → Halfway old now whole (spaced f (drop i xs)) → IsBegun now new (word (codes " ") ++ f x) → IsBegun old new whole
member_broken f xs i x old now new whole h m p q =
    broken_off old now new whole (word (codes " ") ++ f x) (spaced f (drop (suc i) xs)) (subst (λ t. Halfway old now whole t) (split f xs i x h m) p) q

pub members_done :
    {A : Type 0} (f : A → List ℕ) (xs : List A) (i : ℕ) (old now whole : List ℕ) → length xs ≤ i
    → Halfway old now whole (spaced f (drop i xs)) → IsAppended old now whole
members_done f xs i old now whole h p = at_end old now whole (subst (λ t. Halfway old now whole t) (ap (spaced f) (drop_all i xs h)) p)

pub ruleset looping = (at_start, member_more, member_broken, members_done)

-- ---- zeros
pub zero_more : (old now new : List ℕ) (i : ℕ) → IsAppended old now (replicate i 48) → IsAppended now new (48 ∷ []) → IsAppended old new (replicate (suc i) 48)
zero_more old now new i p q =
    let e : i + 1 ≡ suc i = omega arith in
    subst (λ t. IsAppended old new t) (replicate-append-replicate i 1 48 ∙ ap (λ n. replicate n 48) e) (both old now new (replicate i 48) (48 ∷ []) p q)

pub zero_broken : (old now new : List ℕ) (i n : ℕ) → i < n → IsAppended old now (replicate i 48) → IsBegun now new (48 ∷ []) → IsBegun old new (replicate n 48)
zero_broken old now new i n h p q =
    let e : i + suc (n - suc i) ≡ n = omega arith in
    subst (λ t. IsBegun old new t) (replicate-append-replicate i (suc (n - suc i)) 48 ∙ ap (λ n. replicate n 48) e)
    (later old now new (replicate i 48) ((48 ∷ []) ++ replicate (n - suc i) 48) p (first now new (48 ∷ []) (replicate (n - suc i) 48) q))

pub ruleset zero_digits = (zero_more)

-- ---- a point in digits
pub inside_is :
    (places : ℕ) (digits : List ℕ) → 0 < places → places < length digits
    → pointed places (replicate (suc places - length digits) 48 ++ digits)
    ≡ take (length digits - places) digits ++ (word (codes ".") ++ drop (length digits - places) digits)
unfolding pointed
inside_is zero digits h k = absurd (omega arith)
inside_is (suc p) digits h k =
    let z : suc (suc p) - length digits ≡ 0 = omega arith in
    rw z refl

pub before_is :
    (places : ℕ) (digits : List ℕ) → 0 < places → length digits ≤ places
    → pointed places (replicate (suc places - length digits) 48 ++ digits)
    ≡ word (codes "0") ++ (word (codes ".") ++ (replicate (places - length digits) 48 ++ digits))
unfolding pointed word
before_is zero digits h k = absurd (omega arith)
before_is (suc p) digits h k =
    let z : suc (suc p) - length digits ≡ suc (suc p - length digits) = omega arith in
    let l : length (replicate (suc p - length digits) 48 ++ digits) ≡ suc p =
    length-append (replicate (suc p - length digits) 48) digits ∙ ap (λ n. n + length digits) (length-replicate (suc p - length digits) 48) ∙ omega arith in
    let m : suc (length (replicate (suc p - length digits) 48 ++ digits)) - suc p ≡ 1 = omega (arith, l) in
    rw z (rw m refl)

pub whole_is : (digits : List ℕ) → 0 < length digits → pointed 0 (replicate (1 - length digits) 48 ++ digits) ≡ digits
unfolding pointed
whole_is digits h = let z : 1 - length digits ≡ 0 = omega arith in rw z refl

-- ---- a loop inside a form: what opens it, the members, what closes it
parted : {A : Type 0} (T : List A → List ℕ) (f : A → List ℕ) → ((x : A) (xs : List A) → T (x ∷ xs) ≡ (word (codes " ") ++ f x) ++ T xs) → (xs : List A) (i : ℕ) (x : A) → i < length xs → x ≡ get_or xs i x → T (drop i xs) ≡ (word (codes " ") ++ f x) ++ T (drop (suc i) xs)
parted T f law xs i x h m = ap T (drop-cons xs i x h ∙ ap (λ y. y ∷ drop (suc i) xs) (sym m)) ∙ law x (drop (suc i) xs)

members_broken :
    {A : Type 0} (T : List A → List ℕ) (f : A → List ℕ) → ((x : A) (xs : List A) → T (x ∷ xs) ≡ (word (codes " ") ++ f x) ++ T xs)
    → (xs : List A) (i : ℕ) (x : A) (old begun now new opens closes : List ℕ) → i < length xs → x ≡ get_or xs i x → IsAppended old begun opens
    → Halfway begun now (T xs) (T (drop i xs)) → IsBegun now new (word (codes " ") ++ f x) → IsBegun old new (opens ++ (T xs ++ closes))
members_broken T f law xs i x old begun now new opens closes h m o p q =
    second old begun new opens (T xs) closes
    (broken_off begun now new (T xs) (word (codes " ") ++ f x) (T (drop (suc i) xs)) (subst (λ t. Halfway begun now (T xs) t) (parted T f law xs i x h m) p) q) o

pub space_broken :
    {A : Type 0} (T : List A → List ℕ) (f : A → List ℕ) → ((x : A) (xs : List A) → T (x ∷ xs) ≡ (word (codes " ") ++ f x) ++ T xs)
    → (xs : List A) (i : ℕ) (x : A) (old begun now new opens closes : List ℕ) → i < length xs → x ≡ get_or xs i x → IsAppended old begun opens
    → Halfway begun now (T xs) (T (drop i xs)) → IsBegun now new (word (codes " ")) → IsBegun old new (opens ++ (T xs ++ closes))
space_broken T f law xs i x old begun now new opens closes h m o p q =
    members_broken T f law xs i x old begun now new opens closes h m o p (first now new (word (codes " ")) (f x) q)

pub inner_broken :
    {A : Type 0} (T : List A → List ℕ) (f : A → List ℕ) → ((x : A) (xs : List A) → T (x ∷ xs) ≡ (word (codes " ") ++ f x) ++ T xs)
    → (xs : List A) (i : ℕ) (x : A) (old begun now mid new opens closes : List ℕ) → i < length xs → x ≡ get_or xs i x → IsAppended old begun opens
    → Halfway begun now (T xs) (T (drop i xs)) → IsAppended now mid (word (codes " ")) → IsBegun mid new (f x) → IsBegun old new (opens ++ (T xs ++ closes))
inner_broken T f law xs i x old begun now mid new opens closes h m o p s q =
    members_broken T f law xs i x old begun now new opens closes h m o p (later now mid new (word (codes " ")) (f x) s q)

pub close_broken :
    {A : Type 0} (T : List A → List ℕ) → T [] ≡ [] → (xs : List A) (i : ℕ) (old begun now new opens closes : List ℕ) → length xs ≤ i
    → IsAppended old begun opens → Halfway begun now (T xs) (T (drop i xs)) → IsBegun now new closes → IsBegun old new (opens ++ (T xs ++ closes))
close_broken T none xs i old begun now new opens closes h o p q =
    third_last old begun now new opens (T xs) closes q
    (at_end begun now (T xs) (subst (λ t. Halfway begun now (T xs) t) (ap T (drop_all i xs h) ∙ none) p)) o

-- ---- schemas, each on a line
schema_split : (word : List ℕ) (xs : List Schema) (i : ℕ) (x : Schema) → i < length xs → x ≡ get_or xs i x → schemas_text word (drop i xs) ≡ schema_text word x ++ schemas_text word (drop (suc i) xs)
schema_split word xs i x h m = ap (schemas_text word) (drop-cons xs i x h ∙ ap (λ y. y ∷ drop (suc i) xs) (sym m))

pub schema_more :
    (word : List ℕ) (xs : List Schema) (i : ℕ) (x : Schema) (old now new whole : List ℕ) → i < length xs → x ≡ get_or xs i x
    → Halfway old now whole (schemas_text word (drop i xs)) → IsAppended now new (schema_text word x) → Halfway old new whole (schemas_text word (drop (suc i) xs))
schema_more word xs i x old now new whole h m p q =
    one_more old now new whole (schema_text word x) _ (subst (λ t. Halfway old now whole t) (schema_split word xs i x h m) p) q

pub schema_broken :
    (word : List ℕ) (xs : List Schema) (i : ℕ) (x : Schema) (old now new whole : List ℕ) → i < length xs → x ≡ get_or xs i x
    → Halfway old now whole (schemas_text word (drop i xs)) → IsBegun now new (schema_text word x) → IsBegun old new whole
schema_broken word xs i x old now new whole h m p q =
    broken_off old now new whole (schema_text word x) (schemas_text word (drop (suc i) xs)) (subst (λ t. Halfway old now whole t) (schema_split word xs i x h m) p) q

pub schemas_done :
    (word : List ℕ) (xs : List Schema) (i : ℕ) (old now whole : List ℕ) → length xs ≤ i
    → Halfway old now whole (schemas_text word (drop i xs)) → IsAppended old now whole
schemas_done word xs i old now whole h p = at_end old now whole (subst (λ t. Halfway old now whole t) (ap (schemas_text word) (drop_all i xs h)) p)

pub ruleset line_by_line = (at_start, schema_more, schemas_done)
