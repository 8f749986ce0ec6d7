-- The numbers that the words of a command name are inside their bounds.
use Rattle.std.proofs.Common.{◌≡◌, ◌⊎◌, ℕ, ◌≤◌, Bool, true, false, ◌&&◌, nat_le, nat_lt, List, [], ◌∷◌, Option, Some, None, option_map, option_and_then, refl, subst, inl, inr, length, pos, codes, unsigned_abs, bytes_eq, Ordering, Less, Equal, Greater, if◌then◌else◌, is_lt, leb-true}
use Rattle.std.proofs.lemmas.Bool.{and_parts}
use Rattle.std.specs.Char.{is_ascii_digit}
use Rattle.std.specs.List.{list_all}
use Rattle.std.specs.Str.Parse.{digits_value}
use Rattle.plus_fraction.specs.Fraction.{Fraction, whole, over, compared}
use Rattle.plus_fraction.proofs.Compared.{compared-less}
use Rattle.plus_types.specs.declared.faults.File.{File}
use Rattle.plus_words.specs.Interval.{is_interval, interval_by, parts_in, interval_of}
use Rattle.plus_words.specs.Numbers.{is_number, decisions_of, happenings_of, default_happenings, tanks_of}
use Rattle.plus_run.specs.Command.{Command, Check, ShowDomain, ShowProblem, Numeric, Trial, Translate, Lift, Plan, Trim, show_of, trial_of, check_of, with_files, file_named, translate_of, lift_of, with_four, plan_of, with_five, cut_plan_of, with_six, command_of}
use Rattle.laws_translation.specs.Read.Laws.{IsStep}
use Rattle.laws_answers.specs.Named.{PlanIsNamed, LiftIsNamed, TranslateIsNamed}

-- ---- one number

less_is : (o : Ordering) → is_lt o ≡ true → o ≡ Less
less_is Less e = refl
less_is Equal e = cc e
less_is Greater e = cc e

number_most : (digits least most : ℕ) (word : List ℕ) (k : ℕ) (b : Bool) → is_number digits least most word ≡ b → (if b then Some (digits_value 10 word) else None) ≡ Some k → k ≤ most
number_most digits least most word k false i e = cc e
number_most digits least most word k true i e =
    let same : digits_value 10 word ≡ k = cc e in
    let v = digits_value 10 word in
    let all = and_parts (list_all is_ascii_digit word && (nat_le 1 (length word) && nat_le (length word) digits)) (nat_le least v && nat_le v most) i in
    let two = and_parts (nat_le least (digits_value 10 word)) (nat_le (digits_value 10 word) most) all.1 in
    subst (λ n. n ≤ most) same (leb-true (digits_value 10 word) most two.1)

decisions_most : (word : List ℕ) (k : ℕ) → decisions_of word ≡ Some k → k ≤ 64
decisions_most word k e = number_most 2 0 64 word k (is_number 2 0 64 word) refl e

interval_parts : (top bottom : ℕ) → is_interval top bottom ≡ true → IsStep (over (pos top) bottom)
interval_parts top bottom i =
    let x = over (pos top) bottom in
    let all = and_parts (nat_lt 0 bottom) ((nat_le (unsigned_abs x.top) 9223372036854775807 && nat_le x.bottom 9223372036854775807) && is_lt (compared (whole (pos 0)) x)) i in
    let two = and_parts (nat_le (unsigned_abs x.top) 9223372036854775807 && nat_le x.bottom 9223372036854775807) (is_lt (compared (whole (pos 0)) x)) all.1 in
    let value = and_parts (nat_le (unsigned_abs x.top) 9223372036854775807) (nat_le x.bottom 9223372036854775807) two.0 in
    record {
      passes = compared-less (whole (pos 0)) x (less_is (compared (whole (pos 0)) x) two.1);
      value = (leb-true (unsigned_abs x.top) 9223372036854775807 value.0, leb-true x.bottom 9223372036854775807 value.1);
    }

interval_chosen : (top bottom : ℕ) (q : Fraction) (b : Bool) → is_interval top bottom ≡ b → (if b then Some (over (pos top) bottom) else None) ≡ Some q → IsStep q
interval_chosen top bottom q false i e = cc e
interval_chosen top bottom q true i e =
    let same : over (pos top) bottom ≡ q = cc e in
    subst IsStep same (interval_parts top bottom i)

interval_from : (o : Option (ℕ × ℕ)) (q : Fraction) → option_and_then interval_by o ≡ Some q → IsStep q
interval_from None q e = cc e
interval_from (Some p) q e = interval_chosen p.0 p.1 q (is_interval p.0 p.1) refl e

interval_named : (word : List ℕ) (q : Fraction) → interval_of word ≡ Some q → IsStep q
interval_named word q e = interval_from (parts_in word) q e

-- ---- one command

abbrev May : Type 0
May = Option Command

either : (b : Bool) (x y r : May) → (if b then x else y) ≡ r → (x ≡ r) ⊎ (y ≡ r)
either true x y r e = inl e
either false x y r e = inr e

module _ (c : Command) where
  -- a command of one word
  trial_is : (o : Option ℕ) → option_map Trial o ≡ Some c → (n : ℕ) × (Trial n ≡ c)
  trial_is None e = cc e
  trial_is (Some n) e = (n, cc e)

  check_is : (d p l : List ℕ) (o : Option ℕ) → option_map (Check d p l) o ≡ Some c → (n : ℕ) × (Check d p l n ≡ c)
  check_is d p l None e = cc e
  check_is d p l (Some n) e = (n, cc e)

-- which command the words are: one with an interval, or another
data Kind (c : Command) : Type 0 where
  a_trial : (n : ℕ) → Trial n ≡ c → Kind c
  a_domain : (f : List ℕ) → ShowDomain f ≡ c → Kind c
  a_problem : (f : List ℕ) → ShowProblem f ≡ c → Kind c
  a_check : (d p l : List ℕ) (n : ℕ) → Check d p l n ≡ c → Kind c
  a_numeric : (d p l : List ℕ) → Numeric d p l ≡ c → Kind c
  a_trim : (d p l : List ℕ) → Trim d p l ≡ c → Kind c
  a_translation : (file : File) (q : Fraction) (d p : List ℕ) → IsStep q → Translate file q d p ≡ c → Kind c
  a_lift : (q : Fraction) (d p l : List ℕ) → IsStep q → Lift q d p l ≡ c → Kind c
  a_plan : (q : Fraction) (k n : ℕ) (cut : Bool) (d p : List ℕ) → IsStep q → k ≤ 64 → Plan q k n cut d p ≡ c → Kind c

module _ (c : Command) where
  none : None ≡ Some c → Kind c
  none e = cc e

  trial_kind : (o : Option ℕ) → option_map Trial o ≡ Some c → Kind c
  trial_kind o e = let t = trial_is c o e in a_trial t.0 t.1

  two_kind : (w number : List ℕ) → trial_of w number ≡ Some c → Kind c
  two_kind w number e = elim (either (bytes_eq w (codes "trial")) (option_map Trial (tanks_of number)) None (Some c) e) [
    | inl f ↦ trial_kind (tanks_of number) f
    | inr f ↦ none f
  ]

  shown_kind : (what file : List ℕ) → show_of what file ≡ Some c → Kind c
  shown_kind what file e = elim (either (bytes_eq what (codes "domain")) (Some (ShowDomain file)) (if bytes_eq what (codes "problem") then Some (ShowProblem file) else None) (Some c) e) [
    | inl f ↦ a_domain file (cc f)
    | inr f ↦ elim (either (bytes_eq what (codes "problem")) (Some (ShowProblem file)) None (Some c) f) [
      | inl g ↦ a_problem file (cc g)
      | inr g ↦ none g
    ]
  ]

  three_kind : (w what file : List ℕ) → (if bytes_eq w (codes "show") then show_of what file else None) ≡ Some c → Kind c
  three_kind w what file e = elim (either (bytes_eq w (codes "show")) (show_of what file) None (Some c) e) [
    | inl f ↦ shown_kind what file f
    | inr f ↦ none f
  ]

  files_kind : (w d p l : List ℕ) → with_files w d p l ≡ Some c → Kind c
  files_kind w d p l e = elim (either (bytes_eq w (codes "check")) (Some (Check d p l default_happenings)) (if bytes_eq w (codes "numeric") then Some (Numeric d p l) else (if bytes_eq w (codes "trim") then Some (Trim d p l) else None)) (Some c) e) [
    | inl f ↦ a_check d p l default_happenings (cc f)
    | inr f ↦ elim (either (bytes_eq w (codes "numeric")) (Some (Numeric d p l)) (if bytes_eq w (codes "trim") then Some (Trim d p l) else None) (Some c) f) [
      | inl g ↦ a_numeric d p l (cc g)
      | inr g ↦ elim (either (bytes_eq w (codes "trim")) (Some (Trim d p l)) None (Some c) g) [
        | inl h ↦ a_trim d p l (cc h)
        | inr h ↦ none h
      ]
    ]
  ]

  translated_kind : (file : File) (word d p : List ℕ) (o : Option Fraction) → interval_of word ≡ o → option_map (λ x. Translate file x d p) o ≡ Some c → Kind c
  translated_kind file word d p None i e = none e
  translated_kind file word d p (Some q) i e = a_translation file q d p (interval_named word q i) (cc e)

  of_file : (word d p : List ℕ) (o : Option File) → option_and_then (λ file. option_map (λ x. Translate file x d p) (interval_of word)) o ≡ Some c → Kind c
  of_file word d p None e = none e
  of_file word d p (Some file) e = translated_kind file word d p (interval_of word) refl e

  lifted_kind : (word d p l : List ℕ) (o : Option Fraction) → interval_of word ≡ o → option_map (λ x. Lift x d p l) o ≡ Some c → Kind c
  lifted_kind word d p l None i e = none e
  lifted_kind word d p l (Some q) i e = a_lift q d p l (interval_named word q i) (cc e)

  four_kind : (v w x y z : List ℕ) → with_four v w x y z ≡ Some c → Kind c
  four_kind v w x y z e = elim (either (bytes_eq v (codes "translate")) (translate_of w x y z) (if bytes_eq v (codes "lift") then lift_of w x y z else None) (Some c) e) [
    | inl f ↦ of_file x y z (file_named w) f
    | inr f ↦ elim (either (bytes_eq v (codes "lift")) (lift_of w x y z) None (Some c) f) [
      | inl g ↦ lifted_kind w x y z (interval_of w) refl g
      | inr g ↦ none g
    ]
  ]

  counted_kind : (d p l : List ℕ) (o : Option ℕ) → option_map (Check d p l) o ≡ Some c → Kind c
  counted_kind d p l o e = let t = check_is c d p l o e in a_check d p l t.0 t.1

  tried_kind : (q : Fraction) (k : ℕ) (cut : Bool) (d p : List ℕ) (o : Option ℕ) → IsStep q → k ≤ 64 → option_map (λ z. Plan q k z cut d p) o ≡ Some c → Kind c
  tried_kind q k cut d p None i l e = none e
  tried_kind q k cut d p (Some n) i l e = a_plan q k n cut d p i l (cc e)

  decided_kind : (q : Fraction) (word n : List ℕ) (cut : Bool) (d p : List ℕ) (o : Option ℕ) → IsStep q → decisions_of word ≡ o → option_and_then (λ y. option_map (λ z. Plan q y z cut d p) (happenings_of n)) o ≡ Some c → Kind c
  decided_kind q word n cut d p None i j e = none e
  decided_kind q word n cut d p (Some k) i j e = tried_kind q k cut d p (happenings_of n) i (decisions_most word k j) e

  planned_kind : (word k n : List ℕ) (cut : Bool) (d p : List ℕ) (o : Option Fraction) → interval_of word ≡ o → option_and_then (λ x. option_and_then (λ y. option_map (λ z. Plan x y z cut d p) (happenings_of n)) (decisions_of k)) o ≡ Some c → Kind c
  planned_kind word k n cut d p None i e = none e
  planned_kind word k n cut d p (Some q) i e = decided_kind q k n cut d p (decisions_of k) (interval_named word q i) refl e

  five_kind : (u v w x y z : List ℕ) → with_five u v w x y z ≡ Some c → Kind c
  five_kind u v w x y z e = elim (either (bytes_eq u (codes "check")) (check_of v w x y z) (if bytes_eq u (codes "plan") then plan_of v w x false y z else None) (Some c) e) [
    | inl f ↦ elim (either (bytes_eq y (codes "--happenings")) (option_map (Check v w x) (happenings_of z)) None (Some c) f) [
      | inl g ↦ counted_kind v w x (happenings_of z) g
      | inr g ↦ none g
    ]
    | inr f ↦ elim (either (bytes_eq u (codes "plan")) (plan_of v w x false y z) None (Some c) f) [
      | inl g ↦ planned_kind v w x false y z (interval_of v) refl g
      | inr g ↦ none g
    ]
  ]

  six_kind : (t u v w x y z : List ℕ) → with_six t u v w x y z ≡ Some c → Kind c
  six_kind t u v w x y z e = elim (either (bytes_eq t (codes "plan")) (cut_plan_of u v w x y z) None (Some c) e) [
    | inl f ↦ elim (either (bytes_eq z (codes "--cut")) (plan_of u v w true x y) None (Some c) f) [
      | inl g ↦ planned_kind u v w true x y (interval_of u) refl g
      | inr g ↦ none g
    ]
    | inr f ↦ none f
  ]

  kind_of : (words : List (List ℕ)) → command_of words ≡ Some c → Kind c
  kind_of [] e = none e
  kind_of (a ∷ []) e = none e
  kind_of (a ∷ b ∷ []) e = two_kind a b e
  kind_of (a ∷ b ∷ d ∷ []) e = three_kind a b d e
  kind_of (a ∷ b ∷ d ∷ p ∷ []) e = files_kind a b d p e
  kind_of (a ∷ w ∷ x ∷ y ∷ z ∷ []) e = four_kind a w x y z e
  kind_of (a ∷ v ∷ w ∷ x ∷ y ∷ z ∷ []) e = five_kind a v w x y z e
  kind_of (a ∷ u ∷ v ∷ w ∷ x ∷ y ∷ z ∷ []) e = six_kind a u v w x y z e
  kind_of (a ∷ u ∷ v ∷ w ∷ x ∷ y ∷ z ∷ more ∷ rest) e = none e

-- ---- the three with an interval

pub plan_is_named : PlanIsNamed
plan_is_named words q k tries cut d p e = elim (kind_of (Plan q k tries cut d p) words e) [
  | a_trial n i ↦ cc i
  | a_domain f i ↦ cc i
  | a_problem f i ↦ cc i
  | a_check d' p' l n i ↦ cc i
  | a_numeric d' p' l i ↦ cc i
  | a_trim d' p' l i ↦ cc i
  | a_translation file q' d' p' h i ↦ cc i
  | a_lift q' d' p' l h i ↦ cc i
  | a_plan q' k' n cut' d' p' h l i ↦ (let one : q' ≡ q = cc i in let two : k' ≡ k = cc i in (subst IsStep one h, subst (λ m. m ≤ 64) two l))
]

pub lift_is_named : LiftIsNamed
lift_is_named words q d p l e = elim (kind_of (Lift q d p l) words e) [
  | a_trial n i ↦ cc i
  | a_domain f i ↦ cc i
  | a_problem f i ↦ cc i
  | a_check d' p' l' n i ↦ cc i
  | a_numeric d' p' l' i ↦ cc i
  | a_trim d' p' l' i ↦ cc i
  | a_translation file q' d' p' h i ↦ cc i
  | a_lift q' d' p' l' h i ↦ (let one : q' ≡ q = cc i in subst IsStep one h)
  | a_plan q' k n cut d' p' h m i ↦ cc i
]

pub translate_is_named : TranslateIsNamed
translate_is_named words file q d p e = elim (kind_of (Translate file q d p) words e) [
  | a_trial n i ↦ cc i
  | a_domain f i ↦ cc i
  | a_problem f i ↦ cc i
  | a_check d' p' l n i ↦ cc i
  | a_numeric d' p' l i ↦ cc i
  | a_trim d' p' l i ↦ cc i
  | a_translation file' q' d' p' h i ↦ (let one : q' ≡ q = cc i in subst IsStep one h)
  | a_lift q' d' p' l h i ↦ cc i
  | a_plan q' k n cut d' p' h m i ↦ cc i
]
