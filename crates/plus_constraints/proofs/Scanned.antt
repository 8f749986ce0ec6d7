-- Where a condition first has the truth that is sought, over states with times; and how what is known of one part of the line
-- of time and of the part that follows it comes together.
use Rattle.std.proofs.Common.{◌≡◌, ◌⊎◌, true, false, Bool, List, not, refl, ap, sym, subst, ◌∙◌, inl, inr}
use Rattle.std.specs.Prelude.{Option, Some, None}
use Rattle.plus_fraction.specs.Fraction.{Fraction, ◌<ℚ◌, ◌≤ℚ◌, ◌-ℚ◌}
use Rattle.plus_fraction.proofs.FractionOrder.{<ℚ_trans, <ℚ_or, <ℚ_irrefl}
use Rattle.plus_fraction.proofs.FractionAtMost.{≤ℚ_refl, ≤ℚ_trans, le_lt, le_not_above, ≤ℚ-<ℚ_trans, <ℚ-≤ℚ_trans, middle, middle_between}
use Rattle.plus_model.specs.Terms.{Condition, State}
use Rattle.plus_model.specs.Value.{holds}
use Rattle.plus_model.specs.Running.{moved}
use Rattle.plus_constraints.specs.Place.{Place, At, After, place_if, or_else}

-- states with times
abbrev pub Seen : Type 1
Seen = Fraction → State → Type 0

abbrev pub Bounded : Fraction → Fraction → Seen → Type 0
Bounded first last V = (t : Fraction) (s : State) → V t s → (first ≤ℚ t) × (t ≤ℚ last)

-- the truth that is sought is `not lasting`, so that the other one is `lasting`
abbrev pub AllHave : Condition → Bool → Seen → Type 0
AllHave c lasting V = (t : Fraction) (s : State) → V t s → holds c s ≡ lasting

abbrev pub Before : Condition → Bool → Seen → Fraction → Type 0
Before c lasting V u = (t : Fraction) (s : State) → V t s → t <ℚ u → holds c s ≡ lasting

pub record FirstAt (c : Condition) (lasting : Bool) (V : Seen) (u : Fraction) : Type 0 where
  pub state : State
  pub seen : V u state
  pub is : holds c state ≡ not lasting
  pub before : Before c lasting V u

pub record Amid (V : Seen) (first last : Fraction) : Type 0 where
  pub time : Fraction
  pub state : State
  pub seen : V time state
  pub later : first <ℚ time
  pub earlier : time <ℚ last

pub record FirstAfter (c : Condition) (lasting : Bool) (first last : Fraction) (V : Seen) (u : Fraction) : Type 0 where
  pub from : first ≤ℚ u
  pub until : Fraction
  pub above : u <ℚ until
  pub within : until ≤ℚ last
  pub inside : (t : Fraction) (s : State) → V t s → u <ℚ t → t <ℚ until → holds c s ≡ not lasting
  pub soon : (m : Fraction) → u <ℚ m → Amid V u m
  pub at : (s : State) → V u s → holds c s ≡ lasting
  pub before : Before c lasting V u

abbrev pub Finds : Condition → Bool → Fraction → Fraction → Seen → Option Place → Type 0
Finds c lasting first last V None = AllHave c lasting V
Finds c lasting first last V (Some (At u)) = FirstAt c lasting V u
Finds c lasting first last V (Some (After u)) = FirstAfter c lasting first last V u

pub record Scanned (c : Condition) (lasting : Bool) (first last : Fraction) (V : Seen) (o : Option Place) : Type 0 where
  pub order : first ≤ℚ last
  pub bounds : Bounded first last V
  pub finds : Finds c lasting first last V o

-- ---- one part of time after the other
abbrev pub Either : Seen → Seen → Seen
Either V W t s = V t s ⊎ W t s

module _ (c : Condition) (lasting : Bool) (first mid last : Fraction) (V W : Seen) (le : mid ≤ℚ last) (bV : Bounded first mid V) (bW : Bounded mid last W) where
  stays_at : (u : Fraction) → FirstAt c lasting V u → FirstAt c lasting (Either V W) u
  stays_at u f = record {
    state = f.state;
    seen = inl f.seen;
    is = f.is;
    before = λ t s h l. elim h [
      | inl v ↦ f.before t s v l
      | inr w ↦ absurd (le_not_above mid t (bW t s w).0 (<ℚ-≤ℚ_trans t u mid l (bV u f.state f.seen).1))
    ];
  }

  stays_after : (u : Fraction) → FirstAfter c lasting first mid V u → FirstAfter c lasting first last (Either V W) u
  stays_after u f = record {
    from = f.from;
    until = f.until;
    above = f.above;
    within = ≤ℚ_trans f.until mid last f.within le;
    inside = λ t s h l m. elim h [
      | inl v ↦ f.inside t s v l m
      | inr w ↦ absurd (le_not_above mid t (bW t s w).0 (<ℚ-≤ℚ_trans t f.until mid m f.within))
    ];
    soon = λ m l. let a = f.soon m l in record { time = a.time; state = a.state; seen = inl a.seen; later = a.later; earlier = a.earlier };
    at = λ s h. elim h [
      | inl v ↦ f.at s v
      | inr w ↦ absurd (le_not_above mid u (bW u s w).0 (<ℚ-≤ℚ_trans u f.until mid f.above f.within))
    ];
    before = λ t s h l. elim h [
      | inl v ↦ f.before t s v l
      | inr w ↦ absurd (le_not_above mid t (bW t s w).0 (<ℚ_trans t u mid l (<ℚ-≤ℚ_trans u f.until mid f.above f.within)))
    ];
  }

  comes_at : (u : Fraction) → AllHave c lasting V → FirstAt c lasting W u → FirstAt c lasting (Either V W) u
  comes_at u a f = record {
    state = f.state;
    seen = inr f.seen;
    is = f.is;
    before = λ t s h l. elim h [ inl v ↦ a t s v | inr w ↦ f.before t s w l ];
  }

  comes_after : (u : Fraction) → first ≤ℚ mid → AllHave c lasting V → FirstAfter c lasting mid last W u → FirstAfter c lasting first last (Either V W) u
  comes_after u low a f = record {
    from = ≤ℚ_trans first mid u low f.from;
    until = f.until;
    above = f.above;
    within = f.within;
    inside = λ t s h l m. elim h [
      | inl v ↦ absurd (le_not_above t mid (bV t s v).1 (≤ℚ-<ℚ_trans mid u t f.from l))
      | inr w ↦ f.inside t s w l m
    ];
    soon = λ m l. let x = f.soon m l in record { time = x.time; state = x.state; seen = inr x.seen; later = x.later; earlier = x.earlier };
    at = λ s h. elim h [ inl v ↦ a u s v | inr w ↦ f.at s w ];
    before = λ t s h l. elim h [ inl v ↦ a t s v | inr w ↦ f.before t s w l ];
  }

-- where something is found in the first part, no more need be known of the second one than that it comes later
pub joined : (c : Condition) (lasting : Bool) (first mid last : Fraction) (V W : Seen) (o p : Option Place) → Scanned c lasting first mid V o → mid ≤ℚ last → Bounded mid last W → (o ≡ None → Scanned c lasting mid last W p) → Scanned c lasting first last (Either V W) (or_else o p)
joined c lasting first mid last V W o p a le bounds b = record {
  order = ≤ℚ_trans first mid last a.order le;
  bounds = λ t s h. elim h [
    | inl v ↦ ((a.bounds t s v).0, ≤ℚ_trans t mid last (a.bounds t s v).1 le)
    | inr w ↦ (≤ℚ_trans first mid t a.order (bounds t s w).0, (bounds t s w).1)
  ];
  finds = go o p a.finds (λ e. (b e).finds);
}
  where
    both : (p : Option Place) → AllHave c lasting V → Finds c lasting mid last W p → Finds c lasting first last (Either V W) p
    both None f g = λ t s h. elim h [ inl v ↦ f t s v | inr w ↦ g t s w ]
    both (Some (At u)) f g = comes_at c lasting first mid last V W le a.bounds bounds u f g
    both (Some (After u)) f g = comes_after c lasting first mid last V W le a.bounds bounds u a.order f g

    go : (o p : Option Place) → Finds c lasting first mid V o → (o ≡ None → Finds c lasting mid last W p) → Finds c lasting first last (Either V W) (or_else o p)
    go (Some (At u)) p f g = stays_at c lasting first mid last V W le a.bounds bounds u f
    go (Some (After u)) p f g = stays_after c lasting first mid last V W le a.bounds bounds u f
    go None p f g = both p f (g refl)

-- ---- the same states
pub same_seen : (c : Condition) (lasting : Bool) (first last : Fraction) (V W : Seen) (o : Option Place) → ((t : Fraction) (s : State) → V t s → W t s) → ((t : Fraction) (s : State) → W t s → V t s) → Scanned c lasting first last V o → Scanned c lasting first last W o
same_seen c lasting first last V W o there back a = record {
  order = a.order;
  bounds = λ t s h. a.bounds t s (back t s h);
  finds = go o a.finds;
}
  where
    go : (o : Option Place) → Finds c lasting first last V o → Finds c lasting first last W o
    go None f = λ t s h. f t s (back t s h)
    go (Some (At u)) f = record { state = f.state; seen = there u f.state f.seen; is = f.is; before = λ t s h l. f.before t s (back t s h) l }
    go (Some (After u)) f = record {
      from = f.from;
      until = f.until;
      above = f.above;
      within = f.within;
      inside = λ t s h l m. f.inside t s (back t s h) l m;
      soon = λ m l. let x = f.soon m l in record { time = x.time; state = x.state; seen = there x.time x.state x.seen; later = x.later; earlier = x.earlier };
      at = λ s h. f.at s (back u s h);
      before = λ t s h l. f.before t s (back t s h) l;
    }

-- ---- nothing
pub nothing : (c : Condition) (lasting : Bool) (first last : Fraction) (V : Seen) → first ≤ℚ last → ((t : Fraction) (s : State) → V t s → ⊥) → Scanned c lasting first last V None
nothing c lasting first last V le none = record { order = le; bounds = λ t s h. absurd (none t s h); finds = λ t s h. absurd (none t s h) }

-- ---- one state
abbrev pub One : Fraction → State → Seen
One u now t s = (t ≡ u) × (s ≡ now)

pub one_state : (c : Condition) (lasting : Bool) (u : Fraction) (now : State) → Scanned c lasting u u (One u now) (place_if lasting (holds c now) (At u))
one_state c lasting u now = record {
  order = ≤ℚ_refl u;
  bounds = λ t s h. (subst (λ (x : Fraction). u ≤ℚ x) (sym h.0) (≤ℚ_refl u), subst (λ (x : Fraction). x ≤ℚ u) (sym h.0) (≤ℚ_refl u));
  finds = go lasting (holds c now) refl;
}
  where
    all : (b : Bool) → holds c now ≡ b → AllHave c b (One u now)
    all b e = λ t s h. ap (holds c) h.1 ∙ e

    first : (b : Bool) → holds c now ≡ not b → FirstAt c b (One u now) u
    first b e = record { state = now; seen = (refl, refl); is = e; before = λ t s h l. absurd (<ℚ_irrefl u (subst (λ (x : Fraction). x <ℚ u) h.0 l)) }

    go : (b z : Bool) → holds c now ≡ z → Finds c b u u (One u now) (place_if b z (At u))
    go true true e = all true e
    go true false e = first true e
    go false true e = first false e
    go false false e = all false e

-- ---- all moments strictly between two times, along rates
abbrev pub Open : Fraction → State → List Fraction → Fraction → Fraction → Seen
Open begin start rs first last t s = (first <ℚ t) × (t <ℚ last) × (s ≡ moved start rs (t -ℚ begin))

between : (a m n : Fraction) → a <ℚ m → a <ℚ n → (x : Fraction) × (a <ℚ x) × (x <ℚ m) × (x <ℚ n)
between a m n h k = elim (<ℚ_or m n) [
  | inl l ↦ (let c = middle_between a m h in (middle a m, c.0, c.1, <ℚ_trans _ _ _ c.1 l))
  | inr o ↦ elim o [
    | inl e ↦ (let c = middle_between a m h in (middle a m, c.0, c.1, subst (λ (z : Fraction). middle a m <ℚ z) e c.1))
    | inr l ↦ (let c = middle_between a n k in (middle a n, c.0, <ℚ_trans _ _ _ c.1 l, c.1))
  ]
]

pub one_truth : (c : Condition) (lasting : Bool) (begin : Fraction) (start : State) (rs : List Fraction) (first last : Fraction) (z : Bool) → first <ℚ last → ((t : Fraction) → first <ℚ t → t <ℚ last → holds c (moved start rs (t -ℚ begin)) ≡ z) → Scanned c lasting first last (Open begin start rs first last) (place_if lasting z (After first))
one_truth c lasting begin start rs first last z lt has = record {
  order = le_lt first last lt;
  bounds = λ t s h. (le_lt first t h.0, le_lt t last h.1);
  finds = go lasting z refl;
}
  where
    truth : (b : Bool) → z ≡ b → AllHave c b (Open begin start rs first last)
    truth b e = λ t s h. ap (holds c) h.2 ∙ has t h.0 h.1 ∙ e

    after : (b : Bool) → z ≡ not b → FirstAfter c b first last (Open begin start rs first last) first
    after b e = record {
      from = ≤ℚ_refl first;
      until = last;
      above = lt;
      within = ≤ℚ_refl last;
      inside = λ t s h l m. ap (holds c) h.2 ∙ has t h.0 h.1 ∙ e;
      soon = λ m l. let x = between first m last l lt in record { time = x.0; state = moved start rs (x.0 -ℚ begin); seen = (x.1, x.3, refl); later = x.1; earlier = x.2 };
      at = λ s h. absurd (<ℚ_irrefl first h.0);
      before = λ t s h l. absurd (<ℚ_irrefl first (<ℚ_trans first t first h.0 l));
    }

    go : (b y : Bool) → z ≡ y → Finds c b first last (Open begin start rs first last) (place_if b y (After first))
    go true true e = truth true e
    go true false e = after true e
    go false true e = after false e
    go false false e = truth false e

-- where the truth that is sought stands right after the beginning, no more need be known
pub soon_found : (c : Condition) (lasting : Bool) (begin : Fraction) (start : State) (rs : List Fraction) (first until last : Fraction) (z : Bool) → first <ℚ until → until ≤ℚ last → ((t : Fraction) → first <ℚ t → t <ℚ until → holds c (moved start rs (t -ℚ begin)) ≡ z) → z ≡ not lasting → Scanned c lasting first last (Open begin start rs first last) (Some (After first))
soon_found c lasting begin start rs first until last z lt le has e = record {
  order = ≤ℚ_trans first until last (le_lt first until lt) le;
  bounds = λ t s h. (le_lt first t h.0, le_lt t last h.1);
  finds = record {
    from = ≤ℚ_refl first;
    until = until;
    above = lt;
    within = le;
    inside = λ t s h l m. ap (holds c) h.2 ∙ has t l m ∙ e;
    soon = λ m l. let x = between first m last l (<ℚ-≤ℚ_trans first until last lt le) in record { time = x.0; state = moved start rs (x.0 -ℚ begin); seen = (x.1, x.3, refl); later = x.1; earlier = x.2 };
    at = λ s h. absurd (<ℚ_irrefl first h.0);
    before = λ t s h l. absurd (<ℚ_irrefl first (<ℚ_trans first t first h.0 l));
  };
}

-- a place is told exactly where the truth is the one that is sought
pub place_cases : (lasting z : Bool) (p : Place) → (place_if lasting z p ≡ None) ⊎ ((z ≡ not lasting) × (place_if lasting z p ≡ Some p))
place_cases true true p = inl refl
place_cases true false p = inr (refl, refl)
place_cases false true p = inr (refl, refl)
place_cases false false p = inl refl
