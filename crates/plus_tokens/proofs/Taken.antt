-- A token of one kind is taken, or nothing is: how the tokens of a text tell it.
use Rattle.std.proofs.Common.{◌≡◌, ℕ, ◌≤◌, Bool, true, false, cond, List, length, Option, Some, None, Result, Ok, Err, refl, sym, ap, ◌∙◌, arith}
use Rattle.std.specs.Prelude.{slice_range, IfSome}
use Rattle.plus_tokens.specs.declared.token.Kind.{Kind}
use Rattle.plus_tokens.specs.declared.token.Token.{Token}
use Rattle.plus_tokens.specs.declared.token.LexFault.{LexFault}
use Rattle.plus_tokens.specs.Ahead.{place_if, end_if, finds_none}
use Rattle.plus_tokens.specs.Coming.{comes, without, word_ahead, is_done}
use Rattle.plus_tokens.specs.First.{first_token}
use Rattle.plus_tokens.specs.Items.{Item, items_at}
use Rattle.plus_tokens.specs.Lowered.{lowered}
use Rattle.plus_tokens.proofs.Items.{stands, at_token, at_none, at_fault}

yes : {A : Type 0} {b : Bool} (x y : A) → b ≡ true → cond b x y ≡ x
yes x y e = ap (λ (t : Bool). cond t x y) e

no : {A : Type 0} {b : Bool} (x y : A) → b ≡ false → cond b x y ≡ y
no x y e = ap (λ (t : Bool). cond t x y) e

-- a token of this kind was found, or none
pub record IsFound (q : Kind → Bool) (text : List ℕ) (from : ℕ) (t : Token) : Type 0 where
  pub first : first_token text from ≡ Ok (Some t)
  pub is : q t.kind ≡ true

found_comes : (q : Kind → Bool) (text : List ℕ) (from : ℕ) (t : Token) → from ≤ length text → IsFound q text from t → comes q (items_at text from) ≡ true
found_comes q text from t le f = ap (comes q) (at_token text from t le f.first) ∙ f.is

found_leaves : (q : Kind → Bool) (text : List ℕ) (from : ℕ) (t : Token) → from ≤ length text → IsFound q text from t → items_at text t.«end» ≡ without q (items_at text from)
found_leaves q text from t le f = sym (ap (without q) (at_token text from t le f.first) ∙ yes _ _ f.is)

found_word : (q : Kind → Bool) (text : List ℕ) (from : ℕ) (t : Token) → from ≤ length text → IsFound q text from t → lowered (slice_range text t.start t.«end») ≡ word_ahead (items_at text from)
found_word q text from t le f = sym (ap word_ahead (at_token text from t le f.first))

place_found : (q : Kind → Bool) (text : List ℕ) (from : ℕ) (x : ℕ × ℕ) → Some x ≡ place_if q (first_token text from) → (t : Token) × IsFound q text from t × (t.start ≡ x.0) × (t.«end» ≡ x.1)
place_found q text from x e = told (first_token text from) refl e
  where
    told : (r : Result (Option Token) LexFault) → first_token text from ≡ r → Some x ≡ place_if q r → (t : Token) × IsFound q text from t × (t.start ≡ x.0) × (t.«end» ≡ x.1)
    told (Ok None) is e = absurd cc
    told (Err f) is e = absurd cc
    told (Ok (Some t)) is e = chosen (q t.kind) refl e
      where
        chosen : (b : Bool) → q t.kind ≡ b → Some x ≡ cond b (Some (t.start, t.«end»)) None → (t : Token) × IsFound q text from t × (t.start ≡ x.0) × (t.«end» ≡ x.1)
        chosen false k e = absurd cc
        chosen true k e = let same : x ≡ (t.start, t.«end») = cc in (t, record { first = is; is = k }, sym (ap (λ (y : ℕ × ℕ). y.0) same), sym (ap (λ (y : ℕ × ℕ). y.1) same))

end_found : (q : Kind → Bool) (text : List ℕ) (from : ℕ) (x : ℕ) → Some x ≡ end_if q (first_token text from) → (t : Token) × IsFound q text from t × (t.«end» ≡ x)
end_found q text from x e = told (first_token text from) refl e
  where
    told : (r : Result (Option Token) LexFault) → first_token text from ≡ r → Some x ≡ end_if q r → (t : Token) × IsFound q text from t × (t.«end» ≡ x)
    told (Ok None) is e = absurd cc
    told (Err f) is e = absurd cc
    told (Ok (Some t)) is e = chosen (q t.kind) refl e
      where
        chosen : (b : Bool) → q t.kind ≡ b → Some x ≡ cond b (Some t.«end») None → (t : Token) × IsFound q text from t × (t.«end» ≡ x)
        chosen false k e = absurd cc
        chosen true k e = let same : x ≡ t.«end» = cc in (t, record { first = is; is = k }, sym same)

-- nothing of this kind was found
pub record IsOther (q : Kind → Bool) (items : List Item) : Type 0 where
  pub comes_not : comes q items ≡ false
  pub stays : items ≡ without q items

other_for : (q : Kind → Bool) (text : List ℕ) (from : ℕ) (r : Result (Option Token) LexFault) → from ≤ length text → first_token text from ≡ r → ((t : Token) → r ≡ Ok (Some t) → q t.kind ≡ false) → IsOther q (items_at text from)
other_for q text from (Ok None) le is e = let a = at_none text from le is in record { comes_not = ap (comes q) a; stays = a ∙ sym (ap (without q) a) }
other_for q text from (Err f) le is e = let a = at_fault text from f le is in record { comes_not = ap (comes q) a; stays = a ∙ sym (ap (without q) a) }
other_for q text from (Ok (Some t)) le is e =
    let a = at_token text from t le is in
    let k = e t refl in
    record { comes_not = ap (comes q) a ∙ k; stays = a ∙ sym (no _ _ k) ∙ sym (ap (without q) a) }

place_other : (q : Kind → Bool) (text : List ℕ) (from : ℕ) → from ≤ length text → None ≡ place_if q (first_token text from) → IsOther q (items_at text from)
place_other q text from le e =
    other_for q text from (first_token text from) le refl (λ t is. chosen t (q t.kind) refl (e ∙ ap (place_if q) is))
  where
    chosen : (t : Token) (b : Bool) → q t.kind ≡ b → ◌≡◌ {A = Option (ℕ × ℕ)} None (cond b (Some (t.start, t.«end»)) None) → q t.kind ≡ false
    chosen t false k e = k
    chosen t true k e = absurd cc

end_other : (q : Kind → Bool) (text : List ℕ) (from : ℕ) → from ≤ length text → None ≡ end_if q (first_token text from) → IsOther q (items_at text from)
end_other q text from le e =
    other_for q text from (first_token text from) le refl (λ t is. chosen t (q t.kind) refl (e ∙ ap (end_if q) is))
  where
    chosen : (t : Token) (b : Bool) → q t.kind ≡ b → None ≡ cond b (Some t.«end») None → q t.kind ≡ false
    chosen t false k e = k
    chosen t true k e = absurd cc

-- the same of the tokens under another name: the offset goes behind the token, or nothing changes
pub record IsTaken (q : Kind → Bool) (text : List ℕ) (last : ℕ) (items : List Item) : Type 0 where
  pub comes_is : comes q items ≡ true
  pub leaves : items_at text last ≡ without q items
  pub inside : last ≤ length text

taken : (q : Kind → Bool) (text : List ℕ) (from last : ℕ) (items : List Item) (t : Token) → from ≤ length text → items_at text from ≡ items → IsFound q text from t → t.«end» ≡ last → IsTaken q text last items
taken q text from last items t le is f e =
    let s = stands text from t f.first in
    record {
      comes_is = ap (comes q) (sym is) ∙ found_comes q text from t le f;
      leaves = ap (items_at text) (sym e) ∙ found_leaves q text from t le f ∙ ap (without q) is;
      inside = omega (arith, s.ends, e);
    }

pub end_taken : (q : Kind → Bool) (text : List ℕ) (from last : ℕ) (items : List Item) → from ≤ length text → items_at text from ≡ items → Some last ≡ end_if q (first_token text from) → IsTaken q text last items
end_taken q text from last items le is e =
    let f = end_found q text from last e in
    taken q text from last items f.0 le is f.1 f.2

moved : (q : Kind → Bool) (from items : List Item) → from ≡ items → IsOther q from → IsOther q items
moved q from items is o = record { comes_not = ap (comes q) (sym is) ∙ o.comes_not; stays = sym is ∙ o.stays ∙ ap (without q) is }

pub end_kept : (q : Kind → Bool) (text : List ℕ) (from : ℕ) (items : List Item) → from ≤ length text → items_at text from ≡ items → None ≡ end_if q (first_token text from) → IsOther q items
end_kept q text from items le is e = moved q (items_at text from) items is (end_other q text from le e)

pub place_kept : (q : Kind → Bool) (text : List ℕ) (from : ℕ) → from ≤ length text → None ≡ place_if q (first_token text from) → IsOther q (items_at text from)
place_kept q text from le e = place_other q text from le e

pub place_taken : (q : Kind → Bool) (text : List ℕ) (from : ℕ) (x : ℕ × ℕ) → from ≤ length text → Some x ≡ place_if q (first_token text from) → IsTaken q text x.1 (items_at text from)
place_taken q text from x le e =
    let f = place_found q text from x e in
    taken q text from x.1 (items_at text from) f.0 le refl f.1 f.3

pub place_word : (q : Kind → Bool) (text : List ℕ) (from : ℕ) (x : ℕ × ℕ) → from ≤ length text → Some x ≡ place_if q (first_token text from) → lowered (slice_range text x.0 x.1) ≡ word_ahead (items_at text from)
place_word q text from x le e =
    let f = place_found q text from x e in
    ap (λ (i : ℕ). lowered (slice_range text i x.1)) (sym f.2) ∙ ap (λ (i : ℕ). lowered (slice_range text f.0.start i)) (sym f.3) ∙ found_word q text from f.0 le f.1

pub place_order : (q : Kind → Bool) (text : List ℕ) (from : ℕ) (x : ℕ × ℕ) → Some x ≡ place_if q (first_token text from) → x.0 ≤ x.1
place_order q text from x e =
    let f = place_found q text from x e in
    let s = stands text from f.0 f.1.first in
    omega (arith, s.some, f.2, f.3)

pub placed_order : (q : Kind → Bool) (text : List ℕ) (from : ℕ) (r : Option (ℕ × ℕ)) → r ≡ place_if q (first_token text from) → IfSome r (λ x. x.0 ≤ x.1)
placed_order q text from None e = tt
placed_order q text from (Some x) e = place_order q text from x e

pub placed_inside : (q : Kind → Bool) (text : List ℕ) (from : ℕ) (r : Option (ℕ × ℕ)) → from ≤ length text → r ≡ place_if q (first_token text from) → IfSome r (λ x. x.1 ≤ length text)
placed_inside q text from None le e = tt
placed_inside q text from (Some x) le e = (place_taken q text from x le e).inside

pub done_told : (text : List ℕ) (from : ℕ) → from ≤ length text → finds_none (first_token text from) ≡ is_done (items_at text from)
done_told text from le = told (first_token text from) refl
  where
    told : (r : Result (Option Token) LexFault) → first_token text from ≡ r → finds_none r ≡ is_done (items_at text from)
    told (Ok None) is = sym (ap is_done (at_none text from le is))
    told (Ok (Some t)) is = sym (ap is_done (at_token text from t le is))
    told (Err f) is = sym (ap is_done (at_fault text from f le is))
