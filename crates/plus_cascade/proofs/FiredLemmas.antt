-- How far events are looked at and added.
use Rattle.std.proofs.Common.{◌≡◌, ℕ, ◌<◌, ◌≤◌, ◌+◌, suc, Bool, true, false, List, [], ◌∷◌, length, get_or, set, drop, cond, ◌||◌, refl, ap, sym, subst, ◌∙◌, arith, drop-cons}
use Rattle.std.proofs.lemmas.List.{length-set, get_or-set_same, get_or-set_other, drop_all}
use Rattle.std.proofs.lemmas.Bool.{eqb-true, eqb-false}
use Rattle.std.proofs.lemmas.List.Elements.{All-head, All-tail}
use Rattle.std.proofs.lemmas.Option.{unwrap_or-slice_get}
use Rattle.std.specs.Prelude.{Some, None, find, nat_eq}
use Rattle.std.specs.List.{All}
use Rattle.plus_state.specs.declared.term.EventId.{EventId}
use Rattle.plus_model.specs.Firing.{is_in}
use Rattle.plus_cascade.specs.Fired.{event_numbers, has_fired, first_repeated, with_fired, IsSetOf}

-- the numbers from place i on
pub next_number : (xs : List EventId) (i : ℕ) (d : EventId) → i < length xs → event_numbers (drop i xs) ≡ (get_or xs i d).0 ∷ event_numbers (drop (i + 1) xs)
next_number xs i d h =
    let one : suc i ≡ i + 1 = omega arith in
    ap event_numbers (drop-cons xs i d h) ∙ ap (λ (n : ℕ). (get_or xs i d).0 ∷ event_numbers (drop n xs)) one

pub no_number : (xs : List EventId) (i : ℕ) → length xs ≤ i → event_numbers (drop i xs) ≡ []
no_number xs i h = ap event_numbers (drop_all i xs h)

pub record Looking (rest : List ℕ) (fired : List Bool) (whole : List ℕ) : Type 0 where
  pub inside : All (λ e. e < length fired) rest
  pub so_far : first_repeated fired rest ≡ first_repeated fired whole

pub looking_start : (whole : List ℕ) (fired : List Bool) → All (λ e. e < length fired) whole → Looking whole fired whole
looking_start whole fired h = record { inside = h; so_far = refl }

module _ (e : ℕ) (rest : List ℕ) (fired : List Bool) (whole : List ℕ) (h : Looking (e ∷ rest) fired whole) where
  pub looking_inside : e < length fired
  looking_inside = All-head (λ e. e < length fired) e rest h.inside

  pub looking_next : false ≡ has_fired fired e → Looking rest fired whole
  unfolding first_repeated
  looking_next k = record {
    inside = All-tail (λ e. e < length fired) e rest h.inside;
    so_far = ap (λ (b : Bool). cond b (Some e) (find (has_fired fired) rest)) k ∙ h.so_far;
  }

  pub looking_found : true ≡ has_fired fired e → Some e ≡ first_repeated fired whole
  unfolding first_repeated
  looking_found k = ap (λ (b : Bool). cond b (Some e) (find (has_fired fired) rest)) k ∙ h.so_far

pub looking_end : (fired : List Bool) (whole : List ℕ) → Looking [] fired whole → None ≡ first_repeated fired whole
unfolding first_repeated
looking_end fired whole h = h.so_far

pub record Growing (rest : List ℕ) (now old : List Bool) (whole : List ℕ) : Type 0 where
  pub inside : All (λ e. e < length now) rest
  pub so_far : with_fired now rest ≡ with_fired old whole
  pub size : length now ≡ length old

module _ (e : ℕ) (rest : List ℕ) (now old : List Bool) (whole : List ℕ) (h : Growing (e ∷ rest) now old whole) where
  pub growing_inside : e < length now
  growing_inside = All-head (λ e. e < length now) e rest h.inside

  pub growing_next : (new : List Bool) → new ≡ set now e true → Growing rest new old whole
  growing_next new k = subst (λ (x : List Bool). Growing rest x old whole) (sym k) (record {
    inside = subst (λ (n : ℕ). All (λ e. e < n) rest) (sym (length-set now e true)) (All-tail (λ e. e < length now) e rest h.inside);
    so_far = h.so_far;
    size = length-set now e true ∙ h.size;
  })

pub growing_end : (now old : List Bool) (whole : List ℕ) → Growing [] now old whole → now ≡ with_fired old whole
growing_end now old whole h = h.so_far

-- events go from the set: where it was that of all of them, those that are left of it are still to come
pub record Clearing (rest : List ℕ) (now old : List Bool) (whole : List ℕ) : Type 0 where
  pub inside : All (λ e. e < length now) rest
  pub left : IsSetOf old whole → (k : ℕ) → has_fired now k ≡ true → is_in rest k ≡ true
  pub size : length now ≡ length old

module _ (e : ℕ) (rest : List ℕ) (now old : List Bool) (whole : List ℕ) (h : Clearing (e ∷ rest) now old whole) where
  pub clearing_inside : e < length now
  clearing_inside = All-head (λ e. e < length now) e rest h.inside

  left_by : IsSetOf old whole → (k : ℕ) (b : Bool) → nat_eq k e ≡ b → get_or (set now e false) k false ≡ true → is_in rest k ≡ true
  left_by s k true q f =
      let same : k ≡ e = eqb-true k e q in
      let gone : get_or (set now e false) k false ≡ false = subst (λ (n : ℕ). get_or (set now e false) n false ≡ false) (sym same) (get_or-set_same now e false false clearing_inside) in
      cc (gone, f)
  left_by s k false q f =
      let there : has_fired now k ≡ true = unwrap_or-slice_get now k false ∙ sym (get_or-set_other now e k false false (eqb-false k e q)) ∙ f in
      ap (λ (b : Bool). b || is_in rest k) (sym q) ∙ h.left s k there

  pub clearing_next : (new : List Bool) → new ≡ set now e false → Clearing rest new old whole
  clearing_next new k = subst (λ (x : List Bool). Clearing rest x old whole) (sym k) (record {
    inside = subst (λ (n : ℕ). All (λ e. e < n) rest) (sym (length-set now e false)) (All-tail (λ e. e < length now) e rest h.inside);
    left = λ s j f. left_by s j (nat_eq j e) refl (sym (unwrap_or-slice_get (set now e false) j false) ∙ f);
    size = length-set now e false ∙ h.size;
  })
