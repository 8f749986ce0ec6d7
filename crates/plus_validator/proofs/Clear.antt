-- Where all that is asked at the shorter histories passes, it does so as the plan grows.
use Rattle.std.proofs.Common.{◌≡◌, ℕ, ◌<◌, List, [], ◌∷◌, ◌++◌, refl, ap, sym, subst, ◌∙◌}
use Rattle.std.specs.Prelude.{length}
use Rattle.plus_model.specs.Terms.{Problem}
use Rattle.plus_model.specs.Plan.{Plan}
use Rattle.plus_model.specs.History.{Part, View, view_after, view_from}
use Rattle.plus_model.specs.Trajectory.{HasBegun, Next, Follow, Prefix, first_part, first_view, view_of}
use Rattle.plus_model.specs.Laws.{GoesOnFrom}
use Rattle.plus_stretch.specs.Tests.{Test}
use Rattle.plus_timeline.specs.Played.{entries_of}
use Rattle.plus_validator.specs.Asking.{NoneFails, IsClear}
use Rattle.plus_timeline.proofs.Played.{tail_is}
use Rattle.plus_validator.proofs.Asking.{passes_on}

-- ---- the plan grows

-- what stands in front of a part, and that the part may come next
pub record Front (P : Problem) (L : Plan) (v : View) (xs : List Part) (part : Part) : Type 0 where
  pub follow : Follow P L v xs
  pub next : Next P L (view_from v xs) part

front : (P : Problem) (L : Plan) (v : View) (xs : List Part) (part : Part) (ys : List Part) → Follow P L v (xs ++ part ∷ ys) → Front P L v xs part
front P L v [] part ys f = record { follow = tt; next = f.1 }
front P L v (x ∷ xs) part ys f =
    let k = front P L (view_after v x) xs part ys f.2 in
    record { follow = (f.0, f.1, k.follow); next = k.next }

module _ (P : Problem) (L L' : Plan) (most : ℕ) (instance instance' : ℕ → List Test) (g : GoesOnFrom L L') (agree : (i : ℕ) → i < length L.lines → instance i ≡ instance' i) where
  grows_at : (h : List Part) (r : List Part) (part : Part) (rest : List Part) → Prefix P L h → IsClear P L most instance h → h ≡ (first_part P ∷ r) ++ part ∷ rest → NoneFails P L' most instance' (first_part P ∷ r)
  grows_at h r part rest p c e =
      let k : p.rest ≡ r ++ part ∷ rest = tail_is (first_part P) (first_part P) p.rest (r ++ part ∷ rest) (sym p.begins ∙ e) in
      let f = front P L (first_view P) r part rest (subst (Follow P L (first_view P)) k p.follow) in
      let q : Prefix P L (first_part P ∷ r) = record { ordered = p.ordered; rest = r; begins = refl; follow = f.follow } in
      passes_on P L L' most instance instance' (entries_of (first_part P ∷ r)) (view_of P (first_part P ∷ r)) part g agree f.next (c (first_part P ∷ r) part rest q e)

  pub clear_grows : (h : List Part) → Prefix P L h → IsClear P L most instance h → IsClear P L' most instance' h
  clear_grows h p c = λ front part rest q e.
      subst (NoneFails P L' most instance') (sym q.begins)
      (grows_at h q.rest part rest p c (e ∙ ap (λ xs. xs ++ part ∷ rest) q.begins))

-- ---- before the plan has begun

pub unbegun_rest : (P : Problem) (L : Plan) (v : View) (xs : List Part) → (HasBegun L → ⊥) → Follow P L v xs → xs ≡ []
unbegun_rest P L v [] n f = refl
unbegun_rest P L v (x ∷ xs) n f = absurd (n f.0)
