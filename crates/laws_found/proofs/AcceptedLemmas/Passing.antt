-- What a search asked of a list that can be played passes where `check` asks it, and more.
use Rattle.std.proofs.Common.{◌≡◌, ℕ, ◌≤◌, List, ◌∷◌, ◌++◌, sym, ap, subst, ◌∙◌, arith}
use Rattle.plus_fraction.specs.Fraction.{Fraction}
use Rattle.plus_model.specs.Terms.{Problem}
use Rattle.plus_model.specs.Plan.{Line}
use Rattle.plus_model.specs.History.{Part}
use Rattle.plus_model.specs.Trajectory.{Next, Follow, Prefix, first_part, first_view, view_of}
use Rattle.plus_model.proofs.Paths.{view_is}
use Rattle.plus_stretch.specs.Tests.{Test, AllPass}
use Rattle.plus_timeline.specs.Asked.{goal_tests, asked}
use Rattle.plus_timeline.proofs.Played.{tail_is}
use Rattle.plus_timeline.specs.Played.{entries_of}
use Rattle.plus_planner.specs.Grid.{asked_in, IsClearIn}
use Rattle.laws_found.proofs.AcceptedLemmas.Lifting.{so_far, whole, asked_more, goes_on}
use Rattle.laws_found.proofs.AcceptedLemmas.Few.{next_behind, entries_front, few}
use Rattle.plus_planner.proofs.Ready.{begin_follow}

module _ (fits : Fraction → Type 0) (P : Problem) (lines : List Line) (most most' : ℕ) (instance : ℕ → List Test) (h : List Part) (some : 1 ≤ most) (more : most ≤ most') (clean : (i : ℕ) → AllPass fits (instance i)) (p : Prefix P (so_far lines) h) (c : IsClearIn fits P (so_far lines) most h) where
  pub within : entries_of h ≤ most
  within = few fits P (so_far lines) most h some p c

  -- at each shorter history, from which a part comes next
  pub shorter : (g : List Part) (part : Part) (rest : List Part) → Prefix P (whole lines) g → h ≡ g ++ part ∷ rest → AllPass fits (asked P (whole lines) most' instance (entries_of g) (view_of P g))
  shorter g part rest q e =
      let k : p.rest ≡ q.rest ++ part ∷ rest = tail_is (first_part P) (first_part P) p.rest (q.rest ++ part ∷ rest) (sym p.begins ∙ e ∙ ap (λ xs. xs ++ part ∷ rest) q.begins) in
      let f : Follow P (so_far lines) (first_view P) (q.rest ++ part ∷ rest) = subst (Follow P (so_far lines) (first_view P)) k p.follow in
      let n : Next P (so_far lines) (view_of P g) part =
      subst (λ v. Next P (so_far lines) v part) (sym (view_is P g q.rest q.begins)) (next_behind P (so_far lines) (first_view P) q.rest part rest f) in
      let o : Prefix P (so_far lines) g =
      record { ordered = p.ordered; rest = q.rest; begins = q.begins; follow = begin_follow P (so_far lines) (first_view P) q.rest (part ∷ rest) f } in
      let b : entries_of g ≤ entries_of (g ++ part ∷ rest) = entries_front g (part ∷ rest) in
      let w : entries_of (g ++ part ∷ rest) ≤ most = subst (λ xs. entries_of xs ≤ most) e within in
      asked_more fits P lines most most' instance (entries_of g) (view_of P g) (omega arith) more clean
      (λ t d. absurd (goes_on P (so_far lines) (view_of P g) part n t d))
      (c g part rest o e)

  -- and at its end, where the goal passes
  pub at_end : AllPass fits (asked_in P (so_far lines) most h) → AllPass fits (goal_tests P (view_of P h).state) → AllPass fits (asked P (whole lines) most' instance (entries_of h) (view_of P h))
  at_end a g = asked_more fits P lines most most' instance (entries_of h) (view_of P h) within more clean (λ t d. g) a
