-- Where all that constraints ask at each part of a history passes, what is found of each is what its meaning tells.
use Rattle.std.proofs.Common.{◌≡◌, ℕ, suc, List, [], ◌∷◌, ◌++◌, map, refl, ap, sym, subst, append_assoc}
use Rattle.std.proofs.lemmas.List.{append-nil}
use Rattle.std.proofs.lemmas.List.Elements.{All-nil, All-cons}
use Rattle.std.specs.List.{All}
use Rattle.plus_fraction.specs.Fraction.{Fraction}
use Rattle.plus_model.specs.Terms.{Problem}
use Rattle.plus_model.specs.Plan.{Plan}
use Rattle.plus_model.specs.History.{Part}
use Rattle.plus_model.specs.Trajectory.{Prefix}
use Rattle.plus_state.specs.Tested.{Carries}
use Rattle.plus_state.proofs.Testing.{pass_none, pass_append, pass_left, pass_right, carry_back}
use Rattle.plus_crossing.specs.Asked as crossing
use Rattle.plus_crossing.specs.Asked.{Ask}
use Rattle.plus_constraints.specs.Constraint.{Constraint}
use Rattle.plus_constraints.specs.Found.{IsFound}
use Rattle.plus_watch.specs.Looks.{looks_ask, history_looks}
use Rattle.plus_watch.specs.Asked.{rule_asks, rules_ask, Passes, AllPass}
use Rattle.plus_watch.specs.Laws.{found_along, WatchTells}
use Rattle.plus_watch.proofs.Growing.{looks_grow}
use Rattle.plus_watch.proofs.Histories.{looks_tell}

-- a test with a number passes where it does without
pub numbered_carry : (fits : Fraction → Type 0) (k : ℕ) → Carries (λ (a : Ask). (k, a)) (crossing.Passes fits) (Passes fits)
unfolding Passes
numbered_carry fits k = record { there = λ t p. p; back = λ t p. p }

-- what the first constraint asks passes where what all ask does
first_asked : (fits : Fraction → Type 0) (P : Problem) (k : ℕ) (c : Constraint) (cs : List Constraint) (h : List Part) (part : Part) → AllPass fits (rules_ask P k (c ∷ cs) h part) → crossing.AllPass fits (rule_asks P c h part)
first_asked fits P k c cs h part a =
    carry_back (numbered_carry fits k) (rule_asks P c h part) (pass_left (Passes fits) (map (λ (a : Ask). (k, a)) (rule_asks P c h part)) (rules_ask P (suc k) cs h part) a)

others_asked : (fits : Fraction → Type 0) (P : Problem) (k : ℕ) (c : Constraint) (cs : List Constraint) (h : List Part) (part : Part) → AllPass fits (rules_ask P k (c ∷ cs) h part) → AllPass fits (rules_ask P (suc k) cs h part)
others_asked fits P k c cs h part a = pass_right (Passes fits) (map (λ (a : Ask). (k, a)) (rule_asks P c h part)) (rules_ask P (suc k) cs h part) a

-- what the looks along a history ask passes where what they ask at each of its parts does
looks_pass : (fits : Fraction → Type 0) (P : Problem) (c : Constraint) (before more : List Part)
    → crossing.AllPass fits (looks_ask (history_looks P c before))
    → ((front behind : List Part) (part : Part) → more ≡ front ++ part ∷ behind → crossing.AllPass fits (rule_asks P c (before ++ front) part))
    → crossing.AllPass fits (looks_ask (history_looks P c (before ++ more)))
looks_pass fits P c before [] a f = subst (λ (h : List Part). crossing.AllPass fits (looks_ask (history_looks P c h))) (sym (append-nil before)) a
looks_pass fits P c before (part ∷ more) a f =
    let here : crossing.AllPass fits (rule_asks P c before part) = subst (λ (h : List Part). crossing.AllPass fits (rule_asks P c h part)) (append-nil before) (f [] more part refl) in
    subst (λ (h : List Part). crossing.AllPass fits (looks_ask (history_looks P c h))) (append_assoc before (part ∷ []) more)
    (looks_pass fits P c (before ++ part ∷ []) more
    (subst (crossing.AllPass fits) (sym (looks_grow.asked P c before part)) (pass_append (crossing.Passes fits) (looks_ask (history_looks P c before)) (rule_asks P c before part) a here))
    (λ front behind next e. subst (λ (h : List Part). crossing.AllPass fits (rule_asks P c h next)) (sym (append_assoc before (part ∷ []) front)) (f (part ∷ front) behind next (ap (λ (ps : List Part). part ∷ ps) e))))

all_found : (fits : Fraction → Type 0) (P : Problem) (L : Plan) (h : List Part) → Prefix P L h → (k : ℕ) (cs : List Constraint)
    → ((before behind : List Part) (part : Part) → h ≡ before ++ part ∷ behind → AllPass fits (rules_ask P k cs before part))
    → All (λ (c : Constraint). IsFound P h c (found_along P c h)) cs
all_found fits P L h p k [] f = All-nil (λ (c : Constraint). IsFound P h c (found_along P c h))
all_found fits P L h p k (c ∷ cs) f =
    All-cons (λ (c : Constraint). IsFound P h c (found_along P c h)) c cs
    (looks_tell fits P L h c p (looks_pass fits P c [] h (pass_none (crossing.Passes fits)) (λ front behind part e. first_asked fits P k c cs front part (f front behind part e))))
    (all_found fits P L h p (suc k) cs (λ before behind part e. others_asked fits P k c cs before part (f before behind part e)))

pub watch_tells : (fits : Fraction → Type 0) → WatchTells fits
watch_tells fits P L h cs p f = all_found fits P L h p 1 cs f
