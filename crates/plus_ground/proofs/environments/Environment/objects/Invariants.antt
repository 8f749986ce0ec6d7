use Rattle.std.proofs.Common.{◌≡◌, ℕ, List, map, take}
use Rattle.plus_ground.proofs.environments.Environment.objects.Given as goal

-- the objects of the variables so far
abbrev pub invariant-bound : goal.invariant-bound
invariant-bound l = l.objects.items ≡ map (λ (b : List ℕ × ℕ). b.1) (map (λ b. (b.name.now, b.object)) (take l.bound-index l.bound-items))
