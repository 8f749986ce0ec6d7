-- Tests in the order of evaluation: all of them pass, or one is the first that fails. Each layer gives its type of tests
-- and says when a test passes.
use Rattle.std.specs.Prelude.{◌≡◌, ◌⊎◌, List, [], ◌∷◌}

unfoldable pub AllPass : {T : Type 0} → (T → Type 0) → List T → Type 0
AllPass passes [] = Unit {0}
AllPass passes (t ∷ ts) = passes t × AllPass passes ts

-- m is the first test that fails: all in front of it pass
unfoldable pub FirstFailing : {T : Type 0} → (T → Type 0) → List T → T → Type 0
FirstFailing passes [] m = ⊥
FirstFailing passes (t ∷ ts) m = ((passes t → ⊥) × (m ≡ t)) ⊎ (passes t × FirstFailing passes ts m)

-- f makes of each test one of another layer that passes exactly where it does
pub record Carries {T U : Type 0} (f : T → U) (passes : T → Type 0) (passes' : U → Type 0) : Type 0 where
  pub there : (t : T) → passes t → passes' (f t)
  pub back : (t : T) → passes' (f t) → passes t

-- one test is the first that fails, and none is where all pass
pub record OneTest {T : Type 0} (passes : T → Type 0) : Type 0 where
  pub one : (ts : List T) (m k : T) → FirstFailing passes ts m → FirstFailing passes ts k → m ≡ k
  pub none : (ts : List T) (m : T) → AllPass passes ts → FirstFailing passes ts m → ⊥
