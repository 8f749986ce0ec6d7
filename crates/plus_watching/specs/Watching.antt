-- What one who watches constraints tells of a history.
use Rattle.std.specs.Prelude.{◌≡◌, ℕ, List, []}
use Rattle.plus_model.specs.Terms.{Problem}
use Rattle.plus_state.specs.View.{Labels}
use Rattle.plus_validator.specs.Told.{Telling, silence_grows}
use Rattle.plus_watcher.specs.declared.rules.Rules.{Rules}
use Rattle.plus_watcher.specs.declared.watcher.Watcher.{Watcher}
use Rattle.plus_watcher.specs.Stands.{TellsOf, IsFirst}
use Rattle.plus_watching.specs.declared.telling.Observer.{Observer}

-- what is told, behind bytes that went to a sink
abbrev pub Seen : Type 0
Seen = List ℕ × Watcher

-- that is told, and nothing goes to a sink
abbrev pub watching : Labels → (P : Problem) → Telling P Seen
watching N P = record {
  Tells = λ L h told. (told.0 ≡ []) × TellsOf P h told.1;
  bytes = λ told. told.0;
  stays = λ L more closed h told p t. t;
  grows = λ L h more one other s t. silence_grows P L h more one.0 other.0 s.0 t.0;
}

-- of which this is told behind these bytes
abbrev pub watched_told : List ℕ → Observer → Seen
watched_told sent t = (sent, t.watcher)

-- it tells by its constraints
abbrev pub watched_kept : Observer → Rules
watched_kept t = t.watcher.rules

-- nothing is looked at yet
abbrev pub HasNoLook : Observer → Type 0
HasNoLook t = IsFirst t.watcher
