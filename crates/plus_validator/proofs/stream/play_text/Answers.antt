use Rattle.std.proofs.Common.{ap, refl}
use Rattle.plus_plan.specs.Pending.{Pending}
use Rattle.plus_play.proofs.StreamLemmas.{fresh_so}
use Rattle.plus_validator.proofs.PlayingLemmas.{fresh_can, fresh_played}
use Rattle.plus_validator.proofs.Endings.{plays_through, fits_through, keeps_through}
use Rattle.plus_validator.proofs.stream.play_text.Goals as goal

pub play_bytes-requires-clause-can : goal.play_bytes-requires-clause-can
play_bytes-requires-clause-can g c = fresh_can g.T.Teller.told g.T.Teller.telling _ c.args.playing.now c.requires.expands c.requires.fresh

pub play_bytes-requires-clause-begun : goal.play_bytes-requires-clause-begun
play_bytes-requires-clause-begun g c = fresh_played g.T.Teller.told g.T.Teller.telling g.T.Teller.kept _ _ _ c.args.playing.now _ c.requires.fresh

pub play_bytes-requires-clause-fresh : goal.play_bytes-requires-clause-fresh
play_bytes-requires-clause-fresh g c = fresh_so _ c.args.reader.now c.requires.reader

pub returns-clause-played : goal.returns-clause-played
returns-clause-played g c =
    plays_through g.T.Teller.told g.T.Teller.telling g.T.Teller.kept _ _ c.args.playing.now _ c.play_bytes.new.player _ c.args.reader.now.form (ap (λ (r : Pending). r.form) c.requires.reader) c.args.bytes.now
    c.play_bytes.result c.play_bytes.ensures.plays c.play_bytes.ensures.halts

pub returns-clause-fits : goal.returns-clause-fits
returns-clause-fits g c =
    fits_through g.T.Teller.told g.T.Teller.telling g.T.Teller.kept _ _ c.args.playing.now _ c.play_bytes.new.player _ c.args.reader.now.form (ap (λ (r : Pending). r.form) c.requires.reader) c.args.bytes.now
    c.play_bytes.result refl refl c.play_bytes.ensures.halts

pub returns-clause-keeps : goal.returns-clause-keeps
returns-clause-keeps g c =
    keeps_through g.T.Teller.told g.T.Teller.telling g.T.Teller.kept _ _ c.args.playing.now _ c.play_bytes.new.player _ c.args.reader.now.form (ap (λ (r : Pending). r.form) c.requires.reader) c.args.bytes.now
    c.play_bytes.result c.play_bytes.ensures.plays c.play_bytes.ensures.halts
