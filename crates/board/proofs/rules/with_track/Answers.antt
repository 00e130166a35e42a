use Prim.Native.Nat.{ℕ, ◌+◌, ◌<◌}
use Rattle.board.proofs.rules.Present.{with-track-fits, bit_is}
use mathlib.Core.Path.{ap, subst⁻¹}
use Rattle.board.proofs.rules.with_track.Goals as goal

pub overflow_add-result : goal.overflow_add-result
overflow_add-result c = record {
  fits = subst⁻¹ (λ (m : ℕ). c.args.present + m < 65536) (bit_is c.args.track c.requires.track_lt_track_count)
      (with-track-fits c.args.present c.args.track c.ranges.present.fits c.requires.track_lt_track_count c.requires.track_value);
}

pub returns : goal.returns
returns c = ap (λ (m : ℕ). c.args.present + m) (bit_is c.args.track c.requires.track_lt_track_count)
