use Rattle.board.proofs.stay.Bands.{rows-small}
use Rattle.board.proofs.steady.Steadying.{holds-steady}
use Rattle.board.proofs.steady.steady.Goals as goal

pub new-band-requires : goal.new-band-requires
new-band-requires c = record { small = rows-small 0 _ _ c.requires.events_value; one = c.requires.band_in_bounds }

pub returns : goal.returns
returns c = holds-steady _ _
    (record {
      valid = c.args.follower.valid;
      master = c.args.master.valid;
      runs = c.if-t-eq-STOPPED.false;
      leads = c.if-m-eq-STOPPED.false;
      pairs = c.requires.events_value;
      band = c.requires.band_in_bounds;
    })
    _ (rw (← c.new-band.ensures.0, ← c.new-band.ensures.1) c.within.ensures)
