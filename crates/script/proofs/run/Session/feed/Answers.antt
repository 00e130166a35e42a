use lib.ListN.{take}
use mathlib.Core.List.{append-nil}
use mathlib.Core.Path.{refl}
use Rattle.script.proofs.run.Runs.{goes_on, goes-text, goes-open}
use Rattle.script.proofs.run.Session.feed.Goals as goal

pub returns-in_default : goal.returns-in_default
returns-in_default c =
    let opened = goes-open c.loop-out.self (record { reader = c.read_on.new.self; board = c.loop-out.self.board }) c.args.piece.now c.loop-out.next c.loop-out.log refl c.in_default.ensures in
    record {
      goes = goes-text (append-nil (take c.loop-out.used c.loop-out.out)) (goes_on c.loop-out.invariant.5 opened);
      within = c.loop-out.invariant.0;
      further = λ g e. e;
    }
