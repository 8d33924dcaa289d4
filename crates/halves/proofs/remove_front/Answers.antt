-- `halves::remove_front` meets its contract. Assumes nothing.
use mathlib.Core.Path.{refl, sym}
use Prim.Native.Nat.{◌*◌}
use lib.ListN.{take-append-drop}
use Rattle.halves.proofs.Leaving.{left_joined}
use Rattle.halves.proofs.Fronts.{part_within}
use Rattle.halves.proofs.remove_front.Goals as goal

pub returns : goal.returns
returns c = left_joined c.requires _ (part_within c.requires c.args.table _) c.args.table _ _ refl (sym (take-append-drop (2 * c.args.size) c.args.deltas.now)) c.remove.ensures
