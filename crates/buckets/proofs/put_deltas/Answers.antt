-- `buckets::put_deltas` meets its contract. Assumes nothing.
use Rattle.std.proofs.Common.{◌≡◌, ◌+◌, ◌*◌, ◌-◌, ◌∙◌, arith, length-take, length-drop}
use Rattle.buckets.proofs.Stores.{deltas_copied}
use Rattle.buckets.proofs.put_deltas.Goals as goal

pub returns : goal.returns
returns c =
    let n : 8 * c.args.b + 8 - 8 * c.args.b ≡ 8 = omega arith in
    rw n (deltas_copied _ _ c.args.bucket _ c.copy_from_slice.ensures.after (c.copy_from_slice.ensures.len ∙ simp (length-take, length-drop) (omega arith)))
