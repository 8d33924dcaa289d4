-- `buckets::read_bucket` meets its contract. Assumes nothing.
use Rattle.std.proofs.Common.{◌≡◌, ◌+◌, ◌*◌, ◌-◌, get_or, ◌∙◌, arith, rules}
use Rattle.buckets.specs.Buckets.{bucket_at, listed, cell_at, empty_cell}
use Rattle.buckets.proofs.Lists.{four_listed, part_listed}
use Rattle.buckets.proofs.read_bucket.Goals as goal

pub returns : goal.returns
unfolding bucket_at
returns c =
    let ws = c.args.words.now in
    let ds = c.args.deltas.now in
    let b = c.args.b in
    let n : 8 * b + 8 - 8 * b ≡ 8 = omega arith in
    let d : c.copy_from_slice.new.self ≡ listed 8 (λ j. get_or ds (8 * b + j) 0) = c.copy_from_slice.ensures.after ∙ rw n (part_listed 8 ds (8 * b) (omega arith)) in
    let cs : c.from_fn.result ≡ listed 4 (λ j. cell_at ws (4 * b + j)) =
    four_listed (λ j. cell_at ws (4 * b + j)) c.from_fn.result empty_cell c.from_fn.ensures.items.long (search rules) (search rules) (search rules) (search rules) in
    rw (d, cs)
