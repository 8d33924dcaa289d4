-- `moving::move_cell` meets its contract. Assumes nothing.
use Rattle.cells.specs.Layout.{counts_of}
use Rattle.moving.specs.Slices.{held_in}
use Rattle.moving.proofs.Moving.{cell_behind, cell_zero, cell_inserted}
use Rattle.moving.proofs.move_cell.Goals as goal

pub returns-then-value : goal.returns-then-value
returns-then-value c = λ ds. cell_behind (held_in c.args.from.now ds) _ _ c.args.words.now c.args.deltas.now (counts_of c.args.live) _ c.value_at-value.ensures c.if-value.true

pub returns-then-hash-eq0 : goal.returns-then-hash-eq0
returns-then-hash-eq0 c = λ ds. cell_zero (held_in c.args.from.now ds) _ _ c.args.words.now c.args.deltas.now (counts_of c.args.live) _ c.value_at-value.ensures c.if-value.false _ c.hash_at-hash.ensures c.if-hash-eq0.true

pub returns : goal.returns
returns c = λ ds.
    rw c.end_after.ensures
    (cell_inserted (held_in c.args.from.now ds) _ _ c.args.words.now c.args.deltas.now (counts_of c.args.live) _ c.value_at-value.ensures c.if-value.false _ c.hash_at-hash.ensures c.if-hash-eq0.false _ c.key_at-key.ensures c.insert_stored-done.result _ _ c.insert_stored-done.ensures.done)
